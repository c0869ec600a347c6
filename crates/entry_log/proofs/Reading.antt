-- Entries whose bytes are stored one after another.
use Rattle.std.proofs.Common.{◌≡◌, ℕ, ◌+◌, ◌<◌, ◌≤◌, List, [], ◌∷◌, ◌++◌, length, get_or, take, drop, refl, suc, sym, ap, ◌∙◌, add-one, arith}
use Rattle.std.specs.List.{sum_by}
use Rattle.std.proofs.Math.Seq.{drop-cons}
use Rattle.std.proofs.lemmas.List.{length-drop, take-append-le, drop-append-le, take_all, take_at, drop_at}
use Rattle.std.proofs.lemmas.List.Sums.{sum_by-cons}
use Rattle.synic_board.specs.declared.event.Event.{Event}
use Rattle.synic_board.specs.declared.event.Reply.{Reply}
use Rattle.entry_log.specs.inside.Compact.{event_bytes, reply_bytes, event_count, reply_count, size, event_with, reply_with, entry_with, entries_in}
use Rattle.entry_log.specs.Log.{entry}
use Rattle.entry_log.specs.declared.compact.CompactEvent.{CompactEvent}
use Rattle.entry_log.specs.declared.compact.CompactReply.{CompactReply}
use Rattle.entry_log.specs.declared.compact.CompactEntry.{CompactEntry}

pub entries-length : (bytes : List ℕ) (es : List CompactEntry) → length (entries_in bytes es) ≡ length es
entries-length bytes [] = refl
entries-length bytes (e ∷ es) = omega (arith, entries-length (drop (size e) bytes) es)

-- an entry does not depend on the bytes after its own
entry-front : (bytes more : List ℕ) (e : CompactEntry) → size e ≤ length bytes
    → entry_with (bytes ++ more) e ≡ entry_with bytes e
entry-front bytes more e fits =
    let n = event_count e.event in
    let m = reply_count e.reply in
    let own = take-append-le n bytes more (omega arith) in
    let behind = drop-append-le n bytes more (omega arith) in
    let rest = ap (take m) behind ∙ take-append-le m (drop n bytes) more (omega (arith, length-drop n bytes)) in
    λ i. record { actor = e.actor; event = event_with (own i) e.event; reply = reply_with (rest i) e.reply }

no-bytes : (bytes : List ℕ) → 0 ≡ length bytes → bytes ≡ []
no-bytes [] none = refl
no-bytes (b ∷ bytes) none = absurd (omega arith)

-- one entry more, with its bytes at the end
pub entries-push : (bytes own : List ℕ) (es : List CompactEntry) (e : CompactEntry) → sum_by size es ≡ length bytes →
    entries_in (bytes ++ own) (es ++ e ∷ []) ≡ entries_in bytes es ++ entry_with own e ∷ []
entries-push bytes own [] e whole = ap (λ (l : List ℕ). entry_with (l ++ own) e ∷ []) (no-bytes bytes whole)
entries-push bytes own (x ∷ es) e whole =
    let sum = sum_by-cons size x es in
    let fits : size x ≤ length bytes = omega arith in
    let rest = entries-push (drop (size x) bytes) own es e (omega (arith, length-drop (size x) bytes)) in
    λ i. entry-front bytes own x fits i ∷
    (ap (λ (l : List ℕ). entries_in l (es ++ e ∷ [])) (drop-append-le (size x) bytes own fits) ∙ rest) i

-- the numbers and the bytes of an entry determine it
pub entry-whole : (actor : ℕ) (event : Event) (reply : Reply) (numbers : CompactEvent) (answer : CompactReply)
    → event_with (event_bytes event) numbers ≡ event → event_count numbers ≡ length (event_bytes event)
    → reply_with (reply_bytes reply) answer ≡ reply → reply_count answer ≡ length (reply_bytes reply)
    → entry_with (event_bytes event ++ reply_bytes reply) (record { actor = actor; event = numbers; reply = answer })
    ≡ entry actor event reply
entry-whole actor event reply numbers answer same count same_reply count_reply =
    let front = event_bytes event in
    let behind = reply_bytes reply in
    let own = take_at front behind (event_count numbers) (sym count) in
    let rest = ap (take (reply_count answer)) (drop_at front behind (event_count numbers) (sym count))
    ∙ take_all (reply_count answer) behind (omega arith) in
    λ i. record {
      actor = actor;
      event = (ap (λ (l : List ℕ). event_with l numbers) own ∙ same) i;
      reply = (ap (λ (l : List ℕ). reply_with l answer) rest ∙ same_reply) i;
    }

-- from an entry to the next
pub next : (es : List CompactEntry) (i : ℕ) (e : CompactEntry) → i < length es → e ≡ get_or es i e
    → drop i es ≡ e ∷ drop (i + 1) es
next es i e lt at = rw (add-one, drop-cons es i e lt) (λ j. sym at j ∷ drop (suc i) es)
