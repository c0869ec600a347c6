-- Probes of the slots of a message page, one after another.
use Rattle.std.proofs.Common.{◌≡◌, ◌≢◌, ◌⊎◌, inl, inr, ℕ, suc, ◌+◌, ◌*◌, ◌/◌, ◌%◌, ◌^◌, ◌<◌, ◌≤◌, true, false, List, [], ◌++◌, length, get_or, set, refl, sym, ap, ◌∙◌, subst, arith, append_assoc, length-append, length-set}
use Rattle.std.specs.Prelude.{bit_or}
use Rattle.std.proofs.lemmas.Bool.{cases_eq}
use Rattle.std.proofs.lemmas.List.{get_or-set_same, get_or-set_other}
use Rattle.board_terms.specs.declared.notices.Notice.{Notice}
use Rattle.board_terms.specs.declared.pages.Kind.TheVariants.{Sim}
use Rattle.synic_board.specs.State.{State}
use Rattle.live_pages.specs.Words.{known, type_of, is_pending}
use Rattle.live_pages.specs.declared.access.Access.{Access}
use Rattle.live_pages.proofs.Bits.{or-set}
use Rattle.live_board.proofs.Watched.{unwatched}
use Rattle.live_board.specs.Words.{word_of}
use Rattle.live_board.specs.Live.{is_waiting, ProbesIf, AreProbes}
use Rattle.live_board.specs.inside.Parts.{IsShadow, IsLook, IsMark, IsLeft, IsProbed, IsProbing}
use Rattle.live_board.proofs.Joined.{watched-then, renoted}
use Rattle.live_board.proofs.Part.{bit-set}

-- a look, which finds the slot empty or marked
pub probed-one : (s : State) (p i : ℕ) (log : List Access) (now : State) (log-now : List Access) (found : ℕ)
    (before after : List Notice) → IsLook s p Sim (32 * i) log now log-now found before after → (type_of found ≡ 0)
    ⊎ (is_pending found ≡ true)
    → IsProbed s p i log now log-now found before after
probed-one s p i log now log-now found before after look exact = record {
  emitted = look.emitted;
  notices = look.notices;
  few = omega (arith, look.few);
  watched = look.watched;
  probe = (found, inl (look.news, exact));
  words = λ x ne. look.word.others (2 * p) x (inr ne);
  here = look.here;
  others = look.others;
  exact = by exact;
}
  where
    by : (type_of found ≡ 0) ⊎ (is_pending found ≡ true) → IsLeft true (word_of now (2 * p) (32 * i)) found
    by (inl empty) = inl (ap type_of look.word.here ∙ empty, empty)
    by (inr marked) =
        inr (sym (or-set found 40 (bit-set found marked)) ∙ ap (λ n. bit_or n (2 ^ 40)) (sym look.word.here))

-- a look, and a mark
pub probed-two : (s mid now : State) (p i : ℕ) (log log-mid log-now : List Access) (first found : ℕ)
    (before between after : List Notice) → IsLook s p Sim (32 * i) log mid log-mid first before between
    → type_of first ≢ 0 → is_pending first ≡ false
    → IsMark mid p Sim (32 * i) (2 ^ 40) log-mid now log-now found between after
    → IsProbed s p i log now log-now (bit_or found (2 ^ 40)) before after
unfolding watched-then
probed-two s mid now p i log log-mid log-now first found before between after look full clear mark = record {
  emitted = look.emitted ++ mark.emitted;
  notices = mark.notices ∙ ap (λ ns. ns ++ mark.emitted) look.notices ∙ append_assoc before look.emitted mark.emitted;
  few = omega (arith, look.few, mark.few, length-append look.emitted mark.emitted);
  watched = watched-then s mid now p Sim log log-mid log-now look.emitted mark.emitted look.watched mark.watched;
  probe = (first, inr (found, (λ j. mark.news j ++ look.news j), full, clear));
  words = λ x ne. mark.word.others (2 * p) x (inr ne) ∙ look.word.others (2 * p) x (inr ne);
  here = mark.here;
  others = λ x ne. mark.others x ne ∙ look.others x ne;
  exact = inr (ap (λ n. bit_or n (2 ^ 40)) (sym mark.word.here));
}

pub probing-start : (s : State) (p : ℕ) (log : List Access) (words : List ℕ) (notices : List Notice) → notices ≡ []
    → IsShadow s (2 * p) log → length words ≡ 512 → ((x : ℕ) → x < 512 → get_or words x 0 ≡ word_of s (2 * p) x)
    → IsProbing s p log s log words notices 0
unfolding unwatched
probing-start s p log words notices none shadow count are = record {
  watched = unwatched s p Sim log notices none;
  probes = refl;
  few = omega (arith, ap length none);
  count = count;
  knows = λ x low. shadow x low ∙ sym (are x low);
  fresh = λ x low _. shadow x low;
  exact = λ i low. absurd (omega (arith, low));
}

-- whether a source waits depends on neither own pages nor tickets of slots
pub rest-waiting : (s now : State) (p i : ℕ) → now ≡ record s { own = now.own; slots = now.slots }
    → is_waiting now p i ≡ is_waiting s p i
rest-waiting s now p i rest = ap (λ t. is_waiting t p i) rest

-- a source that does not wait
pub probing-skip : (s now : State) (p : ℕ) (log log-now : List Access) (words : List ℕ) (notices : List Notice)
    (n : ℕ) → n < 16 → IsProbing s p log now log-now words notices n → is_waiting now p n ≡ false
    → IsProbing s p log now log-now words notices (n + 1)
probing-skip s now p log log-now words notices n under h none = record {
  watched = h.watched;
  probes = subst (λ m. AreProbes s p m h.watched.news) (let e : suc n ≡ n + 1 = omega arith in e)
      ([], h.watched.news, refl, subst (λ b. ProbesIf b n []) (sym idle) refl, h.probes);
  few = omega (arith, h.few);
  count = h.count;
  knows = h.knows;
  fresh = λ x low which. h.fresh x low
      (elim which as (λ _. (x % 32 ≢ 0) ⊎ (n ≤ x / 32)) [ inl ne ↦ inl ne | inr le ↦ inr (omega (arith, le)) ]);
  exact = λ i low. by i low (cases_eq i n);
}
  where
    idle : is_waiting s p n ≡ false
    idle = sym (rest-waiting s now p n h.watched.rest) ∙ none

    by : (i : ℕ) → i < n + 1 → (i ≡ n) ⊎ (i ≢ n)
        → IsLeft (is_waiting s p i) (word_of now (2 * p) (32 * i)) (known log-now (32 * i))
    by i low (inl e) =
        subst (λ k. IsLeft (is_waiting s p k) (word_of now (2 * p) (32 * k)) (known log-now (32 * k))) (sym e)
        (subst (λ b. IsLeft b (word_of now (2 * p) (32 * n)) (known log-now (32 * n))) (sym idle)
        (h.fresh (32 * n) (omega (arith, under)) (inr (omega arith))))
    by i low (inr ne) = h.exact i (omega (arith, low, ne))

-- one probe more
pub probing-more : (s mid now : State) (p : ℕ) (log log-mid log-now : List Access) (words : List ℕ) (left : ℕ)
    (before after : List Notice) (n : ℕ) → n < 16 → IsProbing s p log mid log-mid words before n
    → is_waiting mid p n ≡ true
    → IsProbed mid p n log-mid now log-now left before after
    → IsProbing s p log now log-now (set words (32 * n) left) after (n + 1)
unfolding renoted watched-then
probing-more s mid now p log log-mid log-now words left before after n under h waits one = record {
  watched = renoted s now p log log-now (before ++ one.emitted) after (sym one.notices)
      (watched-then s mid now p Sim log log-mid log-now before one.emitted h.watched one.watched);
  probes = subst (λ m. AreProbes s p m (one.watched.news ++ h.watched.news))
      (let e : suc n ≡ n + 1 = omega arith in e) (
        one.watched.news,
        h.watched.news,
        refl,
        subst (λ b. ProbesIf b n one.watched.news) (sym busy) one.probe,
        h.probes,
      );
  few = omega (arith, h.few, one.few, ap length one.notices, length-append before one.emitted);
  count = length-set words (32 * n) left ∙ h.count;
  knows = λ x low. knows x low (cases_eq x (32 * n));
  fresh = λ x low which. (let ne = apart x which in
      one.others x ne ∙ h.fresh x low
      (elim which as (λ _. (x % 32 ≢ 0) ⊎ (n ≤ x / 32)) [ inl odd ↦ inl odd | inr le ↦ inr (omega (arith, le)) ])
      ∙ sym (one.words x ne));
  exact = λ i low. by i low (cases_eq i n);
}
  where
    busy : is_waiting s p n ≡ true
    busy = sym (rest-waiting s mid p n h.watched.rest) ∙ waits

    knows : (x : ℕ) → x < 512 → (x ≡ 32 * n) ⊎ (x ≢ 32 * n) → known log-now x ≡ get_or (set words (32 * n) left) x 0
    knows x low (inl e) =
        ap (known log-now) e ∙ one.here ∙ sym (get_or-set_same words (32 * n) left 0 (omega (arith, under, h.count)))
        ∙ ap (λ k. get_or (set words (32 * n) left) k 0) (sym e)
    knows x low (inr ne) = one.others x ne ∙ h.knows x low ∙ sym (get_or-set_other words (32 * n) x left 0 ne)

    apart : (x : ℕ) → (x % 32 ≢ 0) ⊎ (n + 1 ≤ x / 32) → x ≢ 32 * n
    apart x (inl odd) e = odd (omega (arith, e))
    apart x (inr le) e = omega (arith, le, e)

    by : (i : ℕ) → i < n + 1 → (i ≡ n) ⊎ (i ≢ n)
        → IsLeft (is_waiting s p i) (word_of now (2 * p) (32 * i)) (known log-now (32 * i))
    by i low (inl e) =
        subst (λ k. IsLeft (is_waiting s p k) (word_of now (2 * p) (32 * k)) (known log-now (32 * k))) (sym e)
        (subst (λ b. IsLeft b (word_of now (2 * p) (32 * n)) (known log-now (32 * n))) (sym busy)
        (subst (IsLeft true (word_of now (2 * p) (32 * n))) (sym one.here) one.exact))
    by i low (inr ne) =
        let other : 32 * i ≢ 32 * n = λ e. ne (omega (arith, e)) in
        subst (λ w. IsLeft (is_waiting s p i) w (known log-now (32 * i))) (sym (one.words (32 * i) other))
        (subst (IsLeft (is_waiting s p i) (word_of mid (2 * p) (32 * i))) (sym (one.others (32 * i) other))
        (h.exact i (omega (arith, low, ne))))

-- the same probes
pub probing-at : (s now other : State) (p : ℕ) (log log-now log-other : List Access) (words items : List ℕ)
    (notices emitted : List Notice) (n : ℕ) → other ≡ now → log-other ≡ log-now → items ≡ words → emitted ≡ notices
    → IsProbing s p log now log-now words notices n
    → IsProbing s p log other log-other items emitted n
probing-at s now other p log log-now log-other words items notices emitted n a b c d h =
    subst (λ t. IsProbing s p log t log-other items emitted n) (sym a)
    (subst (λ l. IsProbing s p log now l items emitted n) (sym b)
    (subst (λ ws. IsProbing s p log now log-now ws emitted n) (sym c)
    (subst (λ ns. IsProbing s p log now log-now words ns n) (sym d) h)))
