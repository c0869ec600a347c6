use Rattle.std.proofs.Common.{◌≡◌, [], ◌∷◌, ◌++◌, append_assoc, ap, ◌∙◌}
use Rattle.entry_log.specs.Log.{Log}
use Rattle.entry_log.specs.inside.Compact.{event_bytes, reply_bytes, entries_in}
use Rattle.entry_log.specs.declared.compact.CompactEntry.{CompactEntry}
use Rattle.entry_log.proofs.Reading.{entries-push, entry-whole}
use Rattle.entry_log.proofs.log.EntryLog.push.Goals as goal

pub returns : goal.returns
returns c =
    let bytes = c.self.inside.bytes.items in
    let es = c.self.inside.compact.items in
    let front = event_bytes c.args.event.now in
    let behind = reply_bytes c.args.reply.now in
    let e : CompactEntry = record { actor = c.args.actor; event = c.of.result; reply = c.of-2.result } in
    let all : c.append-2.new.to.items ≡ bytes ++ (front ++ behind) =
    c.append-2.ensures.items
    ∙ (λ i. (c.append.ensures.items ∙ (λ j. bytes ++ c.bytes_of_event.ensures.value j)) i
    ++ c.bytes_of_reply.ensures.value i)
    ∙ append_assoc bytes front behind in
    let whole = entry-whole c.args.actor c.args.event.now c.args.reply.now c.of.result c.of-2.result c.of.ensures.same
    c.of.ensures.count c.of-2.ensures.same c.of-2.ensures.count in
    let was = ap (λ (l : Log). l.entries) c.self.view_is in
    (λ i. entries_in (all i) (c.push_reserved.ensures.items i))
    ∙ entries-push bytes (front ++ behind) es e c.self.invariant.whole
    ∙ (λ i. was i ++ whole i ∷ [])
