use Rattle.std.proofs.Common.{◌≡◌, ◌+◌, ℕ, List, ◌++◌, length, map, sym, ap, ◌∙◌, subst, length-append}
use Rattle.std.proofs.lemmas.List.{length-map, map-append}
use Rattle.board_terms.specs.declared.notices.Notice.{Notice}
use Rattle.c_handles.specs.Kinds.{notices_in}
use Rattle.c_terms.specs.declared.notice.CNotice.{CNotice}
use Rattle.c_terms.specs.declared.reply.CReply.{CReply}
use Rattle.c_terms.specs.Events.{event_from_c}
use Rattle.c_terms.specs.Notices.{notice_to_c}
use Rattle.c_terms.specs.Replies.{reply_to_c}
use Rattle.c_terms.specs.Rooms.{Fronts}
use Rattle.c_calls.specs.Stepping.{IsStep}
use Rattle.c_calls.proofs.Steps.{of-event}
use Rattle.c_calls.proofs.stepping.step_in.Goals as goal

pub returns : goal.returns
returns c =
    let moved = c.advance-count.ensures in
    let first : List Notice = moved.0 in
    let more : List Notice = notices_in c.perform_struct.new.board in
    let given = c.notices-given.ensures.value in
    let count : ℕ = c.advance-count.result.0 + length c.notices-given.result.now in
    let replied = c.reply_to_c.ensures ∙ ap (λ (l : List Notice). reply_to_c c.in-Some.reply (length l)) given in
    let counted : count ≡ length (first ++ more) =
    ap (λ n. n + length c.notices-given.result.now) moved.2 ∙ ap (λ (l : List Notice). length first + length l) given
    ∙ sym (length-append first more) in
    let all : map notice_to_c first ++ map notice_to_c c.notices-given.result.now ≡ map notice_to_c (first ++ more) =
    ap (λ (l : List Notice). map notice_to_c first ++ map notice_to_c l) given
    ∙ sym (map-append notice_to_c first more) in
    let put = c.put_more.ensures (map notice_to_c first) c.args.room.now (length-map first notice_to_c ∙ sym moved.2)
    moved.4 in
    let fronts = subst (λ (l : List CNotice). Fronts l c.args.room.now c.put_more.new.room) all put in
    let step = of-event c.args.now (event_from_c c.args.plain.now) c.args.board.now c.advance-count.new.board
    c.perform_struct.new.board c.in-Some.reply first count c.advance-count.result.1 c.args.room.now
    c.put_more.new.room moved.1 c.in-Some.ensures.performed counted fronts in
    subst (λ (r : CReply). IsStep c.args.now (event_from_c c.args.plain.now) c.args.board.now
    c.perform_struct.new.board r count c.advance-count.result.1 c.eoms.result c.args.room.now c.put_more.new.room)
    (sym replied)
    (subst (λ n. IsStep c.args.now (event_from_c c.args.plain.now) c.args.board.now c.perform_struct.new.board
    (reply_to_c c.in-Some.reply (length more)) count c.advance-count.result.1 n c.args.room.now c.put_more.new.room)
    (sym c.eoms.ensures) step)
