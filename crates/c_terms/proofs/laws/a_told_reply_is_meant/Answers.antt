use Rattle.std.proofs.Common.{◌≡◌, ℕ, ◌≤◌, ◌-◌, List, length, length-append, take, take_at, replicate, Some, None, refl, ap, ◌∙◌, le-ltb, arith, nat_lt, ◌||◌, Bool, cond}
use Rattle.std.specs.Option.{option_map}
use Rattle.arrayvec.specs.ArrayVec.{ArrayVec}
use Rattle.board_terms.specs.Numbers.{refusal_number}
use Rattle.board_terms.specs.declared.refusal.Refusal.{Refusal}
use Rattle.board_terms.specs.declared.refusal.Refusal.TheVariants as refusals
use Rattle.synic_board.specs.declared.event.Reply.{Reply}
use Rattle.synic_board.specs.declared.event.Reply.TheVariants.{Done, Value, Bytes, Taken, Accepted, FlagWasClear, FlagWasSet, GeneralProtection, Refused}
use Rattle.c_terms.specs.Events.{bytes_from_c}
use Rattle.c_terms.specs.Replies.{IsReplyInRange, padded, refusal_from_c, reply_to_c, reply_from_c}
use Rattle.c_terms.proofs.laws.a_told_reply_is_meant.Goals as goal

padded-meant : (bytes : ArrayVec ℕ) → length bytes.items ≤ 8
    → bytes_from_c 8 (padded bytes.items) (length bytes.items) ≡ Some bytes
padded-meant bytes bound =
    let zeros = replicate (8 - length bytes.items) 0 in
    let whole = padded bytes.items in
    ap (λ (b : Bool). cond (b || nat_lt (length whole) (length bytes.items)) None
    (Some (record { items = take (length bytes.items) whole }))) (le-ltb 8 (length bytes.items) bound)
    ∙ ap (λ (b : Bool). cond b None (Some (record { items = take (length bytes.items) whole })))
    (le-ltb (length whole) (length bytes.items) (omega (arith, length-append bytes.items zeros)))
    ∙ ap (λ (xs : List ℕ). Some (record { items = xs })) (take_at bytes.items zeros (length bytes.items) refl)

refusal-meant : (refusal : Refusal) → refusal_from_c (refusal_number refusal) ≡ Some refusal
refusal-meant refusals.UnknownPort = refl
refusal-meant refusals.PortOpen = refl
refusal-meant refusals.WrongKind = refl
refusal-meant refusals.BadTarget = refl
refusal-meant refusals.BadType = refl
refusal-meant refusals.BadFlag = refl
refusal-meant refusals.SynicOff = refl
refusal-meant refusals.NoBuffers = refl
refusal-meant refusals.TicketsSpent = refl
refusal-meant refusals.ClockBack = refl
refusal-meant refusals.OutsideSpace = refl
refusal-meant refusals.CrossesPage = refl
refusal-meant refusals.BadLength = refl
refusal-meant refusals.NoSuchProcessor = refl
refusal-meant refusals.AlreadySuspended = refl
refusal-meant refusals.NotSuspended = refl
refusal-meant refusals.Elsewhere = refl

told-meant : (reply : Reply) (notices : ℕ) → IsReplyInRange reply → reply_from_c (reply_to_c reply notices) ≡ Some reply
told-meant Done n h = refl
told-meant (Value value) n h = refl
told-meant (Bytes bytes) n h = ap (option_map Bytes) (padded-meant bytes h)
told-meant (Taken (Some vector)) n h =
    ap (λ (b : Bool). option_map (λ (v : ℕ). Taken (Some v)) (cond b None (Some vector))) (le-ltb vector 16 h)
told-meant (Taken None) n h = refl
told-meant (Accepted ticket) n h = refl
told-meant FlagWasClear n h = refl
told-meant FlagWasSet n h = refl
told-meant GeneralProtection n h = refl
told-meant (Refused refusal) n h = ap (option_map Refused) (refusal-meant refusal)

pub returns : goal.returns
returns c = told-meant
