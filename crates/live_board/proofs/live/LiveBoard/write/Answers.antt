use Rattle.std.proofs.Common.{rules, ◌≡◌, inl, inr, true, false, List, [], ◌++◌, refl, sym, ap, ◌∙◌, subst, append-nil, Some}
use Rattle.std.specs.Option.{option_map_or}
use Rattle.board_terms.specs.declared.notices.Notice.{Notice}
use Rattle.synic_regs.specs.declared.register.Register.TheVariants.{Sim, Sief}
use Rattle.synic_regs.specs.Registers.{register_of}
use Rattle.synic_regs.proofs.Numbers.{have_their_numbers}
use Rattle.synic_board.specs.declared.event.Event.TheVariants.{Write}
use Rattle.live_board.specs.Acting.{IsRegisterWrite}
use Rattle.live_board.specs.Timers.{is_timer_register}
use Rattle.live_board.specs.inside.Kinds.{is_quiet_register}
use Rattle.live_board.proofs.Calm.{same-own, quiet-other, quiet-written}
use Rattle.live_board.proofs.Writes.{timer-written}
use Rattle.live_board.proofs.live.LiveBoard.write.Goals as goal

pub write_page-requires-clause-quiet : goal.write_page-requires-clause-quiet
write_page-requires-clause-quiet c =
    subst (λ n. option_map_or is_quiet_register (register_of n) true ≡ true) (sym c.if-register-eq-SIMP.true) refl

pub write_page-requires-then-register-eq-SIEFP-clause-quiet :
    goal.write_page-requires-then-register-eq-SIEFP-clause-quiet
write_page-requires-then-register-eq-SIEFP-clause-quiet c =
    subst (λ n. option_map_or is_quiet_register (register_of n) true ≡ true) (sym c.if-register-eq-SIEFP.true) refl

pub write_apart-requires : goal.write_apart-requires
write_apart-requires c =
    let none : option_map_or is_timer_register (register_of c.args.register) false ≡ false = search rules in
    same-own _ (Write c.args.vp c.args.register c.args.value)
    (quiet-other c.args.register c.if-register-eq-EOM.false none)

-- an empty list at the end, or before
short : (few many : List Notice) → many ≡ [] → few ≡ few ++ many
short few many none = sym (append-nil few) ∙ ap (λ l. few ++ l) (sym none)

long : (few many : List Notice) → few ≡ [] → many ≡ few ++ many
long few many none = ap (λ l. l ++ many) (sym none)

pub returns-then-register-eq-EOM-clause-written : goal.returns-then-register-eq-EOM-clause-written
returns-then-register-eq-EOM-clause-written c =
    subst (λ (ns : List Notice). IsRegisterWrite (register_of c.args.register) c.args.vp c.args.self.now
    (Write c.args.vp c.args.register c.args.value) c.end_message.new.self c.end_message.result 0 ns)
    (short c.end_message.new.notices c.args.many.now c.requires)
    (subst (λ n. IsRegisterWrite (register_of n) c.args.vp c.args.self.now
    (Write c.args.vp n c.args.value) c.end_message.new.self c.end_message.result 0
    c.end_message.new.notices) (sym c.if-register-eq-EOM.true) (c.end_message.ensures, refl))

pub returns-then-register-eq-EOM-clause-one : goal.returns-then-register-eq-EOM-clause-one
returns-then-register-eq-EOM-clause-one c = inr c.requires

pub returns-then-is_timer-clause-written : goal.returns-then-is_timer-clause-written
returns-then-is_timer-clause-written c =
    let timer : option_map_or is_timer_register (register_of c.args.register) false ≡ true = search rules in
    timer-written (register_of c.args.register) c.args.vp c.args.self.now
    (Write c.args.vp c.args.register c.args.value) _ _ _ _ timer c.write_timer.ensures.written

pub returns-then-register-eq-SIMP-clause-written : goal.returns-then-register-eq-SIMP-clause-written
returns-then-register-eq-SIMP-clause-written c =
    subst (λ (ns : List Notice). IsRegisterWrite (register_of c.args.register) c.args.vp c.args.self.now
    (Write c.args.vp c.args.register c.args.value) c.write_page.new.self c.write_page.result 0 ns)
    (long c.write_page.new.part c.write_page.new.notices c.write_page.ensures.empty)
    (subst (λ o. IsRegisterWrite o c.args.vp c.args.self.now
    (Write c.args.vp c.args.register c.args.value) c.write_page.new.self c.write_page.result 0
    c.write_page.new.notices) (subst (λ n. Some Sim ≡ register_of n) (sym c.if-register-eq-SIMP.true) refl)
    (c.write_page.ensures.page, refl))

pub returns-then-register-eq-SIMP-clause-one : goal.returns-then-register-eq-SIMP-clause-one
returns-then-register-eq-SIMP-clause-one c = inl c.write_page.ensures.empty

pub returns-then-register-eq-SIEFP-clause-written : goal.returns-then-register-eq-SIEFP-clause-written
returns-then-register-eq-SIEFP-clause-written c =
    subst (λ (ns : List Notice). IsRegisterWrite (register_of c.args.register) c.args.vp c.args.self.now
    (Write c.args.vp c.args.register c.args.value) c.write_page-then-register-eq-SIEFP.new.self
    c.write_page-then-register-eq-SIEFP.result 0 ns)
    (long c.write_page-then-register-eq-SIEFP.new.part c.write_page-then-register-eq-SIEFP.new.notices
    c.write_page-then-register-eq-SIEFP.ensures.empty)
    (subst (λ o. IsRegisterWrite o c.args.vp c.args.self.now
    (Write c.args.vp c.args.register c.args.value) c.write_page-then-register-eq-SIEFP.new.self
    c.write_page-then-register-eq-SIEFP.result 0
    c.write_page-then-register-eq-SIEFP.new.notices) (subst (λ n. Some Sief ≡ register_of n)
    (sym c.if-register-eq-SIEFP.true) refl)
    (c.write_page-then-register-eq-SIEFP.ensures.page, refl))

pub returns-then-register-eq-SIEFP-clause-one : goal.returns-then-register-eq-SIEFP-clause-one
returns-then-register-eq-SIEFP-clause-one c = inl c.write_page-then-register-eq-SIEFP.ensures.empty

pub returns-clause-written : goal.returns-clause-written
returns-clause-written c =
    let none : option_map_or is_timer_register (register_of c.args.register) false ≡ false = search rules in
    subst (λ (ns : List Notice). IsRegisterWrite (register_of c.args.register) c.args.vp c.args.self.now
    (Write c.args.vp c.args.register c.args.value) c.write_apart.new.self c.write_apart.result 0 ns)
    (short c.write_apart.new.notices c.args.many.now c.requires)
    (quiet-written (register_of c.args.register) c.args.vp c.args.self.now
    (Write c.args.vp c.args.register c.args.value) _ _ _
    (quiet-other c.args.register c.if-register-eq-EOM.false none)
    (λ e. c.if-register-eq-SIMP.false (sym ((have_their_numbers c.args.register Sim).0 e).1))
    (λ e. c.if-register-eq-SIEFP.false (sym ((have_their_numbers c.args.register Sief).0 e).1)) c.write_apart.ensures)

pub returns-clause-one : goal.returns-clause-one
returns-clause-one c = inr c.requires
