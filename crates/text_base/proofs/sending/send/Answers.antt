use Rattle.std.proofs.Common.{◌≤◌, ◌-◌, length, arith, append-nil, take, drop, sym}
use Rattle.std.proofs.lemmas.List.{take-append-drop, drop_all, take_all, length-drop}
use Rattle.std.proofs.Math.Seq.{take-add}
use Rattle.std.proofs.KnownBytes.{Appends-trans, Appends-kept}
use Rattle.text_base.proofs.sending.send.Goals as goal

pub returns-in-Ok-eq0 : goal.returns-in-Ok-eq0
returns-in-Ok-eq0 g c =
    let none = rw c.in-Ok-eq0.field-0-test at c.in-Ok-eq0.ensures.bytes in
    let all = Appends-trans _ _ _ _ _ c.loop-at.invariant.1 none in (
      take c.loop-at.at c.args.bytes.now,
      drop c.loop-at.at c.args.bytes.now,
      rw append-nil at all,
      sym (take-append-drop c.loop-at.at c.args.bytes.now),
      λ h. cc,
    )

pub returns-in-Err : goal.returns-in-Err
returns-in-Err g c = (
  take c.loop-at.at c.args.bytes.now,
  drop c.loop-at.at c.args.bytes.now,
  Appends-kept _ _ _ _ c.loop-at.invariant.1 c.in-Err.ensures.bytes,
  sym (take-append-drop c.loop-at.at c.args.bytes.now),
  λ h. cc,
)

pub returns : goal.returns
returns g c = (
  take c.loop-at.at c.args.bytes.now,
  drop c.loop-at.at c.args.bytes.now,
  c.loop-at.invariant.1,
  sym (take-append-drop c.loop-at.at c.args.bytes.now),
  λ _. drop_all c.loop-at.at c.args.bytes.now (omega arith),
)

pub loop-at-preserved : goal.loop-at-preserved
loop-at-preserved g c =
    let xs = c.args.bytes.now in
    let at = c.loop-at.at in
    let long = length-drop at xs in
    let whole = take_all (length xs - at) (drop at xs) (omega arith) in
    let bound : c.in-Ok.n ≤ length (drop at xs) = rw whole at c.in-Ok.ensures.bound in (
      omega arith,
      rw (take-add at c.in-Ok.n xs)
          (Appends-trans _ _ _ _ _ c.loop-at.invariant.1 (rw whole at c.in-Ok.ensures.bytes)),
    )
