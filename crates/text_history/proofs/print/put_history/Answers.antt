use Rattle.std.proofs.Common.{◌<◌, length, List, subst, arith}
use Rattle.std.specs.List.{All}
use Rattle.std.proofs.lemmas.List.{take_all}
use Rattle.std.proofs.lemmas.List.Elements.{All-more}
use Rattle.synic_board.specs.declared.history.Entry.{Entry}
use Rattle.text_history.specs.declared.format.Format.TheVariants.{Three}
use Rattle.text_history.specs.Trace.{IsEntry}
use Rattle.text_history.proofs.PrintLemmas.{history-step}
use Rattle.text_history.proofs.print.put_history.Goals as goal

pub loop-entry-preserved : goal.loop-entry-preserved
loop-entry-preserved c =
    let history = c.args.history.now in
    let i = c.loop-entry.entry-index in
    let e = c.entry-item.result in
    let inside : i < length history = omega arith in (
      history-step history i e c.loop-entry.out.items _ _ inside c.entry-item.is c.in_ok-put_entry.ensures.written
          c.loop-entry.invariant.0,
      All-more (IsEntry Three) history i e inside c.loop-entry.invariant.1
          (subst (IsEntry Three) c.entry-item.is c.in_ok-put_entry.ensures.fits),
    )

pub returns-clause-fits : goal.returns-clause-fits
returns-clause-fits c =
    subst (λ (xs : List Entry). All (IsEntry Three) xs)
    (take_all c.loop-entry.entry-index c.args.history.now (omega arith)) c.loop-entry.invariant.1
