use Rattle.std.proofs.Common.{◌≡◌, vec_len, ap, sym, ◌∙◌, arith}
use Rattle.std.specs.List.{sum_by}
use Rattle.text_crew.proofs.Counting.{open_of, no-steps, entries-are, tells}
use Rattle.text_crew.proofs.held.CrewScript.has_room.Goals.{in-Actor, in-Setup, in-Setup-2}
use Rattle.text_crew.proofs.held.CrewScript.has_room.Goals as goal

pub returns : goal.returns
returns c =
    let steps : c.match-self.open ≡ open_of c.args.self.now.section = elim c.match-self.branch [
      | in-Actor w ↦ w.open-is ∙ w.len-open.ensures ∙ ap open_of (sym w.in-Actor.is)
      | in-Setup w ↦ w.open-is ∙ no-steps c.args.self.now w.in-Setup.is
      | in-Setup-2 w ↦ w.open-is ∙ no-steps c.args.self.now w.in-Setup.is
    ] in
    let all = entries-are c.args.self.now in
    let same = ap (sum_by (λ s. vec_len s)) c.as_slice.ensures.value in
    tells c.fit.result _ 65536
    (λ yes. let fits = c.fit.ensures.0 yes in
    omega (arith, fits, same, all, steps, c.if-open-left.false, c.len-2.ensures, c.from-last.ensures))
    (λ bound. c.fit.ensures.1
    (omega (arith, bound, same, all, steps, c.if-open-left.false, c.len-2.ensures, c.from-last.ensures)))
