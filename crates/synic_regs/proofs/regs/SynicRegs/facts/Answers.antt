use Rattle.std.proofs.Common.{◌≡◌, true, arith, subst}
use Rattle.std.proofs.lemmas.List.{get_or_default}
use Rattle.synic_regs.specs.Regs.{is_legal}
use Rattle.synic_regs.specs.Ranges.{AreRegs}
use Rattle.synic_regs.proofs.regs.SynicRegs.facts.Goals as goal

pub returns : goal.returns
returns c =
    let sints = c.self.inside.sints in
    record {
      ranges = subst AreRegs c.self.view_is record {
        control = omega arith;
        sief = omega arith;
        sim = omega arith;
        sixteen = c.are_words.ensures.count;
        sources = λ k d within. (
          c.are_words.ensures.words k d within,
          subst (λ word. is_legal word ≡ true) (get_or_default sints k 0 d within)
              (c.self.invariant.legal k (omega (arith, within, c.are_words.ensures.count))),
        );
      };
    }
