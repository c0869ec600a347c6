use Rattle.std.proofs.Common.{rules, ◌≡◌, ◌*◌, length, replicate, ap, sym, ◌∙◌}
use Rattle.std.proofs.lemmas.List.{length-replicate}
use Rattle.gpa_space.specs.inside.OverlaysAt.{own_word, low_bits}
use Rattle.gpa_space.proofs.Visible.{opens}
use Rattle.gpa_space.proofs.space.Space.open.Goals as goal

pub invariant_of-result : goal.invariant_of-result
invariant_of-result c =
    let registers : c.in_ok-registers.registers.items ≡ replicate (2 * c.args.processors) 0 = search rules in
    record {
      bound = search rules;
      dense = search rules;
      own = ap length c.in_ok-own.ensures ∙ length-replicate _ _ ∙ sym (ap length registers ∙ length-replicate _ _);
      each = ap length c.in_ok-mapped.ensures ∙ length-replicate _ _
          ∙ sym (ap length c.in_ok-pages.ensures ∙ length-replicate _ _);
      mapped = rw (registers, c.in_ok-mapped.ensures) (opens own_word 16 _ _);
      candidates = search rules;
      marked = λ sparse. rw (registers, c.in_ok-candidates.ensures) (opens low_bits 128 _ _);
    }
