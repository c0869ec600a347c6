use Rattle.std.proofs.Common.{rules, ◌≡◌, ◌≢◌, ◌<◌, false, length, ap, ◌∙◌, subst, arith}
use Rattle.std.proofs.lemmas.List.{get_or_default}
use Rattle.gpa_space.specs.Space.{is_enabled, page_of}
use Rattle.gpa_space.specs.inside.OverlaysAt.{own_word, low_bits, Marks}
use Rattle.gpa_space.proofs.Visible.{keeps}
use Rattle.gpa_space.proofs.space.Space.set_overlay.Goals as goal

pub invariant_of-self : goal.invariant_of-self
invariant_of-self c =
    let xs = c.self.inside.registers.items in
    let words = c.self.inside.candidates.words.items in
    let once = c.mark.new.self.words.items in
    let twice = c.mark-then-is_empty.new.self.words.items in
    let o = c.overlay_of-overlay.result in
    let y = c.args.register in
    let on : o < length xs = search rules in
    let sparse : length c.self.inside.pages.items ≡ 0 = search rules in
    let before = c.new-before.ensures ∙ c.index.ensures ∙ get_or_default xs o c.index.result.now 0 on in
    let leaves =
    subst (λ p. Marks 128 words once (low_bits p) o false) (c.page.ensures ∙ ap page_of before) c.mark.ensures in
    let at = subst (λ p. Marks 128 once twice (low_bits p) o c.is_enabled.result)
    (c.page-then-is_empty.ensures ∙ ap page_of c.new-word.ensures) c.mark-then-is_empty.ensures in
    let comes = subst (λ b. Marks 128 once twice (low_bits (page_of y)) o b)
    (c.is_enabled.ensures ∙ ap is_enabled c.new-word.ensures) at in
    record {
      bound = search rules;
      dense = search rules;
      own = search rules;
      each = c.self.invariant.each;
      mapped = λ page i within. absurd (omega (arith, c.self.invariant.each));
      candidates = λ _. comes.many ∙ leaves.many ∙ c.self.invariant.candidates sparse;
      marked = λ _. keeps low_bits 128 xs words once twice o y on (c.self.invariant.marked sparse) leaves comes;
    }

pub invariant_of-self-else-is_empty : goal.invariant_of-self-else-is_empty
invariant_of-self-else-is_empty c =
    let xs = c.self.inside.registers.items in
    let words = c.self.inside.mapped.words.items in
    let once = c.mark-else-is_empty.new.self.words.items in
    let twice = c.mark-else-is_empty-2.new.self.words.items in
    let o = c.overlay_of-overlay.result in
    let y = c.args.register in
    let on : o < length xs = search rules in
    let before = c.new-before.ensures ∙ c.index.ensures ∙ get_or_default xs o c.index.result.now 0 on in
    let held : length c.self.inside.pages.items ≢ 0 = search rules in
    let leaves =
    subst (λ p. Marks 16 words once p o false)
    (c.page-else-is_empty.ensures ∙ ap page_of before) c.mark-else-is_empty.ensures in
    let at = subst (λ p. Marks 16 once twice p o c.is_enabled-else-is_empty.result)
    (c.page-else-is_empty-2.ensures ∙ ap page_of c.new-word.ensures) c.mark-else-is_empty-2.ensures in
    let comes = subst (λ b. Marks 16 once twice (page_of y) o b)
    (c.is_enabled-else-is_empty.ensures ∙ ap is_enabled c.new-word.ensures) at in
    record {
      bound = search rules;
      dense = search rules;
      own = search rules;
      each = comes.many ∙ leaves.many ∙ c.self.invariant.each;
      mapped = keeps own_word 16 xs words once twice o y on c.self.invariant.mapped leaves comes;
      candidates = λ sparse. absurd (held sparse);
      marked = λ sparse. absurd (held sparse);
    }
