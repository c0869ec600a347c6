-- Lines and sections that are written in parts.
use Rattle.std.proofs.Common.{◌≡◌, ℕ, List, [], ◌∷◌, ◌++◌, append_assoc, append-nil, sym, ap, ◌∙◌}
use Rattle.text_base.specs.Fields.{spaced, line_of}
use Rattle.text_lines.specs.Printing.{text_of}
use Rattle.text_lines.proofs.PrintLemmas.{text_of-append}
use Rattle.text_image.specs.declared.pages.PageName.{PageName}
use Rattle.text_image.specs.declared.pages.PageName.TheVariants.{Guest, Own}
use Rattle.text_image.specs.Image.{Lines, name_fields}

-- the name of a page, and two more fields
pub name-first : (name : PageName) (x y : List ℕ)
    → line_of (name_fields name ++ (x ∷ y ∷ [])) ≡ spaced (name_fields name) ++ 32 ∷ (x ++ 32 ∷ (y ++ 10 ∷ []))
name-first (Guest number) x y = simp append_assoc
name-first (Own p k) x y = simp append_assoc

-- two sections
pub both : (a b : Lines) (start so_far next : List ℕ) → so_far ≡ start ++ text_of a → next ≡ so_far ++ text_of b
    → next ≡ start ++ text_of (a ++ b)
both a b start so_far next before here =
    here ∙ ap (λ (x : List ℕ). x ++ text_of b) before ∙ append_assoc start (text_of a) (text_of b)
    ∙ ap (λ (x : List ℕ). start ++ x) (sym (text_of-append a b))

-- three texts, one after another
pub in_turn : (a b c start x0 x1 out : List ℕ) → x0 ≡ start ++ a → x1 ≡ x0 ++ b → out ≡ x1 ++ c
    → out ≡ start ++ (a ++ (b ++ c))
in_turn a b c start x0 x1 out h0 h1 h2 = rw (h2, h1, h0) (simp append_assoc)

-- twelve fields in six parts, with a text between two fields and one at the end
parts : (start space feed head number q0 q1 q2 q3 s0 s1 s2 s3 priority status : List ℕ) →
    (((((start ++ head) ++ (space ++ number))
    ++ (space ++ (q0 ++ (space ++ (q1 ++ (space ++ (q2 ++ (space ++ q3)))))))) ++
    (space ++ (s0 ++ (space ++ (s1 ++ (space ++ (s2 ++ (space ++ s3)))))))) ++ (space ++ priority))
    ++ (space ++ (status ++ feed))
    ≡ start ++ (((head ++ (space ++ (number ++ (space ++ (q0 ++
    (space ++ (q1
    ++ (space
    ++ (q2
    ++ (space
    ++ (q3
    ++ (space
    ++ (s0
    ++ (space
    ++ (s1 ++ (space ++ (s2 ++ (space ++ (s3 ++ (space ++ (priority ++ (space ++ status))))))))))))))))))))))
    ++ feed) ++ [])
parts start space feed head number q0 q1 q2 q3 s0 s1 s2 s3 priority status = simp (append_assoc, append-nil)

-- a local APIC
pub lapic-row : (start head number q0 q1 q2 q3 s0 s1 s2 s3 priority status x0 x1 x2 x3 x4 out : List ℕ) →
    x0 ≡ start ++ head → x1 ≡ x0 ++ 32 ∷ number → x2 ≡ x1 ++ 32 ∷ (q0 ++ 32 ∷ (q1 ++ 32 ∷ (q2 ++ 32 ∷ q3)))
    → x3 ≡ x2 ++ 32 ∷ (s0 ++ 32 ∷ (s1 ++ 32 ∷ (s2 ++ 32 ∷ s3))) →
    x4 ≡ x3 ++ 32 ∷ priority → out ≡ x4 ++ 32 ∷ (status ++ 10 ∷ []) →
    out ≡ start ++ text_of ((head ∷ number ∷ q0 ∷ q1 ∷ q2 ∷ q3 ∷ s0 ∷ s1 ∷ s2 ∷ s3 ∷ priority ∷ status ∷ []) ∷ [])
lapic-row start head number q0 q1 q2 q3 s0 s1 s2 s3 priority status x0 x1 x2 x3 x4 out h0 h1 h2 h3 h4 h5 =
    rw (h5, h4, h3, h2, h1, h0) (parts start (32 ∷ []) (10 ∷ []) head number q0 q1 q2 q3 s0 s1 s2 s3 priority status)

-- all sections, from the head to the end line
pub in_order : (head a b c d e f g h last : Lines)
    → ((((((((head ++ a) ++ b) ++ c) ++ d) ++ e) ++ f) ++ g) ++ h) ++ last
    ≡ head ++ ((a ++ (b ++ (c ++ (d ++ (e ++ (f ++ (g ++ h))))))) ++ last)
in_order head a b c d e f g h last = simp append_assoc

pub sections : (head a b c d e f g h last : Lines) (start x0 x1 x2 x3 x4 x5 x6 x7 x8 out : List ℕ) →
    x0 ≡ start ++ text_of head → x1 ≡ x0 ++ text_of a → x2 ≡ x1 ++ text_of b → x3 ≡ x2 ++ text_of c
    → x4 ≡ x3 ++ text_of d → x5 ≡ x4 ++ text_of e →
    x6 ≡ x5 ++ text_of f → x7 ≡ x6 ++ text_of g → x8 ≡ x7 ++ text_of h → out ≡ x8 ++ text_of last →
    out ≡ start ++ text_of (head ++ ((a ++ (b ++ (c ++ (d ++ (e ++ (f ++ (g ++ h))))))) ++ last))
sections head a b c d e f g h last start x0 x1 x2 x3 x4 x5 x6 x7 x8 out h0 h1 h2 h3 h4 h5 h6 h7 h8 h9 =
    both _ _ start x8 out (both _ _ start x7 x8 (both _ _ start x6 x7
    (both _ _ start x5 x6 (both _ _ start x4 x5
    (both _ _ start x3 x4 (both _ _ start x2 x3 (both _ _ start x1 x2 (both _ _ start x0 x1 h0 h1) h2) h3) h4)
    h5) h6) h7) h8) h9
    ∙ ap (λ (lines : Lines). start ++ text_of lines) (in_order head a b c d e f g h last)
