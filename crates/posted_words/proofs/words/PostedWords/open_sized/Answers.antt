use Rattle.std.proofs.Common.{rules, ◌≡◌, ◌+◌, ◌*◌, ◌<◌, [], ◌∷◌, replicate, sym, subst, arith, List, ℕ}
use Rattle.atomic_table.specs.Table.{opening}
use Rattle.posted_words.specs.inside.Posted.{Posted, view_of}
use Rattle.posted_words.proofs.Seats.{opens}
use Rattle.posted_words.proofs.words.PostedWords.open_sized.Goals as goal

pub of_words-requires : goal.of_words-requires
of_words-requires c =
    let n : ℕ = 4 * c.from-2.result in
    let tokens : ℕ = c.from-3.result + c.from-4.result in
    let some : 0 < tokens = omega (arith, c.from-3.ensures, c.requires.some_sweeper) in
    let zeros : c.as_slice.result.now ≡ replicate n 0 = search rules in
    subst (λ (words : List ℕ). Posted (n, tokens) (opening words [] (view_of tokens ([] ∷ [])))) (sym zeros)
    (opens n tokens some)
