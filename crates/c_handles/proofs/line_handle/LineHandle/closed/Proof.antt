-- A closed handle owns nothing.
use Rattle.c_handles.proofs.Steps.{false, [], ◌⊛◌, ◌∷◌, refl, lit<, emp, ftrue, Val, ‵, raw, ◌$◌, ◌∵◌, !, qed, by, keep, use0, enter, lit, false_lit, no_more, and_then, returns, alloc_all, pass_all, free_all, look_at, sets, agg, fact, fact_i, Stays, walk_of, nothing, proved_at, leaves, ◌≡◌, null_ptr}
use Rattle.std.specs.Prelude.{None}
use Rattle.c_handles.specs.declared.line_handle.LineHandle.{LineHandle}
use Rattle.c_handles.proofs.Owned.{word}
use Rattle.c_handles.proofs.OfLine.Owned.{handle_in}
use Rattle.c_handles.specs.contracts.line_handle.LineHandle.closed as f
use Rattle.c_handles.proofs.line_handle.LineHandle.closed.Statement.{statement}
use Rattle.c_handles.proofs.line_handle.LineHandle.closed.Code as code

abbrev stayed : Stays f.ended.signature.params f.ended.kept
stayed = tt

abbrev made : LineHandle
made = record { at = null_ptr; is_open = false; line = None }

pub closed_spec : {M : Type 1} → statement M
closed_spec 𝓤 𝓛 𝓜 𝓡 wired =
    let c = f.clauses 𝓛 𝓜.mem 𝓡.returns in let W = walk_of 𝓛 f.ended stayed c in let v : Val = word null_ptr false in
    proved_at 𝓛 f.ended stayed c 𝓜 𝓡 tt f.Key.name code.function (code.unfolded 𝓤 𝓛.H 𝓜 𝓡 wired) (λ z are.
    qed 𝓛 ((‵ ftrue ⊛ ‵ ftrue) ∷ ‵ ftrue ∷ []) ∵
    enter ! _ _ _ _ _ $ alloc_all ! (λ l. pass_all ! refl tt $
    sets ! (agg ! (and_then ! (lit ! tt) (and_then ! (false_lit !) (no_more !)))) refl
    (tt, (record { fits = lit< tt }, (tt, tt))) $
    returns ! (look_at ! 0 refl) $ free_all ! refl $
    use0 𝓛 (raw (fact 𝓤 (made.line ≡ None))) (fact_i 𝓤 (made.line ≡ None) (emp 𝓤) refl) $
    nothing ! $ handle_in ! made $ nothing ! $ nothing ! $ keep ! (0 ∷ 1 ∷ 2 ∷ 3 ∷ []) $
    by ! (leaves 𝓛 f.ended stayed c z v made tt tt)))
