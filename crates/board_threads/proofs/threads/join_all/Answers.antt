use Rattle.std.proofs.Common.{rules, ◌≡◌, [], ◌∷◌, ◌++◌, Ok, sym, subst}
use Rattle.std.specs.List.{AllZip}
use Rattle.board_threads.proofs.Following.{zip-push}
use Rattle.board_threads.proofs.threads.join_all.Goals as goal

pub loop-handle-preserved : goal.loop-handle-preserved
loop-handle-preserved g c =
    let now : c.push_reserved.new.self.items ≡ c.loop-handle.all.items ++ c.in_ok-join.field-0 ∷ [] = search rules in
    subst (AllZip (λ h t. g.P.Promise.kept_by h.promise (Ok t)) (c.loop-handle.yielded ++ c.in-Some.handle ∷ []))
    (sym now)
    (zip-push (λ h t. g.P.Promise.kept_by h.promise (Ok t)) c.loop-handle.yielded c.loop-handle.all.items
    c.in-Some.handle c.in_ok-join.field-0 c.loop-handle.invariant c.in_ok-join.ensures)
