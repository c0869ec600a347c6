use Rattle.std.proofs.Common.{[], ◌∷◌, ap, ◌∙◌}
use Rattle.live_pages.specs.Page.{Page, with_access}
use Rattle.live_pages.specs.declared.access.Access.TheVariants.{Load, Store}
use Rattle.law_pages.proofs.Wholes.{here, sees_load, learns}
use Rattle.law_pages.proofs.an_own_store_is_found.Goals as goal

pub returns : goal.returns
returns c =
    let r = learns _ _ (Load c.args.word c.load-found.result ∷ Store c.args.word c.args.value ∷ []) _ _ _ _
    (sees_load _ _ _ _ _ c.guest_load-before.ensures.seen)
    (ap (λ (p : Page). p.log) (c.load-found.ensures
    ∙ ap (λ p. with_access p (Load c.args.word c.load-found.result)) (c.store.ensures
    ∙ ap (λ p. with_access p (Store c.args.word c.args.value)) c.guest_load-before.ensures.page)))
    c.guest_load-after.ensures.seen in
    r.0.0 ∙ here c.args.word c.args.value _
