use Rattle.std.proofs.Common.{[], ◌∷◌, ap, ◌∙◌}
use Rattle.live_pages.specs.Page.{Page, with_access}
use Rattle.live_pages.specs.declared.access.Access.TheVariants.{Load}
use Rattle.law_pages.proofs.Wholes.{sees_store, memory_store, learns}
use Rattle.law_pages.proofs.a_guests_store_is_found.Goals as goal

pub returns : goal.returns
returns c =
    let r = learns _ _ (Load c.args.word c.load-found.result ∷ []) _ _ _ _ (sees_store _ _ _ _ _
    c.guest_store-guest.ensures.seen)
    (ap (λ (p : Page). p.log) (c.load-found.ensures ∙ ap (λ p. with_access p (Load c.args.word c.load-found.result))
    c.guest_store-guest.ensures.page))
    c.guest_load-after.ensures.seen in
    r.0.0 ∙ memory_store _ _ _ _ _ c.guest_store-guest.ensures.seen
