use Rattle.std.proofs.Common.{[], ◌∷◌, ap, ◌∙◌}
use Rattle.live_pages.specs.Page.{Page, with_access}
use Rattle.live_pages.specs.declared.access.Access.TheVariants.{Store}
use Rattle.law_pages.proofs.Wholes.{here, sees_load, learns}
use Rattle.law_pages.proofs.a_hosts_store_is_found.Goals as goal

pub returns : goal.returns
returns c =
    let r = learns _ _ (Store c.args.word c.args.value ∷ []) _ _ _ _ (sees_load _ _ _ _ _
    c.guest_load-guest.ensures.seen)
    (ap (λ (p : Page). p.log) (c.store.ensures ∙ ap (λ p. with_access p (Store c.args.word c.args.value))
    c.guest_load-guest.ensures.page))
    c.guest_load.ensures.seen in
    r.1 ∙ here c.args.word c.args.value _
