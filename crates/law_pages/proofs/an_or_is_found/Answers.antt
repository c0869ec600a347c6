use Rattle.std.proofs.Common.{[], ◌∷◌, ap, ◌∙◌}
use Rattle.std.specs.Prelude.{bit_or}
use Rattle.live_pages.specs.Page.{Page, with_access}
use Rattle.live_pages.specs.declared.access.Access.TheVariants.{FetchOr}
use Rattle.law_pages.proofs.Wholes.{here, sees_store, memory_store, learns}
use Rattle.law_pages.proofs.an_or_is_found.Goals as goal

pub returns-clause-found : goal.returns-clause-found
returns-clause-found c =
    let r = learns _ _ (FetchOr c.args.word c.args.mask c.fetch_or-found.result ∷ []) _ _ _ _
    (sees_store _ _ _ _ _ c.guest_store-guest.ensures.seen)
    (ap (λ (p : Page). p.log) (c.fetch_or-found.ensures
    ∙ ap (λ p. with_access p (FetchOr c.args.word c.args.mask c.fetch_or-found.result))
    c.guest_store-guest.ensures.page))
    c.guest_load-set.ensures.seen in
    r.0.0 ∙ memory_store _ _ _ _ _ c.guest_store-guest.ensures.seen

pub returns-clause-set : goal.returns-clause-set
returns-clause-set c =
    let r = learns _ _ (FetchOr c.args.word c.args.mask c.fetch_or-found.result ∷ []) _ _ _ _
    (sees_store _ _ _ _ _ c.guest_store-guest.ensures.seen)
    (ap (λ (p : Page). p.log) (c.fetch_or-found.ensures
    ∙ ap (λ p. with_access p (FetchOr c.args.word c.args.mask c.fetch_or-found.result))
    c.guest_store-guest.ensures.page))
    c.guest_load-set.ensures.seen in
    r.1 ∙ here c.args.word (bit_or c.fetch_or-found.result c.args.mask) _
    ∙ ap (λ n. bit_or n c.args.mask) (r.0.0 ∙ memory_store _ _ _ _ _ c.guest_store-guest.ensures.seen)
