use Rattle.std.proofs.Common.{rules}
use Rattle.live_pages.proofs.Tracing.{sets}
use Rattle.live_pages.proofs.page.LivePage.store.Goals as goal

pub store-requires : goal.store-requires
store-requires c = (search rules, search rules, sets _ _ _ _ _ _ c.requires c.self.invariant.2)
