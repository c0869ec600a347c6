use Rattle.std.proofs.Common.{rules}
use Rattle.live_pages.proofs.Tracing.{looks}
use Rattle.live_pages.proofs.page.LivePage.load.Goals as goal

pub load-requires : goal.load-requires
load-requires c = (search rules, search rules, looks _ _ _ _ _ c.requires c.self.invariant.2)
