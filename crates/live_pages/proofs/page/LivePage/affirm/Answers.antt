use Rattle.std.proofs.Common.{rules}
use Rattle.live_pages.proofs.Tracing.{affirms}
use Rattle.live_pages.proofs.page.LivePage.affirm.Goals as goal

pub load-requires : goal.load-requires
load-requires c = (search rules, search rules, affirms _ _ _ _ _ c.requires c.self.invariant.2)
