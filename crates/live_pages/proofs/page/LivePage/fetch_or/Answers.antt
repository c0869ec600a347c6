use Rattle.std.proofs.Common.{rules}
use Rattle.live_pages.proofs.Tracing.{ors}
use Rattle.live_pages.proofs.page.LivePage.fetch_or.Goals as goal

pub fetch_or-requires : goal.fetch_or-requires
fetch_or-requires c = (search rules, search rules, ors _ _ _ _ _ _ c.requires c.self.invariant.2)
