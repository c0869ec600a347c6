use Rattle.law_live.proofs.Apart.{calls-leave-alone}
use Rattle.law_live.proofs.a_call_leaves_alone_what_it_may_not_touch.Goals as goal

pub returns : goal.returns
returns c = calls-leave-alone
