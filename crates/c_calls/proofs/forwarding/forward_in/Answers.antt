use Rattle.std.proofs.Common.{subst, inl}
use Rattle.c_handles.specs.Kinds.{state_in}
use Rattle.c_handles.specs.Forwarding.{IsForwarded}
use Rattle.c_calls.proofs.forwarding.forward_in.Goals as goal

pub returns : goal.returns
returns c = inl record {
  on = c.in-Some.ensures.some.1;
  what = c.forward.result;
  forwards = subst (λ p. IsForwarded (state_in c.args.board.now) p (state_in c.forward.new.self) c.forward.result)
      c.in-Some.ensures.some.0 c.forward.ensures.forwarded;
  encoded = c.encoded.ensures;
  replied = c.reply_to_c-2.ensures;
  notices = c.forward.ensures.notices;
  eoms = c.forward.ensures.eoms;
  pages = c.forward.ensures.pages;
}
