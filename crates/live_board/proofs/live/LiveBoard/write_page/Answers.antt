use Rattle.std.proofs.Common.{List, ◌++◌, ap, ◌∙◌}
use Rattle.board_terms.specs.declared.notices.Notice.{Notice}
use Rattle.live_board.proofs.Calm.{same-own}
use Rattle.live_board.proofs.live.LiveBoard.write_page.Goals as goal

pub write_after-reply-requires-clause-own : goal.write_after-reply-requires-clause-own
write_after-reply-requires-clause-own c = same-own _ _ c.requires.quiet

pub returns-clause-page : goal.returns-clause-page
returns-clause-page c =
    let one = c.write_after-reply.ensures.step in
    let first : List Notice = c.refresh_if.new.notices in
    let second : List Notice = c.refresh_under.new.notices in
    let last = one.notices ∙ ap (λ (l : List Notice). l ++ one.emitted) c.move_to-2.ensures.empty in
    record {
      own = c.refresh_if.new.self;
      under = c.refresh_under.new.self;
      first = first;
      second = second;
      last = one.emitted;
      refreshed = c.refresh_if.ensures.refreshed;
      refreshed_under = c.refresh_under.ensures.refreshed;
      pages = c.write_after-reply.ensures.pages;
      names = c.write_after-reply.ensures.names;
      performs = one.step;
      told = c.move_to-3.ensures.moved ∙ ap (λ (l : List Notice). l ++ c.write_after-reply.new.notices)
          (c.move_to-2.ensures.moved ∙ ap (λ (l : List Notice). l ++ second)
          (c.move_to.ensures.moved ∙ ap (λ (l : List Notice). l ++ first) c.requires.empty))
          ∙ ap (λ (l : List Notice). (first ++ second) ++ l) last;
    }
