use Rattle.law_images.specs.States.{IsBoardState}
use Rattle.law_images.proofs.Accepted.{accepted}
use Rattle.law_images.proofs.Unique.{one-state}
use Rattle.law_images.proofs.laws.a_board_is_restored_from_its_image.Goals as goal

pub returns : goal.returns
returns c =
    let facts = c.facts.ensures in
    let state : IsBoardState c.args.board.now.state = record {
      sizes = facts.sizes;
      sound = facts.sound;
      buffers = facts.buffers;
      settled = facts.settled;
      shape = facts.shape;
      timers = facts.timers;
      ranges = facts.ranges;
    } in
    let whole = accepted c.args.board.now.state state in
    record { state = state; image = whole; only = λ s is. one-state _ s c.args.board.now.state is whole }
