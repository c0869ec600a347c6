use Rattle.live_board.proofs.Guests.{guest-stores, late-stores}
use Rattle.live_board.proofs.laws.a_guest_only_stores.Goals as goal

pub returns-clause-before : goal.returns-clause-before
returns-clause-before c = guest-stores

pub returns-clause-after : goal.returns-clause-after
returns-clause-after c = late-stores
