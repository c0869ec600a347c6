use Rattle.std.proofs.Common.{List, subst}
use Rattle.live_pages.specs.declared.access.Access.{Access}
use Rattle.live_pages.specs.Traces.{IsGuestStore}
use Rattle.live_board.proofs.Named.{own-log}
use Rattle.live_board.proofs.live.LiveBoard.guest_store.Goals as goal

pub returns-clause-seen : goal.returns-clause-seen
returns-clause-seen c =
    let log = own-log c.self.inside.board c.self.inside.pages.items c.args.self.now c.args.vp c.args.kind
    c.index_of.result c.index_mut-page.result.now c.args.guest.of c.self.view_is c.requires.own c.index_of.ensures
    c.index_mut-page.ensures.value in
    subst (λ (l : List Access). IsGuestStore c.args.word c.args.value l c.args.guest.seen c.guest_store.result.seen)
    log c.guest_store.ensures.seen
