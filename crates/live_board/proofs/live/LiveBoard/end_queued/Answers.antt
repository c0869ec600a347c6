use Rattle.std.proofs.Common.{inl, inr, refl, ap, List, [], slice_index_or}
use Rattle.board_terms.specs.declared.pages.Kind.TheVariants.{Sim}
use Rattle.synic_board.specs.declared.event.Event.{Event}
use Rattle.synic_board.specs.declared.event.Event.TheVariants.{Write}
use Rattle.synic_board.specs.State.{State}
use Rattle.live_pages.specs.declared.access.Access.{Access}
use Rattle.live_board.specs.Acting.{IsIdleAt, AccessesOnlyAt}
use Rattle.live_board.specs.inside.Kinds.{IsWriteTo}
use Rattle.live_board.proofs.Calm.{eom-there, eom-cases}
use Rattle.live_board.proofs.live.LiveBoard.end_queued.Goals as goal

pub returns : goal.returns
returns c =
    let s : State = c.args.self.now.board.state in
    let event : Event = Write c.args.vp 0x40000084 c.args.value in
    let to : IsWriteTo c.args.vp 0x40000084 event = (refl, refl) in
    let idle : IsIdleAt c.args.vp c.args.self.now c.end_event.new.self =
    λ none. elim (eom-cases s c.args.vp 0x40000084 event to) [
      | inl on ↦ absurd (c.requires on none)
      | inr nowhere ↦ c.end_event.ensures.nowhere nowhere
    ] in
    let only : AccessesOnlyAt c.args.vp Sim c.args.self.now c.end_event.new.self =
    λ j other. elim (eom-cases s c.args.vp 0x40000084 event to) [
      | inl on ↦ c.end_event.ensures.only c.args.vp (eom-there s c.args.vp 0x40000084 event to refl on) j other
      | inr nowhere ↦
          ap (λ (ps : List (List Access)). slice_index_or ps j []) (c.end_event.ensures.nowhere nowhere)
    ] in (
      c.end_event.ensures.live,
      (λ on. c.end_event.ensures.probed c.args.vp (eom-there s c.args.vp 0x40000084 event to refl on)),
      idle,
      only,
    )
