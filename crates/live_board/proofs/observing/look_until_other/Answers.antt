use Rattle.std.proofs.Common.{rules, ◌≡◌, ◌*◌, ℕ, List, [], get_or, refl, sym, ap, ◌∙◌, arith, subst}
use Rattle.std.proofs.lemmas.Option.{get_or_from_slice_get}
use Rattle.live_pages.specs.Page.{Page}
use Rattle.live_board.specs.Words.{word_at, word_of}
use Rattle.live_board.specs.inside.Parts.{IsLooks}
use Rattle.live_board.proofs.Part.{no-looks}
use Rattle.live_board.proofs.Passed.{passed-equal}
use Rattle.live_board.proofs.Joined.{look-more}
use Rattle.live_board.proofs.Watched.{look-is}
use Rattle.live_board.proofs.Named.{logged}
use Rattle.live_board.proofs.observing.look_until_other.Goals as goal

pub loop-slot-init : goal.loop-slot-init
loop-slot-init c = (no-looks _ _ _ _ refl c.requires.shadow, refl)

pub loop-slot-preserved : goal.loop-slot-preserved
loop-slot-preserved c =
    let own : List (List ℕ) = c.args.board.now.state.own in
    let page : get_or own (2 * c.args.vp) [] ≡ c.in-Some.own.now =
    get_or_from_slice_get own (2 * c.args.vp) c.in-Some.own.now [] (sym c.in-Some.ensures.value) in
    let here : c.word_at.result ≡ word_of c.args.board.now.state (2 * c.args.vp) (32 * c.loop-slot.slot) =
    c.word_at.ensures ∙ ap (λ l. word_at l (8 * (32 * c.loop-slot.slot))) (sym page) in
    let same : c.load-found.result ≡ c.word_at.result = search rules in
    let known = c.loop-slot.invariant.0.shadow (32 * c.loop-slot.slot) (omega (arith, c.loop-slot-test.true)) in (
      look-more _ _ _ _ _ _ _ _ _ _ _ c.loop-slot.invariant.0
          (look-is _ _ _ _ _ _ _ _ _ _ (omega (arith, c.loop-slot-test.true)) c.requires.shown known
          (logged c.load-found.ensures) (passed-equal _ _ _ _ _ _ (same ∙ here))),
      ap (λ (p : Page). p.name) c.load-found.ensures ∙ c.loop-slot.invariant.1,
    )

pub returns-then-found-word_at-clause-other : goal.returns-then-found-word_at-clause-other
returns-then-found-word_at-clause-other c =
    record {
      below = c.loop-slot-test.true;
      same = c.loop-slot.page.log;
      looks = c.loop-slot.invariant.0;
      page = (logged c.load-found.ensures);
    }

pub returns-clause-same : goal.returns-clause-same
returns-clause-same c =
    let end : c.loop-slot.slot ≡ 16 = omega (arith, c.loop-slot.auto.slot-end, c.loop-slot-test.false) in
    subst (λ n. IsLooks c.args.board.now.state c.args.vp c.args.page.now.log c.args.board.now.state
    c.loop-slot.page.log [] n)
    end c.loop-slot.invariant.0
