use Rattle.std.proofs.Common.{rules, ◌≡◌, ◌<◌, ◌+◌, ◌-◌, ◌*◌, suc, List, [], length, get_or, set, refl, arith, sym, ap, ◌∙◌, subst, length-set, length-append}
use Rattle.synic_board.specs.declared.event.Event.TheVariants.{Tick}
use Rattle.synic_board.specs.State.{State, processors}
use Rattle.std.proofs.lemmas.List.{get_or-set_same}
use Rattle.live_pages.specs.Words.{known}
use Rattle.live_pages.specs.Page.{Page}
use Rattle.live_pages.specs.declared.access.Access.{Access}
use Rattle.live_board.specs.Live.{AreDueDirect}
use Rattle.live_board.specs.inside.Pages.{logs_of}
use Rattle.live_board.specs.inside.Parts.{IsTickFrom}
use Rattle.live_board.proofs.Named.{log-at, length-logs, logs-set, names-set}
use Rattle.live_board.proofs.Finished.{finished-after}
use Rattle.live_board.proofs.Ticked.{tick-base, tick-leaves, tick-step-at, tick-skip}
use Rattle.live_board.proofs.ticking.+tick_from.Goals as goal

pub tick_from-returns-then-number-processors-clause-ticked : goal.tick_from-returns-then-number-processors-clause-ticked
tick_from-returns-then-number-processors-clause-ticked t c =
    let s : State = c.args.board.now.state in
    let all : c.args.number ≡ processors s =
    omega (arith, c.requires.on, c.if-number-processors.true, c.processors.ensures.count) in
    let zero : processors s - c.args.number ≡ 0 = omega (arith, all) in
    subst (λ m. IsTickFrom s c.args.number m (logs_of c.args.pages.now.items)
    (Tick c.args.moment) c.tick_now.new.board.state (logs_of c.args.pages.now.items) c.tick_now.result 0
    c.args.notices.now c.tick_now.new.notices) (sym zero)
    (tick-base _ _ _ _ _ _ _ _ all (c.args.moment, refl) c.facts.ensures.sound c.tick_now.ensures.ticked)

pub tick_from-returns-clause-ticked : goal.tick_from-returns-clause-ticked
tick_from-returns-clause-ticked t c =
    let s : State = c.args.board.now.state in
    let k = c.args.number in
    let pages : List (List Access) = logs_of c.args.pages.now.items in
    let same : c.in-Some.vp ≡ k = search rules in
    let less : k < processors s = omega (arith, c.if-number-processors.false, c.processors.ensures.count) in
    let below : 2 * k < length pages = omega (arith, less, c.requires.count, length-logs c.args.pages.now.items) in
    let total : processors s - k ≡ suc (processors s - (k + 1)) = omega (arith, less) in
    let direct : AreDueDirect s c.in-Some.vp c.args.moment = c.are_due_direct.ensures.all (search rules) in
    tick-skip s _ k _ _ c.in-Some.vp pages _ (Tick c.args.moment) _ _ _ _ same total below direct
    (c.requires.shadow k (omega arith) less) c.tick_from.ensures.ticked

pub tick_posted-finish-is_owed-requires-clause-grow : goal.tick_posted-finish-is_owed-requires-clause-grow
tick_posted-finish-is_owed-requires-clause-grow t c =
    let same : c.args.vp ≡ c.number-number.result = search rules in
    let less : c.number-number.result < processors c.args.board.now.state = omega (arith, same, c.requires.on) in
    (tick-leaves _ _ _ _ _ _ _ _ _ _ _ _ _ _ _ _ _ same less c.look_at.ensures.looks.first
    c.page_words-words.ensures.words c.tick_from-reply.ensures.ticked c.facts-2.ensures.shape c.facts-2.ensures.ranges
    c.facts-3.ensures.shape c.facts-3.ensures.ranges).0

pub tick_posted-finish-is_owed-requires-clause-kept : goal.tick_posted-finish-is_owed-requires-clause-kept
tick_posted-finish-is_owed-requires-clause-kept t c =
    let same : c.args.vp ≡ c.number-number.result = search rules in
    let less : c.number-number.result < processors c.args.board.now.state = omega (arith, same, c.requires.on) in
    (tick-leaves _ _ _ _ _ _ _ _ _ _ _ _ _ _ _ _ _ same less c.look_at.ensures.looks.first
    c.page_words-words.ensures.words c.tick_from-reply.ensures.ticked c.facts-2.ensures.shape c.facts-2.ensures.ranges
    c.facts-3.ensures.shape c.facts-3.ensures.ranges).1

pub tick_posted-returns-clause-ticked : goal.tick_posted-returns-clause-ticked
tick_posted-returns-clause-ticked t c =
    let s : State = c.args.board.now.state in
    let s1 : State = c.look_at.new.board.state in
    let k = c.number-number.result in
    let pages : List (List Access) = logs_of c.args.pages.now.items in
    let items2 : List Page = c.tick_from-reply.new.pages.items in
    let pages2 : List (List Access) = logs_of items2 in
    let f = c.look_at.ensures.looks in
    let inner = subst (λ ps. IsTickFrom s1 (k + 1) (processors s1 - (k + 1)) ps (Tick c.args.moment)
    c.tick_from-reply.new.board.state pages2 c.tick_from-reply.result.0 c.tick_from-reply.result.1
    c.look_at.new.notices c.tick_from-reply.new.notices) f.changed c.tick_from-reply.ensures.ticked in
    let same : c.args.vp ≡ k = search rules in
    let index : 2 * c.args.vp ≡ 2 * k = ap (λ n. 2 * n) same in
    let from : c.from.result ≡ k = search rules in
    let index2 : 2 * c.from.result ≡ 2 * k = ap (λ n. 2 * n) from in
    let less : k < processors s = omega (arith, same, c.requires.on) in
    let below : 2 * k < length pages = omega (arith, less, c.requires.count, length-logs c.args.pages.now.items) in
    let total : processors s - k ≡ suc (processors s1 - (k + 1)) =
    omega (arith, less, c.look_at.ensures.processors) in
    let size = inner.size ∙ length-set pages _ _ in
    let below2 : 2 * k < length pages2 = omega (arith, size, below) in
    let page2 = log-at items2 (2 * k) c.index_mut-page.result.now below2
    (c.index_mut-page.ensures.value ∙ ap (λ n. get_or items2 n c.index_mut-page.result.now) index2) in
    let finished = finished-after _ _ _ _ _ _ _ _ c.tick_from-reply.new.notices c.tick_from-reply.ensures.empty
    c.move_to.ensures.moved c.finish-is_owed.ensures.finished in
    subst (λ n. IsTickFrom s n (processors s - n) pages (Tick c.args.moment) c.finish-is_owed.new.board.state
    (logs_of (set items2 (2 * c.from.result) c.finish-is_owed.new.page)) c.tick_from-reply.result.0
    c.with_owed.result c.args.notices.now c.move_to.new.journal) (sym same)
    (subst (λ ps. IsTickFrom s k (processors s - k) pages (Tick c.args.moment) c.finish-is_owed.new.board.state ps
    c.tick_from-reply.result.0 c.with_owed.result c.args.notices.now c.move_to.new.journal)
    (ap (λ n. set pages2 n c.finish-is_owed.new.page.log) (index ∙ sym index2)
    ∙ sym (logs-set items2 (2 * c.from.result) c.finish-is_owed.new.page))
    (tick-step-at s s1 c.tick_from-reply.new.board.state c.finish-is_owed.new.board.state k _ _ _ _ pages pages2 _ _ _
    _ _ _ _ _ _ _ _ _ _ same index (ap (λ n. get_or pages n []) index) page2 total below c.requires.posted f.first
    inner finished c.with_owed.ensures.here c.with_owed.ensures.others))

pub tick_posted-finish-is_owed-requires-clause-known : goal.tick_posted-finish-is_owed-requires-clause-known
tick_posted-finish-is_owed-requires-clause-known t c x low =
    let s1 : State = c.look_at.new.board.state in
    let k = c.number-number.result in
    let pages : List (List Access) = logs_of c.args.pages.now.items in
    let items2 : List Page = c.tick_from-reply.new.pages.items in
    let f = c.look_at.ensures.looks in
    let inner = c.tick_from-reply.ensures.ticked in
    let same : c.args.vp ≡ k = search rules in
    let from : c.from.result ≡ k = search rules in
    let inside : 2 * k < length pages =
    omega (arith, same, c.requires.on, c.requires.count, length-logs c.args.pages.now.items) in
    let size : length (logs_of items2) ≡ length pages =
    inner.size ∙ ap length f.changed ∙ length-set pages (2 * c.args.vp) f.log in
    let page2 = log-at items2 (2 * k) c.index_mut-page.result.now (omega (arith, size, inside))
    (c.index_mut-page.ensures.value ∙ ap (λ n. get_or items2 n c.index_mut-page.result.now) (ap (λ n. 2 * n) from)) in
    ap (λ l. known l x) (page2 ∙ inner.lower k (omega arith) ∙ ap (λ ps. get_or ps (2 * k) []) f.changed
    ∙ ap (λ n. get_or (set pages (2 * n) f.log) (2 * k) []) same
    ∙ get_or-set_same pages (2 * k) f.log [] inside)
    ∙ f.first.viewed.shadow x low ∙ sym (c.page_words-words.ensures.words x low)

pub tick_posted-returns-clause-names : goal.tick_posted-returns-clause-names
tick_posted-returns-clause-names t c =
    names-set c.tick_from-reply.new.pages.items (2 * c.from.result) c.index_mut-page.result.now
    c.finish-is_owed.new.page
    c.index_mut-page.ensures.value c.finish-is_owed.ensures.name
    ∙ c.tick_from-reply.ensures.names ∙ c.look_at.ensures.names

pub tick_posted-with_owed-requires : goal.tick_posted-with_owed-requires
tick_posted-with_owed-requires t c =
    let same : c.args.vp ≡ c.number-number.result = search rules in
    c.tick_from-reply.ensures.ticked.unowed c.args.vp (omega (arith, same))

pub tick_posted-move_to-requires : goal.tick_posted-move_to-requires
tick_posted-move_to-requires t c =
    let inner = c.tick_from-reply.ensures.ticked in
    let first = c.look_at.ensures.looks.first in
    let last = c.finish-is_owed.ensures.finished in
    let same : c.args.vp ≡ c.number-number.result = search rules in
    omega (
      arith,
      same,
      c.requires.on,
      c.requires.capacity,
      c.look_at.ensures.processors,
      first.viewed.few,
      inner.few,
      last.few,
      ap length first.notices,
      length-append c.args.notices.now first.emitted,
      ap length inner.notices,
      length-append c.look_at.new.notices inner.emitted,
      ap length last.notices,
      length-append c.tick_from-reply.new.part last.emitted,
      ap length c.tick_from-reply.ensures.empty,
    )
