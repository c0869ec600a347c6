use Rattle.std.proofs.Common.{rules, ◌≡◌, ◌≢◌, ◌*◌, List, [], get_or, set, sym, ap, ◌∙◌, subst, arith}
use Rattle.std.proofs.lemmas.List.{get_or-set_other}
use Rattle.synic_board.specs.State.{processors}
use Rattle.live_pages.specs.Page.{Page}
use Rattle.live_pages.specs.Words.{known}
use Rattle.live_board.specs.inside.Pages.{logs_of}
use Rattle.live_board.specs.inside.Parts.{IsFirst}
use Rattle.live_board.proofs.Named.{log-at, length-logs, logs-set, names-set}
use Rattle.live_board.proofs.ticking.look_at.Goals as goal

pub look_first-requires-clause-shadow : goal.look_first-requires-clause-shadow
look_first-requires-clause-shadow c x low =
    let items : List Page = c.args.pages.now.items in
    let from : c.from.result ≡ c.args.vp = search rules in
    let index : 2 * c.from.result ≡ 2 * c.args.vp = ap (λ n. 2 * n) from in
    let page = log-at items (2 * c.args.vp) c.index_mut-page.result.now
    (omega (arith, c.requires.on, c.requires.count, length-logs items))
    (c.index_mut-page.ensures.value ∙ ap (λ k. get_or items k c.index_mut-page.result.now) index) in
    ap (λ l. known l x) page ∙ c.requires.shadow c.args.vp (omega arith) c.requires.on x low

pub returns-clause-looks : goal.returns-clause-looks
returns-clause-looks c =
    let items : List Page = c.args.pages.now.items in
    let from : c.from.result ≡ c.args.vp = search rules in
    let index : 2 * c.from.result ≡ 2 * c.args.vp = ap (λ n. 2 * n) from in
    let page = log-at items (2 * c.args.vp) c.index_mut-page.result.now
    (omega (arith, c.requires.on, c.requires.count, length-logs items))
    (c.index_mut-page.ensures.value ∙ ap (λ k. get_or items k c.index_mut-page.result.now) index) in
    record {
      log = c.look_first.new.page.log;
      first = subst (λ l. IsFirst c.args.board.now.state c.args.vp l c.look_first.new.board.state
          c.look_first.new.page.log c.args.notices.now c.look_first.new.notices) page c.look_first.ensures.looks;
      changed = logs-set items (2 * c.from.result) c.look_first.new.page
          ∙ ap (λ k. set (logs_of items) k c.look_first.new.page.log) index;
    }

pub returns-clause-shadow : goal.returns-clause-shadow
returns-clause-shadow c p above low x small =
    let items : List Page = c.args.pages.now.items in
    let from : c.from.result ≡ c.args.vp = search rules in
    let watched = c.look_first.ensures.looks.viewed.watched in
    let other : 2 * p ≢ 2 * c.from.result = λ e. omega (arith, e, from, above) in
    let apart : 2 * p ≢ 2 * c.args.vp = λ e. omega (arith, e, above) in
    ap (λ ps. known (get_or ps (2 * p) []) x) (logs-set items (2 * c.from.result) c.look_first.new.page)
    ∙ ap (λ l. known l x) (get_or-set_other (logs_of items) (2 * c.from.result) (2 * p) c.look_first.new.page.log []
    other)
    ∙ c.requires.shadow p (omega (arith, above)) (omega (arith, low, ap processors watched.rest)) x small
    ∙ sym (watched.others (2 * p) x small apart)

pub returns-clause-processors : goal.returns-clause-processors
returns-clause-processors c = ap processors c.look_first.ensures.looks.viewed.watched.rest

pub returns-clause-names : goal.returns-clause-names
returns-clause-names c =
    names-set c.args.pages.now.items (2 * c.from.result) c.index_mut-page.result.now c.look_first.new.page
    c.index_mut-page.ensures.value c.look_first.ensures.name
