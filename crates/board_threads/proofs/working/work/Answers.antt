use Rattle.std.proofs.Common.{rules, ◌≡◌, ℕ, ◌+◌, [], ◌∷◌, ◌++◌, All, length, map, Vec, vec_len, ap, sym, subst, ◌∙◌, arith}
use Rattle.std.specs.Global.{Global}
use Rattle.std.specs.List.{range_with_len}
use Rattle.std.proofs.lemmas.List.FromFn.{length-map-range_with_len}
use Rattle.board_threads.specs.Sharing.{Acting, new_actor}
use Rattle.board_threads.specs.Crew.{AreSteps, last_steps}
use Rattle.board_threads.specs.inside.Work.{IsNewActor, IsThere}
use Rattle.board_threads.proofs.Crewing.{all-new, all-there, new-numbers, cut, single}
use Rattle.board_threads.proofs.working.work.Goals as goal

pub run_all-requires-clause-new_actors : goal.run_all-requires-clause-new_actors
run_all-requires-clause-new_actors g c κs within =
    let name = c.args.board.now.name in
    let n = vec_len c.args.scripts.now.actors in
    let parts = cut name c.args.actors.items n (n + 1) c.requires.actors (omega arith) in
    λ k d lt. subst (All (IsNewActor name)) (sym (c.in-Ok.ensures.tail ∙ parts.1))
    (all-new name (range_with_len 1 n)) k d lt

pub run_all-requires-clause-each_actor : goal.run_all-requires-clause-each_actor
run_all-requires-clause-each_actor g c κs within =
    let name = c.args.board.now.name in
    let n = vec_len c.args.scripts.now.actors in
    omega (
      arith,
      c.in-Ok.ensures.tail_len,
      c.args.actors.ok.0,
      ap (λ l. length l) c.requires.actors,
      length-map-range_with_len (new_actor name) 0 (n + 1),
    )

pub run_all-requires-clause-there : goal.run_all-requires-clause-there
run_all-requires-clause-there g c κs within =
    let all = all-there c.args.setup.now c.args.scripts.now c.requires.step in
    subst (λ n. All (λ (s : Vec (ℕ × ℕ) Global). IsThere n s.items) c.args.scripts.now.lines.items)
    (sym c.requires.board) all

pub returns : goal.returns
returns g c =
    let name = c.args.board.now.name in
    let scripts = c.args.scripts.now.actors in
    let n = vec_len scripts in
    let parts = cut name c.args.actors.items n (n + 1) c.requires.actors (omega arith) in
    let main = c.in_ok-main-2.main in
    let ran = c.in_ok-others.ensures in
    let only : (c.pop.new.self.items ≡ []) × (c.in-Some.main ≡ new_actor name 0) =
    single _ _ _ (sym c.in-Some.ensures.items ∙ c.in-Ok.ensures.items ∙ parts.0) in
    let all : c.append.new.self.items ≡ (c.pop.new.self.items ++ main ∷ []) ++ c.in_ok-others.others.items =
    search rules in
    let more = c.in_ok-main-2.ensures.calls in
    record {
      worked = record {
        main = main;
        others = c.in_ok-others.others.items;
        ran = c.in_ok-others.ran.items;
        actors_are = all ∙ ap (λ l. (l ++ main ∷ []) ++ c.in_ok-others.others.items) only.0;
        lines_are = c.in_ok-lines.ensures.lines;
        answers_are = c.in_ok-lines.ensures.answers;
        served = record {
          of = c.in_ok-main-2.ensures.of ∙ c.in_ok-main.ensures.of ∙ ap (λ (a : Acting). a.of) only.1;
          number = c.in_ok-main-2.ensures.number ∙ c.in_ok-main.ensures.number ∙ ap (λ (a : Acting). a.number) only.1;
          before = c.in_ok-main.main.calls;
          after = more.0;
          calls = more.1;
          begins = search rules;
          ends = subst (λ k. AreSteps (last_steps k) more.0) c.requires.board more.2;
        };
        numbers = ran.numbers ∙ ap (map (λ (a : Acting). a.number)) (c.in-Ok.ensures.tail ∙ parts.1)
            ∙ new-numbers name (range_with_len 1 n)
            ∙ ap (λ k. range_with_len 1 k) (omega (arith, scripts.ok.0));
        acted = ran.acted;
        did_raise = ran.raised;
      };
    }
