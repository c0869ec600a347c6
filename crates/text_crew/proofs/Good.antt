-- A parsed script is valid.
use Rattle.std.proofs.Common.{◌≡◌, ℕ, ◌+◌, ◌*◌, ◌<◌, ◌≤◌, List, [], ◌∷◌, ◌++◌, length, length-append, refl, sym, subst, ◌∙◌, arith, Bool, false, ◌||◌, cond, nat_lt, Option, None, Some, Ok, Err, codes}
use Rattle.std.specs.List.{list_any, sum_by}
use Rattle.std.specs.Option.{IfSome, option_map, option_and_then}
use Rattle.std.specs.Result.{IfOk}
use Rattle.std.specs.Str.{bytes_eq}
use Rattle.std.proofs.lemmas.Bool.{cond_both, or_from, or_parts}
use Rattle.std.proofs.lemmas.Bool.Decides.{Decides-ltb, nat_tests}
use Rattle.std.proofs.lemmas.List.Folds.{list_any-append}
use Rattle.std.proofs.lemmas.List.Sums.{sum_by_push}
use Rattle.synic_board.specs.State.{State, IsWithinLimits, processors}
use Rattle.synic_board.specs.declared.event.Event.{Event}
use Rattle.text_base.specs.Fields.{fields_of}
use Rattle.text_lines.specs.Reading.{Fields, first_read, take_then, none_left, u8_at, vector_at, parse_event, parse_opening}
use Rattle.text_lines.specs.Sizes.{AreBoardSizes, are_sizes, pages_held}
use Rattle.text_lines.specs.Faults.{is_skipped}
use Rattle.text_lines.specs.declared.fault.ScriptFault.TheVariants as faults
use Rattle.text_lines.proofs.SizeLemmas.{sizes-are}
use Rattle.board_threads.specs.Judging.{is_bad_step, is_bad_raise}
use Rattle.actor_calls.specs.Sweeps.{is_absorb}
use Rattle.board_threads.specs.declared.script.Step.{Step}
use Rattle.board_threads.specs.declared.script.Step.TheVariants.{Sweep}
use Rattle.text_driver.specs.Judging.{AreGoodLines}
use Rattle.text_crew.specs.Crew.{Section, InSetup, InActor, InLine, Crew, new_crew, over, finished, entries}
use Rattle.text_crew.specs.inside.Good.{HasBoard, IsGoodOn}
use Rattle.text_crew.specs.Reading.{Read, no_absorb, parse_act, parse_sweep, on_board, parse_raise, step_of, parse_step, parse_line_step, with_entry, with_event, with_step, with_raise, section_line, with_actor, with_line, with_board, parse_fields, parse_line}
use Rattle.text_crew.specs.Running.{crew_on}
use Rattle.text_crew.proofs.Reading.{Good}

module _ (board : Option State) where
  abbrev IsGood : Crew → Type 0
  IsGood = IsGoodOn board

  -- what was parsed is valid, with its last section closed; nothing was parsed only if no board is given
  abbrev pub AllGood : Option Crew → Type 0
  AllGood None = board ≡ None
  AllGood (Some crew) = IsGood (finished crew)

  abbrev Kept : Read → Type 0
  Kept read = IfOk read AllGood

  abbrev steps_in : List (List Step) → ℕ
  steps_in scripts = sum_by (λ (s : List Step). length s) scripts

  -- one more item at the end, which is not bad
  none-more : {X : Type 0} (bad : X → Bool) (xs : List X) (x : X) → list_any bad xs ≡ false → bad x ≡ false
      → list_any bad (xs ++ x ∷ []) ≡ false
  none-more bad xs x h is =
      list_any-append bad xs (x ∷ []) ∙ or_from (list_any bad xs) (bad x || false) h (or_from (bad x) false is refl)

  none-last : {X : Type 0} (bad : X → Bool) (xs : List X) (x : X) → list_any bad (xs ++ x ∷ []) ≡ false
      → (list_any bad xs ≡ false) × (bad x ≡ false)
  none-last bad xs x h =
      let p =
      or_parts (list_any bad xs) (bad x || false) (sym (list_any-append bad xs (x ∷ [])) ∙ h) in
      (p.0, (or_parts (bad x) false p.1).0)

  one-more : {X : Type 0} (xs : List X) (x : X) → length (xs ++ x ∷ []) ≡ length xs + 1
  one-more xs x = length-append xs (x ∷ [])

  -- The next event, step and raise.
  event-more : (crew : Crew) (e : Event) → IsGood (over InSetup crew) → is_absorb e ≡ false
      → length crew.setup + steps_in crew.actors + 4 * crew.processors < 65536 →
      IsGood (over InSetup (record crew { setup = crew.setup ++ e ∷ [] }))
  event-more crew e g is bound = record {
    board = g.board;
    few_actors = g.few_actors;
    few_lines = g.few_lines;
    few_entries = omega (arith, bound, one-more crew.setup e);
    no_bad_event = none-more is_absorb crew.setup e g.no_bad_event is;
    no_bad_step = g.no_bad_step;
    no_bad_raise = g.no_bad_raise;
  }

  step-more : (crew : Crew) (steps : List Step) (s : Step) → IsGood (over (InActor steps) crew)
      → is_bad_step s ≡ false →
      length crew.setup + steps_in (crew.actors ++ steps ∷ []) + 4 * crew.processors < 65536
      → IsGood (over (InActor (steps ++ s ∷ [])) crew)
  step-more crew steps s g is bound =
      let h = none-last (list_any is_bad_step) crew.actors steps g.no_bad_step in record {
        board = g.board;
        few_actors = omega (arith, g.few_actors, one-more crew.actors steps, one-more crew.actors (steps ++ s ∷ []));
        few_lines = g.few_lines;
        few_entries =
            omega (
              arith,
              bound,
              one-more steps s,
              sum_by_push (λ (s : List Step). length s) crew.actors steps,
              sum_by_push (λ (s : List Step). length s) crew.actors (steps ++ s ∷ []),
            );
        no_bad_event = g.no_bad_event;
        no_bad_step =
            none-more (list_any is_bad_step) crew.actors (steps ++ s ∷ []) h.0 (none-more is_bad_step steps s h.1 is);
        no_bad_raise = g.no_bad_raise;
      }

  raise-more : (crew : Crew) (raises : List (ℕ × ℕ)) (r : ℕ × ℕ) → IsGood (over (InLine raises) crew)
      → is_bad_raise crew.processors r ≡ false → IsGood (over (InLine (raises ++ r ∷ [])) crew)
  raise-more crew raises r g is =
      let bad =
      is_bad_raise crew.processors in let h = none-last (list_any bad) crew.lines raises g.no_bad_raise in record {
        board = g.board;
        few_actors = g.few_actors;
        few_lines = omega (arith, g.few_lines, one-more crew.lines raises, one-more crew.lines (raises ++ r ∷ []));
        few_entries = g.few_entries;
        no_bad_event = g.no_bad_event;
        no_bad_step = g.no_bad_step;
        no_bad_raise = none-more (list_any bad) crew.lines (raises ++ r ∷ []) h.0 (none-more bad raises r h.1 is);
      }

  -- The next section begins.
  actor-begun : (crew : Crew) → IsGood crew → length crew.actors < 15 → IsGood (over (InActor []) crew)
  actor-begun crew g bound = record {
    board = g.board;
    few_actors = omega (arith, bound, one-more crew.actors []);
    few_lines = g.few_lines;
    few_entries = omega (arith, g.few_entries, sum_by_push (λ (s : List Step). length s) crew.actors []);
    no_bad_event = g.no_bad_event;
    no_bad_step = none-more (list_any is_bad_step) crew.actors [] g.no_bad_step refl;
    no_bad_raise = g.no_bad_raise;
  }

  line-begun : (crew : Crew) → IsGood crew → length crew.lines < 16 → IsGood (over (InLine []) crew)
  line-begun crew g bound = record {
    board = g.board;
    few_actors = g.few_actors;
    few_lines = omega (arith, bound, one-more crew.lines []);
    few_entries = g.few_entries;
    no_bad_event = g.no_bad_event;
    no_bad_step = g.no_bad_step;
    no_bad_raise = none-more (list_any (is_bad_raise crew.processors)) crew.lines [] g.no_bad_raise refl;
  }

  -- The item of the fields is not bad.
  then-good : {A B : Type 0} (next : B → Fields → Option A) (P : A → Type 0)
      → ((b : B) (fields : Fields) → IfSome (next b fields) P) → (r : Option (B × Fields)) →
      IfSome (option_and_then (λ (p : B × Fields). next p.0 p.1) r) P
  then-good next P each None = tt
  then-good next P each (Some p) = each p.0 p.1

  act-good : (r : Option Event) → IfSome (option_and_then no_absorb r) (λ e. is_absorb e ≡ false)
  act-good None = tt
  act-good (Some e) =
      cond_both (is_absorb e) None (Some e) (λ x. IfSome x (λ e. is_absorb e ≡ false)) (λ _. tt) (λ is. is)

  act-step : (r : Option Event) → IfSome r (λ e. is_absorb e ≡ false)
      → IfSome (option_and_then step_of r) (λ s. is_bad_step s ≡ false)
  act-step None is = tt
  act-step (Some e) is = is

  swept-good : (vp part : ℕ) (fields : Fields) → IfSome (none_left (Sweep vp part) fields) (λ s. is_bad_step s ≡ false)
  swept-good vp part [] = refl
  swept-good vp part (field ∷ fields) = tt

  sweep-good : (fields : Fields) → IfSome (parse_sweep fields) (λ s. is_bad_step s ≡ false)
  sweep-good fields = then-good (λ vp. take_then u8_at (λ part. none_left (Sweep vp part))) (λ s. is_bad_step s ≡ false)
      (λ vp more. then-good (λ part. none_left (Sweep vp part)) (λ s. is_bad_step s ≡ false) (swept-good vp)
      (first_read u8_at more)) (first_read u8_at fields)

  step-good : (word : List ℕ) (fields : Fields) → IfSome (parse_step word fields) (λ s. is_bad_step s ≡ false)
  step-good word fields =
      cond_both (bytes_eq word (codes "absorb")) (parse_sweep fields)
      (option_and_then step_of (parse_act (word ∷ fields)))
      (λ x. IfSome x (λ s. is_bad_step s ≡ false)) (λ _. sweep-good fields)
      (λ _. act-step (parse_act (word ∷ fields)) (act-good (parse_event (word ∷ fields))))

  raise-good : (processors : ℕ) (r : Option (ℕ × ℕ))
      → IfSome (option_and_then (on_board processors) r) (λ r. is_bad_raise processors r ≡ false)
  raise-good processors None = tt
  raise-good processors (Some r) =
      cond_both (nat_lt r.0 processors) (Some r) None (λ x. IfSome x (λ r. is_bad_raise processors r ≡ false))
      (λ is. grind (arith, nat_tests)) (λ _. tt)

  line-good : (processors : ℕ) (word : List ℕ) (fields : Fields)
      → IfSome (parse_line_step processors word fields) (λ r. is_bad_raise processors r ≡ false)
  line-good processors word fields = cond_both (bytes_eq word (codes "raise")) (parse_raise processors fields) None
      (λ x. IfSome x (λ r. is_bad_raise processors r ≡ false))
      (λ _. raise-good processors
      (take_then u8_at (λ vp. take_then vector_at (λ vector. none_left (vp, vector))) fields)) (λ _. tt)

  -- What a line adds is valid.
  entry-kept : (crew more : Crew) → (entries crew < 65536 → IsGood (finished more)) → Kept (with_entry crew more)
  entry-kept crew more good =
      cond_both (nat_lt (entries crew) 65536) (Ok (Some more)) (Err faults.Many) Kept
      (λ is. good ((Decides-ltb (entries crew) 65536).0 is)) (λ _. tt)

  event-kept : (crew : Crew) (event : Option Event) → crew.section ≡ InSetup → IsGood (finished crew)
      → IfSome event (λ e. is_absorb e ≡ false) → Kept (with_event crew event)
  event-kept crew None is g good = tt
  event-kept crew (Some e) is g good =
      let more = record crew { setup = crew.setup ++ e ∷ [] } in
      entry-kept crew more (λ bound. subst (λ (s : Section). IsGood (over s more)) (sym is)
      (event-more crew e (subst (λ (s : Section). IsGood (over s crew)) is g) good
      (subst (λ (s : Section). length crew.setup + steps_in (over s crew).actors + 4 * crew.processors < 65536) is
      bound)))

  step-kept : (crew : Crew) (steps : List Step) (step : Option Step) → crew.section ≡ InActor steps
      → IsGood (finished crew) → IfSome step (λ s. is_bad_step s ≡ false)
      → Kept (with_step crew steps step)
  step-kept crew steps None is g good = tt
  step-kept crew steps (Some s) is g good =
      entry-kept crew (record crew { section = InActor (steps ++ s ∷ []) }) (λ bound.
      step-more crew steps s (subst (λ (s : Section). IsGood (over s crew)) is g) good
      (subst (λ (s : Section). length crew.setup + steps_in (over s crew).actors + 4 * crew.processors < 65536) is
      bound))

  raise-kept : (crew : Crew) (raises : List (ℕ × ℕ)) (raise : Option (ℕ × ℕ)) → crew.section ≡ InLine raises
      → IsGood (finished crew) →
      IfSome raise (λ r. is_bad_raise crew.processors r ≡ false) → Kept (with_raise crew raises raise)
  raise-kept crew raises None is g good = tt
  raise-kept crew raises (Some r) is g good =
      raise-more crew raises r (subst (λ (s : Section). IsGood (over s crew)) is g) good

  section-kept : (section : Section) (crew : Crew) (word : List ℕ) (fields : Fields) → crew.section ≡ section
      → IsGood (finished crew) → Kept (section_line section crew word fields)
  section-kept InSetup crew word fields is g =
      event-kept crew (parse_act (word ∷ fields)) is g (act-good (parse_event (word ∷ fields)))
  section-kept (InActor steps) crew word fields is g =
      step-kept crew steps (parse_step word fields) is g (step-good word fields)
  section-kept (InLine raises) crew word fields is g =
      raise-kept crew raises (parse_line_step crew.processors word fields) is g (line-good crew.processors word fields)

  actor-kept : (crew : Crew) (fields : Fields) → IsGood (finished crew) → Kept (with_actor crew fields)
  actor-kept crew [] g =
      let all = length (finished crew).actors in
      cond_both (nat_lt all 15) (Ok (Some (record (finished crew) { section = InActor [] }))) (Err faults.Many) Kept
      (λ is. actor-begun (finished crew) g ((Decides-ltb all 15).0 is)) (λ _. tt)
  actor-kept crew (field ∷ fields) g = tt

  line-kept : (crew : Crew) (fields : Fields) → IsGood (finished crew) → Kept (with_line crew fields)
  line-kept crew [] g =
      let all = length (finished crew).lines in
      cond_both (nat_lt all 16) (Ok (Some (record (finished crew) { section = InLine [] }))) (Err faults.Many) Kept
      (λ is. line-begun (finished crew) g ((Decides-ltb all 16).0 is)) (λ _. tt)
  line-kept crew (field ∷ fields) g = tt

  new-kept : (n pages ticket : ℕ) → HasBoard board n pages → n ≤ 64 → IsGood (finished (new_crew n pages ticket))
  new-kept n pages ticket is bound = record {
    board = is;
    few_actors = omega arith;
    few_lines = omega arith;
    few_entries = omega (arith, bound);
    no_bad_event = refl;
    no_bad_step = refl;
    no_bad_raise = refl;
  }

  held-within : (n : ℕ) (pages : Option ℕ) → AreBoardSizes n pages → IsWithinLimits n (pages_held pages)
  held-within n None h =
      record {
        some_processor = h.some;
        processor_bound = h.bound;
        dense_bound = λ held. absurd (held refl);
        page_bound = omega arith;
      }
  held-within n (Some pages) h =
      record {
        some_processor = h.some_processor;
        processor_bound = let bound = h.processor_bound in
            omega arith;
        dense_bound = λ held. h.processor_bound;
        page_bound = h.page_bound;
      }

  board-kept : board ≡ None → (opening : Option (ℕ × Option ℕ × ℕ)) → Kept (with_board opening)
  board-kept none None = tt
  board-kept none (Some s) =
      cond_both (are_sizes s.0 s.1) (Ok (Some (new_crew s.0 (pages_held s.1) s.2))) (Err faults.Size) Kept (λ is.
      let limits = held-within s.0 s.1 ((sizes-are s.0 s.1).0 is) in
      new-kept s.0 (pages_held s.1) s.2
      (subst (λ (b : Option State). HasBoard b s.0 (pages_held s.1)) (sym none) limits) limits.processor_bound)
      (λ _. tt)

  fields-kept : (crew : Option Crew) (fields : Fields) → AllGood crew → Kept (parse_fields crew fields)
  fields-kept crew [] g = tt
  fields-kept None (word ∷ fields) g =
      cond_both (bytes_eq word (codes "board")) (with_board (parse_opening fields)) (Err faults.First) Kept
      (λ _. board-kept g (parse_opening fields)) (λ _. tt)
  fields-kept (Some crew) (word ∷ fields) g =
      let rest = section_line crew.section crew word fields in
      cond_both (bytes_eq word (codes "actor")) (with_actor crew fields)
      (cond (bytes_eq word (codes "line")) (with_line crew fields) rest) Kept (λ _. actor-kept crew fields g)
      (λ _. cond_both (bytes_eq word (codes "line")) (with_line crew fields) rest Kept (λ _. line-kept crew fields g)
      (λ _. section-kept crew.section crew word fields refl g))

  kept : (crew : Option Crew) (line : List ℕ) → AllGood crew → Kept (parse_line crew line)
  kept crew line g =
      let rest = parse_fields crew (fields_of line) in
      cond_both (nat_lt 640 (length line)) (Err faults.Long) (cond (is_skipped line) (Ok crew) rest) Kept (λ _. tt)
      (λ _. cond_both (is_skipped line) (Ok crew) rest Kept (λ _. g) (λ _. fields-kept crew (fields_of line) g))

  -- What good lines add is valid.
  pub all-good : {J : Type 0} (seen : J → Option Crew) (old new : J) (lines : List (List ℕ)) (answers : List ℕ)
      → AllGood (seen old) → AreGoodLines (Good seen) old lines answers new → AllGood (seen new)
  all-good {J} seen old new [] answers g h = subst (λ (j : J). AllGood (seen j)) (sym h.1) g
  all-good seen old new (line ∷ lines) answers g h =
      all-good seen h.2 new lines h.1 (subst Kept h.4.1 (kept (seen old) line g)) h.5

-- before the first line
pub first-good : (board : Option State) → IfSome board (λ s. processors s ≤ 64)
    → AllGood board (option_map crew_on board)
first-good None bound = refl
first-good (Some s) bound = new-kept (Some s) (processors s) (length s.pages) s.next_ticket refl bound
