-- A valid script satisfies the preconditions of a crew.
use Rattle.std.proofs.Common.{◌≡◌, ℕ, zero, suc, List, [], ◌∷◌, length, Vec, Global, refl, sym, ap, ◌∙◌, arith, Bool, false, ◌||◌, Option, None, Some}
use Rattle.std.specs.List.{list_any}
use Rattle.std.proofs.lemmas.Bool.{or_from}
use Rattle.std.proofs.lemmas.List.{length-replicate}
use Rattle.synic_board.specs.State.{State, IsWithinLimits, opened, processors}
use Rattle.board_threads.specs.Crew.{lists}
use Rattle.board_threads.specs.Judging.{AreScriptSizes, is_bad_step, is_bad_script, is_bad_raise, is_bad_line, has_bad_step}
use Rattle.actor_calls.specs.Sweeps.{is_absorb}
use Rattle.text_lines.specs.Sizes.{AreBoardSizes, opened_by}
use Rattle.text_crew.specs.Running.{line_pages}
use Rattle.text_crew.specs.inside.Good.{IsGoodOn}
use Rattle.text_crew.specs.inside.Tracing.{Begins}
use Rattle.text_crew.specs.inside.View.{crew_of}
use Rattle.text_crew.specs.declared.held.CrewScript.{CrewScript}
use Rattle.text_crew.proofs.Counting.{lengths}

as-many : {A : Type 0} (scripts : List (Vec A Global)) → length (lists scripts) ≡ length scripts
as-many [] = refl
as-many (s ∷ scripts) = omega (arith, as-many scripts)

any-in : {A : Type 0} (bad : List A → Bool) (scripts : List (Vec A Global))
    → list_any (λ (s : Vec A Global). bad s.items) scripts ≡ list_any bad (lists scripts)
any-in bad [] = refl
any-in bad (s ∷ scripts) = ap (λ (b : Bool). bad s.items || b) (any-in bad scripts)

pub script-sized : (board : Option State) (c : CrewScript) → IsGoodOn board (crew_of c)
    → AreScriptSizes c.setup c.scripts
script-sized board c g = record {
  actors = omega (arith, g.few_actors, as-many c.scripts.actors.items, c.scripts.actors.ok.0);
  lines = omega (arith, g.few_lines, as-many c.scripts.lines.items, c.scripts.lines.ok.0);
  entries = omega (arith, g.few_entries, lengths c.scripts.actors.items, c.setup.events.ok.0);
}

-- the sizes in the board line of a board within the limits
pub sizes-on : (n pages : ℕ) → IsWithinLimits n pages → AreBoardSizes n (line_pages pages)
sizes-on n zero limits = record { some = limits.some_processor; bound = limits.processor_bound }
sizes-on n (suc pages) limits = record {
  some_processor = limits.some_processor;
  processor_bound = limits.dense_bound (λ none. omega (arith, none));
  some_page = omega arith;
  page_bound = limits.page_bound;
}

-- the board that such a line opens
pub opened-with : (n pages ticket : ℕ) → opened_by n (line_pages pages) ticket ≡ opened n pages ticket
opened-with n zero ticket = refl
opened-with n (suc pages) ticket = refl

-- the processors of the board with which a crew begins
pub begun-count : (board : Option State) (image : Option (List ℕ)) (c : CrewScript) (state : State)
    → IsGoodOn board (crew_of c) → Begins board c.setup image state → c.setup.processors ≡ processors state
begun-count None image c state g begins = sym (ap processors begins.1 ∙ length-replicate c.setup.processors _)
begun-count (Some b) image c state g begins = g.board ∙ sym (ap processors begins.1)

pub none-bad : (board : Option State) (c : CrewScript) → IsGoodOn board (crew_of c)
    → has_bad_step c.setup c.scripts ≡ false
none-bad board c g =
    let steps = any-in (list_any is_bad_step) c.scripts.actors.items ∙ g.no_bad_step in
    let raises = any-in (list_any (is_bad_raise c.setup.processors)) c.scripts.lines.items ∙ g.no_bad_raise in
    let acts = or_from (list_any is_absorb c.setup.events.items)
    (list_any is_bad_script c.scripts.actors.items) g.no_bad_event steps in
    or_from (list_any is_absorb c.setup.events.items || list_any is_bad_script c.scripts.actors.items)
    (list_any (is_bad_line c.setup.processors) c.scripts.lines.items) acts raises
