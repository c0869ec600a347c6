-- The preconditions of a crew.
use Rattle.std.specs.Prelude.{◌≡◌, ℕ, ◌+◌, ◌*◌, ◌≤◌, ◌||◌, Bool, false, nat_le, Vec, vec_len}
use Rattle.std.specs.List.{list_any, sum_by}
use Rattle.std.specs.Global.{Global}
use Rattle.synic_board.specs.State.{AreSizes}
use Rattle.actor_calls.specs.Sweeps.{is_absorb}
use Rattle.board_threads.specs.declared.script.Step.{Step}
use Rattle.board_threads.specs.declared.script.Step.TheVariants.{Act, Sweep}
use Rattle.board_threads.specs.declared.script.Setup.{Setup}
use Rattle.board_threads.specs.declared.script.Scripts.{Scripts}

-- the sizes of a crew's setup and scripts within the limits
pub record AreScriptSizes (setup : Setup) (scripts : Scripts) : Type 0 where
  -- actor 0 has no script
  pub actors : vec_len scripts.actors ≤ 15
  pub lines : vec_len scripts.lines ≤ 16
  -- all entries, including those of the last absorbs, fit into a history
  pub entries : vec_len setup.events + sum_by (λ s. vec_len s) scripts.actors.items + 4 * setup.processors ≤ 65536

-- the sizes of a crew on a board of its own
pub record IsSized (setup : Setup) (scripts : Scripts) : Type 0 where
  pub board : AreSizes setup.processors setup.pages
  pub sizes : AreScriptSizes setup scripts

-- the sizes of a crew on a board that is given, with that many processors
pub record IsSizedOn (processors : ℕ) (setup : Setup) (scripts : Scripts) : Type 0 where
  pub board : setup.processors ≡ processors
  pub sizes : AreScriptSizes setup scripts

-- a crew has no absorb events: their bits are what a sweep takes
abbrev pub is_bad_step : Step → Bool
is_bad_step (Act e) = is_absorb e
is_bad_step (Sweep vp part) = false

abbrev pub is_bad_script : Vec Step Global → Bool
is_bad_script script = list_any is_bad_step script.items

-- a raise at a processor that is not on the board
abbrev pub is_bad_raise : ℕ → ℕ × ℕ → Bool
is_bad_raise processors raise = nat_le processors raise.0

abbrev pub is_bad_line : ℕ → Vec (ℕ × ℕ) Global → Bool
is_bad_line processors script = list_any (is_bad_raise processors) script.items

abbrev pub has_bad_step : Setup → Scripts → Bool
has_bad_step setup scripts =
    list_any is_absorb setup.events.items || list_any is_bad_script scripts.actors.items
    || list_any (is_bad_line setup.processors) scripts.lines.items
