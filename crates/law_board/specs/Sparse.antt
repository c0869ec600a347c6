-- A sparse board and the memory of its guest, which together are a board that holds all pages (TLFS, "GPA Overlay
-- Pages").
use Rattle.std.specs.Prelude.{◌≡◌, ℕ, ◌/◌, ◌%◌, ◌^◌, Bool, true, false, List, [], ◌∷◌, length, take, drop, slice_index_or, slice_set, if◌then◌else◌}
use Rattle.board_terms.specs.Quantities.{Address}
use Rattle.board_terms.specs.declared.refusal.Refusal.TheVariants.{Elsewhere}
use Rattle.gpa_space.specs.Page.{overwritten}
use Rattle.synic_board.specs.declared.event.Event.{Event}
use Rattle.synic_board.specs.declared.event.Event.TheVariants.{Store, Load}
use Rattle.synic_board.specs.declared.event.Reply.{Reply}
use Rattle.synic_board.specs.declared.event.Reply.TheVariants.{Done, Bytes, Refused}
use Rattle.synic_board.specs.State.{State}
use Rattle.synic_board.specs.Effects.{Outcome, unchanged}
use Rattle.synic_board.specs.Step.{step}
use Rattle.synic_board.specs.Run.{Run, followed_by}

-- the pages of a guest
abbrev pub Memory : Type 0
Memory = List (List ℕ)

-- all pages that addresses of 64 bits reach
abbrev pub AreAllPages : Memory → Type 0
AreAllPages memory = length memory ≡ 2 ^ 52

-- the same board, but it holds these guest pages
abbrev pub holding : State → Memory → State
holding s memory = record s { pages = memory }

-- the page of an address
abbrev pub page_at : Memory → Address → List ℕ
page_at memory address = slice_index_or memory (address / 4096) []

-- a guest's store and load of its memory
abbrev pub stored_in : Memory → Address → List ℕ → Memory
stored_in memory address bytes =
    slice_set memory (address / 4096) (overwritten (page_at memory address) (address % 4096) bytes)

abbrev pub loaded_from : Memory → Address → ℕ → List ℕ
loaded_from memory address count = take count (drop (address % 4096) (page_at memory address))

abbrev pub is_callers_access : Reply → Bool
is_callers_access (Refused Elsewhere) = true
is_callers_access reply = false

-- an outcome on a board that holds these guest pages too
abbrev pub with_memory : Memory → Outcome → Outcome
with_memory memory o = (holding o.0 memory, o.1, o.2)

-- an outcome on a sparse board, together with the guest's memory: the caller performs there a load or a store that
-- the board refused as Elsewhere
abbrev pub completed : Memory → Event → Outcome → Outcome
completed memory (Store address bytes) o =
    if is_callers_access o.1 then unchanged (holding o.0 (stored_in memory address bytes.items)) Done
    else with_memory memory o
completed memory (Load address count) o =
    if is_callers_access o.1
    then unchanged (holding o.0 memory) (Bytes (record { items = loaded_from memory address count }))
    else with_memory memory o
completed memory event o = with_memory memory o

-- events one after another on a sparse board, with the guest's memory
unfoldable pub completed_run : State → Memory → List Event → Run
completed_run s memory [] = (holding s memory, [], [])
completed_run s memory (e ∷ es) =
    followed_by (completed memory e (step s e)) (completed_run (step s e).0 (completed memory e (step s e)).0.pages es)
