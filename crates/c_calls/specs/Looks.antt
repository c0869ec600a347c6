-- The results of queries.
use Rattle.std.specs.Prelude.{◌≡◌, ℕ, ◌/◌, ◌%◌, ◌^◌, nat_lt, ◌&&◌, not, Bool, true, false, Option, Some, None, is_some, List, [], map, slice_get, slice_index_or, if◌then◌else◌}
use Rattle.std.specs.Option.{option_map_or}
use Rattle.std.specs.FinSet as set
use Rattle.board_terms.specs.declared.pages.Kind.{Kind}
use Rattle.board_terms.specs.declared.pages.Owner.{Owner}
use Rattle.board_terms.specs.declared.pages.Owner.TheVariants.{Guest, Sim, Sief, Nothing}
use Rattle.board_terms.specs.Sources.{source_number}
use Rattle.gpa_space.specs.Space.{overlay_of, owner_of, IsNextOverlay}
use Rattle.c_handles.specs.declared.any_board.AnyBoard.{AnyBoard}
use Rattle.c_handles.specs.Kinds.{state_in, notices_in}
use Rattle.c_terms.specs.declared.notice.CNotice.{CNotice}
use Rattle.c_terms.specs.Notices.{notice_to_c}
use Rattle.c_calls.specs.declared.looks.CAlarm.{CAlarm}
use Rattle.synic_board.specs.Alarm.{alarm_in_word}
use Rattle.c_calls.specs.declared.looks.COwner.{COwner}
use Rattle.c_calls.specs.declared.looks.COverlay.{COverlay}
use Rattle.c_calls.specs.declared.looks.CDeadline.{CDeadline}
use Rattle.board_terms.specs.Dues.{least, later_than}
use Rattle.stimer_bank.specs.Bank.{dues}
use Rattle.synic_board.specs.State.{space_of, bank_of}
use Rattle.synic_board.specs.Summaries.{Values, summary_of}

-- the notices of the last event
abbrev pub notices_of : Option AnyBoard → List CNotice
notices_of None = []
notices_of (Some board) = map notice_to_c (notices_in board)

-- a value of the summary of a board, if there is one
abbrev pub summary_or : {A : Type 0} → A → (Values → A) → Option AnyBoard → A
summary_or otherwise read None = otherwise
summary_or otherwise read (Some board) = read (summary_of (state_in board))

-- a vector's number, 0 for none
abbrev pub vector_or_0 : Option ℕ → ℕ
vector_or_0 next = option_map_or (λ vector. vector) next 0

-- the next vector of a processor
abbrev pub next_vector_of : Option AnyBoard → ℕ → ℕ
next_vector_of board vp =
    if nat_lt vp 64 then summary_or 0 (λ values. vector_or_0 (slice_index_or values.nexts vp None)) board else 0

-- whether a vector is auto-EOI
abbrev pub is_auto_eoi_of : Option AnyBoard → ℕ → ℕ → Bool
is_auto_eoi_of board vp vector =
    if nat_lt vp 64 && not (nat_lt vector 16)
    then summary_or false (λ values. set.contains (slice_index_or values.autos vp set.empty) vector) board else false

-- which page a guest sees
abbrev pub owner_to_c : Owner → COwner
owner_to_c Nothing = record { kind = 0; vp = 0 }
owner_to_c Guest = record { kind = 1; vp = 0 }
owner_to_c (Sim vp) = record { kind = 2; vp = vp }
owner_to_c (Sief vp) = record { kind = 3; vp = vp }

abbrev pub owner_at : Option AnyBoard → ℕ → COwner
owner_at None page = owner_to_c Nothing
owner_at (Some board) page = owner_to_c (owner_of (space_of (state_in board)) page)

-- the first page from a number on at which a guest sees an overlay, as a struct; all 0 if there is none
abbrev pub overlay_to_c : Option (ℕ × Owner) → COverlay
overlay_to_c None = record { owner = owner_to_c Nothing; page = 0 }
overlay_to_c (Some (page, owner)) = record { owner = owner_to_c owner; page = page }

abbrev pub IsNextOverlayOf : Option AnyBoard → ℕ → COverlay → Type 0
IsNextOverlayOf None from overlay = overlay ≡ overlay_to_c None
IsNextOverlayOf (Some board) from overlay =
    (next : Option (ℕ × Owner)) × IsNextOverlay (space_of (state_in board)) from next × (overlay ≡ overlay_to_c next)

-- how many messages are queued for a source
abbrev pub queue_length_of : Option AnyBoard → ℕ → ℕ → ℕ
queue_length_of board vp sint =
    if nat_lt vp 64 && nat_lt sint 16
    then summary_or 0 (λ values. slice_index_or values.queued (source_number vp sint) 0) board else 0

-- the earliest timer, with its deadline in two halves
abbrev pub deadline_to_c : Option (ℕ × (ℕ × ℕ)) → CDeadline
deadline_to_c None = record { is_due = false; vp = 0; timer = 0; low = 0; high = 0 }
deadline_to_c (Some (due, (vp, index))) =
    record { is_due = true; vp = vp; timer = index; low = due % 2 ^ 64; high = due / 2 ^ 64 }

abbrev pub earliest_of : Option AnyBoard → CDeadline
earliest_of board = deadline_to_c (summary_or None (λ values. values.earliest) board)

-- the same among the deadlines later than a time
-- the alarm of a board, if there is one
abbrev pub alarm_to_c : Option ℕ → CAlarm
alarm_to_c None = record { is_set = false; moment = 0 }
alarm_to_c (Some moment) = record { is_set = true; moment = moment }

abbrev pub alarm_of : Option AnyBoard → CAlarm
alarm_of None = alarm_to_c None
alarm_of (Some board) = alarm_to_c (alarm_in_word (state_in board))

abbrev pub earliest_after_of : Option AnyBoard → ℕ → CDeadline
earliest_after_of None moment = deadline_to_c None
earliest_after_of (Some board) moment = deadline_to_c (least (later_than moment (dues (bank_of (state_in board)))))

abbrev pub time_of : Option AnyBoard → ℕ
time_of None = 0
time_of (Some board) = (state_in board).moment

abbrev pub next_ticket_of : Option AnyBoard → ℕ
next_ticket_of None = 0
next_ticket_of (Some board) = (state_in board).next_ticket

-- whether a processor has an own page of a kind, and whether there is a guest page
abbrev pub has_own_page : Option AnyBoard → ℕ → Kind → Bool
has_own_page None vp kind = false
has_own_page (Some board) vp kind = nat_lt vp 64 && is_some (slice_get (state_in board).own (overlay_of vp kind))

abbrev pub has_guest_page : Option AnyBoard → ℕ → Bool
has_guest_page None number = false
has_guest_page (Some board) number = is_some (slice_get (state_in board).pages number)
