-- The printed lines: the fields of each.
use Rattle.std.specs.Prelude.{ℕ, ◌+◌, ◌==◌, ◌/◌, ◌%◌, List, [], ◌∷◌, ◌++◌, map, if◌then◌else◌, Option, None, Some, codes, decimal}
use Rattle.std.specs.List.{filter, range_with_len}
use Rattle.std.specs.FinSet as set
use Rattle.text_base.specs.Numbers.{hex, two_digits}
use Rattle.text_base.specs.Fields.{line_of}
use Rattle.board_terms.specs.Numbers.{refusal_number}
use Rattle.board_terms.specs.declared.notices.Notice.{Notice}
use Rattle.board_terms.specs.declared.notices.Notice.TheVariants as notices
use Rattle.synic_board.specs.declared.event.Reply.{Reply}
use Rattle.synic_board.specs.declared.event.Reply.TheVariants as replies
use Rattle.board_terms.specs.declared.pages.Owner.{Owner}
use Rattle.board_terms.specs.declared.pages.Owner.TheVariants as owners
use Rattle.lapic_core.specs.Vectors.{Vectors}
use Rattle.synic_board.specs.Summaries.{Values}
use Rattle.text_lines.specs.Events.{bytes_text}

-- lines, each with its line feed
abbrev pub text_of : List (List (List ℕ)) → List ℕ
text_of [] = []
text_of (fields ∷ lines) = line_of fields ++ text_of lines

abbrev pub vector_or_none : Option ℕ → List ℕ
vector_or_none None = codes "none"
vector_or_none (Some vector) = two_digits vector

abbrev pub reply_fields : Reply → List (List ℕ)
reply_fields replies.Done = codes "=" ∷ codes "done" ∷ []
reply_fields (replies.Value value) = codes "=" ∷ codes "value" ∷ hex value ∷ []
reply_fields (replies.Bytes bytes) = codes "=" ∷ codes "bytes" ∷ bytes_text bytes.items ∷ []
reply_fields (replies.Taken vector) = codes "=" ∷ codes "taken" ∷ vector_or_none vector ∷ []
reply_fields (replies.Accepted ticket) = codes "=" ∷ codes "accepted" ∷ decimal ticket ∷ []
reply_fields replies.FlagWasClear = codes "=" ∷ codes "clear" ∷ []
reply_fields replies.FlagWasSet = codes "=" ∷ codes "set" ∷ []
reply_fields replies.GeneralProtection = codes "=" ∷ codes "general" ∷ codes "protection" ∷ []
reply_fields (replies.Refused refusal) = codes "=" ∷ codes "refused" ∷ decimal (refusal_number refusal) ∷ []

abbrev pub notice_fields : Notice → List (List ℕ)
notice_fields (notices.Accepted vp sint ticket) =
    codes "." ∷ codes "accepted" ∷ decimal ticket ∷ decimal vp ∷ decimal sint ∷ []
notice_fields (notices.Placed vp sint ticket) =
    codes "." ∷ codes "placed" ∷ decimal ticket ∷ decimal vp ∷ decimal sint ∷ []
notice_fields (notices.Pending vp sint) = codes "." ∷ codes "pending" ∷ decimal vp ∷ decimal sint ∷ []
notice_fields (notices.Requested vp vector) = codes "." ∷ codes "requested" ∷ decimal vp ∷ two_digits vector ∷ []
notice_fields (notices.FlagSet vp sint flag) = codes "." ∷ codes "flag" ∷ decimal vp ∷ decimal sint ∷ decimal flag ∷ []
notice_fields (notices.Consumed vp sint ticket) =
    codes "." ∷ codes "consumed" ∷ decimal ticket ∷ decimal vp ∷ decimal sint ∷ []
notice_fields (notices.Withdrawn vp sint ticket) =
    codes "." ∷ codes "withdrawn" ∷ decimal ticket ∷ decimal vp ∷ decimal sint ∷ []
notice_fields (notices.Expired vp index due) =
    codes "." ∷ codes "expired" ∷ decimal vp ∷ decimal index ∷ decimal due ∷ []
notice_fields (notices.Skipped vp index count) =
    codes "." ∷ codes "skipped" ∷ decimal vp ∷ decimal index ∷ decimal count ∷ []

-- A summary. Consecutive items are numbered from n on.
abbrev pub numbered : {A : Type 0} → (ℕ → A → List (List (List ℕ))) → ℕ → List A → List (List (List ℕ))
numbered lines n [] = []
numbered lines n (a ∷ rest) = lines n a ++ numbered lines (n + 1) rest

abbrev pub next_lines : ℕ → Option ℕ → List (List (List ℕ))
next_lines p next = (codes ":" ∷ codes "next" ∷ decimal p ∷ vector_or_none next ∷ []) ∷ []

-- the vectors of a set in ascending order: those of the first n from 16 on
abbrev pub below : ℕ → Vectors → List ℕ
below n vectors = filter (λ (v : ℕ). set.contains vectors v) (map (λ (i : ℕ). 16 + i) (range_with_len 0 n))

abbrev pub ascending : Vectors → List ℕ
ascending vectors = below 240 vectors

abbrev pub auto_fields : ℕ → List ℕ → List (List ℕ)
auto_fields p vectors = codes ":" ∷ codes "auto" ∷ decimal p ∷ map two_digits vectors

abbrev pub auto_line : ℕ → List ℕ → List (List (List ℕ))
auto_line p [] = []
auto_line p (v ∷ vectors) = auto_fields p (v ∷ vectors) ∷ []

abbrev pub auto_lines : ℕ → Vectors → List (List (List ℕ))
auto_lines p auto = auto_line p (ascending auto)

abbrev pub timer_line : Option (ℕ × (ℕ × ℕ)) → List (List ℕ)
timer_line None = codes ":" ∷ codes "timer" ∷ codes "none" ∷ []
timer_line (Some (due, (vp, index))) = codes ":" ∷ codes "timer" ∷ decimal due ∷ decimal vp ∷ decimal index ∷ []

abbrev pub page_lines : ℕ → Owner → List (List (List ℕ))
page_lines page owners.Guest = []
page_lines page (owners.Sim vp) = (codes ":" ∷ codes "page" ∷ decimal page ∷ codes "sim" ∷ decimal vp ∷ []) ∷ []
page_lines page (owners.Sief vp) = (codes ":" ∷ codes "page" ∷ decimal page ∷ codes "sief" ∷ decimal vp ∷ []) ∷ []
page_lines page owners.Nothing = []

-- the queues are numbered by processor and then source
abbrev pub queue_line : ℕ → ℕ → List (List ℕ)
queue_line place count = codes ":" ∷ codes "queue" ∷ decimal (place / 16) ∷ decimal (place % 16) ∷ decimal count ∷ []

abbrev pub queue_lines : ℕ → ℕ → List (List (List ℕ))
queue_lines place count = if count == 0 then [] else queue_line place count ∷ []

abbrev pub summary_lines : Values → List (List (List ℕ))
summary_lines values =
    numbered next_lines 0 values.nexts
    ++ (numbered auto_lines 0 values.autos
    ++ (timer_line values.earliest
    ∷ (numbered page_lines 0 values.owners
    ++ numbered queue_lines 0 values.queued)))
