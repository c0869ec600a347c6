-- The output of one more line.
use Rattle.std.proofs.Common.{◌≡◌, ◌≤◌, le-ltb, ap, ◌∙◌, codes, ℕ, ◌+◌, List, [], ◌∷◌, ◌++◌, length, refl, cond, Bool, true, false, not, ◌||◌, nat_lt, Option, None, Some, is_some}
use Rattle.std.specs.List.{cons_option}
use Rattle.std.specs.Option.{option_map}
use Rattle.std.specs.Str.{bytes_eq}
use Rattle.synic_board.specs.declared.event.Event.{Event}
use Rattle.text_lines.specs.Items.{Item, Opening, Performs, Summary}
use Rattle.text_lines.specs.Reading.{Fields, none_left, parse_opening, opening_item, parse_event, parse_item, item_at}
use Rattle.text_lines.specs.Sizes.{AreBoardSizes, are_sizes}
use Rattle.text_lines.proofs.ReadLemmas.{IsOther, other-word}
use Rattle.text_lines.proofs.SizeLemmas.{sizes-are}
use Rattle.text_script.specs.Script.{item_in, is_skipped, item_fault, line_fault, opens, good_items, first_fault}
use Rattle.text_script.specs.Output.{Machine, answers, output_from, machine_from, machine_after_lines}
use Rattle.text_base.specs.Fields.{fields_of}
use Rattle.text_driver.proofs.Silent.{silent}
use Rattle.text_driver.specs.Judging.{Judges, Answers}
use Rattle.text_driver.specs.declared.judge.Taken.{Taken}
use Rattle.text_driver.specs.declared.judge.Taken.TheVariants as taken
use Rattle.text_script.specs.inside.Judging.{after_maybe, answer_maybe, AnswersItem, PutsAnswer, PassesItem, IsAnswered, Advances, IsFaulty}
use Rattle.text_lines.specs.declared.fault.ScriptFault.{ScriptFault}
use Rattle.text_lines.specs.declared.fault.ScriptFault.TheVariants as faults

opens_by : (long skip : Bool) (machine : Machine) (item : Option Item)
    → cond long (Some faults.Long) (cond skip None (item_fault (is_some machine) item)) ≡ None →
    is_some (after_maybe machine (cond skip None item)) ≡ (is_some machine || not skip)
opens_by true skip machine item e = cc
opens_by false true None item e = refl
opens_by false true (Some s) item e = refl
opens_by false false None None e = cc
opens_by false false None (Some (Opening n g f)) e = refl
opens_by false false None (Some (Performs event)) e = cc
opens_by false false None (Some Summary) e = cc
opens_by false false (Some s) None e = cc
opens_by false false (Some s) (Some (Opening n g f)) e = cc
opens_by false false (Some s) (Some (Performs event)) e = refl
opens_by false false (Some s) (Some Summary) e = refl

opens-after : (machine : Machine) (line : List ℕ) → line_fault (is_some machine) line ≡ None
    → is_some (after_maybe machine (item_in line)) ≡ opens (is_some machine) line
opens-after machine line e = opens_by (nat_lt 640 (length line)) (is_skipped line) machine (item_at line) e

pub output_from-line : (machine : Machine) (line : List ℕ) (lines : List (List ℕ))
    → line_fault (is_some machine) line ≡ None →
    output_from machine (line ∷ lines)
    ≡ answer_maybe machine (item_in line) ++ output_from (after_maybe machine (item_in line)) lines
output_from-line machine line lines e = rw (opens-after machine line e, e) (by_item (item_in line))
  where
    rest : List Item
    rest = good_items (opens (is_some machine) line) lines

    by_item : (item : Option Item)
        → answers machine (cons_option item rest) ≡ answer_maybe machine item ++ answers (after_maybe machine item) rest
    by_item None = refl
    by_item (Some item) = refl

pub machine-line : (machine : Machine) (line : List ℕ) (lines : List (List ℕ))
    → line_fault (is_some machine) line ≡ None →
    machine_after_lines machine (line ∷ lines) ≡ machine_after_lines (after_maybe machine (item_in line)) lines
machine-line machine line lines e = rw (opens-after machine line e, e) (by_item (item_in line))
  where
    rest : List Item
    rest = good_items (opens (is_some machine) line) lines

    by_item : (item : Option Item)
        → machine_from machine (cons_option item rest) ≡ machine_from (after_maybe machine item) rest
    by_item None = refl
    by_item (Some item) = refl

pub first_fault-line : (k : ℕ) (machine : Machine) (line : List ℕ) (lines : List (List ℕ)) (rest : List ℕ)
    → line_fault (is_some machine) line ≡ None →
    first_fault k (is_some machine) (line ∷ lines) rest
    ≡ first_fault (k + 1) (is_some (after_maybe machine (item_in line))) lines rest
first_fault-line k machine line lines rest e = rw (opens-after machine line e, e) refl

pub output_from-bad : (machine : Machine) (line : List ℕ) (lines : List (List ℕ)) (fault : ScriptFault)
    → line_fault (is_some machine) line ≡ Some fault → output_from machine (line ∷ lines) ≡ []
output_from-bad machine line lines fault e = rw e refl

pub first_fault-bad : (k : ℕ) (opened : Bool) (line : List ℕ) (lines : List (List ℕ)) (rest : List ℕ)
    (fault : ScriptFault) → line_fault opened line ≡ Some fault →
    first_fault k opened (line ∷ lines) rest ≡ Some (k, fault)
first_fault-bad k opened line lines rest fault e = rw e refl

judged : (opened : Bool) (line : List ℕ) (item : Option Item) → length line ≤ 640 → is_skipped line ≡ false
    → item_at line ≡ item →
    (line_fault opened line ≡ item_fault opened item) × (item_in line ≡ item)
judged opened line item short not is = rw (le-ltb 640 (length line) short, not, is) (refl, refl)

judged-line : (opened : Bool) (line : List ℕ) → length line ≤ 640 → is_skipped line ≡ false →
    (line_fault opened line ≡ item_fault opened (parse_item (fields_of line)))
    × (item_in line ≡ parse_item (fields_of line))
unfolding item_at
judged-line opened line short not = judged opened line (parse_item (fields_of line)) short not refl

-- the answer to the item is the answer to the line
answers-line : (result : Taken ScriptFault) (line : List ℕ) (old new : Machine) (out : List ℕ) → length line ≤ 640
    → is_skipped line ≡ false →
    AnswersItem result (parse_item (fields_of line)) old new out → Judges IsAnswered IsFaulty result old new line out
answers-line taken.Good line old new out short not h =
    let j = judged-line (is_some old) line short not in rw (j.0, j.1) h
answers-line (taken.Wrong fault) line old new out short not h =
    let j = judged-line (is_some old) line short not in rw j.0 h
answers-line taken.Memory line old new out short not h = tt

-- what was put for the item is what was put for the line
pub puts-line : (result : Taken ScriptFault) (line : List ℕ) (old new : Machine) (before after : List ℕ)
    → length line ≤ 640 → is_skipped line ≡ false →
    PutsAnswer result (parse_item (fields_of line)) old new before after
    → Answers IsAnswered IsFaulty result old new line before after
puts-line result line old new before after short not h =
    let answer = answer_maybe old (parse_item (fields_of line)) in
    (answer, answers-line result line old new answer short not (answered result h.0), h.1)
  where
    answered : (end : Taken ScriptFault) → PassesItem end (parse_item (fields_of line)) old new
        → AnswersItem end (parse_item (fields_of line)) old new (answer_maybe old (parse_item (fields_of line)))
    answered taken.Good passes = (passes, refl)
    answered (taken.Wrong fault) passes = passes
    answered taken.Memory passes = passes

-- the first item has no answer
pub first-line : (result : Taken ScriptFault) (line : List ℕ) (new : Machine) (text : List ℕ) → length line ≤ 640
    → is_skipped line ≡ false → AnswersItem result (parse_item (fields_of line)) None new []
    → Answers IsAnswered IsFaulty result None new line text text
first-line result line new text short not h =
    silent (λ (machine : Machine). machine) IsAnswered IsFaulty result None new line text
    (answers-line result line None new [] short not h)

-- an answered item is one that passes
pub passes-answered : (result : Taken ScriptFault) (item : Option Item) (old new : Machine) (out : List ℕ)
    → AnswersItem result item old new out → PassesItem result item old new
passes-answered taken.Good item old new out h = h.0
passes-answered (taken.Wrong fault) item old new out h = h
passes-answered taken.Memory item old new out h = h

pub passes-line : (result : Taken ScriptFault) (line : List ℕ) (old new : Machine) → length line ≤ 640
    → is_skipped line ≡ false →
    PassesItem result (parse_item (fields_of line)) old new
    → Judges (λ before text answer after. Advances before text after) IsFaulty result old new line []
passes-line taken.Good line old new short not h = let j = judged-line (is_some old) line short not in rw (j.0, j.1) h
passes-line (taken.Wrong fault) line old new short not h = let j = judged-line (is_some old) line short not in rw j.0 h
passes-line taken.Memory line old new short not h = tt

-- a first item that is not a board line
other : (t : Bool) (fs : Fields) (r : Option Event)
    → item_fault false (cond t (none_left Summary fs) (option_map Performs r)) ≡ Some faults.First
other true [] r = refl
other true (field ∷ fs) r = refl
other false fs None = refl
other false fs (Some event) = refl

pub first-other : (fields : Fields) → IsOther (codes "board") fields
    → item_fault false (parse_item fields) ≡ Some faults.First
first-other [] differs = refl
first-other (word ∷ fs) differs =
    ap (λ (t : Bool). item_fault false
    (cond t (opening_item fs)
    (cond (bytes_eq word (codes "summary")) (none_left Summary fs)
    (option_map Performs (parse_event (word ∷ fs))))))
    (other-word word (codes "board") fs differs)
    ∙ other (bytes_eq word (codes "summary")) fs (parse_event (word ∷ fs))

-- neither an event nor a summary, after the board line
again : (t : Bool) (item : Option (ℕ × Option ℕ × ℕ)) (r : Option Event) → r ≡ None →
    item_fault true (cond t (option_map (λ (p : ℕ × Option ℕ × ℕ). Opening p.0 p.1 p.2) item) (option_map Performs r))
    ≡ Some faults.Form
again true None r none = refl
again true (Some opening) r none = refl
again false item r none = ap (λ (e : Option Event). item_fault true (option_map Performs e)) none

pub later-other : (fields : Fields) → parse_event fields ≡ None → IsOther (codes "summary") fields
    → item_fault true (parse_item fields) ≡ Some faults.Form
later-other [] none differs = refl
later-other (word ∷ fs) none differs =
    ap (λ (t : Bool). item_fault true
    (cond (bytes_eq word (codes "board")) (opening_item fs)
    (cond t (none_left Summary fs) (option_map Performs (parse_event (word ∷ fs))))))
    (other-word word (codes "summary") fs differs)
    ∙ again (bytes_eq word (codes "board")) (parse_opening fs) (parse_event (word ∷ fs)) none

-- an opened board has sizes within the limits
sized : (n : ℕ) (g : Option ℕ) (f : ℕ) (t : Bool) → are_sizes n g ≡ t → ((AreBoardSizes n g → ⊥) → ⊥)
    → item_fault false (Some (Opening n g f)) ≡ None
sized n g f true is h = rw is refl
sized n g f false is h = absurd (h (λ sizes. let yes = (sizes-are n g).1 sizes in cc))

pub opened-good : (fs : Fields) (n : ℕ) (g : Option ℕ) (f : ℕ) → Some (n, g, f) ≡ parse_opening fs
    → ((AreBoardSizes n g → ⊥) → ⊥) →
    (item_fault false (opening_item fs) ≡ None) × (opening_item fs ≡ Some (Opening n g f))
opened-good fs n g f said h = rw (← said) (sized n g f (are_sizes n g) refl h, refl)
