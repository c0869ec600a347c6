-- Parsing a line gives the item that the line denotes, and only then.
use Rattle.std.proofs.Common.{◌≡◌, ◌↔◌, ℕ, ◌-◌, ◌<◌, ◌^◌, List, [], ◌∷◌, Option, Some, None, refl, sym, ap, ◌∙◌, cond, arith, Bool, true, false, nat_le, leb-true, le-leb, decimal, codes}
use Rattle.std.specs.Option.{option_map, option_and_then}
use Rattle.std.specs.Str.{bytes_eq}
use Rattle.std.proofs.lemmas.Slice.Eq.{bytes_eq-Decides}
use Rattle.std.proofs.lemmas.List.Splits.{join_with_byte-slice_split}
use Rattle.text_base.specs.Numbers.{hex, two_digits, byte_at}
use Rattle.text_base.specs.Fields.{fields_of, spaced}
use Rattle.text_base.proofs.NumberLemmas.{decimal_at-spelled, decimal_at-only, hex_at-spelled, hex_at-only, byte_at-spelled, byte_at-only}
use Rattle.synic_board.specs.declared.event.Event.{Event}
use Rattle.synic_board.specs.declared.event.Event.TheVariants.{OpenPort, ClosePort, Write, Read, Post, Signal, Assert, Absorb, Store, Load, Tick, Take, Suspend, Resume, Reset, Send}
use Rattle.board_terms.specs.Ranges.{IsVector}
use Rattle.board_terms.specs.declared.messages.PortShape.TheVariants.{Messages, Flags}
use Rattle.text_lines.specs.Events.{event_fields, bytes_text, IsEvent}
use Rattle.text_lines.specs.Items.{Item, Opening, Performs, Summary, pages_field, ArePages, item_fields, IsItem, Denotes}
use Rattle.text_lines.specs.Reading.{Fields, take_then, none_left, u8_at, u16_at, bytes_at, u64_at, hex_u32_at, hex_u64_at, from_16, vector_at, parse_messages, parse_flags, parse_shape, parse_open, parse_close, parse_write, parse_read, parse_post, parse_signal, parse_assert, parse_absorb, parse_store, parse_load, parse_tick, parse_processor, parse_take, parse_suspend, parse_resume, parse_reset, parse_send, pages_at, parse_opening, parse_event, parse_item, item_at}
use Rattle.text_lines.proofs.ByteFields.{bytes_at-only, bytes_at-spelled}

-- A parsed field determines the text before the rest.
pub then-some : {A B : Type 0} (read : List ℕ → Option B) (next : B → Fields → Option A) (fields : Fields) (a : A)
    (P : Type 0) →
    ((field : List ℕ) (n : B) (rest : Fields) → fields ≡ field ∷ rest → read field ≡ Some n → next n rest ≡ Some a
    → P) → take_then read next fields ≡ Some a → P
then-some read next [] a P k e = cc
then-some {A} {B} read next (field ∷ rest) a P k e = go (read field) refl e
  where
    go : (r : Option B) → read field ≡ r
        → option_and_then (λ (p : B × Fields). next p.0 p.1) (option_map (λ (n : B). (n, rest)) r) ≡ Some a → P
    go None is e = cc
    go (Some n) is e = k field n rest refl is e

pub ended-some : {A : Type 0} (a : A) (fields : Fields) (b : A) (P : Type 0) → (fields ≡ [] → a ≡ b → P)
    → none_left a fields ≡ Some b → P
ended-some a [] b P k e = k refl cc
ended-some a (field ∷ fields) b P k e = cc

-- parsed only if the test holds
pub yes : {A : Type 0} (t : Bool) (x y : Option A) (a : A) (P : Type 0) → (t ≡ true → x ≡ Some a → P)
    → (y ≡ Some a → P) → cond t x y ≡ Some a → P
yes true x y a P h k e = h refl e
yes false x y a P h k e = k e

pub mapped : {A B : Type 0} (f : A → B) (x : Option A) (b : B) (P : Type 0) → ((a : A) → x ≡ Some a → f a ≡ b → P)
    → option_map f x ≡ Some b → P
mapped f None b P h e = cc
mapped f (Some a) b P h e = h a refl cc

pub u8-only : (text : List ℕ) (n : ℕ) → u8_at text ≡ Some n → (n < 256) × (text ≡ decimal n)
u8-only text n e = let h = decimal_at-only 255 text n e in let bound = h.0 in (omega arith, h.1)

u16-only : (text : List ℕ) (n : ℕ) → u16_at text ≡ Some n → (n < 65536) × (text ≡ decimal n)
u16-only text n e = let h = decimal_at-only 65535 text n e in let bound = h.0 in (omega arith, h.1)

pub u64-only : (text : List ℕ) (n : ℕ) → u64_at text ≡ Some n → (n < 2 ^ 64) × (text ≡ decimal n)
u64-only text n e = let h = decimal_at-only (2 ^ 64 - 1) text n e in let bound = h.0 in (omega arith, h.1)

pub hex_u32-only : (text : List ℕ) (n : ℕ) → hex_u32_at text ≡ Some n → (n < 2 ^ 32) × (text ≡ hex n)
hex_u32-only text n e = let h = hex_at-only (2 ^ 32 - 1) text n e in let bound = h.0 in (omega arith, h.1)

pub hex_u64-only : (text : List ℕ) (n : ℕ) → hex_u64_at text ≡ Some n → (n < 2 ^ 64) × (text ≡ hex n)
hex_u64-only text n e = let h = hex_at-only (2 ^ 64 - 1) text n e in let bound = h.0 in (omega arith, h.1)

-- the word of a sparse board is no number
sparse-only : (text : List ℕ) (g : Option ℕ) → text ≡ codes "sparse" → Some None ≡ Some g → ArePages g
    × (text ≡ pages_field g)
sparse-only text None same e = (tt, same)
sparse-only text (Some n) same e = cc

counted-only : (text : List ℕ) (g r : Option ℕ) → u8_at text ≡ r → option_map (λ (n : ℕ). Some n) r ≡ Some g
    → ArePages g × (text ≡ pages_field g)
counted-only text g None is e = cc
counted-only text None (Some n) is e = cc
counted-only text (Some m) (Some n) is e = let same : n ≡ m = cc in rw (← same) (u8-only text n is)

pub pages-only : (text : List ℕ) (g : Option ℕ) → pages_at text ≡ Some g → ArePages g × (text ≡ pages_field g)
pages-only text g e = go (bytes_eq text (codes "sparse")) refl e
  where
    go : (t : Bool) → bytes_eq text (codes "sparse") ≡ t
        → cond t (Some None) (option_map (λ (n : ℕ). Some n) (u8_at text)) ≡ Some g → ArePages g
        × (text ≡ pages_field g)
    go true is e = sparse-only text g ((bytes_eq-Decides text (codes "sparse")).0 is) e
    go false is e = counted-only text g (u8_at text) refl e

vector-only : (text : List ℕ) (v : ℕ) → vector_at text ≡ Some v → IsVector v × (text ≡ two_digits v)
vector-only text v e = go (byte_at text) refl e
  where
    from : (b : ℕ) (t : Bool) → nat_le 16 b ≡ t → byte_at text ≡ Some b → cond t (Some b) None ≡ Some v → IsVector v
        × (text ≡ two_digits v)
    from b true test is e =
        let same : b ≡ v = cc in let h = byte_at-only text b is in rw (← same) ((leb-true 16 b test, h.0), h.1)
    from b false test is e = cc

    go : (r : Option ℕ) → byte_at text ≡ r → option_and_then from_16 r ≡ Some v → IsVector v × (text ≡ two_digits v)
    go None is e = cc
    go (Some b) is e = from b (nat_le 16 b) refl is e

pub record Says (fields : Fields) (event : Event) : Type 0 where
  pub same : fields ≡ event_fields event
  pub fits : IsEvent event

write-says : (fs : Fields) (event : Event) → parse_write fs ≡ Some event → Says (codes "write" ∷ fs) event
write-says fs event =
    then-some u8_at _ fs event (Says (codes "write" ∷ fs) event) (λ a vp more at read.
    then-some hex_u32_at _ more event (Says (codes "write" ∷ fs) event) (λ b register more' at' read'.
    then-some hex_u64_at _ more' event (Says (codes "write" ∷ fs) event) (λ c value more'' at'' read''.
    ended-some (Write vp register value) more'' event (Says (codes "write" ∷ fs) event) (λ none is.
    let h = u8-only a vp read in let h' = hex_u32-only b register read' in let h'' = hex_u64-only c value read'' in
    rw (at, at', at'', none, h.1, h'.1, h''.1, ← is) (record { same = refl; fits = (h.0, h'.0, h''.0) })))))

read-says : (fs : Fields) (event : Event) → parse_read fs ≡ Some event → Says (codes "read" ∷ fs) event
read-says fs event =
    then-some u8_at _ fs event (Says (codes "read" ∷ fs) event) (λ a vp more at read.
    then-some hex_u32_at _ more event (Says (codes "read" ∷ fs) event) (λ b register more' at' read'.
    ended-some (Read vp register) more' event (Says (codes "read" ∷ fs) event) (λ none is.
    let h = u8-only a vp read in let h' = hex_u32-only b register read' in
    rw (at, at', none, h.1, h'.1, ← is) (record { same = refl; fits = (h.0, h'.0) }))))

assert-says : (fs : Fields) (event : Event) → parse_assert fs ≡ Some event → Says (codes "assert" ∷ fs) event
assert-says fs event =
    then-some u8_at _ fs event (Says (codes "assert" ∷ fs) event) (λ a vp more at read.
    then-some vector_at _ more event (Says (codes "assert" ∷ fs) event) (λ b vector more' at' read'.
    ended-some (Assert vp vector) more' event (Says (codes "assert" ∷ fs) event) (λ none is.
    let h = u8-only a vp read in let h' = vector-only b vector read' in
    rw (at, at', none, h.1, h'.1, ← is) (record { same = refl; fits = (h.0, h'.0) }))))

absorb-says : (fs : Fields) (event : Event) → parse_absorb fs ≡ Some event → Says (codes "absorb" ∷ fs) event
absorb-says fs event =
    then-some u8_at _ fs event (Says (codes "absorb" ∷ fs) event) (λ a vp more at read.
    then-some u8_at _ more event (Says (codes "absorb" ∷ fs) event) (λ b part more' at' read'.
    then-some hex_u64_at _ more' event (Says (codes "absorb" ∷ fs) event) (λ c bits more'' at'' read''.
    ended-some (Absorb vp part bits) more'' event (Says (codes "absorb" ∷ fs) event) (λ none is.
    let h = u8-only a vp read in let h' = u8-only b part read' in let h'' = hex_u64-only c bits read'' in
    rw (at, at', at'', none, h.1, h'.1, h''.1, ← is) (record { same = refl; fits = (h.0, h'.0, h''.0) })))))

processor-says : (fs : Fields) (vp : ℕ) → parse_processor fs ≡ Some vp → (fs ≡ decimal vp ∷ []) × (vp < 256)
processor-says fs vp =
    then-some u8_at none_left fs vp ((fs ≡ decimal vp ∷ []) × (vp < 256)) (λ a n more at read.
    ended-some n more vp ((fs ≡ decimal vp ∷ []) × (vp < 256)) (λ none is.
    let h = u8-only a n read in
    rw (at, none, h.1, ← is) (refl, h.0)))

take-says : (fs : Fields) (event : Event) → parse_take fs ≡ Some event → Says (codes "take" ∷ fs) event
take-says fs event = mapped Take (parse_processor fs) event (Says (codes "take" ∷ fs) event)
    (λ vp said same. let h = processor-says fs vp said in rw (h.0, ← same) (record { same = refl; fits = h.1 }))

suspend-says : (fs : Fields) (event : Event) → parse_suspend fs ≡ Some event → Says (codes "suspend" ∷ fs) event
suspend-says fs event = mapped Suspend (parse_processor fs) event (Says (codes "suspend" ∷ fs) event)
    (λ vp said same. let h = processor-says fs vp said in rw (h.0, ← same) (record { same = refl; fits = h.1 }))

resume-says : (fs : Fields) (event : Event) → parse_resume fs ≡ Some event → Says (codes "resume" ∷ fs) event
resume-says fs event = mapped Resume (parse_processor fs) event (Says (codes "resume" ∷ fs) event)
    (λ vp said same. let h = processor-says fs vp said in rw (h.0, ← same) (record { same = refl; fits = h.1 }))

reset-says : (fs : Fields) (event : Event) → parse_reset fs ≡ Some event → Says (codes "reset" ∷ fs) event
reset-says fs event = mapped Reset (parse_processor fs) event (Says (codes "reset" ∷ fs) event)
    (λ vp said same. let h = processor-says fs vp said in rw (h.0, ← same) (record { same = refl; fits = h.1 }))

send-says : (fs : Fields) (event : Event) → parse_send fs ≡ Some event → Says (codes "send" ∷ fs) event
send-says fs event =
    then-some vector_at _ fs event (Says (codes "send" ∷ fs) event) (λ a vector more at read.
    then-some hex_u64_at _ more event (Says (codes "send" ∷ fs) event) (λ b mask more' at' read'.
    ended-some (Send vector mask) more' event (Says (codes "send" ∷ fs) event) (λ none is.
    let h = vector-only a vector read in let h' = hex_u64-only b mask read' in
    rw (at, at', none, h.1, h'.1, ← is) (record { same = refl; fits = (h.0, h'.0) }))))

messages-says : (port : ℕ) → port < 256 → (fs : Fields) (event : Event) → parse_messages port fs ≡ Some event
    → Says (codes "open" ∷ decimal port ∷ codes "message" ∷ fs) event
messages-says port in_range fs event =
    then-some u8_at _ fs event (Says (codes "open" ∷ decimal port ∷ codes "message" ∷ fs) event) (λ a vp more at read.
    then-some u8_at _ more event (Says (codes "open" ∷ decimal port ∷ codes "message" ∷ fs) event)
    (λ b sint more' at' read'.
    then-some u8_at _ more' event (Says (codes "open" ∷ decimal port ∷ codes "message" ∷ fs) event)
    (λ c buffers more'' at'' read''.
    ended-some (OpenPort port vp sint (Messages buffers)) more'' event
    (Says (codes "open" ∷ decimal port ∷ codes "message" ∷ fs) event) (λ none is.
    let h = u8-only a vp read in let h' = u8-only b sint read' in let h'' = u8-only c buffers read'' in
    rw (at, at', at'', none, h.1, h'.1, h''.1, ← is) (record { same = refl; fits = (in_range, h.0, h'.0, h''.0) })))))

flags-says : (port : ℕ) → port < 256 → (fs : Fields) (event : Event) → parse_flags port fs ≡ Some event
    → Says (codes "open" ∷ decimal port ∷ codes "event" ∷ fs) event
flags-says port in_range fs event =
    then-some u8_at _ fs event (Says (codes "open" ∷ decimal port ∷ codes "event" ∷ fs) event) (λ a vp more at read.
    then-some u8_at _ more event (Says (codes "open" ∷ decimal port ∷ codes "event" ∷ fs) event)
    (λ b sint more' at' read'.
    then-some u16_at _ more' event (Says (codes "open" ∷ decimal port ∷ codes "event" ∷ fs) event)
    (λ c base more'' at'' read''.
    then-some u16_at _ more'' event (Says (codes "open" ∷ decimal port ∷ codes "event" ∷ fs) event)
    (λ d count more''' at''' read'''.
    ended-some (OpenPort port vp sint (Flags base count)) more''' event
    (Says (codes "open" ∷ decimal port ∷ codes "event" ∷ fs) event) (λ none is.
    let h = u8-only a vp read in let h' = u8-only b sint read' in let h'' = u16-only c base read'' in
    let h''' = u16-only d count read''' in
    rw (at, at', at'', at''', none, h.1, h'.1, h''.1, h'''.1, ← is)
    (record { same = refl; fits = (in_range, h.0, h'.0, (h''.0, h'''.0)) }))))))

close-says : (fs : Fields) (event : Event) → parse_close fs ≡ Some event → Says (codes "close" ∷ fs) event
close-says fs event =
    then-some u8_at _ fs event (Says (codes "close" ∷ fs) event) (λ a port more at read.
    ended-some (ClosePort port) more event (Says (codes "close" ∷ fs) event) (λ none is.
    let h = u8-only a port read in
    rw (at, none, h.1, ← is) (record { same = refl; fits = h.0 })))

post-says : (fs : Fields) (event : Event) → parse_post fs ≡ Some event → Says (codes "post" ∷ fs) event
post-says fs event =
    then-some u8_at _ fs event (Says (codes "post" ∷ fs) event) (λ a port more at read.
    then-some hex_u32_at _ more event (Says (codes "post" ∷ fs) event) (λ b kind more' at' read'.
    then-some (bytes_at 240) _ more' event (Says (codes "post" ∷ fs) event) (λ c payload more'' at'' read''.
    ended-some (Post port kind (record { items = payload })) more'' event (Says (codes "post" ∷ fs) event) (λ none is.
    let h = u8-only a port read in let h' = hex_u32-only b kind read' in let h'' = bytes_at-only 240 c payload read'' in
    rw (at, at', at'', none, h.1, h'.1, h''.same, ← is) (record { same = refl; fits = (h.0, h'.0, h''.bound) })))))

signal-says : (fs : Fields) (event : Event) → parse_signal fs ≡ Some event → Says (codes "signal" ∷ fs) event
signal-says fs event =
    then-some u8_at _ fs event (Says (codes "signal" ∷ fs) event) (λ a port more at read.
    then-some u16_at _ more event (Says (codes "signal" ∷ fs) event) (λ b flag more' at' read'.
    ended-some (Signal port flag) more' event (Says (codes "signal" ∷ fs) event) (λ none is.
    let h = u8-only a port read in let h' = u16-only b flag read' in
    rw (at, at', none, h.1, h'.1, ← is) (record { same = refl; fits = (h.0, h'.0) }))))

store-says : (fs : Fields) (event : Event) → parse_store fs ≡ Some event → Says (codes "store" ∷ fs) event
store-says fs event =
    then-some hex_u64_at _ fs event (Says (codes "store" ∷ fs) event) (λ a address more at read.
    then-some (bytes_at 8) _ more event (Says (codes "store" ∷ fs) event) (λ b bytes more' at' read'.
    ended-some (Store address (record { items = bytes })) more' event (Says (codes "store" ∷ fs) event) (λ none is.
    let h = hex_u64-only a address read in let h' = bytes_at-only 8 b bytes read' in
    rw (at, at', none, h.1, h'.same, ← is) (record { same = refl; fits = (h.0, h'.bound) }))))

load-says : (fs : Fields) (event : Event) → parse_load fs ≡ Some event → Says (codes "load" ∷ fs) event
load-says fs event =
    then-some hex_u64_at _ fs event (Says (codes "load" ∷ fs) event) (λ a address more at read.
    then-some u8_at _ more event (Says (codes "load" ∷ fs) event) (λ b count more' at' read'.
    ended-some (Load address count) more' event (Says (codes "load" ∷ fs) event) (λ none is.
    let h = hex_u64-only a address read in let h' = u8-only b count read' in
    rw (at, at', none, h.1, h'.1, ← is) (record { same = refl; fits = (h.0, h'.0) }))))

tick-says : (fs : Fields) (event : Event) → parse_tick fs ≡ Some event → Says (codes "tick" ∷ fs) event
tick-says fs event =
    then-some u64_at _ fs event (Says (codes "tick" ∷ fs) event) (λ a moment more at read.
    ended-some (Tick moment) more event (Says (codes "tick" ∷ fs) event) (λ none is.
    let h = u64-only a moment read in
    rw (at, none, h.1, ← is) (record { same = refl; fits = h.0 })))

-- the word is this one
pub worded : (P : List ℕ → Type 0) (word key : List ℕ) → bytes_eq word key ≡ true → P key → P word
worded P word key is h = rw ((bytes_eq-Decides word key).0 is) h

shape-says : (port : ℕ) → port < 256 → (fs : Fields) (event : Event) → parse_shape port fs ≡ Some event
    → Says (codes "open" ∷ decimal port ∷ fs) event
shape-says port in_range [] event e = cc
shape-says port in_range (word ∷ fs) event e =
    yes (bytes_eq word (codes "message")) (parse_messages port fs) _ event
    (Says (codes "open" ∷ decimal port ∷ word ∷ fs) event)
    (λ is e. worded (λ w. Says (codes "open" ∷ decimal port ∷ w ∷ fs) event) word (codes "message") is
    (messages-says port in_range fs event e))
    (yes (bytes_eq word (codes "event")) (parse_flags port fs) None event
    (Says (codes "open" ∷ decimal port ∷ word ∷ fs) event)
    (λ is e. worded (λ w. Says (codes "open" ∷ decimal port ∷ w ∷ fs) event) word (codes "event") is
    (flags-says port in_range fs event e)) (λ e. cc)) e

open-says : (fs : Fields) (event : Event) → parse_open fs ≡ Some event → Says (codes "open" ∷ fs) event
open-says fs event =
    then-some u8_at parse_shape fs event (Says (codes "open" ∷ fs) event) (λ a port more at read said.
    let h = u8-only a port read in
    rw (at, h.1) (shape-says port h.0 more event said))

pub event-says : (fs : Fields) (event : Event) → parse_event fs ≡ Some event → Says fs event
event-says [] event e = cc
event-says (word ∷ fs) event e =
    yes (bytes_eq word (codes "write")) (parse_write fs) _ event (Says (word ∷ fs) event)
    (λ is e. worded (λ w. Says (w ∷ fs) event) word (codes "write") is (write-says fs event e))
    (yes (bytes_eq word (codes "store")) (parse_store fs) _ event (Says (word ∷ fs) event)
    (λ is e. worded (λ w. Says (w ∷ fs) event) word (codes "store") is (store-says fs event e))
    (yes (bytes_eq word (codes "take")) (parse_take fs) _ event (Says (word ∷ fs) event)
    (λ is e. worded (λ w. Says (w ∷ fs) event) word (codes "take") is (take-says fs event e))
    (yes (bytes_eq word (codes "assert")) (parse_assert fs) _ event (Says (word ∷ fs) event)
    (λ is e. worded (λ w. Says (w ∷ fs) event) word (codes "assert") is (assert-says fs event e))
    (yes (bytes_eq word (codes "tick")) (parse_tick fs) _ event (Says (word ∷ fs) event)
    (λ is e. worded (λ w. Says (w ∷ fs) event) word (codes "tick") is (tick-says fs event e))
    (yes (bytes_eq word (codes "signal")) (parse_signal fs) _ event (Says (word ∷ fs) event)
    (λ is e. worded (λ w. Says (w ∷ fs) event) word (codes "signal") is (signal-says fs event e))
    (yes (bytes_eq word (codes "post")) (parse_post fs) _ event (Says (word ∷ fs) event)
    (λ is e. worded (λ w. Says (w ∷ fs) event) word (codes "post") is (post-says fs event e))
    (yes (bytes_eq word (codes "load")) (parse_load fs) _ event (Says (word ∷ fs) event)
    (λ is e. worded (λ w. Says (w ∷ fs) event) word (codes "load") is (load-says fs event e))
    (yes (bytes_eq word (codes "read")) (parse_read fs) _ event (Says (word ∷ fs) event)
    (λ is e. worded (λ w. Says (w ∷ fs) event) word (codes "read") is (read-says fs event e))
    (yes (bytes_eq word (codes "open")) (parse_open fs) _ event (Says (word ∷ fs) event)
    (λ is e. worded (λ w. Says (w ∷ fs) event) word (codes "open") is (open-says fs event e))
    (yes (bytes_eq word (codes "close")) (parse_close fs) _ event (Says (word ∷ fs) event)
    (λ is e. worded (λ w. Says (w ∷ fs) event) word (codes "close") is (close-says fs event e))
    (yes (bytes_eq word (codes "absorb")) (parse_absorb fs) _ event (Says (word ∷ fs) event)
    (λ is e. worded (λ w. Says (w ∷ fs) event) word (codes "absorb") is (absorb-says fs event e))
    (yes (bytes_eq word (codes "suspend")) (parse_suspend fs) _ event (Says (word ∷ fs) event)
    (λ is e. worded (λ w. Says (w ∷ fs) event) word (codes "suspend") is (suspend-says fs event e))
    (yes (bytes_eq word (codes "resume")) (parse_resume fs) _ event (Says (word ∷ fs) event)
    (λ is e. worded (λ w. Says (w ∷ fs) event) word (codes "resume") is (resume-says fs event e))
    (yes (bytes_eq word (codes "reset")) (parse_reset fs) _ event (Says (word ∷ fs) event)
    (λ is e. worded (λ w. Says (w ∷ fs) event) word (codes "reset") is (reset-says fs event e))
    (yes (bytes_eq word (codes "send")) (parse_send fs) None event (Says (word ∷ fs) event)
    (λ is e. worded (λ w. Says (w ∷ fs) event) word (codes "send") is (send-says fs event e)) (λ e. cc)))))))))))))))) e

-- Parsing what is printed gives it back.
pub u8-spelled : (n : ℕ) → n < 256 → u8_at (decimal n) ≡ Some n
u8-spelled n h = decimal_at-spelled 255 n (omega arith) (omega arith)

sparse-none : u8_at (codes "sparse") ≡ None
sparse-none = refl

pub pages-spelled : (g : Option ℕ) → ArePages g → pages_at (pages_field g) ≡ Some g
pages-spelled None h = refl
pages-spelled (Some n) h = go (bytes_eq (decimal n) (codes "sparse")) refl
  where
    go : (t : Bool) → bytes_eq (decimal n) (codes "sparse") ≡ t
        → cond t (Some None) (option_map (λ (m : ℕ). Some m) (u8_at (decimal n))) ≡ Some (Some n)
    go true is =
        let word = (bytes_eq-Decides (decimal n) (codes "sparse")).0 is in
        let off : Some n ≡ None = sym (u8-spelled n h) ∙ ap u8_at word ∙ sparse-none in cc
    go false is = ap (option_map (λ (m : ℕ). Some m)) (u8-spelled n h)

u16-spelled : (n : ℕ) → n < 65536 → u16_at (decimal n) ≡ Some n
u16-spelled n h = decimal_at-spelled 65535 n (omega arith) (omega arith)

pub u64-spelled : (n : ℕ) → n < 2 ^ 64 → u64_at (decimal n) ≡ Some n
u64-spelled n h = decimal_at-spelled (2 ^ 64 - 1) n (omega arith) (omega arith)

pub hex_u32-spelled : (n : ℕ) → n < 2 ^ 32 → hex_u32_at (hex n) ≡ Some n
hex_u32-spelled n h = hex_at-spelled (2 ^ 32 - 1) n (omega arith) (omega arith)

pub hex_u64-spelled : (n : ℕ) → n < 2 ^ 64 → hex_u64_at (hex n) ≡ Some n
hex_u64-spelled n h = hex_at-spelled (2 ^ 64 - 1) n (omega arith) (omega arith)

vector-spelled : (v : ℕ) → IsVector v → vector_at (two_digits v) ≡ Some v
vector-spelled v h =
    ap (option_and_then from_16) (byte_at-spelled v h.1) ∙ ap (λ (t : Bool). cond t (Some v) None) (le-leb 16 v h.0)

pub then-read : {A B : Type 0} (read : List ℕ → Option B) (next : B → Fields → Option A) (field : List ℕ) (n : B)
    (rest : Fields) → read field ≡ Some n →
    take_then read next (field ∷ rest) ≡ next n rest
then-read {A} {B} read next field n rest e =
    ap (λ (r : Option B). option_and_then (λ (p : B × Fields). next p.0 p.1) (option_map (λ (m : B). (m, rest)) r)) e

processor-spelled : (vp : ℕ) → vp < 256 → parse_processor (decimal vp ∷ []) ≡ Some vp
processor-spelled vp h = then-read u8_at none_left (decimal vp) vp [] (u8-spelled vp h)

pub says-event : (event : Event) → IsEvent event → parse_event (event_fields event) ≡ Some event
says-event (OpenPort port vp sint (Messages buffers)) h =
    then-read u8_at parse_shape (decimal port) port _ (u8-spelled port h.0)
    ∙ then-read u8_at _ (decimal vp) vp _ (u8-spelled vp h.1)
    ∙ then-read u8_at _ (decimal sint) sint _ (u8-spelled sint h.2)
    ∙ then-read u8_at _ (decimal buffers) buffers [] (u8-spelled buffers h.3)
says-event (OpenPort port vp sint (Flags base count)) h =
    then-read u8_at parse_shape (decimal port) port _ (u8-spelled port h.0)
    ∙ then-read u8_at _ (decimal vp) vp _ (u8-spelled vp h.1)
    ∙ then-read u8_at _ (decimal sint) sint _ (u8-spelled sint h.2)
    ∙ then-read u16_at _ (decimal base) base _ (u16-spelled base h.3.0)
    ∙ then-read u16_at _ (decimal count) count [] (u16-spelled count h.3.1)
says-event (ClosePort port) h = then-read u8_at _ (decimal port) port [] (u8-spelled port h)
says-event (Post port kind payload) h = then-read u8_at _ (decimal port) port _ (u8-spelled port h.0)
    ∙ then-read hex_u32_at _ (hex kind) kind _ (hex_u32-spelled kind h.1)
    ∙ then-read (bytes_at 240) _ (bytes_text payload.items) payload.items []
    (bytes_at-spelled 240 payload.items h.2)
says-event (Signal port flag) h =
    then-read u8_at _ (decimal port) port _ (u8-spelled port h.0)
    ∙ then-read u16_at _ (decimal flag) flag [] (u16-spelled flag h.1)
says-event (Store address bytes) h = then-read hex_u64_at _ (hex address) address _ (hex_u64-spelled address h.0)
    ∙ then-read (bytes_at 8) _ (bytes_text bytes.items) bytes.items [] (bytes_at-spelled 8 bytes.items h.1)
says-event (Load address count) h =
    then-read hex_u64_at _ (hex address) address _ (hex_u64-spelled address h.0)
    ∙ then-read u8_at _ (decimal count) count [] (u8-spelled count h.1)
says-event (Tick moment) h = then-read u64_at _ (decimal moment) moment [] (u64-spelled moment h)
says-event (Write vp register value) h = then-read u8_at _ (decimal vp) vp _ (u8-spelled vp h.0)
    ∙ then-read hex_u32_at _ (hex register) register _ (hex_u32-spelled register h.1)
    ∙ then-read hex_u64_at _ (hex value) value [] (hex_u64-spelled value h.2)
says-event (Read vp register) h =
    then-read u8_at _ (decimal vp) vp _ (u8-spelled vp h.0)
    ∙ then-read hex_u32_at _ (hex register) register [] (hex_u32-spelled register h.1)
says-event (Assert vp vector) h =
    then-read u8_at _ (decimal vp) vp _ (u8-spelled vp h.0)
    ∙ then-read vector_at _ (two_digits vector) vector [] (vector-spelled vector h.1)
says-event (Absorb vp part bits) h =
    then-read u8_at _ (decimal vp) vp _ (u8-spelled vp h.0)
    ∙ then-read u8_at _ (decimal part) part _ (u8-spelled part h.1)
    ∙ then-read hex_u64_at _ (hex bits) bits [] (hex_u64-spelled bits h.2)
says-event (Take vp) h = ap (option_map Take) (processor-spelled vp h)
says-event (Suspend vp) h = ap (option_map Suspend) (processor-spelled vp h)
says-event (Resume vp) h = ap (option_map Resume) (processor-spelled vp h)
says-event (Reset vp) h = ap (option_map Reset) (processor-spelled vp h)
says-event (Send vector mask) h =
    then-read vector_at _ (two_digits vector) vector _ (vector-spelled vector h.0)
    ∙ then-read hex_u64_at _ (hex mask) mask [] (hex_u64-spelled mask h.1)

pub record SaysItem (fields : Fields) (item : Item) : Type 0 where
  pub same : fields ≡ item_fields item
  pub fits : IsItem item

pub opening-says : (fs : Fields) (p : ℕ × Option ℕ × ℕ) → parse_opening fs ≡ Some p
    → SaysItem (codes "board" ∷ fs) (Opening p.0 p.1 p.2)
opening-says fs p =
    then-some u8_at _ fs p (SaysItem (codes "board" ∷ fs) (Opening p.0 p.1 p.2)) (λ a n more at read.
    then-some pages_at _ more p (SaysItem (codes "board" ∷ fs) (Opening p.0 p.1 p.2)) (λ b g more' at' read'.
    then-some u64_at _ more' p (SaysItem (codes "board" ∷ fs) (Opening p.0 p.1 p.2)) (λ c f more'' at'' read''.
    ended-some (n, g, f) more'' p (SaysItem (codes "board" ∷ fs) (Opening p.0 p.1 p.2)) (λ none is.
    let h = u8-only a n read in let h' = pages-only b g read' in let h'' = u64-only c f read'' in
    rw (at, at', at'', none, h.1, h'.1, h''.1, ← is) (record { same = refl; fits = (h.0, h'.0, h''.0) })))))

item-says : (fs : Fields) (item : Item) → parse_item fs ≡ Some item → SaysItem fs item
item-says [] item e = cc
item-says (word ∷ fs) item e =
    yes (bytes_eq word (codes "board")) _ _ item (SaysItem (word ∷ fs) item)
    (λ is e. worded (λ w. SaysItem (w ∷ fs) item) word (codes "board") is
    (mapped (λ (p : ℕ × Option ℕ × ℕ). Opening p.0 p.1 p.2) (parse_opening fs) item
    (SaysItem (codes "board" ∷ fs) item) (λ p said same. rw (← same) (opening-says fs p said)) e))
    (yes (bytes_eq word (codes "summary")) (none_left Summary fs) _ item (SaysItem (word ∷ fs) item)
    (λ is e. worded (λ w. SaysItem (w ∷ fs) item) word
    (codes "summary") is (ended-some Summary fs item (SaysItem (codes "summary" ∷ fs) item)
    (λ none same. rw (none, ← same) (record { same = refl; fits = tt })) e))
    (λ e. mapped Performs (parse_event (word ∷ fs)) item (SaysItem (word ∷ fs) item)
    (λ event said same. let h = event-says (word ∷ fs) event said in
    rw (← same) (record { same = h.same; fits = h.fits })) e)) e

pub says-opening : (n : ℕ) (g : Option ℕ) (f : ℕ) → IsItem (Opening n g f)
    → parse_opening (decimal n ∷ pages_field g ∷ decimal f ∷ []) ≡ Some (n, g, f)
says-opening n g f h =
    then-read u8_at _ (decimal n) n _ (u8-spelled n h.0)
    ∙ then-read pages_at _ (pages_field g) g _ (pages-spelled g h.1)
    ∙ then-read u64_at _ (decimal f) f [] (u64-spelled f h.2)

-- the word of an event is none of the others
item-event : (event : Event)
    → parse_item (event_fields event) ≡ option_map Performs (parse_event (event_fields event))
item-event (OpenPort port vp sint (Messages buffers)) = refl
item-event (OpenPort port vp sint (Flags base count)) = refl
item-event event = refl

says-item : (item : Item) → IsItem item → parse_item (item_fields item) ≡ Some item
says-item (Opening n g f) h = ap (option_map (λ (p : ℕ × Option ℕ × ℕ). Opening p.0 p.1 p.2)) (says-opening n g f h)
says-item (Performs event) h = item-event event ∙ ap (option_map Performs) (says-event event h)
says-item Summary h = refl

pub event-item : (fs : Fields) (event : Event) → parse_event fs ≡ Some event → parse_item fs ≡ Some (Performs event)
event-item fs event e = let h = event-says fs event e in ap parse_item h.same ∙ says-item (Performs event) h.fits

-- some fields whose first is not this word
abbrev pub IsOther : List ℕ → Fields → Type 0
IsOther word fields = (rest : Fields) → fields ≡ word ∷ rest → ⊥

pub other-word : (word key : List ℕ) (rest : Fields) → IsOther key (word ∷ rest) → bytes_eq word key ≡ false
other-word word key rest other = by (bytes_eq word key) refl
  where
    by : (t : Bool) → bytes_eq word key ≡ t → t ≡ false
    by false e = refl
    by true e = absurd (other rest (ap (λ (w : List ℕ). w ∷ rest) ((bytes_eq-Decides word key).0 e)))

-- fields that begin with no event's word
pub record NoEvent (fields : Fields) : Type 0 where
  pub not_write : IsOther (codes "write") fields
  pub not_store : IsOther (codes "store") fields
  pub not_take : IsOther (codes "take") fields
  pub not_assert : IsOther (codes "assert") fields
  pub not_tick : IsOther (codes "tick") fields
  pub not_signal : IsOther (codes "signal") fields
  pub not_post : IsOther (codes "post") fields
  pub not_load : IsOther (codes "load") fields
  pub not_read : IsOther (codes "read") fields
  pub not_open : IsOther (codes "open") fields
  pub not_close : IsOther (codes "close") fields
  pub not_absorb : IsOther (codes "absorb") fields
  pub not_suspend : IsOther (codes "suspend") fields
  pub not_resume : IsOther (codes "resume") fields
  pub not_reset : IsOther (codes "reset") fields
  pub not_send : IsOther (codes "send") fields

pub no-event : (fields : Fields) → NoEvent fields → parse_event fields ≡ None
no-event [] other = refl
no-event (word ∷ rest) other =
    rw (
      other-word word (codes "write") rest other.not_write,
      other-word word (codes "store") rest other.not_store,
      other-word word (codes "take") rest other.not_take,
      other-word word (codes "assert") rest other.not_assert,
      other-word word (codes "tick") rest other.not_tick,
      other-word word (codes "signal") rest other.not_signal,
      other-word word (codes "post") rest other.not_post,
      other-word word (codes "load") rest other.not_load,
      other-word word (codes "read") rest other.not_read,
      other-word word (codes "open") rest other.not_open,
      other-word word (codes "close") rest other.not_close,
      other-word word (codes "absorb") rest other.not_absorb,
      other-word word (codes "suspend") rest other.not_suspend,
      other-word word (codes "resume") rest other.not_resume,
      other-word word (codes "reset") rest other.not_reset,
      other-word word (codes "send") rest other.not_send,
    ) refl

pub reading-means : (line : List ℕ) (item : Item) → (item_at line ≡ Some item) ↔ Denotes line item
unfolding item_at
reading-means line item = (
  λ e. let h = item-says (fields_of line) item e in record { fields = h.same; fits = h.fits },
  λ h. ap parse_item h.fields ∙ says-item item h.fits,
)

pub means-one_line : (a b : List ℕ) (item : Item) → Denotes a item → Denotes b item → a ≡ b
means-one_line a b item h k =
    sym (join_with_byte-slice_split 32 a) ∙ ap spaced (h.fields ∙ sym k.fields) ∙ join_with_byte-slice_split 32 b

pub means-one_item : (line : List ℕ) (a b : Item) → Denotes line a → Denotes line b → a ≡ b
means-one_item line a b h k = let is = (reading-means line a).1 h in let is' = (reading-means line b).1 k in cc
