-- The words that a signal changes.
use Rattle.std.proofs.Common.{◌≡◌, ◌≢◌, ◌⊎◌, inl, inr, ℕ, ◌+◌, ◌*◌, ◌/◌, ◌%◌, ◌<◌, ◌≤◌, ◌^◌, Bool, true, false, ◌&&◌, List, [], ◌∷◌, ◌++◌, length, get_or, set, Option, None, Some, Ok, Err, refl, sym, ap, ◌∙◌, subst, arith, nat_lt, length-set, append-nil}
use Rattle.std.specs.Prelude.{not, bit_or, nat_le, if◌then◌else◌}
use Rattle.std.specs.Option.{option_map_or}
use Rattle.std.proofs.lemmas.Bool.{cases_eq, and_parts}
use Rattle.std.proofs.lemmas.Bool.Decides.{nat_tests}
use Rattle.std.proofs.lemmas.List.{get_or-set_same, get_or-set_other}
use Rattle.board_terms.specs.declared.messages.PortShape.{PortShape}
use Rattle.board_terms.specs.declared.messages.PortShape.TheVariants.{Messages, Flags}
use Rattle.board_terms.specs.declared.notices.Notice.{Notice}
use Rattle.board_terms.specs.declared.pages.Kind.{Kind}
use Rattle.board_terms.specs.declared.pages.Kind.TheVariants.{Sief}
use Rattle.board_terms.specs.declared.refusal.Refusal.TheVariants.{UnknownPort, SynicOff, BadFlag}
use Rattle.event_ports.specs.declared.ports.Port.{Port}
use Rattle.event_ports.specs.Shapes.{fits}
use Rattle.event_ports.specs.Ports.{port_at, flag_place_at}
use Rattle.gpa_space.specs.Page.{with_bit, flag_place}
use Rattle.gpa_space.specs.Space.{own_page, overlay_of, is_flag_set}
use Rattle.synic_regs.specs.Regs.{has, enable}
use Rattle.synic_board.specs.declared.event.Event.TheVariants.{Signal}
use Rattle.synic_board.specs.declared.event.Reply.{Reply}
use Rattle.synic_board.specs.declared.event.Reply.TheVariants.{FlagWasSet, FlagWasClear}
use Rattle.synic_board.specs.Ranges.{HasRanges}
use Rattle.synic_board.specs.Sound.{HasShape}
use Rattle.synic_board.specs.Run.{run_of}
use Rattle.synic_board.specs.declared.event.Event.{Event}
use Rattle.synic_board.specs.State.{State, processors, regs_of, space_of, ports_of}
use Rattle.synic_board.specs.Effects.{Outcome, after, answered, unchanged, refused}
use Rattle.synic_board.specs.Interrupts.{raised}
use Rattle.synic_board.specs.Posts.{with_flag, flagged, signalled_place, signalled_at, signalled}
use Rattle.synic_board.specs.Step.{step}
use Rattle.synic_board.proofs.keeping.Requests.{either}
use Rattle.live_board.specs.Words.{word_at, word_of}
use Rattle.live_pages.specs.Words.{known}
use Rattle.live_pages.specs.declared.access.Access.{Access}
use Rattle.live_pages.specs.declared.access.Access.TheVariants.{Store}
use Rattle.live_board.specs.Live.{explained, all_done, IsShown}
use Rattle.live_board.specs.inside.Parts.{IsShadow, IsMark, IsStep, IsPart}
use Rattle.live_board.specs.Signals.{signalled_flag, flag_by}
use Rattle.live_board.proofs.Filled.{stored-here, stored-other}
use Rattle.live_board.proofs.Part.{run-then}
use Rattle.live_board.proofs.Bytes.{bit-here, bit-elsewhere}
use Rattle.live_board.proofs.Tried.{own-raised}

-- an event flags page
abbrev pub flags_of : State → ℕ → List ℕ
flags_of s p = own_page (space_of s) p Sief

-- the own pages after a signal
abbrev pub after_signal : State → ℕ → ℕ → Option ℕ → List (List ℕ)
after_signal s p i None = s.own
after_signal s p i (Some f) = set s.own (2 * p + 1) (with_bit (flags_of s p) (flag_place i f) (f % 8))

placed : (s : State) (p i f : ℕ) → (has (regs_of s p).control enable && has (regs_of s p).sief enable) ≡ true
    → (signalled_place s (p, i, f)).0.own ≡ after_signal s p i (Some f)
placed s p i f on =
    ap (λ b. (if not b then refused s SynicOff else if is_flag_set (space_of s) p i f
    then unchanged (with_flag s p i f) FlagWasSet
    else answered FlagWasClear (after (flagged s p i f) (raised (with_flag s p i f) p i))).0.own) on
    ∙ either (λ (o : Outcome). o.0.own ≡ after_signal s p i (Some f)) (is_flag_set (space_of s) p i f) _ _ (λ _. refl)
    (λ _. own-raised (with_flag s p i f) p i)

off : (s : State) (p i f : ℕ) → (has (regs_of s p).control enable && has (regs_of s p).sief enable) ≡ false
    → (signalled_place s (p, i, f)).0.own ≡ s.own
off s p i f is =
    ap (λ b. (if not b then refused s SynicOff else if is_flag_set (space_of s) p i f
    then unchanged (with_flag s p i f) FlagWasSet
    else answered FlagWasClear (after (flagged s p i f) (raised (with_flag s p i f) p i))).0.own) is

pub own-signalled : (s : State) (number flag : ℕ) (port : Port) → port_at (ports_of s) number ≡ Some port
    → (signalled s number flag).0.own ≡ after_signal s port.vp port.sint (signalled_flag s flag port)
own-signalled s number flag port is =
    ap (λ o. (signalled_at s (option_map_or (λ q. flag_place_at flag q q.shape) o (Err UnknownPort))).0.own) is
    ∙ shaped port.shape
  where
    p : ℕ
    p = port.vp

    i : ℕ
    i = port.sint

    shaped : (shape : PortShape)
        → (signalled_at s (flag_place_at flag (record { vp = p; sint = i; shape = shape }) shape)).0.own
        ≡ after_signal s p i (flag_by s p flag shape)
    shaped (Messages buffers) = refl
    shaped (Flags base count) =
        valid (nat_lt flag count) (has (regs_of s p).control enable && has (regs_of s p).sief enable) refl
      where
        valid : (a b : Bool) → (has (regs_of s p).control enable && has (regs_of s p).sief enable) ≡ b
            → (signalled_at s (if a then Ok (p, i, base + flag) else Err BadFlag)).0.own
            ≡ after_signal s p i (if a && (has (regs_of s p).control enable && has (regs_of s p).sief enable)
            then Some (base + flag) else None)
        valid false b e = refl
        valid true true e =
            placed s p i (base + flag) e
            ∙ ap (λ (b : Bool). after_signal s p i (if b then Some (base + flag) else None)) (sym e)
        valid true false e =
            off s p i (base + flag) e
            ∙ ap (λ (b : Bool). after_signal s p i (if b then Some (base + flag) else None)) (sym e)

pub own-stepped : (s now : State) (number flag : ℕ) (port : Port) (reply : Reply) (ns : List Notice)
    → port_at (ports_of s) number ≡ Some port → (now, reply, ns) ≡ step s (Signal number flag)
    → now.own ≡ after_signal s port.vp port.sint (signalled_flag s flag port)
unfolding step
own-stepped s now number flag port reply ns there is =
    ap (λ (o : Outcome). o.0.own) is ∙ own-signalled s number flag port there

-- the words after a flag is set
pub record SetsFlag (s : State) (p w mask : ℕ) (now : State) : Type 0 where
  pub count : length now.own ≡ length s.own
  pub here : word_of now (2 * p + 1) w ≡ bit_or (word_of s (2 * p + 1) w) mask
  pub others : (j x : ℕ) → (j ≢ 2 * p + 1) ⊎ (x ≢ w) → word_of now j x ≡ word_of s j x

pub sets-flag : (s now : State) (p i f : ℕ) → 2 * p + 1 < length s.own → length (flags_of s p) ≡ 4096 → i < 16
    → f < 2048 → ((b : ℕ) → b < 8 → get_or (flags_of s p) (8 * (32 * i + f / 64) + b) 0 < 256)
    → now.own ≡ after_signal s p i (Some f) → SetsFlag s p (32 * i + f / 64) (2 ^ (f % 64)) now
sets-flag s now p i f inside long under low bytes own = record {
  count = ap length own ∙ length-set s.own o page;
  here = ap (λ l. word_of (record s { own = l }) o w) own
      ∙ ap (λ l. word_at l (8 * w)) (get_or-set_same s.own o page [] inside)
      ∙ ap (λ at. word_at (with_bit (flags_of s p) at (f % 8)) (8 * w)) place
      ∙ bit-here (flags_of s p) w (f / 8 % 8) (f % 8) (omega arith) (omega arith)
      (omega (arith, long, under, low)) bytes
      ∙ ap (λ k. bit_or (word_of s o w) (2 ^ k)) bit;
  others = λ j x ne. ap (λ l. word_of (record s { own = l }) j x) own ∙ elsewhere j x (cases_eq j o) ne;
}
  where
    o : ℕ
    o = 2 * p + 1

    w : ℕ
    w = 32 * i + f / 64

    page : List ℕ
    page = with_bit (flags_of s p) (flag_place i f) (f % 8)

    place : flag_place i f ≡ 8 * w + f / 8 % 8
    place = omega arith

    bit : 8 * (f / 8 % 8) + f % 8 ≡ f % 64
    bit = omega arith

    elsewhere : (j x : ℕ) → (j ≡ o) ⊎ (j ≢ o) → (j ≢ o) ⊎ (x ≢ w)
        → word_of (record s { own = set s.own o page }) j x ≡ word_of s j x
    elsewhere j x (inr ne) apart = ap (λ l. word_at l (8 * x)) (get_or-set_other s.own o j page [] ne)
    elsewhere j x (inl is) (inl ne) = absurd (ne is)
    elsewhere j x (inl is) (inr ne) =
        ap (λ n. word_of (record s { own = set s.own o page }) n x) is
        ∙ ap (λ l. word_at l (8 * x)) (get_or-set_same s.own o page [] inside)
        ∙ bit-elsewhere (flags_of s p) (flag_place i f) (f % 8) x (λ e. ne (omega (arith, e)))
        ∙ ap (λ n. word_of s n x) (sym is)

-- the flags of a port are in range
pub flags-low : (base count flag : ℕ) → fits (Flags base count) ≡ true → flag < count → base + flag < 2048
flags-low base count flag ok low =
    let h : nat_le (base + count) 2048 ≡ true =
    (and_parts (nat_le 1 count) (nat_le (base + count) 2048) ok).1 in let bound : base + count ≤ 2048 =
    grind (arith, nat_tests) in omega (arith, bound, low)

-- a call that changes no own page and accesses none
pub part-untouched : (s now : State) (p : ℕ) (k : Kind) (log : List Access) (event : Event) (reply : Reply)
    (before after : List Notice) → before ≡ [] → IsShadow s (overlay_of p k) log → now.own ≡ s.own
    → IsStep s event now reply before after
    → IsPart s p k log event now log reply after
unfolding run_of
part-untouched s now p k log event reply before after empty shadow own one = record {
  news = [];
  page = refl;
  run = ap (λ (o : Outcome). (o.0, o.1 ∷ [], o.2 ++ [])) (sym one.step)
      ∙ ap (λ (ns : List Notice). (now, reply ∷ [], ns))
      (append-nil one.emitted ∙ sym (one.notices ∙ ap (λ ns. ns ++ one.emitted) empty));
  careful = λ _. tt;
  within = tt;
  hidden = λ _. refl;
  shadow = λ x low. shadow x low ∙ ap (λ l. word_of (record s { own = l }) (overlay_of p k) x) (sym own);
  others = λ j x _ _. ap (λ l. word_of (record s { own = l }) j x) own;
  count = ap length own;
}

-- a flag that was set in the live page, and then signalled
pub part-marked : (s mid now : State) (p : ℕ) (w mask found : ℕ) (log log-mid : List Access) (event : Event)
    (reply : Reply) (before between after : List Notice) → before ≡ [] → w < 512 → IsShadow s (2 * p + 1) log
    → IsMark s p Sief w mask log mid log-mid found before between → IsStep mid event now reply between after
    → SetsFlag mid p w mask now → IsPart s p Sief log event now log-mid reply after
part-marked s mid now p w mask found log log-mid event reply before between after empty low shadow m one f = record {
  news = m.watched.news;
  page = m.watched.page;
  run = run-then s mid now p Sief log log-mid [] event reply m.emitted one.emitted m.watched refl one.step
      ∙ ap (λ (ns : List Notice). (now, all_done (explained s p Sief m.watched.news log) ++ reply ∷ [], ns))
      (sym (one.notices ∙ ap (λ ns. ns ++ one.emitted) (m.notices ∙ ap (λ ns. ns ++ m.emitted) empty)));
  careful = λ _. m.watched.careful;
  within = m.watched.within;
  hidden = m.watched.hidden;
  shadow = λ x small. by x small (cases_eq x w);
  others = λ j x small ne. f.others j x (inl ne) ∙ m.watched.others j x small ne;
  count = f.count ∙ m.watched.count;
}
  where
    by : (x : ℕ) → x < 512 → (x ≡ w) ⊎ (x ≢ w) → known log-mid x ≡ word_of now (2 * p + 1) x
    by x small (inl e) =
        ap (known log-mid) e ∙ m.here ∙ ap (λ n. bit_or n mask) (sym m.word.here) ∙ sym f.here
        ∙ ap (word_of now (2 * p + 1)) (sym e)
    by x small (inr ne) =
        m.others x ne ∙ shadow x small ∙ sym (m.word.others (2 * p + 1) x (inr ne))
        ∙ sym (f.others (2 * p + 1) x (inr ne))

-- a flag that was signalled, and then stored
pub part-stored : (s now : State) (p : ℕ) (w mask : ℕ) (log log-now : List Access) (event : Event) (reply : Reply)
    (before after : List Notice) → before ≡ [] → w < 512 → IsShadow s (2 * p + 1) log
    → IsStep s event now reply before after
    → SetsFlag s p w mask now → log-now ≡ Store w (word_of now (2 * p + 1) w) ∷ log → (IsShown s p Sief → ⊥)
    → IsPart s p Sief log event now log-now reply after
unfolding run_of
part-stored s now p w mask log log-now event reply before after empty low shadow one f is hidden = record {
  news = Store w (word_of now (2 * p + 1) w) ∷ [];
  page = is;
  run = ap (λ (o : Outcome). (o.0, o.1 ∷ [], o.2 ++ [])) (sym one.step)
      ∙ ap (λ (ns : List Notice). (now, reply ∷ [], ns))
      (append-nil one.emitted ∙ sym (one.notices ∙ ap (λ ns. ns ++ one.emitted) empty));
  careful = λ shown. absurd (hidden shown);
  within = tt;
  hidden = λ _. refl;
  shadow = λ x small. ap (λ l. known l x) is ∙ by x small (cases_eq x w);
  others = λ j x small ne. f.others j x (inl ne);
  count = f.count;
}
  where
    by : (x : ℕ) → x < 512 → (x ≡ w) ⊎ (x ≢ w)
        → known (Store w (word_of now (2 * p + 1) w) ∷ log) x ≡ word_of now (2 * p + 1) x
    by x small (inl e) = stored-here w (word_of now (2 * p + 1) w) log x e ∙ ap (word_of now (2 * p + 1)) (sym e)
    by x small (inr ne) =
        stored-other w (word_of now (2 * p + 1) w) log x ne ∙ shadow x small ∙ sym (f.others (2 * p + 1) x (inr ne))

-- the bytes of the word of a flag
pub flag-bytes : (s : State) (p i f : ℕ) → HasShape s → HasRanges s → p < processors s → i < 16 → f < 2048 → (b : ℕ)
    → b < 8 → get_or (flags_of s p) (8 * (32 * i + f / 64) + b) 0 < 256
flag-bytes s p i f shape ranges on under low b small =
    let inside : 2 * p + 1 < length s.own = omega (arith, shape.overlays, on) in
    ranges.own (2 * p + 1) [] inside (8 * (32 * i + f / 64) + b) 0
    (omega (arith, shape.own (2 * p + 1) [] inside, under, low, small))

-- what a signal sets depends on neither own pages nor tickets of slots
pub rest-signalled : (s now : State) (flag : ℕ) (port : Port) → now ≡ record s { own = now.own; slots = now.slots }
    → signalled_flag now flag port ≡ signalled_flag s flag port
rest-signalled s now flag port rest = ap (λ t. signalled_flag t flag port) rest ∙ same port.shape
  where
    same : (shape : PortShape)
        → flag_by (record s { own = now.own; slots = now.slots }) port.vp flag shape ≡ flag_by s port.vp flag shape
    same (Messages buffers) = refl
    same (Flags base count) = refl

pub set-by : (s now : State) (number flag place : ℕ) (port : Port) (reply : Reply) (before after : List Notice)
    → port_at (ports_of s) number ≡ Some port → signalled_flag s flag port ≡ Some place → place < 2048 → port.sint < 16
    → HasShape s → HasRanges s → port.vp < processors s → IsStep s (Signal number flag) now reply before after
    → SetsFlag s port.vp (32 * port.sint + place / 64) (2 ^ (place % 64)) now
set-by s now number flag place port reply before after there is low under shape ranges on one =
    let inside : 2 * port.vp + 1 < length s.own = omega (arith, shape.overlays, on) in
    sets-flag s now port.vp port.sint place inside (shape.own (2 * port.vp + 1) [] inside) under low
    (flag-bytes s port.vp port.sint place shape ranges on under low)
    (own-stepped s now number flag port reply one.emitted there one.step ∙ ap (after_signal s port.vp port.sint) is)

pub mark-at : (s : State) (p : ℕ) (w x mask other : ℕ) (log : List Access) (now : State) (log-now : List Access)
    (found : ℕ) (before after : List Notice) → w ≡ x → mask ≡ other
    → IsMark s p Sief w mask log now log-now found before after
    → IsMark s p Sief x other log now log-now found before after
mark-at s p w x mask other log now log-now found before after e f h =
    subst (λ v. IsMark s p Sief v other log now log-now found before after) e
    (subst (λ v. IsMark s p Sief w v log now log-now found before after) f h)
