-- What holds between any two steps holds in any run.
use Rattle.std.proofs.Common.{◌≡◌, ◌⊎◌, inl, inr, ℕ, ◌-◌, ◌+◌, ◌^◌, Bool, true, false, List, [], ◌∷◌, ◌++◌, refl, ap, ◌∙◌, arith}
use Rattle.std.specs.Prelude.{not, ◌&&◌, ◌||◌, if◌then◌else◌, bit_or}
use Rattle.live_pages.specs.Words.{type_of, is_pending, pending_mask}
use Rattle.live_pages.specs.Headers.{is_occupied}
use Rattle.law_slots.specs.Slots.{Slot, Step, HostAt, host_is, idle, looking, marking, late_looking, late_marking, filling, storing, careful, after_mark, owed_after_mark, is_any, rest, without, may, after, are_steps, led_to, start, can_go_on, can_access, NoMessageWaitsUnseen, AQueueIsNeverStuck, posts, ticks, looks, marks, copies, fills, withdraws, observes, resets, takes, clears, drains, fences, sees, ends, asks, pays}
use Rattle.law_slots.proofs.Kept as k
use Rattle.law_slots.proofs.Kept.{kept}
use Rattle.law_slots.proofs.Headers.{mark-occupied, mark-pending, clear-occupied, clear-pending, flag-is, both}

abbrev pub is-kept : Slot → Bool
is-kept s = kept (is_occupied s.header) (is_pending s.header) s.buffered (is_any s.queue) s.host s.guest s.owed

pub some-after : (q : List ℕ) (t : ℕ) (ts : List ℕ) → is_any (q ++ t ∷ ts) ≡ true
some-after [] t ts = refl
some-after (x ∷ q) t ts = refl

pub some-before : (n : ℕ) (q : List ℕ) → is_any (without n q) ≡ true → is_any q ≡ true
some-before n [] e = e
some-before n (t ∷ ts) e = refl

pub preserved : (s : Slot) (x : Step) → is-kept s ≡ true → may careful s x ≡ true
    → is-kept (after careful s x) ≡ true
preserved s (posts t) e m =
    ap (λ q. kept (is_occupied s.header) (is_pending s.header) s.buffered q looking s.guest s.owed)
    (some-after s.queue t [])
    ∙ k.by-call (is_occupied s.header) (is_pending s.header) s.buffered (is_any s.queue) s.host s.guest s.owed e m
preserved s (ticks t ts) e m =
    ap (λ q. kept (is_occupied s.header) (is_pending s.header) s.buffered q late_looking s.guest s.owed)
    (some-after s.queue t ts)
    ∙ k.by-tick (is_occupied s.header) (is_pending s.header) s.buffered (is_any s.queue) s.host s.guest s.owed e m
preserved s looks e m =
    k.by-look (is_occupied s.header) (is_pending s.header) s.buffered (is_any s.queue) s.host s.guest s.owed e m
preserved s marks e m =
    ap (λ o. kept o (is_pending (bit_or s.header pending_mask)) s.buffered (is_any s.queue)
    (after_mark careful s.host (is_occupied s.header)) s.guest
    (owed_after_mark careful s.host (is_occupied s.header) s.owed)) (mark-occupied s.header)
    ∙ ap (λ p. kept (is_occupied s.header) p s.buffered (is_any s.queue)
    (after_mark careful s.host (is_occupied s.header)) s.guest
    (owed_after_mark careful s.host (is_occupied s.header) s.owed)) (mark-pending s.header)
    ∙ k.by-mark (is_occupied s.header) (is_pending s.header) s.buffered (is_any s.queue) s.host s.guest s.owed e m
preserved s copies e m =
    k.by-copy (is_occupied s.header) (is_pending s.header) s.buffered (is_any s.queue) s.host s.guest s.owed e m
preserved s (fills w) e m =
    let parts = both (host_is s.host storing && is_any s.queue)
    (is_occupied w && (if is_any (rest s.queue) then is_pending w else not (is_pending w))) m in
    let at = both (host_is s.host storing) (is_any s.queue) parts.0 in
    let word = both (is_occupied w) (if is_any (rest s.queue) then is_pending w else not (is_pending w)) parts.1 in
    ap (λ o. kept o (is_pending w) s.buffered (is_any (rest s.queue)) idle s.guest s.owed) word.0
    ∙ ap (λ p. kept true p s.buffered (is_any (rest s.queue)) idle s.guest s.owed)
    (flag-is (is_any (rest s.queue)) (is_pending w) word.1)
    ∙ k.by-fill (is_occupied s.header) (is_pending s.header) s.buffered (is_any s.queue) (is_any (rest s.queue)) s.host
    s.guest s.owed e at.0
preserved s (withdraws n) e m =
    k.by-withdrawal (is_occupied s.header) (is_pending s.header) s.buffered (is_any s.queue)
    (is_any (without n s.queue)) s.host s.guest s.owed e m (some-before n s.queue)
preserved s observes e m = e
preserved s resets e m =
    k.by-reset (is_occupied s.header) (is_pending s.header) s.buffered (is_any s.queue) s.host s.guest s.owed e m
preserved s takes e m =
    k.by-take (is_occupied s.header) (is_pending s.header) s.buffered (is_any s.queue) s.host s.guest s.owed e m
preserved s clears e m =
    k.by-clear (is_occupied s.header) (is_pending s.header) s.buffered (is_any s.queue) s.host s.guest s.owed e m
preserved s drains e m =
    ap (λ o. kept o (is_pending (s.header - type_of s.header)) false (is_any s.queue) s.host s.guest s.owed)
    (clear-occupied s.header)
    ∙ ap (λ p. kept false p false (is_any s.queue) s.host s.guest s.owed) (clear-pending s.header)
    ∙ k.by-drain (is_occupied s.header) (is_pending s.header) s.buffered (is_any s.queue) s.host s.guest s.owed e m
preserved s fences e m =
    k.by-fence (is_occupied s.header) (is_pending s.header) s.buffered (is_any s.queue) s.host s.guest s.owed e m
preserved s sees e m =
    k.by-sight (is_occupied s.header) (is_pending s.header) s.buffered (is_any s.queue) s.host s.guest s.owed e m
preserved s ends e m =
    k.by-end (is_occupied s.header) (is_pending s.header) s.buffered (is_any s.queue) s.host s.guest s.owed e m
preserved s asks e m =
    k.by-eom (is_occupied s.header) (is_pending s.header) s.buffered (is_any s.queue) s.host s.guest s.owed s.owed e m
preserved s pays e m =
    let parts = both s.owed (host_is s.host idle) m in
    k.by-eom (is_occupied s.header) (is_pending s.header) s.buffered (is_any s.queue) s.host s.guest s.owed false e
    parts.1

pub always : (s : Slot) (steps : List Step) → is-kept s ≡ true → are_steps careful s steps ≡ true
    → is-kept (led_to careful s steps) ≡ true
always s [] e m = e
always s (x ∷ xs) e m =
    let parts = both (may careful s x) (are_steps careful (after careful s x) xs) m in
    always (after careful s x) xs (preserved s x e parts.0) parts.1

pub kept-in-a-run : (steps : List Step) → are_steps careful start steps ≡ true
    → is-kept (led_to careful start steps) ≡ true
kept-in-a-run steps m = always start steps refl m

pub no_message_waits_unseen : NoMessageWaitsUnseen
no_message_waits_unseen steps m =
    let s = led_to careful start steps in
    k.seen (is_occupied s.header) (is_pending s.header) s.buffered (is_any s.queue) s.host s.guest s.owed
    (kept-in-a-run steps m)

-- the host's next access
abbrev Accesses : Slot → Type 0
Accesses s = (x : Step) × (can_access careful s x ≡ true)

host-moves : (q : List ℕ) (s : Slot) → s.queue ≡ q → is_any q ≡ true → (h : HostAt) → s.host ≡ h
    → (host_is h idle ≡ true) ⊎ Accesses s
host-moves q s e some idle h = inl refl
host-moves q s e some looking h = inr (looks, ap (λ h. host_is h looking || host_is h late_looking) h)
host-moves q s e some late_looking h = inr (looks, ap (λ h. host_is h looking || host_is h late_looking) h)
host-moves q s e some marking h = inr (marks, ap (λ h. host_is h marking || host_is h late_marking) h)
host-moves q s e some late_marking h = inr (marks, ap (λ h. host_is h marking || host_is h late_marking) h)
host-moves q s e some filling h = inr (copies, ap (λ h. host_is h filling) h)
host-moves [] s e some storing h = inr (fills 1, grind arith)
host-moves (t ∷ []) s e some storing h =
    inr (
      fills 1,
      ap (λ h. (host_is h storing && is_any s.queue)
          && (true && (if is_any (rest s.queue) then false else true))) h
          ∙ ap (λ q. is_any q && (if is_any (rest q) then false else true)) e,
    )
host-moves (t ∷ u ∷ ts) s e some storing h =
    inr (
      fills (2 ^ 40 + 1),
      ap (λ h. (host_is h storing && is_any s.queue)
          && (true && (if is_any (rest s.queue) then true else false))) h
          ∙ ap (λ q. is_any q && (if is_any (rest q) then true else false)) e,
    )

either : (s : Slot) → (host_is s.host idle ≡ true → can_go_on careful s ≡ true)
    → (host_is s.host idle ≡ true) ⊎ Accesses s
    → ((host_is s.host idle ≡ true) × (can_go_on careful s ≡ true)) ⊎ Accesses s
either s g (inl i) = inl (i, g i)
either s g (inr a) = inr a

pub never_stuck : AQueueIsNeverStuck
never_stuck steps m some =
    let s = led_to careful start steps in
    either s
    (λ i. k.goes-on (is_occupied s.header) (is_pending s.header) s.buffered (is_any s.queue) s.host s.guest s.owed
    (kept-in-a-run steps m) i some)
    (host-moves s.queue s refl some s.host refl)
