-- In a whole run on the words of a page no message waits unseen.
use Rattle.std.proofs.Common.{◌≡◌, ◌⊎◌, inl, inr, ℕ, Bool, true, false, List, [], ◌∷◌, ◌++◌, refl, sym, ap, ◌∙◌, arith, subst, append_assoc}
use Rattle.std.specs.Prelude.{◌==◌, ◌||◌, if◌then◌else◌}
use Rattle.std.proofs.lemmas.Bool.Decides.{nat_tests}
use Rattle.live_pages.specs.Words.{known, is_pending}
use Rattle.live_pages.specs.Traces.{memory, accesses, is_of, is_accessed}
use Rattle.live_pages.specs.declared.access.Turn.{Turn}
use Rattle.live_pages.specs.declared.access.Turn.TheVariants.{ByGuest}
use Rattle.live_pages.specs.declared.access.Access.{Access}
use Rattle.live_pages.specs.Headers.{is_occupied}
use Rattle.law_slots.specs.Slots.{GuestAt, guest_is, ending}
use Rattle.law_slots.specs.Pages.{PageState, Move, Run, Call, Act, touches, takes, clears, drains, fences, sees, writes, alone, calls, is_store_of, is_stored, MayMove, moved, AreMoves, moved_by, access_of, news_of, entered, IsLeftMarked, MayAct, acted, AreActs, acted_by, opened, NoMessageWaitsUnseenInMemory}
use Rattle.law_slots.proofs.Headers.{clear-occupied, clear-pending}
use Rattle.law_slots.proofs.Effects.{effect}
use Rattle.law_slots.proofs.Views as v
use Rattle.law_slots.proofs.Views.{fits, wants, holds}

abbrev pub in-memory : ℕ → PageState → ℕ
in-memory x s = memory s.turns x

abbrev pub as-known : ℕ → PageState → ℕ
as-known x s = known (accesses s.turns) x

abbrev pub is-fit : ℕ → PageState → Bool
is-fit x s = fits (is_occupied (in-memory x s)) (is_occupied (as-known x s)) s.buffered s.guest

abbrev pub wants-of : ℕ → PageState → Bool → Bool
wants-of x s w = wants (is_occupied (in-memory x s)) (is_pending (in-memory x s)) s.guest w

abbrev pub holds-of : ℕ → PageState → Bool
holds-of x s =
    holds (is_occupied (in-memory x s)) (is_pending (in-memory x s)) (is_occupied (as-known x s))
    (is_pending (as-known x s)) s.guest

itself : (x : ℕ) → (x == x) ≡ true
itself x = grind (arith, nat_tests)

or-none : (b : Bool) → (b || false) ≡ false → b ≡ false
or-none b e = grind arith

pub or-one : (b : Bool) → (b || false) ≡ true → b ≡ true
or-one b e = grind arith

or-off : (b : Bool) → (b || false) ≡ b
or-off b = grind arith

-- the header after the guest's store of type 0 has reached memory, and after a write of another word
drained : (x : ℕ) (turns : List Turn) (h : ℕ) → memory (ByGuest x h ∷ turns) x ≡ h
drained x turns h = ap (λ (b : Bool). if b then h else memory turns x) (itself x)

pub beside : (x w h : ℕ) (turns : List Turn) → (x == w) ≡ false → memory (ByGuest w h ∷ turns) x ≡ memory turns x
beside x w h turns e = ap (λ (b : Bool). if b then h else memory turns x) e

pub emptied : (x : ℕ) (s : PageState) → is_occupied (in-memory x (moved x s drains)) ≡ false
emptied x s = ap is_occupied (drained x s.turns _) ∙ clear-occupied (memory s.turns x)

still-pending : (x : ℕ) (s : PageState) → is_pending (in-memory x (moved x s drains)) ≡ is_pending (in-memory x s)
still-pending x s = ap is_pending (drained x s.turns _) ∙ clear-pending (memory s.turns x)

pub fit-move : (x : ℕ) (s : PageState) (m : Move) → MayMove x s m → is-fit x s ≡ true → is-fit x (moved x s m) ≡ true
fit-move x s (touches a) m f =
    v.fits-host (is_occupied (in-memory x s)) (is_pending (in-memory x s)) (is_occupied (as-known x s))
    (is_pending (as-known x s)) (is_occupied (in-memory x (moved x s (touches a))))
    (is_pending (in-memory x (moved x s (touches a)))) (is_occupied (as-known x (moved x s (touches a))))
    (is_pending (as-known x (moved x s (touches a)))) (is_of x a) (is_store_of x a) s.buffered s.guest
    (effect x s.turns a m.0 m.1) f
fit-move x s takes m f = v.fits-take (is_occupied (in-memory x s)) (is_occupied (as-known x s)) s.buffered s.guest m f
fit-move x s clears m f =
    v.fits-clear (is_occupied (in-memory x s)) (is_occupied (as-known x s)) s.buffered s.guest m f
fit-move x s drains m f =
    ap (λ o. fits o (is_occupied (as-known x s)) false s.guest) (emptied x s)
    ∙ v.fits-drain (is_occupied (in-memory x s)) (is_occupied (as-known x s)) s.buffered s.guest m f
fit-move x s fences m f =
    v.fits-fence (is_occupied (in-memory x s)) (is_occupied (as-known x s)) s.buffered s.guest m f
fit-move x s sees m f =
    v.fits-sight (is_occupied (in-memory x s)) (is_pending (in-memory x s)) (is_occupied (as-known x s)) s.buffered
    s.guest m f
fit-move x s (writes w value) m f =
    ap (λ h. fits (is_occupied h) (is_occupied (as-known x s)) s.buffered s.guest) (beside x w value s.turns m) ∙ f

wants-move : (x : ℕ) (s : PageState) (m : Move) (w : Bool) → MayMove x s m → is-fit x s ≡ true
    → is_stored x (access_of m) ≡ false → wants-of x s w ≡ true → wants-of x (moved x s m) w ≡ true
wants-move x s (touches a) w m f calm h =
    v.wants-host (is_occupied (in-memory x s)) (is_pending (in-memory x s)) (is_occupied (as-known x s))
    (is_pending (as-known x s)) (is_occupied (in-memory x (moved x s (touches a))))
    (is_pending (in-memory x (moved x s (touches a)))) (is_occupied (as-known x (moved x s (touches a))))
    (is_pending (as-known x (moved x s (touches a)))) (is_of x a) (is_store_of x a) s.guest w
    (effect x s.turns a m.0 m.1) (or-none (is_store_of x a) calm) h
wants-move x s takes w m f calm h =
    v.wants-take (is_occupied (in-memory x s)) (is_pending (in-memory x s)) s.buffered s.guest w m h
wants-move x s clears w m f calm h =
    v.wants-clear (is_occupied (in-memory x s)) (is_pending (in-memory x s)) (is_occupied (as-known x s)) s.buffered
    s.guest w m f h
wants-move x s drains w m f calm h =
    ap (λ o. wants o (is_pending (in-memory x (moved x s drains))) s.guest w) (emptied x s)
    ∙ ap (λ p. wants false p s.guest w) (still-pending x s)
    ∙ v.wants-drain (is_occupied (in-memory x s)) (is_pending (in-memory x s)) (is_occupied (as-known x s)) s.buffered
    s.guest w m f h
wants-move x s fences w m f calm h =
    v.wants-fence (is_occupied (in-memory x s)) (is_pending (in-memory x s)) s.buffered s.guest w m h
wants-move x s sees w m f calm h =
    v.wants-sight (is_occupied (in-memory x s)) (is_pending (in-memory x s)) s.guest w m h
wants-move x s (writes y value) w m f calm h =
    ap (λ h. wants (is_occupied h) (is_pending h) s.guest w) (beside x y value s.turns m) ∙ h

-- a move of the guest, after which the host knows what it knew
on : (x : ℕ) (s : PageState) (m : Move) (t : Bool) → access_of m ≡ []
    → as-known x (moved x s m) ≡ as-known x s
    → (wants-of x s false ≡ true → wants-of x (moved x s m) false ≡ true)
    → (t ≡ true → holds-of x s ≡ true) → (t || is_accessed x (access_of m)) ≡ true
    → holds-of x (moved x s m) ≡ true
on x s m t none same goes h e =
    let was = h (or-one t (sym (ap (λ l. t || is_accessed x l) none) ∙ e)) in
    ap (λ k. holds (is_occupied (in-memory x (moved x s m))) (is_pending (in-memory x (moved x s m)))
    (is_occupied k) (is_pending k) (moved x s m).guest) same
    ∙ v.holds-on (is_occupied (in-memory x s)) (is_pending (in-memory x s)) (is_occupied (as-known x s))
    (is_pending (as-known x s)) (is_occupied (in-memory x (moved x s m))) (is_pending (in-memory x (moved x s m)))
    s.guest (moved x s m).guest goes was

holds-move : (x : ℕ) (s : PageState) (m : Move) (t : Bool) → MayMove x s m → is-fit x s ≡ true
    → (t ≡ true → holds-of x s ≡ true) → (t || is_accessed x (access_of m)) ≡ true
    → holds-of x (moved x s m) ≡ true
holds-move x s (touches a) t m f h e =
    v.holds-host (is_occupied (in-memory x s)) (is_pending (in-memory x s)) (is_occupied (as-known x s))
    (is_pending (as-known x s)) (is_occupied (in-memory x (moved x s (touches a))))
    (is_pending (in-memory x (moved x s (touches a)))) (is_occupied (as-known x (moved x s (touches a))))
    (is_pending (as-known x (moved x s (touches a)))) (is_of x a) (is_store_of x a) s.guest t
    (effect x s.turns a m.0 m.1) h (sym (ap (λ b. t || b) (or-off (is_of x a))) ∙ e)
holds-move x s takes t m f h e = on x s takes t refl refl (wants-move x s takes false m f refl) h e
holds-move x s clears t m f h e = on x s clears t refl refl (wants-move x s clears false m f refl) h e
holds-move x s drains t m f h e = on x s drains t refl refl (wants-move x s drains false m f refl) h e
holds-move x s fences t m f h e = on x s fences t refl refl (wants-move x s fences false m f refl) h e
holds-move x s sees t m f h e = on x s sees t refl refl (wants-move x s sees false m f refl) h e
holds-move x s (writes w value) t m f h e =
    on x s (writes w value) t refl refl (wants-move x s (writes w value) false m f refl) h e

-- some moves
stored-in-both : (x : ℕ) (a b : List Access) → is_stored x (a ++ b) ≡ (is_stored x b || is_stored x a)
stored-in-both x [] b = sym (or-off (is_stored x b))
stored-in-both x (c ∷ a) b =
    ap (λ r. is_store_of x c || r) (stored-in-both x a b) ∙ turn (is_store_of x c) (is_stored x b) (is_stored x a)
  where
    turn : (p q r : Bool) → (p || (q || r)) ≡ (q || (p || r))
    turn p q r = grind arith

pub accessed-in-both : (x : ℕ) (a b : List Access) → is_accessed x (a ++ b) ≡ (is_accessed x b || is_accessed x a)
accessed-in-both x [] b = sym (or-off (is_accessed x b))
accessed-in-both x (c ∷ a) b =
    ap (λ r. is_of x c || r) (accessed-in-both x a b) ∙ turn (is_of x c) (is_accessed x b) (is_accessed x a)
  where
    turn : (p q r : Bool) → (p || (q || r)) ≡ (q || (p || r))
    turn p q r = grind arith

first-none : (a b : Bool) → (a || b) ≡ false → (a ≡ false) × (b ≡ false)
first-none a b e = (grind arith, grind arith)

pub regroup : (t a b : Bool) → (t || (a || b)) ≡ ((t || a) || b)
regroup t a b = grind arith

pub fit-moves : (ms : List Move) (x : ℕ) (s : PageState) → AreMoves x s ms → is-fit x s ≡ true
    → is-fit x (moved_by x s ms) ≡ true
fit-moves [] x s m f = f
fit-moves (y ∷ ms) x s m f = fit-moves ms x (moved x s y) m.1 (fit-move x s y m.0 f)

wants-moves : (ms : List Move) (x : ℕ) (s : PageState) (w : Bool) → AreMoves x s ms → is-fit x s ≡ true
    → is_stored x (news_of ms) ≡ false → wants-of x s w ≡ true → wants-of x (moved_by x s ms) w ≡ true
wants-moves [] x s w m f calm h = h
wants-moves (y ∷ ms) x s w m f calm h =
    let parts = first-none (is_stored x (access_of y)) (is_stored x (news_of ms))
    (sym (stored-in-both x (news_of ms) (access_of y)) ∙ calm) in
    wants-moves ms x (moved x s y) w m.1 (fit-move x s y m.0 f) parts.1 (wants-move x s y w m.0 f parts.0 h)

holds-moves : (ms : List Move) (x : ℕ) (s : PageState) (t : Bool) → AreMoves x s ms → is-fit x s ≡ true
    → (t ≡ true → holds-of x s ≡ true) → (t || is_accessed x (news_of ms)) ≡ true
    → holds-of x (moved_by x s ms) ≡ true
holds-moves [] x s t m f h e = h (or-one t e)
holds-moves (y ∷ ms) x s t m f h e =
    holds-moves ms x (moved x s y) (t || is_accessed x (access_of y)) m.1 (fit-move x s y m.0 f)
    (λ u. holds-move x s y t m.0 f h u)
    (sym (regroup t (is_accessed x (access_of y)) (is_accessed x (news_of ms)))
    ∙ ap (λ b. t || b) (sym (accessed-in-both x (news_of ms) (access_of y))) ∙ e)

-- acts
pub record Kept (x : ℕ) (r : Run) : Type 0 where
  pub fit : is-fit x r.page ≡ true
  pub wants : r.waits ≡ true → wants-of x r.page r.owed ≡ true

alone-move : (x : ℕ) (r : Run) (m : Move) → MayMove x r.page m → access_of m ≡ [] → Kept x r
    → Kept x (acted x r (alone m))
alone-move x r m may none k =
    record {
      fit = fit-move x r.page m may k.fit;
      wants = λ w. wants-move x r.page m r.owed may k.fit (ap (is_stored x) none) (k.wants w);
    }

pub fit-entered : (x : ℕ) (s : PageState) (ends : Bool) → (ends ≡ true → guest_is s.guest ending ≡ true)
    → is-fit x s ≡ true → is-fit x (entered s ends) ≡ true
fit-entered x s true e f =
    v.fits-end (is_occupied (in-memory x s)) (is_occupied (as-known x s)) s.buffered s.guest (e refl) f
fit-entered x s false e f = f

by-owed : (o p : Bool) (g : GuestAt) (w : Bool) → w ≡ true → wants o p g w ≡ true
by-owed o p g w e = grind arith

owed-now : (pays owes old : Bool) → owes ≡ true → (if pays then owes else old || owes) ≡ true
owed-now pays owes old e = grind arith

not-paid : (pays owes old : Bool) → pays ≡ false → (if pays then owes else old || owes) ≡ (old || owes)
not-paid pays owes old e = ap (λ (b : Bool). if b then owes else old || owes) e

call-wants : (x : ℕ) (r : Run) (c : Call) → Kept x r → AreMoves x (entered r.page c.ends) c.moves
    → is-fit x (entered r.page c.ends) ≡ true
    → IsLeftMarked x c.moves (moved_by x (entered r.page c.ends) c.moves) ⊎ (c.owes ≡ true)
    ⊎ ((r.waits ≡ true) × (c.ends ≡ false) × (c.pays ≡ false) × (is_stored x (news_of c.moves) ≡ false))
    → wants-of x (moved_by x (entered r.page c.ends) c.moves) (if c.pays then c.owes else r.owed || c.owes) ≡ true
call-wants x r c k ms f (inl (accessed, occupied, pending)) =
    let s = moved_by x (entered r.page c.ends) c.moves in
    v.held (is_occupied (in-memory x s)) (is_pending (in-memory x s)) (is_occupied (as-known x s))
    (is_pending (as-known x s)) s.guest (if c.pays then c.owes else r.owed || c.owes)
    (holds-moves c.moves x (entered r.page c.ends) false ms f (λ e. absurd (cc)) accessed) occupied pending
call-wants x r c k ms f (inr (inl owes)) =
    let s = moved_by x (entered r.page c.ends) c.moves in
    by-owed (is_occupied (in-memory x s)) (is_pending (in-memory x s)) s.guest
    (if c.pays then c.owes else r.owed || c.owes) (owed-now c.pays c.owes r.owed owes)
call-wants x r c k ms f (inr (inr (waits, ends, pays, calm))) =
    let s = moved_by x (entered r.page c.ends) c.moves in
    let at = subst (λ b. wants-of x (entered r.page b) r.owed ≡ true) (sym ends) (k.wants waits) in
    ap (λ w. wants-of x s w) (not-paid c.pays c.owes r.owed pays)
    ∙ v.with-owed (is_occupied (in-memory x s)) (is_pending (in-memory x s)) (is_occupied (as-known x s)) s.guest
    r.owed c.owes (wants-moves c.moves x (entered r.page c.ends) r.owed ms f calm at)

pub kept-act : (x : ℕ) (r : Run) (a : Act) → MayAct x r a → Kept x r → Kept x (acted x r a)
kept-act x r (alone (touches a)) m k = absurd m
kept-act x r (alone takes) m k = alone-move x r takes m refl k
kept-act x r (alone clears) m k = alone-move x r clears m refl k
kept-act x r (alone drains) m k = alone-move x r drains m refl k
kept-act x r (alone fences) m k = alone-move x r fences m refl k
kept-act x r (alone sees) m k = alone-move x r sees m refl k
kept-act x r (alone (writes w value)) m k = alone-move x r (writes w value) m refl k
kept-act x r (calls c) m k =
    let f = fit-entered x r.page c.ends m.0 k.fit in
    record {
      fit = fit-moves c.moves x (entered r.page c.ends) m.1 f;
      wants = λ w. call-wants x r c k m.1 f (m.2 w);
    }

pub kept-acts : (acts : List Act) (x : ℕ) (r : Run) → AreActs x r acts → Kept x r → Kept x (acted_by x r acts)
kept-acts [] x r m k = k
kept-acts (a ∷ acts) x r m k = kept-acts acts x (acted x r a) m.1 (kept-act x r a m.0 k)

pub no_message_waits_unseen : NoMessageWaitsUnseenInMemory
no_message_waits_unseen x acts m waits =
    let r = acted_by x opened acts in
    let k = kept-acts acts x opened m (record { fit = refl; wants = λ w. absurd (cc) }) in
    v.owed (is_occupied (in-memory x r.page)) (is_pending (in-memory x r.page)) r.page.buffered
    (is_occupied (as-known x r.page)) r.page.guest r.owed (k.wants waits) k.fit

-- the host's log after some moves
pub log-grows : (ms : List Move) (x : ℕ) (s : PageState)
    → accesses (moved_by x s ms).turns ≡ news_of ms ++ accesses s.turns
log-grows [] x s = refl
log-grows (y ∷ ms) x s =
    log-grows ms x (moved x s y) ∙ ap (λ l. news_of ms ++ l) (one y)
    ∙ sym (append_assoc (news_of ms) (access_of y) (accesses s.turns))
  where
    one : (y : Move) → accesses (moved x s y).turns ≡ access_of y ++ accesses s.turns
    one (touches a) = refl
    one takes = refl
    one clears = refl
    one drains = refl
    one fences = refl
    one sees = refl
    one (writes w value) = refl
