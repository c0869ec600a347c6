-- What the host and the guest of a slot keep, as the type and MessagePending of its header in memory (o, p) and in what
-- the host knows (e, k), the guest's buffer and where the guest is.
use Rattle.std.proofs.Common.{◌≡◌, ◌⊎◌, inl, inr, Bool, true, false, refl, arith}
use Rattle.std.specs.Prelude.{not, ◌&&◌, ◌||◌, if◌then◌else◌}
use Rattle.law_slots.specs.Slots.{GuestAt, guest_is, resting, taken, cleared, fenced, ending}

-- a store in the buffer is that of a guest that clears an occupied slot; one that the guest has read is occupied; and
-- what the host knows to be empty is
abbrev pub fits : Bool → Bool → Bool → GuestAt → Bool
fits o e b g =
    ((not b || (o && guest_is g cleared)) && (not (guest_is g taken) || (o && not b))) && (e || not o)

abbrev pub wants : Bool → Bool → GuestAt → Bool → Bool
wants o p g w = (((o || (guest_is g cleared || guest_is g fenced)) && p) || guest_is g ending) || w

-- if the host knows the header to be occupied and marked, the guest will ask
abbrev pub holds : Bool → Bool → Bool → Bool → GuestAt → Bool
holds o p e k g = not (e && k) || wants o p g false

-- an access of the host: to another word, or to the header, which stays occupied if it was, and marked; or a store
-- into an empty slot
abbrev pub Effect : Bool → Bool → Bool → Bool → Bool → Bool → Bool → Bool → Bool → Bool → Type 0
Effect o p e k o2 p2 e2 k2 of st =
    ((o2 ≡ o) × (p2 ≡ p) × (e2 ≡ e) × (k2 ≡ k) × (of ≡ false))
    ⊎ ((e2 ≡ o2) × (k2 ≡ p2) × (((o ≡ true → o2 ≡ true) × (p ≡ true → p2 ≡ true)) ⊎ ((st ≡ true) × (e ≡ false))))

pub fits-host : (o p e k o2 p2 e2 k2 of st b : Bool) (g : GuestAt) → Effect o p e k o2 p2 e2 k2 of st
    → fits o e b g ≡ true → fits o2 e2 b g ≡ true
fits-host o p e k o2 p2 e2 k2 of st b g (inl a) f =
    let x = a.0 in let y = a.2 in grind arith
fits-host true p e k o2 p2 e2 k2 of st b g (inr (x, y, inl z)) f = let u = z.0 refl in grind arith
fits-host false p e k o2 p2 e2 k2 of st b g (inr (x, y, inl z)) f = grind arith
fits-host o p e k o2 p2 e2 k2 of st b g (inr (x, y, inr z)) f = let u = z.1 in grind arith

pub holds-host : (o p e k o2 p2 e2 k2 of st : Bool) (g : GuestAt) (t : Bool) → Effect o p e k o2 p2 e2 k2 of st
    → (t ≡ true → holds o p e k g ≡ true) → (t || of) ≡ true → holds o2 p2 e2 k2 g ≡ true
holds-host o p e k o2 p2 e2 k2 of st g true (inl (x, y, z, u, v)) h s = let r = h refl in grind arith
holds-host o p e k o2 p2 e2 k2 of st g false (inl (x, y, z, u, v)) h s = grind arith
holds-host o p e k o2 p2 e2 k2 of st g t (inr (x, y, z)) h s = grind arith

pub wants-host : (o p e k o2 p2 e2 k2 of st : Bool) (g : GuestAt) (w : Bool) → Effect o p e k o2 p2 e2 k2 of st
    → st ≡ false → wants o p g w ≡ true → wants o2 p2 g w ≡ true
wants-host o p e k o2 p2 e2 k2 of st g w (inl (x, y, z, u, v)) calm h = grind arith
wants-host true true e k o2 p2 e2 k2 of st g w (inr (x, y, inl z)) calm h =
    let u = z.0 refl in let v = z.1 refl in grind arith
wants-host false true e k o2 p2 e2 k2 of st g w (inr (x, y, inl z)) calm h = let v = z.1 refl in grind arith
wants-host o false e k o2 p2 e2 k2 of st g w (inr (x, y, inl z)) calm h = grind arith
wants-host o p e k o2 p2 e2 k2 of st g w (inr (x, y, inr z)) calm h = let u = z.0 in grind arith

-- the guest
pub fits-take : (o e b : Bool) (g : GuestAt) → ((guest_is g resting && o) && not b) ≡ true → fits o e b g ≡ true
    → fits o e b taken ≡ true
fits-take o e b g m f = grind arith

pub wants-take : (o p b : Bool) (g : GuestAt) (w : Bool) → ((guest_is g resting && o) && not b) ≡ true
    → wants o p g w ≡ true → wants o p taken w ≡ true
wants-take o p b g w m h = grind arith

pub fits-clear : (o e b : Bool) (g : GuestAt) → guest_is g taken ≡ true → fits o e b g ≡ true
    → fits o e true cleared ≡ true
fits-clear o e b g m f = grind arith

pub wants-clear : (o p e b : Bool) (g : GuestAt) (w : Bool) → guest_is g taken ≡ true → fits o e b g ≡ true
    → wants o p g w ≡ true → wants o p cleared w ≡ true
wants-clear o p e b g w m f h = grind arith

pub fits-drain : (o e b : Bool) (g : GuestAt) → b ≡ true → fits o e b g ≡ true → fits false e false g ≡ true
fits-drain o e b g m f = grind arith

pub wants-drain : (o p e b : Bool) (g : GuestAt) (w : Bool) → b ≡ true → fits o e b g ≡ true
    → wants o p g w ≡ true → wants false p g w ≡ true
wants-drain o p e b g w m f h = grind arith

pub fits-fence : (o e b : Bool) (g : GuestAt) → (guest_is g cleared && not b) ≡ true → fits o e b g ≡ true
    → fits o e b fenced ≡ true
fits-fence o e b g m f = grind arith

pub wants-fence : (o p b : Bool) (g : GuestAt) (w : Bool) → (guest_is g cleared && not b) ≡ true
    → wants o p g w ≡ true → wants o p fenced w ≡ true
wants-fence o p b g w m h = grind arith

pub fits-sight : (o p e b : Bool) (g : GuestAt) → guest_is g fenced ≡ true → fits o e b g ≡ true
    → fits o e b (if p then ending else resting) ≡ true
fits-sight o true e b g m f = grind arith
fits-sight o false e b g m f = grind arith

pub wants-sight : (o p : Bool) (g : GuestAt) (w : Bool) → guest_is g fenced ≡ true → wants o p g w ≡ true
    → wants o p (if p then ending else resting) w ≡ true
wants-sight o true g w m h = grind arith
wants-sight o false g w m h = grind arith

pub fits-end : (o e b : Bool) (g : GuestAt) → guest_is g ending ≡ true → fits o e b g ≡ true
    → fits o e b resting ≡ true
fits-end o e b g m f = grind arith

-- what follows for the guest of a header that the host knows
pub holds-on : (o p e k o2 p2 : Bool) (g g2 : GuestAt)
    → (wants o p g false ≡ true → wants o2 p2 g2 false ≡ true) → holds o p e k g ≡ true
    → holds o2 p2 e k g2 ≡ true
holds-on o p true true o2 p2 g g2 n h = n h
holds-on o p true false o2 p2 g g2 n h = refl
holds-on o p false k o2 p2 g g2 n h = refl

pub held : (o p e k : Bool) (g : GuestAt) (w : Bool) → holds o p e k g ≡ true → e ≡ true → k ≡ true
    → wants o p g w ≡ true
held o p e k g w h x y = grind arith

pub owed : (o p b e : Bool) (g : GuestAt) (w : Bool) → wants o p g w ≡ true → fits o e b g ≡ true
    → ((o && p) || (guest_is g cleared && (b || p)) || (guest_is g fenced && p) || guest_is g ending || w) ≡ true
owed o p b e g w h f = grind arith

pub with-owed : (o p e : Bool) (g : GuestAt) (w v : Bool) → wants o p g w ≡ true → wants o p g (w || v) ≡ true
with-owed o p e g w v h = grind arith
