-- A whole run of one message slot and its queue: the host's calls, access by access, and a guest that keeps the rule of
-- the slot (TLFS, "SynIC Message Flags"), on a processor that delays stores (x86-TSO).
use Rattle.std.specs.Prelude.{◌≡◌, ◌⊎◌, ℕ, zero, suc, ◌+◌, ◌-◌, ◌*◌, ◌<◌, ◌==◌, Bool, true, false, not, ◌&&◌, ◌||◌, bit_or, List, [], ◌∷◌, ◌++◌, length, slice_index_or, Option, Some, None, if◌then◌else◌}
use Rattle.std.specs.Option.{MatchOption}
use Rattle.live_pages.specs.Words.{type_of, is_pending, pending_mask}
use Rattle.live_pages.specs.Headers.{is_occupied}

-- what the host does next in its call: nothing, load the header, mark it, store the payload, store the header. A post
-- and an EOM fill at once a slot that their mark found empty; a write of a timer and a tick, whose event is over by
-- then (late), owe an EOM
pub data HostAt : Type 0 where
  idle : HostAt
  looking : HostAt
  marking : HostAt
  late_looking : HostAt
  late_marking : HostAt
  filling : HostAt
  storing : HostAt

-- what the guest does next: nothing, store type 0 (it has read another), pass its barrier, load the flags, write EOM
pub data GuestAt : Type 0 where
  resting : GuestAt
  taken : GuestAt
  cleared : GuestAt
  fenced : GuestAt
  ending : GuestAt

-- the header in memory, whether the guest's store of type 0 is in its buffer, the tickets that are queued and those
-- that were placed (the last first), where host and guest are, and whether the processor is owed an EOM
pub record Slot : Type 0 where
  pub header : ℕ
  pub buffered : Bool
  pub queue : List ℕ
  pub placed : List ℕ
  pub host : HostAt
  pub guest : GuestAt
  pub owed : Bool

pub data Step : Type 0 where
  -- the host: a call queues a message, or a timer's messages; the header is loaded, marked by an atomic or; the payload
  -- is stored, and then the header; a message is withdrawn; a call changes nothing here; the processor is reset
  posts : ℕ → Step
  ticks : ℕ → List ℕ → Step
  looks : Step
  marks : Step
  copies : Step
  fills : ℕ → Step
  withdraws : ℕ → Step
  observes : Step
  resets : Step
  -- the guest: it reads a type that is not 0, stores 0 in the four bytes of the type, the store reaches memory, it
  -- passes its barrier, loads the flags, writes EOM if MessagePending was set; it writes EOM for no reason
  takes : Step
  clears : Step
  drains : Step
  fences : Step
  sees : Step
  ends : Step
  asks : Step
  -- the host writes an EOM that is owed
  pays : Step

-- which precautions the two take: whether the host looks at the type that a mark found in a post or an EOM, whether
-- it owes an EOM if a late mark found an empty slot; whether the guest has its barrier, and whether its store of 0 is
-- one of the four bytes of the type alone
pub record Precautions : Type 0 where
  pub looks_again : Bool
  pub owes : Bool
  pub has_barrier : Bool
  pub is_narrow : Bool

abbrev pub careful : Precautions
careful = record { looks_again = true; owes = true; has_barrier = true; is_narrow = true }

abbrev pub host_is : HostAt → HostAt → Bool
host_is idle idle = true
host_is looking looking = true
host_is marking marking = true
host_is late_looking late_looking = true
host_is late_marking late_marking = true
host_is filling filling = true
host_is storing storing = true
host_is _ _ = false

abbrev pub guest_is : GuestAt → GuestAt → Bool
guest_is resting resting = true
guest_is taken taken = true
guest_is cleared cleared = true
guest_is fenced fenced = true
guest_is ending ending = true
guest_is _ _ = false

abbrev pub is_any : List ℕ → Bool
is_any [] = false
is_any (t ∷ ts) = true

abbrev pub rest : List ℕ → List ℕ
rest [] = []
rest (t ∷ ts) = ts

-- the first of a queue before those that were placed
abbrev pub with_first : List ℕ → List ℕ → List ℕ
with_first [] placed = placed
with_first (t ∷ ts) placed = t ∷ placed

-- a queue without its n-th message
abbrev pub without : ℕ → List ℕ → List ℕ
without n [] = []
without zero (t ∷ ts) = ts
without (suc n) (t ∷ ts) = t ∷ without n ts

abbrev pub may : Precautions → Slot → Step → Bool
may m s (posts t) = host_is s.host idle
may m s (ticks t ts) = host_is s.host idle
may m s looks = host_is s.host looking || host_is s.host late_looking
may m s marks = host_is s.host marking || host_is s.host late_marking
may m s copies = host_is s.host filling
may m s (fills w) =
    (host_is s.host storing && is_any s.queue)
    && (is_occupied w && (if is_any (rest s.queue) then is_pending w else not (is_pending w)))
may m s (withdraws n) = host_is s.host idle
may m s observes = host_is s.host idle
may m s resets = host_is s.host idle && not s.buffered
may m s takes = (guest_is s.guest resting && is_occupied s.header) && not s.buffered
may m s clears = guest_is s.guest taken
may m s drains = s.buffered
may m s fences = guest_is s.guest cleared && not (m.has_barrier && s.buffered)
may m s sees = guest_is s.guest fenced
may m s ends = guest_is s.guest ending && host_is s.host idle
may m s asks = host_is s.host idle
may m s pays = s.owed && host_is s.host idle

-- where the host is after an EOM: it looks if a message waits
abbrev pub after_eom : List ℕ → HostAt
after_eom queue = if is_any queue then looking else idle

-- where the host is after a load of the header
abbrev pub after_look : HostAt → Bool → Bool → HostAt
after_look late_looking occupied pending =
    if occupied then (if pending then idle else late_marking) else filling
after_look host occupied pending = if occupied then (if pending then idle else marking) else filling

-- where the host is after a mark that found the slot occupied or empty, and whether an EOM is owed
abbrev pub after_mark : Precautions → HostAt → Bool → HostAt
after_mark m late_marking occupied = idle
after_mark m host occupied = if occupied || not m.looks_again then idle else filling

abbrev pub owed_after_mark : Precautions → HostAt → Bool → Bool → Bool
owed_after_mark m late_marking occupied owed = (not occupied && m.owes) || owed
owed_after_mark m host occupied owed = owed

abbrev pub after : Precautions → Slot → Step → Slot
after m s (posts t) = record s { queue = s.queue ++ t ∷ []; host = looking }
after m s (ticks t ts) = record s { queue = s.queue ++ t ∷ ts; host = late_looking }
after m s looks = record s { host = after_look s.host (is_occupied s.header) (is_pending s.header) }
after m s marks =
    record s {
      header = bit_or s.header pending_mask;
      host = after_mark m s.host (is_occupied s.header);
      owed = owed_after_mark m s.host (is_occupied s.header) s.owed;
    }
after m s copies = record s { host = storing }
after m s (fills w) =
    record s { header = w; queue = rest s.queue; placed = with_first s.queue s.placed; host = idle }
after m s (withdraws n) = record s { queue = without n s.queue }
after m s observes = s
after m s resets = record s { header = 0; queue = []; guest = resting; owed = false }
after m s takes = record s { guest = taken }
after m s clears = record s { buffered = true; guest = cleared }
after m s drains = record s { header = if m.is_narrow then s.header - type_of s.header else 0; buffered = false }
after m s fences = record s { guest = fenced }
after m s sees = record s { guest = if is_pending s.header then ending else resting }
after m s ends = record s { guest = resting; host = after_eom s.queue }
after m s asks = record s { host = after_eom s.queue }
after m s pays = record s { owed = false; host = after_eom s.queue }

abbrev pub are_steps : Precautions → Slot → List Step → Bool
are_steps m s [] = true
are_steps m s (x ∷ xs) = may m s x && are_steps m (after m s x) xs

abbrev pub led_to : Precautions → Slot → List Step → Slot
led_to m s [] = s
led_to m s (x ∷ xs) = led_to m (after m s x) xs

abbrev pub start : Slot
start =
    record {
      header = 0;
      buffered = false;
      queue = [];
      placed = [];
      host = idle;
      guest = resting;
      owed = false;
    }

-- the guest will ask for the messages that wait: the slot is occupied and marked in memory; or the guest has stored
-- type 0, and the store is in its buffer, or MessagePending is there for it to see; or it is about to write EOM; or an
-- EOM is owed
abbrev pub is_attended : Slot → Bool
is_attended s =
    (is_occupied s.header && is_pending s.header)
    || (guest_is s.guest cleared && (s.buffered || is_pending s.header))
    || (guest_is s.guest fenced && is_pending s.header)
    || guest_is s.guest ending || s.owed

-- no call is under way, a message is queued, and neither guest nor host will ask for it
abbrev pub is_unseen : Slot → Bool
is_unseen s = (host_is s.host idle && is_any s.queue) && not (is_attended s)

-- in no run does a message wait unseen
abbrev pub NoMessageWaitsUnseen : Type 0
NoMessageWaitsUnseen =
    (steps : List Step) → are_steps careful start steps ≡ true → is_unseen (led_to careful start steps) ≡ false

-- the steps that bring the queue on: those of a guest that uses its messages, and EOMs that are owed
abbrev pub is_round : Step → Bool
is_round takes = true
is_round clears = true
is_round drains = true
is_round fences = true
is_round sees = true
is_round ends = true
is_round pays = true
is_round _ = false

abbrev pub rounds : List Step → ℕ
rounds [] = 0
rounds (x ∷ xs) = (if is_round x then 1 else 0) + rounds xs

-- how many messages are before one in the queue when the first, or the k-th, has left it, if it is still there
abbrev pub after_first : ℕ → Option ℕ
after_first zero = None
after_first (suc n) = Some n

abbrev pub one_more : Option ℕ → Option ℕ
one_more None = None
one_more (Some n) = Some (suc n)

abbrev pub after_kth : ℕ → ℕ → Option ℕ
after_kth zero n = after_first n
after_kth (suc k) zero = Some zero
after_kth (suc k) (suc n) = one_more (after_kth k n)

-- and after a step, or some
abbrev pub ahead_after : Step → ℕ → Option ℕ
ahead_after (fills w) n = after_first n
ahead_after (withdraws k) n = after_kth k n
ahead_after resets n = None
ahead_after _ n = Some n

abbrev pub ahead : List Step → Option ℕ → Option ℕ
ahead xs None = None
ahead [] (Some n) = Some n
ahead (x ∷ xs) (Some n) = ahead xs (ahead_after x n)

-- a message that is not in the queue any more was placed, as the last one, or withdrawn; and otherwise it is the same
abbrev pub Follows : Slot → ℕ → Step → Slot → Type 0
Follows s n x now =
    MatchOption (ahead_after x n)
    ((now.placed ≡ slice_index_or s.queue n 0 ∷ s.placed) ⊎ (x ≡ withdraws n) ⊎ (x ≡ resets))
    (λ k. slice_index_or now.queue k 0 ≡ slice_index_or s.queue n 0)

abbrev pub AMessageIsFollowed : Type 0
AMessageIsFollowed =
    (m : Precautions) (s : Slot) (n : ℕ) (x : Step) → may m s x ≡ true → n < length s.queue
    → Follows s n x (after m s x)

-- A message with n others before it leaves the queue before more than 10 (n + 1) such steps are made, whatever else
-- happens between them
abbrev pub EachMessageLeaves : Type 0
EachMessageLeaves =
    (earlier later : List Step) (n : ℕ) → are_steps careful start earlier ≡ true
    → n < length (led_to careful start earlier).queue
    → are_steps careful (led_to careful start earlier) later ≡ true → 10 * (n + 1) < rounds later
    → ahead later (Some n) ≡ None

-- no message is withdrawn
abbrev pub is_calm : Step → Bool
is_calm (withdraws n) = false
is_calm resets = false
is_calm _ = true

abbrev pub are_calm : List Step → Bool
are_calm [] = true
are_calm (x ∷ xs) = is_calm x && are_calm xs

abbrev pub is_in : ℕ → List ℕ → Bool
is_in t [] = false
is_in t (u ∷ us) = (t == u) || is_in t us

-- if none is withdrawn meanwhile, it is placed
abbrev pub EachMessageIsPlaced : Type 0
EachMessageIsPlaced =
    (earlier later : List Step) (n : ℕ) → are_steps careful start earlier ≡ true
    → n < length (led_to careful start earlier).queue
    → are_steps careful (led_to careful start earlier) later ≡ true → are_calm later ≡ true
    → 10 * (n + 1) < rounds later
    → is_in (slice_index_or (led_to careful start earlier).queue n 0)
    (led_to careful (led_to careful start earlier) later).placed ≡ true

-- some step that brings the queue on may come next
abbrev pub can_go_on : Precautions → Slot → Bool
can_go_on m s =
    may m s takes || may m s clears || may m s drains || may m s fences || may m s sees || may m s ends
    || may m s pays

-- the host can make its next access
abbrev pub can_access : Precautions → Slot → Step → Bool
can_access m s looks = may m s looks
can_access m s marks = may m s marks
can_access m s copies = may m s copies
can_access m s (fills w) = may m s (fills w)
can_access m s _ = false

-- While a message is queued, the host can continue its call, and between calls the guest can, or an EOM is owed
abbrev pub AQueueIsNeverStuck : Type 0
AQueueIsNeverStuck =
    (steps : List Step) → are_steps careful start steps ≡ true → is_any (led_to careful start steps).queue ≡ true
    → ((host_is (led_to careful start steps).host idle ≡ true)
    × (can_go_on careful (led_to careful start steps) ≡ true))
    ⊎ ((x : Step) × (can_access careful (led_to careful start steps) x ≡ true))

-- at rest, a message is queued, and it stays so unless another call comes: neither guest nor host will move
abbrev pub is_stuck : Precautions → Slot → Bool
is_stuck m s = is_unseen s && not (can_go_on m s)

-- without one of the precautions, some steps lead there
abbrev pub blind : Precautions
blind = record careful { looks_again = false }

abbrev pub forgetful : Precautions
forgetful = record careful { owes = false }

abbrev pub hasty : Precautions
hasty = record careful { has_barrier = false }

abbrev pub wide : Precautions
wide = record careful { is_narrow = false }

-- a header of type 1
abbrev pub blind_steps : List Step
blind_steps =
    posts 0 ∷ looks ∷ copies ∷ fills 1 ∷ posts 1 ∷ looks ∷ takes ∷ clears ∷ drains ∷ fences ∷ sees ∷ marks ∷ []

abbrev pub forgetful_steps : List Step
forgetful_steps =
    posts 0 ∷ looks ∷ copies ∷ fills 1 ∷ ticks 1 [] ∷ looks ∷ takes ∷ clears ∷ drains ∷ fences ∷ sees ∷ marks ∷ []

abbrev pub hasty_steps : List Step
hasty_steps =
    posts 0 ∷ looks ∷ copies ∷ fills 1 ∷ posts 1 ∷ looks ∷ takes ∷ clears ∷ fences ∷ sees ∷ marks ∷ drains ∷ []

-- the host has marked the slot before the store of eight bytes reaches memory
abbrev pub wide_steps : List Step
wide_steps =
    posts 0 ∷ looks ∷ copies ∷ fills 1 ∷ takes ∷ clears ∷ posts 1 ∷ looks ∷ marks ∷ drains ∷ fences ∷ sees ∷ []

abbrev pub LeadsToStuck : Precautions → List Step → Type 0
LeadsToStuck m steps = (are_steps m start steps ≡ true) × (is_stuck m (led_to m start steps) ≡ true)

pub record EachPrecautionIsNeeded : Type 0 where
  pub blind : LeadsToStuck blind blind_steps
  pub forgetful : LeadsToStuck forgetful forgetful_steps
  pub hasty : LeadsToStuck hasty hasty_steps
  pub wide : LeadsToStuck wide wide_steps

-- a run with a late mark that finds the slot empty, whose EOM is paid, and then a round of the guest: three messages
-- are placed in their order
abbrev pub full_steps : List Step
full_steps = forgetful_steps ++ pays ∷ looks ∷ copies ∷ fills 1 ∷ posts 2 ∷ looks ∷ marks ∷ takes ∷ clears ∷ drains
    ∷ fences ∷ sees ∷ ends ∷ looks ∷ copies ∷ fills 1 ∷ []

abbrev pub unpaid : Slot → Slot
unpaid s = record s { owed = false }

pub record AllArePlaced : Type 0 where
  pub are : are_steps careful start full_steps ≡ true
  pub placed : (led_to careful start full_steps).placed ≡ 2 ∷ 1 ∷ 0 ∷ []
  pub queued : (led_to careful start full_steps).queue ≡ []
  -- before it was paid, nothing else would have brought the queue on
  pub owed : (may careful (led_to careful start forgetful_steps) pays ≡ true)
      × (can_go_on careful (unpaid (led_to careful start forgetful_steps)) ≡ false)
