-- A host and a guest at one message slot (TLFS, "SynIC Message Flags"), step by step, on a processor that delays
-- stores (x86-TSO):
-- a guest's store is in its buffer until it drains, and a barrier makes the guest wait until then.
use Rattle.std.specs.Prelude.{◌≡◌, ℕ, zero, suc, Bool, true, false, not, ◌&&◌, ◌||◌, nat_lt, List, [], ◌∷◌, if◌then◌else◌}

-- what the host does next: nothing, load the header, mark it, or fill the slot
pub data HostAt : Type 0 where
  idle : HostAt
  looking : HostAt
  marking : HostAt
  filling : HostAt

-- what the guest does next: nothing, load the flags after its store of type 0, or write EOM
pub data GuestAt : Type 0 where
  resting : GuestAt
  cleared : GuestAt
  ending : GuestAt

pub record World : Type 0 where
  -- the header in memory: whether its type is not 0, and MessagePending
  pub occupied : Bool
  pub pending : Bool
  -- whether the guest's store of type 0 is still in its buffer
  pub buffered : Bool
  -- how many messages are queued
  pub queued : ℕ
  pub host : HostAt
  pub guest : GuestAt

pub data Move : Type 0 where
  -- the host: it queues a message, loads the header, finds it occupied and marked, marks it, fills the slot
  post : Move
  look : Move
  skip : Move
  mark : Move
  fill : Move
  -- the guest: it has read the message and stores type 0, the store reaches memory, it loads the flags, it writes EOM
  clear : Move
  drain : Move
  flags : Move
  eom : Move

-- which precautions the two take: whether the host looks at the type that a mark found, and whether the guest has a
-- barrier before it loads the flags
pub record Precautions : Type 0 where
  pub looks_again : Bool
  pub has_barrier : Bool

abbrev pub host_is : HostAt → HostAt → Bool
host_is idle idle = true
host_is looking looking = true
host_is marking marking = true
host_is filling filling = true
host_is _ _ = false

abbrev pub guest_is : GuestAt → GuestAt → Bool
guest_is resting resting = true
guest_is cleared cleared = true
guest_is ending ending = true
guest_is _ _ = false

-- which moves may come next
abbrev pub may : Precautions → World → Move → Bool
may m w post = host_is w.host idle
may m w look = host_is w.host looking
may m w skip = host_is w.host looking && (w.occupied && w.pending)
may m w mark = host_is w.host marking
may m w fill = host_is w.host filling && nat_lt 0 w.queued
may m w clear = (guest_is w.guest resting && w.occupied) && not w.buffered
may m w drain = w.buffered
may m w flags = guest_is w.guest cleared && not (m.has_barrier && w.buffered)
may m w eom = guest_is w.guest ending && host_is w.host idle

abbrev pub one_less : ℕ → ℕ
one_less zero = zero
one_less (suc n) = n

abbrev pub after : Precautions → World → Move → World
after m w post = record w { queued = suc w.queued; host = looking }
after m w look = record w { host = if w.occupied then marking else filling }
after m w skip = record w { host = idle }
after m w mark = record w { pending = true; host = if w.occupied || not m.looks_again then idle else filling }
after m w fill =
    record w { occupied = true; pending = nat_lt 0 (one_less w.queued); queued = one_less w.queued; host = idle }
after m w clear = record w { buffered = true; guest = cleared }
after m w drain = record w { occupied = false; buffered = false }
after m w flags = record w { guest = if w.pending then ending else resting }
after m w eom = record w { guest = resting; host = if nat_lt 0 w.queued then looking else idle }

abbrev pub are_moves : Precautions → World → List Move → Bool
are_moves m w [] = true
are_moves m w (x ∷ xs) = may m w x && are_moves m (after m w x) xs

abbrev pub led_to : Precautions → World → List Move → World
led_to m w [] = w
led_to m w (x ∷ xs) = led_to m (after m w x) xs

-- an empty slot, with nothing queued
abbrev pub start : World
start = record { occupied = false; pending = false; buffered = false; queued = 0; host = idle; guest = resting }

-- a message is queued, the slot is empty, and neither of the two will move
abbrev pub is_stuck : World → Bool
is_stuck w =
    ((nat_lt 0 w.queued && not w.occupied) && not w.buffered) && (host_is w.host idle && guest_is w.guest resting)

abbrev pub careful : Precautions
careful = record { looks_again = true; has_barrier = true }

-- no moves of the two lead to such a state
abbrev pub NoWakeUpIsMissed : Type 0
NoWakeUpIsMissed =
    (moves : List Move) → are_moves careful start moves ≡ true → is_stuck (led_to careful start moves) ≡ false

-- without either precaution, some moves do
abbrev pub blind_moves : List Move
blind_moves = post ∷ look ∷ fill ∷ post ∷ look ∷ clear ∷ drain ∷ flags ∷ mark ∷ []

abbrev pub hasty_moves : List Move
hasty_moves = post ∷ look ∷ fill ∷ post ∷ look ∷ clear ∷ flags ∷ mark ∷ drain ∷ []

pub record EachPrecautionIsNeeded : Type 0 where
  pub blind_may : are_moves (record { looks_again = false; has_barrier = true }) start blind_moves ≡ true
  pub blind : is_stuck (led_to (record { looks_again = false; has_barrier = true }) start blind_moves) ≡ true
  pub hasty_may : are_moves (record { looks_again = true; has_barrier = false }) start hasty_moves ≡ true
  pub hasty : is_stuck (led_to (record { looks_again = true; has_barrier = false }) start hasty_moves) ≡ true
