-- Guest pages, and the overlay pages that may obscure them (TLFS, "GPA Overlay Pages").
use Rattle.std.specs.Prelude.{◌≡◌, ◌≤◌, ◌<◌, ℕ, Bool, true, false, ◌+◌, ◌*◌, ◌/◌, ◌%◌, ◌^◌, ◌==◌, ◌&&◌, ◌||◌, not, nat_lt, List, [], Option, None, Some, is_none, Result, Ok, Err, position, slice_index_or, slice_set, take, drop, length, replicate, if◌then◌else◌, bit_and}
use Rattle.std.specs.Option.{option_map_or}
use Rattle.board_terms.specs.Quantities.{Processor, Source, Flag, PageNumber, Address}
use Rattle.arrayvec.specs.ArrayVec.{ArrayVec}
use Rattle.board_terms.specs.declared.refusal.Refusal.{Refusal}
use Rattle.board_terms.specs.declared.refusal.Refusal.TheVariants.{BadLength, OutsideSpace, CrossesPage, Elsewhere}
use Rattle.board_terms.specs.declared.pages.Kind.{Kind}
use Rattle.board_terms.specs.declared.pages.Kind.TheVariants as kind
use Rattle.board_terms.specs.declared.pages.Owner.{Owner}
use Rattle.board_terms.specs.declared.pages.Owner.TheVariants.{Guest, Sim, Sief, Nothing}
use Rattle.gpa_space.specs.Page.{zero_page, overwritten, with_slot, is_set, with_bit, pending_place, flag_place}

-- the guest pages that the space holds, all or none; the overlays' registers and their own pages, both in the order of
-- visibility: processor 0 SIM, processor 0 SIEF, processor 1 SIM, and so on (profile)
pub record Space : Type 0 where
  pub pages : List (List ℕ)
  pub registers : List ℕ
  pub own : List (List ℕ)

-- all pages are zeros, and all overlays are disabled
abbrev pub opened : ℕ → ℕ → Space
opened processors pages =
    record {
      pages = replicate pages zero_page;
      registers = replicate (2 * processors) 0;
      own = replicate (2 * processors) zero_page;
    }

abbrev pub processors_of : Space → ℕ
processors_of s = length s.registers / 2

-- a space that holds no guest pages is sparse: they are in the caller's memory, and there are as many as an address
-- of 64 bits reaches
abbrev pub is_sparse : Space → Bool
is_sparse s = length s.pages == 0

-- the number of pages that the guest has
abbrev pub page_count : Space → ℕ
page_count s = if is_sparse s then 2 ^ 52 else length s.pages

-- the number of an overlay in the order of visibility
abbrev pub overlay_of : Processor → Kind → ℕ
overlay_of vp kind.Sim = 2 * vp
overlay_of vp kind.Sief = 2 * vp + 1

-- an overlay's register is written
abbrev pub with_register : Space → Processor → Kind → ℕ → Space
with_register s vp k register = record s { registers = slice_set s.registers (overlay_of vp k) register }

-- the value of an overlay's register: bit 0 enables it, and bits 63:12 are a page number
abbrev pub is_enabled : ℕ → Bool
is_enabled word = bit_and word 1 == 1

abbrev pub page_of : ℕ → PageNumber
page_of word = word / 4096

-- an enabled overlay is mapped at its page number
abbrev pub is_mapped_at : PageNumber → ℕ → Bool
is_mapped_at page word = is_enabled word && (page_of word == page)

-- the overlay that is visible at a page: the first that is mapped there
abbrev pub visible : Space → PageNumber → Option ℕ
visible s page = position (is_mapped_at page) s.registers

abbrev pub overlay_owner : ℕ → Owner
overlay_owner overlay = if overlay % 2 == 0 then Sim (overlay / 2) else Sief (overlay / 2)

-- which page a guest sees
abbrev pub owner_of : Space → PageNumber → Owner
owner_of s page = if nat_lt page (page_count s) then option_map_or overlay_owner (visible s page) Guest else Nothing

-- a guest sees an overlay there
abbrev pub is_covered : Space → PageNumber → Bool
is_covered s page = nat_lt page (page_count s) && not (is_none (visible s page))

-- the first page from a number on where a guest sees an overlay, with its owner, if there is one
abbrev pub IsNextOverlay : Space → PageNumber → Option (PageNumber × Owner) → Type 0
IsNextOverlay s from None = (page : ℕ) → from ≤ page → is_covered s page ≡ false
IsNextOverlay s from (Some o) =
    (from ≤ o.0) × (is_covered s o.0 ≡ true) × (o.1 ≡ owner_of s o.0)
    × ((page : ℕ) → from ≤ page → page < o.0 → is_covered s page ≡ false)

-- the page that a guest sees there is in the caller's memory
abbrev pub is_elsewhere : Space → PageNumber → Bool
is_elsewhere s page = is_sparse s && is_none (visible s page)

-- the bytes that a guest sees at a page
abbrev pub visible_page : Space → PageNumber → List ℕ
visible_page s page =
    option_map_or (λ overlay. slice_index_or s.own overlay []) (visible s page) (slice_index_or s.pages page [])

-- other bytes there: obscured bytes stay
abbrev pub with_visible_page : Space → PageNumber → List ℕ → Space
with_visible_page s page bytes =
    option_map_or (λ overlay. record s { own = slice_set s.own overlay bytes }) (visible s page)
    (record s { pages = slice_set s.pages page bytes })

-- why a load or a store is refused; the checks are in this order
abbrev pub refusal_of : Space → Address → ℕ → Option Refusal
refusal_of s address count =
    if (count == 0) || nat_lt 8 count then Some BadLength
    else if not (nat_lt (address / 4096) (page_count s)) then Some OutsideSpace
    else if nat_lt 4096 (address % 4096 + count) then Some CrossesPage
    else if is_elsewhere s (address / 4096) then Some Elsewhere
    else None

-- the bytes that a guest loads
abbrev pub loaded : Space → Address → ℕ → Result (ArrayVec ℕ) Refusal
loaded s address count =
    option_map_or (λ r. Err r) (refusal_of s address count)
    (Ok (record { items = take count (drop (address % 4096) (visible_page s (address / 4096))) }))

-- the owner of the page that a guest's store writes to, and the space after it
abbrev pub store_answer : Space → Address → List ℕ → Result Owner Refusal
store_answer s address bytes =
    option_map_or (λ r. Err r) (refusal_of s address (length bytes)) (Ok (owner_of s (address / 4096)))

abbrev pub after_store : Space → Address → List ℕ → Space
after_store s address bytes =
    option_map_or (λ _. s) (refusal_of s address (length bytes))
    (with_visible_page s (address / 4096) (overwritten (visible_page s (address / 4096)) (address % 4096) bytes))

-- an overlay's own page, visible or not
abbrev pub own_page : Space → Processor → Kind → List ℕ
own_page s vp k = slice_index_or s.own (overlay_of vp k) []

-- the hypervisor writes an overlay's own page, visible or not (profile)
abbrev pub with_own_page : Space → Processor → Kind → List ℕ → Space
with_own_page s vp k page = record s { own = slice_set s.own (overlay_of vp k) page }

abbrev pub after_slot : Space → Processor → Source → List ℕ → Space
after_slot s vp sint slot = with_own_page s vp kind.Sim (with_slot (own_page s vp kind.Sim) sint slot)

abbrev pub is_pending : Space → Processor → Source → Bool
is_pending s vp sint = is_set (own_page s vp kind.Sim) (pending_place sint) 0

abbrev pub after_pending : Space → Processor → Source → Space
after_pending s vp sint = with_own_page s vp kind.Sim (with_bit (own_page s vp kind.Sim) (pending_place sint) 0)

abbrev pub is_flag_set : Space → Processor → Source → Flag → Bool
is_flag_set s vp sint flag = is_set (own_page s vp kind.Sief) (flag_place sint flag) (flag % 8)

abbrev pub after_flag : Space → Processor → Source → Flag → Space
after_flag s vp sint flag =
    with_own_page s vp kind.Sief (with_bit (own_page s vp kind.Sief) (flag_place sint flag) (flag % 8))

-- a guest page has other bytes, whether it is obscured or not
abbrev pub with_guest_page : Space → PageNumber → List ℕ → Space
with_guest_page s page bytes = record s { pages = slice_set s.pages page bytes }

-- both own pages of a processor are set to zero
abbrev pub after_clearing : Space → Processor → Space
after_clearing s vp = with_own_page (with_own_page s vp kind.Sim zero_page) vp kind.Sief zero_page
