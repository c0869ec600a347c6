-- Events that the derived comparison finds equal are equal.
use Rattle.std.proofs.Common.{◌≡◌, ◌&&◌, ℕ, List, Bool, true, false, sym, ap, subst, ◌∙◌, [], arith}
use Rattle.std.proofs.lemmas.Bool.Decides.{nat_tests}
use Rattle.std.specs.Cmp.Lexicographic.{pointwise, same_text}
use Rattle.std.specs.contracts.prelude.U8PartialEq.TheImpl.{ghosts as byte}
use Rattle.arrayvec.specs.ArrayVec.{ArrayVec}
use Rattle.synic_board.specs.contracts.event.EventPartialEq.TheImpl.{ghosts}
use Rattle.synic_board.specs.declared.event.Event.{Event}
use Rattle.synic_board.specs.declared.event.Event.TheVariants.{Post, Store}

same-bytes : (xs ys : ArrayVec ℕ) → pointwise byte.eq xs.items ys.items ≡ true → xs ≡ ys
same-bytes xs ys e = ap (λ (l : List ℕ). record { items = l }) (same_text xs.items ys.items (sym e))

last-holds : (a b : Bool) → (a && b) ≡ true → b ≡ true
last-holds true b e = e
last-holds false b e = absurd (cc)

-- the bytes of an event that has bytes
abbrev bytes_in : Event → ArrayVec ℕ
bytes_in (Post _ _ payload) = payload
bytes_in (Store _ bytes) = bytes
bytes_in _ = record { items = [] }

same-post : (port kind : ℕ) (payload : ArrayVec ℕ) (event : Event) → ghosts.eq (Post port kind payload) event ≡ true
    → Post port kind payload ≡ event
same-post port kind payload event e =
    let is : event ≡ Post port kind (bytes_in event) = grind (arith, nat_tests) in
    let holds = subst (λ o. ghosts.eq (Post port kind payload) o ≡ true) is e in
    ap (Post port kind) (same-bytes payload (bytes_in event) (last-holds _ _ (last-holds _ _ holds))) ∙ sym is

same-store : (address : ℕ) (bytes : ArrayVec ℕ) (event : Event) → ghosts.eq (Store address bytes) event ≡ true
    → Store address bytes ≡ event
same-store address bytes event e =
    let is : event ≡ Store address (bytes_in event) = grind (arith, nat_tests) in
    let holds = subst (λ o. ghosts.eq (Store address bytes) o ≡ true) is e in
    ap (Store address) (same-bytes bytes (bytes_in event) (last-holds _ _ holds)) ∙ sym is

pub same-event : (event other : Event) → ghosts.eq event other ≡ true → event ≡ other
same-event (Post port kind payload) other e = same-post port kind payload other e
same-event (Store address bytes) other e = same-store address bytes other e
same-event event other e = grind (arith, nat_tests)
