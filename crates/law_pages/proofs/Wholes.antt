-- What a guest learns of the accesses that the host made since the guest was last there.
use Rattle.std.proofs.Common.{◌≡◌, ℕ, List, ◌++◌, sym, ap, ◌∙◌, subst, refl}
use Rattle.live_pages.specs.declared.access.Access.{Access}
use Rattle.live_pages.specs.declared.access.Turn.{Turn}
use Rattle.live_pages.specs.Traces.{memory, accesses, hosts_turns, IsHistory, IsGuestLoad, IsGuestStore}
use Rattle.std.specs.Prelude.{◌==◌, if◌then◌else◌}
use Rattle.std.proofs.lemmas.List.{append_cancel_right}
use Rattle.live_pages.proofs.Tracing.{accesses-hosts, same}

-- a word that was written last
pub here : (w a b : ℕ) → (if w == w then a else b) ≡ a
here w a b = rw (same w w refl) refl

-- a guest's step sees all accesses of the host
pub sees_load : (w found : ℕ) (log : List Access) (seen now : List Turn) → IsGuestLoad w found log seen now
    → accesses now ≡ log
sees_load w found log seen now (whole, is, finds) =
    ap accesses is ∙ accesses-hosts whole.since seen ∙ sym whole.host

pub sees_store : (w value : ℕ) (log : List Access) (seen now : List Turn) → IsGuestStore w value log seen now
    → accesses now ≡ log
sees_store w value log seen now (whole, is) =
    ap accesses is ∙ accesses-hosts whole.since seen ∙ sym whole.host

pub memory_store : (w value : ℕ) (log : List Access) (seen now : List Turn) → IsGuestStore w value log seen now
    → memory now w ≡ value
memory_store w value log seen now (whole, is) = ap (λ l. memory l w) is ∙ here w value _

-- what the host did since
pub learns : (w found : ℕ) (news log now : List Access) (seen later : List Turn) → accesses seen ≡ log
    → now ≡ news ++ log → IsGuestLoad w found now seen later
    → IsHistory (hosts_turns news ++ seen) × (found ≡ memory (hosts_turns news ++ seen) w)
learns w found news log now seen later all more (whole, is, finds) =
    let since : whole.since ≡ news =
    append_cancel_right whole.since news (accesses seen) (sym whole.host ∙ more ∙ ap (λ l. news ++ l) (sym all)) in (
      subst (λ l. IsHistory (hosts_turns l ++ seen)) since whole.history,
      finds ∙ ap (λ l. memory l w) (is ∙ ap (λ l. hosts_turns l ++ seen) since),
    )
