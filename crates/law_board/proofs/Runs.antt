-- A run from a sound state keeps it sound and conserves messages.
use Rattle.std.proofs.Common.{ℕ, ◌≤◌, List, [], ◌∷◌, arith}
use Rattle.std.specs.List.{All}
use Rattle.std.proofs.lemmas.List.Elements.{All-head, All-tail}
use Rattle.synic_board.specs.declared.event.Event.{Event}
use Rattle.synic_board.specs.State.{State, processors, opened}
use Rattle.synic_board.specs.Step.{step}
use Rattle.synic_board.specs.Locations.{Conserves}
use Rattle.synic_board.specs.Sound.{PayloadFits, IsSound}
use Rattle.synic_board.specs.Paired.{HasOneSuspension}
use Rattle.synic_board.specs.Run.{Run, run_of}
use Rattle.law_board.specs.Accounts.{Accounts}
use Rattle.synic_board.proofs.keeping.Wholes.{IsIntact, KeepsMessages, kept_from_sound, sound_from_kept, tickets-conserved, messages-kept, keeps-nothing, messages-after}
use Rattle.synic_board.proofs.keeping.Opened.{no-locations, sound-opened}
use Rattle.synic_board.proofs.keeping.Steps.{keeps-step}
use Rattle.synic_board.proofs.keeping.Settled.{settled-run, settled-opened}

keeps-run : (n : ℕ) (s : State) (es : List Event) → All PayloadFits es → IsIntact n s
    → KeepsMessages n s ((run_of s es).0, (run_of s es).2)
unfolding run_of
keeps-run n s [] fit h = messages-kept n s ((run_of s []).0, (run_of s []).2) (keeps-nothing n s h)
keeps-run n s (e ∷ es) fit h =
    let now : State = (step s e).0 in
    let first = keeps-step n s e (All-head PayloadFits e es fit) h in
    messages-after n s (now, (step s e).2) ((run_of now es).0, (run_of now es).2) first
    (keeps-run n now es (All-tail PayloadFits e es fit) first.kept)

pub sound-from : (s : State) (es : List Event) → All PayloadFits es → IsSound s → IsSound (run_of s es).0
sound-from s es fit h =
    let r : Run = run_of s es in
    let k = keeps-run (processors s) s es fit (kept_from_sound s h) in
    sound_from_kept (processors s) r.0 k.kept (tickets-conserved s r.0 r.2 k.tickets_monotone k.conserves h.tickets)

pub conserves-from : (s : State) (es : List Event) → All PayloadFits es → IsSound s
    → Conserves s (run_of s es).0 (run_of s es).2
conserves-from s es fit h = (keeps-run (processors s) s es fit (kept_from_sound s h)).conserves

-- every reachable state is sound
pub sound-run : (n pages first : ℕ) (es : List Event) → All PayloadFits es
    → IsSound (run_of (opened n pages first) es).0
sound-run n pages first es fit = sound-from (opened n pages first) es fit (sound-opened n pages first)

pub accounts : (n pages first : ℕ) (es : List Event) → All PayloadFits es
    → Accounts (opened n pages first) (run_of (opened n pages first) es)
accounts n pages first es fit =
    let conserves = conserves-from (opened n pages first) es fit (sound-opened n pages first) in
    record {
      once = (sound-run n pages first es fit).tickets.once;
      account = λ t. omega (arith, conserves t, no-locations n pages first t);
    }

pub one_suspension : (n pages first : ℕ) (es : List Event) → n ≤ 64
    → HasOneSuspension (run_of (opened n pages first) es).0
one_suspension n pages first es bound =
    (settled-run (opened n pages first) es (settled-opened n pages first bound)).suspended
