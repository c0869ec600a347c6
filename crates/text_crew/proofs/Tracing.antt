-- From what was sent to the output of a script.
use Rattle.std.proofs.Common.{◌≡◌, ℕ, List, [], ◌∷◌, ◌++◌, refl, Option, None, Some, Ok, Err, IfSome}
use Rattle.std.specs.Io.KnownBytes.{Appends}
use Rattle.std.proofs.KnownBytes.{Appends-trans}
use Rattle.synic_board.specs.State.{State}
use Rattle.text_lines.specs.declared.fault.ScriptFault.{ScriptFault}
use Rattle.text_crew.specs.Crew.{Crew, finished}
use Rattle.text_crew.specs.Running.{IsOutput, IsKnownOutput, IsSent, Writes, parse_on}
use Rattle.text_crew.specs.inside.Reporting.{Refusal, Report}
use Rattle.text_crew.specs.declared.running.CrewRun.{CrewRun}
use Rattle.text_crew.specs.declared.running.CrewRun.TheVariants.{Done, Script, Unsettled, Memory, NoThread, Reading, Writing}

pub known : (r0 : Option (List ℕ)) (P Q : List ℕ → Type 0) → ((input : List ℕ) → P input → Q input) → IfSome r0 P
    → IfSome r0 Q
known None P Q step h = tt
known (Some input) P Q step h = step input h

-- A report that nothing precedes is the whole output.
module _ (board : Option State) (tells : CrewRun → List ℕ → Type 0) (r0 w0 w w1 : Option (List ℕ)) (P : List ℕ → Type 0)
    (step : (input : List ℕ) → P input → (end : CrewRun) (text : List ℕ) → tells end text
    → IsOutput board input end text) (read : IfSome r0 P) (first : Appends w0 w []) where
  output : (end : CrewRun) (text : List ℕ) → tells end text → IsKnownOutput board r0 end text
  output end text told =
      known r0 P (λ input. IsOutput board input end text) (λ input p. step input p end text told) read

  sends : (end : CrewRun) (sent : List ℕ) → IsSent tells end sent → IsSent (IsKnownOutput board r0) end sent
  sends Writing sent part =
      record { end = part.end; unsent = part.unsent; text = output part.end (sent ++ part.unsent) part.text }
  sends end sent told = output end sent told

  pub spoken : (end : CrewRun) → Writes tells end w w1 → Writes (IsKnownOutput board r0) end w0 w1
  spoken end h =
      record { sent = h.sent; is = sends end h.sent h.is; appended = Appends-trans w0 w w1 [] h.sent first h.appended }

pub tells-refusal : (board : Option State) (line : ℕ) (fault : ScriptFault) (input : List ℕ)
    → parse_on board input ≡ Err (line, fault) → (end : CrewRun) (text : List ℕ) →
    Refusal line fault end text → IsOutput board input end text
tells-refusal board line fault input is Done text h = absurd h
tells-refusal board line fault input is (Script l f) text h = rw (h.0, h.1) (is, h.2)
tells-refusal board line fault input is Unsettled text h = absurd h
tells-refusal board line fault input is Memory text h = h
tells-refusal board line fault input is NoThread text h = absurd h
tells-refusal board line fault input is Reading text h = absurd h
tells-refusal board line fault input is Writing text h = absurd h

pub tells-report : (board : Option State) (last : Crew) (input : List ℕ) → parse_on board input ≡ Ok (Some last)
    → (end : CrewRun) (text : List ℕ) → Report board (finished last) end text →
    IsOutput board input end text
tells-report board last input is Done text h = record { last = last; parsed = is; has = h }
tells-report board last input is (Script l f) text h = absurd h
tells-report board last input is Unsettled text h = record { last = last; parsed = is; has = h }
tells-report board last input is Memory text h = h
tells-report board last input is NoThread text h = record { last = last; parsed = is; has = h }
tells-report board last input is Reading text h = absurd h
tells-report board last input is Writing text h = absurd h

pub none-sent : (sent unsent : List ℕ) → sent ++ unsent ≡ [] → sent ≡ []
none-sent [] unsent is = refl
none-sent (b ∷ sent) unsent is = absurd (cc)
