-- The greatest number of bytes read.
use Rattle.std.proofs.Common.{◌≡◌, ℕ, Bool, true, false, List, Option, None, Some, refl, sym, subst}
use Rattle.text_base.specs.Streams.{ReadsUpTo}
use Rattle.text_driver.specs.Driving.{ReadsNear, most_of}
use Rattle.text_driver.specs.Driving as driving
use Rattle.text_driver.specs.declared.driving.End.{End}
use Rattle.text_driver.specs.declared.driving.End.TheVariants as ends
use Rattle.text_lines.specs.declared.fault.ScriptFault.{ScriptFault}
use Rattle.text_lines.specs.declared.fault.ScriptFault.TheVariants as faults
use Rattle.text_script.specs.Streams.{most_read, StopsNear}
use Rattle.text_script.specs.inside.Judging.{conclusion, Concludes, Finishes}
use Rattle.text_script.specs.declared.stream.ReplayEnd.{ReplayEnd}
use Rattle.text_script.specs.declared.stream.ReplayEnd.TheVariants.{Done, Script, Memory, Reading, Writing}

-- an end after the whole script is not a failed read
finished-within : (result : ReplayEnd) (fault : Option (ℕ × ScriptFault)) (w0 w1 : Option (List ℕ))
    → Finishes result fault w0 w1 → most_read result ≡ 1073741824
finished-within Done fault w0 w1 ends = refl
finished-within (Script line f) fault w0 w1 ends = refl
finished-within Memory fault w0 w1 ends = refl
finished-within Reading fault w0 w1 ends = absurd ends
finished-within Writing fault w0 w1 ends = refl

-- If the fault's line is written, or nothing is, the limit is not exceeded.
within : (result : ReplayEnd) (fault : Option (ℕ × ScriptFault)) (r0 r1 w0 w1 : Option (List ℕ))
    → Finishes result fault w0 w1 → ReadsUpTo 1073741824 r0 r1 → ReadsUpTo (most_read result) r0 r1
within result fault r0 r1 w0 w1 ends = subst (λ n. ReadsUpTo n r0 r1) (sym (finished-within result fault w0 w1 ends))

-- No line is reported if there is no fault.
done-near : (result : ReplayEnd) (r0 r1 w0 w1 : Option (List ℕ)) → Finishes result None w0 w1 → StopsNear result r0 r1
done-near (Script line fault) r0 r1 w0 w1 ends = let off = ends.0 in cc
done-near result r0 r1 w0 w1 ends = tt

-- The reported line is the one near which reading stopped.
fault-near : (result : ReplayEnd) (line : ℕ) (fault : ScriptFault) (r0 r1 w0 w1 : Option (List ℕ))
    → Finishes result (Some (line, fault)) w0 w1 → ReadsNear line r0 r1 → StopsNear result r0 r1
fault-near (Script l f) line fault r0 r1 w0 w1 ends near =
    let is =
    ends.0 in let same : (line, fault) ≡ (l, f) = cc in subst (λ (p : ℕ × ScriptFault). ReadsNear p.0 r0 r1) same near
fault-near result line fault r0 r1 w0 w1 ends near = tt

pub concluded-within : (end : End ScriptFault) (opened : Bool) (result : ReplayEnd) (r0 r1 w0 w1 : Option (List ℕ))
    → Concludes (conclusion end opened) result w0 w1 →
    ReadsUpTo (most_of end) r0 r1 → ReadsUpTo (most_read result) r0 r1
concluded-within (ends.Last line) opened result r0 r1 w0 w1 f h = within result _ r0 r1 w0 w1 f h
concluded-within (ends.Wrong line g) opened result r0 r1 w0 w1 f h = within result _ r0 r1 w0 w1 f h
concluded-within (ends.Long line) opened result r0 r1 w0 w1 f h = within result _ r0 r1 w0 w1 f h
concluded-within (ends.Cut line) opened result r0 r1 w0 w1 f h = within result _ r0 r1 w0 w1 f h
concluded-within ends.Memory opened result r0 r1 w0 w1 f h = rw f.0 h
concluded-within ends.Reading opened result r0 r1 w0 w1 f h = rw f.0 h
concluded-within ends.Writing opened result r0 r1 w0 w1 f h = rw f.0 h

pub concluded-near : (end : End ScriptFault) (opened : Bool) (result : ReplayEnd) (r0 r1 w0 w1 : Option (List ℕ))
    → Concludes (conclusion end opened) result w0 w1 →
    driving.StopsNear end r0 r1 → StopsNear result r0 r1
concluded-near (ends.Last line) true result r0 r1 w0 w1 f near = done-near result r0 r1 w0 w1 f
concluded-near (ends.Last line) false result r0 r1 w0 w1 f near = fault-near result line faults.First r0 r1 w0 w1 f near
concluded-near (ends.Wrong line g) opened result r0 r1 w0 w1 f near = fault-near result line g r0 r1 w0 w1 f near
concluded-near (ends.Long line) opened result r0 r1 w0 w1 f near = fault-near result line faults.Long r0 r1 w0 w1 f near
concluded-near (ends.Cut line) opened result r0 r1 w0 w1 f near = fault-near result line faults.Cut r0 r1 w0 w1 f near
concluded-near ends.Memory opened result r0 r1 w0 w1 f near = rw f.0 tt
concluded-near ends.Reading opened result r0 r1 w0 w1 f near = rw f.0 tt
concluded-near ends.Writing opened result r0 r1 w0 w1 f near = rw f.0 tt
