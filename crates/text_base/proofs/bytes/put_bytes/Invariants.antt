use Rattle.std.proofs.Common.{◌≡◌, ◌++◌, drop}
use Rattle.text_base.specs.Numbers.{spelled}
use Rattle.text_base.proofs.bytes.put_bytes.Given as goal

abbrev pub invariant-loop-byte : goal.invariant-loop-byte
invariant-loop-byte g l =
    g.S.Sink.text l.out ++ spelled (drop l.byte-index l.bytes) ≡ g.S.Sink.text l.fn.out ++ spelled l.bytes
