use Rattle.std.proofs.Common.{◌≡◌, ◌++◌, take}
use Rattle.text_base.proofs.output.Output.push_each.Given as goal

abbrev pub invariant-loop-byte : goal.invariant-loop-byte
invariant-loop-byte g l =
    (l.self.name ≡ l.fn.self.name) × (l.self.start ≡ l.fn.self.start)
    × (l.self.text ≡ l.fn.self.text ++ take l.byte-index l.bytes)
