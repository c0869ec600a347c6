use Rattle.std.proofs.Common.{◌≡◌, ◌++◌, drop, map}
use Rattle.text_lines.specs.Printing.{notice_fields, text_of}
use Rattle.text_lines.proofs.print.notice.put_notices.Given as goal

abbrev pub invariant-loop-notice : goal.invariant-loop-notice
invariant-loop-notice g l =
    g.S.Sink.text l.out ++ text_of (map notice_fields (drop l.notice-index l.notices))
    ≡ g.S.Sink.text l.fn.out ++ text_of (map notice_fields l.notices)
