-- The plain struct that encodes a notice.
use Rattle.std.specs.Prelude.{ℕ}
use Rattle.board_terms.specs.declared.notices.Notice.{Notice}
use Rattle.board_terms.specs.declared.notices.Notice.TheVariants.{Accepted, Placed, Pending, Requested, FlagSet, Consumed, Withdrawn, Expired, Skipped}
use Rattle.c_terms.specs.declared.notice.CNotice.{CNotice}

-- a kind and a processor, and no other field used
abbrev pub empty_notice : ℕ → ℕ → CNotice
empty_notice kind vp =
    record { kind = kind; vp = vp; sint = 0; vector = 0; timer = 0; flag = 0; ticket = 0; due = 0; count = 0 }

abbrev pub notice_to_c : Notice → CNotice
notice_to_c (Accepted vp sint ticket) = record (empty_notice 1 vp) { sint = sint; ticket = ticket }
notice_to_c (Placed vp sint ticket) = record (empty_notice 2 vp) { sint = sint; ticket = ticket }
notice_to_c (Pending vp sint) = record (empty_notice 3 vp) { sint = sint }
notice_to_c (Requested vp vector) = record (empty_notice 4 vp) { vector = vector }
notice_to_c (FlagSet vp sint flag) = record (empty_notice 5 vp) { sint = sint; flag = flag }
notice_to_c (Consumed vp sint ticket) = record (empty_notice 6 vp) { sint = sint; ticket = ticket }
notice_to_c (Withdrawn vp sint ticket) = record (empty_notice 7 vp) { sint = sint; ticket = ticket }
notice_to_c (Expired vp index due) = record (empty_notice 8 vp) { timer = index; due = due }
notice_to_c (Skipped vp index count) = record (empty_notice 9 vp) { timer = index; count = count }
