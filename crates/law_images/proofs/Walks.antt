-- Lines that lead from one stage to another, and the text that has these lines.
use Rattle.std.proofs.Common.{◌≡◌, ℕ, zero, suc, ◌<◌, ◌≤◌, Bool, true, false, List, [], ◌∷◌, ◌++◌, append_assoc, cond, refl, sym, ap, subst, ◌∙◌, arith}
use Rattle.text_base.specs.Fields.{spaced}
use Rattle.text_base.specs.Lines.{lines_of, rest_of}
use Rattle.text_base.proofs.LineLemmas.{lines_of-line, rest_of-line}
use Rattle.text_base.proofs.PlainWords.{IsWritten}
use Rattle.synic_board.specs.State.{State, processors}
use Rattle.text_lines.specs.Printing.{text_of}
use Rattle.text_image.specs.declared.piece.Piece.{Piece}
use Rattle.text_image.specs.Image.{Lines, each_below}
use Rattle.text_image.specs.Pieces.{piece_fields, IsPiece}
use Rattle.text_image.proofs.PieceLemmas.{reading-means, piece-means}
use Rattle.text_restore.specs.Restoring.{Stage, Body, rank_of, lapics_after, IsLater, IsInTurn, Restores, Follows}
use Rattle.text_restore.specs.Images.{Leads}
use Rattle.text_restore.proofs.Short.{piece-written}

-- lines, by their fields, that lead from one stage to another
abbrev pub Walks : Stage → Lines → Stage → Type 0
Walks old [] new = new ≡ old
Walks old (fields ∷ lines) new =
    (next : Stage) × IsWritten fields × Follows old (spaced fields) next × Walks next lines new

pub walks-append : (a b c : Stage) (xs ys : Lines) → Walks a xs b → Walks b ys c → Walks a (xs ++ ys) c
walks-append a b c [] ys h k = subst (λ (st : Stage). Walks st ys c) h k
walks-append a b c (x ∷ xs) ys h k = (h.0, h.1, h.2, walks-append h.0 b c xs ys h.3 k)

-- the text of these lines
pub walks-lead : (a b : Stage) (lines : Lines) → Walks a lines b → Leads a (lines_of (text_of lines)) b
walks-lead a b [] h = h
walks-lead a b (x ∷ lines) h = subst (λ (ls : List (List ℕ)). Leads a ls b)
    (sym (ap lines_of (append_assoc (spaced x) (10 ∷ []) (text_of lines))
    ∙ lines_of-line (spaced x) (text_of lines) h.1.one))
    (h.0, h.1.short, h.2, walks-lead h.0 b lines h.3)

pub walks-whole : (a b : Stage) (lines : Lines) → Walks a lines b → rest_of (text_of lines) ≡ []
walks-whole a b [] h = refl
walks-whole a b (x ∷ lines) h =
    ap rest_of (append_assoc (spaced x) (10 ∷ []) (text_of lines)) ∙ rest_of-line (spaced x) (text_of lines) h.1.one
    ∙ walks-whole h.0 b lines h.3

-- A point on the way through an image: the state to which the pieces so far lead, how many local APICs they have, and
-- a rank that all of them are before.
pub record Point : Type 0 where
  pub board : State
  pub lapics : ℕ
  pub at : ℕ

abbrev pub point : State → ℕ → ℕ → Point
point board lapics at = record { board = board; lapics = lapics; at = at }

-- where a walk ends that began after the piece at `last`
pub record Arrives (p : Point) (last : ℕ) (lines : Lines) (q : Point) : Type 0 where
  pub now : ℕ
  pub before : now < q.at
  pub walk : Walks (Body p.board last p.lapics) lines (Body q.board now q.lapics)

-- These lines lead from a point to another.
pub record Passes (p : Point) (lines : Lines) (q : Point) : Type 0 where
  pub from : (last : ℕ) → last < p.at → Arrives p last lines q

pub passes-append : (p q r : Point) (xs ys : Lines) → Passes p xs q → Passes q ys r → Passes p (xs ++ ys) r
passes-append p q r xs ys h k = record {
  from = λ last below.
      let a = h.from last below in
      let b = k.from a.now a.before in
      record {
        now = b.now;
        before = b.before;
        walk =
            walks-append (Body p.board last p.lapics) (Body q.board a.now q.lapics)
            (Body r.board b.now r.lapics) xs ys a.walk b.walk;
      };
}

-- the lines of the numbers below n
pub passes-each : (n : ℕ) (f : ℕ → Lines) (at : ℕ → Point) → ((k : ℕ) → k < n → Passes (at k) (f k) (at (suc k)))
    → Passes (at 0) (each_below n f) (at n)
unfolding each_below
passes-each zero f at h = record { from = λ last below. record { now = last; before = below; walk = refl } }
passes-each (suc n) f at h =
    passes-append (at 0) (at n) (at (suc n)) (each_below n f) (f n)
    (passes-each n f at (λ k below. h k (omega arith))) (h n (omega arith))

-- no line, and the same state
pub passes-none : (p q : Point) → q.board ≡ p.board → q.lapics ≡ p.lapics → p.at ≤ q.at → Passes p [] q
passes-none p q board lapics at = record {
  from = λ last below. record {
    now = last;
    before = omega (arith, below, at);
    walk = (λ i. Body (board i) last (lapics i));
  };
}

-- the same state, at a rank that is not lower
pub passes-from : (p p' q : Point) (lines : Lines) → p'.board ≡ p.board → p'.lapics ≡ p.lapics → p.at ≤ p'.at
    → Passes p' lines q → Passes p lines q
passes-from p p' q lines board lapics at h = passes-append p p' q [] lines (passes-none p p' board lapics at) h

pub passes-to : (p q q' : Point) (lines : Lines) → q'.board ≡ q.board → q'.lapics ≡ q.lapics → q.at ≤ q'.at
    → Passes p lines q → Passes p lines q'
passes-to p q q' lines board lapics at h = record {
  from = λ last below. let a = h.from last below in record {
    now = a.now;
    before = omega (arith, a.before, at);
    walk = subst (λ (st : Stage). Walks (Body p.board last p.lapics) lines st)
        (sym (λ i. Body (board i) a.now (lapics i))) a.walk;
  };
}

-- What a piece needs at a point, to lead to another.
pub record Fits (p : Point) (x : Piece) (q : Point) : Type 0 where
  pub fits : IsPiece x
  pub later : (last : ℕ) → last < p.at → IsLater last x
  pub turn : IsInTurn (processors p.board) p.lapics x
  pub restores : Restores p.board x q.board
  pub count : q.lapics ≡ lapics_after p.lapics x
  pub before : rank_of x < q.at

pub passes-one : (p : Point) (x : Piece) (q : Point) → Fits p x q → Passes p (piece_fields x ∷ []) q
passes-one p x q h = record {
  from = λ last below. record {
    now = rank_of x;
    before = h.before;
    walk = (
      Body q.board (rank_of x) (lapics_after p.lapics x),
      piece-written x h.fits,
      (
        x,
        (reading-means (spaced (piece_fields x)) x).1 (piece-means x h.fits),
        record { next = q.board; later = h.later last below; turn = h.turn; restores = h.restores; stage = refl },
      ),
      ap (λ (n : ℕ). Body q.board (rank_of x) n) h.count,
    );
  };
}

-- a line that is left out where the board is as newly opened
pub passes-unless : (b : Bool) (p : Point) (x : Piece) (q : Point) → (b ≡ true → Passes p [] q)
    → (b ≡ false → Fits p x q) → Passes p (cond b [] (piece_fields x ∷ [])) q
passes-unless true p x q same new = same refl
passes-unless false p x q same new = passes-one p x q (new refl)
