-- The lines that were read at each stage are those that an image of the board would have so far.
use Rattle.std.proofs.Common.{◌≡◌, ℕ, nat_eq, ◌<◌, ◌≤◌, Bool, false, List, [], ◌∷◌, ◌++◌, append_assoc, append-nil, Some, cond, refl, sym, ap, subst, ◌∙◌, arith, codes}
use Rattle.event_ports.specs.Ports.{port_count}
use Rattle.std.specs.Prelude.{◌==◌}
use Rattle.std.proofs.lemmas.Bool.Decides.{nat_tests}
use Rattle.std.proofs.lemmas.List.Splits.{join_with_byte-slice_split}
use Rattle.text_base.specs.Fields.{fields_of, spaced}
use Rattle.text_base.specs.Lines.{lines_of, joined}
use Rattle.text_base.proofs.LineLemmas.{cut}
use Rattle.synic_board.specs.State.{State, IsWithinLimits, opened}
use Rattle.text_lines.specs.Items.{Opening, item_fields}
use Rattle.text_lines.specs.Printing.{text_of}
use Rattle.text_lines.proofs.ReadLemmas.{reading-means as item-means}
use Rattle.text_image.specs.declared.piece.Piece.{Piece}
use Rattle.text_image.specs.declared.piece.Piece.TheVariants as pieces
use Rattle.text_image.specs.Image.{Lines, end_fields, image, image_lines}
use Rattle.text_image.specs.Pieces.{piece_fields, IsPiece}
use Rattle.text_image.proofs.PieceLemmas.{reading-means}
use Rattle.text_restore.specs.Restoring.{Stage, Untitled, Titled, Body, rank_of, lapics_after, Continues, Opens, Follows, IsLater, IsInTurn}
use Rattle.text_restore.specs.Images.{Leads, IsImage}
use Rattle.law_images.proofs.Spots.{all_lines, all-empty, all-grow, before-end}
use Rattle.law_images.proofs.Printed.{printed, titles, image-printed}
use Rattle.law_images.proofs.Extending.{IsShaped, IsBlank, Extends, extends-adds, still-blank}
use Rattle.law_images.proofs.Opened.{opened-shaped, opened-blank}
use Rattle.law_images.proofs.Steps.{IsInner, extends}

-- the end line, if it was read
abbrev ended : ℕ → Lines
ended last = cond (last == rank_of pieces.End) (end_fields ∷ []) []

abbrev so_far : ℕ → ℕ → ℕ → State → ℕ → ℕ → Lines
so_far n m ticket s last lapics = titles n m ticket ++ (all_lines n m (printed s lapics) ++ ended last)

-- These lines were read, and led to this state: they are what is printed of it so far, and the rest of it is as on a
-- newly opened board.
record IsRead (s : State) (last lapics : ℕ) (lines : Lines) : Type 0 where
  n : ℕ
  m : ℕ
  ticket : ℕ
  sizes : IsWithinLimits n m
  shaped : IsShaped n m ticket s
  blank : IsBlank n m s last lapics
  full : last ≡ rank_of pieces.End → lapics ≡ n
  same : lines ≡ so_far n m ticket s last lapics

abbrev HasRead : Stage → Lines → Type 0
HasRead Untitled lines = lines ≡ []
HasRead Titled lines = lines ≡ (codes "image" ∷ codes "1" ∷ []) ∷ []
HasRead (Body s last lapics) lines = IsRead s last lapics lines

-- a later piece is not before the last one
late : (last : ℕ) (x : Piece) → IsInner x → IsLater last x → last ≤ rank_of x
late last (pieces.Moment t) inner h = omega (arith, h)
late last (pieces.Lapic p a) inner h = omega (arith, h)
late last (pieces.Control p value) inner h = omega (arith, h)
late last (pieces.Overlay p kind value) inner h = omega (arith, h)
late last (pieces.Source p i value) inner h = omega (arith, h)
late last (pieces.Guest k at bytes) inner h = omega (arith, h)
late last (pieces.Own p kind at bytes) inner h = omega (arith, h)
late last (pieces.Port k p i shape) inner h = omega (arith, h)
late last (pieces.Timer p i config count due) inner h = omega (arith, h)
late last (pieces.Queued p i m) inner h = h
late last (pieces.Slot p i ticket) inner h = omega (arith, h)
late last pieces.End inner h = absurd inner

not-ended : (last : ℕ) → last < rank_of pieces.End → ended last ≡ []
not-ended last h =
    let off : (last == rank_of pieces.End) ≡ false =
    grind (arith, nat_tests) in ap (λ (t : Bool). cond t (end_fields ∷ []) []) off

-- a piece before the end
inner-read : (s : State) (last lapics : ℕ) (x : Piece) (new : Stage) (lines : Lines) → IsInner x → IsPiece x
    → Continues s last lapics x new → IsRead s last lapics lines →
    HasRead new (lines ++ piece_fields x ∷ [])
inner-read s last lapics x new lines inner fits h k =
    subst (λ (st : Stage). HasRead st (lines ++ piece_fields x ∷ [])) (sym h.stage) written
  where
    after : ℕ
    after = lapics_after lapics x

    step : Extends k.n k.m k.ticket s lapics x h.next after
    step = extends k.n k.m k.ticket s last lapics h.next k.sizes k.shaped k.blank x inner fits h.later
        (subst (λ (n : ℕ). IsInTurn n lapics x) k.shaped.apics h.turn) h.restores

    low : rank_of x < rank_of pieces.End
    low = omega (
      arith,
      step.is,
      before-end k.n k.m k.sizes.processor_bound k.sizes.page_bound step.section step.a step.b step.c step.spot,
    )

    later : last ≤ rank_of x
    later = late last x inner h.later

    grown : all_lines k.n k.m (printed h.next after) ≡ all_lines k.n k.m (printed s lapics) ++ piece_fields x ∷ []
    grown = all-grow k.n k.m k.sizes.processor_bound k.sizes.page_bound (printed s lapics) (printed h.next after)
        (rank_of x) (piece_fields x)
        (extends-adds k.n k.m k.ticket s last lapics x h.next after k.blank later step)

    longer : (front old now e e' read : Lines) (line : List (List ℕ)) → read ≡ front ++ (old ++ e)
        → now ≡ old ++ line ∷ [] → e ≡ [] → e' ≡ [] →
        read ++ line ∷ [] ≡ front ++ (now ++ e')
    longer front old now e e' read line is more none none' =
        rw (is, more, none, none') (simp (append_assoc, append-nil))

    written : IsRead h.next (rank_of x) after (lines ++ piece_fields x ∷ [])
    written = record {
      n = k.n;
      m = k.m;
      ticket = k.ticket;
      sizes = k.sizes;
      shaped = step.shaped;
      blank = still-blank k.n k.m k.ticket s last lapics x h.next after k.blank later step;
      full = λ e. absurd (omega (arith, e, low));
      same = longer (titles k.n k.m k.ticket) (all_lines k.n k.m (printed s lapics))
          (all_lines k.n k.m (printed h.next after)) (ended last) (ended (rank_of x)) lines (piece_fields x)
          k.same grown (not-ended last (omega (arith, later, low))) (not-ended (rank_of x) low);
    }

-- the end
end-read : (s : State) (last lapics : ℕ) (new : Stage) (lines : Lines) → Continues s last lapics pieces.End new
    → IsRead s last lapics lines → HasRead new (lines ++ end_fields ∷ [])
end-read s last lapics new lines h k =
    subst (λ (st : Stage). HasRead st (lines ++ end_fields ∷ [])) (sym h.stage)
    (subst (λ (t : State). IsRead t (rank_of pieces.End) lapics (lines ++ end_fields ∷ [])) (sym h.restores) written)
  where
    longer : (front old e read : Lines) → read ≡ front ++ (old ++ e) → e ≡ []
        → read ++ end_fields ∷ [] ≡ front ++ (old ++ end_fields ∷ [])
    longer front old e read is none = rw (is, none) (simp (append_assoc, append-nil))

    written : IsRead s (rank_of pieces.End) lapics (lines ++ end_fields ∷ [])
    written = record {
      n = k.n;
      m = k.m;
      ticket = k.ticket;
      sizes = k.sizes;
      shaped = k.shaped;
      blank = λ σ i j l spot behind. k.blank σ i j l spot (omega (arith, behind, h.later));
      full = λ _. h.turn ∙ k.shaped.apics;
      same = longer (titles k.n k.m k.ticket) (all_lines k.n k.m (printed s lapics)) (ended last) lines k.same
          (not-ended last h.later);
    }

piece-read : (s : State) (last lapics : ℕ) (x : Piece) (new : Stage) (lines : Lines) → IsPiece x
    → Continues s last lapics x new → IsRead s last lapics lines →
    HasRead new (lines ++ piece_fields x ∷ [])
piece-read s last lapics pieces.End new lines fits h k = end-read s last lapics new lines h k
piece-read s last lapics x new lines fits h k = inner-read s last lapics x new lines tt fits h k

-- a newly opened board has a title and a board line alone
opened-lines : (n m ticket : ℕ) → IsWithinLimits n m → titles n m ticket ≡ so_far n m ticket (opened n m ticket) 0 0
opened-lines n m ticket sizes =
    let lines : Lines = all_lines n m (printed (opened n m ticket) 0) in
    ap (λ (x : Lines). titles n m ticket ++ x)
    (sym (append-nil lines ∙ all-empty n m (printed (opened n m ticket) 0) (opened-blank n m ticket sizes)))

-- the board line
opening-read : (line : List ℕ) (new : Stage) (lines : Lines) (h : Opens line new)
    → lines ≡ (codes "image" ∷ codes "1" ∷ []) ∷ [] →
    HasRead new (lines ++ item_fields (Opening h.count (Some h.pages) h.ticket) ∷ [])
opening-read line new lines h is =
    subst (λ (st : Stage). HasRead st (lines ++ item_fields (Opening h.count (Some h.pages) h.ticket) ∷ []))
    (sym h.stage) (record {
      n = h.count;
      m = h.pages;
      ticket = h.ticket;
      sizes = h.sizes;
      shaped = opened-shaped h.count h.pages h.ticket;
      blank = λ σ i j k spot behind. opened-blank h.count h.pages h.ticket h.sizes σ i j k spot;
      full = λ e. absurd (omega (arith, e));
      same = ap (λ (x : Lines). x ++ item_fields (Opening h.count (Some h.pages) h.ticket) ∷ []) is
          ∙ opened-lines h.count h.pages h.ticket h.sizes;
    })

-- a line has the fields of what it denotes
whole : (line : List ℕ) (fields : List (List ℕ)) → fields_of line ≡ fields → line ≡ spaced fields
whole line fields e = sym (join_with_byte-slice_split 32 line) ∙ ap spaced e

record ReadsLine (line : List ℕ) (new : Stage) (lines : Lines) : Type 0 where
  fields : List (List ℕ)
  text : line ≡ spaced fields
  read : HasRead new (lines ++ fields ∷ [])

line-read : (old new : Stage) (line : List ℕ) (lines : Lines) → Follows old line new → HasRead old lines
    → ReadsLine line new lines
line-read Untitled new line lines h is = record {
  fields = codes "image" ∷ codes "1" ∷ [];
  text = h.0;
  read = subst (λ (st : Stage). HasRead st (lines ++ (codes "image" ∷ codes "1" ∷ []) ∷ [])) (sym h.1)
      (ap (λ (x : Lines). x ++ (codes "image" ∷ codes "1" ∷ []) ∷ []) is);
}
line-read Titled new line lines h is = record {
  fields = item_fields (Opening h.count (Some h.pages) h.ticket);
  text = whole line (item_fields (Opening h.count (Some h.pages) h.ticket))
      ((item-means line (Opening h.count (Some h.pages) h.ticket)).0 h.item).fields;
  read = opening-read line new lines h is;
}
line-read (Body s last lapics) new line lines h k =
    let d = (reading-means line h.0).0 h.1 in
    record {
      fields = piece_fields h.0;
      text = whole line (piece_fields h.0) d.fields;
      read = piece-read s last lapics h.0 new lines d.fits h.2 k;
    }

record ReadsLines (text : List ℕ) (new : Stage) (lines : Lines) : Type 0 where
  more : Lines
  text_is : text ≡ text_of more
  read : HasRead new (lines ++ more)

lines-read : (old new : Stage) (ls : List (List ℕ)) (lines : Lines) → Leads old ls new → HasRead old lines
    → ReadsLines (joined ls) new lines
lines-read old new [] lines h is = record {
  more = [];
  text_is = refl;
  read = subst (λ (st : Stage). HasRead st (lines ++ [])) (sym h)
      (subst (λ (x : Lines). HasRead old x) (sym (append-nil lines)) is);
}
lines-read old new (line ∷ ls) lines h is =
    let one = line-read old h.0 line lines h.2 is in
    let rest = lines-read h.0 new ls (lines ++ one.fields ∷ []) h.3 one.read in
    record {
      more = one.fields ∷ rest.more;
      text_is = (λ i. one.text i ++ 10 ∷ rest.text_is i)
          ∙ sym (append_assoc (spaced one.fields) (10 ∷ []) (text_of rest.more));
      read = subst (λ (x : Lines). HasRead new x) (append_assoc lines (one.fields ∷ []) rest.more) rest.read;
    }

pub saved : (text : List ℕ) (s : State) → IsImage text s → text ≡ image s
unfolding image
saved text s h =
    (cut text).whole ∙ (λ i. joined (lines_of text) ++ h.whole i) ∙ append-nil (joined (lines_of text)) ∙ read.text_is
    ∙ ap text_of (all-read (subst (λ (st : Stage). HasRead st read.more) h.complete.1 read.read))
  where
    read : ReadsLines (joined (lines_of text)) h.stage []
    read = lines-read Untitled h.stage (lines_of text) [] h.leads refl

    all-read : IsRead s (rank_of pieces.End) h.complete.0 read.more → read.more ≡ image_lines s
    all-read w = w.same ∙ (λ i. titles (sym w.shaped.apics i) (sym w.shaped.pages i) (sym w.shaped.next i)
        ++ (all_lines (sym w.shaped.apics i) (sym w.shaped.pages i) (printed s ((w.full refl ∙ sym w.shaped.apics) i))
        ++ end_fields ∷ []))
        ∙ image-printed s (w.shaped.ports ∙ (λ i. port_count (sym w.shaped.apics i) (nat_eq (sym w.shaped.pages i) 0)))
