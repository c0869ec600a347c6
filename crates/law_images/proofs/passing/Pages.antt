-- The guest pages, and the own pages of the processors.
use Rattle.std.proofs.Common.{◌≡◌, ℕ, suc, ◌+◌, ◌*◌, ◌<◌, List, [], length, length-set, get_or, set, replicate, refl, sym, ap, ◌∙◌, arith}
use Rattle.std.proofs.lemmas.List.{get_or-set_same, set-set}
use Rattle.board_terms.specs.declared.pages.Kind.{Kind}
use Rattle.board_terms.specs.declared.pages.Kind.TheVariants as kinds
use Rattle.gpa_space.specs.Page.{zero_page, overwritten}
use Rattle.gpa_space.specs.Space.{own_page, overlay_of}
use Rattle.synic_board.specs.State.{State, processors, space_of}
use Rattle.synic_board.specs.Restoring.{HasNoTickets}
use Rattle.text_image.specs.declared.piece.Piece.TheVariants as pieces
use Rattle.text_image.specs.Image.{each_below, guest_lines, own_lines, own_page_lines}
use Rattle.text_restore.specs.Restoring.{rank, page_rank}
use Rattle.law_images.specs.States.{IsBoardState}
use Rattle.law_images.proofs.Blends.{blend, blend-more, block-fits, block-comes, page-passed}
use Rattle.law_images.proofs.Fronts.{front, length-front, front-none, front-more, front-start, front-whole}
use Rattle.law_images.proofs.Printed.{block_of}
use Rattle.law_images.proofs.Walks.{Point, point, Passes, passes-append, passes-each, passes-from, passes-to}

-- one more block of a page in a list of pages
block-put : (pages : List (List ℕ)) (k c : ℕ) (page : List ℕ) → k < length pages → length page ≡ 4096 → c < 16 →
    set pages k (blend page (suc c))
    ≡ set (set pages k (blend page c)) k
    (overwritten (get_or (set pages k (blend page c)) k []) (256 * c) (block_of page c))
block-put pages k c page inside whole below =
    let same = get_or-set_same pages k (blend page c) [] inside in
    sym (set-set pages k (blend page c) (blend page (suc c)))
    ∙ ap (set (set pages k (blend page c)) k)
    (blend-more page c whole below ∙ (λ i. overwritten (sym same i) (256 * c) (block_of page c)))

module _ (s : State) (h : IsBoardState s) (t : State) (full : processors t ≡ processors s) where
  abbrev with_pages : List (List ℕ) → State
  with_pages pages = record t { pages = pages }

  guest-passed : (k : ℕ) → k < length s.pages →
      Passes (point (with_pages (set (front k s.pages zero_page) k zero_page)) (processors s) (rank 4 k 0 0))
      (guest_lines s k)
      (point (with_pages (set (front k s.pages zero_page) k (get_or s.pages k []))) (processors s) (rank 4 k 0 4096))
  guest-passed k below =
      page-passed page (λ (y : List ℕ). with_pages (set (front k s.pages zero_page) k y)) (processors s)
      (λ c. rank 4 k 0 (256 * c))
      (λ c. pieces.Guest k (256 * c) (record { items = block_of page c })) (record {
        whole = whole;
        rising = λ c. omega arith;
        step = λ c low off. record {
          fits = (omega (arith, h.sizes.page_bound, below), block-fits page c whole (h.ranges.pages k [] below) low);
          later = λ last before. before;
          turn = sym full;
          restores = (
            inside c,
            block-comes c (block_of page c) low off,
            ap with_pages (block-put (front k s.pages zero_page) k c page (omega (arith, long, below)) whole low),
          );
          count = refl;
          before = omega arith;
        };
      })
    where
      page : List ℕ
      page = get_or s.pages k []

      whole : length (get_or s.pages k []) ≡ 4096
      whole = h.shape.pages k [] below

      long : length (front k s.pages zero_page) ≡ length s.pages
      long = length-front k s.pages zero_page

      inside : (c : ℕ) → k < length (set (front k s.pages zero_page) k (blend page c))
      inside c = omega (arith, length-set (front k s.pages zero_page) k (blend page c), long, below)

  abbrev guests-at : ℕ → Point
  guests-at k = point (with_pages (front k s.pages zero_page)) (processors s) (rank 4 k 0 0)

  pub guests-passed : Passes
      (point (with_pages (replicate (length s.pages) zero_page)) (processors s) (rank 4 0 0 0))
      (each_below (length s.pages) (guest_lines s))
      (point (with_pages s.pages) (processors s) (rank 5 0 0 0))
  guests-passed =
      passes-from (point (with_pages (replicate (length s.pages) zero_page)) (processors s) (rank 4 0 0 0))
      (guests-at 0) (point (with_pages s.pages) (processors s) (rank 5 0 0 0))
      (each_below (length s.pages) (guest_lines s)) (ap with_pages (sym (front-none s.pages zero_page))) refl
      (omega arith)
      (passes-to (guests-at 0) (guests-at (length s.pages))
      (point (with_pages s.pages) (processors s) (rank 5 0 0 0)) (each_below (length s.pages) (guest_lines s))
      (ap with_pages (sym (front-whole s.pages zero_page (length s.pages) (omega arith)))) refl
      (omega (arith, h.sizes.page_bound))
      (passes-each (length s.pages) (guest_lines s) guests-at step))
    where
      step : (k : ℕ) → k < length s.pages → Passes (guests-at k) (guest_lines s k) (guests-at (suc k))
      step k below =
          passes-from (guests-at k)
          (point (with_pages (set (front k s.pages zero_page) k zero_page)) (processors s) (rank 4 k 0 0))
          (guests-at (suc k)) (guest_lines s k)
          (ap with_pages (front-start k s.pages zero_page below)) refl (omega arith)
          (passes-to (point (with_pages (set (front k s.pages zero_page) k zero_page)) (processors s) (rank 4 k 0 0))
          (point (with_pages (set (front k s.pages zero_page) k (get_or s.pages k []))) (processors s)
          (rank 4 k 0 4096)) (guests-at (suc k)) (guest_lines s k)
          (ap with_pages (front-more k s.pages zero_page [] below)) refl (omega arith)
          (guest-passed k below))

  -- The own pages are read before all tickets.
  module _ (no_tickets : (p : ℕ) → HasNoTickets t p) where
    abbrev with_owns : List (List ℕ) → State
    with_owns own = record t { own = own }

    -- the pages before number j are there
    abbrev owns-at : ℕ → ℕ → Point
    owns-at j at = point (with_owns (front j s.own zero_page)) (processors s) at

    own-passed : (p : ℕ) (kind : Kind) → p < processors s → overlay_of p kind < length s.own →
        Passes (owns-at (overlay_of p kind) (rank 5 p (page_rank kind) 0)) (own_page_lines s p kind)
        (owns-at (suc (overlay_of p kind)) (rank 5 p (page_rank kind) 4096))
    own-passed p kind below on =
        passes-from (owns-at j (rank 5 p (page_rank kind) 0))
        (point (with_owns (set pages j zero_page)) (processors s) (rank 5 p (page_rank kind) 0))
        (owns-at (suc j) (rank 5 p (page_rank kind) 4096)) (own_page_lines s p kind)
        (ap with_owns (front-start j s.own zero_page on)) refl (omega arith)
        (passes-to (point (with_owns (set pages j zero_page)) (processors s) (rank 5 p (page_rank kind) 0))
        (point (with_owns (set pages j page)) (processors s) (rank 5 p (page_rank kind) 4096))
        (owns-at (suc j) (rank 5 p (page_rank kind) 4096)) (own_page_lines s p kind)
        (ap with_owns (front-more j s.own zero_page [] on)) refl (omega arith)
        (page-passed page (λ (y : List ℕ). with_owns (set pages j y)) (processors s)
        (λ c. rank 5 p (page_rank kind) (256 * c))
        (λ c. pieces.Own p kind (256 * c) (record { items = block_of page c })) (record {
          whole = whole;
          rising = λ c. omega arith;
          step = λ c low off. record {
            fits = (omega (arith, h.settled.bound, below), block-fits page c whole (h.ranges.own j [] on) low);
            later = λ last before. before;
            turn = sym full;
            restores = (
              omega (arith, full, below),
              no_tickets p,
              block-comes c (block_of page c) low off,
              ap with_owns (block-put pages j c page (omega (arith, long, on)) whole low),
            );
            count = refl;
            before = omega arith;
          };
        })))
      where
        j : ℕ
        j = overlay_of p kind

        pages : List (List ℕ)
        pages = front (overlay_of p kind) s.own zero_page

        page : List ℕ
        page = own_page (space_of s) p kind

        whole : length (own_page (space_of s) p kind) ≡ 4096
        whole = h.shape.own j [] on

        long : length pages ≡ length s.own
        long = length-front j s.own zero_page

    pub owns-passed : Passes
        (point (with_owns (replicate (2 * processors s) zero_page)) (processors s) (rank 5 0 0 0))
        (each_below (processors s) (own_lines s))
        (point (with_owns s.own) (processors s) (rank 6 0 0 0))
    owns-passed =
        passes-from (point (with_owns (replicate (2 * processors s) zero_page)) (processors s) (rank 5 0 0 0)) (at 0)
        (point (with_owns s.own) (processors s) (rank 6 0 0 0))
        (each_below (processors s) (own_lines s)) (ap with_owns (sym none)) refl (omega arith)
        (passes-to (at 0) (at (processors s)) (point (with_owns s.own) (processors s) (rank 6 0 0 0))
        (each_below (processors s) (own_lines s))
        (ap with_owns (sym (front-whole s.own zero_page (2 * processors s) (omega (arith, h.shape.overlays))))) refl
        (omega (arith, h.settled.bound))
        (passes-each (processors s) (own_lines s) at step))
      where
        at : ℕ → Point
        at p = owns-at (2 * p) (rank 5 p 0 0)

        none : replicate (2 * processors s) zero_page ≡ front 0 s.own zero_page
        none = ap (λ (n : ℕ). replicate n zero_page) (sym h.shape.overlays) ∙ front-none s.own zero_page

        step : (p : ℕ) → p < processors s → Passes (at p) (own_lines s p) (at (suc p))
        step p below =
            let first : suc (2 * p) ≡ 2 * p + 1 = omega arith in
            let second : 2 * suc p ≡ suc (2 * p + 1) = omega arith in
            passes-append (at p) (owns-at (2 * p + 1) (rank 5 p 1 0)) (at (suc p)) (own_page_lines s p kinds.Sim)
            (own_page_lines s p kinds.Sief)
            (passes-to (at p) (owns-at (suc (2 * p)) (rank 5 p 0 4096)) (owns-at (2 * p + 1) (rank 5 p 1 0))
            (own_page_lines s p kinds.Sim)
            (ap (λ (k : ℕ). with_owns (front k s.own zero_page)) (sym first)) refl (omega arith)
            (own-passed p kinds.Sim below (omega (arith, h.shape.overlays, below))))
            (passes-to (owns-at (2 * p + 1) (rank 5 p 1 0)) (owns-at (suc (2 * p + 1)) (rank 5 p 1 4096))
            (at (suc p)) (own_page_lines s p kinds.Sief)
            (ap (λ (k : ℕ). with_owns (front k s.own zero_page)) second) refl (omega arith)
            (own-passed p kinds.Sief below (omega (arith, h.shape.overlays, below))))
