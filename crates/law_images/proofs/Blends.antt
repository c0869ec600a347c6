-- A page of which the first blocks were read, and the others are zeros.
use Rattle.std.proofs.Common.{◌≡◌, ℕ, suc, ◌+◌, ◌*◌, ◌<◌, ◌≤◌, false, List, ◌++◌, append_assoc, append-nil, length, get_or, take, drop, replicate, refl, sym, ap, subst, ◌∙◌, arith, length-take}
use Rattle.std.specs.Str.{bytes_eq}
use Rattle.std.proofs.lemmas.List.{take_all, drop_all, take_at, drop_at, drop-drop, take-take, take-append-drop, length-replicate}
use Rattle.std.proofs.lemmas.List.Folds.{drop_split}
use Rattle.std.proofs.lemmas.Slice.{between_is}
use Rattle.std.proofs.lemmas.Slice.Eq.{bytes_eq-Decides}
use Rattle.text_base.specs.Numbers.{AreBytes}
use Rattle.gpa_space.specs.Page.{zero_page, overwritten}
use Rattle.synic_board.specs.State.{State}
use Rattle.text_image.specs.declared.piece.Piece.{Piece}
use Rattle.text_image.specs.Image.{each_below}
use Rattle.text_image.specs.Pieces.{IsPageBlock}
use Rattle.text_restore.specs.Restoring.{IsBlock}
use Rattle.law_images.proofs.Printed.{block_of, block_printed}
use Rattle.law_images.proofs.Blocks.{length-block, byte-at, zero-block}
use Rattle.law_images.proofs.Walks.{Point, point, Passes, Fits, passes-unless, passes-none, passes-each, passes-to}

abbrev pub blend : List ℕ → ℕ → List ℕ
blend page c = take (256 * c) page ++ drop (256 * c) zero_page

zeros : length zero_page ≡ 4096
zeros = length-replicate {A = ℕ} 4096 0

blend-none : (page : List ℕ) → blend page 0 ≡ zero_page
blend-none page = refl

blend-all : (page : List ℕ) → length page ≡ 4096 → blend page 16 ≡ page
blend-all page l =
    (λ i. take_all 4096 page (omega (arith, l)) i ++ drop_all 4096 zero_page (omega (arith, zeros)) i) ∙ append-nil page

-- one more block
blend-block : (page : List ℕ) (c : ℕ) → length page ≡ 4096 → c < 16
    → blend page (suc c) ≡ (take (256 * c) page ++ block_of page c) ++ drop (256 * c + 256) zero_page
blend-block page c l h =
    let next : 256 * suc c ≡ 256 * c + 256 = omega arith in
    (λ i. take (next i) page ++ drop (next i) zero_page)
    ∙ ap (λ (y : List ℕ). y ++ drop (256 * c + 256) zero_page) (sym grown)
  where
    grown : take (256 * c) page ++ block_of page c ≡ take (256 * c + 256) page
    grown =
        (λ i. sym (take-take (256 * c) (256 * c + 256) page (omega arith)) i
        ++ between_is page (256 * c) (256 * c + 256) i)
        ∙ take-append-drop (256 * c) (take (256 * c + 256) page)

pub blend-more : (page : List ℕ) (c : ℕ) → length page ≡ 4096 → c < 16
    → blend page (suc c) ≡ overwritten (blend page c) (256 * c) (block_of page c)
blend-more page c l h =
    blend-block page c l h ∙ (λ i. (sym front i ++ block_of page c) ++ sym rest i)
  where
    low : length (take (256 * c) page) ≡ 256 * c
    low = omega (arith, length-take (256 * c) page, l, h)

    front : take (256 * c) (blend page c) ≡ take (256 * c) page
    front = take_at (take (256 * c) page) (drop (256 * c) zero_page) (256 * c) low

    rest : drop (256 * c + length (block_of page c)) (blend page c) ≡ drop (256 * c + 256) zero_page
    rest =
        ap (λ (n : ℕ). drop (256 * c + n) (blend page c)) (length-block page c l h)
        ∙ sym (drop-drop 256 (256 * c) (blend page c))
        ∙ ap (drop 256) (drop_at (take (256 * c) page) (drop (256 * c) zero_page) (256 * c) low)
        ∙ drop-drop 256 (256 * c) zero_page

-- a block of zeros
blend-still : (page : List ℕ) (c : ℕ) → length page ≡ 4096 → c < 16 → block_of page c ≡ replicate 256 0
    → blend page (suc c) ≡ blend page c
blend-still page c l h is =
    blend-block page c l h
    ∙ ap (λ (y : List ℕ). (take (256 * c) page ++ y) ++ drop (256 * c + 256) zero_page) (is ∙ sym (zero-block c h))
    ∙ append_assoc (take (256 * c) page) (block_of zero_page c) (drop (256 * c + 256) zero_page)
    ∙ ap (λ (y : List ℕ). take (256 * c) page ++ y) (sym (drop_split zero_page (256 * c) (256 * c + 256) (omega arith)))

pub block-fits : (page : List ℕ) (c : ℕ) → length page ≡ 4096 → AreBytes page → c < 16
    → IsPageBlock (256 * c) (block_of page c)
block-fits page c l bytes h = (omega (arith, h), each, length-block page c l h)
  where
    each : AreBytes (block_of page c)
    each i d below =
        let low : i < 256 = omega (arith, below, length-block page c l h) in
        let same : get_or (block_of page c) i d ≡ get_or page (256 * c + i) d =
        ap (λ (xs : List ℕ). get_or xs i d) (between_is page (256 * c) (256 * c + 256)) ∙ byte-at page c i d low in
        subst (λ (b : ℕ). b < 256) (sym same) (bytes (256 * c + i) d (omega (arith, l, h, low)))

pub block-comes : (c : ℕ) (bytes : List ℕ) → c < 16 → bytes_eq bytes (replicate 256 0) ≡ false → IsBlock (256 * c) bytes
block-comes c bytes h off = (omega (arith, h), omega arith, off)

-- A page, block by block.
pub record IsPageWalk (page : List ℕ) (board : List ℕ → State) (lapics : ℕ) (at : ℕ → ℕ) (x : ℕ → Piece) : Type 0 where
  pub whole : length page ≡ 4096
  pub rising : (c : ℕ) → at c ≤ at (suc c)
  pub step : (c : ℕ) → c < 16 → bytes_eq (block_of page c) (replicate 256 0) ≡ false →
      Fits (point (board (blend page c)) lapics (at c)) (x c) (point (board (blend page (suc c))) lapics (at (suc c)))

pub page-passed : (page : List ℕ) (board : List ℕ → State) (lapics : ℕ) (at : ℕ → ℕ) (x : ℕ → Piece)
    → IsPageWalk page board lapics at x →
    Passes (point (board zero_page) lapics (at 0)) (each_below 16 (λ c. block_printed (x c) (block_of page c)))
    (point (board page) lapics (at 16))
page-passed page board lapics at x h =
    passes-to (to 0) (to 16) (point (board page) lapics (at 16))
    (each_below 16 (λ c. block_printed (x c) (block_of page c)))
    (ap board (sym (blend-all page h.whole))) refl (omega arith)
    (passes-each 16 (λ c. block_printed (x c) (block_of page c)) to
    (λ c below. passes-unless (bytes_eq (block_of page c) (replicate 256 0)) (to c) (x c) (to (suc c))
    (λ e. passes-none (to c) (to (suc c))
    (ap board (blend-still page c h.whole below ((bytes_eq-Decides (block_of page c) (replicate 256 0)).0 e)))
    refl (h.rising c))
    (h.step c below)))
  where
    to : ℕ → Point
    to c = point (board (blend page c)) lapics (at c)
