use Rattle.std.proofs.Common.{take, sym, subst, ◌∙◌, w8}
use Rattle.std.specs.List.{range_with_len}
use Rattle.std.specs.Simd.Lanes.{Each1, pick_l}
use Rattle.std.proofs.lemmas.Simd.{length-chunk, chunk-fits, below_from_Fits, pick_l_whole}
use Rattle.text_base.specs.Numbers.{IsByte}
use Rattle.text_base.proofs.LaneLemmas.{padded-bytes, eight-number}
use Rattle.text_base.proofs.lanes.number_of_eight.Goals as goal

pub spelled_by-requires : goal.spelled_by-requires
spelled_by-requires c =
    let text = c.args.text.now in
    let order = pick_l_whole 0 (take 8 text) 8 (length-chunk 0 8 text c.requires) in
    padded-bytes 8 (pick_l 0 (take 8 text) (range_with_len 0 8))
    (subst (Each1 IsByte) (sym order) (below_from_Fits w8 _ (chunk-fits w8 0 8 text c.type_inv.text)))

pub returns : goal.returns
returns c =
    let e = c.in_ok-bytes.ensures in (
      c.requires,
      eight-number c.args.text.now c.in_ok-bytes.bytes c.from.result c.requires c.if-text-eq48.false e.0
          e.1 e.2 (c.from.ensures ∙ c.from_be_bytes-word.ensures),
    )
