use Rattle.std.proofs.Common.{◌≡◌, ◌++◌, ℕ, List, length, map, eqb, sym, ap, subst, ◌∙◌, arith, w8}
use Rattle.std.specs.List.{range_with_len}
use Rattle.std.specs.Simd.Lanes.{pick_l}
use Rattle.std.proofs.lemmas.Simd.{bitmask_splat, pick_l_left, pick_l_whole}
use Rattle.std.proofs.lemmas.List.{length-map}
use Rattle.text_base.specs.Numbers.{spelled, AreBytes}
use Rattle.text_base.specs.inside.Lanes.{lane_value}
use Rattle.text_base.proofs.LaneLemmas.{pairs, spelled-pairs, none_is_other}
use Rattle.text_base.proofs.lanes.spelled_by.Goals as goal

pub returns : goal.returns
returns c =
    let digits = c.args.text in
    let long : length digits ≡ 16 = c.fits-text.0 in
    let values = c.values_of-values.result in
    let is : values ≡ map lane_value digits = c.values_of-values.ensures in
    let wide : length values ≡ 16 = ap length is ∙ length-map digits lane_value ∙ long in
    let none : none_is_other values ≡ 0 =
    sym (bitmask_splat w8 eqb values 16 255 wide (omega arith)) ∙ c.if-values-ne0.false in
    let read = spelled-pairs 8 digits long c.requires (rw is at none) in
    let order : pick_l 0 (values ++ values) (range_with_len 0 16) ≡ map lane_value digits =
    pick_l_left 0 values values 16 (range_with_len 0 16) wide tt ∙ pick_l_whole 0 values 16 wide ∙ is in
    subst (λ (v : List ℕ). (digits ≡ spelled (pairs v)) × (length (pairs v) ≡ 8) × AreBytes (pairs v)) (sym order) read
