use Rattle.std.proofs.Common.{◌≡◌, ◌≢◌, ◌+◌, ◌≤◌, ◌<◌, ℕ, List, Bool, not, false, cond, eqb, ne_eqb, eq-eqb, eqb-true, length, get_or, map, sym, ap, arith, ◌∙◌, w8}
use Rattle.std.specs.Simd.Lanes.{mask_l, chunk}
use Rattle.std.specs.List.{prefix_len}
use Rattle.std.specs.Int.Count.{count_trailing_zeros}
use Rattle.std.proofs.lemmas.Simd.{length-chunk, bitmask_splat, first_set_mask_l, none_from_empty_mask, run_in_chunk_le, run_in_chunk_fails, run_in_chunk_stops}
use Rattle.text_base.proofs.lanes.before_feed.Goals as goal

module _ (text : List ℕ) (at : ℕ) (fits : at + 16 ≤ length text) where
  abbrev lanes : List ℕ
  lanes = chunk at 16 text

  abbrev mask : ℕ
  mask = mask_l (map (λ x. eqb x 10) lanes)

  no-feed : (k : ℕ) → eqb (get_or text k 0) 10 ≡ false → get_or text k 0 ≢ 10
  no-feed k e is = let yes = eq-eqb (get_or text k 0) 10 is in cc

  none : mask ≡ 0 → (k : ℕ) → at ≤ k → k < at + 16 → get_or text k 0 ≢ 10
  none e k low high = no-feed k (none_from_empty_mask (λ x. eqb x 10) text at 16 0 fits e k low high)

  counted : mask ≢ 0 → count_trailing_zeros 64 mask ≡ prefix_len (λ x. not (eqb x 10)) lanes
  counted e =
      sym (ap (λ (b : Bool). cond b 16 (count_trailing_zeros 64 mask)) (ne_eqb mask 0 e))
      ∙ first_set_mask_l (λ x. eqb x 10) lanes 16 (length-chunk at 16 text fits) (omega arith)

  record Found (r : ℕ) : Type 0 where
    pub bound : r ≤ 16
    pub before : (k : ℕ) → at ≤ k → k < at + r → get_or text k 0 ≢ 10
    pub feed : r < 16 → get_or text (at + r) 0 ≡ 10

  found : mask ≢ 0 → Found (count_trailing_zeros 64 mask)
  found e =
      let r = count_trailing_zeros 64 mask in
      let is = counted e in
      record {
        bound = run_in_chunk_le (λ x. eqb x 10) text at 16 r 0 fits is;
        before = λ k low high. no-feed k (run_in_chunk_fails (λ x. eqb x 10) text at 16 r 0 fits is k low high);
        feed = λ less. eqb-true (get_or text (at + r) 0) 10
            (run_in_chunk_stops (λ x. eqb x 10) text at 16 r 0 fits is less);
      }

pub returns-then-feeds-eq0-clause-before : goal.returns-then-feeds-eq0-clause-before
returns-then-feeds-eq0-clause-before c =
    let same = bitmask_splat w8 eqb (chunk c.args.at 16 c.args.text.now) 16 10
    (length-chunk c.args.at 16 c.args.text.now c.requires) (omega arith) in
    none c.args.text.now c.args.at c.requires (sym same ∙ c.if-feeds-eq0.true)

pub returns-else-feeds-eq0-clause-bound : goal.returns-else-feeds-eq0-clause-bound
returns-else-feeds-eq0-clause-bound c =
    let same = bitmask_splat w8 eqb (chunk c.args.at 16 c.args.text.now) 16 10
    (length-chunk c.args.at 16 c.args.text.now c.requires) (omega arith) in
    rw same (found c.args.text.now c.args.at c.requires (λ e. c.if-feeds-eq0.false (same ∙ e))).bound

pub returns-else-feeds-eq0-clause-before : goal.returns-else-feeds-eq0-clause-before
returns-else-feeds-eq0-clause-before c =
    let same = bitmask_splat w8 eqb (chunk c.args.at 16 c.args.text.now) 16 10
    (length-chunk c.args.at 16 c.args.text.now c.requires) (omega arith) in
    rw same (found c.args.text.now c.args.at c.requires (λ e. c.if-feeds-eq0.false (same ∙ e))).before

pub returns-else-feeds-eq0-clause-feed : goal.returns-else-feeds-eq0-clause-feed
returns-else-feeds-eq0-clause-feed c =
    let same = bitmask_splat w8 eqb (chunk c.args.at 16 c.args.text.now) 16 10
    (length-chunk c.args.at 16 c.args.text.now c.requires) (omega arith) in
    rw same (found c.args.text.now c.args.at c.requires (λ e. c.if-feeds-eq0.false (same ∙ e))).feed
