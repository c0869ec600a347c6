-- The overlay registers of the processors, and the effect of moving one overlay.
use Rattle.std.proofs.Common.{◌≡◌, ◌≢◌, ℕ, ◌+◌, ◌*◌, ◌/◌, ◌<◌, Bool, true, false, cond, ◌⊎◌, inl, inr, List, [], ◌∷◌, map, length, refl, sym, ap, ◌∙◌, zero, suc, arith, nat_lt, get_or, set, length-set}
use Rattle.std.specs.Prelude.{Option, None, Some, ◌==◌, if◌then◌else◌}
use Rattle.std.specs.Option.{option_map_or}
use Rattle.std.proofs.lemmas.List.{get_or-set_same, get_or-set_other, set-get_or, map-set}
use Rattle.std.proofs.lemmas.List.Folds.{position_or_len-set}
use Rattle.std.proofs.lemmas.List.FromFn.{fill_by_all, get_or-map-range_with_len, length-map-range_with_len}
use Rattle.std.proofs.lemmas.Bool.Decides.{nat_tests}
use Rattle.board_terms.specs.declared.pages.Kind.{Kind}
use Rattle.board_terms.specs.declared.pages.Kind.TheVariants as kind
use Rattle.board_terms.specs.declared.pages.Owner.{Owner}
use Rattle.board_terms.specs.declared.pages.Owner.TheVariants.{Guest, Nothing}
use Rattle.std.proofs.Math.Seq.{map-set_same}
use Rattle.lapic_core.specs.Vectors.{Vectors}
use Rattle.synic_regs.specs.declared.register.Register.TheVariants.{Source}
use Rattle.synic_regs.specs.Regs.{Regs, reset_regs, stores, is_refused, with_value, after_write, value_of, auto_vectors}
use Rattle.gpa_space.specs.Space.{Space, overlay_of, is_mapped_at, visible, page_count, owner_of, overlay_owner}
use Rattle.synic_board.specs.State.{overlay_registers}
use Rattle.synic_board.specs.Summaries.{Values, owners_of}
use Rattle.synic_board.specs.inside.Moves.{looked_up, with_owners}
use Rattle.synic_board.specs.Restoring.{overlay_register}

pub length-overlays : (rs : List Regs) → length (overlay_registers rs) ≡ 2 * length rs
length-overlays [] = refl
length-overlays (r ∷ rs) = omega (arith, length-overlays rs)

-- other registers of one processor: only its two overlays change
pub overlays-set : (rs : List Regs) (p : ℕ) (r : Regs)
    → overlay_registers (set rs p r) ≡ set (set (overlay_registers rs) (2 * p) r.sim) (2 * p + 1) r.sief
overlays-set [] p r = refl
overlays-set (q ∷ rs) zero r = refl
overlays-set (q ∷ rs) (suc p) r =
    let even : 2 * suc p ≡ suc (suc (2 * p)) = omega arith in
    let odd : 2 * suc p + 1 ≡ suc (suc (2 * p + 1)) = omega arith in
    ap (λ xs. q.sim ∷ q.sief ∷ xs) (overlays-set rs p r)
    ∙ (λ i. set (set (q.sim ∷ q.sief ∷ overlay_registers rs) (sym even i) r.sim) (sym odd i) r.sief)

pub sim-overlay : (rs : List Regs) (p : ℕ) → p < length rs
    → get_or (overlay_registers rs) (2 * p) 0 ≡ (get_or rs p reset_regs).sim
sim-overlay [] p h = absurd (omega arith)
sim-overlay (q ∷ rs) zero h = refl
sim-overlay (q ∷ rs) (suc p) h =
    let even : 2 * suc p ≡ suc (suc (2 * p)) =
    omega arith in ap (λ k. get_or (q.sim ∷ q.sief ∷ overlay_registers rs) k 0) even ∙ sim-overlay rs p (omega arith)

pub sief-overlay : (rs : List Regs) (p : ℕ) → p < length rs
    → get_or (overlay_registers rs) (2 * p + 1) 0 ≡ (get_or rs p reset_regs).sief
sief-overlay [] p h = absurd (omega arith)
sief-overlay (q ∷ rs) zero h = refl
sief-overlay (q ∷ rs) (suc p) h =
    let odd : 2 * suc p + 1 ≡ suc (suc (2 * p + 1)) =
    omega arith in ap (λ k. get_or (q.sim ∷ q.sief ∷ overlay_registers rs) k 0) odd ∙ sief-overlay rs p (omega arith)

-- a processor's registers that differ in one overlay register
pub overlays-sim : (rs : List Regs) (p v : ℕ) → p < length rs
    → overlay_registers (set rs p (record (get_or rs p reset_regs) { sim = v })) ≡ set (overlay_registers rs) (2 * p) v
overlays-sim rs p v h =
    let other : 2 * p + 1 ≢ 2 * p = λ e. omega arith in
    let left : get_or (set (overlay_registers rs) (2 * p) v) (2 * p + 1) 0 ≡ (get_or rs p reset_regs).sief =
    get_or-set_other (overlay_registers rs) (2 * p) (2 * p + 1) v 0 other
    ∙ sief-overlay rs p h in
    overlays-set rs p (record (get_or rs p reset_regs) { sim = v })
    ∙ ap (set (set (overlay_registers rs) (2 * p) v) (2 * p + 1)) (sym left)
    ∙ set-get_or (set (overlay_registers rs) (2 * p) v) (2 * p + 1) 0

pub overlays-sief : (rs : List Regs) (p v : ℕ) → p < length rs
    → overlay_registers (set rs p (record (get_or rs p reset_regs) { sief = v }))
    ≡ set (overlay_registers rs) (2 * p + 1) v
overlays-sief rs p v h =
    overlays-set rs p (record (get_or rs p reset_regs) { sief = v })
    ∙ ap (λ xs. set xs (2 * p + 1) v)
    (ap (set (overlay_registers rs) (2 * p)) (sym (sim-overlay rs p h))
    ∙ set-get_or (overlay_registers rs) (2 * p) 0)

-- registers with the same overlays
pub overlays-kept : (rs : List Regs) (p : ℕ) (r : Regs) → p < length rs → r.sim ≡ (get_or rs p reset_regs).sim
    → r.sief ≡ (get_or rs p reset_regs).sief →
    overlay_registers (set rs p r) ≡ overlay_registers rs
overlays-kept rs p r h sim sief =
    overlays-set rs p r
    ∙ ap (λ xs. set xs (2 * p + 1) r.sief)
    (ap (set (overlay_registers rs) (2 * p)) (sim ∙ sym (sim-overlay rs p h))
    ∙ set-get_or (overlay_registers rs) (2 * p) 0)
    ∙ ap (set (overlay_registers rs) (2 * p + 1)) (sief ∙ sym (sief-overlay rs p h))
    ∙ set-get_or (overlay_registers rs) (2 * p + 1) 0

not_there : (page x : ℕ) → x / 4096 ≢ page → is_mapped_at page x ≡ false
not_there page x n = let b : (x / 4096 == page) ≡ false = grind (arith, nat_tests) in grind (arith, nat_tests)

visible-moved : (s : Space) (k u v page : ℕ) → get_or s.registers k 0 ≡ u → u / 4096 ≢ page → v / 4096 ≢ page
    → visible (record s { registers = set s.registers k v }) page ≡ visible s page
visible-moved s k u v page was a b =
    let p : ℕ → Bool = is_mapped_at page in
    let same : p v ≡ p (get_or s.registers k 0) = not_there page v b ∙ sym (ap p was ∙ not_there page u a) in
    let at = position_or_len-set p s.registers k v 0 same in
    let l = length-set s.registers k v in
    (λ i. cond (nat_lt (at i) (l i)) (Some (at i)) None)

-- a page that the overlay neither left nor reached keeps its owner
owner-moved : (s : Space) (k u v page : ℕ) → get_or s.registers k 0 ≡ u → u / 4096 ≢ page → v / 4096 ≢ page
    → owner_of (record s { registers = set s.registers k v }) page ≡ owner_of s page
owner-moved s k u v page was a b =
    ap (λ o. if nat_lt page (page_count s) then option_map_or overlay_owner o Guest else Nothing)
    (visible-moved s k u v page was a b)

pub length-looked_up : (s : Space) (owners : List Owner) (page : ℕ) → length (looked_up s owners page) ≡ length owners
length-looked_up s owners page = elim (nat_lt page (length s.pages)) as
    (λ b. length (if b then set owners page (owner_of s page) else owners) ≡ length owners) [
      | true ↦
          length-set owners page (owner_of s page)
      | false ↦ refl
    ]

looked_up-here : (s : Space) (owners : List Owner) (page : ℕ) → page < length s.pages → length owners ≡ length s.pages
    → get_or (looked_up s owners page) page Guest ≡ owner_of s page
looked_up-here s owners page h l =
    let on : nat_lt page (length s.pages) ≡ true = grind (arith, nat_tests) in
    ap (λ b. get_or (if b then set owners page (owner_of s page) else owners) page Guest) on
    ∙ get_or-set_same owners page (owner_of s page) Guest (omega arith)

looked_up-other : (s : Space) (owners : List Owner) (page i : ℕ) → i ≢ page
    → get_or (looked_up s owners page) i Guest ≡ get_or owners i Guest
looked_up-other s owners page i n = elim (nat_lt page (length s.pages)) as
    (λ b. get_or (if b then set owners page (owner_of s page) else owners) i Guest ≡ get_or owners i Guest) [
      | true ↦
          get_or-set_other owners page i (owner_of s page) Guest n
      | false ↦ refl
    ]

is_or_not : (x k : ℕ) → (x ≡ k) ⊎ (x ≢ k)
is_or_not x k = go (x == k) refl
  where
    go : (b : Bool) → (x == k) ≡ b → (x ≡ k) ⊎ (x ≢ k)
    go true e = inl (grind (arith, nat_tests))
    go false e = inr (grind (arith, nat_tests))

-- after a move, the owners of the page that was left and of the page that was reached are recomputed
pub owners-moved : (s : Space) (k u v : ℕ) → get_or s.registers k 0 ≡ u →
    let t : Space =
    record s { registers = set s.registers k v } in
    looked_up t (looked_up t (owners_of s) (u / 4096)) (v / 4096) ≡ owners_of t
owners-moved s k u v was =
    let t : Space = record s { registers = set s.registers k v } in
    let before : List Owner = owners_of s in
    let left : List Owner = looked_up t before (u / 4096) in
    let l : length before ≡ length s.pages = length-map-range_with_len (owner_of s) 0 (length s.pages) in
    let m : length left ≡ length s.pages = length-looked_up t before (u / 4096) ∙ l in
    fill_by_all (owner_of t) (looked_up t left (v / 4096)) (length s.pages) Guest
    (length-looked_up t left (v / 4096) ∙ m)
    (λ i h. elim (is_or_not i (v / 4096)) [
      | inl e ↦ ap (λ j. get_or (looked_up t left (v / 4096)) j Guest) e
          ∙ looked_up-here t left (v / 4096) (omega arith) m ∙ ap (owner_of t) (sym e)
      | inr n ↦ looked_up-other t left (v / 4096) i n ∙ (elim (is_or_not i (u / 4096)) [
        | inl e ↦ ap (λ j. get_or left j Guest) e ∙ looked_up-here t before (u / 4096) (omega arith) l
            ∙ ap (owner_of t) (sym e)
        | inr o ↦ looked_up-other t before (u / 4096) i o
            ∙ get_or-map-range_with_len (owner_of s) 0 (length s.pages) i i Guest h (omega arith)
            ∙ sym (owner-moved s k u v i was (λ e. o (sym e)) (λ e. n (sym e)))
      ])
    ])

pub length-owners : (s : Space) → length (owners_of s) ≡ length s.pages
length-owners s = length-map-range_with_len (owner_of s) 0 (length s.pages)

-- the summary after a move of overlay k, from a value u to a value v of its register
pub summary_of-moved : (b t : Space) (rs : List Regs) (n k u v : ℕ) (w : Regs) (nexts : List (Option ℕ))
    (queued : List ℕ) (earliest : Option (ℕ × (ℕ × ℕ))) (before between after : Values) →
    b.registers ≡ overlay_registers rs → t ≡ record b { registers = set b.registers k v } → get_or b.registers k 0 ≡ u
    → t.registers ≡ overlay_registers (set rs n w) →
    auto_vectors w ≡ auto_vectors (get_or rs n reset_regs) →
    before ≡ record {
      nexts = nexts;
      autos = map auto_vectors rs;
      owners = owners_of (record { pages = b.pages; registers = overlay_registers rs; own = b.own });
      queued = queued;
      earliest = earliest;
    } →
    between ≡ with_owners before (looked_up t before.owners (u / 4096))
    → after ≡ with_owners between (looked_up t between.owners (v / 4096)) →
    after ≡ record {
      nexts = nexts;
      autos = map auto_vectors (set rs n w);
      owners = owners_of (record { pages = t.pages; registers = overlay_registers (set rs n w); own = t.own });
      queued = queued;
      earliest = earliest;
    }
summary_of-moved b t rs n k u v w nexts queued earliest before between after tied moved was now auto start first
    second =
    let r : Space = record b { registers = set b.registers k v } in
    let a : before.owners ≡ owners_of b =
    ap (λ (x : Values). x.owners) start
    ∙ ap (λ rs. owners_of (record { pages = b.pages; registers = rs; own = b.own })) (sym tied) in
    let c : between.owners ≡ looked_up r (owners_of b) (u / 4096) =
    ap (λ (x : Values). x.owners) first ∙ (λ i. looked_up (moved i) (a i) (u / 4096)) in
    let d : after.owners ≡ looked_up r (looked_up r (owners_of b) (u / 4096)) (v / 4096) =
    ap (λ (x : Values). x.owners) second ∙ (λ i. looked_up (moved i) (c i) (v / 4096)) in
    let e : after.owners ≡ owners_of
    (record { pages = t.pages; registers = overlay_registers (set rs n w); own = t.own }) =
    d ∙ owners-moved b k u v was ∙ ap owners_of (sym moved)
    ∙ ap (λ rs. owners_of (record { pages = t.pages; registers = rs; own = t.own })) now in
    let f : after.autos ≡ map auto_vectors (set rs n w) = ap (λ (x : Values). x.autos)
    (second ∙ ap (λ (x : Values). with_owners x (looked_up t between.owners (v / 4096)))
    (first ∙ ap (λ (x : Values). with_owners x (looked_up t before.owners (u / 4096))) start)) ∙ sym
    (map-set_same auto_vectors rs n w reset_regs auto) in
    let g : after.nexts ≡ nexts = ap (λ (x : Values). x.nexts)
    (second ∙ ap (λ (x : Values). with_owners x (looked_up t between.owners (v / 4096)))
    (first ∙ ap (λ (x : Values). with_owners x (looked_up t before.owners (u / 4096))) start)) in
    let j : after.queued ≡ queued = ap (λ (x : Values). x.queued)
    (second ∙ ap (λ (x : Values). with_owners x (looked_up t between.owners (v / 4096)))
    (first ∙ ap (λ (x : Values). with_owners x (looked_up t before.owners (u / 4096))) start)) in
    let l : after.earliest ≡ earliest = ap (λ (x : Values). x.earliest)
    (second ∙ ap (λ (x : Values). with_owners x (looked_up t between.owners (v / 4096)))
    (first ∙ ap (λ (x : Values). with_owners x (looked_up t before.owners (u / 4096))) start)) in
    (λ i. record { nexts = g i; autos = f i; owners = e i; queued = j i; earliest = l i })

-- where an overlay is mapped, by the registers of its processor
pub overlay-read : (rs : List Regs) (p : ℕ) (k : Kind) → p < length rs
    → get_or (overlay_registers rs) (overlay_of p k) 0 ≡ value_of (get_or rs p reset_regs) (overlay_register k)
overlay-read rs p kind.Sim h = sim-overlay rs p h
overlay-read rs p kind.Sief h = sief-overlay rs p h

pub overlay-stores : (k : Kind) → stores (overlay_register k) ≡ true
overlay-stores kind.Sim = refl
overlay-stores kind.Sief = refl

pub overlay-auto : (u : Regs) (k : Kind) (v : ℕ) → auto_vectors (after_write u (overlay_register k) v) ≡ auto_vectors u
overlay-auto u kind.Sim v = refl
overlay-auto u kind.Sief v = refl

overlays-moved : (rs : List Regs) (p v : ℕ) (k : Kind) → p < length rs →
    overlay_registers (set rs p (after_write (get_or rs p reset_regs) (overlay_register k) v))
    ≡ set (overlay_registers rs) (overlay_of p k) v
overlays-moved rs p v kind.Sim h = overlays-sim rs p v h
overlays-moved rs p v kind.Sief h = overlays-sief rs p v h

-- after an overlay has moved, the space has the registers of the processors
pub overlay-tied : (b t : Space) (rs : List Regs) (n v : ℕ) (k : Kind) (u w : Regs) → n < length rs
    → b.registers ≡ overlay_registers rs → u ≡ get_or rs n reset_regs →
    w ≡ after_write u (overlay_register k) v → t ≡ record b { registers = set b.registers (overlay_of n k) v }
    → t.registers ≡ overlay_registers (set rs n w)
overlay-tied b t rs n v k u w h tied was now moved =
    ap (λ (s : Space). s.registers) moved ∙ ap (λ xs. set xs (overlay_of n k) v) tied ∙ sym (overlays-moved rs n v k h)
    ∙ ap (λ r. overlay_registers (set rs n r)) (sym (now ∙ ap (λ (r : Regs). after_write r (overlay_register k) v) was))

-- the summary after a write of a register that moves no overlay
pub summary_of-kept : (pages own : List (List ℕ)) (rs : List Regs) (n : ℕ) (w : Regs) (nexts : List (Option ℕ))
    (queued : List ℕ) (earliest : Option (ℕ × (ℕ × ℕ))) (before : Values) →
    n < length rs → w.sim ≡ (get_or rs n reset_regs).sim → w.sief ≡ (get_or rs n reset_regs).sief
    → auto_vectors w ≡ auto_vectors (get_or rs n reset_regs) →
    before ≡ record {
      nexts = nexts;
      autos = map auto_vectors rs;
      owners =
          owners_of (record { pages = pages; registers = overlay_registers rs; own = own });
      queued =
          queued;
      earliest = earliest;
    } →
    before ≡ record {
      nexts = nexts;
      autos = map auto_vectors (set rs n w);
      owners = owners_of (record { pages = pages; registers = overlay_registers (set rs n w); own = own });
      queued = queued;
      earliest = earliest;
    }
summary_of-kept pages own rs n w nexts queued earliest before h sim sief auto start =
    let e = sym (overlays-kept rs n w h sim sief) in
    let f = sym (map-set_same auto_vectors rs n w reset_regs auto) in
    start ∙ (λ i. record {
      nexts = nexts;
      autos = f i;
      owners =
          owners_of (record { pages = pages; registers = e i; own = own });
      queued = queued;
      earliest = earliest;
    })

-- the summary after a write of a source
pub summary_of-source : (pages own : List (List ℕ)) (rs : List Regs) (n p : ℕ) (w : Regs) (auto : Vectors)
    (nexts : List (Option ℕ)) (queued : List ℕ)
    (earliest : Option (ℕ × (ℕ × ℕ))) (before after : Values) →
    n < length rs → w.sim ≡ (get_or rs n reset_regs).sim → w.sief ≡ (get_or rs n reset_regs).sief → n ≡ p
    → auto ≡ auto_vectors w →
    before ≡ record {
      nexts = nexts;
      autos = map auto_vectors rs;
      owners =
          owners_of (record { pages = pages; registers = overlay_registers rs; own = own });
      queued =
          queued;
      earliest = earliest;
    } →
    after ≡ record before { autos = set before.autos p auto } →
    after ≡ record {
      nexts = nexts;
      autos = map auto_vectors (set rs n w);
      owners = owners_of (record { pages = pages; registers = overlay_registers (set rs n w); own = own });
      queued = queued;
      earliest = earliest;
    }
summary_of-source pages own rs n p w auto nexts queued earliest before after h sim sief same is start written =
    let e = sym (overlays-kept rs n w h sim sief) in
    let f : set (map auto_vectors rs) p auto ≡ map auto_vectors (set rs n w) =
    (λ i. set (map auto_vectors rs) (sym same i) (is i)) ∙ sym (map-set auto_vectors rs n w) in
    written ∙ ap (λ (v : Values). record v { autos = set v.autos p auto }) start
    ∙ (λ i. record {
      nexts = nexts;
      autos = f i;
      owners =
          owners_of (record { pages = pages; registers = e i; own = own });
      queued = queued;
      earliest = earliest;
    })

-- a write of a source moves no overlay
pub source-sim : (u : Regs) (n v : ℕ) → (after_write u (Source n) v).sim ≡ u.sim
source-sim u n v =
    elim (is_refused (Source n) v) as
    (λ b. (if b then u else with_value u (Source n) v).sim ≡ u.sim) [ true ↦ refl | false ↦ refl ]

pub source-sief : (u : Regs) (n v : ℕ) → (after_write u (Source n) v).sief ≡ u.sief
source-sief u n v =
    elim (is_refused (Source n) v) as
    (λ b. (if b then u else with_value u (Source n) v).sief ≡ u.sief) [ true ↦ refl | false ↦ refl ]
