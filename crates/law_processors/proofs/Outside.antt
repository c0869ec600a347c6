-- Boards on which more vectors are requested at a processor.
use Rattle.std.proofs.Common.{◌≡◌, ◌≢◌, ◌⊎◌, inl, inr, ℕ, ◌<◌, ◌≤◌, ◌==◌, Bool, true, false, ◌||◌, ◌&&◌, not, List, [], ◌∷◌, ◌++◌, get_or, set, refl, sym, ap, subst, ◌∙◌, arith}
use Rattle.std.specs.Prelude.{Option, None, Some, length, if◌then◌else◌}
use Rattle.std.specs.Option.{option_map_or}
use Rattle.std.specs.Ordering.{nat_cmp, eq_by_cmp}
use Rattle.std.specs.Cmp.{nat_cmp_total}
use Rattle.std.specs.FinSet as finset
use Rattle.std.specs.FinSet.{nat_cmp-IsAntisymmetric}
use Rattle.std.proofs.lemmas.Bool.{cases_eq, cases_lt}
use Rattle.std.proofs.lemmas.Bool.Decides.{nat_tests}
use Rattle.std.proofs.lemmas.List.{length-set, set_past, set-set, set_comm, set-get_or, get_or-set_same, get_or-set_other}
use Rattle.std.proofs.lemmas.List.Elements.{filter-append}
use Rattle.board_terms.specs.declared.notices.Notice.{Notice}
use Rattle.board_terms.specs.declared.notices.Notice.TheVariants.{Requested}
use Rattle.lapic_core.specs.Apic.{Apic, empty_apic, request, after_end, with_task_priority, with_suspension as apic_with_suspension}
use Rattle.lapic_core.specs.Vectors.{Vectors, greatest}
use Rattle.synic_regs.specs.Registers.{register_of}
use Rattle.synic_regs.specs.declared.register.Register.{Register}
use Rattle.synic_regs.specs.declared.register.Register.TheVariants.{ReferenceCounter, Eoi, Tpr, Control, Version, Sief, Sim, Eom, Source, TimerConfig, TimerCount}
use Rattle.synic_board.specs.declared.event.Event.{Event}
use Rattle.synic_board.specs.declared.event.Reply.TheVariants.{Value, GeneralProtection}
use Rattle.synic_board.specs.State.{State, apic_of, with_apic}
use Rattle.synic_board.specs.Effects.{Effect, Outcome, nothing, after}
use Rattle.synic_board.specs.Interrupts.{is_requested, requested}
use Rattle.synic_board.specs.Registers.{read_register, read}
use Rattle.synic_board.specs.Suspending.{with_suspension}
use Rattle.synic_board.specs.Resetting.{cleared}
use Rattle.synic_board.specs.Step.{step}
use Rattle.law_processors.specs.Elsewhere.{is_request, others}
use Rattle.law_processors.specs.Outside.{with_requests, without_requests, ends_requests, Turn, taken_over, whole, AreTurns}
use Rattle.law_processors.proofs.Carried.{Change, Carries, IsCarried}
use Rattle.law_processors.proofs.CarriedSteps.{carried-step}

-- sets with the same members
same-sets : (a b : Vectors) → ((v : ℕ) → finset.contains a v ≡ finset.contains b v) → a ≡ b
same-sets a b same = finset.same_set nat_cmp_total nat_cmp-IsAntisymmetric a b same

-- these vectors join the requests of a local APIC
abbrev join : Vectors → Apic → Apic
join vectors a = record a { requested = finset.union a.requested vectors }

or-or : (a b c : Bool) → (a || (b || c)) ≡ ((a || b) || c)
or-or true b c = refl
or-or false b c = refl

join-request : (vectors : Vectors) (v : ℕ) (a : Apic) → request (join vectors a) v ≡ join vectors (request a v)
join-request vectors v a =
    ap (λ (r : Vectors). record a { requested = r })
    (same-sets (finset.insert (finset.union a.requested vectors) v) (finset.union (finset.insert a.requested v) vectors)
    (λ q. finset.contains-insert nat_cmp_total (finset.union a.requested vectors) v q
    ∙ ap (λ b. eq_by_cmp nat_cmp q v || b) (finset.contains-union nat_cmp_total a.requested vectors q)
    ∙ or-or (eq_by_cmp nat_cmp q v) (finset.contains a.requested q) (finset.contains vectors q)
    ∙ sym (finset.contains-union nat_cmp_total (finset.insert a.requested v) vectors q
    ∙ ap (λ b. b || finset.contains vectors q) (finset.contains-insert nat_cmp_total a.requested v q))))

-- a request that is there is no change
present : (v q : ℕ) (r : Vectors) → finset.contains r v ≡ true → (eq_by_cmp nat_cmp q v || finset.contains r q)
    ≡ finset.contains r q
present v q r has = by (cases_eq q v)
  where
    by : (q ≡ v) ⊎ (q ≢ v) → (eq_by_cmp nat_cmp q v || finset.contains r q) ≡ finset.contains r q
    by (inl same) =
        let here : finset.contains r q ≡ true = ap (finset.contains r) same ∙ has in grind (arith, nat_tests)
    by (inr other) = grind (arith, nat_tests)

request-again : (a : Apic) (v : ℕ) → finset.contains a.requested v ≡ true → request a v ≡ a
request-again a v has =
    ap (λ (r : Vectors). record a { requested = r })
    (same-sets (finset.insert a.requested v) a.requested (λ q.
    finset.contains-insert nat_cmp_total a.requested v q ∙ present v q a.requested has))

requested-is : (s : State) (p v : ℕ) → ((requested s p v).0 ≡ with_apic s p (request (apic_of s p) v))
    × (others (requested s p v).1 ≡ [])
requested-is s p v = by (is_requested s p v) refl
  where
    by : (b : Bool) → is_requested s p v ≡ b →
        ((if b then nothing s else (with_apic s p (request (apic_of s p) v), Requested p v ∷ [])).0
        ≡ with_apic s p (request (apic_of s p) v))
        × (others (if b then nothing s else (with_apic s p (request (apic_of s p) v), Requested p v ∷ [])).1 ≡ [])
    by true has = (
      sym (ap (λ (a : Apic). with_apic s p a) (request-again (apic_of s p) v has)
          ∙ ap (λ (xs : List Apic). record s { apics = xs }) (set-get_or s.apics p empty_apic)),
      refl,
    )
    by false none = (refl, refl)

module _ (p : ℕ) (vectors : Vectors) where
  abbrev to_more : Change
  to_more = record {
    apics = λ xs. set xs p (join vectors (get_or xs p empty_apic));
    left = λ e. (e.0, others e.1);
    right = λ e. (with_requests e.0 p vectors, others e.1);
  }

  abbrev h : State → State
  h s = with_requests s p vectors

  abbrev more : List Apic → List Apic
  more xs = set xs p (join vectors (get_or xs p empty_apic))

  -- another local APIC is written
  other-set : (xs : List Apic) (q : ℕ) (a : Apic) → q ≢ p → set (more xs) q a ≡ more (set xs q a)
  other-set xs q a other =
      set_comm xs p q (join vectors (get_or xs p empty_apic)) a (λ e. other (sym e))
      ∙ ap (λ (x : Apic). set (set xs q a) p (join vectors x))
      (sym (get_or-set_other xs q p a empty_apic (λ e. other (sym e))))

  other-at : (xs : List Apic) (q : ℕ) → q ≢ p → get_or (more xs) q empty_apic ≡ get_or xs q empty_apic
  other-at xs q other = get_or-set_other xs p q (join vectors (get_or xs p empty_apic)) empty_apic other

  -- a local APIC is written by what does not look at its requests
  own-set : (g : Apic → Apic) → ((a : Apic) → g (join vectors a) ≡ join vectors (g a)) → (xs : List Apic) (q : ℕ)
      → set (more xs) q (g (get_or (more xs) q empty_apic)) ≡ more (set xs q (g (get_or xs q empty_apic)))
  own-set g joins xs q = by (cases_eq q p) (cases_lt p (length xs))
    where
      at : (p < length xs) → set (more xs) p (g (get_or (more xs) p empty_apic))
          ≡ more (set xs p (g (get_or xs p empty_apic)))
      at inside =
          let a : Apic = get_or xs p empty_apic in
          ap (λ (x : Apic). set (more xs) p (g x)) (get_or-set_same xs p (join vectors a) empty_apic inside)
          ∙ set-set xs p (join vectors a) (g (join vectors a))
          ∙ ap (set xs p) (joins a) ∙ sym (set-set xs p (g a) (join vectors (g a)))
          ∙ ap (λ (x : Apic). set (set xs p (g a)) p (join vectors x))
          (sym (get_or-set_same xs p (g a) empty_apic inside))

      past : (length xs ≤ p) → (a b : Apic) → set (set xs p a) p b ≡ xs
      past out a b = set-set xs p a b ∙ set_past xs p b out

      by : (q ≡ p) ⊎ (q ≢ p) → (p < length xs) ⊎ (length xs ≤ p)
          → set (more xs) q (g (get_or (more xs) q empty_apic)) ≡ more (set xs q (g (get_or xs q empty_apic)))
      by (inl same) (inl inside) =
          subst (λ (n : ℕ). set (more xs) n (g (get_or (more xs) n empty_apic))
          ≡ more (set xs n (g (get_or xs n empty_apic)))) (sym same) (at inside)
      by (inl same) (inr out) =
          subst (λ (n : ℕ). set (more xs) n (g (get_or (more xs) n empty_apic))
          ≡ more (set xs n (g (get_or xs n empty_apic)))) (sym same) (past out _ _ ∙ sym (past out _ _))
      by (inr other) _ =
          ap (λ (x : Apic). set (more xs) q (g x)) (other-at xs q other)
          ∙ other-set xs q (g (get_or xs q empty_apic)) other

  abbrev with_list : State → List Apic → State
  with_list s xs = record s { apics = xs }

  own : (g : Apic → Apic) → ((a : Apic) → g (join vectors a) ≡ join vectors (g a)) → (s : State) (q : ℕ)
      → with_apic (h s) q (g (apic_of (h s) q)) ≡ h (with_apic s q (g (apic_of s q)))
  own g joins s q = ap (with_list s) (own-set g joins s.apics q)

  -- a fact of each local APIC that does not look at its requests
  seen : {X : Type 0} (f : Apic → X) → ((a : Apic) → f (join vectors a) ≡ f a) → (s : State) (q : ℕ)
      → f (apic_of (h s) q) ≡ f (apic_of s q)
  seen f blind s q = by (cases_eq q p) (cases_lt p (length s.apics))
    where
      a : Apic
      a = apic_of s p

      by : (q ≡ p) ⊎ (q ≢ p) → (p < length s.apics) ⊎ (length s.apics ≤ p) → f (apic_of (h s) q) ≡ f (apic_of s q)
      by (inl same) (inl inside) =
          subst (λ (n : ℕ). f (apic_of (h s) n) ≡ f (apic_of s n)) (sym same)
          (ap f (get_or-set_same s.apics p (join vectors a) empty_apic inside) ∙ blind a)
      by (inl same) (inr out) =
          ap (λ (xs : List Apic). f (get_or xs q empty_apic)) (set_past s.apics p (join vectors a) out)
      by (inr other) _ = ap f (other-at s.apics q other)

  quiet : (f : State → State) → ((s : State) → f (h s) ≡ h (f s)) → Carries to_more (λ s. (f s, []))
  quiet f same s = ap (λ (x : State). (x, [])) (same s)

  joined : (f g : State → Effect) → Carries to_more f → Carries to_more g
      → Carries to_more (λ s. after (f s) (g (f s).0))
  joined f g hf hg s =
      let x : Effect = f (h s) in
      let y : Effect = f s in
      let next : ((g x.0).0, others (g x.0).1) ≡ (h (g y.0).0, others (g y.0).1) =
      ap (λ (t : State). ((g t).0, others (g t).1)) (ap (λ (e : Effect). e.0) (hf s)) ∙ hg y.0 in
      let split = λ (a b : List Notice). filter-append (λ n. not (is_request n)) a b in
      let told : others (x.1 ++ (g x.0).1) ≡ others (y.1 ++ (g y.0).1) =
      split x.1 (g x.0).1 ∙ (λ i. (hf s i).1 ++ (next i).1) ∙ sym (split y.1 (g y.0).1) in
      λ i. ((next i).0, told i)

  requests : (q v : ℕ) → Carries to_more (λ s. requested s q v)
  requests q v s =
      let one = requested-is (h s) q v in
      let two = requested-is s q v in
      let state : (requested (h s) q v).0 ≡ h (requested s q v).0 =
      one.0 ∙ own (λ a. request a v) (join-request vectors v) s q ∙ ap h (sym two.0) in
      let told : others (requested (h s) q v).1 ≡ others (requested s q v).1 = one.1 ∙ sym two.1 in
      λ i. (state i, told i)

  join-end : (a : Apic) → after_end (join vectors a) ≡ join vectors (after_end a)
  join-end a =
      elim (greatest a.in_service) as
      (λ o.
      option_map_or (λ v. record (join vectors a) { in_service = finset.remove a.in_service v }) o (join vectors a)
      ≡ join vectors (option_map_or (λ v. record a { in_service = finset.remove a.in_service v }) o a))
      [ None ↦ refl | Some v ↦ refl ]

  suspends : (q : ℕ) (mark : Bool) (s : State) → with_suspension (h s) q mark ≡ h (with_suspension s q mark)
  suspends q mark s = ap (λ (x : State). record (with_suspension s q mark) { apics = x.apics })
      (own (λ a. apic_with_suspension a mark) (λ a. refl) s q)

  more-carried : IsCarried to_more
  more-carried = record {
    kept = λ e. refl;
    joined = joined;
    requests = requests;
    ends = λ q. quiet (λ s. with_apic s q (after_end (apic_of s q))) (λ s. own after_end join-end s q);
    priorities = λ q value. quiet (λ s. with_apic s q (with_task_priority (apic_of s q) value))
        (λ s. own (λ a. with_task_priority a value) (λ a. refl) s q);
    suspensions = λ q mark. quiet (λ s. with_suspension s q mark) (suspends q mark);
    marks = seen (λ a. a.suspended) (λ a. refl);
    count = λ xs. length-set xs p (join vectors (get_or xs p empty_apic));
  }

  reads : (s : State) (q number : ℕ) → read (h s) q number ≡ read s q number
  reads s q number = by (register_of number)
    where
      each : (r : Register) → read_register (h s) q r ≡ read_register s q r
      each ReferenceCounter = refl
      each Eoi = refl
      each Tpr = seen (λ a. Value a.task_priority) (λ a. refl) s q
      each Control = refl
      each Version = refl
      each Sief = refl
      each Sim = refl
      each Eom = refl
      each (Source n) = refl
      each (TimerConfig n) = refl
      each (TimerCount n) = refl

      by : (o : Option Register) → option_map_or (read_register (h s) q) o GeneralProtection
          ≡ option_map_or (read_register s q) o GeneralProtection
      by None = refl
      by (Some r) = each r

  clears : (q : ℕ) → (q == p) ≡ false → Carries to_more (λ s. (cleared s q, []))
  clears q e =
      let other : q ≢ p = λ same. (let yes : (q == p) ≡ true = grind (arith, nat_tests) in absurd (cc)) in
      quiet (λ s. cleared s q) (λ s. ap (λ (xs : List Apic). with_list (cleared s q) xs)
      (other-set s.apics q empty_apic other))

  pub after-event : (s : State) (event : Event) → ends_requests p event ≡ false
      → (step (h s) event).0 ≡ h (step s event).0
  after-event s event e =
      ap (λ (o : Outcome). o.0)
      (carried-step to_more more-carried (ends_requests p) (λ q. refl) (λ s q number _. reads s q number) clears s
      event e)

-- a local APIC that is written twice
twice : (f g : Apic → Apic) (s : State) (p : ℕ)
    → with_apic (with_apic s p (f (apic_of s p))) p (g (apic_of (with_apic s p (f (apic_of s p))) p))
    ≡ with_apic s p (g (f (apic_of s p)))
twice f g s p = ap (λ (xs : List Apic). record s { apics = xs }) (by (cases_lt p (length s.apics)))
  where
    x : Apic
    x = f (apic_of s p)

    by : (p < length s.apics) ⊎ (length s.apics ≤ p)
        → set (set s.apics p x) p (g (get_or (set s.apics p x) p empty_apic)) ≡ set s.apics p (g x)
    by (inl inside) = ap (λ (y : Apic). set (set s.apics p x) p (g y)) (get_or-set_same s.apics p x empty_apic inside)
        ∙ set-set s.apics p x (g x)
    by (inr past) = set-set s.apics p x _ ∙ set_past s.apics p _ past ∙ sym (set_past s.apics p (g x) past)

-- these vectors leave the requests of a local APIC
abbrev drop : Vectors → Apic → Apic
drop vectors a = record a { requested = finset.difference a.requested vectors }

-- after a turn: what is taken over stays requested, on the board or outside, until it is ended
taken-once : (s : State) (p : ℕ) (outside taken ended : Vectors)
    → finset.is_subset taken (apic_of s p).requested ≡ true
    → ((v : ℕ) → finset.contains ended v ≡ true
    → finset.contains (finset.difference (apic_of s p).requested taken) v ≡ false) →
    with_requests (without_requests s p taken) p (finset.difference (finset.union outside taken) ended)
    ≡ without_requests (with_requests s p outside) p ended
taken-once s p outside taken ended part gone =
    twice (drop taken) (join (finset.difference (finset.union outside taken) ended)) s p
    ∙ ap (λ (r : Vectors). with_apic s p (record (apic_of s p) { requested = r })) sets
    ∙ sym (twice (join outside) (drop ended) s p)
  where
    r : Vectors
    r = (apic_of s p).requested

    logic : (r o t e : Bool) → (t ≡ true → r ≡ true) → (e ≡ true → (r && not t) ≡ false)
        → ((r && not t) || ((o || t) && not e)) ≡ ((r || o) && not e)
    logic r o t true in_r out_r = let none = out_r refl in ap (λ b. b || ((o || t) && false)) none ∙ falls o t r
      where
        falls : (o t r : Bool) → ((o || t) && false) ≡ ((r || o) && false)
        falls true t true = refl
        falls true t false = refl
        falls false true true = refl
        falls false true false = refl
        falls false false true = refl
        falls false false false = refl
    logic true true true false in_r out_r = refl
    logic true true false false in_r out_r = refl
    logic true false true false in_r out_r = refl
    logic true false false false in_r out_r = refl
    logic false o true false in_r out_r = let yes = in_r refl in absurd (cc)
    logic false true false false in_r out_r = refl
    logic false false false false in_r out_r = refl

    sets : finset.union (finset.difference r taken) (finset.difference (finset.union outside taken) ended)
        ≡ finset.difference (finset.union r outside) ended
    sets = same-sets (finset.union (finset.difference r taken) (finset.difference (finset.union outside taken) ended))
        (finset.difference (finset.union r outside) ended) (λ q.
        finset.contains-union nat_cmp_total (finset.difference r taken)
        (finset.difference (finset.union outside taken) ended) q
        ∙ (λ i. finset.contains-difference nat_cmp_total r taken q i
        || (finset.contains-difference nat_cmp_total (finset.union outside taken) ended q
        ∙ ap (λ b. b && not (finset.contains ended q)) (finset.contains-union nat_cmp_total outside taken q)) i)
        ∙ logic (finset.contains r q) (finset.contains outside q) (finset.contains taken q) (finset.contains ended q)
        (finset.is_subset-contains nat_cmp_total taken r part q)
        (λ e. sym (finset.contains-difference nat_cmp_total r taken q) ∙ gone q e)
        ∙ sym (finset.contains-difference nat_cmp_total (finset.union r outside) ended q
        ∙ ap (λ b. b && not (finset.contains ended q)) (finset.contains-union nat_cmp_total r outside q)))

-- a whole run
pub whole_run : (s : State) (p : ℕ) (outside : Vectors) (turns : List Turn) → AreTurns s p turns
    → with_requests (taken_over s p outside turns).0 p (taken_over s p outside turns).1
    ≡ whole (with_requests s p outside) p turns
unfolding taken_over whole AreTurns
whole_run s p outside [] h = refl
whole_run s p outside (turn ∷ turns) h =
    let now : State = (step s turn.event).0 in
    whole_run (without_requests now p turn.taken) p
    (finset.difference (finset.union outside turn.taken) turn.ended) turns h.3
    ∙ ap (λ (x : State). whole x p turns) (taken-once now p outside turn.taken turn.ended h.1 h.2
    ∙ ap (λ (x : State). without_requests x p turn.ended) (sym (after-event p outside s turn.event h.0)))
