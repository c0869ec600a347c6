-- The actors and the lines of a crew, from the opening to the end.
use Rattle.std.proofs.Common.{◌≡◌, ℕ, zero, suc, Bool, true, false, List, [], ◌∷◌, ◌++◌, All, map, drop, take, length, length-append, replicate, Vec, Global, refl, sym, ap, ◌∙◌, subst, arith}
use Rattle.std.specs.Prelude.{◌||◌, nat_le}
use Rattle.std.specs.List.{AllZip, list_any, range_with_len}
use Rattle.std.proofs.lemmas.Bool.Decides.{nat_tests}
use Rattle.std.proofs.lemmas.List.{reverse-append}
use Rattle.atomic_table.specs.Seated.{TableId}
use Rattle.posted_words.specs.declared.rule.Action.{Action}
use Rattle.posted_words.specs.declared.rule.Action.TheVariants.{Raise, Sweep}
use Rattle.posted_words.specs.declared.line.Raised.{Raised}
use Rattle.posted_words.specs.Answers.{is_fresh}
use Rattle.posted_words.specs.Words.{Token, token, actions_of, raise_of}
use Rattle.board_threads.specs.Sharing.{Acting, new_actor}
use Rattle.actor_calls.specs.Absorbed.{only_raises}
use Rattle.actor_calls.specs.Sweeps.{is_absorb}
use Rattle.board_threads.specs.Judging.{is_bad_script, is_bad_raise, is_bad_line, has_bad_step}
use Rattle.board_threads.specs.Crew.{raises_of, log_of, logs_of, HasEach, lists}
use Rattle.board_threads.specs.inside.Work.{IsNewActor, IsNewLine, IsThere, HasActed, HasRaised, HaveWorked}
use Rattle.board_threads.specs.declared.script.Step.{Step}
use Rattle.board_threads.specs.declared.script.Setup.{Setup}
use Rattle.board_threads.specs.declared.script.Scripts.{Scripts}

pub all-new : (name : TableId) (ns : List ℕ) → All (IsNewActor name) (map (new_actor name) ns)
all-new name [] k d lt = absurd (omega arith)
all-new name (n ∷ ns) zero d lt = (refl, refl)
all-new name (n ∷ ns) (suc k) d lt = all-new name ns k d (omega arith)

pub new-numbers : (name : TableId) (ns : List ℕ) → map (λ (a : Acting). a.number) (map (new_actor name) ns) ≡ ns
new-numbers name [] = refl
new-numbers name (n ∷ ns) = ap (λ l. n ∷ l) (new-numbers name ns)

pub new-lines : (name : TableId) (n : ℕ) → All (IsNewLine name) (replicate n (token name []))
new-lines name zero k d lt = absurd (omega arith)
new-lines name (suc n) zero d lt = (refl, refl)
new-lines name (suc n) (suc k) d lt = new-lines name n k d (omega arith)

-- neither test holds
or-none : (a b : Bool) → (a || b) ≡ false → (a ≡ false) × (b ≡ false)
or-none true b h = absurd (cc)
or-none false b h = (refl, h)

there-in : (n : ℕ) (script : List (ℕ × ℕ)) → list_any (is_bad_raise n) script ≡ false → IsThere n script
there-in n [] h k d lt = absurd (omega arith)
there-in n (s ∷ script) h zero d lt =
    let e = (or-none (nat_le n s.0) (list_any (is_bad_raise n) script) h).0 in grind (arith, nat_tests)
there-in n (s ∷ script) h (suc k) d lt =
    there-in n script (or-none (nat_le n s.0) (list_any (is_bad_raise n) script) h).1 k d (omega arith)

there : (n : ℕ) (scripts : List (Vec (ℕ × ℕ) Global)) → list_any (is_bad_line n) scripts ≡ false
    → All (λ (s : Vec (ℕ × ℕ) Global). IsThere n s.items) scripts
there n [] h k d lt = absurd (omega arith)
there n (s ∷ scripts) h zero d lt =
    there-in n s.items (or-none (is_bad_line n s) (list_any (is_bad_line n) scripts) h).0
there n (s ∷ scripts) h (suc k) d lt =
    there n scripts (or-none (is_bad_line n s) (list_any (is_bad_line n) scripts) h).1 k d (omega arith)

pub all-there : (setup : Setup) (scripts : Scripts) → has_bad_step setup scripts ≡ false
    → All (λ (s : Vec (ℕ × ℕ) Global). IsThere setup.processors s.items) scripts.lines.items
all-there setup scripts h =
    there setup.processors scripts.lines.items
    (or-none (list_any is_absorb setup.events.items || list_any is_bad_script scripts.actors.items)
    (list_any (is_bad_line setup.processors) scripts.lines.items) h).1

-- all actors belong to the board
of-each : (name : TableId) (scripts : List (Vec Step Global)) (others : List Acting) →
    AllZip (λ (s : Vec Step Global) (a : Acting). HasActed name a.number s.items a) scripts others
    → All (λ (a : Acting). a.of ≡ name) others
of-each name [] [] h k d lt = absurd (omega arith)
of-each name [] (a ∷ others) h k d lt = absurd h
of-each name (s ∷ scripts) [] h k d lt = absurd (omega arith)
of-each name (s ∷ scripts) (a ∷ others) h zero d lt = h.0.of
of-each name (s ∷ scripts) (a ∷ others) h (suc k) d lt = of-each name scripts others h.1 k d (omega arith)

pub all-of : (name : TableId) (setup : Setup) (scripts : Scripts) (actors : List Acting) (lines : List Token)
    (raised : List (Vec Raised Global)) →
    HaveWorked name setup scripts actors lines raised → All (λ (a : Acting). a.of ≡ name) actors
all-of name setup scripts actors lines raised w = subst (All (λ (a : Acting). a.of ≡ name)) (sym w.actors_are) own
  where
    own : All (λ (a : Acting). a.of ≡ name) (w.main ∷ w.others)
    own zero d lt = w.served.of
    own (suc k) d lt = of-each name scripts.actors.items w.others w.acted k d (omega arith)

abbrev Ran : Type 0
Ran = Token × Vec Raised Global

abbrev DidRaise : TableId → Vec (ℕ × ℕ) Global → Ran → Type 0
DidRaise name s x = HasRaised name s.items x.0 x.1.items

lines-of : (name : TableId) (scripts : List (Vec (ℕ × ℕ) Global)) (ran : List Ran)
    → AllZip (DidRaise name) scripts ran → All (λ (t : Token). t.of ≡ name) (map (λ (x : Ran). x.0) ran)
lines-of name [] [] h k d lt = absurd (omega arith)
lines-of name [] (r ∷ ran) h k d lt = absurd h
lines-of name (s ∷ scripts) [] h k d lt = absurd (omega arith)
lines-of name (s ∷ scripts) (r ∷ ran) h zero d lt = h.0.of
lines-of name (s ∷ scripts) (r ∷ ran) h (suc k) d lt = lines-of name scripts ran h.1 k d (omega arith)

-- a line's log has only raises
only-append : (xs ys : List Action) → only_raises xs ≡ true → only_raises ys ≡ true → only_raises (xs ++ ys) ≡ true
only-append [] ys h k = k
only-append (Raise w b f ∷ xs) ys h k = only-append xs ys h k
only-append (Sweep w n ∷ xs) ys h k = absurd (cc)

only-log : (script : List (ℕ × ℕ)) (answers : List Raised) → only_raises (log_of script answers) ≡ true
only-log [] answers = refl
only-log (s ∷ script) [] = refl
only-log (s ∷ script) (a ∷ answers) =
    ap only_raises (reverse-append (raise_of s.0 s.1 (is_fresh a) ∷ []) (raises_of script answers))
    ∙ only-append (log_of script answers) (raise_of s.0 s.1 (is_fresh a) ∷ []) (only-log script answers) refl

only-lines : (name : TableId) (scripts : List (Vec (ℕ × ℕ) Global)) (ran : List Ran)
    → AllZip (DidRaise name) scripts ran →
    All (λ (t : Token). only_raises t.actions ≡ true) (map (λ (x : Ran). x.0) ran)
only-lines name [] [] h k d lt = absurd (omega arith)
only-lines name [] (r ∷ ran) h k d lt = absurd h
only-lines name (s ∷ scripts) [] h k d lt = absurd (omega arith)
only-lines name (s ∷ scripts) (r ∷ ran) h zero d lt = ap only_raises h.0.actions ∙ only-log s.items r.1.items
only-lines name (s ∷ scripts) (r ∷ ran) h (suc k) d lt = only-lines name scripts ran h.1 k d (omega arith)

logs : (name : TableId) (scripts : List (Vec (ℕ × ℕ) Global)) (ran : List Ran) → AllZip (DidRaise name) scripts ran →
    map actions_of (map (λ (x : Ran). x.0) ran) ≡ logs_of (lists scripts) (lists (map (λ (x : Ran). x.1) ran))
logs name [] [] h = refl
logs name [] (r ∷ ran) h = absurd h
logs name (s ∷ scripts) [] h = absurd h
logs name (s ∷ scripts) (r ∷ ran) h = λ i. h.0.actions i ∷ logs name scripts ran h.1 i

each : (name : TableId) (scripts : List (Vec (ℕ × ℕ) Global)) (ran : List Ran) → AllZip (DidRaise name) scripts ran
    → AllZip HasEach (lists scripts) (lists (map (λ (x : Ran). x.1) ran))
each name [] [] h = tt
each name [] (r ∷ ran) h = absurd h
each name (s ∷ scripts) [] h = absurd h
each name (s ∷ scripts) (r ∷ ran) h = (h.0.each, each name scripts ran h.1)

module _ (name : TableId) (setup : Setup) (scripts : Scripts) (actors : List Acting) (lines : List Token)
    (raised : List (Vec Raised Global))
    (w : HaveWorked name setup scripts actors lines raised) where
  pub all-lines-of : All (λ (t : Token). t.of ≡ name) lines
  all-lines-of =
      subst (All (λ (t : Token). t.of ≡ name)) (sym w.lines_are) (lines-of name scripts.lines.items w.ran w.did_raise)

  pub all-only-raise : All (λ (t : Token). only_raises t.actions ≡ true) lines
  all-only-raise =
      subst (All (λ (t : Token). only_raises t.actions ≡ true)) (sym w.lines_are)
      (only-lines name scripts.lines.items w.ran w.did_raise)

  pub logs-are : map actions_of lines ≡ logs_of (lists scripts.lines.items) (lists raised)
  logs-are = ap (map actions_of) w.lines_are ∙ logs name scripts.lines.items w.ran w.did_raise
      ∙ ap (λ l. logs_of (lists scripts.lines.items) (lists l)) (sym w.answers_are)

  pub each-answered : AllZip HasEach (lists scripts.lines.items) (lists raised)
  each-answered =
      subst (λ l. AllZip HasEach (lists scripts.lines.items) (lists l)) (sym w.answers_are)
      (each name scripts.lines.items w.ran w.did_raise)

-- actor 0, and the others
pub cut : (name : TableId) (all : List Acting) (n m : ℕ) → all ≡ map (new_actor name) (range_with_len 0 m) → m ≡ suc n →
    (take 1 all ≡ new_actor name 0 ∷ []) × (drop 1 all ≡ map (new_actor name) (range_with_len 1 n))
cut name all n m is more =
    let e = is ∙ ap (λ k. map (new_actor name) (range_with_len 0 k)) more in (ap (take 1) e, ap (drop 1) e)

pub single : (front : List Acting) (a b : Acting) → front ++ a ∷ [] ≡ b ∷ [] → (front ≡ []) × (a ≡ b)
single [] a b e = (refl, cc)
single (x ∷ front) a b e = absurd (omega (arith, ap (λ (l : List Acting). length l) e, length-append front (a ∷ [])))

-- the first of some elements, and the others
pub split-first : {A : Type 0} (xs front : List A) (first : A) (n : ℕ) → length xs ≡ suc n
    → take 1 xs ≡ front ++ first ∷ [] → (front ≡ []) × (xs ≡ first ∷ drop 1 xs)
split-first [] front first n long is = absurd (omega arith)
split-first (x ∷ xs) [] first n long is = let same : x ≡ first = cc in (refl, (λ i. same i ∷ xs))
split-first {A} (x ∷ xs) (y ∷ front) first n long is =
    absurd (omega (arith, ap (λ (l : List A). length l) is, length-append front (first ∷ [])))
