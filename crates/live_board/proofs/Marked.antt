-- Marks of the slots of a message page after an event, one after another.
use Rattle.std.proofs.Common.{◌≡◌, ◌≢◌, ◌⊎◌, inl, inr, ℕ, ◌+◌, ◌*◌, ◌/◌, ◌%◌, ◌^◌, ◌<◌, ◌≤◌, Bool, true, false, List, [], ◌∷◌, ◌++◌, get_or, refl, sym, ap, ◌∙◌, subst, arith, append_assoc, append-nil, length-append}
use Rattle.std.specs.Prelude.{◌==◌, ◌||◌, bit_or, if◌then◌else◌}
use Rattle.std.specs.Int.{to_le_bytes, w64}
use Rattle.std.proofs.lemmas.Bool.{cases_eq, cases_lt}
use Rattle.std.proofs.lemmas.Bool.Decides.{nat_tests}
use Rattle.board_terms.specs.declared.notices.Notice.{Notice}
use Rattle.board_terms.specs.declared.pages.Kind.TheVariants.{Sim}
use Rattle.synic_board.specs.declared.event.Event.{Event}
use Rattle.synic_board.specs.declared.event.Event.TheVariants as event
use Rattle.synic_board.specs.declared.event.Reply.{Reply}
use Rattle.synic_board.specs.State.{State}
use Rattle.synic_board.specs.Run.{Run, run_of}
use Rattle.live_pages.specs.Words.{known, type_of}
use Rattle.live_pages.specs.declared.access.Access.{Access}
use Rattle.live_pages.specs.declared.access.Access.TheVariants.{Load, FetchOr, Store}
use Rattle.live_board.specs.Words.{word_of}
use Rattle.live_board.specs.Live.{number_at, store_of, all_done, explained_after, marked_by, AreMarks, finds_empty}
use Rattle.live_board.specs.inside.Parts.{HasWord, IsPassedOn, MayBeMarked, IsMarked, IsMarking}
use Rattle.live_board.proofs.Joined.{joined, run-append, done-append, rest-number}

-- what some marks show depends only on the page number
same-marked : (s t : State) (p : ℕ) (a : Access) (log : List Access) → number_at t p Sim ≡ number_at s p Sim
    → marked_by t p a log ≡ marked_by s p a log
same-marked s t p (Load w found) log e = refl
same-marked s t p (FetchOr w mask found) log e =
    ap (λ n. if bit_or found mask == bit_or (known log w) mask then []
    else event.Store (n * 4096 + 8 * w) (record { items = to_le_bytes w64 (bit_or found mask) }) ∷ []) e
same-marked s t p (Store w value) log e = refl

pub same-after : (s t : State) (p : ℕ) (news log : List Access) → number_at t p Sim ≡ number_at s p Sim
    → explained_after t p news log ≡ explained_after s p news log
same-after s t p [] log e = refl
same-after s t p (a ∷ news) log e = (λ i. same-after s t p news log e i ++ same-marked s t p a (news ++ log) e i)

after-append : (s : State) (p : ℕ) (later news log : List Access)
    → explained_after s p (later ++ news) log ≡ explained_after s p news log ++ explained_after s p later (news ++ log)
after-append s p [] news log = sym (append-nil (explained_after s p news log))
after-append s p (a ∷ later) news log =
    let e : (later ++ news) ++ log ≡ later ++ (news ++ log) = append_assoc later news log in
    (λ i. after-append s p later news log i ++ marked_by s p a (e i))
    ∙ append_assoc (explained_after s p news log) (explained_after s p later (news ++ log))
    (marked_by s p a (later ++ (news ++ log)))

marks-append : (later news : List Access) → AreMarks later → AreMarks news → AreMarks (later ++ news)
marks-append [] news h g = g
marks-append (FetchOr w mask found ∷ later) news (i, low, at, is, h) g = (i, low, at, is, marks-append later news h g)
marks-append (Load w found ∷ later) news h g = absurd h
marks-append (Store w value ∷ later) news h g = absurd h

or-join : (a b c : Bool) → (a || (b || c)) ≡ ((a || b) || c)
or-join true b c = refl
or-join false b c = refl

or-none : (a : Bool) → (a || false) ≡ a
or-none true = refl
or-none false = refl

finds-append : (later news : List Access) → finds_empty (later ++ news) ≡ (finds_empty later || finds_empty news)
finds-append [] news = refl
finds-append (FetchOr w mask found ∷ later) news =
    ap (λ b. (type_of found == 0) || b) (finds-append later news)
    ∙ or-join (type_of found == 0) (finds_empty later) (finds_empty news)
finds-append (Load w found ∷ later) news = finds-append later news
finds-append (Store w value ∷ later) news = finds-append later news

same-true : (x h : ℕ) → x ≡ h → (x == h) ≡ true
same-true x h e = grind (arith, nat_tests)

other-false : (x h : ℕ) → x ≢ h → (x == h) ≡ false
other-false x h e = grind (arith, nat_tests)

-- a slot that needs no mark
pub marked-none : (s : State) (p i : ℕ) (log : List Access) (before : List Notice)
    → known log (32 * i) ≡ word_of s (2 * p) (32 * i) → IsMarked s p i log s log false before before
unfolding run_of
marked-none s p i log before here = record {
  emitted = [];
  notices = sym (append-nil before);
  few = omega arith;
  news = [];
  page = refl;
  marks = tt;
  run = refl;
  word = record { rest = refl; count = refl; here = refl; others = λ j x _. refl; same = λ j _. refl };
  here = here;
  others = λ x _. refl;
  owes = refl;
}

pub known-empty : (was left header : ℕ) → MayBeMarked was left header → type_of was ≡ 0 → left ≡ header
known-empty was left header (inl e) empty = e
known-empty was left header (inr (full, is)) empty = absurd (full empty)

pub known-still : (was left header : ℕ) → MayBeMarked was left header → (type_of was ≢ 0 → left ≡ was) → header ≡ was
    → left ≡ header
known-still was left header (inl e) knows same = e
known-still was left header (inr (full, is)) knows same = knows full ∙ sym same

pub known-marked : (was left header : ℕ) → MayBeMarked was left header → (type_of was ≢ 0 → left ≡ was)
    → type_of was ≢ 0 → header ≢ was → header ≡ bit_or left (2 ^ 40)
known-marked was left header (inl e) knows full other = absurd (other (sym e ∙ knows full))
known-marked was left header (inr (some, is)) knows full other = is ∙ ap (λ n. bit_or n (2 ^ 40)) (sym (knows full))

-- a slot that is marked
pub marked-one : (s : State) (p i found : ℕ) (log : List Access) (now : State) (log-now : List Access)
    (before after : List Notice) → i < 16 → log-now ≡ FetchOr (32 * i) (2 ^ 40) found ∷ log
    → word_of s (2 * p) (32 * i) ≡ bit_or (known log (32 * i)) (2 ^ 40)
    → IsPassedOn s p Sim (32 * i) (bit_or found (2 ^ 40)) now before after
    → IsMarked s p i log now log-now (type_of found == 0) before after
marked-one s p i found log now log-now before after under page header on = record {
  emitted = on.emitted;
  notices = on.notices;
  few = on.few;
  news = FetchOr (32 * i) (2 ^ 40) found ∷ [];
  page = page;
  marks = (i, under, refl, refl, tt);
  run = ap (run_of s) shows ∙ on.passed ∙ ap (λ (es : List Event). (now, all_done es, on.emitted)) (sym shows);
  word = subst (λ v. HasWord s (2 * p) (32 * i) v now) (sym on.word.here) on.word;
  here = ap (λ l. known l (32 * i)) page ∙ rw (same-true (32 * i) (32 * i) refl) (sym on.word.here);
  others = λ x ne. ap (λ l. known l x) page ∙ rw (other-false x (32 * i) ne) refl;
  owes = sym (or-none (type_of found == 0));
}
  where
    shows : explained_after s p (FetchOr (32 * i) (2 ^ 40) found ∷ []) log
        ≡ (if bit_or found (2 ^ 40) == word_of s (2 * p) (32 * i) then []
        else store_of s p Sim (32 * i) (bit_or found (2 ^ 40)) ∷ [])
    shows = ap (λ n. if bit_or found (2 ^ 40) == n then []
        else store_of s p Sim (32 * i) (bit_or found (2 ^ 40)) ∷ []) (sym header)

pub marking-start : (s : State) (p : ℕ) (words : List ℕ) (log : List Access) (before : List Notice)
    → ((x : ℕ) → x < 512 → x % 32 ≢ 0 → known log x ≡ word_of s (2 * p) x)
    → ((i : ℕ) → i < 16 → type_of (get_or words (32 * i) 0) ≢ 0 → known log (32 * i) ≡ get_or words (32 * i) 0)
    → ((i : ℕ) → i < 16 → MayBeMarked (get_or words (32 * i) 0) (known log (32 * i)) (word_of s (2 * p) (32 * i)))
    → IsMarking s p words log s log false before before 0
unfolding run_of
marking-start s p words log before payload knows headers = record {
  emitted = [];
  notices = sym (append-nil before);
  few = omega arith;
  news = [];
  page = refl;
  marks = tt;
  run = refl;
  rest = refl;
  count = refl;
  others = λ j w _ _. refl;
  same = λ j _. refl;
  owes = refl;
  done = λ x low which. elim which as
      (λ _. known log x ≡ word_of s (2 * p) x) [
        | inl odd ↦ payload x low odd
        | inr less ↦
            absurd (omega (arith, less))
      ];
  heads = λ i under _. (knows i under, headers i under);
}

-- one slot more
pub marking-more : (s mid now : State) (p : ℕ) (words : List ℕ) (log log-mid log-now : List Access)
    (owed empty : Bool) (before between after : List Notice) (n : ℕ) → n < 16
    → IsMarking s p words log mid log-mid owed before between n
    → IsMarked mid p n log-mid now log-now empty between after
    → IsMarking s p words log now log-now (empty || owed) before after (n + 1)
marking-more s mid now p words log log-mid log-now owed empty before between after n under h one = record {
  emitted = h.emitted ++ one.emitted;
  notices = one.notices ∙ ap (λ ns. ns ++ one.emitted) h.notices ∙ append_assoc before h.emitted one.emitted;
  few = omega (arith, h.few, one.few, length-append h.emitted one.emitted);
  news = one.news ++ h.news;
  page = one.page ∙ ap (λ l. one.news ++ l) h.page ∙ sym (append_assoc one.news h.news log);
  marks = marks-append one.news h.news one.marks h.marks;
  run = ap (run_of s) events ∙ run-append s ea eb ∙ ap (λ (r : Run). joined r (run_of r.0 eb)) h.run
      ∙ ap (joined (mid, all_done ea, h.emitted)) one.run
      ∙ ap (λ (rs : List Reply). (now, rs, h.emitted ++ one.emitted)) (sym (done-append ea eb))
      ∙ ap (λ (es : List Event). (now, all_done es, h.emitted ++ one.emitted)) (sym events);
  rest = one.word.rest ∙ ap (λ (t : State). record t { own = now.own; slots = now.slots }) h.rest;
  count = one.word.count ∙ h.count;
  others = λ j w low ne. one.word.others j w (inl ne) ∙ h.others j w low ne;
  same = λ j ne. one.word.same j ne ∙ h.same j ne;
  owes = (λ i. one.owes i || h.owes i) ∙ sym (finds-append one.news h.news);
  done = λ x low which. done x low (cases_eq x (32 * n)) which;
  heads = λ i low above. heads i low above;
}
  where
    ea : List Event
    ea = explained_after s p h.news log

    eb : List Event
    eb = explained_after mid p one.news log-mid

    events : explained_after s p (one.news ++ h.news) log ≡ ea ++ eb
    events = after-append s p one.news h.news log
        ∙ ap (λ (es : List Event). ea ++ es)
        (ap (explained_after s p one.news) (sym h.page)
        ∙ sym (same-after s mid p one.news log-mid (rest-number s mid p Sim h.rest)))

    done : (x : ℕ) → x < 512 → (x ≡ 32 * n) ⊎ (x ≢ 32 * n) → (x % 32 ≢ 0) ⊎ (x / 32 < n + 1)
        → known log-now x ≡ word_of now (2 * p) x
    done x low (inl e) which = ap (known log-now) e ∙ one.here ∙ ap (word_of now (2 * p)) (sym e)
    done x low (inr ne) which =
        one.others x ne ∙ h.done x low (before-it which) ∙ sym (one.word.others (2 * p) x (inr ne))
      where
        before-it : (x % 32 ≢ 0) ⊎ (x / 32 < n + 1) → (x % 32 ≢ 0) ⊎ (x / 32 < n)
        before-it (inl odd) = inl odd
        before-it (inr less) = by (cases_eq (x % 32) 0) (cases_lt (x / 32) n)
          where
            by : (x % 32 ≡ 0) ⊎ (x % 32 ≢ 0) → (x / 32 < n) ⊎ (n ≤ x / 32) → (x % 32 ≢ 0) ⊎ (x / 32 < n)
            by (inr odd) w = inl odd
            by (inl even) (inl small) = inr small
            by (inl even) (inr great) = absurd (ne (omega (arith, even, great, less)))

    heads : (i : ℕ) → i < 16 → n + 1 ≤ i
        → (type_of (get_or words (32 * i) 0) ≢ 0 → known log-now (32 * i) ≡ get_or words (32 * i) 0)
        × MayBeMarked (get_or words (32 * i) 0) (known log-now (32 * i)) (word_of now (2 * p) (32 * i))
    heads i low above =
        let other : 32 * i ≢ 32 * n = λ e. omega (arith, e, above) in
        let was = h.heads i low (omega (arith, above)) in (
          λ full. one.others (32 * i) other ∙ was.0 full,
          subst (λ k. MayBeMarked (get_or words (32 * i) 0) k (word_of now (2 * p) (32 * i)))
              (sym (one.others (32 * i) other))
              (subst (MayBeMarked (get_or words (32 * i) 0) (known log-mid (32 * i)))
              (sym (one.word.others (2 * p) (32 * i) (inr other))) was.1),
        )

-- the same marks
pub marking-at : (s now other : State) (p : ℕ) (words : List ℕ) (log log-now log-other : List Access)
    (owed owes : Bool) (before notices emitted : List Notice) (n : ℕ) → other ≡ now → log-other ≡ log-now
    → owes ≡ owed → emitted ≡ notices
    → IsMarking s p words log now log-now owed before notices n
    → IsMarking s p words log other log-other owes before emitted n
marking-at s now other p words log log-now log-other owed owes before notices emitted n a b c d h =
    subst (λ t. IsMarking s p words log t log-other owes before emitted n) (sym a)
    (subst (λ l. IsMarking s p words log now l owes before emitted n) (sym b)
    (subst (λ o. IsMarking s p words log now log-now o before emitted n) (sym c)
    (subst (λ ns. IsMarking s p words log now log-now owed before ns n) (sym d) h)))
