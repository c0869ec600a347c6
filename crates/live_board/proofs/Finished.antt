-- A message page is brought up to date after a tick.
use Rattle.std.proofs.Common.{◌≡◌, inl, inr, ℕ, ◌*◌, Bool, true, false, List, [], ◌++◌, refl, sym, ap, ◌∙◌, arith, append-nil}
use Rattle.board_terms.specs.declared.notices.Notice.{Notice}
use Rattle.board_terms.specs.declared.pages.Kind.TheVariants.{Sim}
use Rattle.synic_board.specs.State.{State}
use Rattle.synic_board.specs.Run.{run_of}
use Rattle.live_pages.specs.declared.access.Access.{Access}
use Rattle.live_board.specs.Live.{IsShown, explained_after, all_done}
use Rattle.live_board.proofs.Placed.{placed-empty}
use Rattle.live_board.specs.inside.Parts.{IsShadow, IsPublished, IsMarking, IsFinished}

-- nothing is left to do
pub finished-none : (s : State) (p : ℕ) (log : List Access) (late : List Notice) → IsShadow s (2 * p) log
    → (one : IsFinished s p log s log false late late) × (one.stores ≡ []) × (one.marks ≡ [])
unfolding run_of
finished-none s p log late shadow = (
  record {
    emitted = [];
    notices = sym (append-nil late);
    few = omega arith;
    stores = [];
    marks = [];
    page = refl;
    stored = tt;
    placed = placed-empty 16 _;
    marked = tt;
    careful = λ _. tt;
    hidden = λ _. refl;
    run = refl;
    rest = refl;
    count = refl;
    others = λ j w _ _. refl;
    same = λ j _. refl;
    shadow = shadow;
    owes = refl;
  },
  refl,
  refl,
)

pub finished-hidden : (s : State) (p : ℕ) (words : List ℕ) (log log-now : List Access) (before : List Notice)
    → (IsShown s p Sim → ⊥) → IsPublished s p false words 16 log log-now
    → IsFinished s p log s log-now false before before
unfolding run_of
finished-hidden s p words log log-now before hidden published = record {
  emitted = [];
  notices = sym (append-nil before);
  few = omega arith;
  stores = published.news;
  marks = [];
  page = published.page;
  stored = published.stores;
  placed = published.placed;
  marked = tt;
  careful = λ shown. absurd (hidden shown);
  hidden = λ _. refl;
  run = refl;
  rest = refl;
  count = refl;
  others = λ j w _ _. refl;
  same = λ j _. refl;
  shadow = λ x low. published.done x low (omega (arith, low)) (inl refl);
  owes = refl;
}

pub finished-shown : (s now : State) (p : ℕ) (words : List ℕ) (log between log-now : List Access) (owed : Bool)
    (before after : List Notice) → IsShown s p Sim → IsPublished s p true words 16 log between
    → IsMarking s p words between now log-now owed before after 16
    → IsFinished s p log now log-now owed before after
finished-shown s now p words log between log-now owed before after shown published m = record {
  emitted = m.emitted;
  notices = m.notices;
  few = m.few;
  stores = published.news;
  marks = m.news;
  page = m.page ∙ ap (λ l. m.news ++ l) published.page;
  stored = published.stores;
  placed = published.placed;
  marked = m.marks;
  careful = λ _. published.careful refl;
  hidden = λ no. absurd (no shown);
  run = ap (λ l. run_of s (explained_after s p m.news l)) (sym published.page) ∙ m.run
      ∙ ap (λ l. (now, all_done (explained_after s p m.news l), m.emitted)) published.page;
  rest = m.rest;
  count = m.count;
  others = m.others;
  same = m.same;
  shadow = λ x low. m.done x low (inr (omega (arith, low)));
  owes = m.owes;
}

-- the same with the notices at the end of other ones
pub finished-after : (s now : State) (p : ℕ) (log log-now : List Access) (owed : Bool) (before after : List Notice)
    (notices : List Notice) {last : List Notice} → before ≡ [] → last ≡ notices ++ after
    → IsFinished s p log now log-now owed before after → IsFinished s p log now log-now owed notices last
finished-after s now p log log-now owed before after notices empty together h = record {
  emitted = h.emitted;
  notices = together ∙ ap (λ ns. notices ++ ns) (h.notices ∙ ap (λ ns. ns ++ h.emitted) empty);
  few = h.few;
  stores = h.stores;
  marks = h.marks;
  page = h.page;
  stored = h.stored;
  placed = h.placed;
  marked = h.marked;
  careful = h.careful;
  hidden = h.hidden;
  run = h.run;
  rest = h.rest;
  count = h.count;
  others = h.others;
  same = h.same;
  shadow = h.shadow;
  owes = h.owes;
}
