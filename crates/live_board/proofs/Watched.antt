-- Looks at the words of an own page, one after another.
use Rattle.std.proofs.Common.{◌≡◌, ◌≢◌, ◌⊎◌, inl, inr, ℕ, ◌<◌, ◌≤◌, true, false, List, [], ◌∷◌, ◌++◌, length, refl, sym, ap, ◌∙◌, arith, append-nil}
use Rattle.std.specs.Prelude.{◌==◌, slice_get, None, Some, if◌then◌else◌}
use Rattle.std.proofs.lemmas.Bool.Decides.{nat_tests}
use Rattle.std.proofs.lemmas.Bool.{cases_eq}
use Rattle.board_terms.specs.declared.notices.Notice.{Notice}
use Rattle.board_terms.specs.declared.pages.Kind.{Kind}
use Rattle.gpa_space.specs.Space.{overlay_of}
use Rattle.synic_board.specs.declared.event.Event.{Event}
use Rattle.synic_board.specs.State.{State}
use Rattle.synic_board.specs.Run.{run_of}
use Rattle.live_pages.specs.Words.{known}
use Rattle.live_pages.specs.declared.access.Access.{Access}
use Rattle.live_pages.specs.declared.access.Access.TheVariants.{Load, FetchOr}
use Rattle.live_board.specs.Live.{store_of, all_done, explained, AreCareful, IsShown, FindInPage}
use Rattle.live_board.specs.inside.Parts.{found_stores, IsPassed}
use Rattle.live_board.specs.Words.{word_of}
use Rattle.live_board.specs.inside.Parts.{HasWord, IsShadow, IsWatched, IsPassedOn, IsLook, IsMark}

same : (x h : ℕ) → x ≡ h → (x == h) ≡ true
same x h e = grind (arith, nat_tests)

apart : (x h : ℕ) → x ≢ h → (x == h) ≡ false
apart x h e = grind (arith, nat_tests)

-- no access
unfoldable pub unwatched : (s : State) (p : ℕ) (k : Kind) (log : List Access) (notices : List Notice) → notices ≡ []
    → IsWatched s p k log s log notices
unfolding run_of
unwatched s p k log notices none =
    record {
      news = [];
      page = refl;
      run = ap (λ (ns : List Notice). (s, [], ns)) (sym none);
      careful = tt;
      within = tt;
      hidden = λ _. refl;
      rest = refl;
      count = refl;
      others = λ j w _ _. refl;
      same = λ j _. refl;
    }

-- a look shows what is passed
pub look-shows : (s : State) (p : ℕ) (k : Kind) (w found : ℕ) (log : List Access)
    → known log w ≡ word_of s (overlay_of p k) w → explained s p k (Load w found ∷ []) log ≡ found_stores s p k w found
look-shows s p k w found log is = ap (λ n. if found == n then [] else store_of s p k w found ∷ []) is

mark-shows : (s : State) (p : ℕ) (k : Kind) (w mask found : ℕ) (log : List Access)
    → known log w ≡ word_of s (overlay_of p k) w
    → explained s p k (FetchOr w mask found ∷ []) log ≡ found_stores s p k w found
mark-shows s p k w mask found log is = ap (λ n. if found == n then [] else store_of s p k w found ∷ []) is

watched-by : (s : State) (p : ℕ) (k : Kind) (w found : ℕ) (log now-log news : List Access) (now : State)
    (notices : List Notice) → explained s p k news log ≡ found_stores s p k w found → AreCareful k news log
    → FindInPage news
    → IsShown s p k → now-log ≡ news ++ log
    → IsPassed s p k w found now notices → HasWord s (overlay_of p k) w found now
    → IsWatched s p k log now now-log notices
watched-by s p k w found log now-log news now notices shows careful within shown page passed word = record {
  news = news;
  page = page;
  run = ap (run_of s) shows ∙ passed ∙ ap (λ (es : List Event). (now, all_done es, notices)) (sym shows);
  careful = careful;
  within = within;
  hidden = λ no. absurd (no shown);
  rest = word.rest;
  count = word.count;
  others = λ j x _ ne. word.others j x (inl ne);
  same = word.same;
}

pub look-is : (s : State) (p : ℕ) (k : Kind) (w found : ℕ) (log log-now : List Access) (now : State)
    (before after : List Notice) → w < 512 → IsShown s p k → known log w ≡ word_of s (overlay_of p k) w
    → log-now ≡ Load w found ∷ log
    → IsPassedOn s p k w found now before after → IsLook s p k w log now log-now found before after
unfolding watched-by
look-is s p k w found log log-now now before after small shown is page on = record {
  emitted = on.emitted;
  notices = on.notices;
  few = on.few;
  page = page;
  watched = watched-by s p k w found log log-now (Load w found ∷ []) now on.emitted
      (look-shows s p k w found log is) tt (small, tt) shown page on.passed on.word;
  news = refl;
  word = on.word;
  here = here;
  others = others;
  shadow = λ shadow x small. by shadow x small (cases_eq x w);
}
  where
    here : known log-now w ≡ found
    here = ap (λ l. known l w) page ∙ rw (same w w refl) refl

    others : (x : ℕ) → x ≢ w → known log-now x ≡ known log x
    others x other = ap (λ l. known l x) page ∙ rw (apart x w other) refl

    by : IsShadow s (overlay_of p k) log → (x : ℕ) → x < 512 → (x ≡ w) ⊎ (x ≢ w)
        → known log-now x ≡ word_of now (overlay_of p k) x
    by shadow x small (inl e) =
        ap (known log-now) e ∙ here ∙ sym on.word.here ∙ ap (word_of now (overlay_of p k)) (sym e)
    by shadow x small (inr ne) = others x ne ∙ shadow x small ∙ sym (on.word.others (overlay_of p k) x (inr ne))

pub mark-is : (s : State) (p : ℕ) (k : Kind) (w mask found : ℕ) (log log-now : List Access) (now : State)
    (before after : List Notice) → w < 512 → IsShown s p k → known log w ≡ word_of s (overlay_of p k) w
    → log-now ≡ FetchOr w mask found ∷ log
    → IsPassedOn s p k w found now before after → IsMark s p k w mask log now log-now found before after
unfolding watched-by
mark-is s p k w mask found log log-now now before after small shown is page on = record {
  emitted = on.emitted;
  notices = on.notices;
  few = on.few;
  page = page;
  watched = watched-by s p k w found log log-now (FetchOr w mask found ∷ []) now on.emitted
      (mark-shows s p k w mask found log is) tt (small, tt) shown page on.passed on.word;
  news = refl;
  word = on.word;
  here = ap (λ l. known l w) page ∙ rw (same w w refl) refl;
  others = λ x other. ap (λ l. known l x) page ∙ rw (apart x w other) refl;
}

-- a list of at most one notice is appended by its first
none-is : (xs : List Notice) → slice_get xs 0 ≡ None → xs ≡ []
none-is [] is = refl
none-is (x ∷ xs) is = absurd (cc)

one-is : (xs : List Notice) (x : Notice) → length xs ≤ 1 → slice_get xs 0 ≡ Some x → xs ≡ x ∷ []
one-is [] x few is = absurd (cc)
one-is (y ∷ []) x few is = let e : y ≡ x = cc in ap (λ z. z ∷ []) e
one-is (y ∷ z ∷ xs) x few is = absurd (omega (arith, few))

pub passed-one : (s : State) (p : ℕ) (k : Kind) (w value : ℕ) (now : State) (before after emitted : List Notice)
    (notice : Notice) → IsPassed s p k w value now emitted → HasWord s (overlay_of p k) w value now
    × (length emitted ≤ 1)
    → slice_get emitted 0 ≡ Some notice → after ≡ before ++ notice ∷ [] → IsPassedOn s p k w value now before after
passed-one s p k w value now before after emitted notice passed word is pushed = record {
  emitted = emitted;
  notices = pushed ∙ ap (λ ns. before ++ ns) (sym (one-is emitted notice word.1 is));
  few = word.1;
  passed = passed;
  word = word.0;
}

pub passed-none : (s : State) (p : ℕ) (k : Kind) (w value : ℕ) (now : State) (before emitted : List Notice)
    → IsPassed s p k w value now emitted → HasWord s (overlay_of p k) w value now × (length emitted ≤ 1)
    → slice_get emitted 0 ≡ None → IsPassedOn s p k w value now before before
passed-none s p k w value now before emitted passed word is = record {
  emitted = emitted;
  notices = sym (ap (λ ns. before ++ ns) (none-is emitted is) ∙ append-nil before);
  few = word.1;
  passed = passed;
  word = word.0;
}
