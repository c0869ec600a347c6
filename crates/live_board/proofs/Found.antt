-- The header of a port's slot, found by one look, or marked after one.
use Rattle.std.proofs.Common.{◌≡◌, ◌⊎◌, inl, inr, ℕ, ◌*◌, ◌^◌, ◌<◌, true, false, List, [], ◌∷◌, ◌++◌, refl, sym, ap, subst, ◌∙◌, arith, append_assoc, length-append}
use Rattle.std.specs.Prelude.{bit_or}
use Rattle.board_terms.specs.declared.notices.Notice.{Notice}
use Rattle.board_terms.specs.declared.pages.Kind.TheVariants.{Sim}
use Rattle.event_ports.specs.declared.ports.Port.{Port}
use Rattle.synic_board.specs.State.{State}
use Rattle.live_pages.specs.Words.{type_of, is_pending}
use Rattle.live_pages.specs.declared.access.Access.{Access}
use Rattle.live_pages.specs.declared.access.Access.TheVariants.{Load, FetchOr, Store}
use Rattle.live_board.specs.Live.{AreReads}
use Rattle.live_board.specs.inside.Parts.{IsShadow, IsLook, IsMark, IsFound, is_attempted}
use Rattle.live_board.proofs.Joined.{watched-then}

-- more looks and marks
pub reads-append : (i : ℕ) (later news : List Access) → AreReads i later → AreReads i news → AreReads i (later ++ news)
reads-append i [] news h g = g
reads-append i (Load w f ∷ later) news h g = (h.0, reads-append i later news h.1 g)
reads-append i (FetchOr w m f ∷ later) news h g = (h.0, h.1, reads-append i later news h.2 g)
reads-append i (Store w v ∷ later) news h g = absurd h

-- whether a post makes an attempt depends on neither own pages nor tickets of slots
pub rest-attempted : (s now : State) (number kind : ℕ) (port : Port)
    → now ≡ record s { own = now.own; slots = now.slots }
    → is_attempted now number kind port ≡ is_attempted s number kind port
rest-attempted s now number kind port rest = ap (λ t. is_attempted t number kind port) rest

pub found-one : (s : State) (number kind : ℕ) (port : Port) (log : List Access) (now : State) (log-now : List Access)
    (found : ℕ) (before after : List Notice)
    → port.sint < 16 → IsShadow s (2 * port.vp) log
    → IsLook s port.vp Sim (32 * port.sint) log now log-now found before after
    → (type_of found ≡ 0) ⊎ ((is_pending found ≡ true) ⊎ (is_attempted now number kind port ≡ false))
    → IsFound s number kind port log now log-now found found before after
found-one s number kind port log now log-now found before after under shadow look exact = record {
  emitted = look.emitted;
  notices = look.notices;
  few = omega (arith, look.few);
  watched = look.watched;
  here = look.word.here;
  known_here = look.here;
  others = λ x low _. look.shadow shadow x low;
  looked = ([], found, look.page);
  reads = subst (AreReads port.sint) (sym look.news) (refl, tt);
  exact = inl (refl, which exact);
}
  where
    which : (type_of found ≡ 0) ⊎ ((is_pending found ≡ true) ⊎ (is_attempted now number kind port ≡ false))
        → (type_of found ≡ 0) ⊎ ((is_pending found ≡ true) ⊎ (is_attempted s number kind port ≡ false))
    which (inl empty) = inl empty
    which (inr (inl marked)) = inr (inl marked)
    which (inr (inr none)) = inr (inr (sym (rest-attempted s now number kind port look.watched.rest) ∙ none))

pub found-two : (s : State) (number kind : ℕ) (port : Port) (log : List Access) (mid now : State)
    (log-mid log-now : List Access) (first found : ℕ) (before between after : List Notice)
    → IsShadow s (2 * port.vp) log → IsLook s port.vp Sim (32 * port.sint) log mid log-mid first before between
    → IsMark mid port.vp Sim (32 * port.sint) (2 ^ 40) log-mid now log-now found between after
    → is_attempted mid number kind port ≡ true
    → IsFound s number kind port log now log-now found (bit_or found (2 ^ 40)) before after
unfolding watched-then
found-two s number kind port log mid now log-mid log-now first found before between after shadow look mark made =
    record {
      emitted = look.emitted ++ mark.emitted;
      notices = mark.notices ∙ ap (λ ns. ns ++ mark.emitted) look.notices
          ∙ append_assoc before look.emitted mark.emitted;
      few = omega (arith, look.few, mark.few, length-append look.emitted mark.emitted);
      watched = watched-then s mid now port.vp Sim log log-mid log-now look.emitted mark.emitted look.watched
          mark.watched;
      here = mark.word.here;
      known_here = mark.here;
      others = λ x low ne. mark.others x ne ∙ look.shadow shadow x low
          ∙ sym (mark.word.others (2 * port.vp) x (inr ne));
      looked = (
        FetchOr (32 * port.sint) (2 ^ 40) found ∷ [],
        first,
        mark.page ∙ ap (λ l. FetchOr (32 * port.sint) (2 ^ 40) found ∷ l) look.page,
      );
      reads = reads-append port.sint mark.watched.news look.watched.news
          (subst (AreReads port.sint) (sym mark.news) (refl, refl, tt))
          (subst (AreReads port.sint) (sym look.news) (refl, tt));
      exact = inr (refl, sym (rest-attempted s mid number kind port look.watched.rest) ∙ made);
    }
