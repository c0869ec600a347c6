-- A run in which a call hides MessagePending for a moment.
use Rattle.std.proofs.Common.{inl, inr, refl}
use Rattle.law_slots.specs.Pages.{flicker, AFlickerIsMissed, AreLaxActs, opened}

may : AreLaxActs 0 opened flicker
may = (
  (λ e. absurd (cc), ((refl, tt), ((tt, λ e. refl), tt)), λ e. absurd (cc)),
  (
    (λ e. absurd (cc), ((refl, tt), ((refl, tt), tt)), λ e. inl (refl, refl, refl)),
    (
      refl,
      (
        refl,
        (
          refl,
          (
            refl,
            (
              (
                λ e. absurd (cc),
                ((refl, tt), ((tt, λ e. refl), (refl, ((tt, λ e. refl), tt)))),
                λ e. inr (inr (refl, refl, refl)),
              ),
              tt,
            ),
          ),
        ),
      ),
    ),
  ),
)

pub a_flicker_is_missed : AFlickerIsMissed
a_flicker_is_missed = record { may = may; waits = refl; missed = refl }
