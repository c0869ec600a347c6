-- The image of a board leads, line by line, to the state of the board.
use Rattle.std.proofs.Common.{◌≡◌, ◌⊎◌, inl, inr, ℕ, zero, suc, ◌+◌, ◌*◌, ◌<◌, ◌≤◌, [], ◌∷◌, ◌++◌, length, get_or, replicate, refl, sym, nat_eq, arith, codes}
use Rattle.event_ports.specs.Ports.{port_count}
use Rattle.std.specs.Prelude.{Option, None, Some}
use Rattle.std.proofs.lemmas.Bool.{cases_lt}
use Rattle.std.proofs.lemmas.List.{get_or-replicate, get_or_past, length-replicate}
use Rattle.std.proofs.lemmas.List.Sums.{sum_by-cons}
use Rattle.text_base.specs.Fields.{spaced}
use Rattle.text_base.proofs.PlainWords.{IsWritten, plain_by, written}
use Rattle.synic_board.specs.State.{State, processors, opened}
use Rattle.synic_board.specs.Timers.{at_moment}
use Rattle.synic_board.proofs.keeping.Counts.{in_slot, in_slots}
use Rattle.text_lines.specs.Items.{Opening, item_fields}
use Rattle.text_lines.proofs.ReadLemmas.{reading-means as item-reading}
use Rattle.text_lines.proofs.WrittenLemmas.{board-written, item-means}
use Rattle.text_image.specs.declared.piece.Piece.TheVariants as pieces
use Rattle.text_image.specs.Image.{image, image_lines, body_lines, moment_lines, end_fields, each_below}
use Rattle.text_image.specs.Image.{lapic_lines, register_lines, guest_lines, own_lines, port_lines, timers_lines, queues_lines, slots_lines}
use Rattle.text_image.specs.Pieces.{piece_fields}
use Rattle.text_image.proofs.PieceLemmas.{reading-means, piece-means}
use Rattle.text_restore.specs.Restoring.{Stage, Untitled, Titled, Body, rank, rank_of, Opens}
use Rattle.text_restore.specs.Images.{IsImage}
use Rattle.law_images.specs.States.{IsBoardState}
use Rattle.text_restore.proofs.Short.{piece-written}
use Rattle.law_images.proofs.Walks.{Point, point, Passes, Arrives, Walks, walks-append, walks-lead, walks-whole, passes-append}
use Rattle.law_images.proofs.passing.Processors.{moment-passed, lapics-passed}
use Rattle.law_images.proofs.passing.Registers.{regs-passed}
use Rattle.law_images.proofs.passing.Pages.{guests-passed, owns-passed}
use Rattle.law_images.proofs.passing.Ports.{ports-passed}
use Rattle.law_images.proofs.passing.Timers.{timers-passed}
use Rattle.law_images.proofs.passing.Queues.{queues-passed}
use Rattle.law_images.proofs.passing.Slots.{slots-passed}

-- Empty slots have no tickets.
no-ticket : (n j : ℕ) → get_or {A = Option ℕ} (replicate n None) j None ≡ None
no-ticket n j = by (cases_lt j n)
  where
    by : (j < n) ⊎ (n ≤ j) → get_or {A = Option ℕ} (replicate n None) j None ≡ None
    by (inl under) = get_or-replicate n j None None under
    by (inr over) = get_or_past (replicate n None) j None (omega (arith, length-replicate {A = Option ℕ} n None, over))

none-in : (x n : ℕ) → in_slots x (replicate n None) ≡ 0
none-in x zero = refl
none-in x (suc n) = omega (arith, sum_by-cons (in_slot x) None (replicate n None), none-in x n)

module _ (s : State) (h : IsBoardState s) where
  abbrev n : ℕ
  n = processors s

  -- the board as it is opened, and as it is after each section
  abbrev board : State
  board = opened (processors s) (length s.pages) s.next_ticket

  abbrev timed : State
  timed = at_moment board s.moment

  abbrev with_lapics : State
  with_lapics = record timed { apics = s.apics; suspended = s.suspended }

  abbrev with_registers : State
  with_registers = record with_lapics { regs = s.regs }

  abbrev with_guests : State
  with_guests = record with_registers { pages = s.pages }

  abbrev with_owns : State
  with_owns = record with_guests { own = s.own }

  abbrev with_ports : State
  with_ports = record with_owns { ports = s.ports }

  abbrev with_timers : State
  with_timers = record with_ports { timers = s.timers }

  abbrev with_queues : State
  with_queues = record with_timers { queues = s.queues }

  body-passed : Passes (point timed 0 (rank 2 0 0 0)) (body_lines s) (point s (processors s) (rank 10 0 0 0))
  body-passed =
      passes-append (point timed 0 (rank 2 0 0 0)) (point with_lapics n (rank 3 0 0 0)) end
      (each_below n (lapic_lines s)) _ (lapics-passed s h timed)
      (passes-append (point with_lapics n (rank 3 0 0 0)) (point with_registers n (rank 4 0 0 0)) end
      (each_below n (register_lines s)) _ (regs-passed s h with_lapics refl)
      (passes-append (point with_registers n (rank 4 0 0 0)) (point with_guests n (rank 5 0 0 0)) end
      (each_below (length s.pages) (guest_lines s)) _ (guests-passed s h with_registers refl)
      (passes-append (point with_guests n (rank 5 0 0 0)) (point with_owns n (rank 6 0 0 0)) end
      (each_below n (own_lines s)) _
      (owns-passed s h with_guests refl (λ p i low. no-ticket (16 * n) (16 * p + i)))
      (passes-append (point with_owns n (rank 6 0 0 0)) (point with_ports n (rank 7 0 0 0)) end
      (each_below (length s.ports) (port_lines s)) _
      (ports-passed s h with_owns refl (port_count n (nat_eq (length s.pages) 0)) (sym h.shape.ports))
      (passes-append (point with_ports n (rank 7 0 0 0)) (point with_timers n (rank 8 0 0 0)) end
      (each_below n (timers_lines s)) _ (timers-passed s h with_ports refl refl)
      (passes-append (point with_timers n (rank 8 0 0 0)) (point with_queues n (rank 9 0 0 0)) end
      (each_below n (queues_lines s)) (each_below n (slots_lines s))
      (queues-passed s h with_timers refl refl refl (λ x. none-in x (16 * n)) refl)
      (slots-passed s h with_queues refl refl refl refl)))))))
    where
      end : Point
      end = point s (processors s) (rank 10 0 0 0)

  -- the last stage
  abbrev done : Stage
  done = Body s (rank_of pieces.End) (processors s)

  end-walked : (last : ℕ) → last < rank 10 0 0 0 → Walks (Body s last (processors s)) (end_fields ∷ []) done
  end-walked last before = (
    done,
    piece-written pieces.End tt,
    (
      pieces.End,
      (reading-means (spaced (piece_fields pieces.End)) pieces.End).1 (piece-means pieces.End tt),
      record { next = s; later = before; turn = refl; restores = refl; stage = refl },
    ),
    refl,
  )

  title-written : IsWritten (codes "image" ∷ codes "1" ∷ [])
  title-written = written _ _ (plain_by (codes "image") refl, (plain_by (codes "1") refl, tt)) (omega arith)

  opens : Opens (spaced (item_fields (Opening (processors s) (Some (length s.pages)) s.next_ticket))) (Body board 0 0)
  opens = record {
    count = processors s;
    pages = length s.pages;
    ticket = s.next_ticket;
    item = (item-reading (spaced (item_fields (Opening n (Some (length s.pages)) s.next_ticket)))
        (Opening n (Some (length s.pages)) s.next_ticket)).1
        (item-means (Opening n (Some (length s.pages)) s.next_ticket)
        (omega (arith, h.sizes.processor_bound), omega (arith, h.sizes.page_bound), h.ranges.next_ticket));
    sizes = h.sizes;
    stage = refl;
  }

  image-walked : Walks Untitled (image_lines s) done
  image-walked = (
    Titled,
    title-written,
    (refl, refl),
    (
      Body board 0 0,
      board-written n (Some (length s.pages)) s.next_ticket,
      opens,
      walks-append (Body board 0 0) (Body timed first.now 0) done (moment_lines s.moment)
          (body_lines s ++ end_fields ∷ []) first.walk
          (walks-append (Body timed first.now 0) (Body s rest.now n) done (body_lines s) (end_fields ∷ []) rest.walk
          (end-walked rest.now rest.before)),
    ),
  )
    where
      first : Arrives (point board 0 (rank 1 0 0 0)) 0 (moment_lines s.moment) (point timed 0 (rank 2 0 0 0))
      first = (moment-passed s h board).from 0 (omega arith)

      rest : Arrives (point timed 0 (rank 2 0 0 0)) first.now (body_lines s) (point s (processors s) (rank 10 0 0 0))
      rest = body-passed.from first.now first.before

pub accepted : (s : State) → IsBoardState s → IsImage (image s) s
unfolding image
accepted s h = record {
  stage = done s h;
  leads = walks-lead Untitled (done s h) (image_lines s) (image-walked s h);
  complete = (processors s, refl);
  whole = walks-whole Untitled (done s h) (image_lines s) (image-walked s h);
}
