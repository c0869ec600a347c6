-- What holds for all messages of the buffers holds for those in the queues.
use Rattle.std.proofs.Common.{◌≡◌, ℕ, zero, suc, ◌<◌, ◌≤◌, List, length, Option, Some, None, true, false, nat_lt, refl, sym, subst, arith}
use Rattle.std.specs.Prelude.{slice_index_or}
use Rattle.std.proofs.lemmas.Bool.Decides.{nat_tests}
use Rattle.std.specs.List.{All}
use Rattle.std.specs.Option.{option_map}
use Rattle.std.proofs.lemmas.List.{get_or_past}
use Rattle.std.proofs.lemmas.List.Elements.{All-nil, All-cons, All-get_or, All-map}
use Rattle.slab.specs.Slab.{Slab, get}
use Rattle.board_terms.specs.declared.messages.Message.{Message}
use Rattle.board_terms.specs.Ranges.{HasMessageRanges}
use Rattle.message_queues.specs.declared.chains.Neighbours.{Neighbours}
use Rattle.message_queues.specs.declared.chains.Chain.{Chain}
use Rattle.message_queues.specs.inside.Buffers.{Buffer, buffer_of, buffer_at, message_in, no_message}
use Rattle.message_queues.specs.inside.Chains.{Buffers, behind_of, put_first, messages, queue_at, queues_at}

abbrev Holds : Option Buffer → Type 0
Holds None = Unit {0}
Holds (Some b) = HasMessageRanges b.message

-- the message at a key, in use or not
at-key : (ms : List Message) → All HasMessageRanges ms → (key : ℕ) → HasMessageRanges (message_in ms key)
at-key ms h key =
    elim (nat_lt key (length ms)) as (λ b. nat_lt key (length ms) ≡ b → HasMessageRanges (message_in ms key)) [
      | true ↦ λ e. let below : key < length ms =
          grind (arith, nat_tests) in All-get_or HasMessageRanges ms key no_message below h
      | false ↦ λ e. let past : length ms ≤ key = grind (arith, nat_tests) in
          subst HasMessageRanges (sym (get_or_past ms key no_message past))
          (omega arith, omega arith, omega arith, omega arith)
    ] refl

pub of-buffers : (neighbours : Slab Neighbours) (ms : List Message) → All HasMessageRanges ms → (key : ℕ)
    → Holds (buffer_at neighbours ms key)
of-buffers neighbours ms h key =
    elim (get neighbours key) as
    (λ o. Holds (option_map (buffer_of (message_in ms key)) o)) [ None ↦ tt | Some n ↦ at-key ms h key ]

of-first : (o : Option Buffer) (ms : List Message) → Holds o → All HasMessageRanges ms
    → All HasMessageRanges (put_first o ms)
of-first None ms h all = all
of-first (Some b) ms h all = All-cons HasMessageRanges b.message ms h all

of-messages : (b : Buffers) → ((key : ℕ) → Holds (b key)) → (n : ℕ) (from : Option ℕ)
    → All HasMessageRanges (messages n b from)
of-messages b h zero from = All-nil HasMessageRanges
of-messages b h (suc n) None = All-nil HasMessageRanges
of-messages b h (suc n) (Some key) =
    of-first (b key) (messages n b (behind_of (b key))) (h key) (of-messages b h n (behind_of (b key)))

pub of-queues : (b : Buffers) → ((key : ℕ) → Holds (b key)) → (chains : List Chain)
    → All (All HasMessageRanges) (queues_at b chains)
of-queues b h chains =
    All-map (All HasMessageRanges) (queue_at b) chains
    (λ k d within. of-messages b h (slice_index_or chains k d).len (slice_index_or chains k d).first)
