-- A number that is taken away and one that is given, by the flag that is turned over.
use Rattle.std.proofs.Common.{◌≡◌, ℕ, ◌+◌, ◌*◌, ◌-◌, ◌/◌, ◌%◌, ◌^◌, ◌<◌, ◌≤◌, List, length, get_or, sym, ap, ◌∙◌, subst, arith}
use Rattle.std.specs.Prelude.{bit_and, remove}
use Rattle.std.specs.Int.{bit_at}
use Rattle.std.proofs.lemmas.List.{get_or_default}
use Rattle.std.proofs.lemmas.List.Edits.{length-remove}
use Rattle.std.proofs.lemmas.Nat.Bits.{bit_at-lt, shr_and_one}
use Rattle.seize_words.specs.OneMemory.FreeNumbers.{IsBehind, IsTurned, flag_at, numbers_in, places, with_number}
use Rattle.seize_words.proofs.OneMemory.FreeWords.{flag_at-node, flags-at, number-at, number-given, number-more, number-taken, number-there}

module _ (first : ℕ) (nodes : List ℕ) where
  pub places-same : (new : List ℕ) → length new ≡ length nodes → places first nodes ≡ places first new
  places-same new long = ap (λ n. 64 * (n - first)) (sym long)

  module _ (room number : ℕ) (some : 0 < number) (within : number ≤ room) (room_is : room ≡ places first nodes) (word : ℕ)
      (read : word ≡ get_or nodes (first + (number - 1) / 64) word) where
    abbrev node : ℕ
    node = first + (number - 1) / 64

    abbrev bit : ℕ
    bit = (number - 1) % 64

    fits : number - 1 < places first nodes
    fits = omega (arith, some, within, room_is)

    number_is : 1 + (number - 1) ≡ number
    number_is = omega (arith, some)

    flag_is : 64 * node + bit ≡ 64 * first + (number - 1)
    flag_is = omega arith

    word_is : word ≡ get_or nodes node 0
    word_is = read ∙ get_or_default nodes node word 0 (omega (arith, some, within, room_is))

    -- the code's test of the flag
    tested : flag_at nodes (64 * first + (number - 1)) ≡ bit_and (word / 2 ^ bit) 1
    tested =
        sym (ap (flag_at nodes) flag_is) ∙ flag_at-node nodes node bit (omega arith) ∙ ap (λ w. bit_at w bit) (sym word_is) ∙ sym (shr_and_one word bit)

    pub given-there : (bit_and (word / 2 ^ bit) 1 ≡ 0 → ⊥) → numbers_in first nodes ≡ with_number number (numbers_in first nodes)
    given-there set =
        number-there first nodes (number - 1) fits (omega (arith, tested, set, shr_and_one word bit, bit_at-lt word bit))
        ∙ ap (λ n. with_number n (numbers_in first nodes)) number_is

    module _ (none : bit_and (word / 2 ^ bit) 1 ≡ 0) (new : List ℕ) (turn : IsTurned first (64 * node + bit) nodes new) where
      turn_at : IsTurned first (64 * first + (number - 1)) nodes new
      turn_at = subst (λ f. IsTurned first f nodes new) flag_is turn

      pub given-numbers : numbers_in first new ≡ with_number number (numbers_in first nodes)
      given-numbers =
          number-given first nodes (number - 1) fits new (flags-at first new) turn_at (tested ∙ none)
          ∙ ap (λ n. with_number n (numbers_in first nodes)) number_is

      pub given-count : length (numbers_in first new) ≡ length (numbers_in first nodes) + 1
      given-count = number-more first nodes (number - 1) fits new (flags-at first new) turn_at (tested ∙ none)

  module _ (before node bit : ℕ) (b : IsBehind first nodes before node bit) where
    abbrev place : ℕ
    place = 64 * (node - first) + bit

    inside : place < places first nodes
    inside = omega (arith, b.low, b.within, b.small)

    place_is : 64 * node + bit ≡ 64 * first + place
    place_is = omega (arith, b.low)

    one : flag_at nodes (64 * first + place) ≡ 1
    one = sym (ap (flag_at nodes) place_is) ∙ flag_at-node nodes node bit b.small ∙ b.set

    pub taken-at : (d : ℕ) → get_or (numbers_in first nodes) before d ≡ 1 + place
    taken-at d = number-at first nodes place inside before b.rank one d

    module _ (new : List ℕ) (turn : IsTurned first (64 * node + bit) nodes new) where
      pub taken-numbers : numbers_in first new ≡ remove (numbers_in first nodes) before
      taken-numbers =
          number-taken first nodes place inside new (flags-at first new) (subst (λ f. IsTurned first f nodes new) place_is turn) before b.rank one

      pub taken-count : before < length (numbers_in first nodes) → length (numbers_in first new) + 1 ≡ length (numbers_in first nodes)
      taken-count few = ap (λ ns. length ns + 1) taken-numbers ∙ length-remove (numbers_in first nodes) before few
