-- The formulas by rows that were worked by hand.
mod Words
use Rattle.std.specs.Prelude.{ℕ, ◌+◌, ◌-◌, ◌*◌, ◌^◌, ◌%◌, ◌≡◌, List, [], ◌∷◌, Option, Some, None, Ok, Err, map, sum, bit_and}
use Rattle.std.proofs.Common.{refl, inl, inr, arith}
use Rattle.seize_words.specs.OneMemory.Word.{link_to}
use Rattle.seize_words.specs.declared.at.At.TheVariants.{Word}
use Rattle.seize_words.specs.declared.fault.Fault.TheVariants.{Capacity}
use Rattle.map_tables.specs.declared.lengths.Reason.TheVariants.{Full, Reserved, NoPlace}
use Rattle.map_tables.specs.declared.resize_mode.ResizeMode.TheVariants.{Incremental, Blocking}
use Rattle.map_tables.specs.declared.table.Table.{Table}
use Rattle.map_tables.specs.declared.trial.Trial.{Trial}
use Rattle.map_tables.specs.Lengths.{entries_of, len_of, next_len, next_limit, next_turn, CannotBeFollowed}
use Rattle.map_tables.specs.Probes.{place_at, probe_from, probe_after, limit_of}
use Rattle.map_tables.specs.Counts.{count_in}
use Rattle.map_tables.specs.Chunks.{chunk_of}
use Rattle.map_tables.specs.Trials.{first_trial, trial_on, place_tried, with_met, found_full, next_trial}

-- a length has room for a third more than the pairs

places_for_pairs : map entries_of (0 ∷ 6 ∷ 10 ∷ 24 ∷ 25 ∷ 2048 ∷ 2 ^ 61 ∷ []) ≡ Ok 1 ∷ Ok 8 ∷ Ok 16 ∷ Ok 32 ∷ Ok 64 ∷ Ok 4096 ∷ Err Capacity ∷ []
unfolding lib.Count.count_leading_zeros
places_for_pairs = refl

lengths_for_pairs : map len_of (0 ∷ 6 ∷ 10 ∷ 24 ∷ 25 ∷ 2048 ∷ 2 ^ 61 ∷ []) ≡ Ok 8 ∷ Ok 8 ∷ Ok 16 ∷ Ok 32 ∷ Ok 64 ∷ Ok 4096 ∷ Err Capacity ∷ []
unfolding lib.Count.count_leading_zeros
lengths_for_pairs = refl

-- the length after another goes by what made it necessary

full_of_pairs : next_len (Full 8 8) 8 8 8 ∷ next_len (Full 26 26) 32 26 1 ∷ next_len (Full 0 0) (2 ^ 48) (2 ^ 48) 1 ∷ [] ≡ Ok 16 ∷ Ok 64 ∷ Err Capacity ∷ []
full_of_pairs = refl

few_pairs : next_len (Full 8 8) 64 8 1 ∷ next_len (Full 0 0) 64 8 64 ∷ next_len (Full 0 0) 8 0 1 ∷ [] ≡ Ok 32 ∷ Ok 64 ∷ Ok 8 ∷ []
few_pairs = refl

one_hash : next_len (Full 31 31) 64 31 1 ∷ next_len NoPlace 64 0 1 ∷ [] ≡ Ok 64 ∷ Ok 128 ∷ []
one_hash = refl

-- A probe that met more pairs than were counted goes by those: of 64 places, 9 are more than an eighth, and 32 are half of them; 4 of 32 are an eighth.
more_met : next_len (Full 9 9) 64 8 1 ∷ next_len (Full 32 32) 64 0 1 ∷ next_len (Full 4 4) 32 0 1 ∷ next_len (Full 8 8) 8 0 8 ∷ [] ≡ Ok 64 ∷ Ok 128 ∷ Ok 16 ∷ Ok 16 ∷ []
more_met = refl

-- and the counter tells of pairs that it did not meet
fewer_met : next_len (Full 0 0) 64 32 1 ∷ next_len (Full 31 31) 64 32 1 ∷ next_len (Full 7 7) 64 9 1 ∷ [] ≡ Ok 128 ∷ Ok 128 ∷ Ok 64 ∷ []
fewer_met = refl

room_for_all : next_len (Reserved 10) 8 0 1 ∷ next_len (Reserved 14) 16 10 1 ∷ next_len (Reserved (2 ^ 64 - 1)) 16 1 1 ∷ [] ≡ Ok 16 ∷ Ok 32 ∷ Err Capacity ∷ []
unfolding lib.Count.count_leading_zeros
room_for_all = refl

-- limits and turns follow the lengths

limits : map limit_of (1 ∷ 8 ∷ 16 ∷ 32 ∷ 64 ∷ []) ≡ 0 ∷ 7 ∷ 15 ∷ 25 ∷ 30 ∷ []
unfolding lib.Count.count_leading_zeros
limits = refl

limits_after : next_limit (Full 26 26) 32 25 64 ∷ next_limit (Full 31 31) 64 30 64 ∷ next_limit NoPlace 64 30 128 ∷ next_limit (Reserved 14) 16 15 32 ∷ [] ≡ 30 ∷ 63 ∷ 127 ∷ 25 ∷ []
unfolding lib.Count.count_leading_zeros
limits_after = refl

-- A table of 64 places has 31 tries. Behind one whose tries met 28 pairs, an eighth fewer at most, one of the same length is tried everywhere; but not where they
-- met 27, or none, and tombstones else. Nor is one that a reservation makes.
same_length : next_limit (Full 28 28) 64 30 64 ∷ next_limit (Full 27 27) 64 30 64 ∷ next_limit (Full 0 0) 64 30 64 ∷ next_limit (Reserved 14) 64 30 64 ∷ [] ≡ 63 ∷ 30 ∷ 30 ∷ 30 ∷ []
unfolding lib.Count.count_leading_zeros
same_length = refl

-- What was met at an earlier table counts for the length, but not for the limit.
met_earlier : next_len (Full 5 33) 64 0 1 ∷ next_len (Full 5 20) 64 0 1 ∷ [] ≡ Ok 128 ∷ Ok 64 ∷ []
met_earlier = refl

limit_met_earlier : next_limit (Full 5 31) 64 30 64 ≡ 30
unfolding lib.Count.count_leading_zeros
limit_met_earlier = refl

turns : next_turn 0 ∷ next_turn (2 ^ 63) ∷ [] ≡ Ok 1 ∷ Err Capacity ∷ []
turns = refl

-- A probe goes one place further at each try: from 5, by 1, 2, 3, and so on, in a table of 8 places.

places : map (place_at 5 3) (0 ∷ 1 ∷ 2 ∷ 3 ∷ 4 ∷ 5 ∷ 6 ∷ 7 ∷ []) ≡ 5 ∷ 6 ∷ 0 ∷ 3 ∷ 7 ∷ 4 ∷ 2 ∷ 1 ∷ []
places = refl

goes_on : probe_after (probe_after (probe_from 13 7) 7) 7 ≡ record { i = 0; len = 2 }
goes_on = refl

abbrev then_on : {X Y : Type 0} → Option X → (X → Option Y) → Option Y
then_on None f = None
then_on (Some x) f = f x

-- the words of a table of 8 places in block 3 begin behind its 5 words, and it is tried twice where its limit is 1

abbrev table : Table
table = record { link = link_to 3; len = 8; limit = 1; turn = 0 }

abbrev second : Option Trial
second = next_trial (first_trial table 15)

tried : place_tried (first_trial table 15) ≡ Word 3 (5 + 7)
tried = refl

tried_next : then_on second (λ trial. Some (place_tried trial)) ≡ Some (Word 3 5)
tried_next = refl

no_third : then_on second next_trial ≡ None
no_third = refl

-- A try whose word names a pair has met it, also where that was copied (2); one at an empty place (0), a tombstone (2) or a place that is shut (1) has not. The
-- next try goes on from that count.

meets_pairs : map (λ (word : ℕ). (with_met (first_trial table 15) word).met) (0 ∷ 2 ∷ 1 ∷ (3 * 2048) ∷ (3 * 2048 + 2) ∷ []) ≡ 0 ∷ 0 ∷ 0 ∷ 1 ∷ 1 ∷ []
meets_pairs = refl

met_before : then_on (next_trial (with_met (first_trial table 15) (3 * 2048))) (λ trial. Some trial.met) ≡ Some 1
met_before = refl

-- What was met at a table that was full is kept at the next one, where nothing is met yet.
kept_full : (trial_on (found_full (with_met (first_trial table 15) (3 * 2048))) table 15).most ∷ (trial_on (with_met (first_trial table 15) (3 * 2048)) table 15).most ∷ [] ≡ 1 ∷ 0 ∷ []
kept_full = refl

-- pairs are counted in the shard of the slot, and a negative sum is none

shards : map (λ (slot : ℕ). bit_and slot 3) (0 ∷ 3 ∷ 4 ∷ 65535 ∷ []) ≡ 0 ∷ 3 ∷ 0 ∷ 3 ∷ []
shards = refl

sums : map (λ (words : List ℕ). count_in (sum words % 2 ^ 64)) ([] ∷ (3 ∷ (2 ^ 64 - 1) ∷ []) ∷ (1 ∷ (2 ^ 64 - 2) ∷ []) ∷ []) ≡ 0 ∷ 2 ∷ 0 ∷ []
sums = refl

-- a first table can be followed, one of the most places or with the last turn cannot

first_followed : CannotBeFollowed 32 0 → ⊥
first_followed (inl long) = absurd (omega (arith, long))
first_followed (inr late) = absurd (omega (arith, late))

longest_ends : CannotBeFollowed (2 ^ 48) 0
longest_ends = inl (omega arith)

latest_ends : CannotBeFollowed 8 (2 ^ 63)
latest_ends = inr (omega arith)

-- a chunk is cut at the length

chunks : chunk_of (Incremental 6) 8 ∷ chunk_of (Incremental 64) 8 ∷ chunk_of Blocking 8 ∷ chunk_of Blocking (2 ^ 20) ∷ [] ≡ 6 ∷ 8 ∷ 8 ∷ 4096 ∷ []
chunks = refl
