-- The directory as a block of it changes: where the block's entry lies, what the directory shows, and its free numbers.
use Rattle.std.proofs.Common.{◌≡◌, ℕ, ◌+◌, ◌-◌, ◌<◌, ◌≤◌, ◌^◌, List, [], ◌∷◌, ◌++◌, length, Option, Some, None, IsSome, ap, refl, sym, subst, ◌∙◌, arith, zero-add, length-append, inl, inr}
use Rattle.std.specs.Prelude.{◌≢◌, remove, slice_index_or, slice_set}
use Rattle.std.proofs.lemmas.Bool.{cases_eq, cases_lt, eq-eqb}
use Rattle.std.proofs.lemmas.List.{get_or_default, length-set, set-get_or}
use Rattle.std.proofs.Math.ListN.{get_or-eq_default}
use Rattle.seize_words.specs.declared.block.Block.{Block}
use Rattle.seize_words.specs.OneMemory.Buckets.{all_in, AreFilled}
use Rattle.seize_words.specs.OneMemory.Directory.{IsDirectory, with_next}
use Rattle.seize_words.specs.OneMemory.FreeNumbers.{FreeNumbers, with_number}
use Rattle.seize_words.specs.OneMemory.Mem.{entry_in, free_from, value_in, values_in, with_entry, with_value_in, with_word_in, word_in}
use Rattle.seize_words.specs.OneMemory.Place.{capacity, IsPlace}
use Rattle.seize_words.proofs.OneMemory.FreeKept.{free_at_one, free_lt, IsKept-push, IsKept-reused, IsKept-room, IsKept-set_some, IsKept-taken}
use Rattle.seize_words.proofs.OneMemory.FreeNumbers.{IsFree}
use Rattle.seize_words.proofs.OneMemory.Places.Filled.{bucket_lt, index_lt, all_in-at, all_in-set, AreFilled-set}
use Rattle.seize_words.proofs.OneMemory.Places.Next.{IsNext, is_next, AreFilled-more, all_in-more, AreFilled-entry, all_in-entry}

module _ {T : Type 0} where
  -- what has a part is a block
  pub some_by_entry : (block : Option (Block T)) (k : ℕ) → IsSome (entry_in block k) → (x : Block T) × (block ≡ Some x)
  some_by_entry None k some = absurd (cc)
  some_by_entry (Some x) k some = (x, refl)

  pub some_by_word : (block : Option (Block T)) (k : ℕ) → IsSome (word_in block k) → (x : Block T) × (block ≡ Some x)
  some_by_word None k some = absurd (cc)
  some_by_word (Some x) k some = (x, refl)

  pub some_by_value : (block : Option (Block T)) → IsSome (value_in block) → (x : Block T) × (block ≡ Some x)
  some_by_value None some = absurd (cc)
  some_by_value (Some x) some = (x, refl)

  pub some_itself : (block : Option (Block T)) → IsSome block → (x : Block T) × (block ≡ Some x)
  some_itself None some = absurd (cc)
  some_itself (Some x) some = (x, refl)

  -- and stays one as a part of it is replaced
  pub with_entry-some : (block : Option (Block T)) (k w : ℕ) → (x : Block T) × (block ≡ Some x) → (z : Block T) × (with_entry block k w ≡ Some z)
  with_entry-some block k w is = (record { value = is.0.value; entry = slice_set is.0.entry k w; words = is.0.words }, ap (λ b. with_entry b k w) is.1)

  pub with_word_in-some : (block : Option (Block T)) (k w : ℕ) → (x : Block T) × (block ≡ Some x) → (z : Block T) × (with_word_in block k w ≡ Some z)
  with_word_in-some block k w is = (record { value = is.0.value; entry = is.0.entry; words = slice_set is.0.words k w }, ap (λ b. with_word_in b k w) is.1)

  pub with_value_in-some : (block : Option (Block T)) (v : T) → (x : Block T) × (block ≡ Some x) → (z : Block T) × (with_value_in block v ≡ Some z)
  with_value_in-some block v is = (record { value = v; entry = is.0.entry; words = is.0.words }, ap (λ b. with_value_in b v) is.1)

  pub some_lt : (blocks : List (Option (Block T))) (i : ℕ) → (x : Block T) × (slice_index_or blocks i None ≡ Some x) → i < length blocks
  some_lt blocks i is = elim (cases_lt i (length blocks)) as (λ _. i < length blocks) [
    | inl within ↦ within
    | inr past ↦ absurd (let e : slice_index_or blocks i None ≡ None = get_or-eq_default blocks None past in let s = is.1 in cc)
  ]

  module _ (count : ℕ) (buckets : List (List (Option (Block T)))) (free : FreeNumbers) (d : IsDirectory count buckets free) (place : ℕ)
      (inside : place < length (all_in buckets)) where
    abbrev here : Option (Block T)
    here = slice_index_or (all_in buckets) place None

    pub place_fits : place < 2 ^ 64 - 32
    place_fits = omega (arith, inside, d.kept.few)

    module _ (bucket index : ℕ) (p : IsPlace place bucket index) where
      at_place : place + capacity 0 ≡ capacity (0 + bucket) + index
      at_place = p.position ∙ ap (λ k. capacity k + index) (sym (zero-add bucket))

      within_place : index < capacity (0 + bucket)
      within_place = let e : capacity (0 + bucket) ≡ capacity bucket = ap capacity (zero-add bucket) in omega (arith, e, p.within)

      pub bucket_there : bucket < length buckets
      bucket_there = bucket_lt 0 buckets d.are_filled place bucket index within_place at_place inside

      -- the bucket that an index finds
      module _ (old : List (Option (Block T))) (was : old ≡ slice_index_or buckets bucket old) where
        old_bucket : old ≡ slice_index_or buckets bucket []
        old_bucket = was ∙ get_or_default buckets bucket old [] bucket_there

        pub found : slice_index_or old index None ≡ here
        found =
            ap (λ b. slice_index_or b index None) old_bucket
            ∙ sym (all_in-at 0 buckets None d.are_filled place bucket index within_place at_place inside)

        pub index_within : index < length old
        index_within =
            let l : length old ≡ length (slice_index_or buckets bucket []) = ap length old_bucket in
            omega (arith, l, index_lt 0 buckets d.are_filled place bucket index within_place at_place inside)

        pub written : (new : List (Option (Block T))) (x : Option (Block T)) → new ≡ slice_set old index x
            → all_in (slice_set buckets bucket new) ≡ slice_set (all_in buckets) place x
        written new x is =
            ap (λ b. all_in (slice_set buckets bucket b)) (is ∙ ap (λ b. slice_set b index x) old_bucket)
            ∙ all_in-set 0 buckets d.are_filled place bucket index x within_place at_place inside

        filled : (new : List (Option (Block T))) (x : Option (Block T)) → new ≡ slice_set old index x → AreFilled 0 (slice_set buckets bucket new)
        filled new x is =
            AreFilled-set 0 buckets bucket new d.are_filled (ap length is ∙ length-set old index x ∙ ap length old_bucket)

        counted : (new : List (Option (Block T))) (x : Option (Block T)) → new ≡ slice_set old index x
            → count ≡ length (all_in (slice_set buckets bucket new))
        counted new x is = d.counted ∙ sym (ap length (written new x is) ∙ length-set (all_in buckets) place x)

        -- another block in place of one
        pub IsDirectory-changed : (new : List (Option (Block T))) (y : Option (Block T)) → new ≡ slice_set old index y
            → (x : Block T) × (here ≡ Some x) → (z : Block T) × (y ≡ Some z) → IsDirectory count (slice_set buckets bucket new) free
        IsDirectory-changed new y is was_some is_some =
            let e : all_in (slice_set buckets bucket new) ≡ slice_set (all_in buckets) place (Some is_some.0) = written new y is ∙ ap (slice_set (all_in buckets) place) is_some.1 in
            record {
              are_filled = filled new y is;
              counted = counted new y is;
              kept = rw e (IsKept-set_some (all_in buckets) free place was_some.0 is_some.0 d.kept was_some.1);
            }

        pub IsDirectory-taken : (new : List (Option (Block T))) → new ≡ slice_set old index None → IsSome (value_in here)
            → IsDirectory count (slice_set buckets bucket new) (record free { numbers = with_number (place + 1) free.numbers })
        IsDirectory-taken new is some = record {
          are_filled = filled new None is;
          counted = counted new None is;
          kept = rw (written new None is) (IsKept-taken (all_in buckets) free place d.kept some);
        }

        pub IsDirectory-reused : (new : List (Option (Block T))) (x : Block T) (k number : ℕ) → new ≡ slice_set old index (Some x)
            → k < length (free_from 1 (all_in buckets)) → number ≡ slice_index_or free.numbers k number → place ≡ number - 1
            → IsDirectory count (slice_set buckets bucket new) (record free { numbers = remove free.numbers k })
        IsDirectory-reused new x k number is few number_is place_is =
            let e : all_in (slice_set buckets bucket new) ≡ slice_set (all_in buckets) (number - 1) (Some x) =
            written new (Some x) is ∙ ap (λ i. slice_set (all_in buckets) i (Some x)) place_is in
            record {
              are_filled = filled new (Some x) is;
              counted = counted new (Some x) is;
              kept = rw e (IsKept-reused (all_in buckets) free k number x d.kept (free_lt (all_in buckets) free k d.kept few) number_is);
            }

  -- the number that is used again
  module _ (count : ℕ) (buckets : List (List (Option (Block T)))) (free : FreeNumbers) (d : IsDirectory count buckets free) (k number : ℕ)
      (few : k < length (free_from 1 (all_in buckets))) (is : number ≡ slice_index_or free.numbers k number) where
    number_free : IsFree 1 (all_in buckets) number
    number_free = free_at_one (all_in buckets) free k number d.kept (free_lt (all_in buckets) free k d.kept few) is

    pub number_some : 1 ≤ number
    number_some = number_free.least

    pub number_within : number - 1 < length (all_in buckets)
    number_within = omega (arith, number_free.least, number_free.most)

    pub nothing_there : slice_index_or (all_in buckets) (number - 1) None ≡ None
    nothing_there = number_free.none

  -- the place behind the table
  module _ (count : ℕ) (buckets : List (List (Option (Block T)))) (free : FreeNumbers) (d : IsDirectory count buckets free)
      (bucket index : ℕ) (p : IsPlace count bucket index) where
    at_next : count + capacity 0 ≡ capacity (0 + bucket) + index
    at_next = p.position ∙ ap (λ k. capacity k + index) (sym (zero-add bucket))

    within_next : index < capacity (0 + bucket)
    within_next = let e : capacity (0 + bucket) ≡ capacity bucket = ap capacity (zero-add bucket) in omega (arith, e, p.within)

    next : IsNext buckets bucket index
    next = is_next 0 buckets d.are_filled count bucket index within_next at_next d.counted

    -- The buckets have the one of the next place, as their last.
    record IsReady (grown : List (List (Option (Block T)))) : Type 0 where
      filled : AreFilled 0 grown
      same : all_in grown ≡ all_in buckets
      there : bucket < length grown

    with_next-at : bucket ≡ length buckets → with_next buckets bucket ≡ buckets ++ [] ∷ []
    with_next-at h = grind (arith, eq-eqb _ _ h)

    with_next-else : bucket ≢ length buckets → with_next buckets bucket ≡ buckets
    with_next-else h = grind arith

    ready : IsReady (with_next buckets bucket)
    ready = elim (cases_eq bucket (length buckets)) as (λ _. IsReady (with_next buckets bucket)) [
      | inl same ↦ subst IsReady (sym (with_next-at same)) (record {
        filled = AreFilled-more 0 buckets d.are_filled (let e : capacity (0 + bucket) ≡ capacity (0 + length buckets) = ap (λ k. capacity (0 + k)) same in
            omega (arith, e, at_next, next.begins same, d.counted));
        same = all_in-more buckets;
        there = omega (arith, same, length-append buckets ([] ∷ []));
      })
      | inr other ↦ subst IsReady (sym (with_next-else other)) (record {
        filled = d.are_filled;
        same = refl;
        there = grind (arith, next.most, other);
      })
    ]

    module _ (grown : List (List (Option (Block T)))) (is : grown ≡ with_next buckets bucket) where
      is_ready : IsReady grown
      is_ready = subst IsReady (sym is) ready

      pub next_there : bucket < length grown
      next_there = is_ready.there

      is_last : (bucket + 1 ≡ length grown) × (length (slice_index_or grown bucket []) ≡ index)
      is_last = (is_next 0 grown is_ready.filled count bucket index within_next at_next (d.counted ∙ sym (ap length is_ready.same))).last is_ready.there

      module _ (old : List (Option (Block T))) (was : old ≡ slice_index_or grown bucket old) where
        last_bucket : old ≡ slice_index_or grown bucket []
        last_bucket = was ∙ get_or_default grown bucket old [] is_ready.there

        pub pushed : (new : List (Option (Block T))) (x : Option (Block T)) → new ≡ old ++ x ∷ []
            → all_in (slice_set grown bucket new) ≡ all_in buckets ++ x ∷ []
        pushed new x as_new =
            ap (λ b. all_in (slice_set grown bucket b)) (as_new ∙ ap (λ b. b ++ x ∷ []) last_bucket)
            ∙ all_in-entry grown bucket x is_last.0 ∙ ap (λ bs. bs ++ x ∷ []) is_ready.same

        pub IsDirectory-pushed : (new : List (Option (Block T))) (x : Block T) (more : FreeNumbers) → new ≡ old ++ Some x ∷ []
            → count + 1 < 2 ^ 53 → more.numbers ≡ free.numbers → count + 1 ≤ more.room → IsDirectory (count + 1) (slice_set grown bucket new) more
        IsDirectory-pushed new x more as_new few numbers fit =
            let long = is_last.1 in
            record {
              are_filled =
                  subst (λ b. AreFilled 0 (slice_set grown bucket b)) (sym (as_new ∙ ap (λ b. b ++ Some x ∷ []) last_bucket))
                  (AreFilled-entry 0 grown bucket (Some x) is_ready.filled is_last.0 (omega (arith, long, within_next)));
              counted = omega (arith, d.counted, ap length (pushed new (Some x) as_new), length-append (all_in buckets) (Some x ∷ []));
              kept = rw (pushed new (Some x) as_new) (IsKept-push (all_in buckets) free more x d.kept (omega (arith, d.counted, few)) numbers (omega (arith, d.counted, fit)));
            }

        unchanged : (new : List (Option (Block T))) → new ≡ old → slice_set grown bucket new ≡ grown
        unchanged new as_new = ap (slice_set grown bucket) (as_new ∙ last_bucket) ∙ set-get_or grown bucket []

        pub not_pushed : (new : List (Option (Block T))) → new ≡ old → all_in (slice_set grown bucket new) ≡ all_in buckets
        not_pushed new as_new = ap all_in (unchanged new as_new) ∙ is_ready.same

        pub IsDirectory-not_pushed : (new : List (Option (Block T))) (more : FreeNumbers) → new ≡ old → more.numbers ≡ free.numbers
            → count + 1 ≤ more.room → IsDirectory count (slice_set grown bucket new) more
        IsDirectory-not_pushed new more as_new numbers fit = record {
          are_filled = subst (AreFilled 0) (sym (unchanged new as_new)) is_ready.filled;
          counted = d.counted ∙ sym (ap length (not_pushed new as_new));
          kept = rw (not_pushed new as_new) (IsKept-room (all_in buckets) free more d.kept numbers (omega (arith, d.counted, fit)));
        }

  -- a number is free, or of a block that is there
  pub free_or_held : (n : ℕ) (blocks : List (Option (Block T))) → length (free_from n blocks) + length (values_in blocks) ≡ length blocks
  free_or_held n [] = refl
  free_or_held n (None ∷ rest) = omega (arith, free_or_held (n + 1) rest)
  free_or_held n (Some x ∷ rest) = omega (arith, free_or_held (n + 1) rest)

  -- the values of blocks one after another
  pub values_in-append : (blocks more : List (Option (Block T))) → values_in (blocks ++ more) ≡ values_in blocks ++ values_in more
  values_in-append [] more = refl
  values_in-append (None ∷ rest) more = values_in-append rest more
  values_in-append (Some x ∷ rest) more = ap (λ values. x.value ∷ values) (values_in-append rest more)
