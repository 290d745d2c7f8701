-- A call always has as many numbers.
use Rattle.std.proofs.Common.{◌≡◌, ℕ, suc, ◌+◌, List, [], ◌∷◌, length, refl, ap, ◌∙◌, length-append}
use Rattle.many_calls.specs.Given.RawDeclared.machines.asking.Asking.{Asking}
use Rattle.many_calls.specs.Given.RawDeclared.machines.asking.Asking.TheVariants as asking
use Rattle.many_calls.specs.Given.RawDeclared.machines.call.KeyCall.{KeyCall}
use Rattle.many_calls.specs.Given.RawDeclared.machines.call.Calling.{Calling}
use Rattle.many_calls.specs.Given.RawDeclared.machines.call.Calling.TheVariants as at
use Rattle.map_machines.specs.declared.copier.Copier.{Copier}
use Rattle.map_machines.specs.declared.copier.Copying.{Copying}
use Rattle.map_machines.specs.declared.copier.Copying.TheVariants as copies
use Rattle.map_machines.specs.declared.dispose.Disposing.{Disposing}
use Rattle.map_machines.specs.declared.dispose.Disposing.TheVariants as disposes
use Rattle.map_machines.specs.declared.lookup.Looking.{Looking}
use Rattle.map_machines.specs.declared.lookup.Looking.TheVariants as looks
use Rattle.many_calls.specs.Given.RuleChart.{Chart}
use Rattle.many_calls.specs.Given.RuleWords.{Blocks}
use Rattle.many_calls.proofs.Given.PointsMaking.EndsNewTable.{new_table_numbers}
use Rattle.many_calls.specs.Given.PointsMeasuresDisposes.{number_at_disposing}
use Rattle.many_calls.specs.Given.PointsMeasuresLooks.{number_at_looking}
use Rattle.map_measures.specs.Falls.Copies.{number_at as incremental_at}
use Rattle.map_measures.specs.Falls.CopiesBlocking.{number_at as blocking_at}
use Rattle.map_measures.specs.Falls.Calls.{one_of_eight, two_of_eight, number_at_asking, number_at}
use Rattle.map_measures.specs.Falls.Falls.{NumbersAreAsMany}

-- the machines within it
one_eight : (xs : List ℕ) → length xs ≡ 1 → length (one_of_eight xs) ≡ 8
one_eight xs one = length-append xs (0 ∷ 0 ∷ 0 ∷ 0 ∷ 0 ∷ 0 ∷ 0 ∷ []) ∙ ap (λ n. n + 7) one

two_eight : (xs : List ℕ) → length xs ≡ 2 → length (two_of_eight xs) ≡ 8
two_eight xs two = length-append xs (0 ∷ 0 ∷ 0 ∷ 0 ∷ 0 ∷ 0 ∷ []) ∙ ap (λ n. n + 6) two

module _ {K : Type 0} (c : Chart K) (blocks : Blocks) where
  looking_two : (stands : Looking) → length (number_at_looking c stands) ≡ 2
  looking_two looks.Roots = refl
  looking_two (looks.Probes trial) = refl
  looking_two (looks.Nexts table) = refl
  looking_two (looks.Over found) = refl

  disposing_one : (turn : ℕ) (stands : Disposing) → length (number_at_disposing c blocks turn stands) ≡ 1
  disposing_one turn disposes.Reads = refl
  disposing_one turn (disposes.Walks link) = refl
  disposing_one turn (disposes.Settles settle) = refl
  disposing_one turn (disposes.Defers defer) = refl
  disposing_one turn disposes.Over = refl

  incremental_eight : (p : Copier) (stands : Copying) → length (incremental_at c blocks p stands) ≡ 8
  incremental_eight p copies.Begins = refl
  incremental_eight p copies.Follows = refl
  incremental_eight p copies.Asks = refl
  incremental_eight p copies.Sees = refl
  incremental_eight p copies.Claims = refl
  incremental_eight p copies.Marks = refl
  incremental_eight p (copies.Probes word code table probe) = refl
  incremental_eight p (copies.Puts word code table probe) = refl
  incremental_eight p (copies.Covers word) = refl
  incremental_eight p (copies.Passes word code table) = refl
  incremental_eight p (copies.Grows word code making) = ap (λ (n : ℕ). suc (suc (suc (suc (suc (suc n)))))) (new_table_numbers making)
  incremental_eight p copies.Aborts = refl
  incremental_eight p copies.Replaces = refl
  incremental_eight p (copies.Remakes making) = refl
  incremental_eight p copies.Counts = refl
  incremental_eight p (copies.Tallies word fault) = refl
  incremental_eight p (copies.Unmarks word fault) = refl
  incremental_eight p (copies.Unclaims fault) = refl
  incremental_eight p copies.Promotes = refl
  incremental_eight p copies.Announces = refl
  incremental_eight p (copies.Succeeds link) = refl
  incremental_eight p (copies.Retires settle rest) = refl
  incremental_eight p copies.Over = refl
  incremental_eight p (copies.Refused fault) = refl

  blocking_eight : (p : Copier) (stands : Copying) → length (blocking_at c blocks p stands) ≡ 8
  blocking_eight p copies.Begins = refl
  blocking_eight p copies.Follows = refl
  blocking_eight p copies.Asks = refl
  blocking_eight p copies.Sees = refl
  blocking_eight p copies.Claims = refl
  blocking_eight p copies.Marks = refl
  blocking_eight p (copies.Probes word code table probe) = refl
  blocking_eight p (copies.Puts word code table probe) = refl
  blocking_eight p (copies.Covers word) = refl
  blocking_eight p (copies.Passes word code table) = refl
  blocking_eight p (copies.Grows word code making) = refl
  blocking_eight p copies.Aborts = refl
  blocking_eight p copies.Replaces = refl
  blocking_eight p (copies.Remakes making) = ap (λ (n : ℕ). suc (suc (suc (suc (suc (suc n)))))) (new_table_numbers making)
  blocking_eight p copies.Counts = refl
  blocking_eight p (copies.Tallies word fault) = refl
  blocking_eight p (copies.Unmarks word fault) = refl
  blocking_eight p (copies.Unclaims fault) = refl
  blocking_eight p copies.Promotes = refl
  blocking_eight p copies.Announces = refl
  blocking_eight p (copies.Succeeds link) = refl
  blocking_eight p (copies.Retires settle rest) = refl
  blocking_eight p copies.Over = refl
  blocking_eight p (copies.Refused fault) = refl

-- and six before
six_more : (xs : List ℕ) → length xs ≡ 8 → suc (suc (suc (suc (suc (suc (length xs)))))) ≡ 14
six_more xs eight = ap (λ (n : ℕ). suc (suc (suc (suc (suc (suc n)))))) eight

module _ {K V Q : Type 0} (hash : K → ℕ) (c : Chart K) (blocks : Blocks) (p : KeyCall K V Q) where
  asking_many : (asks_at : Asking) → length (number_at_asking hash c blocks p asks_at) ≡ 14
  asking_many (asking.Absent gap) = refl
  asking_many (asking.Present word) = refl
  asking_many (asking.Fills word) = refl
  asking_many (asking.GivesUp word) = refl

  as_many : (stands : Calling) → length (number_at hash c blocks p stands) ≡ 14
  as_many at.Makes = refl
  as_many (at.Looks lookup) = six_more _ (two_eight (number_at_looking c lookup.stands) (looking_two c blocks lookup.stands))
  as_many at.Roots = refl
  as_many at.Probes = refl
  as_many (at.Tries word new) = refl
  as_many at.Nexts = refl
  as_many (at.Firsts making) = six_more _ (two_eight _ (new_table_numbers making))
  as_many (at.Allocs making) = six_more _ (two_eight _ (new_table_numbers making))
  as_many (at.Helps copier goal) = six_more _ (incremental_eight c blocks copier copier.stands)
  as_many (at.Copies copier) = six_more _ (blocking_eight c blocks copier copier.stands)
  as_many (at.Counts removed) = refl
  as_many (at.Disposes dispose answer) = six_more _ (one_eight (number_at_disposing c blocks dispose.table.turn dispose.stands) (disposing_one c blocks dispose.table.turn dispose.stands))
  as_many (at.Asks asks_at) = asking_many asks_at
  as_many (at.Drops end) = refl
  as_many (at.Over end) = refl

pub numbers_are_as_many : {K V Q : Type 0} → NumbersAreAsMany K V Q
numbers_are_as_many hash c blocks p = as_many hash c blocks p p.stands
