-- What a call may not change, or leave so, by what it was told, in any map: it was begun with key 7, and asked about pair 3, in whose place pair 4 may
-- have come.
use Rattle.std.specs.Prelude.{◌≢◌, Bool, List, ◌∷◌, [], Some, None}
use Rattle.std.proofs.Common.{◌≡◌, ℕ, inl, inr, refl, arith}
use Rattle.seize_model.specs.Given.SeizeWordsMem.{Mem, value_at}
use Rattle.map_facts_late.specs.Given.TablesDeclared.node.Node.{Node}
use Rattle.map_facts_late.specs.Given.TablesDeclared.node.Node.TheVariants as node
use Rattle.map_facts_late.specs.Given.RawDeclared.machines.answer.KeyAnswer.TheVariants as answers
use Rattle.map_facts_late.specs.Given.RawDeclared.machines.asking.MachineReply.{MachineReply}
use Rattle.map_facts_late.specs.Given.RawDeclared.machines.asking.MachineReply.TheVariants as reply
use Rattle.map_facts_late.specs.Given.RuleChart.{Still, Holds, Chart}
use Rattle.map_facts_late.specs.Given.RuleWords.{Blocks, place_word}
use Rattle.map_facts_late.specs.Given.PointsFactsCalls.{Change, Stored, Replaced, Removed}
use Rattle.many_calls.specs.Asked.{Asked, IsThere, ChangesAsReplied, AnswersAsReplied}
use Rattle.many_calls.specs.Kind.{Kind, computes, updates, updates_or_inserts, tries_to_insert, tries_to_insert_with, removes_if}
use Rattle.many_calls.specs.Pairs.{Begun, IsTold, AsksFirst, HandsBack}

-- a call that was begun with one pair hands another one back
hands_another_back : (a b : ℕ) → a ≢ b → HandsBack {K = ℕ} {V = ℕ} (Begun tries_to_insert (Some (node.Pair 7 a))) (node.Pair 7 b) → ⊥
hands_another_back a b other back = other (cc back)

module _ (m : Mem (Node ℕ ℕ)) (c : Chart ℕ) (blocks : Blocks) where
  abbrev Told : List (Asked ℕ) → Change → Type 0
  Told = ChangesAsReplied (λ k. k) m c blocks (Some 7)

  abbrev of_pair : MachineReply ℕ → Asked ℕ
  of_pair told = record { about = Some 3; told = told }

  abbrev of_none : MachineReply ℕ → Asked ℕ
  of_none told = record { about = None; told = told }

  -- it was told to remove pair 3, and did so
  removes_it : Told (of_pair reply.Remove ∷ []) (Removed 3)
  removes_it = inl refl

  -- and has removed pair 4
  removes_another : Told (of_pair reply.Remove ∷ []) (Removed 4) → ⊥
  removes_another told = elim told as (λ _. ⊥) [
    | inl e ↦ cc e
    | inr e ↦ cc e
  ]

  -- it was told last not to remove the pair
  removes_after_all : Told (of_pair reply.No ∷ of_pair reply.Yes ∷ []) (Removed 3) → ⊥
  removes_after_all told = elim told as (λ _. ⊥) [
    | inl e ↦ cc e
    | inr e ↦ cc e
  ]

  -- it was told 70 for a missing key, and 80 for pair 3, and has put 70 in the place of that pair
  stores_for_another : value_at m (blocks.pair 4) ≡ Some (node.Pair 7 70) → Told (of_pair (reply.Insert 80) ∷ of_none (reply.Insert 70) ∷ []) (Replaced 3 4) → ⊥
  stores_for_another there (known, (key, value, is, its, told)) = let a : 70 ≡ value = cc (there, is) in let b : 80 ≡ value = cc told in omega (arith, a, b)

  -- or 80 where the key was missing
  stores_for_none : value_at m (blocks.pair 4) ≡ Some (node.Pair 7 80) → Told (of_pair (reply.Insert 80) ∷ of_none (reply.Insert 70) ∷ []) (Stored 4) → ⊥
  stores_for_none there (known, (key, value, is, its, told)) = let a : 80 ≡ value = cc (there, is) in let b : 70 ≡ value = cc told in omega (arith, a, b)

  -- it stores a pair, and was told nothing of a missing key
  stores_untold : Told (of_pair (reply.Insert 80) ∷ []) (Stored 4) → ⊥
  stores_untold (known, (key, value, is, its, told)) = cc told

  -- it has put the value under another key
  stores_elsewhere : value_at m (blocks.pair 4) ≡ Some (node.Pair 8 70) → Told (of_none (reply.Insert 70) ∷ []) (Stored 4) → ⊥
  stores_elsewhere there (known, (key, value, is, its, told)) = let a : 8 ≡ key = cc (there, is) in let b : 7 ≡ key = cc its in omega (arith, a, b)

  -- it asks again about a pair, or for none, where it was told what to do there
  asks_pair_again : AsksFirst {K = ℕ} (IsTold computes (Some 7) (of_none (reply.Insert 70) ∷ of_pair (reply.Insert 80) ∷ [])) (Some 3) → ⊥
  asks_pair_again first = cc first

  asks_none_again : AsksFirst {K = ℕ} (IsTold computes (Some 7) (of_pair (reply.Insert 80) ∷ of_none (reply.Insert 70) ∷ [])) None → ⊥
  asks_none_again first = cc first

  -- an answer that it has found pair 3, or that its key is missing
  abbrev Finds : Kind → Bool → List (Asked ℕ) → Type 0
  Finds kind borrowed asked = AnswersAsReplied (λ k. k) m c blocks (Some 7) asked kind (answers.Found (place_word (λ k. k) c blocks (Holds 3 Still borrowed)))

  abbrev Misses : Kind → List (Asked ℕ) → Type 0
  Misses kind asked = AnswersAsReplied (λ k. k) m c blocks (Some 7) asked kind answers.Absent

  abbrev IsKnown : Type 0
  IsKnown = IsThere (λ k. k) m c blocks (Some 7) [] 3

  -- it was told to abort where its key is missing, and answers that it is
  misses_it : Misses computes (of_none reply.Abort ∷ of_pair (reply.Insert 80) ∷ [])
  misses_it = refl

  -- it was told to abort of pair 3 alone
  misses_untold : Misses computes (of_pair reply.Abort ∷ of_none (reply.Insert 70) ∷ []) → ⊥
  misses_untold told = cc told

  -- it was to store a value, by an update that stores one where the key is missing
  misses_what_it_stores : Misses updates_or_inserts (of_none (reply.Insert 70) ∷ []) → ⊥
  misses_what_it_stores told = told

  -- an update that stores none there was told nothing of that
  misses_unasked : Misses updates (of_pair (reply.Insert 80) ∷ [])
  misses_unasked = refl

  misses_though_told : Misses updates (of_none (reply.Insert 70) ∷ []) → ⊥
  misses_though_told told = cc told

  module _ (known : IsKnown) (borrowed : Bool) where
    -- it was told 80 for pair 3, and leaves that so
    leaves_what_it_replaces : Finds computes borrowed (of_pair (reply.Insert 80) ∷ of_none reply.Abort ∷ []) → ⊥
    leaves_what_it_replaces told = let e = told 3 known Still borrowed refl in cc e

    -- it was told nothing of it
    leaves_untold : Finds computes borrowed [] → ⊥
    leaves_untold told = let e = told 3 known Still borrowed refl in cc e

    -- it was told last to remove the pair
    leaves_what_it_removes : Finds removes_if borrowed (of_pair reply.Yes ∷ of_pair reply.No ∷ []) → ⊥
    leaves_what_it_removes told = let e = told 3 known Still borrowed refl in cc e

    -- no update leaves a pair
    leaves_what_it_updates : Finds updates borrowed (of_pair (reply.Insert 80) ∷ []) → ⊥
    leaves_what_it_updates told = told 3 known Still borrowed refl

    -- one that asks only where its key is missing was told nothing of the pair
    leaves_asked : Finds tries_to_insert_with borrowed (of_pair (reply.Insert 80) ∷ []) → ⊥
    leaves_asked told = let e = told 3 known Still borrowed refl in cc e
