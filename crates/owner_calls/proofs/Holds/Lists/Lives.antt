-- What was ever stored is in the map, waits, or was given back.
use Rattle.std.specs.Prelude.{List, [], ◌++◌, IsPermutation}
use Rattle.std.proofs.Common.{sym, subst}
use Rattle.std.proofs.lemmas.List.{append_assoc}
use Rattle.std.proofs.lemmas.List.Sorted.{IsPermutation-refl, IsPermutation-trans, IsPermutation-append_left, IsPermutation-append_right}
use Rattle.seize_words.specs.OneMemory.Mem.{Mem}
use Rattle.map_tables.specs.declared.node.Node.{Node}
use Rattle.owner_calls.specs.Holds.Balances.{Balances}
use Rattle.owner_calls.specs.Holds.Lives.{Lives, made, changed, called, LivesBalance}
use Rattle.owner_calls.proofs.Holds.Lists.Balance.{what_leaves_balances, answers_balance}

-- one change after another
module _ {X : Type 0} (stored before new now now2 given given2 : List X) where
  pub both_balance : IsPermutation (stored ++ before) (now ++ given) → IsPermutation (new ++ now) (now2 ++ given2) → IsPermutation ((new ++ stored) ++ before) (now2 ++ (given2 ++ given))
  both_balance first later =
      subst (λ (l : List X). IsPermutation l (now2 ++ (given2 ++ given))) (sym (append_assoc new stored before))
      (IsPermutation-trans (new ++ (stored ++ before)) (new ++ (now ++ given)) (now2 ++ (given2 ++ given)) (IsPermutation-append_right new (stored ++ before) (now ++ given) first)
      (subst (λ (l : List X). IsPermutation l (now2 ++ (given2 ++ given))) (append_assoc new now given)
      (subst (IsPermutation ((new ++ now) ++ given)) (append_assoc now2 given2 given) (IsPermutation-append_left given (new ++ now) (now2 ++ given2) later))))

pub lives_balance : (K V : Type 0) → LivesBalance K V
lives_balance K V same hash setting m stored xs lives = by m stored xs lives
  where
    by : (m : Mem (Node K V)) (stored xs : List (K × V)) → Lives same hash setting m stored xs → Balances m [] stored xs
    by _ _ _ (made m none holds) = ([], [], ([], tt, λ b x there. absurd (none b x there)), IsPermutation-refl [])
    by _ _ _ (changed m stored xs lives m2 ys none holds) =
        let first = by m stored xs lives in
        let later = what_leaves_balances K V m m2 (xs ++ first.0) first.2 none same hash setting ys holds in
        (later.0, later.1 ++ first.1, later.2, both_balance stored [] [] (xs ++ first.0) (ys ++ later.0) first.1 later.1 first.3 later.3)
    by _ _ _ (called m stored xs lives m2 answer came new has ys holds) =
        let first = by m stored xs lives in
        let later = answers_balance K V m m2 (xs ++ first.0) first.2 answer came new has same hash setting ys holds in
        (later.0, later.1 ++ first.1, later.2, both_balance stored [] new (xs ++ first.0) (ys ++ later.0) first.1 later.1 first.3 later.3)
