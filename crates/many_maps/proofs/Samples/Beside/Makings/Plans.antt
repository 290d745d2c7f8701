-- Wrong steps of a making: what each leads to is none of what the law says of a step.
use Rattle.std.specs.Prelude.{◌≡◌, ◌⊎◌, ℕ, Bool, Option, Some, None}
use Rattle.std.proofs.Common.{refl, ap, subst, ◌∙◌, inl, inr}
use Rattle.many_calls.specs.Given.SeizeWordsDeclared.at.At.TheVariants.{Used}
use Rattle.many_calls.specs.Given.SeizeWordsDeclared.fault.Fault.{Fault}
use Rattle.many_calls.specs.Given.SeizeWordsMem.{Mem, Took, value_at, word_at}
use Rattle.many_calls.specs.Given.SeizeWordsOp.{Store}
use Rattle.many_calls.specs.Given.SeizeWordsPlan.{Plan, Turn, Do, Now, Steps}
use Rattle.many_calls.proofs.Given.SeizeWordsOneOwner.Operations.{stored}
use Rattle.many_calls.specs.Given.SeizeWorld.{World, with_at}
use Rattle.many_calls.specs.Given.SeizeDeclared.advance.Advance.{Advance}
use Rattle.many_calls.specs.Given.TablesDeclared.node.Node.{Node}
use Rattle.many_calls.specs.Given.TablesDeclared.setting.Setting.{Setting}
use Rattle.many_calls.specs.Given.ResizeNewMap.{goes, refused}
use Rattle.many_calls.specs.Given.ResizeDeclared.new_map.NewMap.{NewMap}
use Rattle.many_calls.specs.Given.ResizeDeclared.new_map.Opening.TheVariants as at
use Rattle.many_maps.specs.Makings.{Beginning, HasTaken, HasMade, PreservesItsOwn, MakingsTogether, MakingOutcome, StepsOfMaking}
use Rattle.many_maps.specs.Maps.{Standing}
use Rattle.many_calls.specs.Together.{UnderWay}
use Rattle.many_maps.proofs.Beside.Makings.Lasts.{taken_root, made_counter}
use Rattle.many_calls.proofs.Together.At.{at_same}

module _ {T : Type 0} where
  -- it takes the root without asking whether it is free
  abbrev takes_blindly : NewMap → Plan T (NewMap × Advance Setting)
  takes_blindly n = Do (Store (Used n.setting.root) 1) (λ out. Now (goes n at.Shards))

  -- it is refused, and keeps its root
  abbrev keeps_its_root : NewMap → Fault → Plan T (NewMap × Advance Setting)
  keeps_its_root n fault = Turn (Now (refused n fault))

  -- it goes on to give its root up, and forgets its counter
  abbrev forgets_its_counter : NewMap → Fault → Plan T (NewMap × Advance Setting)
  forgets_its_counter n fault = Turn (Now (goes n (at.Frees fault)))

module _ {K Q : Type 0} (V : Type 0) (same : K → K → Bool) (asks : Q → K → Bool) (batch_size roots : ℕ) (slot : ℕ → ℕ)
    (w : World (Node K V)) (maps : ℕ → Option (Standing K)) (calls : ℕ → ℕ → Option (UnderWay K V Q)) (makers : ℕ → Option (Beginning K))
    (all : MakingsTogether V same asks batch_size roots slot w maps calls makers) (i : ℕ) (b : Beginning K) (makes : makers i ≡ Some b) (m2 : Mem (Node K V)) (end : NewMap × Advance Setting) where
  -- where a map stands at that root, the making has it, too
  takes_a_maps_root : (m : ℕ) (s : Standing K) → maps m ≡ Some s → b.machine.setting.root ≡ s.setting.root → Steps Took value_at w.memory (takes_blindly b.machine) m2 end
      → StepsOfMaking V same asks batch_size roots slot w maps calls makers i b m2 end → ⊥
  takes_a_maps_root m s here is steps leads =
      let d = stored w.memory (λ out. Now (goes b.machine at.Shards)) (Used b.machine.setting.root) 1 m2 end steps in
      let then' : MakingsTogether V same asks batch_size roots slot leads.w2 maps calls (with_at makers i (Some (record b { machine = record b.machine { stands = at.Shards } }))) =
      subst (MakingOutcome V same asks batch_size roots slot w maps calls makers i b leads.w2) d.1 leads.told in
      then'.roots_apart i m (record b { machine = record b.machine { stands = at.Shards } }) s (at_same makers i _ i refl) here tt is

  -- the root is not free
  root_is_lost : (fault : Fault) → HasTaken b.machine.stands → Steps Took value_at w.memory (keeps_its_root b.machine fault) m2 end
      → StepsOfMaking V same asks batch_size roots slot w maps calls makers i b m2 end → ⊥
  root_is_lost fault taken steps leads =
      let free = (subst (PreservesItsOwn V same asks batch_size roots slot w leads.w2 b.machine) steps.1 leads.keeps).0 taken in
      let one = (taken_root same i w w roots b.machine b.machine.stands taken (all.facts i b makes).point).0 in
      let same_word = ap (λ (x : Mem (Node K V)). word_at x (Used b.machine.setting.root)) (leads.memory ∙ steps.0) in
      let free_there = free.0 in
      cc (one, same_word, free_there)

  -- the counter is neither its own still nor taken away
  counter_is_lost : (fault : Fault) → HasMade b.machine.stands → Steps Took value_at w.memory (forgets_its_counter b.machine fault) m2 end
      → StepsOfMaking V same asks batch_size roots slot w maps calls makers i b m2 end → ⊥
  counter_is_lost fault made steps leads =
      by ((subst (PreservesItsOwn V same asks batch_size roots slot w leads.w2 b.machine) steps.1 leads.keeps).1 made)
    where
      by : (HasMade (at.Frees fault) × (b.machine.setting.counter ≡ b.machine.setting.counter)) ⊎ (value_at leads.w2.memory b.machine.setting.counter ≡ None) → ⊥
      by (inl kept) = kept.0
      by (inr gone) =
          let there = (made_counter same i w w roots b.machine b.machine.stands made (all.facts i b makes).point).value in
          let same_value = ap (λ (x : Mem (Node K V)). value_at x b.machine.setting.counter) (leads.memory ∙ steps.0) in
          cc (there, same_value, gone)
