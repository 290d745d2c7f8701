-- The making of a map may take its steps in a memory without all blocks that its caller does not have.
use Rattle.std.specs.Prelude.{◌≡◌, ℕ, ◌+◌, ◌%◌, ◌^◌, Bool, true, Option, Some, IsSome, ◌⊎◌}
use Rattle.std.specs.Int.{IsPowerOfTwo}
use Rattle.std.proofs.Common.{inl, inr, refl, ap, sym, subst, ◌∙◌}
use Rattle.run_shows.specs.Given.SeizeWordsDeclared.at.At.TheVariants.{Root, Used}
use Rattle.run_shows.specs.Given.SeizeWordsMem.{Mem, Can, Took, value_at, word_at}
use Rattle.run_shows.specs.Given.SeizeWordsPlan.{Now, May}
use Rattle.run_shows.proofs.Given.SeizeWordsOneOwner.Operations.{may_exchange, may_make, may_store, may_take}
use Rattle.run_shows.proofs.Given.SeizeWordsPlans.{as_may}
use Rattle.run_shows.specs.Given.SeizeWorld.{World}
use Rattle.run_shows.specs.Given.TablesDeclared.node.Node.{Node}
use Rattle.run_shows.specs.Given.TablesDeclared.node.Node.TheVariants as node
use Rattle.run_shows.specs.Given.TablesDeclared.setting.Setting.{Setting}
use Rattle.run_shows.specs.Given.ResizeNewMap.{opened, taken, made, goes, refused, plan_at, new_map_plan}
use Rattle.run_shows.specs.Given.ResizeNewTable.{new_table_plan}
use Rattle.run_shows.specs.Given.ResizeDeclared.new_map.Opening.{Opening}
use Rattle.run_shows.specs.Given.ResizeDeclared.new_map.Opening.TheVariants as at
use Rattle.run_shows.specs.Given.RuleInWorld.{IsHeldBy, IsMapIn, PreservesBlocks}
use Rattle.run_shows.specs.Given.RuleRule.{no_table}
use Rattle.owner_facts.proofs.Given.PointsMaking.NewTable.{may_new_table}
use Rattle.owner_facts.specs.Given.CallersTogether.{no_blocks}
use Rattle.owner_facts.proofs.Given.CallersMapBegins.{map_begins}
use Rattle.owner_facts.specs.Given.FinishesMakings.{Beginning, HasRoots, HasOwnCounter, OpeningFacts, MakingFacts}
use Rattle.owner_facts.proofs.Given.FinishesBeside.Makings.Lasts.{new_table_on}
use Rattle.many_acts.specs.Looks.Blocks.{LooksAt, MayMake}
use Rattle.many_acts.specs.Looks.Looks.{MakingsLookAtTheirOwn}
use Rattle.many_acts.proofs.Looks.Held.{has_it, has, is_held}
use Rattle.many_acts.proofs.Looks.Restricted.{restricted, value_kept, word_kept, looks_kept}

there : {X : Type 0} (o : Option X) (x : X) → o ≡ Some x → IsSome o
there {X} o x is = subst (λ (y : Option X). IsSome y) (sym is) refl

module _ {K V : Type 0} (same : K → K → Bool) (batch_size roots : ℕ) (w : World (Node K V)) (i : ℕ) (b : Beginning K) (f : MakingFacts w same batch_size roots i b) (free : HasRoots w roots) where
  abbrev keep : ℕ → Bool
  keep x = has_it i (w.hand x)

  abbrev less : Mem (Node K V)
  less = restricted keep w.memory

  abbrev w2 : World (Node K V)
  w2 = record w { memory = less }

  abbrev its : Setting
  its = b.machine.setting

  own : PreservesBlocks i w.memory w.hand w2.memory w2.hand
  own = record {
    blocks = λ x value is other held. (refl, value_kept keep w.memory x (has i (w.hand x) held) ∙ is);
    words = λ x field value is other making. word_kept keep w.memory x field (has i (w.hand x) (subst (IsHeldBy i) (sym making) refl));
  }

  power : IsPowerOfTwo b.machine.setting.initial
  power = subst IsPowerOfTwo (sym (ap (λ (s : Setting). s.initial) f.setting_is)) f.initial

  -- its counter is there
  counter_kept : HasOwnCounter w i b.machine.setting → keep b.machine.setting.counter ≡ true
  counter_kept h = has i (w.hand b.machine.setting.counter) (subst (IsHeldBy i) (sym h.hand) refl)

  counter_there : HasOwnCounter w i b.machine.setting → value_at less b.machine.setting.counter ≡ Some node.Shards
  counter_there h = value_kept keep w.memory b.machine.setting.counter (counter_kept h) ∙ h.value

  map : word_at w.memory (Root b.machine.setting.root) ≡ Some 0 → HasOwnCounter w i b.machine.setting → IsMapIn same b.hash b.machine.setting w2 no_table no_blocks
  map leads h =
      map_begins same b.hash its w2 leads (counter_there h)
      (λ shard l. let x = h.shards shard l in (x.0, word_kept keep w.memory b.machine.setting.counter shard (counter_kept h) ∙ x.1))

  may_at : (stage : Opening) → OpeningFacts w roots i b.machine stage → May Can Took value_at less (plan_at {K = K} {V = V} b.machine stage)
  may_at at.Takes point = may_exchange less (taken b.machine) (Used b.machine.setting.root) 0 1 (let h = free b.machine.setting.root point in there _ h.0 h.1) (λ x is. tt) (λ x is. tt)
  may_at at.Shards point = may_make less (made b.machine) node.Shards ((b.machine.setting.mask + 1) % 2 ^ 64) (λ x is. tt) (λ back is. tt)
  may_at (at.Tables making) point =
      as_may (opened b.machine) Can Took value_at less (new_table_plan making)
      (may_new_table same b.hash w2 its no_table no_blocks (map point.0.1 point.1) i (Root its.root) 0 power making (new_table_on same i w w2 b.hash its own making point.2))
  may_at (at.Unmakes fault) point =
      may_take less (λ out. Now (goes b.machine (at.Frees fault))) b.machine.setting.counter (there (value_at less b.machine.setting.counter) node.Shards (counter_there point.1)) (λ value is. tt)
  may_at (at.Frees fault) point = may_store less (λ out. Now (refused b.machine fault)) (Used b.machine.setting.root) 0 (there (word_at less (Used b.machine.setting.root)) 1 point.0) tt
  may_at at.Over point = absurd point
  may_at (at.Refused fault) point = absurd point

  pub looks_own : (x : ℕ) → LooksAt x w.memory (new_map_plan {K = K} {V = V} b.machine)
      → (IsSome (value_at w.memory x) × IsHeldBy i (w.hand x)) ⊎ MayMake x w.memory (new_map_plan {K = K} {V = V} b.machine)
  looks_own x looks =
      elim (looks_kept keep w.memory (new_map_plan b.machine) (may_at b.machine.stands f.point) x looks)
      as (λ _. (IsSome (value_at w.memory x) × IsHeldBy i (w.hand x)) ⊎ MayMake x w.memory (new_map_plan {K = K} {V = V} b.machine)) [
        | inl is ↦ inl (is.1, is_held i (w.hand x) is.0)
        | inr makes ↦ inr makes
      ]

module _ {K Q : Type 0} (V : Type 0) (same : K → K → Bool) (asks : Q → K → Bool) (batch_size roots : ℕ) (slot : ℕ → ℕ) where
  pub makings_look : MakingsLookAtTheirOwn V same asks batch_size roots slot
  makings_look w maps calls makers enders all i making is b looks =
      looks_own same batch_size roots w i making (all.makings.facts i making is) all.makings.free b looks
