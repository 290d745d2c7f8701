-- The shards of a map that begins: they say nothing until it has begun, and then that it has no pairs.
use Rattle.std.specs.Prelude.{◌==◌, ◌-◌, nat_lt, if◌then◌else◌}
use Rattle.std.proofs.Common.{◌≡◌, ℕ, suc, ◌+◌, ◌%◌, ◌^◌, ◌<◌, ◌≤◌, Bool, true, false, Some, Ok, inl, inr, refl, arith, ap, sym, subst, ◌∙◌}
use Rattle.std.proofs.lemmas.Bool.{eq-eqb}
use Rattle.many_maps.specs.Given.SeizeWordsDeclared.at.At.TheVariants.{Root, Used, Word}
use Rattle.many_maps.specs.Given.SeizeWordsDeclared.fault.Fault.TheVariants.{RootsUsedUp, Memory}
use Rattle.many_maps.specs.Given.SeizeWordsOp.{Make, Made}
use Rattle.many_maps.specs.Given.SeizeWordsMem.{Mem, Can, Took, value_at, word_at, word_in, block_of, IsFreeNumber, fresh, after}
use Rattle.many_maps.specs.Given.SeizeWordsPlan.{Now, May, Steps}
use Rattle.many_maps.proofs.Given.SeizeWordsOneOwner.AfterWrites.{block_of-made}
use Rattle.many_maps.proofs.Given.SeizeWordsOneOwner.Operations.{exchanged, stored, made as make_made, taken}
use Rattle.many_maps.proofs.Given.SeizeWordsPlans.{may_as}
use Rattle.many_maps.proofs.Given.SeizeRuleRows.Leaving.{steps_back}
use Rattle.many_maps.specs.Given.SeizeWorld.{World}
use Rattle.many_maps.specs.Given.SeizeDeclared.advance.Advance.{Advance}
use Rattle.many_maps.specs.Given.SeizeDeclared.advance.Advance.TheVariants as progress
use Rattle.many_maps.specs.Given.ResizeNewMap.{at_root, with_counter, next_root, taken as root_taken, with_shards, made, opened, refused, done, goes, plan_at, new_map_plan}
use Rattle.many_maps.specs.Given.ResizeNewTable.{first_table, new_table_plan}
use Rattle.many_maps.specs.Given.TablesDeclared.node.Node.{Node}
use Rattle.many_maps.specs.Given.TablesDeclared.node.Node.TheVariants as node
use Rattle.many_maps.specs.Given.TablesDeclared.setting.Setting.{Setting}
use Rattle.many_maps.specs.Given.TablesDeclared.table.Table.{Table}
use Rattle.many_maps.specs.Given.ResizeDeclared.new_map.NewMap.{NewMap}
use Rattle.many_maps.specs.Given.ResizeDeclared.new_map.Opening.{Opening}
use Rattle.many_maps.specs.Given.ResizeDeclared.new_map.Opening.TheVariants as at
use Rattle.many_maps.specs.Given.ResizeDeclared.new_table.NewTable.{NewTable}
use Rattle.many_maps.specs.Given.RuleChart.{Chart}
use Rattle.many_maps.specs.Given.RuleRule.{no_table}
use Rattle.many_maps.proofs.Given.PointsMaking.OwnTables.{zero_at}
use Rattle.many_maps.proofs.Given.RuleMoves.Totals.{total_none}
use Rattle.owner_facts.specs.Alone.Counting.{number_in, one_if, pairs_in, shards_sum, IsCounted}
use Rattle.owner_facts.specs.Maps.FactsBegins.{OpeningFacts, BeginFacts}
use Rattle.owner_facts.specs.Maps.AloneBegins.{IsUncounted, UncountedAt}
use Rattle.owner_facts.proofs.Alone.Spared.Shards.{counter_apart, shard_stays}
use Rattle.owner_facts.proofs.Alone.Spared.Calls.{new_table_spares}

-- the shards say that there is no pair
no_count : (s p : ℕ) → s ≡ 0 → p ≡ 0 → s % 2 ^ 64 ≡ p
no_count s p e k = omega (arith, e, k)

pub uncounted_none : {K T : Type 0} (setting : Setting) (m : Mem T) (c : Chart K) → IsUncounted m setting → ((n : ℕ) → c.current n ≡ false) → IsCounted setting m c
uncounted_none setting m c none empty =
    no_count (shards_sum m setting.counter (suc setting.mask)) (pairs_in c)
    (total_none number_in (λ shard. word_at m (Word setting.counter shard)) (suc setting.mask) (λ shard l. ap number_in (none shard (omega (arith, l)))))
    (total_none one_if c.current c.stored (λ n l. ap one_if (empty n)))

module _ {K V : Type 0} (m2 : Mem (Node K V)) where
  -- the shards after a step
  abbrev pub UncountedTo : NewMap × Advance Setting → Type 0
  UncountedTo (n, progress.Goes) = UncountedAt m2 n.setting n.stands
  UncountedTo (n, progress.Waits) = Unit {0}
  UncountedTo (n, progress.Done begun) = IsUncounted m2 n.setting
  UncountedTo (n, progress.Refused fault) = Unit {0}

  with_shards_uncounted : (n : NewMap) → IsUncounted m2 n.setting → UncountedTo (with_shards n)
  with_shards_uncounted n h = by (n.len == 0)
    where
      by : (b : Bool) → UncountedTo (if b then done n else goes n (at.Tables (first_table n.setting n.len)))
      by true = h
      by false = h

  next_uncounted : (n : NewMap) → n.stands ≡ at.Takes → UncountedTo (next_root n)
  next_uncounted n here = by (nat_lt n.setting.root (n.roots - 1))
    where
      by : (b : Bool) → UncountedTo (if b then (record n { setting = at_root n.setting (n.setting.root + 1) }, progress.Goes) else refused n RootsUsedUp)
      by true = subst (UncountedAt m2 (at_root n.setting (n.setting.root + 1))) (sym here) tt
      by false = tt

  opened_uncounted : (n : NewMap) (b : NewTable × Advance Table) → IsUncounted m2 n.setting → UncountedTo (opened n b)
  opened_uncounted n (making, progress.Goes) h = h
  opened_uncounted n (making, progress.Waits) h = tt
  opened_uncounted n (making, progress.Done table) h = h
  opened_uncounted n (making, progress.Refused fault) h = tt

module _ {K V : Type 0} (same : K → K → Bool) (hash : K → ℕ) (setting : Setting) (mask_fits : setting.mask + 1 < 2 ^ 64) (w : World (Node K V)) (n : NewMap) (facts : BeginFacts same hash 0 w setting n)
    (m2 : Mem (Node K V)) (end : NewMap × Advance Setting) where
  on_as : (other : NewMap × Advance Setting) → end ≡ other → UncountedTo m2 other → UncountedTo m2 end
  on_as other is h = subst (UncountedTo m2) (sym is) h

  -- shards that are made are 0
  made_uncounted : (b : ℕ) → IsFreeNumber w.memory b → m2 ≡ after w.memory (Make node.Shards ((n.setting.mask + 1) % 2 ^ 64)) (Made (Ok b)) → IsUncounted m2 (with_counter n.setting b)
  made_uncounted b number memory shard l =
      ap (λ (x : Mem (Node K V)). word_at x (Word b shard)) memory
      ∙ ap (λ o. word_in o shard) (block_of-made w.memory node.Shards ((n.setting.mask + 1) % 2 ^ 64) b b number
      ∙ ap (λ (q : Bool). if q then Some (fresh node.Shards ((n.setting.mask + 1) % 2 ^ 64)) else block_of w.memory b) (eq-eqb b b refl))
      ∙ zero_at ((n.setting.mask + 1) % 2 ^ 64) shard (below n.setting.mask (ap (λ (s : Setting). s.mask) facts.setting_is) l)
    where
      below : (mask : ℕ) → mask ≡ setting.mask → shard ≤ mask → shard < (mask + 1) % 2 ^ 64
      below mask e low = omega (arith, mask_fits, e, low)

  -- a step of the making of a first table leaves them
  table_uncounted : (making : NewTable) → OpeningFacts same hash 0 w setting n (at.Tables making) → IsUncounted w.memory n.setting → (b : NewTable × Advance Table)
      → May Can Took value_at w.memory (new_table_plan making) → Steps Took value_at w.memory (new_table_plan making) m2 b → IsUncounted m2 n.setting
  table_uncounted making f h b may st shard l =
      shard_stays same hash w n.setting no_table f.2 f.3 (new_table_plan making) may m2 b st shard (omega (arith, l))
      (new_table_spares same hash w 0 n.setting no_table f.2 (Word n.setting.counter shard) f.3 (counter_apart same hash w n.setting no_table f.2 f.3 0 shard) (Root n.setting.root) 0 making f.4 (λ table e. refl))
      ∙ h shard l

  uncounted_at : (stage : Opening) → n.stands ≡ stage → OpeningFacts same hash 0 w setting n stage → UncountedAt w.memory n.setting stage → May Can Took value_at w.memory (plan_at n stage)
      → Steps Took value_at w.memory (plan_at n stage) m2 end → UncountedTo m2 end
  uncounted_at at.Takes here f h may s =
      elim (exchanged w.memory (root_taken n) (Used n.setting.root) 0 1 m2 end s) as (λ _. UncountedTo m2 end) [
        | inl d ↦ on_as (goes n at.Shards) d.3 tt
        | inr d ↦ on_as (next_root n) d.3 (next_uncounted m2 n here)
      ]
  uncounted_at at.Shards here f h may s =
      elim (make_made w.memory (made n) node.Shards ((n.setting.mask + 1) % 2 ^ 64) m2 end s) as (λ _. UncountedTo m2 end) [
        | inl d ↦ on_as _ d.3 (with_shards_uncounted m2 (record n { setting = with_counter n.setting d.0 }) (made_uncounted d.0 d.1.0 d.2))
        | inr d ↦ on_as (goes n (at.Frees Memory)) d.3 tt
      ]
  uncounted_at (at.Tables making) here f h may s =
      let b = steps_back (opened n) w.memory m2 (new_table_plan making) end s in
      on_as (opened n b.0) b.2 (opened_uncounted m2 n b.0 (table_uncounted making f h b.0 (may_as (opened n) Can Took value_at w.memory (new_table_plan making) may) b.1))
  uncounted_at (at.Unmakes fault) here f h may s = let d = taken w.memory (λ out. Now (goes n (at.Frees fault))) n.setting.counter m2 end s in on_as (goes n (at.Frees fault)) d.3 tt
  uncounted_at (at.Frees fault) here f h may s = let d = stored w.memory (λ out. Now (refused n fault)) (Used n.setting.root) 0 m2 end s in on_as (refused n fault) d.1 tt
  uncounted_at at.Over here f h may s = on_as (n, progress.Done n.setting) s.1 (subst (λ (m : Mem (Node K V)). IsUncounted m n.setting) (sym s.0) h)
  uncounted_at (at.Refused fault) here f h may s = on_as (n, progress.Refused fault) s.1 tt

  pub opens_uncounted : UncountedAt w.memory n.setting n.stands → May Can Took value_at w.memory (new_map_plan n) → Steps Took value_at w.memory (new_map_plan n) m2 end → UncountedTo m2 end
  opens_uncounted h may s = uncounted_at n.stands refl facts.point h may s
