-- No step of a call writes the root of a map that has one, but the exchange that promotes a table.
use Rattle.std.specs.Prelude.{◌==◌, Option, Some, None}
use Rattle.std.proofs.Common.{◌≡◌, ℕ, Bool, true, false, inl, inr, refl}
use Rattle.map_rule.specs.Given.SeizeWordsMem.{Mem, value_at, Took}
use Rattle.map_rule.specs.Given.SeizeWordsPlan.{Steps}
use Rattle.papaya_raw.specs.Call.{looked, looks_for, makes_of, first_made, next_made, helped, copied, disposed, plan_at as call_plan_at}
use Rattle.papaya_raw.specs.CallFills.{putting_by, fill_by, fills_with, asks_at}
use Rattle.papaya_raw.specs.Replies.{value_for}
use Rattle.map_rule.specs.Given.ResizeCopier.{plan_at as copier_plan_at}
use Rattle.map_rule.specs.Given.ResizeCopierFurther.{grown, remade}
use Rattle.map_rule.specs.Given.ResizeDispose.{plan_at as dispose_plan_at}
use Rattle.map_rule.specs.Given.ResizeLookup.{plan_at as lookup_plan_at, lookup_plan}
use Rattle.map_rule.specs.Given.ResizeNewTable.{counted, plan_at as new_table_plan_at, new_table_plan}
use Rattle.map_rule.specs.Given.ResizeSum.{plan_at as sum_plan_at, sum_plan}
use Rattle.papaya_raw.specs.Given.TablesDeclared.node.Node.{Node}
use Rattle.papaya_raw.specs.declared.machines.answer.Called.{Called}
use Rattle.papaya_raw.specs.declared.machines.asking.Asking.{Asking}
use Rattle.papaya_raw.specs.declared.machines.asking.Asking.TheVariants as asking
use Rattle.papaya_raw.specs.declared.machines.call.KeyCall.{KeyCall}
use Rattle.papaya_raw.specs.declared.machines.call.Calling.{Calling}
use Rattle.papaya_raw.specs.declared.machines.call.Calling.TheVariants as at
use Rattle.map_rule.specs.Given.ResizeDeclared.copier.Copier.{Copier}
use Rattle.map_rule.specs.Given.ResizeDeclared.copier.Copying.{Copying}
use Rattle.map_rule.specs.Given.ResizeDeclared.copier.Copying.TheVariants as copies
use Rattle.map_rule.specs.Given.ResizeDeclared.dispose.Dispose.{Dispose}
use Rattle.map_rule.specs.Given.ResizeDeclared.dispose.Disposing.{Disposing}
use Rattle.map_rule.specs.Given.ResizeDeclared.dispose.Disposing.TheVariants as disposes
use Rattle.map_rule.specs.Given.ResizeDeclared.lookup.Lookup.{Lookup}
use Rattle.map_rule.specs.Given.ResizeDeclared.lookup.Looking.{Looking}
use Rattle.map_rule.specs.Given.ResizeDeclared.lookup.Looking.TheVariants as looks
use Rattle.map_rule.specs.Given.ResizeDeclared.new_table.NewTable.{NewTable}
use Rattle.map_rule.specs.Given.ResizeDeclared.new_table.Making.{Making}
use Rattle.map_rule.specs.Given.ResizeDeclared.new_table.Making.TheVariants as making
use Rattle.map_rule.specs.Given.ResizeDeclared.sum.Sum.{Sum}
use Rattle.map_rule.specs.Given.ResizeDeclared.sum.Summing.{Summing}
use Rattle.map_rule.specs.Given.ResizeDeclared.sum.Summing.TheVariants as sums
use Rattle.map_facts.specs.Told.{IsRowOf, IsRowOfCopier, IsRowOfCall}
use Rattle.map_rule.proofs.World.RootSpared.{PlanSparesRoot, spares_as, RootStays, step_stays}

-- it is to exchange the root
abbrev pub is_promoting : Copying → Bool
is_promoting copies.Promotes = true
is_promoting _ = false

abbrev pub call_is_promoting : Calling → Bool
call_is_promoting (at.Helps copier goal) = is_promoting copier.stands
call_is_promoting (at.Copies copier) = is_promoting copier.stands
call_is_promoting _ = false

module _ (K V : Type 0) where
  spares_sum : (s : Sum) (stands : Summing) → PlanSparesRoot (sum_plan_at {T = Node K V} s stands)
  spares_sum s (sums.Adds shard total) = tt
  spares_sum s (sums.Over count) = tt

  spares_making : (n : NewTable) (stands : Making) → PlanSparesRoot (new_table_plan_at {K = K} {V = V} n stands)
  spares_making n (making.Sums before reason sum) = spares_as (counted n before reason) (sum_plan sum) (spares_sum sum sum.stands)
  spares_making n (making.Makes table) = tt
  spares_making n (making.Promotes table) = tt
  spares_making n (making.Links table) = inr refl
  spares_making n (making.Drops table found) = tt
  spares_making n (making.Over table) = tt
  spares_making n (making.Refused fault) = tt

  spares_lookup : (keys : K → Bool) (l : Lookup) (stands : Looking) → PlanSparesRoot (lookup_plan_at {K = K} {V = V} keys l stands)
  spares_lookup keys l looks.Roots = tt
  spares_lookup keys l (looks.Probes trial) = tt
  spares_lookup keys l (looks.Nexts table) = tt
  spares_lookup keys l (looks.Over found) = tt

  spares_dispose : (d : Dispose) (stands : Disposing) → (IsRowOf stands → ⊥) → PlanSparesRoot (dispose_plan_at {K = K} {V = V} d stands)
  spares_dispose d (disposes.Settles settle) other = absurd (other tt)
  spares_dispose d disposes.Reads other = tt
  spares_dispose d (disposes.Walks table) other = tt
  spares_dispose d (disposes.Defers defer) other = absurd (other tt)
  spares_dispose d disposes.Over other = tt

  pub spares_copier : (hash : K → ℕ) (p : Copier) (stands : Copying) → is_promoting stands ≡ false → (IsRowOfCopier stands → ⊥) → PlanSparesRoot (copier_plan_at {K = K} {V = V} hash p stands)
  spares_copier hash p copies.Begins e other = tt
  spares_copier hash p copies.Follows e other = tt
  spares_copier hash p copies.Asks e other = tt
  spares_copier hash p copies.Sees e other = tt
  spares_copier hash p copies.Claims e other = tt
  spares_copier hash p copies.Marks e other = tt
  spares_copier hash p (copies.Probes word code table probe) e other = tt
  spares_copier hash p (copies.Puts word code table probe) e other = inl tt
  spares_copier hash p (copies.Covers word) e other = tt
  spares_copier hash p (copies.Passes word code table) e other = tt
  spares_copier hash p (copies.Grows word code new) e other = spares_as (grown p word code) (new_table_plan new) (spares_making new new.stands)
  spares_copier hash p copies.Aborts e other = tt
  spares_copier hash p copies.Replaces e other = tt
  spares_copier hash p (copies.Remakes new) e other = spares_as (remade p) (new_table_plan new) (spares_making new new.stands)
  spares_copier hash p copies.Counts e other = tt
  spares_copier hash p (copies.Tallies word fault) e other = tt
  spares_copier hash p (copies.Unmarks word fault) e other = tt
  spares_copier hash p (copies.Unclaims fault) e other = tt
  spares_copier hash p copies.Promotes e other = absurd (cc e)
  spares_copier hash p copies.Announces e other = tt
  spares_copier hash p (copies.Succeeds table) e other = tt
  spares_copier hash p (copies.Retires settle rest) e other = absurd (other tt)
  spares_copier hash p copies.Over e other = tt
  spares_copier hash p (copies.Refused fault) e other = tt

module _ {K V Q : Type 0} (asks : Q → K → Bool) (same : K → K → Bool) (hash : K → ℕ) (p : KeyCall K V Q) where
  spares_makes : (node : Option (Node K V)) → PlanSparesRoot (makes_of p node)
  spares_makes (Some node) = tt
  spares_makes None = tt

  spares_looks : (l : Lookup) (asked : Option Q) → PlanSparesRoot (looks_for asks p l asked)
  spares_looks l (Some q) = spares_as (looked p) (lookup_plan (asks q) l) (spares_lookup K V (asks q) l l.stands)
  spares_looks l None = tt

  spares_asks : (stands : Asking) → PlanSparesRoot (asks_at p stands)
  spares_asks (asking.Absent gap) = tt
  spares_asks (asking.Present word) = tt
  spares_asks (asking.GivesUp word) = tt
  spares_asks (asking.Fills word) = by p.replies.key
    where
      puts : (b : Bool) (q : KeyCall K V Q) (key : K) (value : V) → PlanSparesRoot (putting_by b q word key value)
      puts true q key value = tt
      puts false q key value = tt

      fill : (told : Option V) (q : KeyCall K V Q) (key : K) → PlanSparesRoot (fill_by told q word key)
      fill (Some value) q key = puts (q.own == 0) _ key value
      fill None q key = tt

      by : (key : Option K) → PlanSparesRoot (fills_with key p word)
      by (Some key) = fill (value_for p.replies word) _ key
      by None = tt

  pub spares_call : (stands : Calling) → call_is_promoting stands ≡ false → (IsRowOfCall stands → ⊥) → PlanSparesRoot (call_plan_at asks same hash p stands)
  spares_call at.Makes e other = spares_makes p.unmade
  spares_call (at.Looks l) e other = spares_looks l p.asked
  spares_call at.Roots e other = tt
  spares_call at.Probes e other = tt
  spares_call (at.Tries word new) e other = inl tt
  spares_call (at.Counts removed) e other = tt
  spares_call at.Nexts e other = tt
  spares_call (at.Firsts new) e other = spares_as (first_made p) (new_table_plan new) (spares_making K V new new.stands)
  spares_call (at.Allocs new) e other = spares_as (next_made p) (new_table_plan new) (spares_making K V new new.stands)
  spares_call (at.Helps copier goal) e other = spares_as (helped p goal) (copier_plan_at hash copier copier.stands) (spares_copier K V hash copier copier.stands e other)
  spares_call (at.Copies copier) e other = spares_as (copied p) (copier_plan_at hash copier copier.stands) (spares_copier K V hash copier copier.stands e other)
  spares_call (at.Asks stands) e other = spares_asks stands
  spares_call (at.Disposes d answer) e other = spares_as (disposed p answer) (dispose_plan_at d d.stands) (spares_dispose K V d d.stands other)
  spares_call (at.Drops over) e other = tt
  spares_call (at.Over over) e other = tt

  -- a step of a call, but that one
  pub root_stays : (stands : Calling) → call_is_promoting stands ≡ false → (IsRowOfCall stands → ⊥) → (m m2 : Mem (Node K V)) (end : KeyCall K V Q × Called (Node K V))
      → Steps Took value_at m (call_plan_at asks same hash p stands) m2 end → (root : ℕ) → RootStays root m m2
  root_stays stands e other m m2 end s root = step_stays root m (call_plan_at asks same hash p stands) m2 end (spares_call stands e other) s
