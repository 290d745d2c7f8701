-- A step of a machine that looks changes nothing, and leads to one that looks.
use Rattle.std.specs.Prelude.{◌≡◌, ℕ, Bool, Option, Some, None}
use Rattle.std.proofs.Common.{refl, sym, subst}
use Rattle.run_debts.specs.Given.SeizeWordsMem.{Mem}
use Rattle.run_debts.specs.Given.SeizeDeclared.advance.Advance.{Advance as Counting}
use Rattle.run_debts.specs.Given.SeizeDeclared.advance.Advance.TheVariants as counting
use Rattle.run_debts.specs.Given.TablesDeclared.node.Node.{Node}
use Rattle.owner_calls.specs.Given.ResizeLookup.{lookup_plan}
use Rattle.owner_calls.specs.Given.ResizeLookup as lookups
use Rattle.owner_calls.specs.Given.ResizeSum.{sum_plan}
use Rattle.owner_calls.specs.Given.ResizeSum as sums
use Rattle.owner_calls.specs.Given.ResizeDeclared.lookup.Lookup.{Lookup}
use Rattle.owner_calls.specs.Given.ResizeDeclared.lookup.Looking.{Looking}
use Rattle.owner_calls.specs.Given.ResizeDeclared.lookup.Looking.TheVariants as looks
use Rattle.owner_calls.specs.Given.ResizeDeclared.sum.Sum.{Sum}
use Rattle.owner_calls.specs.Given.ResizeDeclared.sum.Summing.{Summing}
use Rattle.owner_calls.specs.Given.ResizeDeclared.sum.Summing.TheVariants as summing
use Rattle.owner_calls.specs.Given.RawCall.{call_plan, looked, looks_for}
use Rattle.owner_calls.specs.Given.RawCall as calls
use Rattle.run_debts.specs.Given.RawMachine.{machine_plan, called as of_key, counted as of_sum}
use Rattle.run_debts.specs.Given.RawDeclared.machines.answer.Called.{Called}
use Rattle.run_debts.specs.Given.RawDeclared.machines.call.Calling.{Calling}
use Rattle.run_debts.specs.Given.RawDeclared.machines.call.Calling.TheVariants as at
use Rattle.run_debts.specs.Given.RawDeclared.machines.call.KeyCall.{KeyCall}
use Rattle.run_debts.specs.Given.RawDeclared.machines.machine.Machine.{Machine}
use Rattle.run_debts.specs.Given.RawDeclared.machines.machine.Machine.TheVariants as kinds
use Rattle.run_debts.specs.Given.RawDeclared.machines.progress.Progress.{Progress}
use Rattle.run_debts.specs.Given.EffectsDeclared.changed.Changed.{Changed}
use Rattle.run_debts.specs.Given.EffectsDeclared.changed.Changed.TheVariants as changed
use Rattle.owner_calls.specs.Given.LateKinds.{IsLookup, LooksAt}
use Rattle.run_debts.proofs.Given.OthersOutcomes.{told_in}
use Rattle.run_blocks.specs.Owes.Looking.{IsLooking}
use Rattle.run_blocks.proofs.Owes.Tables.Hosts.{Step}

module _ {K V : Type 0} (m m2 : Mem (Node K V)) (told : Changed) where
  lookup_still : (keys : K → Bool) (l : Lookup) (end : Lookup × Counting (Option ℕ)) → Step m m2 told (lookup_plan keys l) end → told ≡ changed.Nothing
  lookup_still keys l end s = by l.stands s
    where
      by : (stands : Looking) → Step m m2 told (lookups.plan_at keys l stands) end → told ≡ changed.Nothing
      by looks.Roots s = s.1.1
      by (looks.Probes trial) s = s.1.1
      by (looks.Nexts table) s = s.1.1
      by (looks.Over found) s = s.2

  sum_still : (c : Sum) (end : Sum × Counting ℕ) → Step m m2 told (sum_plan {T = Node K V} c) end → told ≡ changed.Nothing
  sum_still c end s = by c.stands s
    where
      by : (stands : Summing) → Step m m2 told (sums.plan_at {T = Node K V} c stands) end → told ≡ changed.Nothing
      by (summing.Adds shard total) s = s.1.1
      by (summing.Over count) s = s.2

  module _ (asks : K → K → Bool) (same : K → K → Bool) (hash : K → ℕ) where
    module _ (p : KeyCall K V K) (own : p.own ≡ 0) where
      abbrev Stays : KeyCall K V K × Called (Node K V) → Type 0
      Stays end = (told ≡ changed.Nothing) × IsLookup end.0

      looks_on : (x : Lookup × Counting (Option ℕ)) → IsLookup (looked p x).0
      looks_on (l, counting.Goes) = (own, tt)
      looks_on (l, counting.Waits) = (own, tt)
      looks_on (l, counting.Done (Some found)) = (own, tt)
      looks_on (l, counting.Done None) = (own, tt)
      looks_on (l, counting.Refused fault) = (own, tt)

      looks_so : (l : Lookup) (asked : Option K) (end : KeyCall K V K × Called (Node K V)) → Step m m2 told (looks_for asks p l asked) end → Stays end
      looks_so l (Some q) end s =
          let it = told_in m m2 told (looked p) (lookup_plan (asks q) l) end s in
          (lookup_still (asks q) l it.0 it.2, subst (λ (x : KeyCall K V K × Called (Node K V)). IsLookup x.0) (sym it.1) (looks_on it.0))
      looks_so l None end s = (s.2, subst (λ (x : KeyCall K V K × Called (Node K V)). IsLookup x.0) (sym s.1) (own, tt))

      stays_at : (q : Calling) → p.stands ≡ q → LooksAt q → (end : KeyCall K V K × Called (Node K V)) → Step m m2 told (calls.plan_at asks same hash p q) end → Stays end
      stays_at (at.Looks l) e is end s = looks_so l p.asked end s
      stays_at (at.Over last) e is end s = (s.2, subst (λ (x : KeyCall K V K × Called (Node K V)). IsLookup x.0) (sym s.1) (own, subst LooksAt (sym e) is))
      stays_at _ e is end s = absurd is

    module _ (machine : Machine K V K) (said : Progress (Node K V)) where
      as_ended : (y : Machine K V K × Progress (Node K V)) → ◌≡◌ {A = Machine K V K × Progress (Node K V)} (machine, said) y → IsLooking y.0 → IsLooking machine
      as_ended y is so = subst (λ (x : Machine K V K × Progress (Node K V)). IsLooking x.0) (sym is) so

      pub looking_stays : (before : Machine K V K) → IsLooking before → Step m m2 told (machine_plan asks same hash before) (machine, said) → (told ≡ changed.Nothing) × IsLooking machine
      looking_stays (kinds.Key p) is s =
          let it = told_in m m2 told of_key (call_plan asks same hash p) (machine, said) s in
          let so = stays_at p is.0 p.stands refl is.1 it.0 it.2 in (so.0, as_ended (of_key it.0) it.1 (looking_key it.0 so.1))
        where
          looking_key : (end : KeyCall K V K × Called (Node K V)) → IsLookup end.0 → IsLooking (of_key end).0
          looking_key (q, said_so) so = so
      looking_stays (kinds.Count sum) is s =
          let it = told_in m m2 told of_sum (sum_plan {T = Node K V} sum) (machine, said) s in (sum_still sum it.0 it.2, as_ended (of_sum it.0) it.1 (looking_sum it.0))
        where
          looking_sum : (end : Sum × Counting ℕ) → IsLooking (of_sum {K = K} {V = V} {Q = K} end).0
          looking_sum (c, progress) = tt
      looking_stays (kinds.Reserve r) is s = absurd is
      looking_stays (kinds.Sweep c) is s = absurd is
