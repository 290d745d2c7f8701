-- What a call makes: a block for its pair, or the table that is to be made by the making within it.
use Rattle.std.specs.Prelude.{◌≡◌, ℕ, ◌==◌, Bool, true, false, Option, Some, None, ◌⊎◌}
use Rattle.std.proofs.Common.{refl, sym, subst, ◌∙◌, inl, inr}
use Rattle.run_debts.specs.Given.SeizeWordsMem.{Mem}
use Rattle.run_debts.specs.Given.TablesDeclared.node.Node.{Node}
use Rattle.run_debts.specs.Given.TablesDeclared.node.Node.TheVariants as node
use Rattle.run_debts.specs.Given.TablesDeclared.setting.Setting.{Setting}
use Rattle.owner_calls.specs.Given.ResizeSum.{sum_plan}
use Rattle.owner_calls.specs.Given.ReservesReserve.{reserve_plan}
use Rattle.owner_calls.specs.Given.SweepsSweep.{sweep_plan}
use Rattle.owner_calls.specs.Given.RawCall.{call_plan, makes_of}
use Rattle.owner_calls.specs.Given.RawCall as calls
use Rattle.owner_calls.specs.Given.RawCallFills.{putting_by, fill_by, fills_with}
use Rattle.run_debts.specs.Given.RawMachine.{machine_plan, called as of_key, reserved as of_room, swept as of_sweep, counted as of_sum}
use Rattle.run_debts.specs.Given.RawDeclared.machines.asking.Asking.TheVariants as asking
use Rattle.run_debts.specs.Given.RawDeclared.machines.call.Calling.{Calling}
use Rattle.run_debts.specs.Given.RawDeclared.machines.call.Calling.TheVariants as calling
use Rattle.run_debts.specs.Given.RawDeclared.machines.call.KeyCall.{KeyCall}
use Rattle.run_debts.specs.Given.RawDeclared.machines.machine.Machine.{Machine}
use Rattle.run_debts.specs.Given.RawDeclared.machines.machine.Machine.TheVariants as kinds
use Rattle.run_debts.specs.Given.RawDeclared.machines.progress.Progress.{Progress}
use Rattle.owner_calls.specs.Given.RawReplies.{value_for, as_own}
use Rattle.owner_calls.specs.Given.RuleChart.{Chart}
use Rattle.owner_calls.specs.Given.RuleWords.{Blocks}
use Rattle.run_debts.specs.Given.TellerChanged.{kind_of}
use Rattle.run_debts.specs.Given.TellerTells.{StepsObserved}
use Rattle.run_debts.specs.Given.EffectsDeclared.changed.Changed.{Changed}
use Rattle.run_debts.specs.Given.EffectsDeclared.changed.Changed.TheVariants as changed
use Rattle.run_debts.specs.Given.EffectsDeclared.changed.Kind.{Kind}
use Rattle.run_debts.specs.Given.EffectsDeclared.changed.Kind.TheVariants as kind
use Rattle.owner_calls.specs.Given.CallersTogether.{CallOnKey, in_slot, Knows}
use Rattle.owner_calls.specs.Given.PointsFactsCalls.{Change, CallingFacts}
use Rattle.owner_calls.specs.Given.PointsTold.{IsRowOfCall}
use Rattle.owner_calls.specs.Given.LateLateCalls.{SupersededCalling}
use Rattle.run_debts.specs.Given.SeizeWorld.{World}
use Rattle.run_blocks.specs.Owes.Making.{making_of, making_in_calling, making_in_reserving, making_in_sweeping}
use Rattle.run_blocks.proofs.Owes.Walks.{IsToMake, PlanMakesSo, IsToOwn, so_as, so_more, plan_made_so, plan_no_room, call_makes, reserve_makes, sweep_makes, sum_at}

module _ {K V : Type 0} where
  abbrev IsPairKind : Node K V → Type 0
  IsPairKind value = kind_of value ≡ kind.Pair

  -- where a call is to make its own block, it has the pair for it
  abbrev pub HasUnmade : KeyCall K V K → Calling → Type 0
  HasUnmade p calling.Makes = (k : K) × (v : V) × (p.unmade ≡ Some (node.Pair k v))
  HasUnmade p _ = Unit {0}

  putting_pairs : (q : KeyCall K V K) (b : Bool) (word : ℕ) (key : K) (value : V) → PlanMakesSo IsPairKind (putting_by b q word key value)
  putting_pairs q true word key value = refl
  putting_pairs q false word key value = tt

  fill_pairs : (value : Option V) (q : KeyCall K V K) (word : ℕ) (key : K) → PlanMakesSo IsPairKind (fill_by value q word key)
  fill_pairs None q word key = tt
  fill_pairs (Some value) q word key = putting_pairs (record q { replies = record q.replies { key = None } }) (q.own == 0) word key value

  fills_pairs : (key : Option K) (p : KeyCall K V K) (word : ℕ) → PlanMakesSo IsPairKind (fills_with key p word)
  fills_pairs (Some key) p word = fill_pairs (value_for p.replies word) (record p { replies = as_own p.replies word }) word key
  fills_pairs None p word = tt

  module _ (asks : K → K → Bool) (same : K → K → Bool) (hash : K → ℕ) (p : KeyCall K V K) where
    own_pairs : (q : Calling) → IsToOwn q → HasUnmade p q → PlanMakesSo IsPairKind (calls.plan_at asks same hash p q)
    own_pairs calling.Makes own (k, v, is) = subst (λ (o : Option (Node K V)). PlanMakesSo IsPairKind (makes_of p o)) (sym is) refl
    own_pairs (calling.Asks (asking.Fills word)) own has = fills_pairs p.replies.key p word
    own_pairs (calling.Asks (asking.Absent gap)) own has = absurd own
    own_pairs (calling.Asks (asking.Present word)) own has = absurd own
    own_pairs (calling.Asks (asking.GivesUp word)) own has = absurd own
    own_pairs (calling.Looks lookup) own has = absurd own
    own_pairs calling.Roots own has = absurd own
    own_pairs calling.Probes own has = absurd own
    own_pairs (calling.Tries word new) own has = absurd own
    own_pairs (calling.Counts removed) own has = absurd own
    own_pairs calling.Nexts own has = absurd own
    own_pairs (calling.Firsts n) own has = absurd own
    own_pairs (calling.Allocs n) own has = absurd own
    own_pairs (calling.Helps copier goal) own has = absurd own
    own_pairs (calling.Copies copier) own has = absurd own
    own_pairs (calling.Disposes dispose answer) own has = absurd own
    own_pairs (calling.Drops end) own has = absurd own
    own_pairs (calling.Over end) own has = absurd own

  -- of a call, whichever it is: it makes a block for a pair, or the table of its making

  abbrev pub IsWhich : Machine K V K → Node K V → Type 0
  IsWhich before value = IsPairKind value ⊎ IsToMake (making_of before) value

  abbrev pub MakesWhich : Machine K V K → Kind → Type 0
  MakesWhich before k = (k ≡ kind.Pair) ⊎ ((value : Node K V) × IsToMake (making_of before) value × (kind_of value ≡ k))

  abbrev pub HasUnmadeSo : Machine K V K → Type 0
  HasUnmadeSo (kinds.Key p) = HasUnmade p p.stands
  HasUnmadeSo _ = Unit {0}

  module _ (asks : K → K → Bool) (same : K → K → Bool) (hash : K → ℕ) where
    pub makes_which : (before : Machine K V K) → HasUnmadeSo before → PlanMakesSo (IsWhich before) (machine_plan asks same hash before)
    makes_which (kinds.Key p) has =
        so_as (IsWhich (kinds.Key p)) of_key (call_plan asks same hash p) (elim (call_makes asks same hash p) as (λ _. PlanMakesSo (IsWhich (kinds.Key p)) (call_plan asks same hash p)) [
          | inl own ↦ so_more IsPairKind (IsWhich (kinds.Key p)) (λ value is. inl is) (call_plan asks same hash p) (own_pairs asks same hash p p.stands own has)
          | inr so ↦ so_more (IsToMake (making_in_calling p.stands)) (IsWhich (kinds.Key p)) (λ value is. inr is) (call_plan asks same hash p) so
        ])
    makes_which (kinds.Reserve r) has =
        so_as (IsWhich (kinds.Reserve r)) of_room (reserve_plan hash r) (so_more (IsToMake (making_in_reserving r.stands)) (IsWhich (kinds.Reserve r)) (λ value is. inr is) (reserve_plan hash r) (reserve_makes K V hash r))
    makes_which (kinds.Sweep c) has =
        so_as (IsWhich (kinds.Sweep c)) of_sweep (sweep_plan hash c) (so_more (IsToMake (making_in_sweeping c.stands)) (IsWhich (kinds.Sweep c)) (λ value is. inr is) (sweep_plan hash c) (sweep_makes K V hash c))
    makes_which (kinds.Count sum) has =
        so_as (IsWhich (kinds.Count sum)) of_sum (sum_plan sum) (so_more (IsToMake None) (IsWhich (kinds.Count sum)) (λ value is. inr is) (sum_plan sum) (sum_at K V None sum sum.stands))

    module _ (m m2 : Mem (Node K V)) (told : Changed) (machine : Machine K V K) (said : Progress (Node K V)) (before : Machine K V K) (has : HasUnmadeSo before)
        (s : StepsObserved K V (Machine K V K × Progress (Node K V)) m changed.Nothing (machine_plan asks same hash before) m2 told (machine, said)) where
      pub which_made : (k : Kind) (b : ℕ) → told ≡ changed.Made k b → MakesWhich before k
      which_made k b made = by (plan_made_so (IsWhich before) m m2 told (machine_plan asks same hash before) (machine, said) s (makes_which before has) k b made)
        where
          by : (value : Node K V) × IsWhich before value × (kind_of value ≡ k) → MakesWhich before k
          by (value, inl pair, is) = inl (sym is ∙ pair)
          by (value, inr to_make, is) = inr (value, to_make, is)

      pub no_room : (bucket : ℕ) (had : Bool) → told ≡ changed.Roomed bucket had → ⊥
      no_room bucket had roomed = plan_no_room (IsWhich before) m m2 told (machine_plan asks same hash before) (machine, said) s (makes_which before has) bucket had roomed

-- a call on one key knows that it has the pair
module _ {K V : Type 0} (same : K → K → Bool) (hash : K → ℕ) (setting : Setting) (slot : ℕ → ℕ) (w : World (Node K V)) (c : Chart K) (seen : Blocks) (i : ℕ) where
  unmade_at : (keys : K → Bool) (change : Change) (p : KeyCall K V K) (q : Calling) → CallingFacts same hash same w i (in_slot setting (slot i)) c seen keys change p q → HasUnmade p q
  unmade_at keys change p calling.Makes facts = (facts.3, facts.4, facts.5)
  unmade_at keys change p _ facts = tt

  late_unmade : (keys : K → Bool) (began : ℕ) (p : KeyCall K V K) (q : Calling) → SupersededCalling same hash same w i (in_slot setting (slot i)) c seen keys began p q → HasUnmade p q
  late_unmade keys began p calling.Makes facts = absurd facts
  late_unmade keys began p _ facts = tt

  pub has_unmade : (u : CallOnKey K V K) (p : KeyCall K V K) → Knows V same hash same setting slot w c seen i u p → HasUnmade p p.stands
  has_unmade u p knows = elim (knows.facts) as (λ _. HasUnmade p p.stands) [
    | inl facts ↦ unmade_at u.keys u.change p p.stands facts.point
    | inr late ↦ late_unmade u.keys u.began p p.stands late.1.point
  ]

-- within a row it makes none
pub row_unmade : {K V : Type 0} (p : KeyCall K V K) (q : Calling) → IsRowOfCall q → HasUnmade p q
row_unmade p calling.Makes row = absurd row
row_unmade p _ row = tt
