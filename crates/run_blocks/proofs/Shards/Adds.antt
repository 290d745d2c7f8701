-- What a step of a call does to the words of counts, and to what it is about to add there.
use Rattle.std.specs.Prelude.{◌≡◌, ◌==◌, ◌+◌, ◌-◌, ◌%◌, ◌^◌, ℕ, Bool, true, false, cond, List, [], ◌∷◌, length, Option, Some, None, if◌then◌else◌, ◌⊎◌}
use Rattle.std.proofs.Common.{refl, ap, sym, subst, ◌∙◌, arith, inl, inr}
use Rattle.run_debts.specs.Given.SeizeWordsDeclared.at.At.TheVariants.{Word}
use Rattle.owner_calls.specs.Given.TablesCounts.{count_change}
use Rattle.run_debts.specs.Given.RawDeclared.machines.call.Calling.{Calling}
use Rattle.run_debts.specs.Given.RawDeclared.machines.call.Calling.TheVariants as calling
use Rattle.run_debts.specs.Given.RawDeclared.machines.machine.Machine.{Machine}
use Rattle.run_debts.specs.Given.RawDeclared.machines.machine.Machine.TheVariants as kinds
use Rattle.run_debts.specs.Given.RunsDeclared.effect.Effect.{Effect}
use Rattle.run_debts.specs.Given.RunsDeclared.effect.Effect.TheVariants as effect
use Rattle.run_debts.specs.Given.RunsDeclared.effect.Spot.{Spot}
use Rattle.run_debts.specs.Given.SchedulesEffects.{gain, word_with, call_by, with_effects}
use Rattle.run_debts.specs.Given.SchedulesMoment.{UnderWay as CallThere, Moment}
use Rattle.run_debts.specs.Given.SchedulesViews.{call_of}
use Rattle.run_debts.specs.Given.ReservesDeclared.sweep.Sweeping.{Sweeping}
use Rattle.run_debts.specs.Given.ReservesDeclared.sweep.Sweeping.TheVariants as sweeping
use Rattle.run_debts.specs.Given.EffectsDeclared.changed.Changed.{Changed}
use Rattle.run_debts.specs.Given.EffectsDeclared.changed.Changed.TheVariants as changed
use Rattle.run_debts.specs.Given.EffectsKnown.{Known}
use Rattle.run_debts.proofs.Given.ChangesChanges.{acted_on}
use Rattle.run_blocks.specs.Shards.Adds.{adds_in_calling, adds_in_sweeping, adds_of, Adds}
use Rattle.run_debts.specs.Counts.{counts_in_calling, counts_in_sweeping, is_to_count}
use Rattle.run_debts.proofs.Gains.{due_same}
use Rattle.run_debts.proofs.Uncounted.{CountsNowhere}
use Rattle.run_debts.proofs.Given.General.{same_some as one_of}

-- what is about to add something is about to count
pub adds_counts : (p : Calling) (removed : ℕ) → adds_in_calling p ≡ Some removed → counts_in_calling p ≡ true
adds_counts (calling.Counts r) removed is = refl
adds_counts _ removed is = absurd (cc is)

pub adds_at : (p : Calling) (removed : ℕ) → adds_in_calling p ≡ Some removed → p ≡ calling.Counts removed
adds_at (calling.Counts r) removed is = (let one : r ≡ removed = cc is in ap calling.Counts one)
adds_at _ removed is = absurd (cc is)

pub sweep_adds_counts : (p : Sweeping) (removed : ℕ) → adds_in_sweeping p ≡ Some removed → counts_in_sweeping p ≡ true
sweep_adds_counts (sweeping.Counts r) removed is = refl
sweep_adds_counts _ removed is = absurd (cc is)

pub sweep_adds_at : (p : Sweeping) (removed : ℕ) → adds_in_sweeping p ≡ Some removed → p ≡ sweeping.Counts removed
sweep_adds_at (sweeping.Counts r) removed is = (let one : r ≡ removed = cc is in ap sweeping.Counts one)
sweep_adds_at _ removed is = absurd (cc is)

pub machine_adds : {K V Q : Type 0} (machine : Machine K V Q) (removed : ℕ) → adds_of machine ≡ Some removed → is_to_count machine ≡ true
machine_adds (kinds.Key p) removed is = adds_counts p.stands removed is
machine_adds (kinds.Sweep c) removed is = sweep_adds_counts c.stands removed is
machine_adds (kinds.Reserve r) removed is = absurd (cc is)
machine_adds (kinds.Count sum) removed is = absurd (cc is)

-- what is about to count is about to add something
not_adds : (p : Calling) → adds_in_calling p ≡ None → counts_in_calling p ≡ false
not_adds (calling.Counts r) none = absurd (cc none)
not_adds _ none = refl

sweep_not_adds : (p : Sweeping) → adds_in_sweeping p ≡ None → counts_in_sweeping p ≡ false
sweep_not_adds (sweeping.Counts r) none = absurd (cc none)
sweep_not_adds _ none = refl

pub machine_not_adds : {K V Q : Type 0} (machine : Machine K V Q) → adds_of machine ≡ None → is_to_count machine ≡ false
machine_not_adds (kinds.Key p) none = not_adds p.stands none
machine_not_adds (kinds.Sweep c) none = sweep_not_adds c.stands none
machine_not_adds (kinds.Reserve r) none = refl
machine_not_adds (kinds.Count sum) none = refl

pub adds_none : (p : Calling) → counts_in_calling p ≡ false → adds_in_calling p ≡ None
adds_none (calling.Counts r) never = absurd (cc never)
adds_none _ never = refl

pub sweep_adds_none : (p : Sweeping) → counts_in_sweeping p ≡ false → adds_in_sweeping p ≡ None
sweep_adds_none (sweeping.Counts r) never = absurd (cc never)
sweep_adds_none _ never = refl

-- by these effects the call has so much to count that had nothing: it has stored a pair, if such a call may, or removed one
abbrev pub Brings : Type 0 → ℕ → List Effect → Type 0
Brings MayStore removed effects =
    (MayStore × (removed ≡ 0) × (n : ℕ) × (s : Spot) × (effects ≡ effect.Stored n s ∷ [])) ⊎ (((removed == 0) ≡ false) × (n : ℕ) × (effects ≡ effect.Removed n ∷ []))

-- What a step does: it writes no word of a count, was not about to, and is then just if it has brought that about; or it adds to its shard what it was about to.
pub data StepAdds (MayStore : Type 0) (known : Known) (told : Changed) (counter shard : ℕ) (effects : List Effect) (before after : Option ℕ) : Type 0 where
  AddsNone : CountsNowhere known told → before ≡ None → ((removed : ℕ) → after ≡ Some removed → Brings MayStore removed effects) → StepAdds MayStore known told counter shard effects before after
  AddsIts : (removed o : ℕ) → told ≡ changed.Wrote (Word counter shard) o ((o + count_change removed) % 2 ^ 64) → effects ≡ effect.Counted shard ∷ [] → before ≡ Some removed → after ≡ None
      → StepAdds MayStore known told counter shard effects before after

-- what the moment adds to a shard is what the machine adds
added_gained : (word : ℕ) → (word + 1 + (2 ^ 64 - 0 % 2 ^ 64)) % 2 ^ 64 ≡ (word + 1) % 2 ^ 64
added_gained word = omega arith

added_lost : (word : ℕ) → (word + 0 + (2 ^ 64 - 1 % 2 ^ 64)) % 2 ^ 64 ≡ (word + (2 ^ 64 - 1)) % 2 ^ 64
added_lost word = omega arith

module _ {K V : Type 0} where
  pub word_added : (removed word : ℕ) (c : CallThere K V) → Adds removed c → word_with c word ≡ (word + count_change removed) % 2 ^ 64
  word_added removed word c adds = ap (λ (g : ℕ). (word + g + (2 ^ 64 - c.lost % 2 ^ 64)) % 2 ^ 64) adds.0 ∙ ap (λ (l : ℕ). (word + cond (removed == 0) 1 0 + (2 ^ 64 - l % 2 ^ 64)) % 2 ^ 64) adds.1 ∙ by (removed == 0)
    where
      by : (q : Bool) → (word + cond q 1 0 + (2 ^ 64 - cond q 0 1 % 2 ^ 64)) % 2 ^ 64 ≡ (word + (if q then 1 else 2 ^ 64 - 1)) % 2 ^ 64
      by true = added_gained word
      by false = added_lost word

  -- after such effects it has just that to count
  module _ (own : List ℕ) (map : ℕ) (m : Moment K V) (c : CallThere K V) (is : call_of own m ≡ Some c) (gained : c.gained ≡ 0) (lost : c.lost ≡ 0) where
    then_stored : (n : ℕ) (s : Spot) → c.replacing ≡ None → Adds 0 (call_by m (effect.Stored n s) c)
    then_stored n s none = (
      ap (λ (g : ℕ). g + gain c.replacing) gained ∙ ap (λ (o : Option ℕ). 0 + gain o) none,
      (due_same c.call c c.replacing n).1 ∙ lost,
    )

    then_removed : (removed n : ℕ) → (removed == 0) ≡ false → Adds removed (call_by m (effect.Removed n) c)
    then_removed removed n some = (
      (due_same c.call c (Some n) (length m.stored + 1)).0 ∙ gained ∙ sym (ap (λ (q : Bool). cond q 1 0) some),
      ap (λ (l : ℕ). l + 1) lost ∙ sym (ap (λ (q : Bool). cond q 0 1) some),
    )

    pub then_adds : (MayStore : Type 0) (effects : List Effect) (removed : ℕ) → Brings MayStore removed effects → (MayStore → c.replacing ≡ None)
        → (d : CallThere K V) → call_of own (with_effects (Some own) (Some map) effects m) ≡ Some d → Adds removed d
    then_adds MayStore effects removed brings none d d_is = elim brings as (λ _. Adds removed d) [
      | inl (may, zero, n, s, are) ↦
          let now = subst (λ (l : List Effect). call_of own (with_effects (Some own) (Some map) l m) ≡ Some d) are d_is in
          subst (λ (r : ℕ). Adds r d) (sym zero) (subst (Adds 0) (one_of (call_by m (effect.Stored n s) c) d (sym (acted_on own map (effect.Stored n s) m c is) ∙ now)) (then_stored n s (none may)))
      | inr (some, n, are) ↦
          let now = subst (λ (l : List Effect). call_of own (with_effects (Some own) (Some map) l m) ≡ Some d) are d_is in
          subst (Adds removed) (one_of (call_by m (effect.Removed n) c) d (sym (acted_on own map (effect.Removed n) m c is) ∙ now)) (then_removed removed n some)
    ]
