-- Each step leaves numbers of maps below the next one that is given.
use Rattle.std.specs.Prelude.{◌<◌, ◌==◌, find, List, [], ◌∷◌, Option, Some, None, nat_lt, ◌&&◌, if◌then◌else◌}
use Rattle.std.specs.List.{All}
use Rattle.std.proofs.Common.{◌≡◌, ℕ, zero, suc, Bool, true, false, refl, ap, subst, arith}
use Rattle.std.proofs.lemmas.List.{length-map}
use Rattle.run_debts.specs.Given.SeizeWordsDeclared.at.At.TheVariants.{Root, Used, Slot, Entry, Word}
use Rattle.run_debts.specs.Given.EffectsDeclared.changed.Changed.{Changed}
use Rattle.run_debts.specs.Given.EffectsDeclared.changed.Changed.TheVariants as changed
use Rattle.run_debts.specs.Given.EffectsDeclared.changed.Changed.TheVariants.{Took}
use Rattle.run_debts.specs.Given.RunsDeclared.effect.Effect.{Effect}
use Rattle.run_debts.specs.Given.RunsDeclared.effect.Effect.TheVariants.{Asked, Taken}
use Rattle.run_debts.specs.Given.RunsDeclared.effect.Growth.TheVariants.{ABucket}
use Rattle.run_debts.specs.Given.RunsDeclared.effect.TableId.{TableId}
use Rattle.run_debts.specs.Given.SchedulesEffects.{at_stage, maps_by, tables_by, with_effect, with_effects}
use Rattle.run_debts.specs.Given.SchedulesMoment.{IsReclaimed, IsTaken, MapThere, Moment, TableThere}
use Rattle.run_debts.specs.Given.EffectsEffects.{names_same, taken_by, effects_of}
use Rattle.run_debts.specs.Given.EffectsKnown.{Known}
use Rattle.run_debts.specs.Given.EffectsDeclared.acting.Acting.TheVariants as acts
use Rattle.run_debts.specs.Given.EffectsDeclared.role.Role.{Role}
use Rattle.run_debts.specs.Given.EffectsDeclared.role.Role.TheVariants as role
use Rattle.run_debts.proofs.Given.OthersRowPlans.{TellsRow}
use Rattle.run_debts.specs.Given.MomentsNumbers.{NumbersMaps}
use Rattle.run_debts.proofs.Given.MomentsNumbers.{rows_keep_numbers, steps_keep_numbers}
use Rattle.run_waiting.specs.Remains.Numbered.{CallsPreserveCount, EndsPreserveCount, MakingsPreserveCount, MoreAreCounted, NumbersUpTo, RowsPreserveCount}

module _ {K V : Type 0} (caller : Option (List ℕ)) (acted : Option ℕ) where
  -- of maps and tables effects look at these alone, and they leave the count
  alike_then : (effects : List Effect) (x y : Moment K V) → x.maps ≡ y.maps → x.tables ≡ y.tables
      → ((with_effects caller acted effects x).maps ≡ (with_effects caller acted effects y).maps) × ((with_effects caller acted effects x).tables ≡ (with_effects caller acted effects y).tables)
  alike_then [] x y maps tables = (maps, tables)
  alike_then (f ∷ effects) x y maps tables = alike_then effects (with_effect caller acted f x) (with_effect caller acted f y) (ap (maps_by f) maps) (ap (tables_by f) tables)

  pub made_stays : (effects : List Effect) (x : Moment K V) → (with_effects caller acted effects x).made ≡ x.made
  made_stays [] x = refl
  made_stays (f ∷ effects) x = made_stays effects (with_effect caller acted f x)

  to_count : (effects : List Effect) (m : Moment K V) (count : ℕ) → NumbersMaps (with_effects caller acted effects (record m { made = count })) → NumbersUpTo count (with_effects caller acted effects m)
  to_count effects m count n =
      let x : Moment K V = with_effects caller acted effects (record m { made = count }) in
      let alike = alike_then effects (record m { made = count }) m refl refl in
      let made : x.made ≡ count = made_stays effects (record m { made = count }) in
      record {
        found = subst (λ (ms : List MapThere). All (λ there. find (λ f. f.number == there.number) ms ≡ Some there) ms) alike.0 n.found;
        below = subst (λ (ms : List MapThere). All (λ there. there.number < count) ms) alike.0 (subst (λ (k : ℕ). All (λ there. there.number < k) x.maps) made n.below);
        tables = subst (λ (ts : List TableThere). All (λ t. t.table.map < count) ts) alike.1 (subst (λ (k : ℕ). All (λ t. t.table.map < k) x.tables) made n.tables);
      }

module _ (K V : Type 0) (same : K → K → Bool) (hash : ℕ → K → ℕ) where
  pub calls_keep_count : CallsPreserveCount K V same hash
  calls_keep_count m known s old new count below numbers map i u here said leads caller acted =
      to_count caller acted (effects_of (acts.Call i map) known new.changed) m count
      (steps_keep_numbers K V (record m { made = count }) numbers caller acted (acts.Call i map) known new.changed
      (below.standing map (leads map u here).0 (leads map u here).2))

  pub rows_keep_count : RowsPreserveCount K V same hash
  rows_keep_count m known s old new count numbers i said leads row here =
      to_count None None (effects_of acts.Row known new.changed) m count
      (rows_keep_numbers K V same hash (record m { made = count }) numbers known s old new i said leads row here)

  pub makings_keep_count : MakingsPreserveCount K V same hash
  makings_keep_count m known s new count below numbers i b here caller acted =
      to_count caller acted (effects_of (acts.Making b.map) known new.changed) m count
      (steps_keep_numbers K V (record m { made = count }) numbers caller acted (acts.Making b.map) known new.changed (below.made i b here))

-- where all numbers are below none there is no table
module _ {K V : Type 0} (m : Moment K V) (known : Known) (numbers : NumbersUpTo 0 m) where
  zero_taken : (r : Role) → NumbersUpTo 0 (with_effects None None (taken_by acts.Row r) m)
  zero_taken role.Free = numbers
  zero_taken (role.OwnPair i) = record { found = numbers.found; below = numbers.below; tables = numbers.tables }
  zero_taken (role.OwnTable turn shape) = record { found = numbers.found; below = numbers.below; tables = numbers.tables }
  zero_taken (role.Counter n) = numbers
  zero_taken (role.Pair n) = record { found = numbers.found; below = numbers.below; tables = numbers.tables }
  zero_taken (role.Table t len) = record {
    found = numbers.found;
    below = numbers.below;
    tables = λ k d l. absurd (let long = length-map m.tables (at_stage t IsReclaimed) in let b = numbers.tables k d (omega (arith, l, long)) in omega (arith, b));
  }

  zero_nothing : (q : Bool) → NumbersUpTo 0 (with_effects None None (if q then [] else []) m)
  zero_nothing true = numbers
  zero_nothing false = numbers

  zero_roomed : (q : Bool) → NumbersUpTo 0 (with_effects None None (if q then [] else Asked ABucket ∷ []) m)
  zero_roomed true = numbers
  zero_roomed false = record { found = numbers.found; below = numbers.below; tables = numbers.tables }

  zero_told : (told : Changed) → TellsRow told → NumbersUpTo 0 (with_effects None None (effects_of acts.Row known told) m)
  zero_told changed.Nothing is = numbers
  zero_told (changed.Wrote (Slot t field) before after) is = numbers
  zero_told (changed.Wrote (Entry x field) before after) is = zero_nothing (names_same before after)
  zero_told (changed.Wrote (Root r) before after) is = absurd is
  zero_told (changed.Wrote (Used r) before after) is = absurd is
  zero_told (changed.Wrote (Word x field) before after) is = absurd is
  zero_told (changed.Made kind x) is = absurd is
  zero_told (changed.Unmade kind) is = absurd is
  zero_told (changed.Took x) is = zero_taken (known.roles x)
  zero_told (changed.Roomed bucket had) is = zero_roomed (had && nat_lt bucket known.buckets)

-- what a row tells leaves numbers below the count
pub told_keeps_count : {K V : Type 0} (m : Moment K V) (known : Known) (count : ℕ) → NumbersUpTo count m → (told : Changed) → TellsRow told → NumbersUpTo count (with_effects None None (effects_of acts.Row known told) m)
told_keeps_count m known zero numbers told tells = zero_told m known numbers told tells
told_keeps_count {K} {V} m known (suc n) numbers told tells =
    to_count None None (effects_of acts.Row known told) m (suc n) (steps_keep_numbers K V (record m { made = suc n }) numbers None None acts.Row known told (omega arith))

pub more_are_counted : (K V : Type 0) → MoreAreCounted K V
more_are_counted K V m count more numbers = record {
  found = numbers.found;
  below = λ k d l. (let b = numbers.below k d l in omega (arith, b));
  tables = λ k d l. (let b = numbers.tables k d l in omega (arith, b));
}

-- what is known of a memory whose blocks all are this table
abbrev all_are : TableId → ℕ → Known
all_are t len = record { roles = λ b. role.Table t len; stored = 0; buckets = 0 }

-- What ends is told of the map's number alone where it is a table that was not linked: there the number does not matter.
pub ends_keep_count : (K V : Type 0) → EndsPreserveCount K V
ends_keep_count K V m count numbers map role.Free caller acted = numbers
ends_keep_count K V m count numbers map (role.OwnPair i) caller acted = record { found = numbers.found; below = numbers.below; tables = numbers.tables }
ends_keep_count K V m count numbers map (role.OwnTable turn shape) caller acted = record { found = numbers.found; below = numbers.below; tables = numbers.tables }
ends_keep_count K V m count numbers map (role.Counter n) caller acted = numbers
ends_keep_count K V m count numbers map (role.Pair n) caller acted = record { found = numbers.found; below = numbers.below; tables = numbers.tables }
ends_keep_count K V m zero numbers map (role.Table t len) caller acted = record {
  found = numbers.found;
  below = numbers.below;
  tables = λ k d l. absurd (let long = length-map m.tables (at_stage t IsTaken) in let b = numbers.tables k d (omega (arith, l, long)) in omega (arith, b));
}
ends_keep_count K V m (suc n) numbers map (role.Table t len) caller acted =
    to_count caller acted (Taken t ∷ []) m (suc n) (steps_keep_numbers K V (record m { made = suc n }) numbers caller acted (acts.Ending 0) (all_are t len) (Took 0) (omega arith))
