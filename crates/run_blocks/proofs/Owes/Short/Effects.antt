-- What the effects of an operation find of what a call has asked for, and whether it is short of a growth after them.
use Rattle.std.specs.Prelude.{◌≡◌, ℕ, ◌+◌, ◌==◌, Bool, true, false, List, [], ◌∷◌, length, Option, Some, if◌then◌else◌}
use Rattle.std.proofs.Common.{refl, ap, sym, subst, ◌∙◌}
use Rattle.run_debts.specs.Given.SeizeWordsDeclared.at.At.{At}
use Rattle.run_debts.specs.Given.SeizeWordsDeclared.at.At.TheVariants.{Root, Used, Slot, Entry, Word}
use Rattle.run_debts.specs.Given.TablesDeclared.table_words.TheConstants.{NEXT, DEFERRED}
use Rattle.run_debts.specs.Given.RunsDeclared.call.Call.{Call}
use Rattle.run_debts.specs.Given.RunsDeclared.call.Call.TheVariants as call
use Rattle.run_debts.specs.Given.RunsDeclared.effect.Effect.{Effect}
use Rattle.run_debts.specs.Given.RunsDeclared.effect.Effect.TheVariants as effect
use Rattle.run_debts.specs.Given.RunsDeclared.effect.Growth.TheVariants.{ABlock}
use Rattle.run_debts.specs.Given.RunsDeclared.effect.TableId.{TableId}
use Rattle.run_debts.specs.Given.SchedulesEffects.{due_for, call_by, with_effect}
use Rattle.run_debts.specs.Given.SchedulesEntry.{ByCall}
use Rattle.run_debts.specs.Given.SchedulesMoment.{UnderWay as CallThere, Moment}
use Rattle.run_debts.specs.Given.SchedulesViews.{call_of}
use Rattle.run_debts.specs.Given.EffectsDeclared.changed.Changed.{Changed}
use Rattle.run_debts.specs.Given.EffectsDeclared.changed.Changed.TheVariants as changed
use Rattle.run_debts.specs.Given.EffectsEffects.{taken_by, names_same, followed_by, led_to, carried, placed, spot_at, is_place, in_table, in_block, named, written_by, effects_of}
use Rattle.run_debts.specs.Given.EffectsKnown.{Known}
use Rattle.run_debts.specs.Given.EffectsDeclared.acting.Acting.{Acting}
use Rattle.run_debts.specs.Given.EffectsDeclared.role.Role.{Role}
use Rattle.run_debts.specs.Given.EffectsDeclared.role.Role.TheVariants as role
use Rattle.run_blocks.specs.Owes.Short.{FindsGrown, FindGrown}
use Rattle.run_blocks.specs.Owes.Beside.{NoneOf}
use Rattle.run_blocks.proofs.Owes.Quiet.{is_of_map, none_if, placed_none, carried_none, pair_back, table_back, retired_none, followed_none, led_none}
use Rattle.run_blocks.proofs.Owes.Fields.{all_by, its_effect}

-- whether a call is short of a growth after an effect
abbrev pub short_by : Effect → Bool → Bool
short_by (effect.Asked growth) h = true
short_by effect.PairMade h = false
short_by (effect.TableMade t) h = false
short_by _ h = h

-- the effect asks for a growth, or is one
abbrev pub of_growth : Effect → Bool
of_growth (effect.Asked growth) = true
of_growth effect.PairMade = true
of_growth (effect.TableMade t) = true
of_growth _ = false

abbrev pub NoneOfGrowth : List Effect → Type 0
NoneOfGrowth effects = NoneOf of_growth effects

kept_by : (f : Effect) → of_growth f ≡ false → (h : Bool) → short_by f h ≡ h
kept_by (effect.Asked growth) e h = absurd (cc e)
kept_by effect.PairMade e h = absurd (cc e)
kept_by (effect.TableMade t) e h = absurd (cc e)
kept_by _ e h = refl

pub short_kept : (effects : List Effect) → NoneOfGrowth effects → (h : Bool) → all_by short_by effects h ≡ h
short_kept [] none h = refl
short_kept (f ∷ fs) none h = ap (all_by short_by fs) (kept_by f none.0 h) ∙ short_kept fs none.1 h

module _ {K V : Type 0} where
  due_short : (its : Call K V) (c : CallThere K V) (old : Option ℕ) (new : ℕ) → (due_for its c old new).is_short ≡ c.is_short
  due_short (call.On one) c old new = refl
  due_short (call.Reserve n) c old new = refl
  due_short call.Clear c old new = refl
  due_short call.Retain c old new = refl
  due_short call.Len c old new = refl
  due_short call.Walk c old new = refl

  pub effect_short : (m : Moment K V) (f : Effect) (c : CallThere K V) → (call_by m f c).is_short ≡ short_by f c.is_short
  effect_short m (effect.Asked growth) c = refl
  effect_short m effect.PairMade c = refl
  effect_short m effect.PairGivenUp c = refl
  effect_short m (effect.TableMade t) c = refl
  effect_short m (effect.TableGivenUp t) c = refl
  effect_short m (effect.Linked t shape) c = refl
  effect_short m (effect.Promoted t) c = refl
  effect_short m (effect.Copied n s) c = refl
  effect_short m (effect.Stored n s) c = due_short c.call c c.replacing n
  effect_short m (effect.Replaced n) c = refl
  effect_short m (effect.Removed n) c = due_short c.call c (Some n) (length m.stored + 1)
  effect_short m (effect.Counted s) c = refl
  effect_short m (effect.Deferred n t) c = refl
  effect_short m (effect.Retired x) c = refl
  effect_short m (effect.Reclaimed x) c = refl
  effect_short m (effect.Ended n) c = refl
  effect_short m (effect.Taken t) c = refl

  quiet_finds : (f : Effect) (c : CallThere K V) → of_growth f ≡ false → FindsGrown f c
  quiet_finds (effect.Asked growth) c e = absurd (cc e)
  quiet_finds _ c e = tt

  -- of the call of this name
  module _ (own : List ℕ) (map : ℕ) where
    finds_by : (f : Effect) (v : Moment K V) (c : CallThere K V) → call_of own v ≡ Some c → FindsGrown f c → ByCall (FindsGrown f) (call_of own v)
    finds_by f v c is finds = subst (ByCall (FindsGrown f)) (sym is) finds

    pub none_find : (effects : List Effect) (m : Moment K V) (c : CallThere K V) → call_of own m ≡ Some c → NoneOfGrowth effects → FindGrown own map effects m
    none_find [] m c is none = tt
    none_find (f ∷ fs) m c is none = (
      finds_by f m c is (quiet_finds f c none.0),
      none_find fs (with_effect (Some own) (Some map) f m) (call_by m f c) (its_effect own map f m c is) none.1,
    )

    pub asked_finds : (m : Moment K V) (c : CallThere K V) → call_of own m ≡ Some c → c.is_short ≡ false → FindGrown own map (effect.Asked ABlock ∷ []) m
    asked_finds m c is grown = (finds_by (effect.Asked ABlock) m c is grown, tt)

    pub made_finds : (f : Effect) → ((c : CallThere K V) → FindsGrown f c) → (m : Moment K V) (c : CallThere K V) → call_of own m ≡ Some c → c.is_short ≡ false
        → FindGrown own map (effect.Asked ABlock ∷ f ∷ []) m
    made_finds f finds m c is grown = (
      finds_by (effect.Asked ABlock) m c is grown,
      (
        finds_by f (with_effect (Some own) (Some map) (effect.Asked ABlock) m) (call_by m (effect.Asked ABlock) c) (its_effect own map (effect.Asked ABlock) m c is)
            (finds (call_by m (effect.Asked ABlock) c)),
        tt,
      ),
    )

-- What is written, and what is taken away, is no growth.

-- nothing was made, nor asked for
abbrev pub NoneAsked : Changed → Type 0
NoneAsked (changed.Made k b) = ⊥
NoneAsked (changed.Unmade k) = ⊥
NoneAsked (changed.Roomed bucket had) = ⊥
NoneAsked _ = Unit {0}

no_growth : (f : Effect) → is_of_map f ≡ true → of_growth f ≡ false
no_growth (effect.Asked growth) e = absurd (cc e)
no_growth effect.PairMade e = absurd (cc e)
no_growth (effect.TableMade t) e = absurd (cc e)
no_growth _ e = refl

module _ (its : Acting) where
  table_none : (t : TableId) (len field stored : ℕ) (was is : Role) → NoneOfGrowth (in_table its t len field stored was is)
  table_none t len field stored was is =
      let at_place = if is_place len field then placed (spot_at t field) stored was is else [] in
      none_if of_growth (field == NEXT) (followed_by its is) (if field == DEFERRED then carried t is else at_place) (followed_none of_growth no_growth its (λ turn shape. refl) is)
      (none_if of_growth (field == DEFERRED) (carried t is) at_place (carried_none of_growth no_growth t is)
      (none_if of_growth (is_place len field) (placed (spot_at t field) stored was is) [] (placed_none of_growth no_growth (spot_at t field) stored was is (λ j e. refl)) tt))

  block_none : (r : Role) (field stored : ℕ) (q : Bool) (was is : Role) → NoneOfGrowth (in_block its r field stored q was is)
  block_none (role.Table t len) field stored q was is = none_if of_growth q [] (in_table its t len field stored was is) tt (table_none t len field stored was is)
  block_none (role.Counter map) field stored q was is = (refl, tt)
  block_none role.Free field stored q was is = tt
  block_none (role.OwnPair i) field stored q was is = tt
  block_none (role.OwnTable turn shape) field stored q was is = tt
  block_none (role.Pair n) field stored q was is = tt

  taken_none : (r : Role) → NoneOfGrowth (taken_by its r)
  taken_none (role.OwnPair j) = (refl, tt)
  taken_none (role.OwnTable turn shape) = (refl, tt)
  taken_none (role.Pair n) = (pair_back of_growth no_growth its n, tt)
  taken_none (role.Table t len) = (table_back of_growth no_growth its t, tt)
  taken_none role.Free = tt
  taken_none (role.Counter of) = tt

  module _ (known : Known) where
    written_none : (at : At) (old new : ℕ) → NoneOfGrowth (written_by its known at old new)
    written_none (Root r) old new = none_if of_growth (names_same old new) [] (led_to its (named known old) (named known new)) tt (led_none of_growth no_growth its (λ turn shape. refl) (named known old) (named known new))
    written_none (Word b field) old new = block_none (known.roles b) field known.stored (names_same old new) (named known old) (named known new)
    written_none (Entry b field) old new = retired_none of_growth no_growth its (names_same old new) field (known.roles b)
    written_none (Used r) old new = tt
    written_none (Slot s field) old new = tt

    pub none_asked : (told : Changed) → NoneAsked told → NoneOfGrowth (effects_of its known told)
    none_asked changed.Nothing none = tt
    none_asked (changed.Wrote at old new) none = written_none at old new
    none_asked (changed.Took b) none = taken_none (known.roles b)
    none_asked (changed.Made k b) none = absurd none
    none_asked (changed.Unmade k) none = absurd none
    none_asked (changed.Roomed bucket had) none = absurd none
