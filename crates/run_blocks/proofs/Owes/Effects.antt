-- What the effects of an operation find of a call's block for a pair, and whether it has one after them.
use Rattle.std.specs.Prelude.{◌≡◌, ℕ, ◌+◌, Bool, true, false, List, [], ◌∷◌, length, Option, Some}
use Rattle.std.proofs.Common.{refl, ap, sym, subst, ◌∙◌}
use Rattle.run_debts.specs.Given.RunsDeclared.call.Call.{Call}
use Rattle.run_debts.specs.Given.RunsDeclared.call.Call.TheVariants as call
use Rattle.run_debts.specs.Given.RunsDeclared.effect.Effect.{Effect}
use Rattle.run_debts.specs.Given.RunsDeclared.effect.Effect.TheVariants as effect
use Rattle.run_debts.specs.Given.RunsDeclared.effect.Growth.TheVariants.{ABlock}
use Rattle.run_debts.specs.Given.SchedulesEffects.{due_for, call_by, with_effect}
use Rattle.run_debts.specs.Given.SchedulesEntry.{ByCall}
use Rattle.run_debts.specs.Given.SchedulesGrowing.{has_value_for}
use Rattle.run_debts.specs.Given.SchedulesMoment.{UnderWay as CallThere, Moment}
use Rattle.run_debts.specs.Given.SchedulesViews.{call_of}
use Rattle.run_debts.specs.Given.RunsDeclared.effect.Growth.{Growth}
use Rattle.run_blocks.specs.Owes.Beside.{of_block, NoneOfBlock}
use Rattle.run_blocks.specs.Owes.Keeping.{FindsBlock, FindBlocks}
use Rattle.run_blocks.proofs.Owes.Fields.{all_by, its_effect}
use Rattle.run_blocks.proofs.Owes.Roles.{IsStoring, StoresNew, StoresOver}

-- whether a call has such a block after an effect
abbrev pub block_by : Effect → Bool → Bool
block_by effect.PairMade h = true
block_by effect.PairGivenUp h = false
block_by (effect.Stored n s) h = false
block_by _ h = h

kept_by : (f : Effect) → of_block f ≡ false → (h : Bool) → block_by f h ≡ h
kept_by effect.PairMade e h = absurd (cc e)
kept_by effect.PairGivenUp e h = absurd (cc e)
kept_by (effect.Stored n s) e h = absurd (cc e)
kept_by _ e h = refl

pub all_kept : (effects : List Effect) → NoneOfBlock effects → (h : Bool) → all_by block_by effects h ≡ h
all_kept [] none h = refl
all_kept (f ∷ fs) none h = ap (all_by block_by fs) (kept_by f none.0 h) ∙ all_kept fs none.1 h

pub none_stored : (effects : List Effect) → IsStoring effects → (h : Bool) → all_by block_by effects h ≡ false
none_stored _ (StoresNew n s) h = refl
none_stored _ (StoresOver p n s) h = refl

module _ {K V : Type 0} where
  due_block : (its : Call K V) (c : CallThere K V) (old : Option ℕ) (new : ℕ) → (due_for its c old new).has_block ≡ c.has_block
  due_block (call.On one) c old new = refl
  due_block (call.Reserve n) c old new = refl
  due_block call.Clear c old new = refl
  due_block call.Retain c old new = refl
  due_block call.Len c old new = refl
  due_block call.Walk c old new = refl

  pub effect_block : (m : Moment K V) (f : Effect) (c : CallThere K V) → (call_by m f c).has_block ≡ block_by f c.has_block
  effect_block m (effect.Asked growth) c = refl
  effect_block m effect.PairMade c = refl
  effect_block m effect.PairGivenUp c = refl
  effect_block m (effect.TableMade t) c = refl
  effect_block m (effect.TableGivenUp t) c = refl
  effect_block m (effect.Linked t shape) c = refl
  effect_block m (effect.Promoted t) c = refl
  effect_block m (effect.Copied n s) c = refl
  effect_block m (effect.Stored n s) c = refl
  effect_block m (effect.Replaced n) c = refl
  effect_block m (effect.Removed n) c = due_block c.call c (Some n) (length m.stored + 1)
  effect_block m (effect.Counted s) c = refl
  effect_block m (effect.Deferred n t) c = refl
  effect_block m (effect.Retired x) c = refl
  effect_block m (effect.Reclaimed x) c = refl
  effect_block m (effect.Ended n) c = refl
  effect_block m (effect.Taken t) c = refl

  -- to ask for a growth leaves it the value
  pub value_there : (growth : Growth) (m : Moment K V) (its : Call K V) (c : CallThere K V) → has_value_for its c ≡ has_value_for its (call_by m (effect.Asked growth) c)
  value_there growth m (call.On one) c = refl
  value_there growth m (call.Reserve n) c = refl
  value_there growth m call.Clear c = refl
  value_there growth m call.Retain c = refl
  value_there growth m call.Len c = refl
  value_there growth m call.Walk c = refl

  quiet_finds : (f : Effect) (c : CallThere K V) → of_block f ≡ false → FindsBlock f c
  quiet_finds effect.PairMade c e = absurd (cc e)
  quiet_finds effect.PairGivenUp c e = absurd (cc e)
  quiet_finds (effect.Stored n s) c e = absurd (cc e)
  quiet_finds _ c e = tt

  -- of the call of this name
  module _ (own : List ℕ) (map : ℕ) where
    finds_by : (f : Effect) (v : Moment K V) (c : CallThere K V) → call_of own v ≡ Some c → FindsBlock f c → ByCall (FindsBlock f) (call_of own v)
    finds_by f v c is finds = subst (ByCall (FindsBlock f)) (sym is) finds

    pub none_find : (effects : List Effect) (m : Moment K V) (c : CallThere K V) → call_of own m ≡ Some c → NoneOfBlock effects → FindBlocks own map effects m
    none_find [] m c is none = tt
    none_find (f ∷ fs) m c is none = (
      finds_by f m c is (quiet_finds f c none.0),
      none_find fs (with_effect (Some own) (Some map) f m) (call_by m f c) (its_effect own map f m c is) none.1,
    )

    pub made_find : (m : Moment K V) (c : CallThere K V) → call_of own m ≡ Some c → c.has_block ≡ false → has_value_for c.call c ≡ true → FindBlocks own map (effect.Asked ABlock ∷ effect.PairMade ∷ []) m
    made_find m c is none valued = (
      finds_by (effect.Asked ABlock) m c is tt,
      (
        finds_by effect.PairMade (with_effect (Some own) (Some map) (effect.Asked ABlock) m) (call_by m (effect.Asked ABlock) c) (its_effect own map (effect.Asked ABlock) m c is) (refl, none, sym (value_there ABlock m c.call c) ∙ valued),
        tt,
      ),
    )

    pub given_find : (m : Moment K V) (c : CallThere K V) → call_of own m ≡ Some c → c.has_block ≡ true → FindBlocks own map (effect.PairGivenUp ∷ []) m
    given_find m c is has = (finds_by effect.PairGivenUp m c is has, tt)

    pub storing_find : (effects : List Effect) → IsStoring effects → (m : Moment K V) (c : CallThere K V) → call_of own m ≡ Some c → c.has_block ≡ true → FindBlocks own map effects m
    storing_find _ (StoresNew n s) m c is has = (finds_by (effect.Stored n s) m c is has, tt)
    storing_find _ (StoresOver p n s) m c is has = (
      finds_by (effect.Replaced p) m c is tt,
      (finds_by (effect.Stored n s) (with_effect (Some own) (Some map) (effect.Replaced p) m) (call_by m (effect.Replaced p) c) (its_effect own map (effect.Replaced p) m c is) has, tt),
    )
