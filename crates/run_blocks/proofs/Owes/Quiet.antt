-- What is written, and what is taken away, says nothing of what a call has made or asked for, save where a pair is stored or a table linked.
use Rattle.std.specs.Prelude.{◌≡◌, ℕ, ◌+◌, ◌==◌, Bool, true, false, List, [], ◌∷◌, if◌then◌else◌}
use Rattle.std.proofs.Common.{refl}
use Rattle.run_debts.specs.Given.SeizeDeclared.states.TheConstants.{FIRST}
use Rattle.run_debts.specs.Given.RunsDeclared.effect.Effect.{Effect}
use Rattle.run_debts.specs.Given.RunsDeclared.effect.Effect.TheVariants as effect
use Rattle.run_debts.specs.Given.RunsDeclared.effect.Spot.{Spot}
use Rattle.run_debts.specs.Given.RunsDeclared.effect.TableId.{TableId}
use Rattle.run_debts.specs.Given.RunsDeclared.effect.Thing.TheVariants.{APair, ATable}
use Rattle.run_debts.specs.Given.RunsDeclared.shapes.TableShape.{TableShape}
use Rattle.run_debts.specs.Given.EffectsEffects.{table_at, pair_taken, table_taken, followed_by, led_to, carried, placed, batched}
use Rattle.run_debts.specs.Given.EffectsDeclared.acting.Acting.{Acting}
use Rattle.run_debts.specs.Given.EffectsDeclared.acting.Acting.TheVariants as acts
use Rattle.run_debts.specs.Given.EffectsDeclared.role.Role.{Role}
use Rattle.run_debts.specs.Given.EffectsDeclared.role.Role.TheVariants as role
use Rattle.run_blocks.specs.Owes.Beside.{NoneOf}

-- the effect is of what the map has, not of what a call has made or asked for
abbrev pub is_of_map : Effect → Bool
is_of_map (effect.Promoted t) = true
is_of_map (effect.Copied n s) = true
is_of_map (effect.Replaced n) = true
is_of_map (effect.Removed n) = true
is_of_map (effect.Deferred n t) = true
is_of_map (effect.Retired x) = true
is_of_map (effect.Reclaimed x) = true
is_of_map (effect.Ended n) = true
is_of_map (effect.Taken t) = true
is_of_map _ = false

-- Effects of a kind that those are not of.
module _ (of : Effect → Bool) where
  pub none_if : (q : Bool) (a b : List Effect) → NoneOf of a → NoneOf of b → NoneOf of (if q then a else b)
  none_if true a b h k = h
  none_if false a b h k = k

  module _ (apart : (f : Effect) → is_of_map f ≡ true → of f ≡ false) where
    pub placed_none : (s : Spot) (stored : ℕ) (was is : Role) → ((j : ℕ) → is ≡ role.OwnPair j → of (effect.Stored (stored + 1) s) ≡ false) → NoneOf of (placed s stored was is)
    placed_none s stored (role.Pair n) (role.OwnPair i) stores = (apart (effect.Replaced n) refl, (stores i refl, tt))
    placed_none s stored _ (role.OwnPair i) stores = (stores i refl, tt)
    placed_none s stored (role.Pair n) role.Free stores = (apart (effect.Removed n) refl, tt)
    placed_none s stored role.Free (role.Pair n) stores = (apart (effect.Copied n s) refl, tt)
    placed_none s stored _ _ stores = tt

    pub carried_none : (t : TableId) (is : Role) → NoneOf of (carried t is)
    carried_none t (role.Pair n) = (apart (effect.Deferred n t) refl, tt)
    carried_none t _ = tt

    -- what is taken away that was the map's
    pub pair_back : (its : Acting) (n : ℕ) → of (pair_taken its n) ≡ false
    pair_back (acts.Ending map) n = apart (effect.Ended n) refl
    pair_back _ n = apart (effect.Reclaimed (APair n)) refl

    pub table_back : (its : Acting) (t : TableId) → of (table_taken its t) ≡ false
    table_back (acts.Ending map) t = apart (effect.Taken t) refl
    table_back _ t = apart (effect.Reclaimed (ATable t)) refl

    batched_none : (its : Acting) (field : ℕ) (r : Role) → NoneOf of (batched its field r)
    batched_none (acts.Call caller map) field (role.Pair n) = none_if (field == FIRST) (effect.Retired (APair n) ∷ []) [] (apart (effect.Retired (APair n)) refl, tt) tt
    batched_none (acts.Call caller map) field (role.Table t len) = none_if (field == FIRST) (effect.Retired (ATable t) ∷ []) [] (apart (effect.Retired (ATable t)) refl, tt) tt
    batched_none _ field _ = tt

    pub retired_none : (its : Acting) (q : Bool) (field : ℕ) (r : Role) → NoneOf of (if q then [] else batched its field r)
    retired_none its q field r = none_if q [] (batched its field r) tt (batched_none its field r)

    -- a link, where one is nothing of the kind
    module _ (its : Acting) (links : (turn : ℕ) (shape : TableShape) → of (effect.Linked (table_at its turn) shape) ≡ false) where
      pub followed_none : (is : Role) → NoneOf of (followed_by its is)
      followed_none (role.OwnTable turn shape) = (links turn shape, tt)
      followed_none _ = tt

      pub led_none : (was is : Role) → NoneOf of (led_to its was is)
      led_none _ (role.OwnTable turn shape) = (links turn shape, tt)
      led_none (role.Table t len) (role.Table u other) = (apart (effect.Promoted u) refl, tt)
      led_none _ _ = tt
