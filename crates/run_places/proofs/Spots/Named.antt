-- What a step of a call hands over has a block: that of the pair, or of the table.
use Rattle.std.specs.Prelude.{◌≡◌, ℕ, ◌==◌, Bool, true, false, List, [], ◌∷◌, if◌then◌else◌}
use Rattle.std.proofs.Common.{refl}
use Rattle.run_shows.specs.Given.SeizeWordsDeclared.at.At.{At}
use Rattle.run_shows.specs.Given.SeizeWordsDeclared.at.At.TheVariants.{Root, Used, Slot, Entry, Word}
use Rattle.run_shows.specs.Given.SeizeWordsWord.{block_in}
use Rattle.run_shows.specs.Given.SeizeDeclared.states.TheConstants.{FIRST}
use Rattle.run_shows.specs.Given.TablesDeclared.table_words.TheConstants.{NEXT, DEFERRED}
use Rattle.run_shows.specs.Given.RunsDeclared.effect.Effect.{Effect}
use Rattle.run_shows.specs.Given.RunsDeclared.effect.Effect.TheVariants.{Deferred, Retired}
use Rattle.run_shows.specs.Given.RunsDeclared.effect.Spot.{Spot}
use Rattle.run_shows.specs.Given.RunsDeclared.effect.TableId.{TableId}
use Rattle.run_shows.specs.Given.RunsDeclared.effect.Thing.TheVariants.{APair, ATable}
use Rattle.run_shows.specs.Given.EffectsEffects.{names_same, followed_by, led_to, carried, placed, spot_at, is_place, in_table, in_block, batched, named, written_by}
use Rattle.run_shows.specs.Given.EffectsKnown.{Known}
use Rattle.run_shows.specs.Given.EffectsDeclared.acting.Acting.{Acting}
use Rattle.run_shows.specs.Given.EffectsDeclared.acting.Acting.TheVariants.{Call}
use Rattle.run_shows.specs.Given.EffectsDeclared.role.Role.{Role}
use Rattle.run_shows.specs.Given.EffectsDeclared.role.Role.TheVariants as role

module _ (known : Known) where
  -- what is handed over has its block
  abbrev pub HasBlock : Effect → Type 0
  HasBlock (Deferred n t) = (b : ℕ) × (known.roles b ≡ role.Pair n)
  HasBlock (Retired (APair n)) = (b : ℕ) × (known.roles b ≡ role.Pair n)
  HasBlock (Retired (ATable t)) = (b : ℕ) × (len : ℕ) × (known.roles b ≡ role.Table t len)
  HasBlock _ = Unit {0}

  abbrev pub HaveBlocks : List Effect → Type 0
  HaveBlocks [] = Unit {0}
  HaveBlocks (f ∷ effects) = HasBlock f × HaveBlocks effects

  module _ (acting : Acting) where
    followed_named : (r : Role) → HaveBlocks (followed_by acting r)
    followed_named (role.OwnTable turn shape) = (tt, tt)
    followed_named _ = tt

    led_named : (was is : Role) → HaveBlocks (led_to acting was is)
    led_named was (role.OwnTable turn shape) = (tt, tt)
    led_named (role.Table t len) (role.Table u other) = (tt, tt)
    led_named _ _ = tt

  carried_named : (t : TableId) (b : ℕ) (r : Role) → known.roles b ≡ r → HaveBlocks (carried t r)
  carried_named t b (role.Pair n) e = ((b, e), tt)
  carried_named t b role.Free e = tt
  carried_named t b (role.OwnPair i) e = tt
  carried_named t b (role.OwnTable turn shape) e = tt
  carried_named t b (role.Table u len) e = tt
  carried_named t b (role.Counter of) e = tt

  placed_named : (s : Spot) (stored : ℕ) (was is : Role) → HaveBlocks (placed s stored was is)
  placed_named s stored (role.Pair n) (role.OwnPair caller) = (tt, (tt, tt))
  placed_named s stored _ (role.OwnPair caller) = (tt, tt)
  placed_named s stored (role.Pair n) role.Free = (tt, tt)
  placed_named s stored role.Free (role.Pair n) = (tt, tt)
  placed_named s stored _ _ = tt

  module _ (acting : Acting) (t : TableId) (len field stored : ℕ) (was : Role) (b : ℕ) (is : Role) (e : known.roles b ≡ is) where
    table_named : HaveBlocks (in_table acting t len field stored was is)
    table_named = by (field == NEXT)
      where
        in_place : (q : Bool) → HaveBlocks (if q then placed (spot_at t field) stored was is else [])
        in_place true = placed_named (spot_at t field) stored was is
        in_place false = tt

        in_list : (q : Bool) → HaveBlocks (if q then carried t is else (if is_place len field then placed (spot_at t field) stored was is else []))
        in_list true = carried_named t b is e
        in_list false = in_place (is_place len field)

        by : (q : Bool) → HaveBlocks (if q then followed_by acting is else (if field == DEFERRED then carried t is else (if is_place len field then placed (spot_at t field) stored was is else [])))
        by true = followed_named acting is
        by false = in_list (field == DEFERRED)

  block_named : (acting : Acting) (r : Role) (field stored : ℕ) (same : Bool) (was : Role) (b : ℕ) (is : Role) → known.roles b ≡ is → HaveBlocks (in_block acting r field stored same was is)
  block_named acting (role.Table t len) field stored true was b is e = tt
  block_named acting (role.Table t len) field stored false was b is e = table_named acting t len field stored was b is e
  block_named acting (role.Counter map) field stored same was b is e = (tt, tt)
  block_named acting role.Free field stored same was b is e = tt
  block_named acting (role.OwnPair i) field stored same was b is e = tt
  block_named acting (role.OwnTable turn shape) field stored same was b is e = tt
  block_named acting (role.Pair n) field stored same was b is e = tt

  module _ (caller map : ℕ) where
    retired_named : (b : ℕ) (r : Role) → known.roles b ≡ r → (field : ℕ) → HaveBlocks (batched (Call caller map) field r)
    retired_named b (role.Pair n) e field = by (field == FIRST)
      where
        by : (q : Bool) → HaveBlocks (if q then Retired (APair n) ∷ [] else [])
        by true = ((b, e), tt)
        by false = tt
    retired_named b (role.Table t len) e field = by (field == FIRST)
      where
        by : (q : Bool) → HaveBlocks (if q then Retired (ATable t) ∷ [] else [])
        by true = ((b, len, e), tt)
        by false = tt
    retired_named b role.Free e field = tt
    retired_named b (role.OwnPair i) e field = tt
    retired_named b (role.OwnTable turn shape) e field = tt
    retired_named b (role.Counter of) e field = tt

    unless : (q : Bool) (effects : List Effect) → HaveBlocks effects → HaveBlocks (if q then [] else effects)
    unless true effects all = tt
    unless false effects all = all

    pub written_named : (at : At) (old new : ℕ) → HaveBlocks (written_by (Call caller map) known at old new)
    written_named (Root r) old new = unless (names_same old new) (led_to (Call caller map) (named known old) (named known new)) (led_named (Call caller map) (named known old) (named known new))
    written_named (Word b field) old new = block_named (Call caller map) (known.roles b) field known.stored (names_same old new) (named known old) (block_in new) (named known new) refl
    written_named (Entry b field) old new = unless (names_same old new) (batched (Call caller map) field (known.roles b)) (retired_named b (known.roles b) refl field)
    written_named (Used r) old new = tt
    written_named (Slot s field) old new = tt
