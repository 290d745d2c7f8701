-- What is so of the effects of each operation, by what is so of each list of effects that an operation may have.
use Rattle.std.specs.Prelude.{◌≡◌, ℕ, ◌+◌, ◌==◌, ◌&&◌, nat_lt, Bool, true, false, List, [], ◌∷◌, if◌then◌else◌}
use Rattle.std.proofs.Common.{refl}
use Rattle.seize_words.specs.declared.at.At.TheVariants.{Root, Used, Slot, Entry, Word}
use Rattle.seize.specs.declared.states.TheConstants.{FIRST}
use Rattle.run_effects.specs.Given.TablesDeclared.table_words.TheConstants.{NEXT, DEFERRED}
use Rattle.run_effects.specs.Given.RunsDeclared.effect.Effect.{Effect}
use Rattle.run_effects.specs.Given.RunsDeclared.effect.Effect.TheVariants as effect
use Rattle.run_effects.specs.Given.RunsDeclared.effect.Growth.TheVariants.{ABlock, ABucket}
use Rattle.run_effects.specs.Given.RunsDeclared.effect.Spot.{Spot}
use Rattle.run_effects.specs.Given.RunsDeclared.effect.TableId.{TableId}
use Rattle.run_effects.specs.Given.RunsDeclared.shapes.TableShape.{TableShape}
use Rattle.run_effects.specs.Given.RunsDeclared.effect.Thing.{Thing}
use Rattle.run_effects.specs.Given.RunsDeclared.effect.Thing.TheVariants.{APair, ATable}
use Rattle.run_effects.specs.declared.changed.Changed.{Changed}
use Rattle.run_effects.specs.declared.changed.Changed.TheVariants as changed
use Rattle.run_effects.specs.declared.changed.Kind.{Kind}
use Rattle.run_effects.specs.declared.changed.Kind.TheVariants as kind
use Rattle.run_effects.specs.Effects.Effects.{table_at, made_by, pair_taken, table_taken, taken_by, names_same, followed_by, led_to, carried, placed, spot_at, is_place, in_table, in_block, batched, named, effects_of}
use Rattle.run_effects.specs.Effects.Known.{Known}
use Rattle.run_effects.specs.declared.acting.Acting.{Acting}
use Rattle.run_effects.specs.declared.acting.Acting.TheVariants as acts
use Rattle.run_effects.specs.declared.role.Role.{Role}
use Rattle.run_effects.specs.declared.role.Role.TheVariants as role
use Rattle.run_shows.proofs.Follows.Onward.{IsOfMap}

-- It is so of each list that an operation may have, but for one that makes a table the root, that counts, that takes away what was the map's, or that asks for a bucket.
pub record OfEach (acting : Acting) (known : Known) (So : List Effect → Type 0) : Type 0 where
  pub nothing : So []
  pub linked : (turn : ℕ) (shape : TableShape) → So (effect.Linked (table_at acting turn) shape ∷ [])
  pub deferred : (n : ℕ) (t : TableId) → So (effect.Deferred n t ∷ [])
  pub stored : (s : Spot) → So (effect.Stored (known.stored + 1) s ∷ [])
  pub replaced : (old : ℕ) (s : Spot) → So (effect.Replaced old ∷ effect.Stored (known.stored + 1) s ∷ [])
  pub removed : (n : ℕ) → So (effect.Removed n ∷ [])
  pub copied : (n : ℕ) (s : Spot) → So (effect.Copied n s ∷ [])
  pub retired : (x : Thing) → So (effect.Retired x ∷ [])
  pub asked : So (effect.Asked ABlock ∷ [])
  pub pair_made : So (effect.Asked ABlock ∷ effect.PairMade ∷ [])
  pub table_made : (turn : ℕ) → So (effect.Asked ABlock ∷ effect.TableMade (table_at acting turn) ∷ [])
  pub pair_given_up : So (effect.PairGivenUp ∷ [])
  pub table_given_up : (turn : ℕ) → So (effect.TableGivenUp (table_at acting turn) ∷ [])

module _ (acting : Acting) (known : Known) (So : List Effect → Type 0) (each : OfEach acting known So) where
  if_so : (q : Bool) (a b : List Effect) → So a → So b → So (if q then a else b)
  if_so true a b x y = x
  if_so false a b x y = y

  followed_so : (is : Role) → So (followed_by acting is)
  followed_so (role.OwnTable turn shape) = each.linked turn shape
  followed_so _ = each.nothing

  -- so of the root, where a table may become it
  pub led_so : ((t : TableId) → So (effect.Promoted t ∷ [])) → (was is : Role) → So (led_to acting was is)
  led_so promoted _ (role.OwnTable turn shape) = each.linked turn shape
  led_so promoted (role.Table t len) (role.Table u other) = promoted u
  led_so promoted _ _ = each.nothing

  carried_so : (t : TableId) (is : Role) → So (carried t is)
  carried_so t (role.Pair n) = each.deferred n t
  carried_so t _ = each.nothing

  placed_so : (s : Spot) (was is : Role) → So (placed s known.stored was is)
  placed_so s (role.Pair old) (role.OwnPair i) = each.replaced old s
  placed_so s _ (role.OwnPair i) = each.stored s
  placed_so s (role.Pair old) role.Free = each.removed old
  placed_so s role.Free (role.Pair old) = each.copied old s
  placed_so s _ _ = each.nothing

  table_so : (t : TableId) (len field : ℕ) (was is : Role) → So (in_table acting t len field known.stored was is)
  table_so t len field was is =
      let at_place = if is_place len field then placed (spot_at t field) known.stored was is else [] in
      if_so (field == NEXT) (followed_by acting is) (if field == DEFERRED then carried t is else at_place) (followed_so is)
      (if_so (field == DEFERRED) (carried t is) at_place (carried_so t is)
      (if_so (is_place len field) (placed (spot_at t field) known.stored was is) [] (placed_so (spot_at t field) was is) each.nothing))

  block_so : (r : Role) (field : ℕ) (q : Bool) (was is : Role) → ((map : ℕ) → r ≡ role.Counter map → So (effect.Counted field ∷ [])) → So (in_block acting r field known.stored q was is)
  block_so (role.Table t len) field q was is counted = if_so q [] (in_table acting t len field known.stored was is) each.nothing (table_so t len field was is)
  block_so (role.Counter map) field q was is counted = counted map refl
  block_so _ field q was is counted = each.nothing

  batched_so : (a : Acting) (field : ℕ) (r : Role) → So (batched a field r)
  batched_so (acts.Call caller map) field (role.Pair n) = if_so (field == FIRST) (effect.Retired (APair n) ∷ []) [] (each.retired (APair n)) each.nothing
  batched_so (acts.Call caller map) field (role.Table t len) = if_so (field == FIRST) (effect.Retired (ATable t) ∷ []) [] (each.retired (ATable t)) each.nothing
  batched_so _ field r = each.nothing

  made_so : (k : Kind) → So (effect.Asked ABlock ∷ made_by acting k)
  made_so kind.Pair = each.pair_made
  made_so (kind.Table len limit turn) = each.table_made turn
  made_so kind.Shards = each.asked

  -- so of what is taken away, where that may be the map's
  pub taken_so : ((n : ℕ) → So (pair_taken acting n ∷ [])) → ((t : TableId) → So (table_taken acting t ∷ [])) → (r : Role) → IsOfMap r → So (taken_by acting r)
  taken_so pair table (role.Pair n) is = pair n
  taken_so pair table (role.Table t len) is = table t
  taken_so pair table role.Free is = absurd is
  taken_so pair table (role.OwnPair i) is = absurd is
  taken_so pair table (role.OwnTable turn shape) is = absurd is
  taken_so pair table (role.Counter map) is = absurd is

  own_taken_so : (r : Role) → (IsOfMap r → So (taken_by acting r)) → So (taken_by acting r)
  own_taken_so (role.OwnPair i) of_map = each.pair_given_up
  own_taken_so (role.OwnTable turn shape) of_map = each.table_given_up turn
  own_taken_so (role.Pair n) of_map = of_map tt
  own_taken_so (role.Table t len) of_map = of_map tt
  own_taken_so role.Free of_map = each.nothing
  own_taken_so (role.Counter map) of_map = each.nothing

  -- so of each operation, where it is so of one that writes a root, that counts, that takes away what was the map's, and that asks for a bucket
  pub operation_so : (told : Changed) → ((r old new : ℕ) → told ≡ changed.Wrote (Root r) old new → So (led_to acting (named known old) (named known new)))
      → ((b field old new map : ℕ) → told ≡ changed.Wrote (Word b field) old new → known.roles b ≡ role.Counter map → So (effect.Counted field ∷ []))
      → ((b : ℕ) → told ≡ changed.Took b → IsOfMap (known.roles b) → So (taken_by acting (known.roles b)))
      → ((bucket : ℕ) (had : Bool) → told ≡ changed.Roomed bucket had → So (effect.Asked ABucket ∷ [])) → So (effects_of acting known told)
  operation_so changed.Nothing roots counts takes buckets = each.nothing
  operation_so (changed.Wrote (Root r) old new) roots counts takes buckets = if_so (names_same old new) [] (led_to acting (named known old) (named known new)) each.nothing (roots r old new refl)
  operation_so (changed.Wrote (Used r) old new) roots counts takes buckets = each.nothing
  operation_so (changed.Wrote (Slot s field) old new) roots counts takes buckets = each.nothing
  operation_so (changed.Wrote (Entry b field) old new) roots counts takes buckets = if_so (names_same old new) [] (batched acting field (known.roles b)) each.nothing (batched_so acting field (known.roles b))
  operation_so (changed.Wrote (Word b field) old new) roots counts takes buckets =
      block_so (known.roles b) field (names_same old new) (named known old) (named known new) (λ map is. counts b field old new map refl is)
  operation_so (changed.Made k b) roots counts takes buckets = made_so k
  operation_so (changed.Unmade k) roots counts takes buckets = each.asked
  operation_so (changed.Took b) roots counts takes buckets = own_taken_so (known.roles b) (takes b refl)
  operation_so (changed.Roomed bucket had) roots counts takes buckets = if_so (had && nat_lt bucket known.buckets) [] (effect.Asked ABucket ∷ []) each.nothing (buckets bucket had refl)

  -- so of each where it is so of all
  pub each_operation_so : ((t : TableId) → So (effect.Promoted t ∷ [])) → ((field : ℕ) → So (effect.Counted field ∷ [])) → ((n : ℕ) → So (pair_taken acting n ∷ [])) → ((t : TableId) → So (table_taken acting t ∷ []))
      → So (effect.Asked ABucket ∷ []) → (told : Changed) → So (effects_of acting known told)
  each_operation_so promoted counted pair table bucket told =
      operation_so told (λ r old new e. led_so promoted (named known old) (named known new)) (λ b field old new map e is. counted field) (λ b e is. taken_so pair table (known.roles b) is) (λ n had e. bucket)
