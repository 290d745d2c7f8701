-- Whoever makes an operation, as many pairs are noted as stored as were before, or more.
use Rattle.std.specs.Prelude.{◌==◌, ℕ, ◌≤◌, Bool, true, false, if◌then◌else◌}
use Rattle.std.proofs.Common.{arith}
use Rattle.run_places.specs.Given.SeizeWordsWord.{block_in}
use Rattle.run_places.specs.Given.SeizeWordsDeclared.at.At.TheVariants.{Root, Used, Slot, Entry, Word}
use Rattle.run_places.specs.Given.TablesDeclared.table_words.TheConstants.{NEXT}
use Rattle.run_places.specs.Given.EffectsDeclared.changed.Changed.{Changed}
use Rattle.run_places.specs.Given.EffectsDeclared.changed.Changed.TheVariants as changed
use Rattle.run_places.specs.Given.EffectsEffects.{is_place, names_same, named, linked_on, stored_on, in_table_on, in_block_on, known_after}
use Rattle.run_places.specs.Given.EffectsKnown.{Known}
use Rattle.run_places.specs.Given.EffectsDeclared.acting.Acting.{Acting}
use Rattle.run_places.specs.Given.EffectsDeclared.role.Role.{Role}
use Rattle.run_places.specs.Given.EffectsDeclared.role.Role.TheVariants as role
use Rattle.run_places.proofs.Given.FollowsTold.{roomed_as_many}

module _ (acting : Acting) (known : Known) where
  abbrev HasMore : Known → Type 0
  HasMore known2 = known.stored ≤ known2.stored

  as_many : HasMore known
  as_many = omega arith

  either_more : (q : Bool) (x y : Known) → HasMore x → HasMore y → HasMore (if q then x else y)
  either_more true x y a b = a
  either_more false x y a b = b

  linked_more : (b : ℕ) (r : Role) → HasMore (linked_on acting b r known)
  linked_more b (role.OwnTable turn shape) = omega arith
  linked_more b _ = omega arith

  stored_more : (b : ℕ) (r : Role) → HasMore (stored_on b r known)
  stored_more b (role.OwnPair caller) = omega arith
  stored_more b _ = omega arith

  in_table_more : (len field b : ℕ) (r : Role) → HasMore (in_table_on acting len field b r known)
  in_table_more len field b r =
      either_more (field == NEXT) (linked_on acting b r known) (if is_place len field then stored_on b r known else known) (linked_more b r)
      (either_more (is_place len field) (stored_on b r known) known (stored_more b r) as_many)

  in_block_more : (of : Role) (field : ℕ) (same : Bool) (b : ℕ) (r : Role) → HasMore (in_block_on acting of field same b r known)
  in_block_more (role.Table t len) field same b r = either_more same known (in_table_on acting len field b r known) as_many (in_table_more len field b r)
  in_block_more _ field same b r = as_many

  pub more_noted : (told : Changed) → HasMore (known_after acting told known)
  more_noted changed.Nothing = as_many
  more_noted (changed.Wrote (Root r) before after) =
      either_more (names_same before after) known (linked_on acting (block_in after) (named known after) known) as_many (linked_more (block_in after) (named known after))
  more_noted (changed.Wrote (Word b field) before after) = in_block_more (known.roles b) field (names_same before after) (block_in after) (named known after)
  more_noted (changed.Wrote (Used r) before after) = as_many
  more_noted (changed.Wrote (Slot t field) before after) = as_many
  more_noted (changed.Wrote (Entry b field) before after) = as_many
  more_noted (changed.Made kind b) = as_many
  more_noted (changed.Unmade kind) = as_many
  more_noted (changed.Took b) = as_many
  more_noted (changed.Roomed bucket had) = let e = (roomed_as_many acting known bucket had).1 in omega (arith, e)
