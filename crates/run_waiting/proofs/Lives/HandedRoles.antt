-- A block that is noted as a pair was noted so, or it was stored just now, and is in a map.
use Rattle.std.specs.Prelude.{◌≡◌, ◌⊎◌, ℕ, ◌+◌, ◌==◌, Bool, true, false, List, [], Option, Some, if◌then◌else◌}
use Rattle.std.proofs.Common.{refl, ap, sym, ◌∙◌, arith, inl, inr}
use Rattle.std.proofs.lemmas.Bool.{cases_eq}
use Rattle.run_debts.specs.Given.SeizeWordsWord.{block_in}
use Rattle.run_debts.specs.Given.SeizeWordsDeclared.at.At.TheVariants.{Root, Used, Slot, Entry, Word}
use Rattle.run_debts.specs.Given.TablesDeclared.table_words.TheConstants.{NEXT, DEFERRED}
use Rattle.run_debts.specs.Given.RunsDeclared.effect.Effect.{Effect}
use Rattle.run_debts.specs.Given.RunsDeclared.effect.TableId.{TableId}
use Rattle.run_debts.specs.Given.SchedulesEffects.{with_effects}
use Rattle.run_debts.specs.Given.SchedulesMoment.{Place, InMap, Out, Moment}
use Rattle.run_debts.specs.Given.SchedulesLists.{put}
use Rattle.run_debts.specs.Given.SchedulesViews.{is_in_a_map}
use Rattle.run_debts.specs.Given.EffectsDeclared.changed.Changed.{Changed}
use Rattle.run_debts.specs.Given.EffectsDeclared.changed.Changed.TheVariants as changed
use Rattle.run_debts.specs.Given.EffectsDeclared.changed.Kind.{Kind}
use Rattle.run_debts.specs.Given.EffectsDeclared.changed.Kind.TheVariants as kind
use Rattle.run_debts.specs.Given.EffectsEffects.{names_same, named, table_at, followed_by, carried, placed, spot_at, is_place, made_role, linked_on, stored_on, in_block, in_block_on, effects_of, known_after}
use Rattle.run_debts.specs.Given.EffectsKnown.{Known, with_role}
use Rattle.run_debts.specs.Given.EffectsDeclared.acting.Acting.{Acting}
use Rattle.run_debts.specs.Given.EffectsDeclared.role.Role.{Role}
use Rattle.run_debts.specs.Given.EffectsDeclared.role.Role.TheVariants as role
use Rattle.run_debts.proofs.Given.FollowsAlike.{put_here, put_elsewhere}
use Rattle.run_debts.proofs.Given.FollowsTold.{roomed_as_many}

module _ {K V : Type 0} (caller : Option (List ℕ)) (map : ℕ) (acting : Acting) (m : Moment K V) (known : Known) (b n : ℕ) where
  -- it was so, or these effects store it
  abbrev Was : List Effect → Type 0
  Was effects = (known.roles b ≡ role.Pair n) ⊎ (is_in_a_map ((with_effects caller (Some map) effects m).place n) ≡ true)

  -- one block is something else, which is no pair
  put_none : (x : ℕ) (r : Role) → (r ≡ role.Pair n → ⊥) → (effects : List Effect) → (with_role x r known).roles b ≡ role.Pair n → Was effects
  put_none x r none effects is = elim (cases_eq b x) as (λ _. Was effects) [
    | inl e ↦ absurd (none (sym (put_here x r known.roles b e) ∙ is))
    | inr ne ↦ inl (sym (put_elsewhere x r known.roles b ne) ∙ is)
  ]

  linked_was : (x : ℕ) (r : Role) (effects : List Effect) → (linked_on acting x r known).roles b ≡ role.Pair n → Was effects
  linked_was x (role.OwnTable turn shape) effects is = put_none x (role.Table (table_at acting turn) shape.len) (λ e. cc e) effects is
  linked_was x role.Free effects is = inl is
  linked_was x (role.OwnPair i) effects is = inl is
  linked_was x (role.Pair k) effects is = inl is
  linked_was x (role.Table u len) effects is = inl is
  linked_was x (role.Counter of) effects is = inl is

  -- a pair that is stored is in the map
  in_the_map : (stored : ℕ) (place : ℕ → Place) → n ≡ stored + 1 → is_in_a_map (put (stored + 1) (InMap map) place n) ≡ true
  in_the_map stored place e = ap is_in_a_map (put_here (stored + 1) (InMap map) place n e)

  stored_then : (t : TableId) (field : ℕ) (was : Role) (i : ℕ) → n ≡ known.stored + 1
      → is_in_a_map ((with_effects caller (Some map) (placed (spot_at t field) known.stored was (role.OwnPair i)) m).place n) ≡ true
  stored_then t field (role.Pair k) i e = in_the_map known.stored (put k Out m.place) e
  stored_then t field role.Free i e = in_the_map known.stored m.place e
  stored_then t field (role.OwnPair j) i e = in_the_map known.stored m.place e
  stored_then t field (role.OwnTable turn shape) i e = in_the_map known.stored m.place e
  stored_then t field (role.Table u len) i e = in_the_map known.stored m.place e
  stored_then t field (role.Counter of) i e = in_the_map known.stored m.place e

  stored_was : (t : TableId) (field x : ℕ) (was is : Role) → (stored_on x is known).roles b ≡ role.Pair n → Was (placed (spot_at t field) known.stored was is)
  stored_was t field x was (role.OwnPair i) noted = elim (cases_eq b x) as (λ _. Was (placed (spot_at t field) known.stored was (role.OwnPair i))) [
    | inl e ↦ inr (stored_then t field was i (let one : role.Pair (known.stored + 1) ≡ role.Pair n = sym (put_here x (role.Pair (known.stored + 1)) known.roles b e) ∙ noted in
        let number : known.stored + 1 ≡ n = cc one in sym number))
    | inr ne ↦ inl (sym (put_elsewhere x (role.Pair (known.stored + 1)) known.roles b ne) ∙ noted)
  ]
  stored_was t field x was role.Free noted = inl noted
  stored_was t field x was (role.Pair k) noted = inl noted
  stored_was t field x was (role.OwnTable turn shape) noted = inl noted
  stored_was t field x was (role.Table u len) noted = inl noted
  stored_was t field x was (role.Counter of) noted = inl noted

  -- a word of a table is written, by what it is
  word_was : (t : TableId) (field x : ℕ) (same next deferred placing : Bool) (was is : Role) → (deferred ≡ true → placing ≡ false)
      → (if same then known else (if next then linked_on acting x is known else (if placing then stored_on x is known else known))).roles b ≡ role.Pair n
      → Was (if same then [] else (if next then followed_by acting is else (if deferred then carried t is else (if placing then placed (spot_at t field) known.stored was is else []))))
  word_was t field x true next deferred placing was is apart noted = inl noted
  word_was t field x false true deferred placing was is apart noted = linked_was x is (followed_by acting is) noted
  word_was t field x false false deferred false was is apart noted = inl noted
  word_was t field x false false true true was is apart noted = absurd (let none = apart refl in cc none)
  word_was t field x false false false true was is apart noted = stored_was t field x was is noted

  -- the head of the list is no place
  no_place : (len field : ℕ) → (field == DEFERRED) ≡ true → is_place len field ≡ false
  no_place len field e = let one : field ≡ DEFERRED = grind (arith, e) in ap (is_place len) one

  block_was : (r : Role) (field x : ℕ) (same : Bool) (was is : Role) → (in_block_on acting r field same x is known).roles b ≡ role.Pair n → Was (in_block acting r field known.stored same was is)
  block_was (role.Table t len) field x same was is noted = word_was t field x same (field == NEXT) (field == DEFERRED) (is_place len field) was is (no_place len field) noted
  block_was role.Free field x same was is noted = inl noted
  block_was (role.OwnPair i) field x same was is noted = inl noted
  block_was (role.OwnTable turn shape) field x same was is noted = inl noted
  block_was (role.Pair k) field x same was is noted = inl noted
  block_was (role.Counter of) field x same was is noted = inl noted

  root_was : (same : Bool) (x : ℕ) (is : Role) (effects : List Effect) → (if same then known else linked_on acting x is known).roles b ≡ role.Pair n → Was effects
  root_was true x is effects noted = inl noted
  root_was false x is effects noted = linked_was x is effects noted

  made_none : (k : Kind) → made_role acting k ≡ role.Pair n → ⊥
  made_none kind.Pair e = cc e
  made_none (kind.Table len limit turn) e = cc e
  made_none kind.Shards e = cc e

  pub pair_was : (told : Changed) → (known_after acting told known).roles b ≡ role.Pair n → Was (effects_of acting known told)
  pair_was changed.Nothing noted = inl noted
  pair_was (changed.Wrote (Root r) old new) noted = root_was (names_same old new) (block_in new) (named known new) (effects_of acting known (changed.Wrote (Root r) old new)) noted
  pair_was (changed.Wrote (Used r) old new) noted = inl noted
  pair_was (changed.Wrote (Slot t field) old new) noted = inl noted
  pair_was (changed.Wrote (Entry x field) old new) noted = inl noted
  pair_was (changed.Wrote (Word x field) old new) noted = block_was (known.roles x) field (block_in new) (names_same old new) (named known old) (named known new) noted
  pair_was (changed.Made k x) noted = put_none x (made_role acting k) (made_none k) (effects_of acting known (changed.Made k x)) noted
  pair_was (changed.Unmade k) noted = inl noted
  pair_was (changed.Took x) noted = put_none x role.Free (λ e. cc e) (effects_of acting known (changed.Took x)) noted
  pair_was (changed.Roomed bucket had) noted = inl (sym (ap (λ (f : ℕ → Role). f b) (roomed_as_many acting known bucket had).0) ∙ noted)
