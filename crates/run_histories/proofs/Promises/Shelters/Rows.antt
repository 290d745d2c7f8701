-- A step of a row on a slot leaves sheltered what is so, and reclaims none of it.
use Rattle.std.specs.Prelude.{◌≡◌, ℕ, nat_lt, Bool, true, false, ◌||◌, ◌&&◌, List, [], ◌∷◌, if◌then◌else◌}
use Rattle.std.proofs.Common.{refl, sym, subst, ap, ◌∙◌, arith, inl}
use Rattle.run_places.specs.Given.SeizeWordsMem.{Mem, value_at}
use Rattle.run_places.specs.Given.SeizeWordsDeclared.at.At.TheVariants.{Root, Used, Slot, Entry, Word}
use Rattle.run_places.specs.Given.SeizeLaw.{holds}
use Rattle.run_places.specs.Given.SeizeWorld.{World, Step}
use Rattle.run_places.proofs.Given.SeizeAloneHistories.NotTaken.{IsHeld, kept_value, still_held}
use Rattle.run_places.proofs.Given.SeizeAloneHistories.Reached.{Reached}
use Rattle.run_places.proofs.Given.SeizeAloneHistories.Uses.{inside_kept}
use Rattle.run_places.specs.Given.TablesNodes.{deferred_word}
use Rattle.run_places.specs.Given.TablesDeclared.node.Node.{Node}
use Rattle.run_places.specs.Given.RunsPresent.{Present}
use Rattle.run_places.specs.Given.RunsDeclared.effect.Effect.TheVariants.{Asked}
use Rattle.run_places.specs.Given.RunsDeclared.effect.Growth.TheVariants.{ABucket}
use Rattle.run_places.specs.Given.RunsDeclared.effect.Thing.{Thing}
use Rattle.run_places.specs.Given.RunsDeclared.effect.Thing.TheVariants.{APair, ATable}
use Rattle.run_places.specs.Given.SchedulesLists.{is_in}
use Rattle.run_places.specs.Given.SchedulesMoment.{Sheltered, Moment}
use Rattle.run_places.specs.Given.SchedulesThings.{same_thing}
use Rattle.run_places.specs.Given.EffectsDeclared.changed.Changed.{Changed}
use Rattle.run_places.specs.Given.EffectsDeclared.changed.Changed.TheVariants as changed
use Rattle.run_places.proofs.Given.CallersTogether.Came.{came_reached}
use Rattle.run_places.specs.Given.EffectsEffects.{names_same, taken_by, effects_of, known_after}
use Rattle.run_places.specs.Given.EffectsKnown.{Known}
use Rattle.run_places.specs.Given.EffectsDeclared.acting.Acting.TheVariants.{Row}
use Rattle.run_places.specs.Given.EffectsDeclared.role.Role.{Role}
use Rattle.run_places.specs.Given.EffectsDeclared.role.Role.TheVariants as role
use Rattle.run_places.specs.Given.ScenesDeclared.row.RowTold.{RowTold}
use Rattle.run_places.specs.Given.ScenesDeclared.row.SlotRow.{SlotRow}
use Rattle.run_places.proofs.Given.FollowsOnward.{IsOfMap}
use Rattle.run_places.proofs.Given.FollowsOperations.{LeavesBy, operated_leaves}
use Rattle.run_places.proofs.Given.FollowsTold.{roomed_as_many}
use Rattle.run_places.proofs.Given.OthersRowPlans.{TellsRow, row_tells, row_operated}
use Rattle.run_places.proofs.Spots.Calm.{put_back}
use Rattle.run_places.proofs.Moments.OnSlots.{none_some}
use Rattle.run_histories.specs.Promises.Shelters.{RowsShelter, NoneIsBack}
use Rattle.run_histories.specs.Promises.Sheltered.{AreSheltered, AreShelteredOn, GuardsAreInside, GuardsAreOn, IsOfThing, IsShelteredOn}
use Rattle.run_histories.proofs.Promises.Shelters.Lasting.{Lasts, of_map, all_last, guards_last}
use Rattle.run_histories.proofs.Promises.Shelters.Within.{GoOn, Within}
use Rattle.run_histories.proofs.Promises.Lists.{all_of}
use Rattle.run_places.proofs.Given.ScenesMay.{may_row}
use Rattle.run_places.specs.Given.ScenesHeld.{Held, IsAt}
use Rattle.run_places.specs.Given.ScenesOnSlots.{HappensAt, RowSteps}
use Rattle.run_places.specs.Given.ScenesScene.{IsOnSlot, Scene}
use Rattle.run_places.proofs.Spots.Unreclaimed.{table_is as tables_are}

-- two things that are the same

pub things_are : (x y : Thing) → same_thing x y ≡ true → x ≡ y
things_are (APair n) (APair k) e = (let it : n ≡ k = grind (arith, e) in ap APair it)
things_are (ATable t) (ATable u) e = ap ATable (tables_are t u e)
things_are (APair n) (ATable u) e = absurd (cc e)
things_are (ATable t) (APair k) e = absurd (cc e)

-- a thing that is another one is not the only one of a list
not_only : (x y : Thing) → (x ≡ y → ⊥) → is_in same_thing x (y ∷ []) ≡ false
not_only x y other = by (same_thing x y) refl
  where
    by : (q : Bool) → same_thing x y ≡ q → (q || false) ≡ false
    by true e = absurd (other (things_are x y e))
    by false e = refl

pub none_back : (xs : List Sheltered) → NoneIsBack [] xs
none_back [] = tt
none_back (x ∷ xs) = (refl, none_back xs)

module _ {K V : Type 0} (same : K → K → Bool) (hash : ℕ → K → ℕ) (m : Moment K V) (known : Known) (s : Scene K V) (old new : Held K V) (at : IsAt same hash old s)
    (i : ℕ) (row : SlotRow) (here : IsOnSlot s i row) (end : SlotRow × RowTold (Node K V))
    (steps : RowSteps K V row old.memory new.memory new.changed end) (happened : HappensAt same hash (Step i) s old new) where
  abbrev w : World (Node K V)
  w = s.world

  abbrev w2 : World (Node K V)
  w2 = happened.0

  abbrev known2 : Known
  known2 = known_after Row new.changed known

  left : LeavesBy w.memory w2.memory new.changed
  left =
      subst (λ (n : Mem (Node K V)). LeavesBy w.memory n new.changed) (sym happened.4.memory)
      (subst (λ (n : Mem (Node K V)). LeavesBy n new.memory new.changed) (sym at.memory)
      (operated_leaves old.memory new.memory new.changed
      (row_operated old.memory new.memory new.changed end row (may_row same hash old s at i row here) steps)))

  reached : Reached deferred_word old.batch_size w
  reached = came_reached old.batch_size w at.together.makings.standing.came

  tells : TellsRow new.changed
  tells = row_tells old.memory new.memory new.changed end row steps

  as_many : (told : Changed) → TellsRow told → (known_after Row told known).stored ≡ known.stored
  as_many changed.Nothing is = refl
  as_many (changed.Wrote (Slot t field) before now) is = refl
  as_many (changed.Wrote (Entry b field) before now) is = refl
  as_many (changed.Wrote (Root r) before now) is = absurd is
  as_many (changed.Wrote (Used r) before now) is = absurd is
  as_many (changed.Wrote (Word b field) before now) is = absurd is
  as_many (changed.Made kind b) is = absurd is
  as_many (changed.Unmade kind) is = absurd is
  as_many (changed.Took b) is = refl
  as_many (changed.Roomed bucket had) is = (roomed_as_many Row known bucket had).1

  -- a block of a map was so
  was_so : (told : Changed) → TellsRow told → (b : ℕ) → IsOfMap ((known_after Row told known).roles b) → (known_after Row told known).roles b ≡ known.roles b
  was_so changed.Nothing is b of = refl
  was_so (changed.Wrote (Slot t field) before now) is b of = refl
  was_so (changed.Wrote (Entry c field) before now) is b of = refl
  was_so (changed.Wrote (Root r) before now) is b of = absurd is
  was_so (changed.Wrote (Used r) before now) is b of = absurd is
  was_so (changed.Wrote (Word c field) before now) is b of = absurd is
  was_so (changed.Made kind c) is b of = absurd is
  was_so (changed.Unmade kind) is b of = absurd is
  was_so (changed.Took c) is b of = put_back known.roles c role.Free (λ none. none) b of
  was_so (changed.Roomed bucket had) is b of = ap (λ (f : ℕ → Role). f b) (roomed_as_many Row known bucket had).0

  -- a block that a section holds is not taken away
  not_gone : (t b : ℕ) → new.changed ≡ changed.Took b → holds t b w.log ≡ true → ⊥
  not_gone t b took held =
      let it = subst (LeavesBy w.memory w2.memory) took left in
      none_some (value_at w.memory b) it.0 (sym (kept_value deferred_word old.batch_size w reached i w2 happened.1 b (IsHeld t held)) ∙ it.1)

  -- whichever sections go on, and hold what they held
  module _ (On On2 : ℕ → Type 0) (goes : GoOn On On2 w w2) (there : Present) where
    lasts : Lasts On On2 known known2 w w2
    lasts = record {
      inside = goes.inside;
      held = λ t b inside of h. goes.held t b inside h;
      more = (let e = as_many new.changed tells in omega (arith, e));
      back = λ x b come of. inl (sym (was_so new.changed tells b (of_map x (known2.roles b) of)));
    }

    not_it : (b : ℕ) → new.changed ≡ changed.Took b → (y : Thing) → IsOfThing y (known.roles b) → (x : Sheltered) → IsShelteredOn On there w known x → x.thing ≡ y → ⊥
    not_it b took y of x (come, g, is, inside, each) e = not_gone g.slot b took (each b (subst (λ (z : Thing). IsOfThing z (known.roles b)) (sym e) of))

    taken_back : (b : ℕ) → new.changed ≡ changed.Took b → (r : Role) → known.roles b ≡ r → (xs : List Sheltered) → AreShelteredOn On there w known xs → NoneIsBack (taken_by Row r) xs
    taken_back b took role.Free is xs all = none_back xs
    taken_back b took (role.OwnPair c) is xs all = none_back xs
    taken_back b took (role.OwnTable turn shape) is xs all = none_back xs
    taken_back b took (role.Counter of) is xs all = none_back xs
    taken_back b took (role.Pair n) is xs all =
        all_of (IsShelteredOn On there w known) (λ (x : Sheltered). is_in same_thing x.thing (APair n ∷ []) ≡ false) xs (λ x so. not_only x.thing (APair n) (not_it b took (APair n) is x so)) all
    taken_back b took (role.Table t len) is xs all =
        all_of (IsShelteredOn On there w known) (λ (x : Sheltered). is_in same_thing x.thing (ATable t ∷ []) ≡ false) xs (λ x so. not_only x.thing (ATable t) (not_it b took (ATable t) (len, is) x so)) all

    nothing_back : (q : Bool) (xs : List Sheltered) → NoneIsBack (if q then [] else []) xs
    nothing_back true xs = none_back xs
    nothing_back false xs = none_back xs

    roomed_back : (q : Bool) (xs : List Sheltered) → NoneIsBack (if q then [] else Asked ABucket ∷ []) xs
    roomed_back true xs = none_back xs
    roomed_back false xs = none_back xs

    told_back : (told : Changed) → new.changed ≡ told → TellsRow told → (xs : List Sheltered) → AreShelteredOn On there w known xs → NoneIsBack (effects_of Row known told) xs
    told_back changed.Nothing is tells_so xs all = none_back xs
    told_back (changed.Wrote (Slot t field) before now) is tells_so xs all = none_back xs
    told_back (changed.Wrote (Entry b field) before now) is tells_so xs all = nothing_back (names_same before now) xs
    told_back (changed.Wrote (Root r) before now) is tells_so xs all = absurd tells_so
    told_back (changed.Wrote (Used r) before now) is tells_so xs all = absurd tells_so
    told_back (changed.Wrote (Word b field) before now) is tells_so xs all = absurd tells_so
    told_back (changed.Made kind b) is tells_so xs all = absurd tells_so
    told_back (changed.Unmade kind) is tells_so xs all = absurd tells_so
    told_back (changed.Took b) is tells_so xs all = taken_back b is (known.roles b) refl xs all
    told_back (changed.Roomed bucket had) is tells_so xs all = roomed_back (had && nat_lt bucket known.buckets) xs

    pub row_shelters : (xs : List Sheltered) → AreShelteredOn On there w known xs
        → (GuardsAreOn On there → GuardsAreOn On2 there) × AreShelteredOn On2 there w2 known2 xs × NoneIsBack (effects_of Row known new.changed) xs
    row_shelters xs all = (guards_last On On2 there known known2 w w2 lasts, all_last On On2 there known known2 w w2 lasts xs all, told_back new.changed refl tells xs all)

  -- who is inside stays so, and its section holds what it held
  inside_goes : GoOn (Within w) (Within w2) w w2
  inside_goes = record {
    inside = λ t inside. inside_kept deferred_word old.batch_size w reached i w2 happened.1 t inside;
    held = λ t b inside h. still_held deferred_word old.batch_size w reached i w2 happened.1 t b inside h;
  }

  pub inside_shelters : (there : Present) (xs : List Sheltered) → AreSheltered there w known xs
      → (GuardsAreInside there w → GuardsAreInside there w2) × AreSheltered there w2 known2 xs × NoneIsBack (effects_of Row known new.changed) xs
  inside_shelters there xs all = row_shelters (Within w) (Within w2) inside_goes there xs all

module _ (K V : Type 0) (same : K → K → Bool) (hash : ℕ → K → ℕ) where
  pub rows_shelter : RowsShelter K V same hash
  rows_shelter name m known s old new at whole i told leads row here there xs all =
      let to = leads row here in inside_shelters same hash m known s old new at i row here (to.0, told) to.1 to.2 there xs all
