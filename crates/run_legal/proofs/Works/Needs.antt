-- All buckets of slots that a registering asks for are in need, wherever its steps have led.
use Rattle.std.specs.Prelude.{◌≡◌, ◌⊎◌, ◌≤◌, ◌+◌, ◌&&◌, ◌||◌, ◌++◌, nat_lt, ℕ, Bool, true, false, List, [], ◌∷◌, length, Some, None, if◌then◌else◌}
use Rattle.std.specs.List.{list_all, list_any}
use Rattle.std.proofs.Common.{refl, ap, sym, subst, inl, inr, ◌∙◌, arith}
use Rattle.run_grows.specs.Given.SeizeWordsDeclared.at.At.TheVariants.{Root, Used, Slot, Entry as EntryWord, Word}
use Rattle.run_grows.specs.Given.SeizeWordsPlace.{capacity}
use Rattle.run_grows.proofs.Given.SeizeWordsPlaces.Words.{capacity_le_capacity}
use Rattle.run_grows.specs.Given.SeizeDeclared.rows.register.Register.{Register}
use Rattle.run_grows.specs.Given.SeizeDeclared.rows.register.Registering.TheVariants as at
use Rattle.run_grows.specs.Given.SeizeSequence.{new_slot}
use Rattle.run_grows.specs.Given.SeizeWorld.{World, Rests}
use Rattle.run_grows.proofs.Given.SeizeSetsSlots.Registers.{NoneOnVacant}
use Rattle.run_grows.specs.Given.TablesNodes.{deferred_word}
use Rattle.run_grows.specs.Given.TablesDeclared.node.Node.{Node}
use Rattle.run_grows.specs.Given.EffectsDeclared.changed.Changed.{Changed}
use Rattle.run_grows.specs.Given.EffectsDeclared.changed.Changed.TheVariants as changed
use Rattle.run_grows.specs.Given.RunsDeclared.effect.Effect.{Effect}
use Rattle.run_grows.specs.Given.RunsDeclared.effect.Effect.TheVariants.{Asked}
use Rattle.run_grows.specs.Given.RunsDeclared.effect.Growth.TheVariants.{ABucket}
use Rattle.run_grows.specs.Given.SchedulesEffects.{AtEachEffect, with_effect}
use Rattle.run_grows.specs.Given.SchedulesGrowing.{AsksForBucket}
use Rattle.run_grows.specs.Given.SchedulesHanding.{asks_for_bucket, is_reclaiming}
use Rattle.run_grows.specs.Given.SchedulesInUse.{used_slots}
use Rattle.run_grows.specs.Given.SchedulesLists.{least_free}
use Rattle.run_grows.specs.Given.SchedulesMoment.{Moment}
use Rattle.run_grows.specs.Given.SchedulesTerms.{Terms}
use Rattle.run_grows.specs.Given.EffectsEffects.{effects_of, names_same}
use Rattle.run_grows.specs.Given.EffectsKnown.{Known}
use Rattle.run_grows.specs.Given.EffectsDeclared.acting.Acting.TheVariants as acts
use Rattle.run_grows.specs.Given.ScenesDeclared.row.RowTold.{RowTold}
use Rattle.run_grows.specs.Given.ScenesDeclared.row.RowTold.TheVariants as told
use Rattle.run_grows.specs.Given.ScenesDeclared.row.SlotCall.TheVariants as call
use Rattle.run_grows.specs.Given.ScenesDeclared.row.SlotRow.{SlotRow}
use Rattle.run_grows.specs.Given.ScenesDeclared.row.SlotRow.TheVariants as rows
use Rattle.run_legal.specs.Chains.{Chain, Come, RowSteps}
use Rattle.run_legal.specs.Found.{AsksInNeed}
use Rattle.run_legal.proofs.Chains.{chains_keep}
use Rattle.run_grows.specs.Given.RemainsSlots.{SlotsNoted}
use Rattle.run_grows.proofs.Given.RemainsSlots.{buckets_grow, rows_note_slots}
use Rattle.run_logged.proofs.Rows.Taking.{Next, OnIt, first_on, next}
use Rattle.run_sweeps.specs.Needs.Needs.{AreReached}
use Rattle.run_legal.proofs.Works.Mays.{goes_as}
use Rattle.run_legal.proofs.Works.Registering.{NeedsSlot, asks_in_need}
use Rattle.run_sweeps.proofs.Needs.Steps.{Tells, registers_tell}
use Rattle.run_grows.specs.Given.ScenesHeld.{Held, IsAt}
use Rattle.run_grows.specs.Given.ScenesOnSlots.{RowBegins, RowSteps as StepsAs, row_then}
use Rattle.run_grows.specs.Given.ScenesScene.{Scene, row_of, slot_of}
use Rattle.run_grows.proofs.Given.ScenesRows.{begun_there, never_rests, one_row}
use Rattle.run_grows.proofs.Given.General.{or_second as any_more, both_true as and_both}

-- a bucket is asked for among the effects of a step that makes room, where it was not known
module _ (known : Known) where
  pub asked_is : (told : Changed) → Tells false true told → list_any asks_for_bucket (effects_of acts.Row known told) ≡ true
      → (bucket : ℕ) × (had : Bool) × (told ≡ changed.Roomed bucket had) × ((had && nat_lt bucket known.buckets) ≡ false)
  asked_is changed.Nothing is asked = absurd (cc asked)
  asked_is (changed.Wrote (Slot t field) old new) is asked = absurd (cc asked)
  asked_is (changed.Wrote (EntryWord b field) old new) is asked = absurd (by (names_same old new) asked)
    where
      by : (q : Bool) → list_any asks_for_bucket (if q then [] else []) ≡ true → ⊥
      by true some = cc some
      by false some = cc some
  asked_is (changed.Wrote (Root r) old new) is asked = absurd is
  asked_is (changed.Wrote (Used r) old new) is asked = absurd is
  asked_is (changed.Wrote (Word b field) old new) is asked = absurd is
  asked_is (changed.Made kind b) is asked = absurd is
  asked_is (changed.Unmade kind) is asked = absurd is
  asked_is (changed.Took b) is asked = absurd (cc is)
  asked_is (changed.Roomed bucket had) is asked = by (had && nat_lt bucket known.buckets) refl asked
    where
      by : (q : Bool) → (had && nat_lt bucket known.buckets) ≡ q → list_any asks_for_bucket (if q then [] else Asked ABucket ∷ []) ≡ true
          → (b : ℕ) × (h : Bool) × (changed.Roomed bucket had ≡ changed.Roomed b h) × ((h && nat_lt b known.buckets) ≡ false)
      by true e some = absurd (cc some)
      by false e some = (bucket, had, refl, e)

either_any : (p : Effect → Bool) (xs ys : List Effect) → list_any p (xs ++ ys) ≡ true → (list_any p xs ≡ true) ⊎ (list_any p ys ≡ true)
either_any p [] ys some = inr some
either_any p (x ∷ xs) ys some = by (p x) some (either_any p xs ys)
  where
    by : (q : Bool) → (q || list_any p (xs ++ ys)) ≡ true → (list_any p (xs ++ ys) ≡ true → (list_any p xs ≡ true) ⊎ (list_any p ys ≡ true)) → ((q || list_any p xs) ≡ true) ⊎ (list_any p ys ≡ true)
    by true is rest = inl refl
    by false is rest = rest is

-- where one is in need, each is
module _ {K V : Type 0} (slots slot : ℕ) where
  one_asked : (f : Effect) (m : Moment K V) → m.slots ≡ slots → least_free (used_slots m.there) ≡ slot → (asks_for_bucket f ≡ true → AsksForBucket slots slot) → AsksInNeed m f
  one_asked (Asked ABucket) m slots_are least so = subst (λ (n : ℕ). AsksForBucket n (least_free (used_slots m.there))) (sym slots_are) (subst (AsksForBucket slots) (sym least) (so refl))
  one_asked _ m slots_are least so = tt

  all_asked : (fs : List Effect) (m : Moment K V) → m.slots ≡ slots → least_free (used_slots m.there) ≡ slot → (list_any asks_for_bucket fs ≡ true → AsksForBucket slots slot) → AtEachEffect AsksInNeed None None fs m
  all_asked [] m slots_are least so = tt
  all_asked (f ∷ fs) m slots_are least so = (
    one_asked f m slots_are least (λ is. so (ap (λ (b : Bool). b || list_any asks_for_bucket fs) is)),
    all_asked fs (with_effect None None f m) slots_are least (λ is. so (any_more (asks_for_bucket f) (list_any asks_for_bucket fs) is)),
  )

module _ {K V : Type 0} (same : K → K → Bool) (hash : ℕ → K → ℕ) (terms : Terms) (m : Moment K V) (s : Scene K V) (old : Held K V) (i : ℕ) (enters : Bool) (apart : NoneOnVacant i s.world) (first : Known)
    (reached : AreReached m.slots first) (least : (slot : ℕ) → new_slot s.world.uses ≡ Some slot → least_free (used_slots m.there) ≡ slot) where
  -- a registering is under way as one, slots are noted, no bucket is forgotten, and what was asked for is in need
  abbrev IsOn : Held K V → World (Node K V) → Type 0
  IsOn e w = (row : SlotRow) → w.row i ≡ row_of row → (c : Register) × (row ≡ rows.Registers c) × OnIt same hash i s old.batch_size enters apart e c

  abbrev Need : Type 0
  Need = AsksForBucket m.slots (least_free (used_slots m.there))

  abbrev NeedsSo : Come K V → Type 0
  NeedsSo x = IsOn x.held x.scene.world × SlotsNoted x.notes x.held.memory × (first.buckets ≤ x.notes.buckets) × (list_any asks_for_bucket x.did ≡ true → Need)

  -- the slot that needs a bucket was never reached
  never_reached : (known : Known) (slot n : ℕ) → first.buckets ≤ known.buckets → n + 32 ≡ capacity known.buckets → n ≤ slot + 1 → AreReached m.slots first → m.slots ≤ slot
  never_reached known slot n more whole few (inl none) = omega (arith, none)
  never_reached known slot n more whole few (inr some) = let most = capacity_le_capacity first.buckets known.buckets more in omega (arith, most, whole, few, some)

  module _ (x y : Come K V) (step : RowSteps same hash terms i x y) (so : NeedsSo x) where
    here : (c : Register) × (step.row ≡ rows.Registers c) × OnIt same hash i s old.batch_size enters apart x.held c
    here = so.0 step.row step.here.1

    went : StepsAs K V (rows.Registers here.0) x.held.memory y.held.memory y.held.changed ((step.leads step.row step.here).0, step.said)
    went =
        subst (λ (r : SlotRow). StepsAs K V r x.held.memory y.held.memory y.held.changed ((step.leads step.row step.here).0, step.said)) here.1
        (step.leads step.row step.here).1

    needed : NeedsSlot s.world.uses x.held.memory → Need
    needed needs =
        let slot_is = least needs.0 needs.1 in
        subst (AsksForBucket m.slots) (sym slot_is) (never_reached x.notes needs.0 (length x.held.memory.slots) so.2 so.1.whole needs.3 reached, needs.2)

    asked : list_any asks_for_bucket (effects_of acts.Row x.notes y.held.changed) ≡ true → Need
    asked some =
        let is = asked_is x.notes y.held.changed
        (registers_tell x.held.memory y.held.memory y.held.changed ((step.leads step.row step.here).0, step.said) here.0 went) some in
        needed (asks_in_need same hash i s old.batch_size enters apart x.held here.0 here.2 y.held.memory y.held.changed (step.leads step.row step.here).0 step.said went
        x.notes so.1 is.0 is.1 is.2 is.3)

    on_then : IsOn y.held (step.leads step.row step.here).2.0
    on_then row there = by (next same hash i s old.batch_size enters apart x.held y.held here.0 here.2 (step.leads step.row step.here).0 step.said went)
      where
        goes : (step.leads step.row step.here).0 ≡ row
        goes = goes_as (step.leads step.row step.here).0 row step.said (sym there ∙ (step.leads step.row step.here).3)

        -- one that has ended is under way no more
        over : {X : Type 0} (said : RowTold (Node K V)) → step.said ≡ said → row_then (step.leads step.row step.here).0 said ≡ Rests → X
        over said is rests =
            absurd (never_rests row (sym there ∙ (step.leads step.row step.here).3 ∙ ap (λ (q : RowTold (Node K V)). row_then (step.leads step.row step.here).0 q) is ∙ rests))

        by : Next same hash i s old.batch_size enters apart y.held (step.leads step.row step.here).0 step.said → (c : Register) × (row ≡ rows.Registers c) × OnIt same hash i s old.batch_size enters apart y.held c
        by (inl (c2, is, after_is, on2)) = (c2, sym goes ∙ after_is, on2)
        by (inr (inl (fault, is, why, roomed))) = over (told.Refused fault) is refl
        by (inr (inr (slot, is, new_is))) = over (told.Registered slot) is refl

    pub needs_on : NeedsSo y
    needs_on =
        subst NeedsSo (sym step.comes) (
          on_then,
          rows_note_slots K V same hash x.notes x.scene x.held y.held step.is_at so.1 i step.said step.leads step.row step.here,
          (let more = buckets_grow acts.Row y.held.changed x.notes in let before = so.2 in omega (arith, more, before)),
          λ some. either (either_any asks_for_bucket x.did (effects_of acts.Row x.notes y.held.changed) some),
        )
      where
        either : (list_any asks_for_bucket x.did ≡ true) ⊎ (list_any asks_for_bucket (effects_of acts.Row x.notes y.held.changed) ≡ true) → Need
        either (inl before) = so.3 before
        either (inr now) = asked now

  -- So all buckets that were asked for were in need, from where it began.
  pub registers_need : (new : Held K V) → IsAt same hash old s → (leads : RowBegins same hash (call.Register enters) i s old new) → SlotsNoted first new.memory → (n : ℕ) (from to : Come K V)
      → from.held ≡ new → from.scene.world ≡ leads.2.0 → from.notes ≡ first → from.did ≡ [] → Chain (RowSteps same hash terms i) n from to → AtEachEffect AsksInNeed None None to.did m
  registers_need new at_s leads noted n from to held_is world_is notes_are none chain =
      all_asked m.slots (least_free (used_slots m.there)) to.did m refl refl
      (chains_keep NeedsSo (RowSteps same hash terms i) (λ x y step so. needs_on x y step so) n from to chain (
        subst (λ (e : Held K V). IsOn e from.scene.world) (sym held_is) (subst (IsOn new) (sym world_is) on_first),
        subst (λ (e : Held K V). SlotsNoted from.notes e.memory) (sym held_is) (subst (λ (k : Known). SlotsNoted k new.memory) (sym notes_are) noted),
        (let same_number = ap (λ (k : Known). k.buckets) notes_are in omega (arith, same_number)),
        λ some. absurd (let is_none = ap (list_any asks_for_bucket) none in cc (some, is_none)),
      )).3
    where
      on_first : IsOn new leads.2.0
      on_first row there =
          let is = one_row (rows.Registers (record { slot = 0; enters = enters; stands = at.Begin })) row
          (sym (begun_there deferred_word old.batch_size i s.world leads.2.0 (slot_of i) (call.Register enters) leads.2.1.1) ∙ there) in
          (record { slot = 0; enters = enters; stands = at.Begin }, sym is, first_on same hash i s enters apart old new at_s leads)

-- Where no bucket is asked for none is needed.
one_none : {K V : Type 0} (f : Effect) (m : Moment K V) → asks_for_bucket f ≡ false → AsksInNeed m f
one_none (Asked ABucket) m is = absurd (cc is)
one_none _ m is = tt

pub reclaiming_asks_none : (f : Effect) → is_reclaiming f ≡ true → asks_for_bucket f ≡ false
reclaiming_asks_none (Asked growth) is = absurd (cc is)
reclaiming_asks_none _ is = refl

module _ {K V : Type 0} (may : Effect → Bool) (none : (f : Effect) → may f ≡ true → asks_for_bucket f ≡ false) where
  pub none_need : (fs : List Effect) (m : Moment K V) → list_all may fs ≡ true → AtEachEffect AsksInNeed None None fs m
  none_need [] m all = tt
  none_need (f ∷ fs) m all =
      let both = and_both (may f) (list_all may fs) all in
      (one_none f m (none f both.0), none_need fs (with_effect None None f m) both.1)
