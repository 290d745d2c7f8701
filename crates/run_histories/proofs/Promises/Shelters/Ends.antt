-- A step of the end of a map leaves sheltered what is so, and reclaims nothing that was retired.
use Rattle.std.specs.Prelude.{◌≡◌, ℕ, zero, suc, Bool, true, List, [], flat_map, Some, None}
use Rattle.std.proofs.Common.{refl, ap, sym, subst, ◌∙◌, arith, inl, inr}
use Rattle.run_places.specs.Given.SeizeWordsMem.{value_at}
use Rattle.run_places.specs.Given.SeizeLaw.{holds}
use Rattle.run_places.specs.Given.SeizeWorld.{World, Use, IsInside, times}
use Rattle.run_places.specs.Given.SeizeDeclared.rows.settle.Settled.{Settled}
use Rattle.run_places.specs.Given.TablesDeclared.node.Node.{Node}
use Rattle.run_places.specs.Given.RawDeclared.machines.end_map.EndMap.{EndMap}
use Rattle.run_places.specs.Given.RunsDeclared.effect.Effect.{Effect}
use Rattle.run_places.specs.Given.SchedulesEffects.{with_effects}
use Rattle.run_places.specs.Given.SchedulesModel.{thing_back}
use Rattle.run_places.specs.Given.SchedulesMoment.{Moment}
use Rattle.run_places.specs.Given.EffectsDeclared.changed.Changed.{Changed}
use Rattle.run_places.specs.Given.EffectsEffects.{taken_by, effects_of, known_after}
use Rattle.run_places.specs.Given.EffectsKnown.{Known}
use Rattle.run_places.specs.Given.EffectsDeclared.acting.Acting.{Acting}
use Rattle.run_places.specs.Given.EffectsDeclared.acting.Acting.TheVariants as acts
use Rattle.run_places.specs.Given.EffectsDeclared.role.Role.{Role}
use Rattle.run_places.specs.Given.EffectsDeclared.role.Role.TheVariants as role
use Rattle.run_places.specs.Given.FinishesEndings.{Finishing, StepsOfEnding}
use Rattle.run_places.specs.Given.FinishesFactsEnds.{taken_by as taken_of}
use Rattle.run_places.specs.Given.FollowsBlocks.{HasRole}
use Rattle.run_places.proofs.Given.FollowsAlike.{put_here}
use Rattle.run_places.proofs.Given.FollowsOnward.{IsOfMap}
use Rattle.run_places.proofs.Given.OthersEnds.{left, one_taken}
use Rattle.run_places.specs.Moments.Whole.{RefinesWhole}
use Rattle.run_places.proofs.Moments.Ends.{says, end_keeps}
use Rattle.run_histories.specs.Promises.Others.{EndingsShelter}
use Rattle.run_histories.specs.Promises.Sheltered.{AreShelteredOn, GuardsAreOn}
use Rattle.run_histories.proofs.Promises.Shelters.Lasting.{Lasts, of_map, all_last, guards_last}
use Rattle.run_histories.proofs.Promises.Shelters.Noted.{more_noted}
use Rattle.run_histories.proofs.Promises.Shelters.Outs.{TakeNothing, calm_nothing, keep_all}
use Rattle.run_places.specs.Given.ScenesEnding.{EndingLeads, EndingHasOutcome, EndingStepsFrom}
use Rattle.run_places.specs.Given.ScenesHeld.{Held, IsAt}
use Rattle.run_places.specs.Given.ScenesScene.{Scene, slot_of}

module _ {K V : Type 0} (same : K → K → Bool) (hash : ℕ → K → ℕ) (name : ℕ → List ℕ) (m : Moment K V) (known : Known) (s : Scene K V) (old new : Held K V) (at : IsAt same hash old s)
    (whole : RefinesWhole same name m known s) (i : ℕ) (f : Finishing K V) (here : s.enders i ≡ Some f) (end : EndMap) (said : Settled (Node K V)) (steps : EndingStepsFrom f.machine old new end said)
    (did : StepsOfEnding V same same old.batch_size old.roots slot_of s.world s.maps s.calls s.makers s.enders i f new.memory (end, said))
    (map : ℕ) (not_there : s.maps map ≡ None) (comes : EndingHasOutcome same hash s new i f end did.w2 did.deed said) where
  abbrev w : World (Node K V)
  w = s.world

  abbrev w2 : World (Node K V)
  w2 = did.w2

  abbrev told : Changed
  told = new.changed

  abbrev its : Acting
  its = acts.Ending map

  abbrev effects : List Effect
  effects = effects_of its known told

  abbrev known2 : Known
  known2 = known_after its told known

  abbrev v : Moment K V
  v = with_effects None (Some map) effects m

  -- what ends with its map was not retired
  taken_takes : (r : Role) → TakeNothing (taken_by its r)
  taken_takes role.Free = (tt, refl)
  taken_takes (role.OwnPair c) = ((tt, tt), refl)
  taken_takes (role.OwnTable turn shape) = ((tt, tt), refl)
  taken_takes (role.Pair n) = ((tt, tt), refl)
  taken_takes (role.Table t len) = ((tt, tt), refl)
  taken_takes (role.Counter of) = (tt, refl)

  take_nothing : TakeNothing effects
  take_nothing = elim (says same hash name m known s old new at whole i f here end said steps did map not_there comes) as (λ _. TakeNothing effects) [
    | inl it ↦ calm_nothing effects it.0
    | inr it ↦ subst (λ (x : Changed). TakeNothing (effects_of its known x)) (sym it.1) (taken_takes (known.roles it.0))
  ]

  -- a block that is of a map after it is there
  is_there : (x : ℕ) (r : Role) → HasRole w m.stored x r → IsOfMap r → (value : Node K V) × (value_at w.memory x ≡ Some value)
  is_there x (role.Pair n) has of = (_, has.3)
  is_there x (role.Table t len) has of = (_, has.1)
  is_there x role.Free has of = absurd of
  is_there x (role.OwnPair c) has of = absurd of
  is_there x (role.OwnTable turn shape) has of = absurd of
  is_there x (role.Counter map) has of = absurd of

  was : (x : ℕ) → IsOfMap (known2.roles x) → known2.roles x ≡ known.roles x
  was x of = (end_keeps same hash name m known s old new at whole i f here end said steps did map not_there comes).0 x of

  not_gone : (x : ℕ) → IsOfMap (known2.roles x) → value_at w2.memory x ≡ None → ⊥
  not_gone x of gone =
      let it = is_there x (known.roles x) (whole.all.shown.blocks.roles x) (subst IsOfMap (was x of) of) in
      let took = one_taken same hash name m known s old new at whole.all.shown i f here end said steps did map not_there told
      (left same hash name m known s old new at whole.all.shown i f here end said steps did map not_there) x it.0 it.1 gone in
      let free : known2.roles x ≡ role.Free = ap (λ (y : Changed). (known_after its y known).roles x) took ∙ put_here x role.Free known.roles x refl in
      subst IsOfMap free of

  held : (t x : ℕ) → IsOfMap (known2.roles x) → holds t x w.log ≡ true → holds t x w2.log ≡ true
  held t x of h = by (times x (taken_of did.deed)) refl
    where
      by : (n : ℕ) → times x (taken_of did.deed) ≡ n → holds t x w2.log ≡ true
      by zero e = did.spares.held t x e ∙ h
      by (suc n) e = absurd (not_gone x of (did.spares.gone x (omega (arith, e))))

  module _ (On On2 : ℕ → Type 0) (on : (t : ℕ) → On t → On2 t) where
    lasts : Lasts On On2 known known2 w w2
    lasts = record {
      inside = on;
      held = λ t x inside of h. held t x of h;
      more = more_noted its known told;
      back = λ y x come of. inl (sym (was x (of_map y (known2.roles x) of)));
    }

    pub ending_shelters : GuardsAreOn On m.there → AreShelteredOn On m.there w known m.sheltered
        → GuardsAreOn On2 m.there × AreShelteredOn On2 m.there w2 known2 v.sheltered × (flat_map thing_back effects ≡ [])
    ending_shelters inside so = (
      guards_last On On2 m.there known known2 w w2 lasts inside,
      subst (AreShelteredOn On2 m.there w2 known2) (sym (keep_all None (Some map) effects m take_nothing.0)) (all_last On On2 m.there known known2 w w2 lasts m.sheltered so),
      take_nothing.1,
    )

module _ (K V : Type 0) (same : K → K → Bool) (hash : ℕ → K → ℕ) where
  -- it leaves sheltered in all sections what is so
  pub endings_shelter_on : (On On2 : ℕ → Type 0) (name : ℕ → List ℕ) (m : Moment K V) (known : Known) (s : Scene K V) (old new : Held K V) → IsAt same hash old s → RefinesWhole same name m known s
      → (i : ℕ) (told : Settled (Node K V)) (leads : EndingLeads same hash i told s old new) (f : Finishing K V) (here : s.enders i ≡ Some f) (map : ℕ) → s.maps map ≡ None → ((t : ℕ) → On t → On2 t)
      → GuardsAreOn On m.there → AreShelteredOn On m.there s.world known m.sheltered
      → (let to = leads f here in
      let effects = effects_of (acts.Ending map) known new.changed in
      GuardsAreOn On2 m.there
      × AreShelteredOn On2 m.there to.2.w2 (known_after (acts.Ending map) new.changed known) (with_effects None (Some map) effects m).sheltered
      × (flat_map thing_back effects ≡ []))
  endings_shelter_on On On2 name m known s old new at whole i told leads f here map not_there on inside so =
      let to = leads f here in ending_shelters same hash name m known s old new at whole i f here to.0 told to.1 to.2 map not_there to.3 On On2 on inside so

  pub endings_shelter : EndingsShelter K V same hash
  endings_shelter name m known s old new at whole i told leads f here map not_there hold =
      let to = leads f here in
      endings_shelter_on (λ t. IsInside (s.world.uses t)) (λ t. IsInside (to.2.w2.uses t)) name m known s old new at whole i told leads f here map not_there
      (λ t inside. subst (λ (f : ℕ → Use). IsInside (f t)) (sym to.2.spares.uses) inside) hold.0 hold.1
