-- The step of a making, as it is played, finds what it must, where each making makes a first table for its places, and its map has the capacity that these are for.
use Rattle.std.specs.Prelude.{◌≡◌, ℕ, Bool, true, false, [], ◌∷◌, Some, None}
use Rattle.std.proofs.Common.{refl, ap, sym, subst, ◌∙◌}
use Rattle.seize_acts.specs.Acts.Answers.{Grant}
use Rattle.seize_acts.specs.Given.SeizeDeclared.advance.Advance.{Advance}
use Rattle.run_legal.specs.Given.TablesDeclared.resize_mode.ResizeMode.{ResizeMode}
use Rattle.run_legal.specs.Given.TablesDeclared.setting.Setting.{Setting}
use Rattle.threads_rule.specs.Given.ResizeNewMap.{new_map_plan}
use Rattle.threads_rule.specs.Given.ResizeDeclared.new_map.NewMap.{NewMap}
use Rattle.run_schedules.specs.Runs.Runs.{map_fault}
use Rattle.run_schedules.specs.Schedules.Moment.{MapThere, Moment}
use Rattle.run_schedules.specs.Schedules.Terms.{Terms}
use Rattle.run_schedules.specs.Schedules.Views.{capacity_or, map_at}
use Rattle.run_legal.specs.Given.EffectsDeclared.changed.Changed.TheVariants.{Nothing as NoChange}
use Rattle.run_legal.specs.Given.EffectsEffects.{effects_of}
use Rattle.run_legal.specs.Given.EffectsDeclared.acting.Acting.TheVariants as acts
use Rattle.run_legal.specs.Given.NamedPlaces.{first_places}
use Rattle.run_legal.specs.Given.ScenesHeld.{Held, IsAt}
use Rattle.run_legal.specs.Given.ScenesMaking.{MakingLeads}
use Rattle.run_legal.specs.Given.ScenesScene.{Scene, slot_of}
use Rattle.threads_rule.specs.Given.ActsActs.{Act, Answer, OfMaking, StepsMaking}
use Rattle.play_linear.specs.Given.ActsAsSteps.{LeadsAs, changed_by, changed_of, held_in}
use Rattle.play_linear.specs.Given.ActsLeads.{Led}
use Rattle.play_linear.proofs.Given.ActsAsSteps.Told.{was_told}
use Rattle.play_linear.proofs.Given.AgreesOpenings.{rootless_quiet}
use Rattle.run_schedules.specs.Deeds.Deeds.{Entry, moment}
use Rattle.play_linear.specs.Given.PlayedPlay.{State, has_root, is_refusal, making_deed, making_outcome, pairs_for}
use Rattle.play_linear.specs.Given.PlayedReached.{IsOf}
use Rattle.play_linear.proofs.Given.PlayedPlayedAs.{PlayedAs}
use Rattle.play_linear.specs.Linear.Coming.{ComesBy, MapsComeAndGo}
use Rattle.play_linear.proofs.Linear.Coming.{comes_bare}
use Rattle.play_linear.proofs.Linear.Holds.{Holds}
use Rattle.play_linear.proofs.Linear.MakesRight.{was_new}
use Rattle.play_linear.proofs.Given.PlayedTied.{MakingTied, making_tied}
use Rattle.play_moves.specs.EachMoves.Finds.{FindsIts}
use Rattle.play_moves.specs.EachMoves.Places.{OpensFor}
use Rattle.play_moves.proofs.Moves.MadeHolds.{MadeHolds}
use Rattle.play_moves.proofs.Moves.MakingFinds.{makings_find}
use Rattle.play_moves.proofs.Moves.MakingMoves.{frees_quietly}
use Rattle.play_moves.proofs.EachMoves.Rooted.{Rooted, step_rooted}

module _ {K V S : Type 0} (same : K → K → Bool) (by_hasher : S → K → ℕ) (hash : ℕ → K → ℕ) (batch_size roots : ℕ) (aborts : ℕ → V) (x y : State K V S) (s n : Scene K V) (is : IsOf by_hasher s s.world.row x.now)
    (at : IsAt same hash (held_in batch_size roots NoChange s) s) (holds : Holds same x s) (maps : MapsComeAndGo (moment x.history) x.known x.now.enders s) (made : MadeHolds x) (opens : OpensFor s) (told : Answer K V) (terms : Terms)
    (i : ℕ) (g : Grant) where
  abbrev old : Held K V
  old = held_in batch_size roots NoChange s

  abbrev act : Act K V S
  act = StepsMaking i g

  abbrev new : Held K V
  new = held_in batch_size roots (changed_by same act s) n

  abbrev m : Moment K V
  m = moment x.history

  abbrev step : ℕ → NewMap → NewMap → Advance Setting → Entry K V
  step map first machine said = record { deed = making_deed map first machine; outcome = making_outcome said; effects = effects_of (acts.Making map) x.known new.changed; refused = is_refusal new.changed }

  pub makes_find : PlayedAs same by_hasher batch_size roots aborts x y act → Led same by_hasher batch_size roots slot_of act s told n → LeadsAs same by_hasher hash act s told n old new
      → (e : Entry K V) × (y.history ≡ e ∷ x.history) × FindsIts terms x.history e
  makes_find played (b, makes, m2, machine, end, computed, told_is, did, came) leads = (
    step tied.it.map tied.it.machine machine end,
    ap (λ (z : State K V S). z.history) tied.comes,
    subst (λ (map : ℕ). FindsIts terms x.history (step map tied.it.machine machine end)) (sym map_is)
        (subst (λ (first : NewMap). FindsIts terms x.history (step b.map first machine end)) (sym machine_is)
        (makings_find same hash x s old new at holds.shows opens.opens i b makes machine end its_leads
        (was_new same by_hasher hash batch_size roots m x.known x.now.enders s n NoChange new at holds.shows.whole maps i g b m2 machine end makes computed did came its_leads)
        (comes_bare b m (maps.coming i b makes)) terms rootless freed there)),
  )
    where
      tied : MakingTied same by_hasher batch_size roots aborts s n s.world.row x y is i g b (m2, (machine, end))
      tied = making_tied same by_hasher batch_size roots aborts s n s.world.row x y is i g b makes (m2, (machine, end)) computed played

      map_is : tied.it.map ≡ b.map
      map_is = ap (λ (p : ℕ × ((K → ℕ) × NewMap)). p.0) tied.its

      machine_is : tied.it.machine ≡ b.machine
      machine_is = ap (λ (p : ℕ × ((K → ℕ) × NewMap)). p.1.1) tied.its

      its_leads : MakingLeads same hash i end s old new
      its_leads = subst (λ (p : Advance Setting). MakingLeads same hash i p s old new) (let both : ◌≡◌ {A = Answer K V} (OfMaking leads.0) (OfMaking end) = sym leads.1 ∙ told_is in cc both) leads.2

      rooted : Rooted b.machine.stands (machine, end)
      rooted =
          step_rooted b.machine s.world.memory m2 (changed_of s.world.memory g (new_map_plan {K = K} {V = V} b.machine)) (machine, end) b.machine.stands refl
          (was_told s.world.memory g (new_map_plan {K = K} {V = V} b.machine) (m2, (machine, end)) computed)

      rootless : has_root b.machine.stands ≡ false → effects_of (acts.Making b.map) x.known new.changed ≡ []
      rootless none = rootless_quiet b.machine old.memory new.memory new.changed ((its_leads b makes).0, end) b.machine.stands none (its_leads b makes).1 (acts.Making b.map) x.known

      freed : has_root b.machine.stands ≡ true → has_root machine.stands ≡ false → effects_of (acts.Making b.map) x.known new.changed ≡ []
      freed was none = frees_quietly b.machine old.memory new.memory new.changed ((its_leads b makes).0, end) b.machine.stands (rooted.0 was none) (its_leads b makes).1 b.map x.known

      -- the map is there with the capacity for its places
      capacity : has_root b.machine.stands ≡ true → capacity_or (map_at b.map m) ≡ pairs_for b.places
      capacity rooted_so =
          ap (λ (map : ℕ). capacity_or (map_at map m)) (sym map_is) ∙ (made.coming i tied.it tied.here).1 (ap (λ (c : NewMap). has_root c.stands) machine_is ∙ rooted_so)
          ∙ ap (λ (c : NewMap). pairs_for c.len) machine_is ∙ ap pairs_for (at.together.makings.facts i b makes).len_is

      there : has_root b.machine.stands ≡ true → (f : MapThere) × (map_at b.map m ≡ Some f) × (map_fault f.mode f.capacity ≡ None) × (b.places ≡ first_places f.capacity)
      there rooted_so =
          let new_map = subst (λ (q : Bool). ComesBy q b m) rooted_so (maps.coming i b makes) in
          let its : new_map.there.capacity ≡ pairs_for b.places = sym (ap capacity_or new_map.is) ∙ capacity rooted_so in
          let places = opens.places i b makes in (
            new_map.there,
            new_map.is,
            subst (λ (mode : ResizeMode). map_fault mode new_map.there.capacity ≡ None) (sym new_map.mode) (subst (λ (c : ℕ). map_fault b.given.mode c ≡ None) (sym its) places.0),
            places.1 ∙ ap first_places (sym its),
          )
