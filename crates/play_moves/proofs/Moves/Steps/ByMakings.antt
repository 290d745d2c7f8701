-- What a moment shows of steps of calls it shows, too, where the making of a map begins, as its map comes, and after each of its steps.
use Rattle.std.specs.Prelude.{◌≡◌, ◌⊎◌, ℕ, Bool, List, Option, Some, None}
use Rattle.std.proofs.Common.{refl, ap, sym, ◌∙◌, inl, inr}
use Rattle.seize_acts.specs.Given.SeizeDeclared.advance.Advance.{Advance as Making}
use Rattle.run_legal.specs.Given.TablesDeclared.setting.Setting.{Setting}
use Rattle.run_schedules.specs.declared.effect.Effect.{Effect}
use Rattle.run_schedules.specs.Schedules.Effects.{with_effects}
use Rattle.run_schedules.specs.Schedules.Moment.{MapThere, Moment}
use Rattle.run_schedules.specs.Schedules.Transition.{Past}
use Rattle.run_schedules.specs.Schedules.Views.{map_at}
use Rattle.run_legal.specs.Given.EffectsEffects.{effects_of, known_after}
use Rattle.run_legal.specs.Given.EffectsKnown.{Known}
use Rattle.run_legal.specs.Given.EffectsDeclared.acting.Acting.TheVariants as acts
use Rattle.run_legal.specs.Given.FinishesMakings.{Beginning}
use Rattle.run_legal.specs.Given.FinishesMaps.{Standing}
use Rattle.run_legal.specs.Given.FindsLinking.{IsMadeFor}
use Rattle.run_legal.specs.Given.GrowsFinding.{RefinesFinding}
use Rattle.run_legal.specs.Given.OthersMakings.{WasNew, making_after}
use Rattle.run_legal.specs.Given.ScenesHeld.{Held, IsAt}
use Rattle.run_legal.specs.Given.ScenesMaking.{MakingLeads, scene_making}
use Rattle.run_legal.specs.Given.ScenesScene.{Scene}
use Rattle.run_legal.specs.MapEvents.{HasNotMade}
use Rattle.run_legal.proofs.Given.MomentsMakingSteps.{makings_go_beside}
use Rattle.run_legal.proofs.Given.FindsCapacities.{capacities_stay, effects_keep_capacities}
use Rattle.run_legal.proofs.Given.FindsGrows.Steps.{tables_have_been}
use Rattle.run_legal.proofs.Given.GrowsFinding.Alike.{stood_as}
use Rattle.run_legal.proofs.Given.GrowsFinding.Aside.{makings_aside, makings_leave_spots}
use Rattle.run_legal.proofs.Given.GrowsFinding.Beside.{finding_beside}
use Rattle.run_legal.proofs.Given.GrowsFinding.Between.{finding_where, found_beside}
use Rattle.run_legal.proofs.Given.GrowsFinding.Making.Lengths.{effects_keep_lengths}
use Rattle.run_legal.proofs.Given.GrowsFinding.Nexts.{nexts_where}
use Rattle.run_legal.proofs.Given.GrowsFinding.NextsOthers.{makings_keep_nexts}
use Rattle.run_legal.proofs.Given.GrowsFinding.Others.{makings_keep_finding}
use Rattle.run_legal.proofs.Given.GrowsTries.Others.{makings_keep_tries}
use Rattle.run_legal.proofs.Given.GrowsTries.Shows.{tries_where}
use Rattle.run_legal.proofs.Maps.{unmade_maps}
use Rattle.run_legal.proofs.Sourced.{making_sources, so_aside, sources_so}
use Rattle.run_legal.specs.Given.SourcesSources.{RefinesSources}
use Rattle.run_legal.specs.Given.SourcesStays.{NoneBorn}
use Rattle.run_schedules.specs.Deeds.Deeds.{come, named}
use Rattle.play_linear.specs.Linear.Shown.{RefinesAnswers}
use Rattle.play_moves.specs.Moves.Steps.{RefinesSteps}

module _ {K V : Type 0} (same : K → K → Bool) (hash : ℕ → K → ℕ) (log : Past K V) (m : Moment K V) (known : Known) (s : Scene K V) (all : RefinesAnswers same log m known s) (steps : RefinesSteps same log m known s)
    (old new : Held K V) where
  -- where a making begins
  pub steps_by_making_begun : (i : ℕ) (b : Beginning K) → RefinesAnswers same log m known (scene_making i b s) → RefinesSteps same log m known (scene_making i b s)
  steps_by_making_begun i b then_all = record {
    finding = record {
      growing = steps.finding.growing;
      further = steps.finding.further;
      capacities = steps.finding.capacities;
      waits = steps.finding.waits;
      puts = steps.finding.puts;
    };
    nexts = steps.nexts;
    tries = steps.tries;
    sources = sources_so K V same named m m known known s (scene_making i b s) steps.sources then_all.whole.all.shown refl refl refl (λ n st is. is);
  }

  module _ (at : IsAt same hash old s) where
    -- where its map comes, by a number that none has that stands
    pub steps_by_map_come : (there : MapThere) → s.maps there.number ≡ None → RefinesAnswers same log (come there m) known s → RefinesSteps same log (come there m) known s
    steps_by_map_come there new_number then_all = record {
      finding = finding_where same hash named m (come there m) known s old at still refl refl refl refl refl refl steps.finding;
      nexts = nexts_where same hash named log m (come there m) s old at steps.nexts still refl refl;
      tries = tries_where same hash named log m (come there m) s old at steps.tries still (record { stored = refl; place = refl; born = refl; spot = refl }) refl refl;
      sources = sources_so K V same named m (come there m) known known s s steps.sources then_all.whole.all.shown refl refl refl (λ n st is. is);
    }
      where
        still : (n : ℕ) (st : Standing K) → s.maps n ≡ Some st → map_at n (come there m) ≡ map_at n m
        still n st stands =
            found_beside m.maps there n (λ one. let both : None ≡ Some st = sym new_number ∙ ap s.maps one ∙ stands in cc both)

    -- After a step of it: it has not made its map, or that is there as it was asked for, and no pair was stored in it.
    module _ (i : ℕ) (said : Making Setting) (leads : MakingLeads same hash i said s old new) (b : Beginning K) (here : s.makers i ≡ Some b) (was_new : WasNew b.map said m) where
      abbrev effects : List Effect
      effects = effects_of (acts.Making b.map) known new.changed

      abbrev v : Moment K V
      v = with_effects None (Some b.map) effects m

      abbrev known2 : Known
      known2 = known_after (acts.Making b.map) new.changed known

      abbrev t : Scene K V
      t = let to = leads b here in making_after same hash s old new i b to.0 to.2.step.w2 said to.3

      abbrev pub Finds : Type 0
      Finds = HasNotMade said ⊎ (IsMadeFor b.map m b.given × NoneBorn b.map m)

      module _ (at2 : IsAt same hash new t) (then_all : RefinesAnswers same log v known2 t) where
        finding_by : Finds → RefinesFinding named v known2 t
        finding_by (inl none) =
            finding_beside same hash named m v known known2 s t new at2 then_all.whole (makings_go_beside K V same hash named m known s old new at all.whole i said leads b here (Some b.map) was_new) steps.finding
            (makings_leave_spots same hash named m known s old new at all.whole.all.shown i said leads b here (Some b.map)) (tables_have_been K V None (Some b.map) effects m)
            (effects_keep_lengths None (Some b.map) effects m)
            (capacities_stay K V m v s t steps.finding.capacities (λ n st is. effects_keep_capacities K V None (Some b.map) effects m n)
            (stood_as s t (unmade_maps same hash s old new at i b here said leads none)))
        finding_by (inr made) = makings_keep_finding K V same hash named m known s old new at all.whole steps.finding i said leads b here was_new made.0 at2 then_all.whole

        sources_by : Finds → RefinesSources same named v known2 t
        sources_by (inl none) =
            so_aside K V same named m known known2 s t None (Some b.map) effects (makings_aside same hash named m known s old new at all.whole.all.shown i said leads b here (Some b.map)) steps.sources
            then_all.whole.all.shown (λ n st is. ap (λ (maps : ℕ → Option (Standing K)). maps n) (sym (unmade_maps same hash s old new at i b here said leads none)) ∙ is)
        sources_by (inr made) =
            making_sources K V same hash named m known known2 s old new i b here (Some b.map) effects (makings_aside same hash named m known s old new at all.whole.all.shown i said leads b here (Some b.map))
            steps.sources made.1 said leads then_all.whole.all.shown

        pub steps_by_making : Finds → RefinesSteps same log v known2 t
        steps_by_making finds = record {
          finding = finding_by finds;
          nexts = makings_keep_nexts K V same hash named log m known s old new steps.nexts at all.whole i said leads b here was_new;
          tries = makings_keep_tries K V same hash named log m known s old new steps.sources steps.tries at all.whole i said leads b here was_new at2 then_all.whole;
          sources = sources_by finds;
        }
