-- The step of the end of a map does what it may, where what it reclaims is next, and nothing is left once it is over.
use Rattle.std.specs.Prelude.{◌≡◌, ◌&&◌, ℕ, Bool, true, List, [], ◌∷◌, Option, Some, None}
use Rattle.std.specs.List.{list_all}
use Rattle.std.proofs.Common.{refl, ap, ◌∙◌}
use Rattle.run_schedules.specs.declared.effect.Effect.{Effect}
use Rattle.run_schedules.specs.declared.effect.Effect.TheVariants.{Ended, Taken}
use Rattle.run_schedules.specs.declared.outcome.Outcome.{Outcome}
use Rattle.run_schedules.specs.Schedules.Effects.{AtEachEffect, with_effect, with_effects}
use Rattle.run_schedules.specs.Schedules.Handing.{is_ending}
use Rattle.run_schedules.specs.Schedules.Moment.{Moment}
use Rattle.run_schedules.specs.Schedules.Views.{size_of}
use Rattle.run_legal.specs.Given.EffectsDeclared.changed.Changed.{Changed}
use Rattle.run_legal.specs.Given.EffectsEffects.{effects_of}
use Rattle.run_legal.specs.Given.EffectsKnown.{Known}
use Rattle.run_legal.specs.Given.EffectsDeclared.acting.Acting.TheVariants as acts
use Rattle.run_schedules.specs.Deeds.Deeds.{Ends, Entry, MapGoes, moment}
use Rattle.run_schedules.specs.Deeds.History.{EndFinds, left_tables, may_do}
use Rattle.play_linear.specs.Given.PlayedPlay.{is_refusal}
use Rattle.play_moves.specs.EachMoves.Parts.{DoesIts}
use Rattle.play_moves.proofs.EachMoves.Parts.{all_also, granted_so, none_may}
use Rattle.play_linear.proofs.Given.AgreesGrants.{refusals_so as refuses_so}

module _ {K V : Type 0} (map : ℕ) where
  one_ends : (v : Moment K V) (f : Effect) → EndFinds map v f → is_ending f ≡ true
  one_ends v (Ended n) finds = refl
  one_ends v (Taken t) finds = refl
  one_ends v _ finds = absurd finds

  -- what is next to be reclaimed of a map ends with it
  pub all_end : (acted : Option ℕ) (fs : List Effect) (v : Moment K V) → AtEachEffect (EndFinds map) None acted fs v → list_all is_ending fs ≡ true
  all_end acted [] v finds = refl
  all_end acted (f ∷ fs) v finds = ap (λ (q : Bool). q && list_all is_ending fs) (one_ends v f finds.0) ∙ all_end acted fs (with_effect None acted f v) finds.1

module _ {K V : Type 0} (log : List (Entry K V)) (map : ℕ) (o : Outcome V) (known : Known) (changed : Changed) where
  abbrev effects : List Effect
  effects = effects_of (acts.Ending map) known changed

  pub ends_move : AtEachEffect (EndFinds map) None (Some map) effects (moment log) → DoesIts log (record { deed = Ends map; outcome = o; effects = effects; refused = is_refusal changed })
  ends_move finds = record {
    may = all_also is_ending (may_do {K = K} {V = V} (Ends map)) (λ f is. is) effects (all_end map (Some map) effects (moment log) finds);
    granted = granted_so (acts.Ending map) known changed;
    refuses = refuses_so (acts.Ending map) known changed;
    whole = tt;
    leaves = tt;
  }

  pub goes_move : effects ≡ [] → (let w = with_effects None (Some map) effects (moment log) in (size_of map w ≡ 0) × (left_tables map w ≡ []))
      → DoesIts log (record { deed = MapGoes map; outcome = o; effects = effects; refused = is_refusal changed })
  goes_move none whole = record {
    may = none_may {K = K} {V = V} (MapGoes map) effects none;
    granted = granted_so (acts.Ending map) known changed;
    refuses = refuses_so (acts.Ending map) known changed;
    whole = whole;
    leaves = tt;
  }
