-- Who is there after an entry of a history: no effect changes it, and of deeds those alone by which sections begin and end.
use Rattle.std.specs.Prelude.{Bool, true, false, Option, if◌then◌else◌}
use Rattle.std.proofs.Common.{◌≡◌, ℕ, List, [], ◌∷◌, refl, ap, ◌∙◌}
use Rattle.run_schedules.specs.Runs.Present.{Present}
use Rattle.run_schedules.specs.declared.effect.Effect.{Effect}
use Rattle.run_schedules.specs.Schedules.Effects.{with_effect, with_effects}
use Rattle.run_schedules.specs.Schedules.Moment.{Moment}
use Rattle.seize.specs.declared.rows.settle.Settled.{Settled}
use Rattle.run_finds.specs.Given.ResizeDeclared.new_map.NewMap.{NewMap}
use Rattle.run_schedules.specs.Deeds.Deeds.{Deed, Begins, MapComes, Makes, MapFails, Ends, MapGoes, Entry, acted_on, after, at_work, begun, caller_of, moment, there_on}
use Rattle.play_lists.specs.Played.Play.{Ending, ending_deed, has_root, is_over, making_deed, pairs_for}

module _ {K V : Type 0} where
  effects_there : (caller : Option (List ℕ)) (acted : Option ℕ) (effects : List Effect) (m : Moment K V) → (with_effects caller acted effects m).there ≡ m.there
  effects_there caller acted [] m = refl
  effects_there caller acted (f ∷ effects) m = effects_there caller acted effects (with_effect caller acted f m)

  begun_there : (d : Deed K V) (m : Moment K V) → (begun d m).there ≡ m.there
  begun_there (Begins i s map call) m = refl
  begun_there (MapComes map root mode capacity) m = refl
  begun_there _ m = refl

  pub there_after : (e : Entry K V) (m : Moment K V) → (after e m).there ≡ there_on e.deed m.there
  there_after e m =
      ap (there_on e.deed) (effects_there (caller_of e.deed) (acted_on e.deed (at_work e m)) e.effects (at_work e m) ∙ begun_there e.deed m)

  -- it leaves who is there
  abbrev pub LeavesThere : Deed K V → Type 0
  LeavesThere d = (there : Present) → there_on d there ≡ there

  pub there_as_before : (e : Entry K V) (log : List (Entry K V)) → LeavesThere e.deed → (moment (e ∷ log)).there ≡ (moment log).there
  there_as_before e log leaves = there_after e (moment log) ∙ leaves (moment log).there

-- nobody comes or goes by makings and ends
module _ (K V : Type 0) where
  pub making_leaves : (map : ℕ) (before next : NewMap) → LeavesThere {K = K} {V = V} (making_deed map before next)
  making_leaves map before next there = by (has_root before.stands) (has_root next.stands)
    where
      by : (b c : Bool)
          → there_on {K = K} {V = V} (if b then (if c then Makes map else MapFails map) else (if c then MapComes map next.setting.root next.setting.mode (pairs_for next.len) else Makes map)) there ≡ there
      by true true = refl
      by true false = refl
      by false true = refl
      by false false = refl

  pub ending_leaves : {T : Type 0} (f : Ending) (told : Settled T) → LeavesThere {K = K} {V = V} (ending_deed f told)
  ending_leaves f told there = by (is_over told)
    where
      by : (b : Bool) → there_on {K = K} {V = V} (if b then MapGoes f.map else Ends f.map) there ≡ there
      by true = refl
      by false = refl
