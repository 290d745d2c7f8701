-- The effects of the step of a making, as it is played, find what they must: its table is the first one of the map, and has the shape that the map's capacity asks.
use Rattle.std.specs.Prelude.{◌≡◌, ℕ, Bool, true, false, List, [], Some, None}
use Rattle.std.proofs.Common.{refl, sym, subst}
use Rattle.seize_acts.specs.Given.SeizeDeclared.advance.Advance.{Advance}
use Rattle.run_legal.specs.Given.TablesDeclared.setting.Setting.{Setting}
use Rattle.threads_rule.specs.Given.ResizeDeclared.new_map.NewMap.{NewMap}
use Rattle.run_schedules.specs.Runs.Runs.{map_fault}
use Rattle.run_schedules.specs.declared.effect.Effect.{Effect}
use Rattle.run_schedules.specs.Schedules.Effects.{AtEachEffect}
use Rattle.run_schedules.specs.Schedules.Lives.{EventFinds}
use Rattle.run_schedules.specs.Schedules.Moment.{MapThere, Moment}
use Rattle.run_schedules.specs.Schedules.Terms.{Terms}
use Rattle.run_schedules.specs.Schedules.Views.{map_at, tables_of}
use Rattle.run_legal.specs.Given.EffectsEffects.{effects_of}
use Rattle.run_legal.specs.Given.EffectsDeclared.acting.Acting.TheVariants as acts
use Rattle.run_legal.specs.Given.FinishesMakings.{Beginning}
use Rattle.run_legal.specs.Given.NamedPlaces.{first_places}
use Rattle.run_legal.specs.Given.OthersMakings.{WasNew}
use Rattle.run_legal.specs.Given.ScenesHeld.{Held, IsAt}
use Rattle.run_legal.specs.Given.ScenesMaking.{MakingLeads}
use Rattle.run_legal.specs.Given.ScenesScene.{Scene}
use Rattle.run_legal.proofs.Given.FindsLife.{each_so}
use Rattle.run_schedules.specs.Deeds.Deeds.{Deed, Entry, Makes, MapFails, begun, moment, named}
use Rattle.run_schedules.specs.Deeds.History.{FindsBy, past, transition}
use Rattle.play_linear.specs.Given.PlayedPlay.{State, has_root, is_refusal, making_outcome}
use Rattle.run_legal.specs.Given.NeedsFirsts.{AllMakingsOpen}
use Rattle.run_legal.proofs.Given.NeedsMakings.{makings_find_theirs}
use Rattle.play_linear.specs.Linear.Shown.{RefinesAnswers}
use Rattle.play_linear.proofs.Linear.MapActs.{deed_by}
use Rattle.play_linear.proofs.Linear.OthersGo.{makings_step}
use Rattle.play_moves.specs.EachMoves.Finds.{FindsIts}

module _ {K V S : Type 0} (same : K → K → Bool) (hash : ℕ → K → ℕ) (x : State K V S) (s : Scene K V) (old new : Held K V) (at : IsAt same hash old s)
    (all : RefinesAnswers same (past x.history) (moment x.history) x.known s) (openings : AllMakingsOpen s) (i : ℕ) (b : Beginning K) (makes : s.makers i ≡ Some b) (machine : NewMap) (said : Advance Setting)
    (leads : MakingLeads same hash i said s old new) (was_new : WasNew b.map said (moment x.history)) (bare : tables_of b.map (moment x.history) ≡ []) (terms : Terms) where
  abbrev m : Moment K V
  m = moment x.history

  abbrev effects : List Effect
  effects = effects_of (acts.Making b.map) x.known new.changed

  abbrev had : Bool
  had = has_root b.machine.stands

  abbrev has : Bool
  has = has_root machine.stands

  abbrev entry : Deed K V → Entry K V
  entry d = record { deed = d; outcome = making_outcome said; effects = effects; refused = is_refusal new.changed }

  abbrev Finds : Deed K V → Moment K V → Type 0
  Finds d v = AtEachEffect (FindsBy terms x.history d (transition x.history (entry d))) None (Some b.map) effects v

  none_find : (d : Deed K V) (v : Moment K V) → effects ≡ [] → Finds d v
  none_find d v none = subst (λ (fs : List Effect). AtEachEffect (FindsBy terms x.history d (transition x.history (entry d))) None (Some b.map) fs v) (sym none) tt

  -- a map that is there, without a table, and has the capacity for its places
  makes_find : (f : MapThere) → map_at b.map m ≡ Some f → map_fault f.mode f.capacity ≡ None → b.places ≡ first_places f.capacity → Finds (Makes b.map) m
  makes_find f there faultless places =
      each_so (EventFinds (Some b.map) false) (FindsBy terms x.history (Makes b.map) (transition x.history (entry (Makes b.map)))) (λ v e its. its) None (Some b.map) effects m
      (makings_find_theirs K V same hash named m x.known s old new at all.whole.all.shown all.kept.tables openings i said leads b makes (all.whole.counters i b makes) (Some b.map) f there bare faultless places
      (makings_step K V same hash (past x.history) m x.known s all old new at i said leads b makes was_new).whole.all.shown)

  -- So it is by whichever deed, if a map that has its root is there so, and nothing is done where it comes or goes.
  pub makings_find : (rootless : had ≡ false → effects ≡ []) → (freed : had ≡ true → has ≡ false → effects ≡ [])
      → (had ≡ true → (f : MapThere) × (map_at b.map m ≡ Some f) × (map_fault f.mode f.capacity ≡ None) × (b.places ≡ first_places f.capacity))
      → FindsIts terms x.history (entry (deed_by b.map machine had has))
  makings_find rootless freed there = by had has refl refl
    where
      by : (p q : Bool) → had ≡ p → has ≡ q → FindsIts terms x.history (entry (deed_by b.map machine p q))
      by true true was is = let its = there was in makes_find its.0 its.1 its.2 its.3
      by true false was is = none_find (MapFails b.map) m (freed was is)
      by false true was is = none_find (deed_by b.map machine false true) (begun (deed_by b.map machine false true) m) (rootless was)
      by false false was is = none_find (Makes b.map) m (rootless was)
