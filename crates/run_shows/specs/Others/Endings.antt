-- Ends of maps: where one begins, takes its steps and is over, the scene refines the moment then.
use Rattle.std.specs.Prelude.{◌≡◌, ℕ, Bool, false, not, List, [], ◌∷◌, ◌++◌, filter, Some, None}
use Rattle.seize.specs.World.{World, with_at}
use Rattle.seize.specs.declared.rows.settle.Settled.{Settled}
use Rattle.seize.specs.declared.rows.settle.Settled.TheVariants as settled
use Rattle.run_effects.specs.Given.TablesDeclared.node.Node.{Node}
use Rattle.run_effects.specs.Given.RunsSame.{is_same}
use Rattle.run_effects.specs.Given.SchedulesEffects.{with_effects, AtEachEffect}
use Rattle.run_effects.specs.Given.SchedulesMoment.{MapThere, Remains, Moment}
use Rattle.run_effects.specs.Given.SchedulesViews.{map_at}
use Rattle.run_effects.specs.Given.RawDeclared.machines.end_map.EndMap.{EndMap}
use Rattle.run_effects.specs.declared.changed.Changed.{Changed}
use Rattle.run_effects.specs.declared.changed.Changed.TheVariants.{Took}
use Rattle.run_effects.specs.Effects.Effects.{effects_of, known_after}
use Rattle.run_effects.specs.Effects.Known.{Known}
use Rattle.run_effects.specs.declared.acting.Acting.TheVariants.{Ending}
use Rattle.many_maps.specs.Endings.{Finishing}
use Rattle.many_maps.specs.FactsEnds.{Deed}
use Rattle.many_maps.specs.Maps.{Standing}
use Rattle.run_shows.specs.Follows.Shows.{Refines}
use Rattle.run_shows.specs.Follows.Steps.{TakesNone}
use Rattle.run_shows.specs.Others.After.{RefinesAfter}
use Rattle.run_shows.specs.Others.Gone.{EndsWith}
use Rattle.run_shows.specs.Scenes.Ending.{EndingHasOutcome, EndingLeads, ending_begun, ending_goes}
use Rattle.run_shows.specs.Scenes.Held.{Held, IsAt}
use Rattle.run_shows.specs.Scenes.Scene.{Scene}

module _ {K V : Type 0} (same : K → K → Bool) (hash : ℕ → K → ℕ) (s : Scene K V) (new : Held K V) (i : ℕ) (f : Finishing K V) (ending : EndMap) (w2 : World (Node K V)) (deed : Deed) where
  -- the scene to which a step of the end has come
  abbrev pub ending_after : (told : Settled (Node K V)) → EndingHasOutcome same hash s new i f ending w2 deed told → Scene K V
  ending_after settled.Goes comes = ending_goes s i f ending w2 deed f.back
  ending_after settled.Waits comes = s
  ending_after (settled.Gave value) comes = ending_goes s i f ending w2 deed (f.back ++ comes.0 ∷ [])
  ending_after settled.Done comes = record s { world = w2; enders = with_at s.enders i None }

  -- What is told of a step that hands a value out is that its block was taken, which is the one reclaimed next; no other step takes a block.
  abbrev pub ObservesNext : (told : Settled (Node K V)) → EndingHasOutcome same hash s new i f ending w2 deed told → Changed → Type 0
  ObservesNext settled.Goes comes changed = TakesNone changed
  ObservesNext settled.Waits comes changed = ⊥
  ObservesNext (settled.Gave value) comes changed = changed ≡ Took comes.0
  ObservesNext settled.Done comes changed = TakesNone changed

-- the map of this name is there no more, and this is left over
abbrev pub without_map : {K V : Type 0} → List ℕ → List Remains → Moment K V → Moment K V
without_map own remains m = record m { maps = filter (λ f. not (is_same f.name own)) m.maps; remains = remains }

module _ (K V : Type 0) (same : K → K → Bool) where
  -- The promises: where the end of a map begins, all else is shown as before,
  abbrev pub EndingsBeginShown : Type 0
  EndingsBeginShown =
      (name : ℕ → List ℕ) (m : Moment K V) (known : Known) (s : Scene K V) → (shown : Refines same name m known s)
      → (map i : ℕ) (standing : Standing K) → RefinesAfter same name m known s shown m known (ending_begun map i standing s)

  -- and where it is over, the map is there no more, and no map that stands has its name.
  abbrev pub EndingsAreOver : Type 0
  EndingsAreOver =
      (name : ℕ → List ℕ) (m : Moment K V) (known : Known) (s : Scene K V) → (shown : Refines same name m known s)
      → (own : List ℕ) (remains : List Remains) → ((map : ℕ) (standing : Standing K) (there : MapThere) → s.maps map ≡ Some standing → map_at map m ≡ Some there → is_same there.name own ≡ false)
      → RefinesAfter same name m known s shown (without_map own remains m) known s

module _ (K V : Type 0) (same : K → K → Bool) (hash : ℕ → K → ℕ) where
  -- The promise, of a step of an end: the number that it is told by is that of no map that stands, and a table that ends with the map is one of it. Pairs and
  -- tables end in the order in which their blocks are reclaimed.
  abbrev pub EndingsAreShown : Type 0
  EndingsAreShown =
      (name : ℕ → List ℕ) (m : Moment K V) (known : Known) (s : Scene K V) (old new : Held K V) → IsAt same hash old s → (shown : Refines same name m known s)
      → (i : ℕ) (told : Settled (Node K V)) (leads : EndingLeads same hash i told s old new) (f : Finishing K V) (here : s.enders i ≡ Some f) (map : ℕ) → s.maps map ≡ None
      → AtEachEffect (λ v effect. EndsWith v map effect) None (Some map) (effects_of (Ending map) known new.changed) m
      → (let to = leads f here in
      ObservesNext same hash s new i f to.0 to.2.w2 to.2.deed told to.3 new.changed
      × RefinesAfter same name m known s shown (with_effects None (Some map) (effects_of (Ending map) known new.changed) m) (known_after (Ending map) new.changed known)
      (ending_after same hash s new i f to.0 to.2.w2 to.2.deed told to.3))
