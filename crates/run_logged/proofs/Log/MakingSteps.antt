-- The beginning of the making of a map is written down, and a step of it.
use Rattle.std.specs.Prelude.{◌≡◌, ◌+◌, ℕ, Bool, List, ◌++◌, length, Option, Some, None}
use Rattle.std.proofs.Common.{refl, ap, subst, sym, ◌∙◌, arith}
use Rattle.seize.specs.World.{with_at}
use Rattle.seize.specs.declared.advance.Advance.{Advance}
use Rattle.seize.specs.declared.advance.Advance.TheVariants as progress
use Rattle.papaya_raw.specs.Given.TablesDeclared.setting.Setting.{Setting}
use Rattle.run_schedules.specs.declared.effect.Effect.{Effect}
use Rattle.run_schedules.specs.Schedules.Beginning.{with_map}
use Rattle.run_schedules.specs.Schedules.Effects.{with_effects}
use Rattle.run_schedules.specs.Schedules.Moment.{Moment}
use Rattle.run_effects.specs.Effects.Effects.{effects_of, known_after}
use Rattle.run_effects.specs.Effects.Known.{Known, known}
use Rattle.run_effects.specs.declared.notes.Notes.{Notes}
use Rattle.run_effects.specs.declared.acting.Acting.TheVariants as acts
use Rattle.run_effects.specs.declared.role.Role.TheVariants as role
use Rattle.run_shows.specs.Given.FinishesMakings.{Beginning}
use Rattle.run_executor.specs.declared.executor.Executor.{Executor}
use Rattle.run_shows.specs.Others.Makings.{WasNew, making_after}
use Rattle.run_shows.proofs.Others.MakingGoes.{new_maps_stay}
use Rattle.run_executor.proofs.Given.MomentsMakingSteps.{makings_keep_whole}
use Rattle.run_executor.proofs.Given.MomentsMapsCome.{makings_begin_whole, maps_come_whole}
use Rattle.run_executor.proofs.Given.MomentsNumbers.{maps_come_by_number}
use Rattle.run_executor.specs.Given.MomentsWhole.{RefinesWhole}
use Rattle.run_kept.specs.Kept.Kept.{RefinesKept}
use Rattle.run_kept.proofs.Kept.Others.{makings_keep_kept}
use Rattle.run_kept.proofs.Kept.Stays.{makings_begin_kept, stays_kept}
use Rattle.run_logged.specs.Log.Makings.{MakingIsBegun, MakingContinues, MakingSteps, MapIsThere, StaysNew}
use Rattle.run_logged.specs.Log.Shown.{IsCounted, IsShown}
use Rattle.run_logged.specs.declared.logged.Logged.{Logged}
use Rattle.run_logged.proofs.Log.Counted.{counted_comes, counted_making_begins, counted_making_steps, numbers_within, same_memory}
use Rattle.run_kept.proofs.Sheds.LeftNoted.{makings_note_left}
use Rattle.run_logged.proofs.Log.MakingAsks.{making_asks}
use Rattle.run_executor.specs.Executing.IsThere.{IsThere, PreservesSettings, held_by}
use Rattle.run_executor.specs.Executing.Making.{MakesThere}
use Rattle.run_executor.specs.Executing.MakingBegins.{MakingBegins, next_making}
use Rattle.run_shows.specs.Scenes.Scene.{Scene}
use Rattle.run_kept.proofs.Sheds.Held.{making_held, maps_below}
use Rattle.run_shows.specs.Scenes.Making.{MakingLeads}

module _ {K V S : Type 0} (same : K → K → Bool) (hash : K → ℕ) where
  pub making_is_begun : (old new : Logged K V S) (given : Setting) (places i : ℕ)
      → ((s : Scene K V) → IsThere same hash old.executor s → MakingBegins same hash given places i s old.executor new.executor)
      → ((s : Scene K V) → IsThere same hash old.executor s → s.makers i ≡ None)
      → new.notes ≡ old.notes → new.executor.roots ≡ old.executor.roots → length new.executor.maps.items ≡ length old.executor.maps.items + 1
      → (name : ℕ → List ℕ) (m : Moment K V) (s : Scene K V) → IsShown same hash name m old s → MakingIsBegun same hash name m s given places i old new
  making_is_begun old new given places i begins fresh noted roots count name m s shown lawful initial batches mask some sized =
      let b = next_making hash given places old.executor in
      record {
        is_at = (begins s shown.is_at lawful initial batches mask some sized).1;
        shows = subst (λ (n : Notes). RefinesWhole {K = K} {V = V} same name m (known n) (record s { makers = with_at s.makers i (Some b) })) (sym noted)
            (makings_begin_whole K V same name m (known old.notes) s shown.shows i b (λ none. none));
        kept = subst (λ (n : Notes). RefinesKept {K = K} {V = V} name m (known n) (record s { makers = with_at s.makers i (Some b) })) (sym noted)
            (makings_begin_kept K V name m (known old.notes) s shown.kept i b (fresh s shown.is_at));
        counted = counted_making_begins same (λ map. hash) old new roots count noted
            (same_memory same (λ map. hash) old.executor new.executor s (record s { makers = with_at s.makers i (Some b) }) shown.is_at.held
            (begins s shown.is_at lawful initial batches mask some sized).1.held refl)
            m s shown.counted i b (fresh s shown.is_at) (λ none. none);
      }

  -- the executor is there after each step
  pub is_there : (old new : Executor K V S) (s : Scene K V) (i : ℕ) (told : Advance Setting) (went : MakesThere same hash i told s old new) (b : Beginning K) (here : s.makers i ≡ Some b)
      → IsThere same hash new (making_after same (λ map. hash) s (held_by old) (held_by new) i b (went b here).0 (went b here).2.step.w2 told (making_held same hash s old new i told went b here).3)
  is_there old new s i progress.Goes went b here = (went b here).3
  is_there old new s i progress.Waits went b here = absurd (went b here).3
  is_there old new s i (progress.Done setting) went b here = (went b here).3.2
  is_there old new s i (progress.Refused fault) went b here = (went b here).3

  module _ (old : Logged K V S) (stepped : Executor K V S) (notes : Notes) (i map : ℕ) (name : ℕ → List ℕ) (m : Moment K V) (s : Scene K V) (shown : IsShown same hash name m old s) where
    abbrev then_logged : Logged K V S
    then_logged = record { executor = stepped; notes = notes }

    stays_so : (told : Advance Setting) → MakingLeads same (λ map. hash) i told s (held_by old.executor) (held_by stepped) → (b : Beginning K) → s.makers i ≡ Some b → (of : Option ℕ)
        → StaysNew b.map told m (with_effects None of (effects_of (acts.Making b.map) (known old.notes) stepped.memory.changed) m)
    stays_so progress.Goes leads b here of = λ setting is_new.
        new_maps_stay K V same (λ map. hash) name m (known old.notes) s (held_by old.executor) (held_by stepped) shown.is_at.held shown.shows.all.shown i leads b here of setting is_new
    stays_so progress.Waits leads b here of = tt
    stays_so (progress.Done setting) leads b here of = tt
    stays_so (progress.Refused fault) leads b here of = tt

    abbrev Then : (told : Advance Setting) → MakingLeads same (λ map. hash) i told s (held_by old.executor) (held_by stepped) → (b : Beginning K) → s.makers i ≡ Some b → Scene K V
    Then told leads b here = making_after same (λ map. hash) s (held_by old.executor) (held_by stepped) i b (leads b here).0 (leads b here).2.step.w2 told (leads b here).3

    counted_of : (told : Advance Setting) (leads : MakingLeads same (λ map. hash) i told s (held_by old.executor) (held_by stepped))
        → known notes ≡ known_after (acts.Making map) stepped.memory.changed (known old.notes) → PreservesSettings old.executor stepped → (b : Beginning K) (here : s.makers i ≡ Some b) → b.map ≡ map → (of : Option ℕ) → WasNew map told m
        → IsCounted (with_effects None of (effects_of (acts.Making map) (known old.notes) stepped.memory.changed) m) then_logged (Then told leads b here)
    counted_of told leads noted keeps b here of_map of was_new =
        subst (λ (n : ℕ). IsCounted (with_effects None of (effects_of (acts.Making n) (known old.notes) stepped.memory.changed) m) then_logged (Then told leads b here)) of_map
        (counted_making_steps same (λ map. hash) old stepped notes keeps m s shown.is_at.held (maps_below same hash old.executor s shown.is_at) shown.counted i told leads b here of
        (noted ∙ ap (λ (n : ℕ). known_after (acts.Making n) stepped.memory.changed (known old.notes)) (sym of_map))
        (makings_note_left same (λ map. hash) name m (known old.notes) s (held_by old.executor) (held_by stepped) shown.is_at.held shown.shows i told leads b here of
        (subst (λ (n : ℕ). WasNew n told m) (sym of_map) was_new) (Then told leads b here).world))

    making_so : (told : Advance Setting) → ((s : Scene K V) → IsThere same hash old.executor s → MakesThere same hash i told s old.executor stepped)
        → known notes ≡ known_after (acts.Making map) stepped.memory.changed (known old.notes) → PreservesSettings old.executor stepped
        → MakingContinues same hash name m s i map told (effects_of (acts.Making map) (known old.notes) stepped.memory.changed) old then_logged
    making_so told stepping noted keeps b here of_map =
        let went = stepping s shown.is_at in
        let leads = making_held same hash s old.executor stepped i told went in (
          leads,
          λ bare. making_asks map (known old.notes) old.executor.memory.memory stepped.memory.memory stepped.memory.changed b.machine told (leads b here).0 (leads b here).1
              (λ made. shown.shows.counters i b here made ∙ ap role.Counter of_map) bare,
          λ of. (
            subst (λ (n : ℕ). StaysNew n told m (with_effects None of (effects_of (acts.Making n) (known old.notes) stepped.memory.changed) m)) of_map (stays_so told leads b here of),
            λ was_new. record {
              is_at = is_there old.executor stepped s i told went b here;
              shows = subst (λ (k : Known). RefinesWhole {K = K} {V = V} same name (with_effects None of (effects_of (acts.Making map) (known old.notes) stepped.memory.changed) m) k (Then told leads b here)) (sym noted)
                  (subst (λ (n : ℕ). WasNew n told m → RefinesWhole {K = K} {V = V} same name (with_effects None of (effects_of (acts.Making n) (known old.notes) stepped.memory.changed) m)
                  (known_after (acts.Making n) stepped.memory.changed (known old.notes)) (Then told leads b here)) of_map
                  (λ new. makings_keep_whole K V same (λ map. hash) name m (known old.notes) s (held_by old.executor) (held_by stepped) shown.is_at.held shown.shows i told leads b here of new) was_new);
              kept = subst (λ (k : Known). RefinesKept {K = K} {V = V} name (with_effects None of (effects_of (acts.Making map) (known old.notes) stepped.memory.changed) m) k (Then told leads b here)) (sym noted)
                  (subst (λ (n : ℕ). WasNew n told m → RefinesKept {K = K} {V = V} name (with_effects None of (effects_of (acts.Making n) (known old.notes) stepped.memory.changed) m)
                  (known_after (acts.Making n) stepped.memory.changed (known old.notes)) (Then told leads b here)) of_map
                  (λ new. makings_keep_kept K V same (λ map. hash) name m (known old.notes) s (held_by old.executor) (held_by stepped) shown.is_at.held shown.shows shown.kept i told leads b here of new
                  (is_there old.executor stepped s i told went b here).held
                  (makings_keep_whole K V same (λ map. hash) name m (known old.notes) s (held_by old.executor) (held_by stepped) shown.is_at.held shown.shows i told leads b here of new).all.shown) was_new);
              counted = counted_of told leads noted keeps b here of_map of was_new;
            },
          ),
        )

-- The executor has taken the step, and then its memory was noted: the executor stayed as it was.
pub making_steps : {K V S : Type 0} (old new : Logged K V S) (stepped : Executor K V S) (i map : ℕ) (told : Advance Setting) (before after : List Effect)
    → ((same : K → K → Bool) (hash : K → ℕ) (s : Scene K V) → IsThere same hash old.executor s → MakesThere same hash i told s old.executor stepped)
    → after ≡ before ++ effects_of (acts.Making map) (known old.notes) stepped.memory.changed
    → known new.notes ≡ known_after (acts.Making map) stepped.memory.changed (known old.notes)
    → new.executor ≡ stepped → PreservesSettings old.executor stepped → MakingSteps i map told before after old new
making_steps {K} {V} {S} old new stepped i map told before after stepping did noted executor keeps =
    let effects = effects_of (acts.Making map) (known old.notes) stepped.memory.changed in (
      effects,
      did,
      λ same hash name m s shown. subst (λ (e : Executor K V S). MakingContinues same hash name m s i map told effects old (record { executor = e; notes = new.notes })) (sym executor)
          (making_so same hash old stepped new.notes i map name m s shown told (stepping same hash) noted keeps),
    )

-- Where its map comes by the next number, all is shown as before.
pub map_is_there : {K V S : Type 0} (l : Logged K V S) → MapIsThere l
map_is_there {K} {V} l same hash name m s shown numbers there next below free root =
    record {
      is_at = shown.is_at;
      shows = maps_come_whole K V same name m (known l.notes) s shown.shows there (maps_come_by_number K V m numbers there next).1;
      kept = stays_kept K V name m (with_map there m) (known l.notes) s s shown.kept refl refl refl refl refl refl refl refl refl;
      counted = counted_comes l m s shown.counted there
          (numbers_within (length l.executor.maps.items) (with_map there m) (maps_come_by_number K V m numbers there next).0 (omega (arith, below))) free root;
    }
