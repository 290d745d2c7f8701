-- A making that is refused once it has begun just asks for blocks, or does nothing where it is not refused memory: its event is in its midst at the moment itself, without the map, and once it is over the event keeps its promises and the run goes on.
use Rattle.std.specs.Prelude.{◌≡◌, ◌⊎◌, ℕ, Bool, true, false, List, [], ◌∷◌, flat_map, Option, Some, None}
use Rattle.std.specs.List.{list_all}
use Rattle.std.proofs.Common.{refl, sym, subst, inl, inr, arith}
use Rattle.run_grows.specs.Given.SeizeWordsDeclared.fault.Fault.{Fault}
use Rattle.run_grows.specs.Given.SeizeWordsDeclared.fault.Fault.TheVariants.{Busy, Memory}
use Rattle.run_grows.specs.Given.SeizeWorld.{with_at}
use Rattle.run_grows.specs.Given.TablesDeclared.resize_mode.ResizeMode.{ResizeMode}
use Rattle.run_grows.specs.Given.RunsDeclared.effect.Effect.{Effect}
use Rattle.run_grows.specs.Given.RunsDeclared.effect.Effect.TheVariants.{Asked}
use Rattle.run_grows.specs.Given.RunsDeclared.effect.Growth.TheVariants.{ABlock, ABucket}
use Rattle.run_grows.specs.Given.RunsDeclared.event.Event.TheVariants.{MakeMap}
use Rattle.run_grows.specs.Given.RunsDeclared.outcome.Outcome.TheVariants.{Refused}
use Rattle.run_grows.specs.Given.SchedulesAfter.{after, moment}
use Rattle.run_grows.specs.Given.SchedulesEffects.{AtEachEffect, with_effect, worked}
use Rattle.run_grows.specs.Given.SchedulesEntry.{Entry, acted_on, is_busy}
use Rattle.run_grows.specs.Given.SchedulesHanding.{IsWhole, is_first_making}
use Rattle.run_grows.specs.Given.SchedulesInTurn.{HasRightOutcome, is_growth}
use Rattle.run_grows.specs.Given.SchedulesLinearizable.{shift_of}
use Rattle.run_grows.specs.Given.SchedulesLives.{Finds}
use Rattle.run_grows.specs.Given.SchedulesModel.{IsByModel, sets_in, things_in}
use Rattle.run_grows.specs.Given.SchedulesMoment.{MapThere, Moment}
use Rattle.run_grows.specs.Given.SchedulesReclaims.{IsProtected}
use Rattle.run_grows.specs.Given.SchedulesTerms.{Terms}
use Rattle.run_grows.specs.Given.EffectsKnown.{Known}
use Rattle.run_grows.specs.Given.FinishesMakings.{Beginning, HasMade}
use Rattle.run_grows.proofs.Given.HistoriesOtherCalls.{no_calls_are_linearizable}
use Rattle.run_grows.specs.Given.PromisesSheltered.{SectionsHold}
use Rattle.run_grows.proofs.Given.PromisesProtected.{other_events_end_protected}
use Rattle.run_sweeps.proofs.Purposes.Nothing.{no_calls_are_swept}
use Rattle.run_grows.specs.Given.ModelsFollows.{FollowsModel}
use Rattle.run_grows.proofs.Given.ModelsMapEvents.{making_events_begin as making_sets_begin}
use Rattle.run_grows.specs.Given.FindsLife.{StoresOne}
use Rattle.run_grows.specs.Sources.Stays.{NoneBorn}
use Rattle.run_legal.specs.Between.{IsLike}
use Rattle.run_legal.specs.CallEvents.{IsLegalBut}
use Rattle.run_legal.specs.Carried.{IsSequential, RefinesRun}
use Rattle.run_legal.specs.MapEvents.{InMakingEvent}
use Rattle.run_legal.proofs.Between.{likes_show}
use Rattle.run_legal.proofs.BetweenMaps.{makings_begin}
use Rattle.run_legal.proofs.Growths.{growths_leave}
use Rattle.run_legal.proofs.MapsOver.{making_events_follow}
use Rattle.run_legal.proofs.Over.{reading_like, runs_go_on}
use Rattle.run_legal.proofs.Sourced.{none_born}
use Rattle.run_grows.specs.Given.ScenesHeld.{Held, IsAt}
use Rattle.run_grows.specs.Given.ScenesScene.{Scene}
use Rattle.run_grows.specs.Given.SchedulesTransition.{past, transition}

-- As it begins the event is in its midst.
module _ (K V : Type 0) (same : K → K → Bool) (hash : ℕ → K → ℕ) (name : ℕ → List ℕ) (terms : Terms) (log : List (Entry K V)) (known : Known) (s : Scene K V) (old new : Held K V) (at : IsAt same hash old s)
    (run : RefinesRun same name terms log known s) (own : List ℕ) (mode : ResizeMode) (capacity : ℕ) (there : MapThere) (number : there.number ≡ (moment log).made) (i : ℕ) (b : Beginning K) where
  pub refused_begins : s.makers i ≡ None → b.map ≡ there.number → (HasMade b.machine.stands → ⊥)
      → (IsSequential (MakeMap own mode capacity) log → FollowsModel terms.batch_size terms.roots log known s.world) → IsAt same hash new (record s { makers = with_at s.makers i (Some b) })
      → InMakingEvent same name terms log (MakeMap own mode capacity) b.map (moment log) [] (moment log) known (record s { makers = with_at s.makers i (Some b) })
  refused_begins idle map_is not_made before at2 = (
    record {
      of_maps = refl;
      calls = makings_begin K V same hash name (past log) (moment log) known s old new at run.calls i b idle not_made (run.calls.uncounted b.map (omega (arith, map_is, number))) at2;
      reading = record { past = run.reading.past; begun = run.reading.begun; reads = run.reading.reads };
      worked = refl;
      granted = refl;
      protects = record { inside = run.sections.0; sheltered = run.sections.1; spared = refl };
    },
    λ alone. making_sets_begin K V terms.batch_size terms.roots (things_in log) (sets_in terms.batch_size log) known s.world (before alone),
    subst (λ (n : ℕ). NoneBorn n (moment log)) (sym map_is) (none_born K V (moment log) run.order.0 run.calls.numbers.0 there number),
  )

-- blocks are asked for at any moment, and store nothing
module _ {K V : Type 0} (terms : Terms) (of : Option ℕ) where
  asks_find : (fs : List Effect) (m : Moment K V) → list_all is_growth fs ≡ true → list_all is_first_making fs ≡ true → AtEachEffect (Finds terms None of false []) None of fs m
  asks_find [] m asks firsts = tt
  asks_find (Asked ABlock ∷ fs) m asks firsts = (tt, asks_find fs (with_effect None of (Asked ABlock) m) asks firsts)
  asks_find (Asked ABucket ∷ fs) m asks firsts = absurd (cc firsts)
  asks_find (_ ∷ fs) m asks firsts = absurd (cc asks)

  asks_store : (fs : List Effect) (m : Moment K V) → list_all is_growth fs ≡ true → AtEachEffect (StoresOne None) None of fs m
  asks_store [] m asks = tt
  asks_store (Asked growth ∷ fs) m asks = (tt, asks_store fs (with_effect None of (Asked growth) m) asks)
  asks_store (_ ∷ fs) m asks = absurd (cc asks)

asks_shift : (fs : List Effect) → list_all is_growth fs ≡ true → flat_map shift_of fs ≡ []
asks_shift [] asks = refl
asks_shift (Asked growth ∷ fs) asks = asks_shift fs asks
asks_shift (_ ∷ fs) asks = absurd (cc asks)

module _ (K V : Type 0) (same : K → K → Bool) (name : ℕ → List ℕ) (terms : Terms) (log : List (Entry K V)) (known known2 : Known) (before s : Scene K V) (own : List ℕ) (mode : ResizeMode) (capacity : ℕ) (fault : Fault)
    (steps map : ℕ) (effects : List Effect) (midst : InMakingEvent same name terms log (MakeMap own mode capacity) map (moment log) effects (moment log) known2 s)
    (asks : list_all is_growth effects ≡ true) (or_nothing : (fault ≡ Memory) ⊎ (effects ≡ [])) (firsts : list_all is_first_making effects ≡ true) (never : is_busy {V = V} (Refused fault) ≡ false)
    (run : RefinesRun same name terms log known before) where
  abbrev e : Entry K V
  e = record { event = MakeMap own mode capacity; outcome = Refused fault; steps = steps; effects = effects }

  abbrev m : Moment K V
  m = moment log

  worked_is : worked e m ≡ m
  worked_is = growths_leave (acted_on e.event m) effects m asks

  whole : IsWhole e.event (Refused fault) effects m (worked e m)
  whole = by fault never or_nothing
    where
      by : (its : Fault) → is_busy {V = V} (Refused its) ≡ false → (its ≡ Memory) ⊎ (effects ≡ []) → IsWhole (MakeMap own mode capacity) (Refused its) effects m (worked e m)
      by Memory none so = asks
      by Busy none so = absurd (cc none)
      by _ none (inr nothing) = nothing
      by _ none (inl is) = absurd (cc is)

  follows : IsByModel terms log e × ((moment (e ∷ log)).is_alone ≡ true → FollowsModel terms.batch_size terms.roots (e ∷ log) known2 s.world)
  follows = making_events_follow K V same name terms log map m m known2 s e midst never

  safe : IsProtected log e × SectionsHold (after e m) known2 s.world
  safe = other_events_end_protected K V log e m m None (acted_on e.event m) known2 s.world refl refl refl refl (sym worked_is) midst.0.protects

  legal : IsLegalBut same terms log e
  legal = record {
    brief = tt;
    linearizable = no_calls_are_linearizable K V same (past log) (transition log e) refl (asks_shift effects asks);
    swept = no_calls_are_swept K V same terms (past log) (transition log e) refl;
    life = record {
      finds = asks_find terms (acted_on e.event m) effects m asks firsts;
      may = firsts;
      granted = midst.0.granted;
      refuses = refl;
      whole = whole;
      leaves = tt;
    };
    protected = safe.0;
    by_model = follows.0;
  }

  like : IsLike m (moment (e ∷ log))
  like = subst (λ (x : Moment K V). IsLike x (moment (e ∷ log))) worked_is refl

  -- Once it is over the event is legal, and the run goes on.
  pub refused_ends : HasRightOutcome terms log e → IsLegalBut same terms log e × RefinesRun same name terms (e ∷ log) known2 s
  refused_ends right = (
    legal,
    runs_go_on K V same name name terms log known known2 before s run e right legal.life (asks_store terms (acted_on e.event m) effects m asks) tt
        (likes_show K V same name (past log) m (moment (e ∷ log)) known2 s midst.0.calls like) (reading_like name log (λ j. 0) m (moment (e ∷ log)) s midst.0.reading like) safe.1 (λ alone. inl (follows.1 alone)),
  )
