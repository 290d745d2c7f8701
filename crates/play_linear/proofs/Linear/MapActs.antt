-- What is so of a state that is played stays so where a making or an end of a map begins, and takes its step, while the map comes as it must and goes as it was noted: each entry so far is linearizable.
use Rattle.std.specs.Prelude.{◌≡◌, ℕ, Bool, true, false, [], ◌∷◌, Some, None, if◌then◌else◌}
use Rattle.std.proofs.Common.{refl, ap, sym, subst, ◌∙◌}
use Rattle.seize_acts.specs.Acts.Answers.{Grant}
use Rattle.run_schedules.specs.Given.SeizeWordsMem.{Mem}
use Rattle.seize_acts.specs.Given.SeizeWorld.{Row}
use Rattle.seize_acts.specs.Given.SeizeDeclared.advance.Advance.{Advance}
use Rattle.seize_acts.specs.Given.SeizeDeclared.advance.Advance.TheVariants as progress
use Rattle.seize_acts.specs.Given.SeizeDeclared.rows.settle.Settled.{Settled}
use Rattle.seize_acts.specs.Given.SeizeDeclared.rows.settle.Settled.TheVariants as settled
use Rattle.play_lists.specs.Given.TablesDeclared.node.Node.{Node}
use Rattle.play_lists.specs.Given.TablesDeclared.setting.Setting.{Setting}
use Rattle.run_logged.specs.Given.ResizeDeclared.new_map.NewMap.{NewMap}
use Rattle.play_lists.specs.Given.FinishesEndings.{Finishing, MakingStepsWithEndings}
use Rattle.play_lists.specs.Given.FinishesMakings.{Beginning}
use Rattle.play_lists.specs.Given.EffectsDeclared.changed.Changed.{Changed}
use Rattle.play_lists.proofs.Given.ScenesNoCall.{none_is}
use Rattle.play_lists.specs.Given.ScenesHeld.{Held, IsAt}
use Rattle.play_lists.specs.Given.ScenesEnding.{EndingLeads, ending_begun}
use Rattle.play_lists.specs.Given.ScenesMaking.{MakingLeads, making_begun, scene_making}
use Rattle.play_lists.specs.Given.ScenesScene.{Scene, slot_of}
use Rattle.run_schedules.specs.Schedules.After.{AtEachEvent}
use Rattle.run_schedules.specs.declared.outcome.Outcome.{Outcome}
use Rattle.run_schedules.specs.Schedules.Effects.{with_effects}
use Rattle.run_schedules.specs.Schedules.Moment.{Moment}
use Rattle.run_schedules.specs.Schedules.Views.{tables_of}
use Rattle.play_lists.specs.Given.EffectsEffects.{effects_of, known_after}
use Rattle.play_lists.specs.Given.EffectsKnown.{Known}
use Rattle.play_lists.specs.Given.EffectsDeclared.acting.Acting.TheVariants as acts
use Rattle.play_lists.specs.Given.OthersMakings.{WasNew}
use Rattle.run_logged.specs.Given.MomentsNumbers.{AreFound}
use Rattle.run_logged.specs.Log.Ends.{NotedStill, NotesMap}
use Rattle.play_lists.specs.Given.ActsActs.{Act, Answer, OfEnding, OfMaking, BeginsMaking, StepsMaking, BeginsEnding, StepsEnding}
use Rattle.play_lists.specs.Given.ActsAsSteps.{EndedTo, LeadsAs, MadeTo, changed_by, held_in}
use Rattle.play_lists.specs.Given.ActsLeads.{Led, MakingCame, MayBe, making_steps}
use Rattle.run_schedules.specs.Deeds.Deeds.{Deed, Ends, Entry, Makes, MapComes, MapFails, MapGoes, caller_of, come, moment, named}
use Rattle.run_schedules.specs.Deeds.History.{IsLinearizable, past}
use Rattle.play_lists.specs.Played.Play.{Ending, State, ending_begun as end_begun, ending_deed, ending_stepped, has_root, is_over, is_refusal, making_begun as made_begun, making_deed, making_outcome, making_stepped, pairs_for, settled_outcome}
use Rattle.play_lists.specs.Played.Reached.{IsOf}
use Rattle.play_lists.proofs.Played.Noted.{CallsAreNoted, ending_none, made_calls, making_none}
use Rattle.play_lists.proofs.Played.PlayedAs.{PlayedAs}
use Rattle.play_linear.specs.Linear.Shown.{RefinesAnswers}
use Rattle.play_linear.proofs.Linear.Holds.{Holds, onto}
use Rattle.play_linear.proofs.Linear.Heard.{none_said}
use Rattle.play_linear.proofs.Linear.HeardAll.{all_heard}
use Rattle.play_linear.proofs.Linear.MapsPlayed.{IsApart, comes_answer, end_of, ended, ends_answer, ends_are_linearizable, fails_answer, goes_answer, made, makes_answer, makings_are_linearizable}
use Rattle.play_linear.proofs.Linear.OthersGo.{ends_begin, makings_begin}
use Rattle.play_lists.proofs.Played.Tied.{EndingTied, MakingTied, ending_tied, making_tied}

module _ {K V : Type 0} where
  -- a map comes where its root is taken, and goes where it is given up
  abbrev pub deed_by : ℕ → NewMap → Bool → Bool → Deed K V
  deed_by map after before_has after_has =
      if before_has then (if after_has then Makes map else MapFails map) else (if after_has then MapComes map after.setting.root after.setting.mode (pairs_for after.len) else Makes map)

-- no call takes a step by it
no_caller : (K V : Type 0) (map : ℕ) (after : NewMap) (p q : Bool) → caller_of {K = K} {V = V} (deed_by map after p q) ≡ None
no_caller K V map after true true = refl
no_caller K V map after true false = refl
no_caller K V map after false true = refl
no_caller K V map after false false = refl

module _ {K V S : Type 0} (same : K → K → Bool) (by_hasher : S → K → ℕ) (hash : ℕ → K → ℕ) (batch_size roots : ℕ) (aborts : ℕ → V) (x y : State K V S) (s n : Scene K V) (rows : ℕ → Row)
    (is : IsOf by_hasher s rows x.now) (before : Changed) (at : IsAt same hash (held_in batch_size roots before s) s) (holds : Holds same x s) (noted_then : CallsAreNoted y) (told : Answer K V) where
  abbrev old : Held K V
  old = held_in batch_size roots before s

  abbrev then_held : Act K V S → Held K V
  then_held act = held_in batch_size roots (changed_by same act s) n

  abbrev m : Moment K V
  m = moment x.history

  -- A making begins, which has made nothing,
  pub making_begins_hold : (i map : ℕ) (hasher : S) (given : Setting) (places : ℕ) → MayBe same by_hasher batch_size roots slot_of (BeginsMaking i map hasher given places) s
      → PlayedAs same by_hasher batch_size roots aborts x y (BeginsMaking i map hasher given places)
      → LeadsAs same by_hasher hash (BeginsMaking i map hasher given places) s told n old (then_held (BeginsMaking i map hasher given places)) → Holds same y n
  making_begins_hold i map hasher given places may y_is (memory, at2, n_is) =
      let b : Beginning K = making_begun (by_hasher hasher) roots map given places in
      onto same (made_begun i roots map hasher given places x) (scene_making i b s) y n y_is n_is
      (record {
        shows = makings_begin K V same hash (past x.history) m x.known s holds.shows old (then_held (BeginsMaking i map hasher given places)) at i b (none_is (s.makers i) may.0.no_making) (λ has. has) at2;
        noted = holds.noted;
        heard = holds.heard;
        each = holds.each;
      })

  -- and so does an end
  pub end_begins_hold : (i map : ℕ) → MayBe same by_hasher batch_size roots slot_of (BeginsEnding i map) s → PlayedAs same by_hasher batch_size roots aborts x y (BeginsEnding i map)
      → LeadsAs same by_hasher hash (BeginsEnding i map) s told n old (then_held (BeginsEnding i map)) → Holds same y n
  end_begins_hold i map may (set, there, y_is) (to, n_is) =
      onto same (end_begun i map x set) (ending_begun map i to.0 s) y n y_is n_is
      (record {
        shows = ends_begin K V same hash (past x.history) m x.known s holds.shows old (then_held (BeginsEnding i map)) at map i to.0 to.1 (none_is (s.enders i) may.0.no_ending) to.4;
        noted = holds.noted;
        heard = holds.heard;
        each = holds.each;
      })

  -- this step of a making was taken
  abbrev pub MakingDid : (i : ℕ) (g : Grant) (b : Beginning K) (m2 : Mem (Node K V)) (machine : NewMap) (progress : Advance Setting) → Type 0
  MakingDid i g b m2 machine progress =
      (s.makers i ≡ Some b) × (making_steps {S = S} same by_hasher batch_size roots slot_of s g b ≡ Some (m2, (machine, progress))) × (told ≡ OfMaking progress)
      × ((did : MakingStepsWithEndings V same same batch_size roots slot_of s.world s.maps s.calls s.makers s.enders i b m2 (machine, progress))
      × MakingCame {S = S} same by_hasher batch_size roots slot_of s i b did.step.w2 machine n progress)

  -- A step of a making, whose map comes and goes so
  module _ (i : ℕ) (g : Grant) where
    abbrev new : Held K V
    new = then_held (StepsMaking i g)

    -- what is asked of it
    pub record MakesSo (said : Advance Setting) (b : Beginning K) (after : NewMap) : Type 0 where
      pub was_new : WasNew b.map said m
      pub unknown : has_root b.machine.stands ≡ false → has_root after.stands ≡ true → (tables_of b.map m ≡ [])
          × WasNew b.map said (come (record { name = named b.map; number = b.map; root = after.setting.root; mode = after.setting.mode; capacity = pairs_for after.len; first = 0 }) m)
      pub fails : has_root b.machine.stands ≡ true → has_root after.stands ≡ false → (let v = with_effects None (Some b.map) (effects_of (acts.Making b.map) x.known new.changed) m in AreFound v × IsApart b.map v n)

    -- the scene to which it leads
    pub made_is : (said : Advance Setting) (leads : MakingLeads same hash i said s old new) (b : Beginning K) (here : s.makers i ≡ Some b)
        → (let to = leads b here in MadeTo same hash s old new i b to.0 to.2.step.w2 said to.3 n) → n ≡ made same hash x s old new at holds.shows i said leads b here (making_outcome said)
    made_is progress.Goes leads b here is_it = is_it
    made_is progress.Waits leads b here is_it = absurd is_it
    made_is (progress.Done setting) leads b here is_it = is_it
    made_is (progress.Refused fault) leads b here is_it = is_it

    module _ (said : Advance Setting) (leads : MakingLeads same hash i said s old new) (b : Beginning K) (here : s.makers i ≡ Some b) (n_is : n ≡ made same hash x s old new at holds.shows i said leads b here (making_outcome said))
        (at2 : IsAt same hash new n) (after : NewMap) (so : MakesSo said b after) where
      abbrev entry : Deed K V → Entry K V
      entry d = record { deed = d; outcome = making_outcome said; effects = effects_of (acts.Making b.map) x.known new.changed; refused = is_refusal new.changed }

      abbrev known_then : Known
      known_then = known_after (acts.Making b.map) new.changed x.known

      abbrev led : Scene K V
      led = made same hash x s old new at holds.shows i said leads b here (making_outcome said)

      answers : (p q : Bool) → has_root b.machine.stands ≡ p → has_root after.stands ≡ q
          → RefinesAnswers same (past (entry (deed_by b.map after p q) ∷ x.history)) (moment (entry (deed_by b.map after p q) ∷ x.history)) known_then led
      answers true true had has = makes_answer same hash x s old new at holds.shows i said leads b here (making_outcome said) so.was_new
      answers false false had has = makes_answer same hash x s old new at holds.shows i said leads b here (making_outcome said) so.was_new
      answers false true had has =
          let it = so.unknown had has in comes_answer same hash x s old new at holds.shows i said leads b here (making_outcome said) after it.0 it.1
      answers true false had has =
          let it = so.fails had has in
          let v = with_effects None (Some b.map) (effects_of (acts.Making b.map) x.known new.changed) m in
          fails_answer same hash x s old new at holds.shows i said leads b here (making_outcome said) so.was_new it.0 (subst (IsApart b.map v) n_is it.1)
          (subst (IsAt same hash new) n_is at2)

      pub shown_then : RefinesAnswers same (past (entry (making_deed b.map b.machine after) ∷ x.history)) (moment (entry (making_deed b.map b.machine after) ∷ x.history)) known_then led
      shown_then = answers (has_root b.machine.stands) (has_root after.stands) refl refl

      pub linear_then : AtEachEvent (IsLinearizable same) (entry (making_deed b.map b.machine after) ∷ x.history)
      linear_then = (
        makings_are_linearizable same hash x s old new at holds.shows i said leads b here (making_outcome said) (making_deed b.map b.machine after)
            (no_caller K V b.map after (has_root b.machine.stands) (has_root after.stands)),
        holds.each,
      )

    pub making_steps_hold : PlayedAs same by_hasher batch_size roots aborts x y (StepsMaking i g) → Led same by_hasher batch_size roots slot_of (StepsMaking i g) s told n
        → LeadsAs same by_hasher hash (StepsMaking i g) s told n old new → IsAt same hash new n
        → ((b : Beginning K) (m2 : Mem (Node K V)) (machine : NewMap) (progress : Advance Setting) → MakingDid i g b m2 machine progress → MakesSo progress b machine) → Holds same y n
    making_steps_hold played (b, makes, m2, machine, progress, computed, told_is, did, came) (said, answer, leads, goes) at2 so =
        onto same z (made same hash x s old new at holds.shows i said leads b makes (making_outcome said)) y n z_is n_is
        (record {
          shows = both.0;
          noted = subst CallsAreNoted z_is noted_then;
          heard = all_heard x holds.heard (moment z.history)
              (none_said (step tied.it.map tied.it.machine) m (making_none tied.it.map tied.it.machine machine) (no_caller K V tied.it.map machine (has_root tied.it.machine.stands) (has_root machine.stands))) z.now.calls
              (made_calls i tied.it machine said (record x.now { memory = m2 }));
          each = both.1;
        })
      where
        tied : MakingTied same by_hasher batch_size roots aborts s n rows x y is i g b (m2, (machine, progress))
        tied = making_tied same by_hasher batch_size roots aborts s n rows x y is i g b makes (m2, (machine, progress)) computed played

        said_is : progress ≡ said
        said_is = let both : ◌≡◌ {A = Answer K V} (OfMaking progress) (OfMaking said) = sym told_is ∙ answer in cc both

        its : MakesSo said b machine
        its = subst (λ (p : Advance Setting). MakesSo p b machine) said_is (so b m2 machine progress (makes, computed, told_is, (did, came)))

        z : State K V S
        z = making_stepped i tied.it new.changed x (m2, (machine, said))

        z_is : y ≡ z
        z_is = tied.comes ∙ ap (λ (p : Advance Setting). making_stepped i tied.it new.changed x (m2, (machine, p))) said_is

        n_is : n ≡ made same hash x s old new at holds.shows i said leads b makes (making_outcome said)
        n_is = made_is said leads b makes (goes b makes)

        step : ℕ → NewMap → Entry K V
        step map first = record { deed = making_deed map first machine; outcome = making_outcome said; effects = effects_of (acts.Making map) x.known new.changed; refused = is_refusal new.changed }

        Then : ℕ → NewMap → Type 0
        Then map first =
            RefinesAnswers same (past (step map first ∷ x.history)) (moment (step map first ∷ x.history)) (known_after (acts.Making map) new.changed x.known)
            (made same hash x s old new at holds.shows i said leads b makes (making_outcome said)) × AtEachEvent (IsLinearizable same) (step map first ∷ x.history)

        both : Then tied.it.map tied.it.machine
        both =
            subst (λ (map : ℕ). Then map tied.it.machine) (sym (ap (λ (p : ℕ × ((K → ℕ) × NewMap)). p.0) tied.its))
            (subst (Then b.map) (sym (ap (λ (p : ℕ × ((K → ℕ) × NewMap)). p.1.1) tied.its))
            (shown_then said leads b makes n_is at2 machine its, linear_then said leads b makes n_is at2 machine its))

  -- A step of an end, of a map that was noted so
  module _ (i : ℕ) (g : Grant) where
    abbrev end_new : Held K V
    end_new = then_held (StepsEnding i g)

    -- what is asked of it
    pub record EndsSo (map : ℕ) (f : Finishing K V) : Type 0 where
      pub not_there : s.maps map ≡ None
      pub number : ℕ → ℕ
      pub first : Known
      pub notes : NotesMap map number first f.setting f.chart f.blocks
      pub still : NotedStill first x.known f.back
      pub goes : let v = with_effects None (Some map) (effects_of (acts.Ending map) x.known end_new.changed) m in AreFound v × IsApart map v n

    pub ended_is : (said : Settled (Node K V)) (leads : EndingLeads same hash i said s old end_new) (f : Finishing K V) (here : s.enders i ≡ Some f) (map : ℕ) (so : EndsSo map f)
        → (let to = leads f here in EndedTo same hash s end_new i f to.0 to.2.w2 to.2.deed said to.3 n)
        → n ≡ ended same hash x s old end_new at holds.shows i said leads f here map so.not_there so.number so.first so.notes so.still (settled_outcome said)
    ended_is settled.Goes leads f here map so is_it = is_it
    ended_is settled.Waits leads f here map so is_it = absurd is_it
    ended_is (settled.Gave value) leads f here map so is_it = is_it
    ended_is settled.Done leads f here map so is_it = is_it

    pub ending_steps_hold : PlayedAs same by_hasher batch_size roots aborts x y (StepsEnding i g) → Led same by_hasher batch_size roots slot_of (StepsEnding i g) s told n
        → LeadsAs same by_hasher hash (StepsEnding i g) s told n old end_new → IsAt same hash end_new n → ((e : Ending) (f : Finishing K V) → x.now.enders i ≡ Some e → s.enders i ≡ Some f → EndsSo e.map f) → Holds same y n
    ending_steps_hold played (f, ends, m2, machine, progress, computed, told_is, did, came) (said, answer, leads, goes) at2 so =
        onto same z led y n z_is n_is
        (record {
          shows = answers (is_over said) (settled_outcome said);
          noted = subst CallsAreNoted z_is noted_then;
          heard = all_heard x holds.heard (moment z.history) (none_said (end_of same hash x s old end_new at holds.shows i said leads f ends tied.it.map its.not_there its.number its.first its.notes its.still (settled_outcome said)
              (ending_deed tied.it said)) m (ending_none tied.it said) (none_calls (is_over said))) z.now.calls (λ on j. refl);
          each = (
            ends_are_linearizable same hash x s old end_new at holds.shows i said leads f ends tied.it.map its.not_there its.number its.first its.notes its.still (settled_outcome said) (ending_deed tied.it said)
                (none_calls (is_over said)),
            holds.each,
          );
        })
      where
        tied : EndingTied same by_hasher batch_size roots aborts s n rows x y is i g f (m2, (machine, progress))
        tied = ending_tied same by_hasher batch_size roots aborts s n rows x y is i g f ends (m2, (machine, progress)) computed played

        its : EndsSo tied.it.map f
        its = so tied.it f tied.here ends

        said_is : progress ≡ said
        said_is = let both : ◌≡◌ {A = Answer K V} (OfEnding progress) (OfEnding said) = sym told_is ∙ answer in cc both

        z : State K V S
        z = ending_stepped i tied.it end_new.changed x (m2, (machine, said))

        z_is : y ≡ z
        z_is = tied.comes ∙ ap (λ (p : Settled (Node K V)). ending_stepped i tied.it end_new.changed x (m2, (machine, p))) said_is

        led : Scene K V
        led = ended same hash x s old end_new at holds.shows i said leads f ends tied.it.map its.not_there its.number its.first its.notes its.still (settled_outcome said)

        n_is : n ≡ led
        n_is = ended_is said leads f ends tied.it.map its (goes f ends)

        none_calls : (b : Bool) → caller_of {K = K} {V = V} (if b then MapGoes tied.it.map else Ends tied.it.map) ≡ None
        none_calls true = refl
        none_calls false = refl

        answers : (b : Bool) (o : Outcome V)
            → (let e : Entry K V = record { deed = if b then MapGoes tied.it.map else Ends tied.it.map; outcome = o; effects = effects_of (acts.Ending tied.it.map) x.known end_new.changed; refused = is_refusal end_new.changed } in
            RefinesAnswers same (past (e ∷ x.history)) (moment (e ∷ x.history)) (known_after (acts.Ending tied.it.map) end_new.changed x.known) led)
        answers true o =
            goes_answer same hash x s old end_new at holds.shows i said leads f ends tied.it.map its.not_there its.number its.first its.notes its.still o its.goes.0
            (subst (IsApart tied.it.map (with_effects None (Some tied.it.map) (effects_of (acts.Ending tied.it.map) x.known end_new.changed) m)) n_is its.goes.1) (subst (IsAt same hash end_new) n_is at2)
        answers false o = ends_answer same hash x s old end_new at holds.shows i said leads f ends tied.it.map its.not_there its.number its.first its.notes its.still o
