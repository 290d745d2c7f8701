-- What is so at first, and stays so by each kind of act: each entry is linearizable, the moment shows the scene, and maps come and go as they must.
use Rattle.std.specs.Prelude.{◌≡◌, ℕ, Bool, true, Some}
use Rattle.std.proofs.Common.{ap, sym, subst, ◌∙◌}
use Rattle.seize_acts.specs.Acts.Answers.{Grant}
use Rattle.run_schedules.specs.Given.SeizeWordsMem.{Mem}
use Rattle.seize_acts.specs.Given.SeizeWorld.{Row}
use Rattle.seize_acts.specs.Given.SeizeDeclared.advance.Advance.{Advance}
use Rattle.play_lists.specs.Given.TablesDeclared.node.Node.{Node}
use Rattle.play_lists.specs.Given.TablesDeclared.setting.Setting.{Setting}
use Rattle.run_logged.specs.Given.ResizeDeclared.new_map.NewMap.{NewMap}
use Rattle.play_lists.specs.Given.EffectsDeclared.changed.Changed.TheVariants.{Nothing as NoChange}
use Rattle.play_lists.specs.Given.FinishesEndings.{Finishing}
use Rattle.play_lists.specs.Given.FinishesMakings.{Beginning}
use Rattle.play_lists.specs.Given.ScenesHeld.{Held, IsAt}
use Rattle.play_lists.specs.Given.ScenesMaking.{MakingLeads}
use Rattle.play_lists.specs.Given.ScenesScene.{Scene, slot_of}
use Rattle.run_schedules.specs.Schedules.Moment.{Moment}
use Rattle.play_lists.specs.Given.ActsActs.{Act, Answer, BeginsCall, StepsCall, TellsCall, AsksCall, StopsCall, BeginsMaking, StepsMaking, BeginsEnding, StepsEnding, BeginsRow, StepsRow, OfMaking}
use Rattle.play_lists.specs.Given.ActsAsSteps.{LeadsAs, changed_by, held_in}
use Rattle.play_lists.specs.Given.ActsLeads.{Led, MayBe}
use Rattle.play_lists.specs.Agrees.Fresh.{HasNewNumber, is_taken}
use Rattle.play_lists.proofs.Agrees.GivenBack.{NumbersComeAgain}
use Rattle.play_lists.proofs.Agrees.Numbers.{NumbersHold}
use Rattle.run_schedules.specs.Deeds.Deeds.{moment}
use Rattle.play_lists.specs.Played.Play.{Ending, State}
use Rattle.play_lists.specs.Played.Reached.{IsOf}
use Rattle.play_lists.proofs.Played.Noted.{CallsAreNoted}
use Rattle.play_lists.proofs.Played.PlayedAs.{PlayedAs}
use Rattle.play_linear.specs.Linear.Coming.{IsByNewNumber, IsGone, MapsComeAndGo}
use Rattle.play_linear.proofs.Linear.CallActs.{asks_hold, begins_hold, steps_hold, stops_hold, told_hold}
use Rattle.play_linear.proofs.Linear.ComeActs.{end_begins_come, ending_steps_come, making_begins_come, making_steps_come, quiet_come, row_steps_come, steps_come}
use Rattle.play_linear.proofs.Linear.EndsRight.{goes_well}
use Rattle.play_linear.proofs.Linear.Going.{as_noted, notes_all, notes_still}
use Rattle.play_linear.proofs.Linear.Holds.{Holds}
use Rattle.play_linear.proofs.Linear.Gone.{BeginsOther, acts_leave_gone}
use Rattle.play_linear.proofs.Linear.MakesRight.{fails, not_yet, unknown_yet, was_new}
use Rattle.play_linear.proofs.Linear.MapActs.{EndsSo, MakesSo, MakingDid, end_begins_hold, ending_steps_hold, making_begins_hold, making_steps_hold}
use Rattle.play_linear.proofs.Linear.RowActs.{row_begins_hold, row_steps_hold}

-- So it is of a state and of the scene to which its acts have led.
pub record AllHolds {K V S : Type 0} (same : K → K → Bool) (x : State K V S) (s : Scene K V) : Type 0 where
  pub holds : Holds same x s
  pub maps : MapsComeAndGo (moment x.history) x.known x.now.enders s
  pub again : NumbersComeAgain x

module _ {K V S : Type 0} where
  -- of a number that is not taken nothing is known, and no map with it ends
  pub new_number : (x : State K V S) → NumbersHold true x → (act : Act K V S) → HasNewNumber x act → IsByNewNumber x act
  new_number x numbers (BeginsMaking i map hasher given places) none =
      let fresh = numbers.fresh map none in (
        record { none = fresh.no_map; no_pairs = fresh.bare.no_pair; no_tables = fresh.bare.no_table },
        λ j e ends same_map. (let taken : is_taken map x.history ≡ true = ap (λ (k : ℕ). is_taken k x.history) (sym same_map) ∙ numbers.ended j e ends in cc (taken, none)),
      )
  new_number x numbers _ none = tt

module _ {K V S : Type 0} (same : K → K → Bool) (by_hasher : S → K → ℕ) (hash : ℕ → K → ℕ) (batch_size roots : ℕ) (aborts : ℕ → V) (x y : State K V S) (s n : Scene K V) (rows2 : ℕ → Row)
    (is : IsOf by_hasher s s.world.row x.now) (is_then : IsOf by_hasher n rows2 y.now) (at : IsAt same hash (held_in batch_size roots NoChange s) s) (holds : Holds same x s)
    (maps : MapsComeAndGo (moment x.history) x.known x.now.enders s) (noted_then : CallsAreNoted y) (told : Answer K V) where
  abbrev then_held : Act K V S → Held K V
  then_held act = held_in batch_size roots (changed_by same act s) n

  abbrev old : Held K V
  old = held_in batch_size roots NoChange s

  abbrev m : Moment K V
  m = moment x.history

  gone : (act : Act K V S) → ((map : ℕ) → BeginsOther map act) → Led same by_hasher batch_size roots slot_of act s told n → (map : ℕ) → IsGone map s → IsGone map n
  gone act begins led map was = acts_leave_gone same by_hasher hash batch_size roots map s n was at.hashes act (begins map) told led

  pub making_so : (i : ℕ) (g : Grant) → LeadsAs same by_hasher hash (StepsMaking i g) s told n old (then_held (StepsMaking i g)) → (b : Beginning K) (m2 : Mem (Node K V)) (machine : NewMap) (said : Advance Setting)
      → MakingDid same by_hasher hash batch_size roots aborts x y s n s.world.row is NoChange at holds noted_then told i g b m2 machine said
      → MakesSo same by_hasher hash batch_size roots aborts x y s n s.world.row is NoChange at holds noted_then told i g said b machine
  making_so i g (progress, answer, leads, goes) b m2 machine said (makes, computed, told_is, (did, came)) =
      let new = then_held (StepsMaking i g) in
      let its : MakingLeads same hash i said s old new =
      subst (λ (p : Advance Setting). MakingLeads same hash i p s old new) (let both : ◌≡◌ {A = Answer K V} (OfMaking progress) (OfMaking said) = sym answer ∙ told_is in cc both) leads in
      record {
        was_new = was_new same by_hasher hash batch_size roots m x.known x.now.enders s n NoChange new at holds.shows.whole maps i g b m2 machine said makes computed did came its;
        unknown = λ none has. (
          (unknown_yet same by_hasher hash batch_size roots m x.known x.now.enders s n NoChange new at holds.shows.whole maps i g b m2 machine said makes computed did came its none).no_tables,
          not_yet same by_hasher hash batch_size roots m x.known x.now.enders s n NoChange new at holds.shows.whole maps i g b m2 machine said makes computed did came its none _,
        );
        fails = λ had none. fails same by_hasher hash batch_size roots m x.known x.now.enders s n NoChange new at holds.shows.whole maps i g b m2 machine said makes computed did came its had none;
      }

  pub ending_so : (i : ℕ) (g : Grant) → Led same by_hasher batch_size roots slot_of (StepsEnding i g) s told n → LeadsAs same by_hasher hash (StepsEnding i g) s told n old (then_held (StepsEnding i g))
      → (e : Ending) (f : Finishing K V) → x.now.enders i ≡ Some e → s.enders i ≡ Some f → EndsSo same by_hasher hash batch_size roots aborts x y s n s.world.row is NoChange at holds noted_then told i g e.map f
  ending_so i g led (said, answer, leads, goes) e f ending ends =
      let its = maps.going i e ending f ends in
      record {
        not_there = its.gone.not_there;
        number = its.number;
        first = as_noted e.map f x.known s its;
        notes = notes_all e.map f x.known s its;
        still = notes_still e.map f x.known s its;
        goes = goes_well same hash m x.known x.now.enders s n old (then_held (StepsEnding i g)) at holds.shows.whole maps i e ending f ends said leads (gone (StepsEnding i g) (λ k. tt) led);
      }

  -- By each kind of act it is so again.
  pub acts_hold : (act : Act K V S) → PlayedAs same by_hasher batch_size roots aborts x y act → MayBe same by_hasher batch_size roots slot_of act s → Led same by_hasher batch_size roots slot_of act s told n
      → LeadsAs same by_hasher hash act s told n old (then_held act) → IsAt same hash (then_held act) n → Holds same y n
  acts_hold (BeginsCall i map wanted) played may led leads at2 =
      begins_hold same by_hasher hash batch_size roots aborts x y s n s.world.row rows2 is is_then NoChange at holds noted_then told i map wanted played may leads
  acts_hold (StepsCall i map g) played may led leads at2 = steps_hold same by_hasher hash batch_size roots aborts x y s n s.world.row rows2 is is_then NoChange at holds noted_then told i map g played led leads
  acts_hold (TellsCall i map reply) played may led leads at2 =
      told_hold same by_hasher hash batch_size roots aborts x y s n s.world.row rows2 is is_then NoChange at holds noted_then told i map reply played led at2
  acts_hold (AsksCall i map) played may led leads at2 = asks_hold same by_hasher hash batch_size roots aborts x y s n s.world.row rows2 is is_then NoChange at holds noted_then told i map played led leads
  acts_hold (StopsCall i map) played may led leads at2 = stops_hold same by_hasher hash batch_size roots aborts x y s n s.world.row rows2 is is_then NoChange at holds noted_then told i map played led leads
  acts_hold (BeginsMaking i map hasher given places) played may led leads at2 =
      making_begins_hold same by_hasher hash batch_size roots aborts x y s n s.world.row is NoChange at holds noted_then told i map hasher given places may played leads
  acts_hold (StepsMaking i g) played may led leads at2 =
      making_steps_hold same by_hasher hash batch_size roots aborts x y s n s.world.row is NoChange at holds noted_then told i g played led leads at2 (making_so i g leads)
  acts_hold (BeginsEnding i map) played may led leads at2 = end_begins_hold same by_hasher hash batch_size roots aborts x y s n s.world.row is NoChange at holds noted_then told i map may played leads
  acts_hold (StepsEnding i g) played may led leads at2 =
      ending_steps_hold same by_hasher hash batch_size roots aborts x y s n s.world.row is NoChange at holds noted_then told i g played led leads at2 (ending_so i g led leads)
  acts_hold (BeginsRow i request) played may led leads at2 = row_begins_hold same by_hasher hash batch_size roots aborts x y s n is NoChange at holds noted_then told i request played leads
  acts_hold (StepsRow i g) played may led leads at2 = row_steps_hold same by_hasher hash batch_size roots aborts x y s n is NoChange at holds noted_then told i g may.0 played leads

  pub acts_come : (act : Act K V S) → IsByNewNumber x act → PlayedAs same by_hasher batch_size roots aborts x y act → MayBe same by_hasher batch_size roots slot_of act s
      → Led same by_hasher batch_size roots slot_of act s told n → LeadsAs same by_hasher hash act s told n old (then_held act) → IsAt same hash (then_held act) n
      → MapsComeAndGo (moment y.history) y.known y.now.enders n
  acts_come (BeginsCall i map wanted) new played may led leads at2 =
      quiet_come same by_hasher hash batch_size roots aborts x y s n s.world.row is NoChange at holds.shows.whole maps told (BeginsCall i map wanted) tt played led
  acts_come (StepsCall i map g) new played may led leads at2 =
      steps_come same by_hasher hash batch_size roots aborts x y s n s.world.row is NoChange at holds.shows.whole maps told i map g holds.noted played led leads at2
  acts_come (TellsCall i map reply) new played may led leads at2 =
      quiet_come same by_hasher hash batch_size roots aborts x y s n s.world.row is NoChange at holds.shows.whole maps told (TellsCall i map reply) tt played led
  acts_come (AsksCall i map) new played may led leads at2 = quiet_come same by_hasher hash batch_size roots aborts x y s n s.world.row is NoChange at holds.shows.whole maps told (AsksCall i map) tt played led
  acts_come (StopsCall i map) new played may led leads at2 = quiet_come same by_hasher hash batch_size roots aborts x y s n s.world.row is NoChange at holds.shows.whole maps told (StopsCall i map) tt played led
  acts_come (BeginsMaking i map hasher given places) new played may led leads at2 =
      making_begins_come same by_hasher hash batch_size roots aborts x y s n s.world.row is NoChange at holds.shows.whole maps told i map hasher given places new played led
  acts_come (StepsMaking i g) new played may led leads at2 =
      making_steps_come same by_hasher hash batch_size roots aborts x y s n s.world.row is NoChange at holds.shows.whole maps told i g played led leads at2
  acts_come (BeginsEnding i map) new played may led leads at2 =
      end_begins_come same by_hasher hash batch_size roots aborts x y s n s.world.row is NoChange at holds.shows.whole maps told i map played led
  acts_come (StepsEnding i g) new played may led leads at2 =
      ending_steps_come same by_hasher hash batch_size roots aborts x y s n s.world.row is NoChange at holds.shows.whole maps told i g played led leads at2
  acts_come (BeginsRow i request) new played may led leads at2 =
      quiet_come same by_hasher hash batch_size roots aborts x y s n s.world.row is NoChange at holds.shows.whole maps told (BeginsRow i request) tt played led
  acts_come (StepsRow i g) new played may led leads at2 =
      row_steps_come same by_hasher hash batch_size roots aborts x y s n s.world.row is NoChange at holds.shows.whole maps told i g is may.0 played led leads at2
