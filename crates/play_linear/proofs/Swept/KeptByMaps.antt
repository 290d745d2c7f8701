-- What stays so by each kind of step stays so where a making or an end of a map begins, and takes its step, as it is played.
use Rattle.std.specs.Prelude.{◌≡◌, ℕ, Bool, true, false, List, ◌∷◌, Some, None, if◌then◌else◌}
use Rattle.std.proofs.Common.{refl, ap, sym, subst, ◌∙◌}
use Rattle.seize_acts.specs.Acts.Answers.{Grant}
use Rattle.run_schedules.specs.Given.SeizeWordsMem.{Mem}
use Rattle.seize_acts.specs.Given.SeizeWorld.{Row}
use Rattle.seize_acts.specs.Given.SeizeDeclared.advance.Advance.{Advance}
use Rattle.seize_acts.specs.Given.SeizeDeclared.advance.Advance.TheVariants as making
use Rattle.seize_acts.specs.Given.SeizeDeclared.rows.settle.Settled.{Settled}
use Rattle.play_lists.specs.Given.TablesDeclared.node.Node.{Node}
use Rattle.play_lists.specs.Given.TablesDeclared.setting.Setting.{Setting}
use Rattle.run_logged.specs.Given.ResizeNewMap.{new_map_plan}
use Rattle.run_logged.specs.Given.ResizeDeclared.new_map.NewMap.{NewMap}
use Rattle.play_lists.specs.Given.FinishesEndings.{Finishing}
use Rattle.play_lists.specs.Given.FinishesMakings.{Beginning}
use Rattle.play_lists.specs.Given.EffectsDeclared.changed.Changed.{Changed}
use Rattle.play_lists.proofs.Given.ScenesNoCall.{none_is}
use Rattle.play_lists.specs.Given.ScenesHeld.{Held, IsAt}
use Rattle.play_lists.specs.Given.ScenesEnding.{ending_begun}
use Rattle.play_lists.specs.Given.ScenesMaking.{MakingLeads, making_begun, scene_making}
use Rattle.play_lists.specs.Given.ScenesScene.{Scene, slot_of}
use Rattle.run_schedules.specs.Schedules.Effects.{AtEachEffect, with_effects}
use Rattle.run_schedules.specs.Schedules.Moment.{Moment}
use Rattle.play_lists.specs.Given.EffectsEffects.{effects_of, known_after}
use Rattle.play_lists.specs.Given.EffectsKnown.{Known}
use Rattle.play_lists.specs.Given.EffectsDeclared.acting.Acting.TheVariants as acts
use Rattle.run_logged.specs.Given.MomentsEndings.{IsOfIts}
use Rattle.run_logged.proofs.Log.EndTold.{ends_alone}
use Rattle.play_lists.specs.Given.ActsActs.{Act, Answer, OfEnding, OfMaking, BeginsMaking, StepsMaking, BeginsEnding, StepsEnding}
use Rattle.play_lists.specs.Given.ActsAsSteps.{LeadsAs, changed_by, changed_of, held_in}
use Rattle.play_lists.specs.Given.ActsLeads.{Led, MayBe}
use Rattle.play_lists.proofs.Given.ActsAsSteps.Told.{was_told}
use Rattle.play_lists.specs.Agrees.Fresh.{IsFresh}
use Rattle.run_schedules.specs.Deeds.Deeds.{Deed, Ends, Entry, MapGoes, moment, named}
use Rattle.play_lists.specs.Played.Play.{Ending, State, ending_begun as end_begun, ending_stepped, has_root, is_over, is_refusal, making_begun as made_begun, making_deed, making_outcome, making_stepped, settled_outcome}
use Rattle.play_lists.specs.Played.Reached.{IsOf}
use Rattle.play_lists.proofs.Played.Noted.{CallsAreNoted}
use Rattle.play_lists.proofs.Played.PlayedAs.{PlayedAs}
use Rattle.play_linear.proofs.Linear.Holds.{Holds}
use Rattle.play_linear.proofs.Linear.MapActs.{EndsSo, MakesSo, MakingDid, deed_by, ended_is, made_is}
use Rattle.play_linear.proofs.Linear.MapsPlayed.{IsApart, ended, made}
use Rattle.play_lists.proofs.Played.Tied.{EndingTied, MakingTied, ending_tied, making_tied}
use Rattle.play_linear.proofs.Swept.Kept.{IsKept, Now}
use Rattle.play_linear.proofs.Swept.Rooting.{comes_going}

module _ {K V S : Type 0} (same : K → K → Bool) (by_hasher : S → K → ℕ) (hash : ℕ → K → ℕ) (batch_size roots : ℕ) (aborts : ℕ → V) (R P : List (Entry K V) → Known → Scene K V → Type 0)
    (kept : IsKept same hash R P) (x y : State K V S) (s n : Scene K V) (rows : ℕ → Row)
    (is : IsOf by_hasher s rows x.now) (before : Changed) (at : IsAt same hash (held_in batch_size roots before s) s) (holds : Holds same x s) (noted_then : CallsAreNoted y) (other : R x.history x.known s) (so : P x.history x.known s)
    (told : Answer K V) where
  abbrev old : Held K V
  old = held_in batch_size roots before s

  abbrev then_held : Act K V S → Held K V
  then_held act = held_in batch_size roots (changed_by same act s) n

  abbrev m : Moment K V
  m = moment x.history

  abbrev Then : Type 0
  Then = Now same hash R P y.history y.known n

  comes_so : (z : State K V S) (l : Scene K V) → y ≡ z → n ≡ l → Now same hash R P z.history z.known l → Then
  comes_so z l y_is n_is then_so = subst (λ (q : State K V S). Now same hash R P q.history q.known n) (sym y_is) (subst (Now same hash R P z.history z.known) (sym n_is) then_so)

  -- A making begins, which has made nothing, with a number of which nothing is there,
  pub making_begins_kept : (i map : ℕ) (hasher : S) (given : Setting) (places : ℕ) → IsFresh map m → MayBe same by_hasher batch_size roots slot_of (BeginsMaking i map hasher given places) s
      → PlayedAs same by_hasher batch_size roots aborts x y (BeginsMaking i map hasher given places)
      → LeadsAs same by_hasher hash (BeginsMaking i map hasher given places) s told n old (then_held (BeginsMaking i map hasher given places)) → Then
  making_begins_kept i map hasher given places fresh may y_is (memory, at2, n_is) =
      let b : Beginning K = making_begun (by_hasher hasher) roots map given places in
      comes_so (made_begun i roots map hasher given places x) (scene_making i b s) y_is n_is
      (kept.makings_begin x.history x.known s old (then_held (BeginsMaking i map hasher given places)) at holds.shows other so i b (none_is (s.makers i) may.0.no_making) (λ has. has) fresh at2)

  -- and so does an end
  pub end_begins_kept : (i map : ℕ) → MayBe same by_hasher batch_size roots slot_of (BeginsEnding i map) s → PlayedAs same by_hasher batch_size roots aborts x y (BeginsEnding i map)
      → LeadsAs same by_hasher hash (BeginsEnding i map) s told n old (then_held (BeginsEnding i map)) → Then
  end_begins_kept i map may (set, there, y_is) (to, n_is) =
      comes_so (end_begun i map x set) (ending_begun map i to.0 s) y_is n_is
      (kept.ends_begin x.history x.known s old (then_held (BeginsEnding i map)) at holds.shows other so map i to.0 to.1 (none_is (s.enders i) may.0.no_ending) to.4)

  -- A step of a making, whose map comes and goes as it must
  module _ (i : ℕ) (g : Grant) where
    abbrev new : Held K V
    new = then_held (StepsMaking i g)

    abbrev Makes : Advance Setting → Beginning K → NewMap → Type 0
    Makes said b after = MakesSo same by_hasher hash batch_size roots aborts x y s n rows is before at holds noted_then told i g said b after

    module _ (said : Advance Setting) (leads : MakingLeads same hash i said s old new) (b : Beginning K) (here : s.makers i ≡ Some b) (n_is : n ≡ made same hash x s old new at holds.shows i said leads b here (making_outcome said))
        (at2 : IsAt same hash new n) (after : NewMap) (makes : Makes said b after)
        (on : has_root b.machine.stands ≡ false → has_root after.stands ≡ true → said ≡ making.Goes) where
      abbrev entry : Deed K V → Entry K V
      entry d = record { deed = d; outcome = making_outcome said; effects = effects_of (acts.Making b.map) x.known new.changed; refused = is_refusal new.changed }

      abbrev led : Scene K V
      led = made same hash x s old new at holds.shows i said leads b here (making_outcome said)

      at_led : IsAt same hash new led
      at_led = subst (IsAt same hash new) n_is at2

      by_roots : (p q : Bool) → has_root b.machine.stands ≡ p → has_root after.stands ≡ q → Now same hash R P (entry (deed_by b.map after p q) ∷ x.history) (known_after (acts.Making b.map) new.changed x.known) led
      by_roots true true had has = kept.makings_step x.history x.known s old new at holds.shows other so i said leads b here makes.was_new at_led
      by_roots false false had has = kept.makings_step x.history x.known s old new at holds.shows other so i said leads b here makes.was_new at_led
      by_roots false true had has = let it = makes.unknown had has in kept.maps_come x.history x.known s old new at holds.shows other so i said leads b here after had (on had has) it.0 it.1 at_led
      by_roots true false had has =
          let it = makes.fails had has in
          let v = with_effects None (Some b.map) (effects_of (acts.Making b.map) x.known new.changed) m in
          kept.maps_fail x.history x.known s old new at holds.shows other so i said leads b here makes.was_new it.0 (subst (IsApart b.map v) n_is it.1) at_led

      pub made_then : Now same hash R P (entry (making_deed b.map b.machine after) ∷ x.history) (known_after (acts.Making b.map) new.changed x.known) led
      made_then = by_roots (has_root b.machine.stands) (has_root after.stands) refl refl

    pub making_steps_kept : PlayedAs same by_hasher batch_size roots aborts x y (StepsMaking i g) → Led same by_hasher batch_size roots slot_of (StepsMaking i g) s told n
        → LeadsAs same by_hasher hash (StepsMaking i g) s told n old new → IsAt same hash new n
        → ((b : Beginning K) (m2 : Mem (Node K V)) (machine : NewMap) (progress : Advance Setting)
        → MakingDid same by_hasher hash batch_size roots aborts x y s n rows is before at holds noted_then told i g b m2 machine progress → Makes progress b machine) → Then
    making_steps_kept played (b, makes, m2, machine, progress, computed, told_is, did, came) (said, answer, leads, goes) at2 right =
        comes_so z (made same hash x s old new at holds.shows i said leads b makes (making_outcome said)) z_is n_is then_so
      where
        tied : MakingTied same by_hasher batch_size roots aborts s n rows x y is i g b (m2, (machine, progress))
        tied = making_tied same by_hasher batch_size roots aborts s n rows x y is i g b makes (m2, (machine, progress)) computed played

        said_is : progress ≡ said
        said_is = let both : ◌≡◌ {A = Answer K V} (OfMaking progress) (OfMaking said) = sym told_is ∙ answer in cc both

        its : Makes said b machine
        its = subst (λ (p : Advance Setting). Makes p b machine) said_is (right b m2 machine progress (makes, computed, told_is, (did, came)))

        on : has_root b.machine.stands ≡ false → has_root machine.stands ≡ true → said ≡ making.Goes
        on had has =
            sym said_is
            ∙ comes_going b.machine s.world.memory m2 (changed_of s.world.memory g (new_map_plan {K = K} {V = V} b.machine)) (machine, progress) b.machine.stands refl
            (was_told s.world.memory g (new_map_plan {K = K} {V = V} b.machine) (m2, (machine, progress)) computed) had has

        z : State K V S
        z = making_stepped i tied.it new.changed x (m2, (machine, said))

        z_is : y ≡ z
        z_is = tied.comes ∙ ap (λ (p : Advance Setting). making_stepped i tied.it new.changed x (m2, (machine, p))) said_is

        n_is : n ≡ made same hash x s old new at holds.shows i said leads b makes (making_outcome said)
        n_is = made_is same by_hasher hash batch_size roots aborts x y s n rows is before at holds noted_then told i g said leads b makes (goes b makes)

        To : ℕ → NewMap → Type 0
        To map first =
            Now same hash R P (record { deed = making_deed map first machine; outcome = making_outcome said; effects = effects_of (acts.Making map) x.known new.changed; refused = is_refusal new.changed } ∷ x.history)
            (known_after (acts.Making map) new.changed x.known) (made same hash x s old new at holds.shows i said leads b makes (making_outcome said))

        then_so : To tied.it.map tied.it.machine
        then_so =
            subst (λ (map : ℕ). To map tied.it.machine) (sym (ap (λ (p : ℕ × ((K → ℕ) × NewMap)). p.0) tied.its))
            (subst (To b.map) (sym (ap (λ (p : ℕ × ((K → ℕ) × NewMap)). p.1.1) tied.its)) (made_then said leads b makes n_is at2 machine its on))

  -- A step of an end, of a map that was noted so
  module _ (i : ℕ) (g : Grant) where
    abbrev end_new : Held K V
    end_new = then_held (StepsEnding i g)

    abbrev Ended : ℕ → Finishing K V → Type 0
    Ended map f = EndsSo same by_hasher hash batch_size roots aborts x y s n rows is before at holds noted_then told i g map f

    pub ending_steps_kept : PlayedAs same by_hasher batch_size roots aborts x y (StepsEnding i g) → Led same by_hasher batch_size roots slot_of (StepsEnding i g) s told n
        → LeadsAs same by_hasher hash (StepsEnding i g) s told n old end_new → IsAt same hash end_new n → ((e : Ending) (f : Finishing K V) → x.now.enders i ≡ Some e → s.enders i ≡ Some f → Ended e.map f) → Then
    ending_steps_kept played (f, ends, m2, machine, progress, computed, told_is, did, came) (said, answer, leads, goes) at2 right =
        comes_so z led z_is n_is (by (is_over said))
      where
        tied : EndingTied same by_hasher batch_size roots aborts s n rows x y is i g f (m2, (machine, progress))
        tied = ending_tied same by_hasher batch_size roots aborts s n rows x y is i g f ends (m2, (machine, progress)) computed played

        its : Ended tied.it.map f
        its = right tied.it f tied.here ends

        said_is : progress ≡ said
        said_is = let both : ◌≡◌ {A = Answer K V} (OfEnding progress) (OfEnding said) = sym told_is ∙ answer in cc both

        z : State K V S
        z = ending_stepped i tied.it end_new.changed x (m2, (machine, said))

        z_is : y ≡ z
        z_is = tied.comes ∙ ap (λ (p : Settled (Node K V)). ending_stepped i tied.it end_new.changed x (m2, (machine, p))) said_is

        led : Scene K V
        led = ended same hash x s old end_new at holds.shows i said leads f ends tied.it.map its.not_there its.number its.first its.notes its.still (settled_outcome said)

        n_is : n ≡ led
        n_is = ended_is same by_hasher hash batch_size roots aborts x y s n rows is before at holds noted_then told i g said leads f ends tied.it.map its (goes f ends)

        effects_alone : AtEachEffect (IsOfIts tied.it.map) None (Some tied.it.map) (effects_of (acts.Ending tied.it.map) x.known end_new.changed) m
        effects_alone =
            ends_alone same hash named m x.known s old end_new at holds.shows.whole i f ends (leads f ends).0 said (leads f ends).1 (leads f ends).2 tied.it.map its.not_there (leads f ends).3 its.number its.first its.notes its.still

        v : Moment K V
        v = with_effects None (Some tied.it.map) (effects_of (acts.Ending tied.it.map) x.known end_new.changed) m

        by : (b : Bool)
            → Now same hash R P (record { deed = if b then MapGoes tied.it.map else Ends tied.it.map; outcome = settled_outcome said; effects = effects_of (acts.Ending tied.it.map) x.known end_new.changed; refused = is_refusal end_new.changed } ∷ x.history)
            (known_after (acts.Ending tied.it.map) end_new.changed x.known) led
        by true =
            kept.maps_go x.history x.known s old end_new at holds.shows other so i said leads f ends tied.it.map its.not_there effects_alone its.goes.0 (subst (IsApart tied.it.map v) n_is its.goes.1)
            (subst (IsAt same hash end_new) n_is at2)
        by false = kept.ends_step x.history x.known s old end_new at holds.shows other so i said leads f ends tied.it.map its.not_there effects_alone (subst (IsAt same hash end_new) n_is at2)
