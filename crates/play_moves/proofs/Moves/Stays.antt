-- Wherever a list of acts has led each entry of its history moves on, but for what its effects find.
use Rattle.std.specs.Prelude.{◌≡◌, ◌≢◌, ◌++◌, ℕ, Bool, List, [], ◌∷◌, Option, Some, if◌then◌else◌}
use Rattle.std.proofs.Common.{refl, ap, sym, subst, ◌∙◌}
use Rattle.seize_acts.specs.Acts.Answers.{Grant}
use Rattle.seize_acts.specs.Given.SeizeDeclared.advance.Advance.{Advance}
use Rattle.seize_acts.specs.Given.SeizeDeclared.rows.reclaim_all.ReclaimAll.{ReclaimAll}
use Rattle.seize_acts.specs.Given.SeizeDeclared.rows.settle.Settled.{Settled}
use Rattle.seize_acts.specs.Given.SeizeDeclared.rows.settle.Settled.TheVariants as settled
use Rattle.run_legal.specs.Given.TablesDeclared.node.Node.{Node}
use Rattle.run_legal.specs.Given.TablesDeclared.setting.Setting.{Setting}
use Rattle.threads_rule.specs.Given.ResizeDeclared.new_map.NewMap.{NewMap}
use Rattle.run_schedules.specs.declared.effect.Effect.{Effect}
use Rattle.run_legal.specs.Given.EffectsDeclared.changed.Changed.TheVariants.{Nothing as NoChange}
use Rattle.run_legal.specs.Given.EffectsEffects.{effects_of}
use Rattle.run_legal.specs.Given.EffectsDeclared.acting.Acting.TheVariants as acts
use Rattle.run_legal.specs.Given.FinishesEndings.{Finishing}
use Rattle.run_legal.specs.Given.FinishesMakings.{Beginning}
use Rattle.run_legal.specs.Given.ScenesEnding.{EndingHasOutcome}
use Rattle.run_legal.specs.Given.ScenesHeld.{Held, IsAt}
use Rattle.run_legal.specs.Given.ScenesMaking.{MakingLeads}
use Rattle.run_legal.specs.Given.ScenesScene.{Scene, slot_of}
use Rattle.threads_rule.specs.Given.ActsActs.{Act, Answer, BeginsCall, StepsCall, TellsCall, AsksCall, StopsCall, BeginsMaking, StepsMaking, BeginsEnding, StepsEnding, BeginsRow, StepsRow, OfEnding, OfMaking}
use Rattle.play_linear.specs.Given.ActsAsSteps.{LeadsAs, MadeTo, changed_by, held_in}
use Rattle.play_linear.specs.Given.ActsLeads.{Led, MayBe}
use Rattle.play_linear.specs.Given.AgreesFresh.{HasNewNumber}
use Rattle.run_schedules.specs.Deeds.Deeds.{Ends, Entry, MapGoes, moment}
use Rattle.play_linear.specs.Given.PlayedPlay.{Ending, Making, State, all_begun, choice_come, ending_stepped, is_over, is_refusal, settled_outcome}
use Rattle.play_linear.specs.Given.PlayedReached.{IsOf, made_so, makes_so, rows_beside}
use Rattle.play_linear.proofs.Given.PlayedAlong.{At, StaysSo, held}
use Rattle.play_linear.proofs.Given.PlayedPlayedAs.{PlayedAs, played_as, reclaimed_as}
use Rattle.play_linear.proofs.Linear.Holding.{AllHolds}
use Rattle.play_linear.proofs.Linear.Stays.{all_tied}
use Rattle.play_linear.proofs.Linear.StepsPlayed.{there_alike}
use Rattle.play_linear.proofs.Given.PlayedTied.{EndingTied, MakingTied, ending_tied, making_tied}
use Rattle.play_linear.specs.Endings.GoingOn.{EndsContinue}
use Rattle.play_linear.proofs.Endings.EndStepGoes.{over_whole, step_finds}
use Rattle.play_linear.proofs.Endings.EndSteps.{none_done}
use Rattle.play_linear.proofs.Endings.Stays.{AllGo, ends_go_on}
use Rattle.play_moves.specs.EachMoves.Parts.{DoesIts}
use Rattle.play_moves.proofs.Moves.Acts.{AllMove, asks_move, begins_move, call_steps_move, making_steps_move, row_steps_move, stops_move, told_move}
use Rattle.play_moves.proofs.EachMoves.EndMoves.{ends_move, goes_move}
use Rattle.play_moves.proofs.Moves.MadeHolds.{LeavesMaking, MadeHolds, acts_keep_made, as_it_was, reclaiming_keeps_made}
use Rattle.play_moves.proofs.Moves.MakingActs.{made_then}
use Rattle.play_moves.proofs.Moves.RowMoves.{reclaiming_moves}

module _ {K V S : Type 0} (same : K → K → Bool) (by_hasher : S → K → ℕ) (hash : ℕ → K → ℕ) (batch_size roots : ℕ) (aborts : ℕ → V) (x y : State K V S) (s n : Scene K V) (is : IsOf by_hasher s s.world.row x.now)
    (at : IsAt same hash (held_in batch_size roots NoChange s) s) (all : AllHolds same x s) (go : EndsContinue x s) (made : MadeHolds x) (so : AllMove x) (told : Answer K V) where
  abbrev old : Held K V
  old = held_in batch_size roots NoChange s

  abbrev then_held : Act K V S → Held K V
  then_held act = held_in batch_size roots (changed_by same act s) n

  abbrev Played : Act K V S → Type 0
  Played act = PlayedAs same by_hasher batch_size roots aborts x y act

  abbrev Leads : Act K V S → Type 0
  Leads act = Led same by_hasher batch_size roots slot_of act s told n

  abbrev Goes : Act K V S → Type 0
  Goes act = LeadsAs same by_hasher hash act s told n old (then_held act)

  keeps : (act : Act K V S) → LeavesMaking same by_hasher batch_size roots aborts x y made act → HasNewNumber x act → Played act → MadeHolds y
  keeps act = acts_keep_made same by_hasher batch_size roots aborts x y made act

  -- a map that ends is none that is made
  apart : (i : ℕ) (f : Ending) → x.now.enders i ≡ Some f → (j : ℕ) (b : Making S) → x.now.makers j ≡ Some b → f.map ≢ b.map
  apart i f ending j b makes same_map =
      (let its = there_alike (λ (e : Ending). e.machine) (λ (e : Finishing K V). e.machine) (x.now.enders i) (s.enders i) (is.enders i) f ending in
      let other = there_alike (makes_so by_hasher) made_so (x.now.makers j) (s.makers j) (is.makers j) b makes in
      (all.maps.going i f ending its.0 its.1).gone.not_made j other.0 other.1 (sym (ap (λ (p : ℕ × ((K → ℕ) × NewMap)). p.0) other.2) ∙ sym same_map))

  -- the step of an end
  module _ (i : ℕ) (g : Grant) (at2 : IsAt same hash (then_held (StepsEnding i g)) n) where
    abbrev end_new : Held K V
    end_new = then_held (StepsEnding i g)

    ending_moves : Played (StepsEnding i g) → Leads (StepsEnding i g) → Goes (StepsEnding i g) → AllMove y
    ending_moves played (f, ends, m2, machine, end, computed, told_is, did, came) (said, answer, leads, goes) = subst AllMove (sym z_is) (by said refl (leads f ends).3, so)
      where
        tied : EndingTied same by_hasher batch_size roots aborts s n s.world.row x y is i g f (m2, (machine, end))
        tied = ending_tied same by_hasher batch_size roots aborts s n s.world.row x y is i g f ends (m2, (machine, end)) computed played

        said_is : end ≡ said
        said_is = let both : ◌≡◌ {A = Answer K V} (OfEnding end) (OfEnding said) = sym told_is ∙ answer in cc both

        z_is : y ≡ ending_stepped i tied.it end_new.changed x (m2, (machine, said))
        z_is = tied.comes ∙ ap (λ (p : Settled (Node K V)). ending_stepped i tied.it end_new.changed x (m2, (machine, p))) said_is

        effects : List Effect
        effects = effects_of (acts.Ending tied.it.map) x.known end_new.changed

        entry : Bool → Entry K V
        entry q = record { deed = if q then MapGoes tied.it.map else Ends tied.it.map; outcome = settled_outcome said; effects = effects; refused = is_refusal end_new.changed }

        moving : DoesIts x.history (record { deed = Ends tied.it.map; outcome = settled_outcome said; effects = effects; refused = is_refusal end_new.changed })
        moving =
            ends_move x.history tied.it.map (settled_outcome said) x.known end_new.changed
            (step_finds same by_hasher hash batch_size roots aborts x y s n is at all go told i g tied.it tied.here f ends said leads at2 (f, ends, m2, machine, end, computed, told_is, did, came))

        by : (p : Settled (Node K V)) → said ≡ p → EndingHasOutcome same hash s end_new i f (leads f ends).0 (leads f ends).2.w2 (leads f ends).2.deed p → DoesIts x.history (entry (is_over said))
        by settled.Goes e c = subst (λ (q : Bool). DoesIts x.history (entry q)) (sym (ap is_over e)) moving
        by settled.Waits e c = absurd c
        by (settled.Gave value) e c = subst (λ (q : Bool). DoesIts x.history (entry q)) (sym (ap is_over e)) moving
        by settled.Done e c =
            subst (λ (q : Bool). DoesIts x.history (entry q)) (sym (ap is_over e))
            (goes_move x.history tied.it.map (settled_outcome said) x.known end_new.changed
            (none_done same hash (moment x.history) x.known s old end_new at all.holds.shows.whole i f ends said leads tied.it.map (all.maps.going i tied.it tied.here f ends) (go.each i tied.it tied.here f ends) c.0)
            (over_whole same by_hasher hash batch_size roots aborts x y s n is at all go told i g tied.it tied.here f ends said leads at2 (f, ends, m2, machine, end, computed, told_is, did, came) (ap is_over e)))

  -- the step of a making
  module _ (i : ℕ) (g : Grant) (at2 : IsAt same hash (then_held (StepsMaking i g)) n) where
    abbrev new : Held K V
    new = then_held (StepsMaking i g)

    making_made : Played (StepsMaking i g) → Leads (StepsMaking i g) → Goes (StepsMaking i g) → MadeHolds y
    making_made played (b, makes, m2, machine, end, computed, told_is, did, came) (said, answer, leads, goes) =
        subst MadeHolds (sym tied.comes)
        (made_then same by_hasher hash batch_size roots aborts x y s n is at all.holds all.maps all.again.numbers made told i g b makes m2 machine end computed did came its.0 (its.1 b makes) at2 tied.it tied.here map_is machine_is
        (x.told ++ OfMaking end ∷ []))
      where
        tied : MakingTied same by_hasher batch_size roots aborts s n s.world.row x y is i g b (m2, (machine, end))
        tied = making_tied same by_hasher batch_size roots aborts s n s.world.row x y is i g b makes (m2, (machine, end)) computed played

        map_is : tied.it.map ≡ b.map
        map_is = ap (λ (p : ℕ × ((K → ℕ) × NewMap)). p.0) tied.its

        machine_is : tied.it.machine ≡ b.machine
        machine_is = ap (λ (p : ℕ × ((K → ℕ) × NewMap)). p.1.1) tied.its

        To : Advance Setting → Type 0
        To p = (l : MakingLeads same hash i p s old new) × ((d : Beginning K) (here : s.makers i ≡ Some d) → (let to = l d here in MadeTo same hash s old new i d to.0 to.2.step.w2 p to.3 n))

        its : To end
        its = subst To (let both : ◌≡◌ {A = Answer K V} (OfMaking said) (OfMaking end) = sym answer ∙ told_is in cc both) (leads, goes)

  pub act_moves : (act : Act K V S) → HasNewNumber x act → Played act → MayBe same by_hasher batch_size roots slot_of act s → Leads act → Goes act → IsAt same hash (then_held act) n → MadeHolds y × AllMove y
  act_moves (BeginsCall i m wanted) fits played may led leads at2 =
      (keeps (BeginsCall i m wanted) tt fits played, begins_move same by_hasher hash batch_size roots aborts x y s n is at all.holds all.maps made so told i m wanted played)
  act_moves (StepsCall i m g) fits played may led leads at2 =
      (keeps (StepsCall i m g) tt fits played, call_steps_move same by_hasher hash batch_size roots aborts x y s n is at all.holds all.maps made so told i m g played led leads)
  act_moves (TellsCall i m reply) fits played may led leads at2 =
      (keeps (TellsCall i m reply) tt fits played, told_move same by_hasher hash batch_size roots aborts x y s n is at all.holds all.maps made so told i m reply played)
  act_moves (AsksCall i m) fits played may led leads at2 =
      (keeps (AsksCall i m) tt fits played, asks_move same by_hasher hash batch_size roots aborts x y s n is at all.holds all.maps made so told i m played)
  act_moves (StopsCall i m) fits played may led leads at2 =
      (keeps (StopsCall i m) tt fits played, stops_move same by_hasher hash batch_size roots aborts x y s n is at all.holds all.maps made so told i m played)
  act_moves (BeginsMaking i map hasher given places) fits played may led leads at2 =
      (keeps (BeginsMaking i map hasher given places) tt fits played, subst AllMove (sym played) so)
  act_moves (StepsMaking i g) fits played may led leads at2 = (
    making_made i g at2 played led leads,
    making_steps_move same by_hasher hash batch_size roots aborts x y s n is at all.holds all.maps made so told i g played leads led,
  )
  act_moves (BeginsEnding i m) fits played may led leads at2 = (keeps (BeginsEnding i m) tt fits played, subst AllMove (sym played.2) so)
  act_moves (StepsEnding i g) fits played may led leads at2 = (keeps (StepsEnding i g) (all.maps.names, apart i) fits played, ending_moves i g at2 played led leads)
  act_moves (BeginsRow i request) fits played may led leads at2 = (keeps (BeginsRow i request) tt fits played, subst AllMove (sym played.2) so)
  act_moves (StepsRow i g) fits played may led leads at2 =
      (keeps (StepsRow i g) tt fits played, row_steps_move same by_hasher hash batch_size roots aborts x y s n is at all.holds all.maps made so told i g may played leads)

module _ {K S : Type 0} (V : Type 0) (same : K → K → Bool) (by_hasher : S → K → ℕ) (hash : ℕ → K → ℕ) (batch_size roots : ℕ) (aborts : ℕ → V) where
  abbrev pub Moves : At V same by_hasher hash batch_size roots → State K V S → Type 0
  Moves p x = AllGo V same by_hasher hash batch_size roots aborts p x × (MadeHolds x × AllMove x)

  pub moves_stay : StaysSo V same by_hasher hash batch_size roots aborts HasNewNumber Moves
  moves_stay = record {
    acts = λ p n x y act told own fits none none_then is is_then at may led leads at_then played here. (
      ends.acts p n x y act told own fits none none_then is is_then at may led leads at_then played here.0,
      act_moves same by_hasher hash batch_size roots aborts x y p.0 n.0
          (subst (λ (o : Option (ℕ × ReclaimAll)). IsOf by_hasher p.0 (rows_beside o p.0.world.row) x.now) none is.scene) at here.0.0 here.0.1 here.1.0 here.1.1 told act fits
          (played_as same by_hasher batch_size roots aborts x y act played) may led leads at_then,
    );
    begins = λ p n x i c none begun same_scene all_free is is_then at here. (
      ends.begins p n x i c none begun same_scene all_free is is_then at here.0,
      (as_it_was x here.1.0 (all_begun c x).now (all_begun c x).told refl, here.1.1),
    );
    steps = λ p n x y told g st is is_then at leads scene played here.
        (let it = reclaimed_as same by_hasher batch_size roots aborts x y g played in
        let y_is = all_tied V same by_hasher hash batch_size roots aborts p n x y told g st is it in (
          ends.steps p n x y told g st is is_then at leads scene played here.0,
          (
            reclaiming_keeps_made same by_hasher batch_size roots aborts x y here.1.0 g it,
            subst AllMove (sym y_is)
                (reclaiming_moves same hash x p.0 (held V same by_hasher hash batch_size roots NoChange p) _ here.0.0.holds.shows st.caller _ st.machine st.next st.end at leads, here.1.1),
          ),
        ));
    chooses = λ p n x choice none none_then scene is is_then at here. (
      ends.chooses p n x choice none none_then scene is is_then at here.0,
      (as_it_was x here.1.0 (choice_come choice x).now (choice_come choice x).told refl, here.1.1),
    );
  }
    where
      ends : StaysSo V same by_hasher hash batch_size roots aborts HasNewNumber (AllGo V same by_hasher hash batch_size roots aborts)
      ends = ends_go_on V same by_hasher hash batch_size roots aborts
