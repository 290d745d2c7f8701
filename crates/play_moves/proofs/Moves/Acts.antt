-- By each act but the step of an end the entry that it makes moves on, but for what its effects find; and what was made for maps under way stays counted.
use Rattle.std.specs.Prelude.{◌≡◌, ℕ, Bool, true, false, List, [], ◌∷◌, is_ok, length, if◌then◌else◌}
use Rattle.std.proofs.Common.{refl, ap, sym, subst, ◌∙◌}
use Rattle.seize_acts.specs.Acts.Answers.{Grant}
use Rattle.seize_acts.specs.Given.SeizeWorld.{Row}
use Rattle.seize_acts.specs.Given.SeizeDeclared.advance.Advance.{Advance}
use Rattle.seize_acts.specs.Given.SeizeDeclared.advance.Advance.TheVariants as progress
use Rattle.run_legal.specs.Given.TablesDeclared.node.Node.{Node}
use Rattle.run_legal.specs.Given.TablesDeclared.setting.Setting.{Setting}
use Rattle.threads_rule.specs.Given.ResizeNewMap.{new_map_plan}
use Rattle.threads_rule.specs.Given.ResizeDeclared.new_map.NewMap.{NewMap}
use Rattle.run_schedules.specs.Given.RawMachine.{machine_asked, machine_replied}
use Rattle.run_schedules.specs.Given.RawDeclared.machines.asking.MachineReply.{MachineReply as Told}
use Rattle.run_schedules.specs.Given.RawDeclared.machines.progress.Progress.{Progress as CallProgress}
use Rattle.run_schedules.specs.Schedules.After.{AtEachEvent}
use Rattle.run_schedules.specs.declared.outcome.Outcome.{Outcome}
use Rattle.run_schedules.specs.declared.outcome.Outcome.TheVariants as outcome
use Rattle.run_schedules.specs.Schedules.Views.{capacity_or, map_at}
use Rattle.run_legal.specs.Given.EffectsDeclared.changed.Changed.{Changed}
use Rattle.run_legal.specs.Given.EffectsDeclared.changed.Changed.TheVariants.{Nothing as NoChange}
use Rattle.run_legal.specs.Given.EffectsEffects.{effects_of}
use Rattle.run_legal.specs.Given.EffectsDeclared.acting.Acting.TheVariants as acts
use Rattle.run_legal.specs.Given.ScenesHeld.{Held, IsAt}
use Rattle.run_legal.specs.Given.ScenesMaking.{MakingLeads}
use Rattle.run_legal.specs.Given.ScenesScene.{IsOnSlot, Scene, row_of, slot_of}
use Rattle.threads_rule.specs.Given.ActsActs.{Act, Answer, BeginsCall, StepsCall, TellsCall, AsksCall, StopsCall, StepsMaking, StepsRow, OfCall, OfMaking, Wanted}
use Rattle.play_linear.specs.Given.ActsAsSteps.{LeadsAs, changed_by, changed_of, held_in, row_changed, outcome_of_row_step}
use Rattle.play_linear.specs.Given.ActsLeads.{Led, MayBe}
use Rattle.play_linear.proofs.Given.ActsAsSteps.Told.{was_told}
use Rattle.run_schedules.specs.Deeds.Deeds.{Begins, Deed, Entry, Replies, Stops, moment}
use Rattle.run_schedules.specs.Deeds.History.{made_for}
use Rattle.play_linear.specs.Given.PlayedPlay.{State, call_for, call_stepped, has_root, is_refusal, making_deed, making_outcome, pairs_for, reply_for, row_outcome, row_stepped}
use Rattle.play_linear.specs.Given.PlayedReached.{IsOf, row_or_rests}
use Rattle.play_linear.proofs.Given.PlayedPlayedAs.{PlayedAs}
use Rattle.run_legal.specs.Given.NeedsMakings.{in_hand, table_left}
use Rattle.play_linear.specs.Linear.Coming.{MapsComeAndGo}
use Rattle.play_linear.proofs.Linear.Coming.{comes_bare}
use Rattle.play_linear.proofs.Linear.Holds.{Holds}
use Rattle.play_linear.proofs.Linear.MakesRight.{was_new}
use Rattle.play_linear.proofs.Given.PlayedTied.{MakingTied, call_tied, making_tied}
use Rattle.play_moves.specs.EachMoves.Parts.{DoesIts}
use Rattle.play_moves.proofs.Moves.CallMoves.{steps_move}
use Rattle.play_moves.proofs.Moves.MadeHolds.{MadeHolds}
use Rattle.play_moves.proofs.Moves.MakingMoves.{makings_move}
use Rattle.play_moves.proofs.EachMoves.Parts.{IsQuiet, quiet_moves}
use Rattle.play_moves.proofs.EachMoves.Rooted.{Rooted, step_rooted}
use Rattle.play_moves.proofs.Moves.RowMoves.{rows_move}

module _ {K V S : Type 0} where
  abbrev pub AllMove : State K V S → Type 0
  AllMove x = AtEachEvent DoesIts x.history

module _ {K V : Type 0} where
  -- what is done with no operation, if it is done
  did_move : (log : List (Entry K V)) → AtEachEvent DoesIts log → (taken : Bool) (d : Deed K V) → IsQuiet d → (o : Outcome V)
      → AtEachEvent DoesIts (if taken then record { deed = d; outcome = o; effects = []; refused = false } ∷ log else log)
  did_move log so true d is o = (quiet_moves log d is o, so)
  did_move log so false d is o = so

module _ {K V S : Type 0} (same : K → K → Bool) (by_hasher : S → K → ℕ) (hash : ℕ → K → ℕ) (batch_size roots : ℕ) (aborts : ℕ → V) (x y : State K V S) (s n : Scene K V) (is : IsOf by_hasher s s.world.row x.now)
    (at : IsAt same hash (held_in batch_size roots NoChange s) s) (holds : Holds same x s) (maps : MapsComeAndGo (moment x.history) x.known x.now.enders s) (made : MadeHolds x) (so : AllMove x) (told : Answer K V) where
  abbrev old : Held K V
  old = held_in batch_size roots NoChange s

  abbrev then_held : Act K V S → Held K V
  then_held act = held_in batch_size roots (changed_by same act s) n

  abbrev Played : Act K V S → Type 0
  Played act = PlayedAs same by_hasher batch_size roots aborts x y act

  abbrev Leads : Act K V S → Type 0
  Leads act = Led same by_hasher batch_size roots slot_of act s told n

  pub begins_move : (i m : ℕ) (wanted : Wanted K V) → Played (BeginsCall i m wanted) → AllMove y
  begins_move i m wanted (set, there, y_is) = subst AllMove (sym y_is) (quiet_moves x.history (Begins i (slot_of i) m (call_for wanted)) tt outcome.Goes, so)

  pub told_move : (i m : ℕ) (reply : Told V) → Played (TellsCall i m reply) → AllMove y
  told_move i m reply (c, here, y_is) = subst AllMove (sym y_is) (did_move x.history so (is_ok (machine_replied c.machine reply).1) (Replies i (reply_for (aborts (length x.told)) reply)) tt outcome.Goes)

  pub asks_move : (i m : ℕ) → Played (AsksCall i m) → AllMove y
  asks_move i m (c, here, y_is) = subst AllMove (sym y_is) so

  pub stops_move : (i m : ℕ) → Played (StopsCall i m) → AllMove y
  stops_move i m (c, here, y_is) = subst AllMove (sym y_is) (did_move x.history so (machine_asked c.machine).1 (Stops i) tt outcome.Done)

  pub call_steps_move : (i m : ℕ) (g : Grant) → Played (StepsCall i m g) → Leads (StepsCall i m g) → LeadsAs same by_hasher hash (StepsCall i m g) s told n old (then_held (StepsCall i m g)) → AllMove y
  call_steps_move i m g played came (said, answer, leads, goes) =
      let tied = call_tied same by_hasher batch_size roots aborts s n s.world.row x y is i m g told came played in
      let new = then_held (StepsCall i m g) in
      let said_is : came.progress ≡ said = (let both : ◌≡◌ {A = Answer K V} (OfCall came.progress) (OfCall said) = sym came.tells ∙ answer in cc both) in
      let z : State K V S = call_stepped i m tied.it new.changed x (came.memory, (came.machine, said)) in
      let y_is : y ≡ z = tied.comes ∙ ap (λ (p : CallProgress (Node K V)). call_stepped i m tied.it new.changed x (came.memory, (came.machine, p))) said_is in
      subst AllMove (sym y_is) (steps_move same hash x s old new at holds.shows holds.noted i m tied.it tied.here came.call came.here said leads, so)

  pub row_steps_move : (i : ℕ) (g : Grant) → MayBe same by_hasher batch_size roots slot_of (StepsRow i g) s → Played (StepsRow i g)
      → LeadsAs same by_hasher hash (StepsRow i g) s told n old (then_held (StepsRow i g)) → AllMove y
  row_steps_move i g may (row, row_is, end, came, y_is) (leads, goes) =
      let new = then_held (StepsRow i g) in
      let there : s.world.row i ≡ row_of row = sym (is.between i may.0) ∙ ap row_or_rests row_is in
      let here : IsOnSlot s i row = (may.0, there) in
      let change : row_changed (row_of row) g x.now.memory ≡ new.changed = ap (row_changed (row_of row) g) is.memory ∙ ap (λ (r : Row). row_changed r g s.world.memory) (sym there) in
      subst AllMove (sym (y_is ∙ ap (λ (c : Changed). row_stepped i row c x end) change))
      (rows_move same hash x s old new holds.shows at i row here (outcome_of_row_step (s.world.row i) g s.world.memory) leads (row_outcome end.1.1), so)

  -- the step of a making
  module _ (i : ℕ) (g : Grant) (played : Played (StepsMaking i g)) (leads : LeadsAs same by_hasher hash (StepsMaking i g) s told n old (then_held (StepsMaking i g))) where
    abbrev new : Held K V
    new = then_held (StepsMaking i g)

    abbrev step : ℕ → NewMap → NewMap → Advance Setting → Entry K V
    step map first machine said = record { deed = making_deed map first machine; outcome = making_outcome said; effects = effects_of (acts.Making map) x.known new.changed; refused = is_refusal new.changed }

    pub making_steps_move : Leads (StepsMaking i g) → AllMove y
    making_steps_move (b, makes, m2, machine, end, computed, told_is, did, came) =
        subst AllMove (sym tied.comes) (
          subst (λ (map : ℕ). DoesIts x.history (step map tied.it.machine machine end)) (sym map_is)
              (subst (λ (first : NewMap). DoesIts x.history (step b.map first machine end)) (sym machine_is)
              (makings_move same hash x s old new at holds.shows i b makes machine end its_leads rooted
              (was_new same by_hasher hash batch_size roots (moment x.history) x.known x.now.enders s n NoChange new at holds.shows.whole maps i g b m2 machine end makes computed did came its_leads)
              (comes_bare b (moment x.history) (maps.coming i b makes)) counted.0 counted.1)),
          so,
        )
      where
        tied : MakingTied same by_hasher batch_size roots aborts s n s.world.row x y is i g b (m2, (machine, end))
        tied = making_tied same by_hasher batch_size roots aborts s n s.world.row x y is i g b makes (m2, (machine, end)) computed played

        map_is : tied.it.map ≡ b.map
        map_is = ap (λ (p : ℕ × ((K → ℕ) × NewMap)). p.0) tied.its

        machine_is : tied.it.machine ≡ b.machine
        machine_is = ap (λ (p : ℕ × ((K → ℕ) × NewMap)). p.1.1) tied.its

        its_leads : MakingLeads same hash i end s old new
        its_leads = subst (λ (p : Advance Setting). MakingLeads same hash i p s old new) (let both : ◌≡◌ {A = Answer K V} (OfMaking leads.0) (OfMaking end) = sym leads.1 ∙ told_is in cc both) leads.2

        rooted : Rooted b.machine.stands (machine, end)
        rooted =
            step_rooted b.machine s.world.memory m2 (changed_of s.world.memory g (new_map_plan {K = K} {V = V} b.machine)) (machine, end) b.machine.stands refl
            (was_told s.world.memory g (new_map_plan {K = K} {V = V} b.machine) (m2, (machine, end)) computed)

        Counted : ℕ → NewMap → Type 0
        Counted map first = (made_for map x.history ≡ in_hand (table_left first progress.Goes)) × (has_root first.stands ≡ true → capacity_or (map_at map (moment x.history)) ≡ pairs_for first.len)

        counted : Counted b.map b.machine
        counted = subst (λ (map : ℕ). Counted map b.machine) map_is (subst (λ (first : NewMap). Counted tied.it.map first) machine_is (made.coming i tied.it tied.here))
