-- Each act that is played leaves it so: nothing is reclaimed that is sheltered, and what is is sheltered still.
use Rattle.std.specs.Prelude.{Bool, true, false, Some, is_ok, length, if◌then◌else◌}
use Rattle.std.proofs.Common.{◌≡◌, ℕ, [], ◌∷◌, refl, ap, sym, subst, ◌∙◌}
use Rattle.seize_acts.specs.Acts.Acts.{row_steps}
use Rattle.seize_acts.specs.Acts.Answers.{Grant}
use Rattle.run_logged.specs.Given.SeizeLaw.{Ended}
use Rattle.seize_acts.specs.Given.SeizeWorld.{Row, World}
use Rattle.seize_acts.specs.Given.SeizeDeclared.advance.Advance.{Advance}
use Rattle.seize_acts.specs.Given.SeizeDeclared.advance.Advance.TheVariants as progress
use Rattle.seize_acts.specs.Given.SeizeDeclared.rows.settle.Settled.{Settled}
use Rattle.seize_acts.specs.Given.SeizeDeclared.rows.settle.Settled.TheVariants as settled
use Rattle.play_lists.specs.Given.TablesNodes.{deferred_word}
use Rattle.play_lists.specs.Given.TablesDeclared.node.Node.{Node}
use Rattle.play_lists.specs.Given.TablesDeclared.setting.Setting.{Setting}
use Rattle.run_logged.specs.Given.ResizeDeclared.new_map.NewMap.{NewMap}
use Rattle.run_logged.specs.Given.RawMachine.{machine_asked, machine_replied}
use Rattle.run_logged.specs.Given.RawDeclared.machines.end_map.EndMap.{EndMap}
use Rattle.run_schedules.specs.declared.holders.NamedGuard.{NamedGuard}
use Rattle.run_schedules.specs.Schedules.Moment.{Moment}
use Rattle.run_schedules.specs.declared.outcome.Outcome.{Outcome}
use Rattle.run_schedules.specs.declared.outcome.Outcome.TheVariants as outcome
use Rattle.play_lists.specs.Given.EffectsDeclared.changed.Changed.{Changed}
use Rattle.play_lists.specs.Given.EffectsDeclared.changed.Changed.TheVariants.{Nothing as NoChange}
use Rattle.play_lists.specs.Given.EffectsEffects.{effects_of, known_after}
use Rattle.play_lists.specs.Given.EffectsDeclared.acting.Acting.TheVariants as acts
use Rattle.play_lists.specs.Given.FinishesEndings.{Finishing}
use Rattle.play_lists.specs.Given.FinishesFactsEnds.{Deed as EndDeed}
use Rattle.play_lists.specs.Given.FinishesMakings.{Beginning}
use Rattle.play_lists.specs.Given.OthersMakings.{WasNew}
use Rattle.play_lists.specs.Given.ScenesEnding.{EndingHasOutcome}
use Rattle.play_lists.specs.Given.ScenesHeld.{Held, IsAt}
use Rattle.play_lists.specs.Given.ScenesMaking.{MakingHasOutcome, MakingLeads}
use Rattle.play_lists.specs.Given.ScenesScene.{HasNoCall, IsOnSlot, Scene, row_of, slot_of}
use Rattle.play_lists.specs.Given.ActsActs.{Act, Answer, AsksCall, BeginsCall, BeginsEnding, BeginsMaking, BeginsRow, OfEnding, OfMaking, StepsCall, StepsEnding, StepsMaking, StepsRow, StopsCall, TellsCall}
use Rattle.play_lists.specs.Given.ActsAsSteps.{EndedTo, LeadsAs, MadeTo, changed_by, held_in, row_changed, outcome_of_row_step}
use Rattle.play_lists.specs.Given.ActsLeads.{Led, MayBe}
use Rattle.run_schedules.specs.Deeds.Deeds.{Begins, Entry, Replies, Steps, Stops, begun, moment}
use Rattle.run_logged.specs.Given.NamedSeen.{kind_of}
use Rattle.play_lists.specs.Played.Play.{State, call_for, ending_deed, has_root, is_refusal, making_deed, making_outcome, outcome_of, reply_for, row_deed, row_outcome, row_stepped, settled_outcome}
use Rattle.play_lists.specs.Played.Reached.{IsOf, row_or_rests}
use Rattle.play_lists.proofs.Played.PlayedAs.{PlayedAs}
use Rattle.play_lists.specs.Agrees.Guards.{GuardsAgree, IsOpen as IsOpenOn, guard_on}
use Rattle.play_lists.proofs.Agrees.Openings.{rootless_quiet}
use Rattle.play_lists.proofs.Agrees.Rows.{rows_by}
use Rattle.play_lists.proofs.Given.PromisesLists.{all_found, all_of}
use Rattle.play_linear.proofs.Linear.Holding.{AllHolds}
use Rattle.play_linear.proofs.Linear.MakesRight.{was_new}
use Rattle.play_lists.proofs.Played.Tied.{MakingTied, call_tied, ending_tied, making_tied}
use Rattle.play_linear.specs.Protects.Shelters.{IsOpen}
use Rattle.play_linear.proofs.Protects.Acts.{Protected, begun_keeps, none_more, one_more}
use Rattle.play_linear.proofs.Protects.After.{IsCalm, all_on, protected_so}
use Rattle.play_linear.proofs.Protects.Entries.{call_entry, ending_entry, making_calm, making_entry, quiet_entry, reached}
use Rattle.play_linear.proofs.Protects.Quiet.{held_still, rootless_leaves}
use Rattle.play_linear.proofs.Protects.RowSteps.{begun_sheltered, row_entry_shelters}
use Rattle.play_linear.proofs.Protects.Sections.{Keeps, keeps_by, keeps_same, users_keep}

-- the world of the scene to which a step of a making, or of an end, has come
module _ {K V : Type 0} (same : K → K → Bool) (hash : ℕ → K → ℕ) (s : Scene K V) (old new : Held K V) (i : ℕ) (n : Scene K V) where
  made_world : (b : Beginning K) (opening : NewMap) (w2 : World (Node K V)) (told : Advance Setting) (comes : MakingHasOutcome same hash s old new i b opening w2 told) → MadeTo same hash s old new i b opening w2 told comes n
      → n.world ≡ w2
  made_world b opening w2 progress.Goes comes is = ap (λ (v : Scene K V). v.world) is
  made_world b opening w2 progress.Waits comes never = absurd never
  made_world b opening w2 (progress.Done setting) comes is = ap (λ (v : Scene K V). v.world) is
  made_world b opening w2 (progress.Refused fault) comes is = ap (λ (v : Scene K V). v.world) is

  ended_world : (f : Finishing K V) (ending : EndMap) (w2 : World (Node K V)) (deed : EndDeed) (told : Settled (Node K V)) (comes : EndingHasOutcome same hash s new i f ending w2 deed told)
      → EndedTo same hash s new i f ending w2 deed told comes n → n.world ≡ w2
  ended_world f ending w2 deed settled.Goes comes is = ap (λ (v : Scene K V). v.world) is
  ended_world f ending w2 deed settled.Waits comes never = absurd never
  ended_world f ending w2 deed (settled.Gave value) comes is = ap (λ (v : Scene K V). v.world) is
  ended_world f ending w2 deed settled.Done comes is = ap (λ (v : Scene K V). v.world) is

module _ {K V S : Type 0} (same : K → K → Bool) (by_hasher : S → K → ℕ) (hash : ℕ → K → ℕ) (batch_size roots : ℕ) (aborts : ℕ → V) (x y : State K V S) (s n : Scene K V)
    (is : IsOf by_hasher s s.world.row x.now) (at : IsAt same hash (held_in batch_size roots NoChange s) s) (all : AllHolds same x s) (guards : GuardsAgree x s.world.uses) (so : Protected x s) (told : Answer K V) where
  abbrev old : Held K V
  old = held_in batch_size roots NoChange s

  abbrev then_held : Act K V S → Held K V
  then_held act = held_in batch_size roots (changed_by same act s) n

  abbrev m : Moment K V
  m = moment x.history

  -- an entry without effects, or none
  quiet_by : (taken : Bool) (e : Entry K V) → y.history ≡ (if taken then e ∷ x.history else x.history) → y.known ≡ x.known → n.world ≡ s.world → e.effects ≡ [] → IsCalm e.deed → (begun e.deed m).sheltered ≡ m.sheltered
      → Protected y n
  quiet_by false e history known world none calm begins = none_more x y s n so history known (λ t. keeps_same t s.world n.world (ap (λ (v : World (Node K V)). v.log) world))
  quiet_by true e history known world none calm begins =
      one_more x y s n so e x.known s.world history known world
      (quiet_entry same by_hasher hash x s is old old at all.holds.shows.whole so.0 e none calm begins s.world (λ t o. o) so.0.held)

  steps_protect : (i map : ℕ) (g : Grant) → PlayedAs same by_hasher batch_size roots aborts x y (StepsCall i map g) → Led same by_hasher batch_size roots slot_of (StepsCall i map g) s told n
      → LeadsAs same by_hasher hash (StepsCall i map g) s told n old (then_held (StepsCall i map g)) → Protected y n
  steps_protect i map g played led (said, answer, leads, goes) =
      let new = then_held (StepsCall i map g) in
      let tied = call_tied same by_hasher batch_size roots aborts s n s.world.row x y is i map g told led played in
      let known2 = known_after (acts.Call i map) new.changed x.known in
      let o : Outcome V = outcome_of known2 (kind_of tied.it.call) tied.it.value led.progress in
      one_more x y s n so (record { deed = Steps i; outcome = o; effects = effects_of (acts.Call i map) x.known new.changed; refused = is_refusal new.changed }) known2 (leads map led.call led.here).4.w2
      (ap (λ (z : State K V S). z.history) tied.comes) (ap (λ (z : State K V S). z.known) tied.comes) (ap (λ (v : Scene K V). v.world) (goes map led.call led.here))
      (call_entry same by_hasher hash x s is old new at all.holds.shows.whole so.0 guards map i led.call led.here said leads tied.it.call (all.holds.noted map i tied.it tied.here) o (is_refusal new.changed))

  making_protects : (i : ℕ) (g : Grant) → PlayedAs same by_hasher batch_size roots aborts x y (StepsMaking i g) → Led same by_hasher batch_size roots slot_of (StepsMaking i g) s told n
      → LeadsAs same by_hasher hash (StepsMaking i g) s told n old (then_held (StepsMaking i g)) → Protected y n
  making_protects i g played (b, makes, m2, machine, said, computed, told_is, did, came) (told2, answer, leads, goes) =
      by (has_root b.machine.stands) refl
    where
      new : Held K V
      new = then_held (StepsMaking i g)

      one : told2 ≡ said
      one = let both : ◌≡◌ {A = Answer K V} (OfMaking told2) (OfMaking said) = sym answer ∙ told_is in cc both

      tied : MakingTied same by_hasher batch_size roots aborts s n s.world.row x y is i g b (m2, (machine, said))
      tied = making_tied same by_hasher batch_size roots aborts s n s.world.row x y is i g b makes (m2, (machine, said)) computed played

      map_is : tied.it.map ≡ b.map
      map_is = ap (λ p. p.0) tied.its

      machine_is : tied.it.machine ≡ b.machine
      machine_is = ap (λ p. p.1.1) tied.its

      entry : Entry K V
      entry = record {
        deed = making_deed b.map tied.it.machine machine;
        outcome = making_outcome said;
        effects = effects_of (acts.Making b.map) x.known new.changed;
        refused = is_refusal new.changed;
      }

      history : y.history ≡ entry ∷ x.history
      history =
          ap (λ (z : State K V S). z.history) tied.comes
          ∙ ap (λ (k : ℕ). record { deed = making_deed k tied.it.machine machine; outcome = making_outcome said; effects = effects_of (acts.Making k) x.known new.changed; refused = is_refusal new.changed } ∷ x.history) map_is

      known : y.known ≡ known_after (acts.Making b.map) new.changed x.known
      known = ap (λ (z : State K V S). z.known) tied.comes ∙ ap (λ (k : ℕ). known_after (acts.Making k) new.changed x.known) map_is

      w2 : World (Node K V)
      w2 = (leads b makes).2.step.w2

      world : n.world ≡ w2
      world = made_world same hash s old new i n b (leads b makes).0 w2 told2 (leads b makes).3 (goes b makes)

      its : MakingLeads same hash i said s old new
      its = subst (λ (p : Advance Setting). MakingLeads same hash i p s old new) one leads

      new_one : WasNew b.map told2 m
      new_one =
          subst (λ (p : Advance Setting). WasNew b.map p m) (sym one)
          (was_new same by_hasher hash batch_size roots m x.known x.now.enders s n NoChange new at all.holds.shows.whole all.maps i g b m2 machine said makes computed did came its)

      keeps : (t : ℕ) → Keeps t s.world w2
      keeps t =
          let step = (leads b makes).2.step in
          users_keep old.batch_size t step.events s.world w2 (reached same by_hasher hash x s is old new at all.holds.shows.whole so.0) step.users step.runs

      by : (q : Bool) → has_root b.machine.stands ≡ q → Protected y n
      by true rooted =
          one_more x y s n so entry (known_after (acts.Making b.map) new.changed x.known) w2 history known world
          (making_entry same by_hasher hash x s is old new at all.holds.shows.whole so.0 i told2 leads b makes new_one tied.it.machine machine
          (ap (λ (z : NewMap). has_root z.stands) machine_is ∙ rooted) (making_outcome said) (is_refusal new.changed))
      by false none =
          let steps = (leads b makes).1 in
          let quiet = rootless_quiet b.machine old.memory new.memory new.changed ((leads b makes).0, told2) b.machine.stands none steps (acts.Making b.map) x.known in
          let left = rootless_leaves b.machine old.memory new.memory new.changed ((leads b makes).0, told2) b.machine.stands none steps (acts.Making b.map) x.known in
          one_more x y s n so entry x.known w2 history (known ∙ left) world
          (quiet_entry same by_hasher hash x s is old new at all.holds.shows.whole so.0 entry quiet (making_calm K V b.map tied.it.machine machine) (begun_sheltered entry.deed m) w2
          (λ t o. (keeps t).stays o) (held_still s.world w2 keeps x.known m.there m.sheltered so.0.held))

  ending_protects : (i : ℕ) (g : Grant) → PlayedAs same by_hasher batch_size roots aborts x y (StepsEnding i g) → Led same by_hasher batch_size roots slot_of (StepsEnding i g) s told n
      → LeadsAs same by_hasher hash (StepsEnding i g) s told n old (then_held (StepsEnding i g)) → Protected y n
  ending_protects i g played (f, ends, m2, machine, said, computed, told_is, did, came) (told2, answer, leads, goes) =
      let new = then_held (StepsEnding i g) in
      let one : told2 ≡ said = (let both : ◌≡◌ {A = Answer K V} (OfEnding told2) (OfEnding said) = sym answer ∙ told_is in cc both) in
      let tied = ending_tied same by_hasher batch_size roots aborts s n s.world.row x y is i g f ends (m2, (machine, said)) computed played in
      let effects = effects_of (acts.Ending tied.it.map) x.known new.changed in
      one_more x y s n so (record { deed = ending_deed tied.it told2; outcome = settled_outcome said; effects = effects; refused = is_refusal new.changed }) (known_after (acts.Ending tied.it.map) new.changed x.known) (leads f ends).2.w2
      (ap (λ (z : State K V S). z.history) tied.comes
      ∙ ap (λ (p : Settled (Node K V)). record { deed = ending_deed tied.it p; outcome = settled_outcome said; effects = effects; refused = is_refusal new.changed } ∷ x.history) (sym one))
      (ap (λ (z : State K V S). z.known) tied.comes) (ended_world same hash s old new i n f (leads f ends).0 (leads f ends).2.w2 (leads f ends).2.deed told2 (leads f ends).3 (goes f ends))
      (ending_entry same by_hasher hash x s is old new at all.holds.shows.whole so.0 i told2 leads f ends tied.it (all.maps.going i tied.it tied.here f ends).gone.not_there (settled_outcome said) (is_refusal new.changed))

  row_protects : (i : ℕ) (g : Grant) → HasNoCall s i → PlayedAs same by_hasher batch_size roots aborts x y (StepsRow i g) → Led same by_hasher batch_size roots slot_of (StepsRow i g) s told n
      → LeadsAs same by_hasher hash (StepsRow i g) s told n old (then_held (StepsRow i g)) → Protected y n
  row_protects i g no_call (row, row_is, end, came, y_is) (led_to, computed, happens, maps2, as_they_were, told_is, n_is) (leads, goes) =
      let new = then_held (StepsRow i g) in
      let there : s.world.row i ≡ row_of row = sym (is.between i no_call) ∙ ap row_or_rests row_is in
      let here : IsOnSlot s i row = (no_call, there) in
      let change : row_changed (row_of row) g x.now.memory ≡ new.changed = ap (row_changed (row_of row) g) is.memory ∙ ap (λ (r : Row). row_changed r g s.world.memory) (sym there) in
      let comes : y ≡ row_stepped i row new.changed x end = y_is ∙ ap (λ (c : Changed). row_stepped i row c x end) change in
      let e : Entry K V = record { deed = row_deed row; outcome = row_outcome end.1.1; effects = effects_of acts.Row x.known new.changed; refused = is_refusal new.changed } in
      let w2 = (leads row here).2.0 in
      let one : led_to ≡ w2 = ap (λ (v : Scene K V). v.world) (sym n_is ∙ goes row here) in
      let each = all_of (λ (k : NamedGuard). (k ≡ guard_on k.slot) × IsOpenOn x.now.rows s.world.uses k.slot) (λ (k : NamedGuard). k ≡ guard_on k.slot) m.there.guards (λ k both. both.0) guards.each in
      let inside = rows_by i s.world g w2 row
      (ap (λ (r : Row). row_steps deferred_word i r g s.world) (sym there) ∙ computed ∙ ap Some one) in
      let it = row_entry_shelters same hash m x.known s old new at i (outcome_of_row_step (s.world.row i) g s.world.memory) leads row here each
      (all_on (IsOpen s.world) m.there so.0.guards m.there.guards each (all_found m.there.guards) each) so.0 e refl refl inside in
      one_more x y s n so e (known_after acts.Row new.changed x.known) w2 (ap (λ (z : State K V S). z.history) comes) (ap (λ (z : State K V S). z.known) comes) (ap (λ (v : Scene K V). v.world) (goes row here))
      (it.0, protected_so e x.history it.1)

  -- So it is after each act.
  pub acts_protect : (act : Act K V S) → PlayedAs same by_hasher batch_size roots aborts x y act → MayBe same by_hasher batch_size roots slot_of act s → Led same by_hasher batch_size roots slot_of act s told n
      → LeadsAs same by_hasher hash act s told n old (then_held act) → Protected y n
  acts_protect (BeginsCall i map wanted) (set, there, y_is) may (standing, stands, told_is, n_is) leads =
      quiet_by true (record { deed = Begins i (slot_of i) map (call_for wanted); outcome = outcome.Goes; effects = []; refused = false }) (ap (λ (z : State K V S). z.history) y_is) (ap (λ (z : State K V S). z.known) y_is)
      (ap (λ (v : Scene K V). v.world) n_is) refl (record { there = λ there. refl; sheltered = λ xs. refl }) refl
  acts_protect (StepsCall i map g) played may led leads = steps_protect i map g played led leads
  acts_protect (TellsCall i map reply) (c, has, y_is) may (standing, stands, u, next, here, machine_is, told_is, kind, n_is) leads =
      quiet_by (is_ok (machine_replied c.machine reply).1) (record { deed = Replies i (reply_for (aborts (length x.told)) reply); outcome = outcome.Goes; effects = []; refused = false }) (ap (λ (z : State K V S). z.history) y_is)
      (ap (λ (z : State K V S). z.known) y_is) (ap (λ (v : Scene K V). v.world) n_is) refl (record { there = λ there. refl; sheltered = λ xs. refl }) refl
  acts_protect (AsksCall i map) (c, has, y_is) may (u, here, told_is, n_is) leads =
      none_more x y s n so (ap (λ (z : State K V S). z.history) y_is) (ap (λ (z : State K V S). z.known) y_is) (λ t. keeps_same t s.world n.world (ap (λ (v : Scene K V). v.world.log) n_is))
  acts_protect (StopsCall i map) (c, has, y_is) may (u, here, told_is, n_is) leads =
      quiet_by (machine_asked c.machine).1 (record { deed = Stops i; outcome = outcome.Done; effects = []; refused = false }) (ap (λ (z : State K V S). z.history) y_is) (ap (λ (z : State K V S). z.known) y_is)
      (ap (λ (v : Scene K V). v.world) n_is) refl (record { there = λ there. refl; sheltered = λ xs. refl }) refl
  acts_protect (BeginsMaking i map hasher given places) y_is may (told_is, n_is) leads =
      none_more x y s n so (ap (λ (z : State K V S). z.history) y_is) (ap (λ (z : State K V S). z.known) y_is) (λ t. keeps_same t s.world n.world (ap (λ (v : Scene K V). v.world.log) n_is))
  acts_protect (StepsMaking i g) played may led leads = making_protects i g played led leads
  acts_protect (BeginsEnding i map) (set, there, y_is) may (standing, stands, told_is, n_is) leads =
      none_more x y s n so (ap (λ (z : State K V S). z.history) y_is) (ap (λ (z : State K V S). z.known) y_is)
      (λ t. keeps_by t s.world (Ended standing.setting.counter ∷ []) (tt, tt) n.world (ap (λ (v : Scene K V). v.world.log) n_is))
  acts_protect (StepsEnding i g) played may led leads = ending_protects i g played led leads
  acts_protect (BeginsRow i request) (it, there, y_is) may led (called, request_is, leads, n_is) =
      none_more x y s n so (ap (λ (z : State K V S). z.history) y_is) (ap (λ (z : State K V S). z.known) y_is)
      (λ t. subst (Keeps t s.world) (sym (ap (λ (v : Scene K V). v.world) n_is)) (begun_keeps old.batch_size i (slot_of i) s.world leads.2.0 called leads.2.1.1 t))
  acts_protect (StepsRow i g) played may led leads = row_protects i g may.0 played led leads
