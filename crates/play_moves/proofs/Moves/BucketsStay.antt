-- Wherever a list of acts has led, words of slots are noted just where there are some, and as many buckets are known as the history says that were granted.
use Rattle.std.specs.Prelude.{◌≡◌, ℕ, Bool, true, length, Option, is_ok}
use Rattle.std.proofs.Common.{refl, ap, sym, subst, ◌∙◌}
use Rattle.seize_acts.specs.Acts.Answers.{Grant}
use Rattle.run_schedules.specs.Given.SeizeWordsMem.{Mem}
use Rattle.seize_acts.specs.Given.SeizeReclaimAll.{reclaim_all_plan}
use Rattle.seize_acts.specs.Given.SeizeWorld.{Row}
use Rattle.seize_acts.specs.Given.SeizeDeclared.rows.reclaim_all.ReclaimAll.{ReclaimAll}
use Rattle.run_legal.specs.Given.TablesNodes.{deferred_word, was_left}
use Rattle.run_legal.specs.Given.TablesDeclared.node.Node.{Node}
use Rattle.run_schedules.specs.Given.RawEndMap.{end_map_plan}
use Rattle.run_schedules.specs.Given.RawMachine.{machine_asked, machine_plan, machine_replied}
use Rattle.threads_rule.specs.Given.ResizeNewMap.{new_map_plan}
use Rattle.run_schedules.specs.declared.outcome.Outcome.TheVariants as outcome
use Rattle.run_legal.specs.Given.EffectsDeclared.changed.Changed.{Changed}
use Rattle.run_legal.specs.Given.EffectsDeclared.changed.Changed.TheVariants.{Nothing as NoChange}
use Rattle.run_legal.specs.Given.EffectsEffects.{known_after}
use Rattle.run_legal.specs.Given.EffectsDeclared.acting.Acting.TheVariants as acts
use Rattle.run_legal.specs.Given.FinishesMachines.{machine_of}
use Rattle.run_legal.specs.Given.NamedSeen.{kind_of}
use Rattle.run_legal.specs.Given.ScenesHeld.{Held, IsAt}
use Rattle.run_legal.specs.Given.ScenesScene.{IsOnSlot, Scene, row_of, slot_of}
use Rattle.run_legal.specs.Given.ScenesDeclared.row.RowTold.{RowTold}
use Rattle.run_legal.proofs.Given.FollowsOperations.{Operated, operated}
use Rattle.run_legal.proofs.Given.OthersRowPlans.{row_operated}
use Rattle.run_legal.proofs.Given.RemainsSlots.{slots_begin}
use Rattle.run_legal.proofs.Given.ScenesMay.{may_end, may_make, may_reclaim, may_row, may_step}
use Rattle.threads_rule.specs.Given.ActsActs.{Act, Answer, BeginsCall, StepsCall, TellsCall, AsksCall, StopsCall, BeginsMaking, StepsMaking, BeginsEnding, StepsEnding, BeginsRow, StepsRow}
use Rattle.play_linear.specs.Given.ActsAsSteps.{LeadsAs, changed_by, held_in, row_changed, outcome_of_row_step}
use Rattle.play_linear.specs.Given.ActsLeads.{Led, MayBe}
use Rattle.run_schedules.specs.Deeds.Deeds.{Begins, Replies, Stops}
use Rattle.play_linear.specs.Given.PlayedPlay.{State, call_for, ending_deed, first_state, making_deed, making_outcome, outcome_of, reply_for, row_deed, row_outcome, row_stepped, settled_outcome}
use Rattle.play_linear.specs.Given.PlayedReached.{IsOf, row_or_rests, rows_beside}
use Rattle.play_linear.proofs.Given.PlayedAlong.{StaysSo, held}
use Rattle.play_linear.proofs.Given.PlayedPlayedAs.{PlayedAs, played_as, reclaimed_as}
use Rattle.play_linear.proofs.Linear.Stays.{all_tied, change, end}
use Rattle.play_linear.proofs.Given.PlayedTied.{call_tied, ending_tied, making_tied}
use Rattle.play_moves.proofs.EachMoves.Buckets.{BucketsHold, did_hold, worked_hold}

pub first_buckets : {K V S : Type 0} (roots : ℕ) → BucketsHold {K = K} {V = V} {S = S} (first_state roots)
first_buckets {K} {V} roots = record { slots = slots_begin K V roots; granted = refl }

module _ {K V S : Type 0} (same : K → K → Bool) (by_hasher : S → K → ℕ) (hash : ℕ → K → ℕ) (batch_size roots : ℕ) (aborts : ℕ → V) (x y : State K V S) (s n : Scene K V) (is : IsOf by_hasher s s.world.row x.now)
    (after : y.now.memory ≡ n.world.memory) (at : IsAt same hash (held_in batch_size roots NoChange s) s) (here : BucketsHold x) (told : Answer K V) where
  abbrev old : Held K V
  old = held_in batch_size roots NoChange s

  abbrev then_held : Act K V S → Held K V
  then_held act = held_in batch_size roots (changed_by same act s) n

  abbrev Played : Act K V S → Type 0
  Played act = PlayedAs same by_hasher batch_size roots aborts x y act

  abbrev Leads : Act K V S → Type 0
  Leads act = Led same by_hasher batch_size roots slot_of act s told n

  abbrev Goes : Act K V S → Type 0
  Goes act = LeadsAs same by_hasher hash act s told n old (then_held act)

  -- an operation that was made there was made so
  made : (changed : Changed) → Operated s.world.memory n.world.memory changed → Operated x.now.memory y.now.memory changed
  made changed operation = subst (λ (m : Mem (Node K V)). Operated m y.now.memory changed) (sym is.memory) (subst (λ (m : Mem (Node K V)). Operated s.world.memory m changed) (sym after) operation)

  call_steps : (i m : ℕ) (g : Grant) → Played (StepsCall i m g) → Leads (StepsCall i m g) → Goes (StepsCall i m g) → BucketsHold y
  call_steps i m g played came (said, answer, leads, goes) =
      let tied = call_tied same by_hasher batch_size roots aborts s n s.world.row x y is i m g told came played in
      let new = then_held (StepsCall i m g) in
      let to = leads m came.call came.here in
      let operation = operated old.memory new.memory new.changed (machine_plan same same to.0.hash (machine_of came.call)) (to.1, said) (may_step same hash old s at m to.0 to.2 i came.call came.here) to.3 in
      worked_hold x here y (acts.Call i m) new.changed (made new.changed operation) (ap (λ (z : State K V S). z.known) tied.comes) _
      (outcome_of (known_after (acts.Call i m) new.changed x.known) (kind_of tied.it.call) tied.it.value came.progress) (ap (λ (z : State K V S). z.history) tied.comes)

  making_steps : (i : ℕ) (g : Grant) → Played (StepsMaking i g) → Leads (StepsMaking i g) → Goes (StepsMaking i g) → BucketsHold y
  making_steps i g played (b, makes, m2, machine, end, computed, told_is, did, came) (said, answer, leads, goes) =
      let tied = making_tied same by_hasher batch_size roots aborts s n s.world.row x y is i g b makes (m2, (machine, end)) computed played in
      let new = then_held (StepsMaking i g) in
      let to = leads b makes in
      let operation = operated old.memory new.memory new.changed (new_map_plan {K = K} {V = V} b.machine) (to.0, said) (may_make same hash old s at i b makes) to.1 in
      worked_hold x here y (acts.Making tied.it.map) new.changed (made new.changed operation) (ap (λ (z : State K V S). z.known) tied.comes) (making_deed tied.it.map tied.it.machine machine) (making_outcome end)
      (ap (λ (z : State K V S). z.history) tied.comes)

  ending_steps : (i : ℕ) (g : Grant) → Played (StepsEnding i g) → Leads (StepsEnding i g) → Goes (StepsEnding i g) → BucketsHold y
  ending_steps i g played (f, ends, m2, machine, end, computed, told_is, did, came) (said, answer, leads, goes) =
      let tied = ending_tied same by_hasher batch_size roots aborts s n s.world.row x y is i g f ends (m2, (machine, end)) computed played in
      let new = then_held (StepsEnding i g) in
      let to = leads f ends in
      let operation = operated old.memory new.memory new.changed (end_map_plan {K = K} {V = V} f.machine) (to.0, said) (may_end same hash old s at i f ends) to.1 in
      worked_hold x here y (acts.Ending tied.it.map) new.changed (made new.changed operation) (ap (λ (z : State K V S). z.known) tied.comes) (ending_deed tied.it end) (settled_outcome end)
      (ap (λ (z : State K V S). z.history) tied.comes)

  row_steps : (i : ℕ) (g : Grant) → MayBe same by_hasher batch_size roots slot_of (StepsRow i g) s → Played (StepsRow i g) → Goes (StepsRow i g) → BucketsHold y
  row_steps i g may (row, row_is, end, came, y_is) (leads, goes) =
      let new = then_held (StepsRow i g) in
      let there : s.world.row i ≡ row_of row = sym (is.between i may.0) ∙ ap row_or_rests row_is in
      let on_it : IsOnSlot s i row = (may.0, there) in
      let change : row_changed (row_of row) g x.now.memory ≡ new.changed = ap (row_changed (row_of row) g) is.memory ∙ ap (λ (r : Row). row_changed r g s.world.memory) (sym there) in
      let y_then : y ≡ row_stepped i row new.changed x end = y_is ∙ ap (λ (c : Changed). row_stepped i row c x end) change in
      let to = leads row on_it in
      let said : RowTold (Node K V) = outcome_of_row_step (s.world.row i) g s.world.memory in
      let operation = row_operated old.memory new.memory new.changed (to.0, said) row (may_row same hash old s at i row on_it) to.1 in
      worked_hold x here y acts.Row new.changed (made new.changed operation) (ap (λ (z : State K V S). z.known) y_then) (row_deed row) (row_outcome end.1.1) (ap (λ (z : State K V S). z.history) y_then)

  pub acts_hold_buckets : (act : Act K V S) → Played act → MayBe same by_hasher batch_size roots slot_of act s → Leads act → Goes act → BucketsHold y
  acts_hold_buckets (BeginsCall i m wanted) (there, set, y_is) may led leads = subst BucketsHold (sym y_is) (did_hold x here true (Begins i (slot_of i) m (call_for wanted)) outcome.Goes _ _ refl)
  acts_hold_buckets (StepsCall i m g) played may led leads = call_steps i m g played led leads
  acts_hold_buckets (TellsCall i m reply) (c, has, y_is) may led leads =
      subst BucketsHold (sym y_is) (did_hold x here (is_ok (machine_replied c.machine reply).1) (Replies i (reply_for (aborts (length x.told)) reply)) outcome.Goes _ _ refl)
  acts_hold_buckets (AsksCall i m) (c, has, y_is) may led leads = subst BucketsHold (sym y_is) (record { slots = here.slots; granted = here.granted })
  acts_hold_buckets (StopsCall i m) (c, has, y_is) may led leads = subst BucketsHold (sym y_is) (did_hold x here (machine_asked c.machine).1 (Stops i) outcome.Done _ _ refl)
  acts_hold_buckets (BeginsMaking i map hasher given places) y_is may led leads = subst BucketsHold (sym y_is) (record { slots = here.slots; granted = here.granted })
  acts_hold_buckets (StepsMaking i g) played may led leads = making_steps i g played led leads
  acts_hold_buckets (BeginsEnding i m) (there, set, y_is) may led leads = subst BucketsHold (sym y_is) (record { slots = here.slots; granted = here.granted })
  acts_hold_buckets (StepsEnding i g) played may led leads = ending_steps i g played led leads
  acts_hold_buckets (BeginsRow i request) (called, has, y_is) may led leads = subst BucketsHold (sym y_is) (record { slots = here.slots; granted = here.granted })
  acts_hold_buckets (StepsRow i g) played may led leads = row_steps i g may played leads

module _ {K S : Type 0} (V : Type 0) (same : K → K → Bool) (by_hasher : S → K → ℕ) (hash : ℕ → K → ℕ) (batch_size roots : ℕ) (aborts : ℕ → V) where
  -- So it stays by whatever acts.
  pub buckets_hold : (Fits : State K V S → Act K V S → Type 0) → StaysSo V same by_hasher hash batch_size roots aborts Fits (λ p x. BucketsHold x)
  buckets_hold Fits = record {
    acts = λ p n x y act told own fits none none_then is is_then at may led leads at_then played here.
        acts_hold_buckets same by_hasher hash batch_size roots aborts x y p.0 n.0
        (subst (λ (o : Option (ℕ × ReclaimAll)). IsOf by_hasher p.0 (rows_beside o p.0.world.row) x.now) none is.scene) is_then.scene.memory at here told act
        (played_as same by_hasher batch_size roots aborts x y act played) may led leads;
    begins = λ p n x i c none begun same_scene all_free is is_then at here. record { slots = here.slots; granted = here.granted };
    chooses = λ p n x choice none none_then scene is is_then at here. record { slots = record { some = here.slots.some; none = here.slots.none; whole = here.slots.whole }; granted = here.granted };
    steps = λ p n x y told g st is is_then at leads scene played here.
        (let y_is = all_tied V same by_hasher hash batch_size roots aborts p n x y told g st is (reclaimed_as same by_hasher batch_size roots aborts x y g played) in
        let old = held V same by_hasher hash batch_size roots NoChange p in
        let told_so = change V same by_hasher hash batch_size roots aborts p n x y told g st is in
        let new = held V same by_hasher hash batch_size roots told_so n in
        let operation =
        operated old.memory new.memory new.changed (reclaim_all_plan (deferred_word {K = K} {V = V}) was_left st.machine) (st.next, st.end)
        (may_reclaim same hash old p.0 st.caller _ st.machine at) leads.0 in
        worked_hold x here y acts.Row told_so
        (subst (λ (m : Mem (Node K V)). Operated m y.now.memory told_so) (sym is.scene.memory) (subst (λ (m : Mem (Node K V)). Operated p.0.world.memory m told_so) (sym is_then.scene.memory) operation))
        (ap (λ (z : State K V S). z.known) y_is) _ (settled_outcome st.end) (ap (λ (z : State K V S). z.history) y_is));
  }
