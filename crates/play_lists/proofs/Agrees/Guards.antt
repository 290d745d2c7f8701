-- Wherever a list has led, the guards of its history are the slots within sections.
use Rattle.std.specs.Prelude.{Bool, true, false, Option, Some, None, option_map, is_ok, length, if◌then◌else◌}
use Rattle.std.proofs.Common.{◌≡◌, ℕ, List, [], ◌∷◌, refl, ap, sym, subst, ◌∙◌}
use Rattle.seize_acts.specs.Acts.Acts.{row_steps}
use Rattle.seize_acts.specs.Acts.Answers.{Grant}
use Rattle.seize.specs.World.{World, Row, Rests, Begins as BeginsSo, IsInside, Request, with_at}
use Rattle.seize.specs.ReclaimAll.{reclaim_all_plan}
use Rattle.seize.specs.declared.advance.Advance.{Advance}
use Rattle.seize.specs.declared.advance.Advance.TheVariants as progress
use Rattle.seize.specs.declared.rows.reclaim_all.ReclaimAll.{ReclaimAll}
use Rattle.seize.specs.declared.rows.settle.Settled.{Settled}
use Rattle.seize.specs.declared.rows.settle.Settled.TheVariants as settled
use Rattle.map_tables.specs.Nodes.{deferred_word, was_left}
use Rattle.map_tables.specs.declared.node.Node.{Node}
use Rattle.map_tables.specs.declared.setting.Setting.{Setting}
use Rattle.run_kept.specs.Given.ResizeNewMap.{new_map_plan}
use Rattle.run_finds.specs.Given.ResizeDeclared.new_map.NewMap.{NewMap}
use Rattle.run_schedules.specs.Given.RawEndMap.{end_map_plan}
use Rattle.run_finds.specs.Given.RawMachine.{machine_asked, machine_plan, machine_replied}
use Rattle.run_finds.specs.Given.RawDeclared.machines.end_map.EndMap.{EndMap}
use Rattle.many_acts.specs.Given.CallersRows.{IsUsedAlike}
use Rattle.many_acts.specs.Given.CallersTogether.{CameAbout}
use Rattle.many_acts.specs.Given.FinishesEndings.{Finishing}
use Rattle.many_acts.specs.Given.FinishesFactsEnds.{Deed as EndDeed}
use Rattle.many_acts.specs.Given.FinishesMakings.{Beginning}
use Rattle.many_acts.proofs.Given.CallersTogether.Came.{came_reached}
use Rattle.many_acts.proofs.Given.CallersTogether.Users.{events_uses}
use Rattle.many_acts.specs.Given.ScenesRows.{begun_row, request_of}
use Rattle.many_acts.specs.Given.ScenesScene.{Scene, at_first, row_of, slot_of}
use Rattle.many_acts.specs.Given.ScenesDeclared.row.SlotCall.{SlotCall}
use Rattle.many_acts.specs.Given.ScenesDeclared.row.SlotRow.{SlotRow}
use Rattle.run_schedules.specs.Runs.Present.{Present, nobody}
use Rattle.run_schedules.specs.declared.outcome.Outcome.TheVariants as outcome
use Rattle.many_acts.specs.Acts.Acts.{Act, Answer, BeginsCall, StepsCall, TellsCall, AsksCall, StopsCall, BeginsMaking, StepsMaking, BeginsEnding, StepsEnding, BeginsRow, StepsRow}
use Rattle.run_kept.specs.Given.EffectsEffects.{effects_of, known_after}
use Rattle.run_kept.specs.Given.EffectsDeclared.acting.Acting.TheVariants as acting
use Rattle.run_finds.specs.Given.NamedSeen.{kind_of}
use Rattle.many_acts.specs.Acts.AsSteps.{IsOwn, changed_of, row_changed}
use Rattle.many_acts.specs.Acts.Leads.{EndingCame, Led, MakingCame, MayBe}
use Rattle.run_schedules.specs.Deeds.Deeds.{Begins, Entry, ReclaimsAll, Replies, Steps, Stops, moment}
use Rattle.play_lists.specs.Played.Play.{Making, Now, State, all_begun, choice_come, call_for, ending_deed, first_state, is_over, is_refusal, made_on, making_deed, making_outcome, outcome_of, reply_for, row_deed, row_on, row_outcome, settled_outcome, slot_call_of}
use Rattle.play_lists.specs.Played.Reached.{IsOf, row_or_rests, rows_beside}
use Rattle.play_lists.proofs.Played.Along.{At, Is, StaysSo, far}
use Rattle.play_lists.proofs.Played.Noted.{Anything}
use Rattle.play_lists.proofs.Played.PlayedAs.{PlayedAs, ReclaimedAs, played_as, reclaimed_as}
use Rattle.play_lists.proofs.Played.Rows.{called_is}
use Rattle.play_lists.specs.Agrees.Guards.{GuardsAgree, GuardsAre, UnlessReclaimed}
use Rattle.play_lists.proofs.Agrees.Leads.{LeavesThere, ending_leaves, making_leaves, there_after, there_as_before}
use Rattle.play_lists.proofs.Agrees.Rows.{rows_by}
use Rattle.play_lists.proofs.Agrees.Slots.{quiet, row_begun_so, row_so, still}
use Rattle.many_acts.proofs.Carries.Onward.{has_ended as over_is}
use Rattle.many_acts.proofs.Given.ScenesRows.{never_rests as no_row}
use Rattle.run_finds.proofs.Given.General.{same_some}

module _ {K V S : Type 0} where
  -- a making that goes on leaves rows as they are
  made_rows : (i : ℕ) (b : Making S) (machine : NewMap) (told : Advance Setting) (now : Now K V S) → (made_on i b machine told now).rows ≡ now.rows
  made_rows i b machine progress.Goes now = refl
  made_rows i b machine progress.Waits now = refl
  made_rows i b machine (progress.Done setting) now = refl
  made_rows i b machine (progress.Refused fault) now = refl

module _ {K V : Type 0} where
  -- one entry more or none, by which nobody comes or goes
  perhaps : (taken : Bool) (e : Entry K V) (log : List (Entry K V)) → LeavesThere e.deed → (moment (if taken then e ∷ log else log)).there ≡ (moment log).there
  perhaps true e log leaves = there_as_before e log leaves
  perhaps false e log leaves = refl

module _ {K V S : Type 0} (same : K → K → Bool) (by_hasher : S → K → ℕ) (hash : ℕ → K → ℕ) (batch_size roots : ℕ) (aborts : ℕ → V) (s n : Scene K V) (x y : State K V S)
    (is_of : IsOf by_hasher s s.world.row x.now) (came : CameAbout batch_size s.world) (here : GuardsAgree x s.world.uses) where
  -- the world then, by what it told
  making_world : (i : ℕ) (b : Beginning K) (w2 : World (Node K V)) (machine : NewMap) (told : Advance Setting) → MakingCame {S = S} same by_hasher batch_size roots slot_of s i b w2 machine n told → n.world ≡ w2
  making_world i b w2 machine progress.Goes is = ap (λ (v : Scene K V). v.world) is
  making_world i b w2 machine progress.Waits never = absurd never
  making_world i b w2 machine (progress.Done setting) (standing, is_made, is) = ap (λ (v : Scene K V). v.world) is
  making_world i b w2 machine (progress.Refused fault) is = ap (λ (v : Scene K V). v.world) is

  ending_world : (i : ℕ) (f : Finishing K V) (w2 : World (Node K V)) (deed : EndDeed) (machine : EndMap) (told : Settled (Node K V)) → EndingCame {S = S} same by_hasher batch_size roots slot_of s i f w2 deed machine n told
      → n.world ≡ w2
  ending_world i f w2 deed machine settled.Goes (none, is) = ap (λ (v : Scene K V). v.world) is
  ending_world i f w2 deed machine settled.Waits never = absurd never
  ending_world i f w2 deed machine (settled.Gave value) (b, was, taken, is) = ap (λ (v : Scene K V). v.world) is
  ending_world i f w2 deed machine settled.Done (none, finished, is) = ap (λ (v : Scene K V). v.world) is

  -- nothing has happened to slots
  calm : n.world.uses ≡ s.world.uses → y.now.rows ≡ x.now.rows → (moment y.history).there ≡ (moment x.history).there → GuardsAgree y n.world.uses
  calm uses_are rows_are there_is = still x s.world.uses here y n.world rows_are uses_are there_is

  uses_by : (w : World (Node K V)) → n.world ≡ w → w.uses ≡ s.world.uses → n.world.uses ≡ s.world.uses
  uses_by w is same_uses = ap (λ (v : World (Node K V)). v.uses) is ∙ same_uses

  -- a caller has no row whose row rests
  idle : (i : ℕ) → row_or_rests (x.now.rows i) ≡ Rests → (row : SlotRow) → x.now.rows i ≡ Some row → ⊥
  idle i rests row has = no_row row (sym (ap row_or_rests has) ∙ rests)

  -- So it is after each act.
  acts_agree : (act : Act K V S) → IsOwn by_hasher hash act → PlayedAs same by_hasher batch_size roots aborts x y act → MayBe same by_hasher batch_size roots slot_of act s → (told : Answer K V)
      → Led same by_hasher batch_size roots slot_of act s told n → GuardsAgree y n.world.uses
  acts_agree (BeginsCall i m wanted) own (at, there, is) may told (standing, stands, none, e) =
      calm (ap (λ (v : Scene K V). v.world.uses) e) (ap (λ (v : State K V S). v.now.rows) is)
      (ap (λ (v : State K V S). (moment v.history).there) is
      ∙ there_as_before (record { deed = Begins i (slot_of i) m (call_for wanted); outcome = outcome.Goes; effects = []; refused = false }) x.history (λ there. refl))
  acts_agree (StepsCall i m g) own (at, stands, (c, has, end, comes, is)) may told led =
      let change = changed_of x.now.memory g (machine_plan same same (by_hasher at.1) c.machine) in
      quiet x s.world.uses here y n.world.uses (ap (λ (v : State K V S). v.now.rows) is)
      (subst (λ (v : Scene K V). (t : ℕ) → IsUsedAlike (s.world.uses t) (v.world.uses t)) (sym led.comes) led.did.slots.uses)
      (ap (λ (v : State K V S). (moment v.history).there) is
      ∙ there_as_before (record {
        deed = Steps i;
        outcome = outcome_of (known_after (acting.Call i m) change x.known) (kind_of c.call) c.value end.1.1;
        effects = effects_of (acting.Call i m) x.known change;
        refused = is_refusal change;
      }) x.history (λ there. refl))
  acts_agree (TellsCall i m reply) own (c, has, is) may told (standing, stands, u, next, here_call, machine_is, told_is, kind, e) =
      calm (ap (λ (v : Scene K V). v.world.uses) e) (ap (λ (v : State K V S). v.now.rows) is)
      (ap (λ (v : State K V S). (moment v.history).there) is
      ∙ perhaps (is_ok (machine_replied c.machine reply).1) (record { deed = Replies i (reply_for (aborts (length x.told)) reply); outcome = outcome.Goes; effects = []; refused = false }) x.history (λ there. refl))
  acts_agree (AsksCall i m) own (c, has, is) may told (u, here_call, told_is, e) =
      calm (ap (λ (v : Scene K V). v.world.uses) e) (ap (λ (v : State K V S). v.now.rows) is) (ap (λ (v : State K V S). (moment v.history).there) is)
  acts_agree (StopsCall i m) own (c, has, is) may told (u, here_call, told_is, e) =
      calm (ap (λ (v : Scene K V). v.world.uses) e) (ap (λ (v : State K V S). v.now.rows) is)
      (ap (λ (v : State K V S). (moment v.history).there) is
      ∙ perhaps (machine_asked c.machine).1 (record { deed = Stops i; outcome = outcome.Done; effects = []; refused = false }) x.history (λ there. refl))
  acts_agree (BeginsMaking i map hasher given places) own is may told (none, e) =
      calm (ap (λ (v : Scene K V). v.world.uses) e) (ap (λ (v : State K V S). v.now.rows) is) (ap (λ (v : State K V S). (moment v.history).there) is)
  acts_agree (StepsMaking i g) own (b, has, end, comes, is) may told (making, makes, m2, machine, progress_is, computed, told_is, did, went) =
      let change = changed_of x.now.memory g (new_map_plan {K = K} {V = V} b.machine) in
      calm
      (uses_by did.step.w2 (making_world i making did.step.w2 machine progress_is went) (events_uses batch_size did.step.events s.world did.step.w2 did.step.users did.step.runs))
      (ap (λ (v : State K V S). v.now.rows) is ∙ made_rows i b end.1.0 end.1.1 (record x.now { memory = end.0 }))
      (ap (λ (v : State K V S). (moment v.history).there) is
      ∙ there_as_before (record {
        deed = making_deed b.map b.machine end.1.0;
        outcome = making_outcome end.1.1;
        effects = effects_of (acting.Making b.map) x.known change;
        refused = is_refusal change;
      }) x.history (making_leaves K V b.map b.machine end.1.0))
  acts_agree (BeginsEnding i m) own (at, there, is) may told (standing, stands, none, e) =
      calm (ap (λ (v : Scene K V). v.world.uses) e) (ap (λ (v : State K V S). v.now.rows) is) (ap (λ (v : State K V S). (moment v.history).there) is)
  acts_agree (StepsEnding i g) own (f, has, end, comes, is) may told (finishing, ends, m2, machine, settled_is, computed, told_is, did, went) =
      let change = changed_of x.now.memory g (end_map_plan {K = K} {V = V} f.machine) in
      calm (uses_by did.w2 (ending_world i finishing did.w2 did.deed machine settled_is went) did.spares.uses) (ap (λ (v : State K V S). v.now.rows) is)
      (ap (λ (v : State K V S). (moment v.history).there) is
      ∙ there_as_before (record {
        deed = ending_deed f end.1.1;
        outcome = settled_outcome end.1.1;
        effects = effects_of (acting.Ending f.map) x.known change;
        refused = is_refusal change;
      }) x.history (ending_leaves K V f end.1.1))
  acts_agree (BeginsRow i request) (called, own) (it, there, is) may told (w2, happens, maps2, as_they_were, none, e) =
      let same_call : called ≡ it = same_some called it (sym (called_is (slot_of i) called) ∙ ap slot_call_of (sym own) ∙ there) in
      let begins : BeginsSo deferred_word batch_size i (request_of (slot_of i) it) s.world w2 =
      subst (λ (c : SlotCall). BeginsSo deferred_word batch_size i (request_of (slot_of i) c) s.world w2) same_call (subst (λ (r : Request). BeginsSo deferred_word batch_size i r s.world w2) own happens.1) in
      let rests : row_or_rests (x.now.rows i) ≡ Rests = is_of.between i may.0 ∙ happens.0 in
      subst (λ (v : State K V S). GuardsAgree v n.world.uses) (sym is)
      (subst (λ (v : Scene K V). GuardsAre (with_at x.now.rows i (Some (begun_row (slot_of i) batch_size it))) v.world.uses (moment x.history).there.guards) (sym e)
      (row_begun_so x s.world.uses here i (slot_of i) batch_size s.world w2 refl (idle i rests) it begins))
  acts_agree (StepsRow i g) own (row, has, end, comes, is) may told (w2, computed, happens, maps2, as_they_were, none, e) =
      let its : s.world.row i ≡ row_of row = sym (is_of.between i may.0) ∙ ap row_or_rests has in
      let by = rows_by i s.world g w2 row (subst (λ (r : Row). row_steps deferred_word i r g s.world ≡ Some w2) its computed) in
      let change = row_changed (row_of row) g x.now.memory in
      let entry : Entry K V = record { deed = row_deed row; outcome = row_outcome end.1.1; effects = effects_of acting.Row x.known change; refused = is_refusal change } in
      let rows2 = with_at x.now.rows i (row_on end.1.0 end.1.1) in
      let so = row_so x s.world.uses here i s.world w2 batch_size (came_reached batch_size s.world came) refl row has its happens (row_on end.1.0 end.1.1) by in
      subst (λ (v : State K V S). GuardsAgree v n.world.uses) (sym is)
      (subst (λ (v : Scene K V). GuardsAre rows2 v.world.uses (moment (entry ∷ x.history)).there.guards) (sym e)
      (subst (λ (there : Present). GuardsAre rows2 w2.uses there.guards) (sym (there_after entry (moment x.history))) so))

all_over : {T : Type 0} (c : ReclaimAll) (told : Settled T) → (if is_over told then None else Some c) ≡ None → is_over told ≡ true
all_over c told e = by (is_over told) e
  where
    by : (q : Bool) → (if q then None else Some c) ≡ None → q ≡ true
    by true e = refl
    by false e = absurd (cc e)

-- what is so if nobody reclaims all
pub unless : {X : Type 0} (P : Type 0) (o : Option X) → (o ≡ None → P) → UnlessReclaimed o P
unless P None so = so refl
unless P (Some x) so = tt

module _ {K S : Type 0} (V : Type 0) (same : K → K → Bool) (by_hasher : S → K → ℕ) (hash : ℕ → K → ℕ) (batch_size roots : ℕ) (aborts : ℕ → V) where
  -- while somebody reclaims all, sections end one after another, and in the end nobody is there
  abbrev pub GuardsHold : At V same by_hasher hash batch_size roots → State K V S → Type 0
  GuardsHold p x = UnlessReclaimed (far V same by_hasher hash batch_size roots p) (GuardsAgree x p.0.world.uses)

  pub nobody_then : (n : At V same by_hasher hash batch_size roots) (x y : State K V S) (g : Grant) → Is V same by_hasher hash batch_size roots aborts n y → far V same by_hasher hash batch_size roots n ≡ None
      → ReclaimedAs same by_hasher batch_size roots aborts x y g → (moment y.history).there ≡ nobody
  nobody_then n x y g is_then none it =
      let last = all_over it.2.1.0 it.2.1.1 (ap (λ (v : State K V S). v.now.all) (sym it.4) ∙ is_then.all ∙ ap (option_map (λ (o : ℕ × ReclaimAll). o.1)) none) in
      let change = changed_of x.now.memory g (reclaim_all_plan deferred_word was_left it.0) in
      let entry : Entry K V = record { deed = ReclaimsAll (is_over it.2.1.1); outcome = settled_outcome it.2.1.1; effects = effects_of acting.Row x.known change; refused = is_refusal change } in
      ap (λ (v : State K V S). (moment v.history).there) it.4 ∙ there_after entry (moment x.history) ∙ ap (λ (q : Bool). if q then nobody else (moment x.history).there) last

  pub guards_stay : StaysSo V same by_hasher hash batch_size roots aborts (Anything V same by_hasher hash batch_size roots aborts) GuardsHold
  guards_stay = record {
    acts = λ p n x y act told own fits none none_then is is_then at may led leads at_then played here.
        unless (GuardsAgree y n.0.world.uses) (far V same by_hasher hash batch_size roots n)
        (λ nobody_does. acts_agree same by_hasher hash batch_size roots aborts p.0 n.0 x y
        (subst (λ (o : Option (ℕ × ReclaimAll)). IsOf by_hasher p.0 (rows_beside o p.0.world.row) x.now) none is.scene) at.together.makings.standing.came
        (subst (λ (o : Option (ℕ × ReclaimAll)). UnlessReclaimed o (GuardsAgree x p.0.world.uses)) none here) act own (played_as same by_hasher batch_size roots aborts x y act played) may told led);
    begins = λ p n x i c none begun same_scene all_free is is_then at here.
        unless (GuardsAgree (all_begun c x) n.0.world.uses) (far V same by_hasher hash batch_size roots n) (λ nobody_does. absurd (let both : None ≡ Some (i, c) = sym nobody_does ∙ begun in cc both));
    steps = λ p n x y told g st is is_then at leads scene played here.
        unless (GuardsAgree y n.0.world.uses) (far V same by_hasher hash batch_size roots n)
        (λ none.
        let done : st.end ≡ settled.Done = over_is st.end (st.caller, st.next) (sym st.goes_on ∙ none) in
        subst (λ (there : Present). GuardsAre y.now.rows n.0.world.uses there.guards) (sym (nobody_then n x y g is_then none (reclaimed_as same by_hasher batch_size roots aborts x y g played)))
        (record {
          each = tt;
          inside = λ t in_it. absurd (subst IsInside ((st.did.did.over done).nothing.2 t) (subst (λ (v : Scene K V). IsInside (v.world.uses t)) st.did.comes in_it));
        }));
    chooses = λ p n x choice none none_then scene is is_then at here.
        unless (GuardsAgree (choice_come choice x) n.0.world.uses) (far V same by_hasher hash batch_size roots n)
        (λ nobody. subst (λ (v : Scene K V). GuardsAgree (choice_come choice x) v.world.uses) (sym scene)
        (subst (λ (o : Option (ℕ × ReclaimAll)). UnlessReclaimed o (GuardsAgree x p.0.world.uses)) none here));
  }

  -- So it is where nothing was done yet.
  pub guards_at_first : GuardsAgree {K = K} {V = V} {S = S} (first_state roots) (at_first {K = K} {V = V} roots).world.uses
  guards_at_first = record { each = tt; inside = λ s in_it. absurd in_it }
