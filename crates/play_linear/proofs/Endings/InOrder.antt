-- By the history of each list of acts maps end in order.
use Rattle.std.specs.Prelude.{◌≡◌, ◌==◌, ℕ, Bool, true, false, List, ◌∷◌, Option, is_ok, if◌then◌else◌}
use Rattle.std.proofs.Common.{refl, ap, sym, subst}
use Rattle.seize_acts.specs.Given.SeizeDeclared.rows.leave.Leave.{Leave}
use Rattle.seize_acts.specs.Given.SeizeDeclared.rows.leave.Leaving.{Leaving}
use Rattle.seize_acts.specs.Given.SeizeDeclared.rows.leave.Leaving.TheVariants as leaving
use Rattle.seize_acts.specs.Given.SeizeDeclared.rows.reclaim_all.ReclaimAll.{ReclaimAll}
use Rattle.seize_acts.specs.Given.SeizeDeclared.rows.register.Registering.{Registering}
use Rattle.seize_acts.specs.Given.SeizeDeclared.rows.register.Registering.TheVariants as registers
use Rattle.seize_acts.specs.Given.SeizeDeclared.states.TheConstants.{ACTIVE}
use Rattle.run_logged.specs.Given.ResizeDeclared.new_map.NewMap.{NewMap}
use Rattle.run_logged.specs.Given.RawMachine.{machine_asked, machine_replied}
use Rattle.run_schedules.specs.Schedules.After.{AtEachEvent}
use Rattle.run_schedules.specs.declared.effect.Effect.{Effect}
use Rattle.run_schedules.specs.Schedules.Moment.{Moment}
use Rattle.play_lists.specs.Given.ScenesHeld.{IsAt}
use Rattle.play_lists.specs.Given.ScenesScene.{Scene, slot_of}
use Rattle.play_lists.specs.Given.ScenesDeclared.row.SlotRow.{SlotRow}
use Rattle.play_lists.specs.Given.ScenesDeclared.row.SlotRow.TheVariants as rows
use Rattle.play_lists.specs.Given.EffectsDeclared.changed.Changed.TheVariants.{Nothing as NoChange}
use Rattle.play_lists.specs.Given.ActsActs.{Act, Answer, AsksCall, BeginsCall, BeginsEnding, BeginsMaking, BeginsRow, StepsCall, StepsEnding, StepsMaking, StepsRow, StopsCall, TellsCall}
use Rattle.play_lists.specs.Given.ActsAsSteps.{LeadsAs, changed_by, held_in}
use Rattle.play_lists.specs.Given.ActsLeads.{Led}
use Rattle.play_lists.specs.Given.ActsLists.{nothing_done}
use Rattle.play_lists.specs.Agrees.Fresh.{HasNewNumber}
use Rattle.play_lists.proofs.Agrees.GivenBack.{again_first}
use Rattle.run_schedules.specs.Deeds.Deeds.{Deed, Entry, Leaves, MapComes, MapFails, Makes, Opens}
use Rattle.play_lists.specs.Played.Play.{State, has_root, leaves_as, making_deed, pairs_for, registers_as, row_deed}
use Rattle.play_lists.specs.Played.Reached.{IsOf, rows_beside}
use Rattle.play_lists.proofs.Played.Along.{At, StaysSo}
use Rattle.play_lists.proofs.Played.PlayedAs.{PlayedAs, played_as, reclaimed_as}
use Rattle.play_linear.proofs.Linear.Holding.{AllHolds}
use Rattle.play_linear.proofs.Linear.Linear.{wherever_led}
use Rattle.play_linear.proofs.Linear.Stays.{first_holds}
use Rattle.play_linear.specs.Endings.GoingOn.{EndsContinue}
use Rattle.play_linear.specs.Endings.InOrder.{EndsInOrder, EndsSo, MapsEndInOrder}
use Rattle.play_linear.proofs.Endings.EndStepGoes.{end_step_in_order}
use Rattle.play_linear.proofs.Endings.Stays.{AllGo, ends_go_on, first_go}

module _ {K V : Type 0} where
  -- a deed that is no step of an end
  abbrev NoEnd : Deed K V → Type 0
  NoEnd d = (effects : List Effect) (m w : Moment K V) → EndsSo d effects m w

  registers_none : (stands : Registering) (s : ℕ) → NoEnd (registers_as stands s)
  registers_none registers.Enter s = λ effects m w. tt
  registers_none _ s = λ effects m w. tt

  either_none : (q : Bool) (s : ℕ) → NoEnd (if q then Opens s else Leaves s)
  either_none true s = λ effects m w. tt
  either_none false s = λ effects m w. tt

  leaves_none : (c : Leave) (stands : Leaving) → NoEnd (leaves_as c stands)
  leaves_none c leaving.Swaps = λ effects m w. tt
  leaves_none c leaving.Over = either_none (c.becomes == ACTIVE) c.slot
  leaves_none c _ = λ effects m w. tt

  row_none : (row : SlotRow) → NoEnd (row_deed row)
  row_none (rows.Registers c) = registers_none c.stands c.slot
  row_none (rows.Enters c) = λ effects m w. tt
  row_none (rows.Leaves c) = leaves_none c c.stands
  row_none (rows.Flushes c) = λ effects m w. tt
  row_none (rows.Frees c) = λ effects m w. tt

  making_none : (map : ℕ) (before next : NewMap) → NoEnd (making_deed map before next)
  making_none map before next = by (has_root before.stands) (has_root next.stands)
    where
      by : (p q : Bool) → NoEnd (if p then (if q then Makes map else MapFails map) else (if q then MapComes map next.setting.root next.setting.mode (pairs_for next.len) else Makes map))
      by true true = λ effects m w. tt
      by true false = λ effects m w. tt
      by false true = λ effects m w. tt
      by false false = λ effects m w. tt

  abbrev pub EachInOrder : List (Entry K V) → Type 0
  EachInOrder log = AtEachEvent EndsInOrder log

  -- one entry more, which may be none
  taken_or_not : (q : Bool) (e : Entry K V) (log : List (Entry K V)) → EndsInOrder log e → EachInOrder log → EachInOrder (if q then e ∷ log else log)
  taken_or_not true e log one each = (one, each)
  taken_or_not false e log one each = each

module _ {K V S : Type 0} (same : K → K → Bool) (by_hasher : S → K → ℕ) (hash : ℕ → K → ℕ) (batch_size roots : ℕ) (aborts : ℕ → V) (x y : State K V S) (s n : Scene K V)
    (is : IsOf by_hasher s s.world.row x.now) (at : IsAt same hash (held_in batch_size roots NoChange s) s) (all : AllHolds same x s) (so : EndsContinue x s) (told : Answer K V) (each : EachInOrder x.history) where
  -- by what the history is then
  then_so : (log : List (Entry K V)) → y.history ≡ log → EachInOrder log → EachInOrder y.history
  then_so log is_log so_far = subst EachInOrder (sym is_log) so_far

  pub acts_in_order : (act : Act K V S) → PlayedAs same by_hasher batch_size roots aborts x y act → Led same by_hasher batch_size roots slot_of act s told n
      → LeadsAs same by_hasher hash act s told n (held_in batch_size roots NoChange s) (held_in batch_size roots (changed_by same act s) n) → IsAt same hash (held_in batch_size roots (changed_by same act s) n) n → EachInOrder y.history
  acts_in_order (BeginsCall i map wanted) (set, there, y_is) led leads at2 = then_so _ (ap (λ (z : State K V S). z.history) y_is) (tt, each)
  acts_in_order (StepsCall i map g) (set, there, (c, here, end, steps, y_is)) led leads at2 = then_so _ (ap (λ (z : State K V S). z.history) y_is) (tt, each)
  acts_in_order (TellsCall i map reply) (c, here, y_is) led leads at2 =
      then_so _ (ap (λ (z : State K V S). z.history) y_is) (taken_or_not (is_ok (machine_replied c.machine reply).1) _ x.history tt each)
  acts_in_order (AsksCall i map) (c, here, y_is) led leads at2 = then_so _ (ap (λ (z : State K V S). z.history) y_is) each
  acts_in_order (StopsCall i map) (c, here, y_is) led leads at2 = then_so _ (ap (λ (z : State K V S). z.history) y_is) (taken_or_not (machine_asked c.machine).1 _ x.history tt each)
  acts_in_order (BeginsMaking i map hasher given places) y_is led leads at2 = then_so _ (ap (λ (z : State K V S). z.history) y_is) each
  acts_in_order (StepsMaking i g) (b, here, end, steps, y_is) led leads at2 = then_so _ (ap (λ (z : State K V S). z.history) y_is) (making_none b.map b.machine end.1.0 _ _ _, each)
  acts_in_order (BeginsEnding i map) (set, there, y_is) led leads at2 = then_so _ (ap (λ (z : State K V S). z.history) y_is) each
  acts_in_order (StepsEnding i g) played led leads at2 =
      let it = end_step_in_order same by_hasher hash batch_size roots aborts x y s n is at all so told i g played led leads at2 in then_so (it.0 ∷ x.history) it.1 (it.2, each)
  acts_in_order (BeginsRow i request) (called, there, y_is) led leads at2 = then_so _ (ap (λ (z : State K V S). z.history) y_is) each
  acts_in_order (StepsRow i g) (row, here, end, steps, y_is) led leads at2 = then_so _ (ap (λ (z : State K V S). z.history) y_is) (row_none row _ _ _, each)

module _ {K S : Type 0} (V : Type 0) (same : K → K → Bool) (by_hasher : S → K → ℕ) (hash : ℕ → K → ℕ) (batch_size roots : ℕ) where
  abbrev All : (ℕ → V) → At V same by_hasher hash batch_size roots → State K V S → Type 0
  All aborts p x = AllGo V same by_hasher hash batch_size roots aborts p x × EachInOrder x.history

  stay_in_order : (aborts : ℕ → V) → StaysSo V same by_hasher hash batch_size roots aborts HasNewNumber (All aborts)
  stay_in_order aborts = record {
    acts = λ p n x y act told own fits none none_then is is_then at may led leads at_then played here. (
      go.acts p n x y act told own fits none none_then is is_then at may led leads at_then played here.0,
      acts_in_order same by_hasher hash batch_size roots aborts x y p.0 n.0 (subst (λ (o : Option (ℕ × ReclaimAll)). IsOf by_hasher p.0 (rows_beside o p.0.world.row) x.now) none is.scene) at here.0.0 here.0.1 told here.1 act
          (played_as same by_hasher batch_size roots aborts x y act played) led leads at_then,
    );
    begins = λ p n x i c none begun same_scene all_free is is_then at here. (go.begins p n x i c none begun same_scene all_free is is_then at here.0, here.1);
    steps = λ p n x y told g st is is_then at leads scene played here.
        (let it = reclaimed_as same by_hasher batch_size roots aborts x y g played in
        (go.steps p n x y told g st is is_then at leads scene played here.0, subst EachInOrder (sym (ap (λ (z : State K V S). z.history) it.4)) (tt, here.1)));
    chooses = λ p n x choice none none_then scene is is_then at here. (go.chooses p n x choice none none_then scene is is_then at here.0, here.1);
  }
    where
      go : StaysSo V same by_hasher hash batch_size roots aborts HasNewNumber (AllGo V same by_hasher hash batch_size roots aborts)
      go = ends_go_on V same by_hasher hash batch_size roots aborts

  pub maps_end_in_order : MapsEndInOrder {K = K} {S = S} V same by_hasher hash batch_size roots
  maps_end_in_order small aborts course doings y led own new =
      let first = nothing_done V same by_hasher batch_size roots slot_of course in
      let to = wherever_led V same by_hasher hash batch_size roots small aborts (All aborts) (stay_in_order aborts) course doings y led own new
      ((first_holds V same by_hasher hash batch_size roots aborts first.0 refl (again_first roots), first_go V same by_hasher hash batch_size roots aborts), tt) in
      (to.0, to.1, to.2.1)
