-- The end of a map, of the seat that owned it, goes on.
use Rattle.std.specs.Prelude.{◌≢◌, ◌∷◌, ◌++◌, Option, Some, None, IsSome}
use Rattle.std.specs.Option.{is_none}
use Rattle.std.proofs.Common.{◌≡◌, ℕ, Bool, true, false, List, [], inl, refl, sym, subst, ap, ◌∙◌}
use Rattle.seize_words.specs.OneMemory.Mem.{Mem, Can, Took, value_at}
use Rattle.seize_words.specs.OneMemory.Op.{Op, Out}
use Rattle.seize_words.specs.OneMemory.Plan.{Steps, May}
use Rattle.seize.specs.Law.{holds, owner_of}
use Rattle.seize.specs.World.{World, Row, Use, Rests, with_at}
use Rattle.seize.specs.declared.rows.settle.Settled.{Settled}
use Rattle.seize.specs.declared.rows.settle.Settled.TheVariants as settled
use Rattle.map_tables.specs.Nodes.{deferred_word}
use Rattle.map_tables.specs.declared.node.Node.{Node}
use Rattle.papaya_raw.specs.EndMap.{ending, end_map_plan}
use Rattle.papaya_raw.specs.declared.machines.end_map.EndMap.{EndMap}
use Rattle.papaya_raw.specs.declared.machines.machine.Machine.{Machine}
use Rattle.many_acts.specs.Given.CallersRows.{IsUsedAlike}
use Rattle.many_acts.specs.Given.FinishesEndings.{Finishing, FinishingFacts, StepsOfEnding, waiting_by}
use Rattle.many_acts.specs.Given.FinishesFactsEnds.{Deed, Looks, TakesPair, LeavesTable, JoinsPair, TakesLeft, TakesCounter, WritesRoot, events_of}
use Rattle.many_acts.specs.Given.FinishesMaps.{Standing}
use Rattle.many_acts.specs.Given.ScenesScene.{Scene, slot_of}
use Rattle.many_acts.specs.Acts.Acts.{StepsEnding}
use Rattle.many_acts.specs.Acts.Doings.{Does, MayDo}
use Rattle.many_acts.specs.Acts.Leads.{AllStand, Led, EndingCame, ending_steps}
use Rattle.many_acts.specs.Acts.Lists.{AllMayStep, AllAreActs}
use Rattle.many_acts.proofs.Given.CallersTogether.At.{at_same, at_other}
use Rattle.many_acts.proofs.Given.CallersTogether.Came.{came_reached}
use Rattle.many_acts.proofs.Given.CallersTogether.Slots.{alike_same}
use Rattle.many_acts.specs.Lefts.{left_of, GetsOn}
use Rattle.many_acts.proofs.Acts.Lists.{steps_are_acts}
use Rattle.many_acts.proofs.Lefts.{ends_get_on}
use Rattle.seize_model.proofs.Alone.Histories.Reached.{Reached}
use Rattle.seize_acts.specs.Acts.Answers.{Grant, then_on}
use Rattle.seize_seats.specs.Seats.State.{State, view_of, Goes}
use Rattle.seize_views.specs.Views.Told.{FollowsBy}
use Rattle.seize_views.specs.declared.view.Fixed.{Fixed}
use Rattle.seize_views.specs.declared.view.SlotView.{SlotView}
use Rattle.seize_views.specs.declared.view.SlotView.TheVariants as slot_view
use Rattle.threads_rule.specs.Views.Listed.{calls_of}
use Rattle.threads_rule.specs.Views.Looks.{shown_in, MayFollow, IsAtTable}
use Rattle.threads_rule.specs.Views.Promises.{EndingsContinue, EndingsAreShown}
use Rattle.threads_rule.specs.Views.Rule.{MapsWorld, HasRow, HasEnding, end_of, DoesSo, KnowsMap, KnowsTable, AreRuns, Fits, AreSo, Holds, KeepsFor, IsIdle, IsSlot, caller_at, acts_in}
use Rattle.threads_rule.specs.Views.Told.{told, observed_by, ended_after}
use Rattle.threads_rule.specs.declared.view.BegunCall.{BegunCall}
use Rattle.threads_rule.specs.declared.view.EndOfMap.{EndOfMap}
use Rattle.threads_rule.specs.declared.view.View.{View}
use Rattle.threads_rule.specs.declared.view.SeatWork.{SeatWork}
use Rattle.threads_rule.specs.declared.view.SeatWork.TheVariants.{Calls, Ends}
use Rattle.threads_rule.proofs.Views.Knows.{knows_rests}
use Rattle.threads_rule.proofs.Views.Leaves.{Leaves, own_idle, map_on, all_last}
use Rattle.threads_rule.proofs.Views.Listed.{numbered_on}
use Rattle.threads_rule.proofs.Views.Looked.{AllLooked, Made, may_op}
use Rattle.threads_rule.proofs.Views.Moved.{scene_of, all_stand, are_so, knows_alike, same_slot, moved}
use Rattle.threads_rule.proofs.Views.Quiet.{there, held_is_linked}
use Rattle.threads_rule.proofs.Views.Ran.{AreNoRows, no_rows_pass}
use Rattle.threads_rule.proofs.Views.Tables.{ComesTo, looked_table, none_looked}
use Rattle.threads_rule.proofs.Views.Taking.{ends_keep, ends_keep_made, ends_keep_handed}
use Rattle.seize_words.proofs.General.{same_some}

-- what an end does is nobody's row
deeds_no_rows : {T : Type 0} (defers : T → Option ℕ) (size i : ℕ) (deed : Deed) → AreNoRows defers size (events_of i deed)
deeds_no_rows defers size i Looks = tt
deeds_no_rows defers size i (TakesPair b) = ((λ j. tt), ((λ j. tt), ((λ j. tt), tt)))
deeds_no_rows defers size i (LeavesTable b further) = ((λ j. tt), ((λ j. tt), tt))
deeds_no_rows defers size i (JoinsPair b word) = ((λ j. tt), tt)
deeds_no_rows defers size i (TakesLeft b) = ((λ j. tt), tt)
deeds_no_rows defers size i (TakesCounter b) = ((λ j. tt), tt)
deeds_no_rows defers size i (WritesRoot place word) = ((λ j. tt), tt)

module _ {K V S : Type 0} (same : K → K → Bool) (hash : S → K → ℕ) (fixed : Fixed) (s : State (Node K V) (View K V S) (MapsWorld K V S)) (h : Holds same hash fixed s)
    (id : ℕ) (v : View K V S) (at_id : view_of s id ≡ Some v) (e : EndOfMap) (works : v.work ≡ Ends e) where
  abbrev machine : EndMap
  machine = e.machine

  abbrev scene_now : Scene K V
  scene_now = scene_of same hash fixed s h

  all_now : AllStand same hash fixed.batch_size fixed.roots slot_of scene_now
  all_now = all_stand same hash fixed s h

  so_now : AreSo same hash s scene_now
  so_now = are_so same hash fixed s h

  fits_now : Fits same hash scene_now id v
  fits_now = so_now.seats id v at_id

  abbrev place_now : ℕ
  place_now = acts_in v.under v.slot

  abbrev me : ℕ
  me = caller_at id place_now

  does : (v.slot ≡ slot_view.Rests) × HasEnding scene_now me e × (scene_now.world.row me ≡ Rests)
  does = subst (λ (x : SeatWork K V S). DoesSo same hash scene_now me v.under v.slot v.map x) works fits_now.does

  its_machine : does.1.ending.machine ≡ machine
  its_machine = ap (λ (x : EndOfMap). x.machine) does.1.is

  acts : AllMayStep V same hash fixed.batch_size fixed.roots slot_of scene_now × AllAreActs V same hash fixed.batch_size fixed.roots slot_of scene_now
  acts = steps_are_acts {V = V} same hash fixed.batch_size fixed.roots slot_of scene_now all_now

  may_step : May Can Took value_at scene_now.world.memory (end_map_plan {K = K} {V = V} machine)
  may_step = subst (λ (x : EndMap). May Can Took value_at scene_now.world.memory (end_map_plan {K = K} {V = V} x)) its_machine (acts.0.endings me does.1.ending does.1.here)

  module _ (m2 : Mem (Node K V)) (out : Out (Node K V)) (made : Made scene_now.world.memory (end_map_plan {K = K} {V = V} machine) out m2) where
    granted : (g : Grant) × (ending_steps same hash fixed.batch_size fixed.roots slot_of scene_now g does.1.ending ≡ Some (m2, made.end))
    granted =
        acts.1.endings me does.1.ending does.1.here m2 made.end
        (subst (λ (x : EndMap). Steps Took value_at scene_now.world.memory (end_map_plan {K = K} {V = V} x) m2 made.end) (sym its_machine) made.steps)

    step_may : MayDo V same hash fixed.batch_size fixed.roots slot_of (Does (StepsEnding me granted.0)) h.reached.0
    step_may = (
      ap is_none h.nobody,
      ap is_none (ap (λ (o : Option (Finishing K V)). then_on o (ending_steps same hash fixed.batch_size fixed.roots slot_of scene_now granted.0)) does.1.here ∙ granted.1),
    )

    abbrev stage : Scene K V
    stage = (h.course.next h.reached.0 (Does (StepsEnding me granted.0)) step_may).0

    step_led : Led same hash fixed.batch_size fixed.roots slot_of (StepsEnding me granted.0) scene_now (h.course.told h.reached.0 (Does (StepsEnding me granted.0)) step_may) stage
    step_led = (h.course.leads h.reached.0 (Does (StepsEnding me granted.0)) step_may).0

    abbrev d : Finishing K V
    d = step_led.0

    same_ending : does.1.ending ≡ d
    same_ending = same_some does.1.ending d (sym does.1.here ∙ step_led.1)

    both : ◌≡◌ {A = Mem (Node K V) × (EndMap × Settled (Node K V))} (m2, made.end) (step_led.2, (step_led.3, step_led.4))
    both =
        same_some (m2, made.end) (step_led.2, (step_led.3, step_led.4))
        (sym granted.1 ∙ ap (λ (x : Finishing K V). ending_steps same hash fixed.batch_size fixed.roots slot_of scene_now granted.0 x) same_ending ∙ step_led.5)

    memory_is : m2 ≡ step_led.2
    memory_is = ap (λ (p : Mem (Node K V) × (EndMap × Settled (Node K V))). p.0) both

    end_is : made.end ≡ (step_led.3, step_led.4)
    end_is = ap (λ (p : Mem (Node K V) × (EndMap × Settled (Node K V))). p.1) both

    abbrev did : StepsOfEnding V same same fixed.batch_size fixed.roots slot_of scene_now.world scene_now.maps scene_now.calls scene_now.makers scene_now.enders me d step_led.2 (step_led.3, step_led.4)
    did = step_led.7

    abbrev w2 : World (Node K V)
    w2 = did.w2

    -- it is a step of the end in the scene
    its_steps : Steps Took value_at scene_now.world.memory (end_map_plan {K = K} {V = V} d.machine) step_led.2 (step_led.3, step_led.4)
    its_steps =
        subst (λ (x : Finishing K V). Steps Took value_at scene_now.world.memory (end_map_plan {K = K} {V = V} x.machine) step_led.2 (step_led.3, step_led.4)) same_ending
        (subst (λ (x : EndMap). Steps Took value_at scene_now.world.memory (end_map_plan {K = K} {V = V} x) step_led.2 (step_led.3, step_led.4)) (sym its_machine)
        (subst (λ (x : Mem (Node K V)). Steps Took value_at scene_now.world.memory (end_map_plan {K = K} {V = V} machine) x (step_led.3, step_led.4)) memory_is
        (subst (λ (x : EndMap × Settled (Node K V)). Steps Took value_at scene_now.world.memory (end_map_plan {K = K} {V = V} machine) m2 x) end_is made.steps)))

    reached : Reached deferred_word fixed.batch_size scene_now.world
    reached = came_reached fixed.batch_size scene_now.world all_now.makings.standing.came

    -- what a section holds of another map stays
    holds_on : (t b m : ℕ) (r : Standing K) → scene_now.maps m ≡ Some r → owner_of b scene_now.world.log ≡ r.setting.counter → holds t b scene_now.world.log ≡ true
        → (holds t b w2.log ≡ true) × (owner_of b w2.log ≡ owner_of b scene_now.world.log) × (value_at w2.memory b ≡ value_at scene_now.world.memory b)
    holds_on t b m r stands owner held =
        ends_keep same hash fixed.batch_size fixed.roots scene_now all_now me d step_led.1 step_led.2 (step_led.3, step_led.4) its_steps did t b
        (λ has is. all_now.counters_apart me m d r step_led.1 stands has (sym is ∙ owner))
        (λ k is. held_is_linked deferred_word fixed.batch_size scene_now.world reached t b held k is)
        (there deferred_word fixed.batch_size scene_now.world reached t b held) held

    -- where it has come: ends are these then
    module _ (it : Option (Finishing K V)) where
      abbrev n2 : Scene K V
      n2 = record { world = w2; maps = scene_now.maps; calls = scene_now.calls; makers = scene_now.makers; enders = with_at scene_now.enders me it }

      step_leaves : Leaves same hash fixed.batch_size scene_now n2 me None
      step_leaves = record {
        rows = λ k ne. ap (λ (f : ℕ → Row). f k) did.spares.rows;
        calls = λ a k ne. refl;
        makers = λ k ne. refl;
        enders = λ k ne. at_other scene_now.enders me it k ne;
        uses = λ t used apart. subst (λ (u : ℕ → Use). IsUsedAlike (scene_now.world.uses t) (u t)) (sym did.spares.uses) (alike_same (scene_now.world.uses t));
        ends = None;
        maps = λ a r lasts is. (r, is, refl, refl);
        held = λ t b m r apart inside lasts stands owner held. holds_on t b m r stands owner held;
        made = λ k ne. ends_keep_made same hash fixed.batch_size fixed.roots scene_now all_now me d step_led.1 step_led.2 (step_led.3, step_led.4) its_steps did k;
        keeps = λ b its before some.
            ends_keep_handed same hash fixed.batch_size fixed.roots scene_now all_now me d step_led.1 step_led.2 (step_led.3, step_led.4) its_steps did b some;
        passes = λ c ne was now.
            (events_of me did.deed, no_rows_pass deferred_word fixed.batch_size (events_of me did.deed) scene_now.world w2 (deeds_no_rows deferred_word fixed.batch_size me did.deed) did.runs c was);
      }

      none_ends : step_leaves.ends ≡ None
      unfolding step_leaves
      none_ends = refl

      its_row : w2.row me ≡ Rests
      its_row = ap (λ (f : ℕ → Row). f me) did.spares.rows ∙ does.2

      goes_by : (x : View K V S) (so_told : View K V S → Type 0) → stage ≡ n2 → x.slot ≡ v.slot → x.under ≡ v.under → x.map ≡ v.map → x.by ≡ v.by → x.own ≡ v.own → x.calls ≡ v.calls
          → ((other : Machine K V K) → x.work ≡ Calls other → ⊥) → x.held ≡ [] → Fits same hash n2 id x → so_told x → Goes (Holds same hash fixed) KeepsFor s m2 id so_told
      goes_by x so_told comes slot_is under_is map_is by_is own_is calls_are no_calls none own is =
          moved same hash fixed s h id v at_id (StepsEnding me granted.0) step_may n2 comes m2 x
          (record {
            memory = memory_is ∙ sym did.memory;
            own = own;
            place = place_now;
            its_slot = fits_now.slot;
            mine = None;
            leaves = step_leaves;
            theirs = λ j t a b y ne at uses e. cc e;
            alone = same_slot same hash fixed s h id v x at_id slot_is;
            under = λ y at. under_is ∙ ap (λ (z : View K V S). z.under) (same_some v y (sym at_id ∙ at));
            knows = knows_alike same hash fixed s h id v x at_id map_is by_is own_is;
            gone = λ m e. absurd (cc (none_ends, e));
            leant = inl (refl, λ y at. slot_is ∙ ap (λ (z : View K V S). z.slot) (same_some v y (sym at_id ∙ at)));
            fresh = (so_now.fresh.0, so_now.fresh.1, numbered_on s.world.doings (Does (StepsEnding me granted.0) ∷ []) 0 so_now.fresh.0 so_now.fresh.0 so_now.fresh.2 refl);
            row = knows_rests fixed n2 id x.slot (slot_is ∙ does.0);
          })
          (record {
            own = ((λ a k. 0), tt);
            others = λ j ne theirs. refl;
            its = λ are. subst (λ (runs : List (BegunCall K V)). AreRuns same hash (calls_of id s.world.doings h.reached.1 []) runs) (sym calls_are) are;
            newest = λ other on. absurd (no_calls other on);
            aside = λ j ne theirs. refl;
            seen = λ before b y shown. (let some = sym (ap (λ (l : List (ℕ × Node K V)). shown_in l b) none) ∙ shown in absurd (cc some));
          }) so_told is

      map_still : KnowsMap same hash n2 v.map
      map_still = map_on same hash scene_now n2 id place_now fits_now.slot fixed.batch_size None step_leaves v.map (all_last same hash scene_now n2 id place_now fits_now.slot fixed.batch_size None step_leaves none_ends v.map) fits_now.map

      own_still : KnowsMap same hash n2 v.own
      own_still = map_on same hash scene_now n2 id place_now fits_now.slot fixed.batch_size None step_leaves v.own (all_last same hash scene_now n2 id place_now fits_now.slot fixed.batch_size None step_leaves none_ends v.own) fits_now.own

      its_idle : (t : ℕ) → IsSlot t → t ≢ place_now → IsIdle n2 (caller_at id t)
      its_idle = own_idle same hash scene_now n2 id place_now fits_now.slot fixed.batch_size None step_leaves fits_now.idle

    -- what it has looked at is the table to which it comes
    abbrev HasLooked : Settled (Node K V) → Type 0
    HasLooked told = AllLooked scene_now.world.memory (end_map_plan {K = K} {V = V} machine) m2 (step_led.3, told) made.looks

    abbrev IsTable : Settled (Node K V) → Type 0
    IsTable told = (b : ℕ) (x : Node K V) → shown_in made.looks b ≡ Some x → (value_at w2.memory b ≡ Some x) × ComesTo b (step_led.3, told)

    looked_at : (told : Settled (Node K V)) → HasLooked told → IsTable told
    looked_at told seen b x shown =
        let g = looked_table scene_now.world.memory m2 machine step_led.3 told made.looks seen b x shown in (ap (λ (y : Mem (Node K V)). value_at y b) (did.memory ∙ sym memory_is) ∙ g.0, g.1)

    -- it is known how much was left, and that a step has left less
    was_left : (machine ≡ d.machine) × (◌≡◌ {A = ℕ × ℕ} (e.left, e.along) (left_of d))
    was_left =
        let is : e ≡ end_of d = sym does.1.is ∙ ap (λ (f : Finishing K V). end_of f) same_ending in
        (ap (λ (x : EndOfMap). x.machine) is, ap (λ (x : EndOfMap). (x.left, x.along)) is)

    abbrev HasLess : Settled (Node K V) → ℕ × ℕ → Type 0
    HasLess told after = GetsOn machine (step_led.3, told) (e.left, e.along) after

    less_than : (told : Settled (Node K V)) (after : ℕ × ℕ) → GetsOn d.machine (step_led.3, told) (left_of d) after → HasLess told after
    less_than told after less =
        subst (λ (x : EndMap). GetsOn x (step_led.3, told) (e.left, e.along) after) (sym was_left.0)
        (subst (λ (x : ℕ × ℕ). GetsOn d.machine (step_led.3, told) x after) (sym was_left.1) less)

    -- the end goes on, and stands so then
    module _ (next : Finishing K V) (comes : stage ≡ n2 (Some next)) where
      facts_then : FinishingFacts same fixed.batch_size w2 me next
      facts_then =
          (subst (λ (x : Scene K V). AllStand same hash fixed.batch_size fixed.roots slot_of x) comes (h.course.next h.reached.0 (Does (StepsEnding me granted.0)) step_may).1).facts me next
          (at_same scene_now.enders me (Some next) me refl)

      goes_on : (so_told : View K V S → Type 0)
          → ((b : ℕ) (x : Node K V) → shown_in made.looks b ≡ Some x → (value_at w2.memory b ≡ Some x) × IsAtTable next.machine next.machine.stands b)
          → so_told record { slot = v.slot; under = v.under; map = v.map; by = v.by; own = v.own; work = Ends (end_of next); looks = made.looks; held = []; began = v.began; calls = v.calls }
          → Goes (Holds same hash fixed) KeepsFor s m2 id so_told
      goes_on so_told table is =
          goes_by (Some next)
          (record { slot = v.slot; under = v.under; map = v.map; by = v.by; own = v.own; work = Ends (end_of next); looks = made.looks; held = []; began = v.began; calls = v.calls }) so_told comes
          refl refl refl refl refl refl (λ other on. cc on) refl
          (record {
            slot = fits_now.slot;
            aside = fits_now.aside;
            does = (does.0, record { ending = next; here = at_same scene_now.enders me (Some next) me refl; is = refl; calls = does.1.calls }, its_row (Some next));
            map = map_still (Some next);
            own = own_still (Some next);
            only = tt;
            held = tt;
            table = table;
            pair = tt;
            idle = its_idle (Some next);
          })
          is

    steps_so : Steps Took value_at scene_now.world.memory (end_map_plan {K = K} {V = V} d.machine) w2.memory (step_led.3, step_led.4)
    steps_so =
        subst (λ (x : Mem (Node K V)). Steps Took value_at scene_now.world.memory (end_map_plan {K = K} {V = V} d.machine) x (step_led.3, step_led.4)) (sym did.memory) its_steps

    by : (so_told : View K V S → Type 0) (told : Settled (Node K V))
        → ((left : ℕ × ℕ) → HasLess told left → so_told (ended_after v made.looks (record { machine = step_led.3; left = left.0; along = left.1 }) told))
        → EndingCame same hash fixed.batch_size fixed.roots slot_of scene_now me d did.w2 did.deed step_led.3 stage told → HasLooked told
        → Steps Took value_at scene_now.world.memory (end_map_plan {K = K} {V = V} d.machine) w2.memory (step_led.3, told) → Goes (Holds same hash fixed) KeepsFor s m2 id so_told
    by so_told settled.Goes is came seen st =
        let less = (ends_get_on V same fixed.batch_size scene_now.world w2 me d step_led.3 (d.waits ++ waiting_by did.deed) (all_now.facts me d step_led.1)).0 (facts_then _ came.1) st in
        let after : ℕ × ℕ = left_of (record d { machine = step_led.3; waits = d.waits ++ waiting_by did.deed }) in
        goes_on _ came.1 so_told (looked_at settled.Goes seen) (is after (less_than settled.Goes after less))
    by so_told settled.Waits is came seen st = absurd came
    by so_told (settled.Gave value) is (b, was, taken, came) seen st =
        let less = (ends_get_on V same fixed.batch_size scene_now.world w2 me d step_led.3 (d.waits ++ waiting_by did.deed) (all_now.facts me d step_led.1)).1 b value (facts_then _ came) st in
        let after : ℕ × ℕ = left_of (record d { machine = step_led.3; back = d.back ++ b ∷ []; waits = d.waits ++ waiting_by did.deed }) in
        goes_on _ came so_told (looked_at (settled.Gave value) seen) (is after (less_than (settled.Gave value) after less))
    by so_told settled.Done is came seen st =
        goes_by None (ended_after v made.looks (record { machine = step_led.3; left = 0; along = 0 }) settled.Done) so_told came.2 refl refl refl refl refl refl (λ other on. cc on) refl
        (record {
          slot = fits_now.slot;
          aside = fits_now.aside;
          does =
              subst (λ (x : SlotView (Node K V)). HasRow (n2 None) me x) (sym does.0) (record {
                row = its_row None;
                slot = tt;
                calls = does.1.calls;
                makers = (all_now.alone me d step_led.1).1;
                enders = at_same scene_now.enders me None me refl;
              });
          map = map_still None;
          own = own_still None;
          only = tt;
          held = tt;
          table = tt;
          pair = tt;
          idle = its_idle None;
        })
        (is (0, 0) tt)

    abbrev then_ : ℕ × ℕ → EndOfMap
    then_ left = record { machine = step_led.3; left = left.0; along = left.1 }

    looks_same : (told : Settled (Node K V)) → HasLooked told → (left : ℕ × ℕ) → (ended_after v made.looks (then_ left) told).looks ≡ made.looks
    looks_same settled.Goes seen left = refl
    looks_same settled.Waits seen left = refl
    looks_same (settled.Gave value) seen left = refl
    looks_same settled.Done seen left = sym (none_looked scene_now.world.memory m2 machine step_led.3 made.looks seen)

    seen_then : HasLooked step_led.4
    seen_then = subst (λ (x : EndMap × Settled (Node K V)). AllLooked scene_now.world.memory (end_map_plan {K = K} {V = V} machine) m2 x made.looks) end_is made.seen

    goes : (op : Op (Node K V)) → Goes (Holds same hash fixed) KeepsFor s m2 id (told same hash v op out)
    goes op =
        by (told same hash v op out) step_led.4
        (λ left less.
        let same_looks = sym (looks_same step_led.4 seen_then left) in
        subst (λ (k : SeatWork K V S). observed_by same hash v v.map k op out (ended_after v made.looks (then_ left) step_led.4)) (sym works) (
          (then_ left, step_led.4),
          subst (λ (l : List (ℕ × Node K V)). FollowsBy (shown_in l) (end_map_plan {K = K} {V = V} machine) out (step_led.3, step_led.4)) same_looks
              (subst (λ (x : EndMap × Settled (Node K V)). FollowsBy (shown_in made.looks) (end_map_plan {K = K} {V = V} machine) out x) end_is made.follows),
          ap (λ (l : List (ℕ × Node K V)). ended_after v l (then_ left) step_led.4) same_looks,
          subst (λ (l : List (ℕ × Node K V)). MayFollow (shown_in l) (end_map_plan {K = K} {V = V} machine) out) same_looks made.may,
          less,
        )) step_led.8 seen_then steps_so

module _ {K S : Type 0} (V : Type 0) (same : K → K → Bool) (hash : S → K → ℕ) where
  pub endings_go_on : EndingsContinue V same hash
  endings_go_on fixed id v e op works makes s h at_id =
      let step = may_op (scene_now same hash fixed s h id v at_id e works).world.memory (end_map_plan e.machine) op makes (may_step same hash fixed s h id v at_id e works) in
      let is = (so_now same hash fixed s h id v at_id e works).memory in (
        subst (λ (x : Mem (Node K V)). Can x op) (sym is) step.0,
        λ out m2 took. goes same hash fixed s h id v at_id e works m2 out (step.1 out m2 (subst (λ (x : Mem (Node K V)). Took x op out m2) is took)) op,
      )

  pub endings_are_shown : EndingsAreShown V same hash
  endings_are_shown fixed id b v e x works shown = (λ t h at. subst IsSome (sym (here t h at)) refl, λ y of. same_some y x (sym of.3 ∙ here of.0 of.1 of.2))
    where
      here : (t : State (Node K V) (View K V S) (MapsWorld K V S)) → Holds same hash fixed t → view_of t id ≡ Some v → value_at t.memory b ≡ Some x
      here t h at =
          ap (λ (m : Mem (Node K V)). value_at m b) h.so.memory
          ∙ (subst (λ (k : SeatWork K V S). KnowsTable same hash t.world.scene k v.looks) works (h.so.seats id v at).table b x shown).0
