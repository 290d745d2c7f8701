-- Whatever is done, played it comes to where it has led; and so does a list.
use Rattle.std.specs.Prelude.{◌++◌, Option, Some, None, option_map}
use Rattle.std.specs.Option.{is_none}
use Rattle.std.proofs.Common.{◌≡◌, ℕ, Bool, true, List, [], ◌∷◌, refl, ap, sym, subst, ◌∙◌}
use Rattle.run_schedules.specs.Given.SeizeWordsMem.{Mem}
use Rattle.run_schedules.specs.Given.SeizeWordsPlan.{Plan}
use Rattle.seize.specs.ReclaimAll.{clearing, reclaim_all_plan, reclaiming_all}
use Rattle.seize.specs.World.{Rests}
use Rattle.seize.specs.declared.rows.reclaim_all.ReclaimAll.{ReclaimAll}
use Rattle.seize.specs.declared.rows.settle.Settled.{Settled}
use Rattle.seize.specs.declared.rows.settle.Settled.TheVariants as settled
use Rattle.seize_acts.specs.Acts.Answers.{Grant, stepped, then_on}
use Rattle.seize_acts.proofs.Acts.Begun.{rests_is}
use Rattle.map_tables.specs.Nodes.{deferred_word, was_left}
use Rattle.map_tables.specs.declared.node.Node.{Node}
use Rattle.many_acts.proofs.Given.ScenesNoCall.{none_is}
use Rattle.many_acts.specs.Given.ScenesScene.{Scene, slot_of}
use Rattle.many_acts.specs.Acts.Acts.{Act, Answer, Nothing, OfReclaiming, BeginsCall, StepsCall, TellsCall, AsksCall, StopsCall, BeginsMaking, StepsMaking, BeginsEnding, StepsEnding, BeginsRow, StepsRow}
use Rattle.many_acts.specs.Acts.AsSteps.{changed_of}
use Rattle.many_acts.specs.Acts.Doings.{Doing, Does, BeginsReclaiming, BeginsClearing, StepsReclaiming, Chooses, memory_chosen, scene_chosen, AllAreFree, HasBegun, HasDone, HasStepped, MayDo, Stage, reclaiming, still}
use Rattle.many_acts.specs.Acts.Leads.{AllStand, Led, MayBe}
use Rattle.many_acts.specs.Acts.Lists.{Course, Reached, LedOn, nothing_done, on_by}
use Rattle.play_lists.specs.Played.Play.{State, all_begun, choice_come, all_on, all_stepped, first_state, play, play_act, play_all, step_all}
use Rattle.play_lists.specs.Played.Reached.{AreOnOwn, IsOf, IsOfStage, IsOnOwn, ListsArePlayed, rows_beside}
use Rattle.many_acts.proofs.Acts.Courses.{same_set_up}
use Rattle.play_lists.proofs.Played.Calls.{asks, begins, steps, stops, tells}
use Rattle.play_lists.proofs.Played.Makings.{ending_begins, ending_steps_so, making_begins, making_steps_so}
use Rattle.play_lists.proofs.Played.Rows.{row_begins, row_steps_so}

module _ {K V S : Type 0} (same : K → K → Bool) (hash : S → K → ℕ) (batch_size roots : ℕ) (aborts : ℕ → V) where
  -- an act, whichever it is
  module _ (s : Scene K V) (all : AllStand same hash batch_size roots slot_of s) (x : State K V S) (is : IsOf hash s s.world.row x.now) (n : Scene K V) where
    abbrev Plays : Act K V S → Answer K V → Type 0
    Plays act told =
        (y : State K V S) × (play_act same hash batch_size roots aborts act x ≡ Some y) × IsOf hash n n.world.row y.now × (y.told ≡ x.told ++ told ∷ [])
        × (y.now.all ≡ x.now.all)

    plays : (act : Act K V S) → IsOnOwn (Does act) → MayBe same hash batch_size roots slot_of act s → (told : Answer K V) → Led same hash batch_size roots slot_of act s told n → Plays act told
    plays (BeginsCall i m wanted) own may told led = begins same hash batch_size roots s aborts x is n i m wanted may told led
    plays (StepsCall i m g) own may told led = steps same hash batch_size roots s aborts x is n i m g told led
    plays (TellsCall i m reply) own may told led = tells same hash batch_size roots s aborts x is n i m reply told led
    plays (AsksCall i m) own may told led = asks same hash batch_size roots s aborts x is n i m told led
    plays (StopsCall i m) own may told led = stops same hash batch_size roots s aborts x is n i m all told led
    plays (BeginsMaking i map hasher given places) own may told led = making_begins same hash batch_size roots s aborts x is n i map places hasher given told led
    plays (StepsMaking i g) own may told (b, makes, m2, machine, end, computed, told_is, did, came) =
        making_steps_so same hash batch_size roots s aborts x is n i b makes g m2 machine end computed did came told told_is
    plays (BeginsEnding i m) own may told led = ending_begins same hash batch_size roots s aborts x is n i m told led
    plays (StepsEnding i g) own may told (f, ends, m2, machine, end, computed, told_is, did, came) =
        ending_steps_so same hash batch_size roots s aborts x is n i f ends g m2 machine end computed did came told told_is
    plays (BeginsRow i request) (called, own) may told led = row_begins same hash batch_size roots s aborts x is n i request called own may told led
    plays (StepsRow i g) own may told led = row_steps_so same hash batch_size roots s aborts x is n i g may told led

  abbrev far : Stage V same hash batch_size roots slot_of → Option (ℕ × ReclaimAll)
  far p = reclaiming V same hash batch_size roots slot_of p

  module _ (p n : Stage V same hash batch_size roots slot_of) (x : State K V S) (is : IsOfStage hash same batch_size roots p x.now) where
    abbrev pub PlaysOn : Doing K V S → Answer K V → Type 0
    PlaysOn doing told =
        (y : State K V S) × (play same hash batch_size roots aborts doing x ≡ Some y) × IsOfStage hash same batch_size roots n y.now × (y.told ≡ x.told ++ told ∷ [])

    -- as far as who reclaims all is
    scene_at : (o : Option (ℕ × ReclaimAll)) → far p ≡ o → IsOf hash p.0 (rows_beside o p.0.world.row) x.now
    scene_at o e = subst (λ (q : Option (ℕ × ReclaimAll)). IsOf hash p.0 (rows_beside q p.0.world.row) x.now) e is.scene

    says : (answer told : Answer K V) → told ≡ answer → x.told ++ answer ∷ [] ≡ x.told ++ told ∷ []
    says answer told e = ap (λ (a : Answer K V). x.told ++ a ∷ []) (sym e)

    by_act : (act : Act K V S) → IsOnOwn (Does act) → MayDo V same hash batch_size roots slot_of (Does act) p → (told : Answer K V)
        → HasDone V same hash batch_size roots slot_of (Does act) p told n → PlaysOn (Does act) told
    by_act act own (idle, may) told (led, idle_then) =
        let none : far p ≡ None = none_is (far p) idle in
        let to = plays p.0 p.1 x (scene_at None none) n.0 act own may told led in (
          to.0,
          to.1,
          record {
            scene = subst (λ (q : Option (ℕ × ReclaimAll)). IsOf hash n.0 (rows_beside q n.0.world.row) to.0.now) (sym idle_then) to.2;
            all = to.4 ∙ is.all ∙ ap (option_map (λ (it : ℕ × ReclaimAll). it.1)) (none ∙ sym idle_then);
          },
          to.3,
        )

    -- somebody begins to reclaim all: no row is under way
    begins_all : (i : ℕ) (c : ReclaimAll) → is_none (far p) ≡ true → AllAreFree p.0 → (told : Answer K V) → HasBegun V same hash batch_size roots slot_of i c p told n
        → IsOfStage hash same batch_size roots n (all_begun c x).now
    begins_all i c idle free told (none, scene_is, lists, begun) =
        let before = scene_at None (none_is (far p) idle) in
        let it : IsOf hash p.0 (rows_beside (Some (i, c)) p.0.world.row) (all_begun c x).now = record {
          memory = before.memory;
          maps = before.maps;
          calls = before.calls;
          makers = before.makers;
          enders = before.enders;
          between = λ j rest. before.between j rest ∙ rests_is (p.0.world.row j) (free.rest j);
          calling = before.calling;
        } in record {
          scene = subst (λ (q : Option (ℕ × ReclaimAll)). IsOf hash n.0 (rows_beside q n.0.world.row) (all_begun c x).now) (sym begun)
              (subst (λ (z : Scene K V). IsOf hash z (rows_beside (Some (i, c)) z.world.row) (all_begun c x).now) (sym scene_is) it);
          all = ap (option_map (λ (it : ℕ × ReclaimAll). it.1)) (sym begun);
        }

    -- a choice of a number comes
    chooses : (choice : ℕ) → is_none (far p) ≡ true → (told : Answer K V) → HasDone V same hash batch_size roots slot_of (Chooses choice) p told n
        → IsOfStage hash same batch_size roots n (choice_come choice x).now
    chooses choice idle told (none, scene_is, lists, idle_then) =
        let before = scene_at None (none_is (far p) idle) in
        let it : IsOf hash (scene_chosen choice p.0) p.0.world.row (choice_come choice x).now = record {
          memory = ap (memory_chosen choice) before.memory;
          maps = before.maps;
          calls = before.calls;
          makers = before.makers;
          enders = before.enders;
          between = before.between;
          calling = before.calling;
        } in record {
          scene = subst (λ (q : Option (ℕ × ReclaimAll)). IsOf hash n.0 (rows_beside q n.0.world.row) (choice_come choice x).now) (sym idle_then)
              (subst (λ (z : Scene K V). IsOf hash z z.world.row (choice_come choice x).now) (sym scene_is) it);
          all = is.all ∙ ap (option_map (λ (it : ℕ × ReclaimAll). it.1)) (none_is (far p) idle ∙ sym idle_then);
        }

    -- somebody takes a step of reclaiming all
    module _ (g : Grant) (told : Answer K V) (to : HasStepped V same hash batch_size roots slot_of g p told n) where
      abbrev plan : Plan (Node K V) (ReclaimAll × Settled (Node K V))
      plan = reclaim_all_plan deferred_word was_left to.machine

      abbrev end : Mem (Node K V) × (ReclaimAll × Settled (Node K V))
      end = (to.did.memory, (to.next, to.end))

      before : IsOf hash p.0 (rows_beside (Some (to.caller, to.machine)) p.0.world.row) x.now
      before = scene_at (Some (to.caller, to.machine)) to.here

      abbrev y : State K V S
      y = all_stepped (changed_of x.now.memory g plan) x end

      after : (o : Option (ℕ × ReclaimAll)) → ((j : ℕ) → Rests ≡ rows_beside o to.did.did.w2.row j) → IsOf hash n.0 (rows_beside o n.0.world.row) y.now
      after o rows =
          subst (λ (z : Scene K V). IsOf hash z (rows_beside o z.world.row) y.now) (sym to.did.comes) (record {
            memory = sym to.did.did.memory;
            maps = λ m. before.maps m ∙ sym (same_set_up (p.0.maps m) (to.did.did.maps2 m) (to.did.did.as_they_were m));
            calls = before.calls;
            makers = before.makers;
            enders = before.enders;
            between = λ j rest. before.between j rest ∙ rows j;
            calling = before.calling;
          })

      -- by what it tells it goes on, or is over
      goes : (said : Settled (Node K V)) → to.end ≡ said → IsOf hash n.0 (rows_beside (still said (to.caller, to.next)) n.0.world.row) y.now
          × (all_on to.next said ≡ option_map (λ (it : ℕ × ReclaimAll). it.1) (still said (to.caller, to.next)))
      goes settled.Goes e = (after (Some (to.caller, to.next)) (λ j. refl), refl)
      goes settled.Waits e = (after (Some (to.caller, to.next)) (λ j. refl), refl)
      goes (settled.Gave value) e = (after (Some (to.caller, to.next)) (λ j. refl), refl)
      goes settled.Done e = (after None (λ j. sym ((to.did.did.over e).nothing.0 j)), refl)

      steps_all : PlaysOn (StepsReclaiming g) told
      steps_all =
          let all_is : x.now.all ≡ Some to.machine = is.all ∙ ap (option_map (λ (it : ℕ × ReclaimAll). it.1)) to.here in
          let so = goes to.end refl in (
            y,
            ap (λ (o : Option ReclaimAll). then_on o (step_all same hash batch_size roots aborts g x)) all_is
                ∙ ap (option_map (all_stepped (changed_of x.now.memory g plan) x)) (ap (λ (v : Mem (Node K V)). stepped v g plan) before.memory ∙ to.did.computed),
            record {
              scene = subst (λ (q : Option (ℕ × ReclaimAll)). IsOf hash n.0 (rows_beside q n.0.world.row) y.now) (sym to.goes_on) so.0;
              all = so.1 ∙ ap (option_map (λ (it : ℕ × ReclaimAll). it.1)) (sym to.goes_on);
            },
            says (OfReclaiming to.end) told to.tells,
          )

    pub plays_on : (doing : Doing K V S) → IsOnOwn doing → MayDo V same hash batch_size roots slot_of doing p → (told : Answer K V) → HasDone V same hash batch_size roots slot_of doing p told n
        → PlaysOn doing told
    plays_on (Does act) own may told done = by_act act own may told done
    plays_on (BeginsReclaiming i) own (idle, size, free, there) told done =
        (all_begun (reclaiming_all batch_size roots) x, refl, begins_all i (reclaiming_all batch_size roots) idle free told done, says Nothing told done.0)
    plays_on (BeginsClearing i) own (idle, size, free, slots) told done = (all_begun (clearing roots) x, refl, begins_all i (clearing roots) idle free told done, says Nothing told done.0)
    plays_on (StepsReclaiming g) own may told done = steps_all g told done
    plays_on (Chooses choice) own idle told done = (choice_come choice x, refl, chooses choice idle told done, says Nothing told done.0)

  module _ (course : Course V same hash batch_size roots slot_of) where
    abbrev pub To : Reached V same hash batch_size roots slot_of → State K V S → Type 0
    To x state = IsOfStage hash same batch_size roots x.0 state.now × (state.told ≡ x.1)

    played_on : (doings : List (Doing K V S)) (x y : Reached V same hash batch_size roots slot_of) (state : State K V S) → To x state
        → LedOn V same hash batch_size roots slot_of course doings x y → AreOnOwn doings
        → (after : State K V S) × (play_all same hash batch_size roots aborts doings state ≡ Some after) × IsOfStage hash same batch_size roots y.0 after.now × (after.told ≡ y.1)
    played_on [] x y state so led own = (let to = subst (λ (z : Reached V same hash batch_size roots slot_of). To z state) (sym led) so in (state, refl, to.0, to.1))
    played_on (doing ∷ doings) x y state so (may, led) (own, others) =
        let next = on_by V same hash batch_size roots slot_of course x doing may in
        let to = plays_on x.0 next.0 state so.0 doing own may (course.told x.0 doing may) (course.leads x.0 doing may) in
        let rest = played_on doings next y to.0 (to.2, to.3 ∙ ap (λ (l : List (Answer K V)). l ++ course.told x.0 doing may ∷ []) so.1) led others in
        (rest.0, ap (λ (o : Option (State K V S)). then_on o (play_all same hash batch_size roots aborts doings)) to.1 ∙ rest.1, rest.2, rest.3)

    pub at_first_so : To (nothing_done V same hash batch_size roots slot_of course) (first_state roots)
    at_first_so = (
      record {
        scene = record { memory = refl; maps = λ m. refl; calls = λ m i. refl; makers = λ i. refl; enders = λ i. refl; between = λ i rest. refl; calling = λ m i u has. absurd (cc has) };
        all = refl;
      },
      refl,
    )

pub lists_are_played : {K S : Type 0} (V : Type 0) (same : K → K → Bool) (hash : S → K → ℕ) (batch_size roots : ℕ) (aborts : ℕ → V) → ListsArePlayed {S = S} V same hash batch_size roots aborts
lists_are_played V same hash batch_size roots aborts course doings x led own =
    played_on same hash batch_size roots aborts course doings (nothing_done V same hash batch_size roots slot_of course) x (first_state roots) (at_first_so same hash batch_size roots aborts course) led own
