-- The making of a map begins, and its next operation may be made at any moment.
use Rattle.std.specs.Prelude.{◌≢◌, ◌∷◌, max, Option, Some, None}
use Rattle.std.specs.Int.{IsPowerOfTwo}
use Rattle.std.specs.Option.{is_none}
use Rattle.std.proofs.Common.{◌≡◌, ℕ, ◌+◌, ◌<◌, ◌≤◌, ◌^◌, Bool, true, false, List, [], ◌⊎◌, inl, inr, refl, sym, subst, ap, ◌∙◌, arith}
use Rattle.std.proofs.lemmas.Bool.{cases_eq}
use Rattle.seize_words.specs.OneMemory.Mem.{Mem, Can, Took, value_at}
use Rattle.seize_words.specs.OneMemory.Op.{Op, Out}
use Rattle.seize_words.specs.OneMemory.Plan.{Steps, May}
use Rattle.seize.specs.World.{World, Row, Use, Rests, with_at}
use Rattle.seize.specs.declared.advance.Advance.{Advance}
use Rattle.seize.specs.declared.advance.Advance.TheVariants as progress
use Rattle.map_tables.specs.Lengths.{IsTableLen}
use Rattle.map_tables.specs.Nodes.{deferred_word}
use Rattle.map_tables.specs.declared.node.Node.{Node}
use Rattle.map_tables.specs.declared.setting.Setting.{Setting}
use Rattle.papaya_raw.specs.declared.machines.machine.Machine.{Machine}
use Rattle.map_machines.specs.NewMap.{new_map_plan, opening}
use Rattle.map_machines.specs.declared.new_map.NewMap.{NewMap}
use Rattle.many_acts.specs.Given.CallersRows.{IsUsedAlike}
use Rattle.many_acts.specs.Given.FinishesEndings.{MakingStepsWithEndings}
use Rattle.many_acts.specs.Given.FinishesMakings.{Beginning}
use Rattle.many_acts.specs.Given.FinishesMaps.{Standing}
use Rattle.many_acts.proofs.Given.CallersTogether.At.{at_same, at_other}
use Rattle.many_acts.proofs.Given.CallersTogether.Came.{came_reached}
use Rattle.many_acts.proofs.Given.CallersTogether.Users.{events_rows, events_uses}
use Rattle.many_acts.specs.Given.ScenesMaking.{making_begun}
use Rattle.many_acts.specs.Given.ScenesScene.{Scene, slot_of}
use Rattle.many_acts.specs.Acts.Acts.{Act, BeginsMaking, StepsMaking}
use Rattle.many_acts.specs.Acts.Doings.{Does, MayDo}
use Rattle.many_acts.specs.Acts.Leads.{AllStand, Led, MakingCame, making_steps}
use Rattle.many_acts.specs.Acts.Lists.{AllMayStep, AllAreActs}
use Rattle.many_acts.proofs.Acts.Lists.{steps_are_acts}
use Rattle.seize_model.proofs.Alone.Histories.Reached.{Reached}
use Rattle.seize_acts.specs.Acts.Answers.{Grant, then_on}
use Rattle.seize_seats.specs.Seats.State.{State, view_of, Goes}
use Rattle.seize_views.specs.Views.Told.{FollowsBy}
use Rattle.seize_views.specs.declared.view.Fixed.{Fixed}
use Rattle.seize_views.specs.declared.view.SlotView.{SlotView}
use Rattle.seize_views.specs.declared.view.SlotView.TheVariants as slot_view
use Rattle.threads_rule.specs.Views.Begun.{making}
use Rattle.threads_rule.specs.Views.Looks.{shown_in}
use Rattle.threads_rule.specs.Views.Promises.{MakingsBegin, MakingsContinue}
use Rattle.threads_rule.specs.Views.Listed.{calls_of}
use Rattle.threads_rule.specs.Views.Rule.{MapsWorld, IsSlot, IsIdle, HasRow, HasMaking, DoesSo, KnowsMap, AreRuns, Fits, AreSo, Holds, KeepsFor, caller_at, acts_in}
use Rattle.threads_rule.specs.Views.Told.{told, observed_by, with_made, made_after}
use Rattle.threads_rule.specs.declared.view.BegunCall.{BegunCall}
use Rattle.threads_rule.specs.declared.view.Map.{Map}
use Rattle.threads_rule.specs.declared.view.View.{View}
use Rattle.threads_rule.specs.declared.view.SeatWork.{SeatWork}
use Rattle.threads_rule.specs.declared.view.SeatWork.TheVariants.{Nothing, Calls, Makes}
use Rattle.threads_rule.proofs.Views.Knows.{knows_rests}
use Rattle.threads_rule.proofs.Views.Leaves.{Leaves, own_idle, map_on, all_last}
use Rattle.threads_rule.proofs.Views.Looked.{Made, may_op}
use Rattle.threads_rule.proofs.Views.Made.{making_keeps}
use Rattle.threads_rule.proofs.Views.Listed.{numbered_on}
use Rattle.threads_rule.proofs.Views.Moved.{scene_of, all_stand, are_so, KnowsThen, Moved, knows_alike, nobody_by, same_slot, moved}
use Rattle.threads_rule.proofs.Views.Ran.{Ran, ran_stays, ran_keeps, ran_passes}
use Rattle.threads_rule.proofs.Views.Sections.{as_users}
use Rattle.many_acts.proofs.Given.CallersTogether.Slots.{alike_same}
use Rattle.seize_words.proofs.General.{none_is, same_some}

module _ {K V S : Type 0} (same : K → K → Bool) (hash : S → K → ℕ) (fixed : Fixed) (s : State (Node K V) (View K V S) (MapsWorld K V S)) (h : Holds same hash fixed s)
    (id : ℕ) (v : View K V S) (at_id : view_of s id ≡ Some v) where
  abbrev scene : Scene K V
  scene = scene_of same hash fixed s h

  all : AllStand same hash fixed.batch_size fixed.roots slot_of scene
  all = all_stand same hash fixed s h

  so : AreSo same hash s scene
  so = are_so same hash fixed s h

  fits : Fits same hash scene id v
  fits = so.seats id v at_id

  abbrev place : ℕ
  place = acts_in v.under v.slot

  abbrev i : ℕ
  i = caller_at id place

  -- it has nothing under way, and begins to make a map
  module _ (mine : Bool) (hasher : S) (given : Setting) (places : ℕ) (rests : v.slot ≡ slot_view.Rests) (free : v.work ≡ Nothing) (sized : given.batch_size ≡ fixed.batch_size)
      (masked : given.mask + 1 < 2 ^ 64) (rooted : 0 < fixed.roots) (initial : IsPowerOfTwo given.initial) (fit : max places 8 ≤ 2 ^ 48 → IsTableLen (max places 8)) where
    has_row : HasRow scene i slot_view.Rests
    has_row =
        subst (λ (x : SlotView (Node K V)). HasRow scene i x) rests
        (subst (λ (x : SeatWork K V S). DoesSo same hash scene i v.under v.slot v.map x) free fits.does)

    abbrev m : ℕ
    m = so.fresh.0

    may : MayDo V same hash fixed.batch_size fixed.roots slot_of (Does (BeginsMaking i m hasher given places)) h.reached.0
    may = (
      ap is_none h.nobody,
      (
        record { no_call = λ a. ap is_none (has_row.calls a); no_making = ap is_none has_row.makers; no_ending = ap is_none has_row.enders },
        ap is_none (so.fresh.1.0 m (omega arith)),
        (λ j d is e. let less = so.fresh.1.1 j d is in omega (arith, less, e)),
        sized,
        masked,
        rooted,
        initial,
        fit,
      ),
    )

    abbrev b : Beginning K
    b = making_begun (hash hasher) fixed.roots m given places

    abbrev n : Scene K V
    n = record scene { makers = with_at scene.makers i (Some b) }

    leaves : Leaves same hash fixed.batch_size scene n i None
    leaves = record {
      rows = λ k ne. refl;
      calls = λ a k ne. refl;
      makers = λ k ne. at_other scene.makers i (Some b) k ne;
      enders = λ k ne. refl;
      uses = λ t used apart. alike_same (scene.world.uses t);
      ends = None;
      maps = λ a r lasts is. (r, is, refl, refl);
      held = λ t a m r apart inside lasts stands owner held. (held, refl, refl);
      made = λ k ne x y made is other. is;
      keeps = λ a its there some. refl;
      passes = λ c ne was now. ([], refl);
    }

    stand : leaves.ends ≡ None
    unfolding leaves
    stand = refl

    abbrev w : View K V S
    w = making v mine m hasher (opening given fixed.roots places)

    fresh_then : (j : ℕ) (d : Beginning K) → with_at scene.makers i (Some b) j ≡ Some d → (j ≡ i) ⊎ (j ≢ i) → d.map < m + 1
    fresh_then j d is (inl e) =
        let one = ap (λ (x : Beginning K). x.map) (same_some b d (sym (at_same scene.makers i (Some b) j e) ∙ is)) in omega (arith, one)
    fresh_then j d is (inr ne) = let less = so.fresh.1.1 j d (sym (at_other scene.makers i (Some b) j ne) ∙ is) in omega (arith, less)

    abbrev act : Act K V S
    act = BeginsMaking i m hasher given places

    go : Moved same hash fixed s h id act s.memory w n
    go = record {
      memory = so.memory;
      own = record {
        slot = fits.slot;
        aside = fits.aside;
        does = (rests, record { making = b; here = at_same scene.makers i (Some b) i refl; map = refl; hashes = refl; is = refl; calls = has_row.calls }, has_row.row);
        map = map_on same hash scene n id place fits.slot fixed.batch_size None leaves v.map (all_last same hash scene n id place fits.slot fixed.batch_size None leaves stand v.map) fits.map;
        own = map_on same hash scene n id place fits.slot fixed.batch_size None leaves v.own (all_last same hash scene n id place fits.slot fixed.batch_size None leaves stand v.own) fits.own;
        only = tt;
        held = tt;
        table = tt;
        pair = tt;
        idle = own_idle same hash scene n id place fits.slot fixed.batch_size None leaves fits.idle;
      };
      place = place;
      its_slot = fits.slot;
      mine = None;
      leaves = leaves;
      theirs = λ j t a b x ne at uses e. cc e;
      alone = same_slot same hash fixed s h id v w at_id refl;
      under = λ x at. ap (λ (y : View K V S). y.under) (same_some v x (sym at_id ∙ at));
      knows = knows_alike same hash fixed s h id v w at_id refl refl refl;
      gone = λ a e. absurd (cc (stand, e));
      leant = inl (refl, λ x at. ap (λ (y : View K V S). y.slot) (same_some v x (sym at_id ∙ at)));
      fresh = (
        m + 1,
        ((λ a above. so.fresh.1.0 a (omega (arith, above))), (λ j d is. fresh_then j d is (cases_eq j i))),
        numbered_on s.world.doings (Does act ∷ []) 0 m (m + 1) so.fresh.2 (refl, omega arith),
      );
      row = knows_rests fixed n id v.slot rests;
    }

    begins : Goes (Holds same hash fixed) KeepsFor s s.memory id (λ x. (a : ℕ) × (x ≡ making v mine a hasher (opening given fixed.roots places)))
    begins =
        moved same hash fixed s h id v at_id act may n (h.course.leads h.reached.0 (Does act) may).0.1 s.memory w go
        (record { own = ((λ a. hash hasher), refl); others = λ j ne theirs. refl; its = λ are. are; newest = λ other on. absurd (cc on); aside = λ j ne theirs. refl; seen = λ before b x none. absurd (cc none) }) (λ x. (a : ℕ) × (x ≡ making v mine a hasher (opening given fixed.roots places))) (m, refl)

  -- it makes a map, and takes a step
  module _ (mine : Bool) (m : ℕ) (hasher : S) (machine : NewMap) (works : v.work ≡ Makes mine m hasher machine) where
    does : (v.slot ≡ slot_view.Rests) × HasMaking scene i m (hash hasher) machine × (scene.world.row i ≡ Rests)
    does = subst (λ (x : SeatWork K V S). DoesSo same hash scene i v.under v.slot v.map x) works fits.does

    acts : AllMayStep V same hash fixed.batch_size fixed.roots slot_of scene × AllAreActs V same hash fixed.batch_size fixed.roots slot_of scene
    acts = steps_are_acts {V = V} same hash fixed.batch_size fixed.roots slot_of scene all

    may_step : May Can Took value_at scene.world.memory (new_map_plan {K = K} {V = V} machine)
    may_step = subst (λ (x : NewMap). May Can Took value_at scene.world.memory (new_map_plan {K = K} {V = V} x)) does.1.is (acts.0.makings i does.1.making does.1.here)

    module _ (m2 : Mem (Node K V)) (out : Out (Node K V)) (made : Made scene.world.memory (new_map_plan {K = K} {V = V} machine) out m2) where
      granted : (g : Grant) × (making_steps same hash fixed.batch_size fixed.roots slot_of scene g does.1.making ≡ Some (m2, made.end))
      granted =
          acts.1.makings i does.1.making does.1.here m2 made.end
          (subst (λ (x : NewMap). Steps Took value_at scene.world.memory (new_map_plan {K = K} {V = V} x) m2 made.end) (sym does.1.is) made.steps)

      step_may : MayDo V same hash fixed.batch_size fixed.roots slot_of (Does (StepsMaking i granted.0)) h.reached.0
      step_may = (
        ap is_none h.nobody,
        ap is_none (ap (λ (o : Option (Beginning K)). then_on o (making_steps same hash fixed.batch_size fixed.roots slot_of scene granted.0)) does.1.here ∙ granted.1),
      )

      abbrev stage : Scene K V
      stage = (h.course.next h.reached.0 (Does (StepsMaking i granted.0)) step_may).0

      led : Led same hash fixed.batch_size fixed.roots slot_of (StepsMaking i granted.0) scene (h.course.told h.reached.0 (Does (StepsMaking i granted.0)) step_may) stage
      led = (h.course.leads h.reached.0 (Does (StepsMaking i granted.0)) step_may).0

      abbrev d : Beginning K
      d = led.0

      same_making : does.1.making ≡ d
      same_making = same_some does.1.making d (sym does.1.here ∙ led.1)

      its_map : d.map ≡ m
      its_map = ap (λ (x : Beginning K). x.map) (sym same_making) ∙ does.1.map

      its_hash : d.hash ≡ hash hasher
      its_hash = ap (λ (x : Beginning K). x.hash) (sym same_making) ∙ does.1.hashes

      both : ◌≡◌ {A = Mem (Node K V) × (NewMap × Advance Setting)} (m2, made.end) (led.2, (led.3, led.4))
      both =
          same_some (m2, made.end) (led.2, (led.3, led.4))
          (sym granted.1 ∙ ap (λ (x : Beginning K). making_steps same hash fixed.batch_size fixed.roots slot_of scene granted.0 x) same_making ∙ led.5)

      memory_is : m2 ≡ led.2
      memory_is = ap (λ (p : Mem (Node K V) × (NewMap × Advance Setting)). p.0) both

      end_is : made.end ≡ (led.3, led.4)
      end_is = ap (λ (p : Mem (Node K V) × (NewMap × Advance Setting)). p.1) both

      abbrev did : MakingStepsWithEndings V same same fixed.batch_size fixed.roots slot_of scene.world scene.maps scene.calls scene.makers scene.enders i d led.2 (led.3, led.4)
      did = led.7

      abbrev w2 : World (Node K V)
      w2 = did.step.w2

      rows : (k : ℕ) → w2.row k ≡ scene.world.row k
      rows k = ap (λ (f : ℕ → Row). f k) (events_rows fixed.batch_size did.step.events scene.world w2 did.step.users did.step.runs)

      uses : (t : ℕ) → w2.uses t ≡ scene.world.uses t
      uses t = ap (λ (f : ℕ → Use). f t) (events_uses fixed.batch_size did.step.events scene.world w2 did.step.users did.step.runs)

      reached : Reached deferred_word fixed.batch_size scene.world
      reached = came_reached fixed.batch_size scene.world all.makings.standing.came

      -- it is a step of the making in the scene
      its_steps : Steps Took value_at scene.world.memory (new_map_plan {K = K} {V = V} d.machine) led.2 (led.3, led.4)
      its_steps =
          subst (λ (x : Beginning K). Steps Took value_at scene.world.memory (new_map_plan {K = K} {V = V} x.machine) led.2 (led.3, led.4)) same_making
          (subst (λ (x : NewMap). Steps Took value_at scene.world.memory (new_map_plan {K = K} {V = V} x) led.2 (led.3, led.4)) (sym does.1.is)
          (subst (λ (x : Mem (Node K V)). Steps Took value_at scene.world.memory (new_map_plan {K = K} {V = V} machine) x (led.3, led.4)) memory_is
          (subst (λ (x : NewMap × Advance Setting). Steps Took value_at scene.world.memory (new_map_plan {K = K} {V = V} machine) m2 x) end_is made.steps)))

      ran : Ran deferred_word fixed.batch_size i scene.world w2
      ran = inl (did.step.events, as_users did.step.events did.step.users, did.step.runs)

      -- where it has come: maps and makings are these then
      module _ (maps2 : ℕ → Option (Standing K)) (it : Option (Beginning K))
          (stand : (a : ℕ) (r : Standing K) → scene.maps a ≡ Some r → (r2 : Standing K) × (maps2 a ≡ Some r2) × (r2.setting ≡ r.setting) × (r2.hash ≡ r.hash))
          (none : (a : ℕ) → so.fresh.0 ≤ a → maps2 a ≡ None) (same_map : (e : Beginning K) → it ≡ Some e → e.map ≡ d.map) where
        abbrev n2 : Scene K V
        n2 = record { world = w2; maps = maps2; calls = scene.calls; makers = with_at scene.makers i it; enders = scene.enders }

        step_leaves : Leaves same hash fixed.batch_size scene n2 i None
        step_leaves = record {
          rows = λ k ne. rows k;
          calls = λ a k ne. refl;
          makers = λ k ne. at_other scene.makers i it k ne;
          enders = λ k ne. refl;
          uses = λ t used apart. subst (λ (u : Use). IsUsedAlike (scene.world.uses t) u) (sym (uses t)) (alike_same (scene.world.uses t));
          ends = None;
          maps = λ a r lasts is. stand a r is;
          held = λ t a n r apart inside lasts stands owner held. (ran_stays deferred_word fixed.batch_size i scene.world w2 reached ran t inside).1 a held;
          made = making_keeps same hash fixed.batch_size fixed.roots scene all i d led.1 led.2 (led.3, led.4) its_steps w2 did.step.memory;
          keeps = ran_keeps deferred_word fixed.batch_size i scene.world w2 reached ran;
          passes = λ c ne. ran_passes deferred_word fixed.batch_size i c ne scene.world w2 reached ran;
        }

        none_ends : step_leaves.ends ≡ None
        unfolding step_leaves
        none_ends = refl

        fresh_on : (j : ℕ) (e : Beginning K) → with_at scene.makers i it j ≡ Some e → (j ≡ i) ⊎ (j ≢ i) → e.map < so.fresh.0
        fresh_on j e is (inl one) =
            let its = same_map e (sym (at_same scene.makers i it j one) ∙ is) in let less = so.fresh.1.1 i d led.1 in omega (arith, its, less)
        fresh_on j e is (inr ne) = so.fresh.1.1 j e (sym (at_other scene.makers i it j ne) ∙ is)

        come : (x : View K V S) → x.slot ≡ v.slot → x.under ≡ v.under → ((y : View K V S) → view_of s id ≡ Some y → KnowsThen same hash fixed s h id y x) → Fits same hash n2 id x
            → Moved same hash fixed s h id (StepsMaking i granted.0) m2 x n2
        come x slot_is under_is knows own = record {
          memory = memory_is ∙ sym did.step.memory;
          own = own;
          place = place;
          its_slot = fits.slot;
          mine = None;
          leaves = step_leaves;
          theirs = λ j t a b y ne at uses e. cc e;
          alone = same_slot same hash fixed s h id v x at_id slot_is;
          under = λ y at. under_is ∙ ap (λ (z : View K V S). z.under) (same_some v y (sym at_id ∙ at));
          knows = knows;
          gone = λ a e. absurd (cc (none_ends, e));
          leant = inl (refl, λ y at. slot_is ∙ ap (λ (z : View K V S). z.slot) (same_some v y (sym at_id ∙ at)));
          fresh = (so.fresh.0, (none, (λ j e is. fresh_on j e is (cases_eq j i))), numbered_on s.world.doings (Does (StepsMaking i granted.0) ∷ []) 0 so.fresh.0 so.fresh.0 so.fresh.2 refl);
          row = knows_rests fixed n2 id x.slot (slot_is ∙ does.0);
        }

        its_idle : (t : ℕ) → IsSlot t → t ≢ place → IsIdle n2 (caller_at id t)
        its_idle = own_idle same hash scene n2 id place fits.slot fixed.batch_size None step_leaves fits.idle

        map_still : KnowsMap same hash n2 v.map
        map_still = map_on same hash scene n2 id place fits.slot fixed.batch_size None step_leaves v.map (all_last same hash scene n2 id place fits.slot fixed.batch_size None step_leaves none_ends v.map) fits.map

        own_still : KnowsMap same hash n2 v.own
        own_still = map_on same hash scene n2 id place fits.slot fixed.batch_size None step_leaves v.own (all_last same hash scene n2 id place fits.slot fixed.batch_size None step_leaves none_ends v.own) fits.own

        over : it ≡ None → HasRow n2 i v.slot
        over gone = subst (λ (x : SlotView (Node K V)). HasRow n2 i x) (sym does.0) (record {
          row = rows i ∙ does.2;
          slot = tt;
          calls = does.1.calls;
          makers = at_same scene.makers i it i refl ∙ gone;
          enders = none_is (scene.enders i) (λ f e. (let a = (all.alone i f e).1 in let b = does.1.here in cc (a, b)));
        })

        goes_by : (x : View K V S) (so_told : View K V S → Type 0) → stage ≡ n2 → x.slot ≡ v.slot → x.under ≡ v.under → x.calls ≡ v.calls → ((other : Machine K V K) → x.work ≡ Calls other → ⊥) → x.held ≡ []
            → ((y : View K V S) → view_of s id ≡ Some y → KnowsThen same hash fixed s h id y x) → Fits same hash n2 id x → so_told x → Goes (Holds same hash fixed) KeepsFor s m2 id so_told
        goes_by x so_told comes slot_is under_is calls_are no_call none knows own is =
            moved same hash fixed s h id v at_id (StepsMaking i granted.0) step_may n2 comes m2 x (come x slot_is under_is knows own)
            (record {
              own = ((λ a k. 0), tt);
              others = λ j ne theirs. refl;
              its = λ are. subst (λ (runs : List (BegunCall K V)). AreRuns same hash (calls_of id s.world.doings h.reached.1 []) runs) (sym calls_are) are;
              newest = λ other on. absurd (no_call other on);
              aside = λ j ne theirs. refl;
              seen = λ before b y shown. (let some = sym (ap (λ (l : List (ℕ × Node K V)). shown_in l b) none) ∙ shown in absurd (cc some));
            }) so_told is

      -- maps stand as before
      stand_on : (a : ℕ) (r : Standing K) → scene.maps a ≡ Some r → (r2 : Standing K) × (scene.maps a ≡ Some r2) × (r2.setting ≡ r.setting) × (r2.hash ≡ r.hash)
      stand_on a r is = (r, is, refl, refl)

      -- or one more does
      stand_more : (it : Standing K) (a : ℕ) (r : Standing K) → scene.maps a ≡ Some r → (a ≡ d.map) ⊎ (a ≢ d.map)
          → (r2 : Standing K) × (with_at scene.maps d.map (Some it) a ≡ Some r2) × (r2.setting ≡ r.setting) × (r2.hash ≡ r.hash)
      stand_more it a r is (inl e) = let none = all.makings.coming i d led.1 in let here = sym (ap scene.maps e) ∙ is in absurd (cc (none, here))
      stand_more it a r is (inr ne) = (r, at_other scene.maps d.map (Some it) a ne ∙ is, refl, refl)

      none_more : (it : Standing K) (a : ℕ) → so.fresh.0 ≤ a → with_at scene.maps d.map (Some it) a ≡ None
      none_more it a above =
          let less = so.fresh.1.1 i d led.1 in at_other scene.maps d.map (Some it) a (λ e. absurd (omega (arith, less, above, e))) ∙ so.fresh.1.0 a above

      -- a map more stands: it is the maker's own, or stands for good
      module _ (so_told : View K V S → Type 0) (setting : Setting) (it : Standing K)
          (came : stage ≡ record { world = w2; maps = with_at scene.maps d.map (Some it); calls = scene.calls; makers = with_at scene.makers i None; enders = scene.enders })
          (its_setting : it.setting ≡ setting) (hash_is : it.hash ≡ d.hash) where
        abbrev map : Map S
        map = record { number = m; setting = setting; hasher = hasher }

        abbrev maps2 : ℕ → Option (Standing K)
        maps2 = with_at scene.maps d.map (Some it)

        more : (a : ℕ) (r : Standing K) → scene.maps a ≡ Some r → (r2 : Standing K) × (maps2 a ≡ Some r2) × (r2.setting ≡ r.setting) × (r2.hash ≡ r.hash)
        more a r here = stand_more it a r here (cases_eq a d.map)

        known : KnowsMap same hash (n2 maps2 None more (none_more it) (λ e one. absurd (cc one))) (Some map)
        known = (it, ap maps2 (sym its_map) ∙ at_same scene.maps d.map (Some it) d.map refl, its_setting, hash_is ∙ its_hash)

        new : (a : Map S) → Some map ≡ Some a → scene.maps a.number ≡ None
        new a e = ap (λ (x : Map S). scene.maps x.number) (sym (same_some map a e)) ∙ ap scene.maps (sym its_map) ∙ all.makings.coming i d led.1

        abbrev good : View K V S
        good = record { slot = v.slot; under = v.under; map = Some map; by = None; own = v.own; work = Nothing; looks = made.looks; held = []; began = v.began; calls = v.calls }

        for_good : so_told good → Goes (Holds same hash fixed) KeepsFor s m2 id so_told
        for_good is =
            goes_by maps2 None more (none_more it) (λ e one. absurd (cc one)) good so_told came refl refl refl (λ other on. cc on) refl
            (λ y at. subst (λ (z : View K V S). KnowsThen same hash fixed s h id z good) (same_some v y (sym at_id ∙ at)) (record {
              by = λ n e. absurd (cc e);
              own = inl refl;
              map = λ a e. inr (new a e);
              mine = λ a e. inl e;
              apart = λ a b e g. inr g;
            }))
            (record {
              slot = fits.slot;
              aside = fits.aside;
              does = over maps2 None more (none_more it) (λ e one. absurd (cc one)) refl;
              map = known;
              own = own_still maps2 None more (none_more it) (λ e one. absurd (cc one));
              only = tt;
              held = tt;
              table = tt;
              pair = tt;
              idle = its_idle maps2 None more (none_more it) (λ e one. absurd (cc one));
            })
            is

        abbrev founded : View K V S
        founded = record { slot = v.slot; under = v.under; map = v.map; by = v.by; own = Some map; work = Nothing; looks = made.looks; held = []; began = v.began; calls = v.calls }

        done : (own : Bool) (before : Option (Map S)) → v.own ≡ before → so_told (with_made v own before map made.looks) → Goes (Holds same hash fixed) KeepsFor s m2 id so_told
        done false before e is = for_good is
        done true (Some other) e is = for_good is
        done true None e is =
            goes_by maps2 None more (none_more it) (λ e one. absurd (cc one)) founded so_told came refl refl refl (λ other on. cc on) refl
            (λ y at. subst (λ (z : View K V S). KnowsThen same hash fixed s h id z founded) (same_some v y (sym at_id ∙ at)) (record {
              by = λ n e. (e, refl);
              own = inr (nobody_by same hash fixed s h id v at_id e);
              map = λ a e. inl (e, refl);
              mine = λ a e. inr (new a e);
              apart = λ a b e g. inl e;
            }))
            (record {
              slot = fits.slot;
              aside = fits.aside;
              does = over maps2 None more (none_more it) (λ e one. absurd (cc one)) refl;
              map = map_still maps2 None more (none_more it) (λ e one. absurd (cc one));
              own = known;
              only = tt;
              held = tt;
              table = tt;
              pair = tt;
              idle = its_idle maps2 None more (none_more it) (λ e one. absurd (cc one));
            })
            is

      by : (so_told : View K V S → Type 0) (end : Advance Setting) → so_told (made_after v mine m hasher made.looks led.3 end) → MakingCame same hash fixed.batch_size fixed.roots slot_of scene i d w2 led.3 stage end
          → Goes (Holds same hash fixed) KeepsFor s m2 id so_told
      by so_told progress.Goes is came =
          let next = record d { machine = led.3 } in
          goes_by scene.maps (Some next) stand_on so.fresh.1.0 (λ e one. ap (λ (x : Beginning K). x.map) (sym (same_some next e one))) (made_after v mine m hasher made.looks led.3 progress.Goes) so_told came refl refl refl (λ other on. cc on) refl
          (knows_alike same hash fixed s h id v (made_after v mine m hasher made.looks led.3 progress.Goes) at_id refl refl refl)
          (record {
            slot = fits.slot;
            aside = fits.aside;
            does = (does.0, record { making = next; here = at_same scene.makers i (Some next) i refl; map = its_map; hashes = its_hash; is = refl; calls = does.1.calls }, rows i ∙ does.2);
            map = map_still scene.maps (Some next) stand_on so.fresh.1.0 (λ e one. ap (λ (x : Beginning K). x.map) (sym (same_some next e one)));
            own = own_still scene.maps (Some next) stand_on so.fresh.1.0 (λ e one. ap (λ (x : Beginning K). x.map) (sym (same_some next e one)));
            only = tt;
            held = tt;
            table = tt;
            pair = tt;
            idle = its_idle scene.maps (Some next) stand_on so.fresh.1.0 (λ e one. ap (λ (x : Beginning K). x.map) (sym (same_some next e one)));
          })
          is
      by so_told progress.Waits is came = absurd came
      by so_told (progress.Refused fault) is came =
          goes_by scene.maps None stand_on so.fresh.1.0 (λ e one. absurd (cc one)) (made_after v mine m hasher made.looks led.3 (progress.Refused fault)) so_told came refl refl refl (λ other on. cc on) refl
          (knows_alike same hash fixed s h id v (made_after v mine m hasher made.looks led.3 (progress.Refused fault)) at_id refl refl refl)
          (record {
            slot = fits.slot;
            aside = fits.aside;
            does = over scene.maps None stand_on so.fresh.1.0 (λ e one. absurd (cc one)) refl;
            map = map_still scene.maps None stand_on so.fresh.1.0 (λ e one. absurd (cc one));
            own = own_still scene.maps None stand_on so.fresh.1.0 (λ e one. absurd (cc one));
            only = tt;
            held = tt;
            table = tt;
            pair = tt;
            idle = its_idle scene.maps None stand_on so.fresh.1.0 (λ e one. absurd (cc one));
          })
          is
      by so_told (progress.Done setting) is (it, is_made, came) = done so_told setting it came is_made.setting_is is_made.hash_is mine v.own refl is

      looks_same : (end : Advance Setting) → (made_after v mine m hasher made.looks led.3 end).looks ≡ made.looks
      looks_same (progress.Done setting) = made_looks mine v.own
        where
          made_looks : (own : Bool) (before : Option (Map S)) → (with_made v own before record { number = m; setting = setting; hasher = hasher } made.looks).looks ≡ made.looks
          made_looks true None = refl
          made_looks true (Some other) = refl
          made_looks false before = refl
      looks_same _ = refl

      goes : (op : Op (Node K V)) → Goes (Holds same hash fixed) KeepsFor s m2 id (told same hash v op out)
      goes op =
          by (told same hash v op out) led.4
          (subst (λ (k : SeatWork K V S). observed_by same hash v v.map k op out (made_after v mine m hasher made.looks led.3 led.4)) (sym works) (
            (led.3, led.4),
            subst (λ (l : List (ℕ × Node K V)). FollowsBy (shown_in l) (new_map_plan {K = K} {V = V} machine) out (led.3, led.4)) (sym (looks_same led.4))
                (subst (λ (e : NewMap × Advance Setting). FollowsBy (shown_in made.looks) (new_map_plan {K = K} {V = V} machine) out e) end_is made.follows),
            ap (λ (l : List (ℕ × Node K V)). made_after v mine m hasher l led.3 led.4) (sym (looks_same led.4)),
          )) led.8

module _ {K S : Type 0} (V : Type 0) (same : K → K → Bool) (hash : S → K → ℕ) where
  pub makings_begin : MakingsBegin V same hash
  makings_begin fixed id v mine hasher given places rests free sized masked rooted initial fit s h at_id =
      begins same hash fixed s h id v at_id mine hasher given places rests free sized masked rooted initial fit

  pub makings_go_on : MakingsContinue V same hash
  makings_go_on fixed id m v mine hasher machine op works makes s h at_id =
      let step = may_op (scene same hash fixed s h id v at_id).world.memory (new_map_plan machine) op makes (may_step same hash fixed s h id v at_id mine m hasher machine works) in
      let is = (so same hash fixed s h id v at_id).memory in (
        subst (λ (x : Mem (Node K V)). Can x op) (sym is) step.0,
        λ out m2 took. goes same hash fixed s h id v at_id mine m hasher machine works m2 out (step.1 out m2 (subst (λ (x : Mem (Node K V)). Took x op out m2) is took)) op,
      )
