-- A call begins, is told something, or is asked for its next pair; and a map is handed on.
use Rattle.std.specs.Prelude.{◌++◌, List, [], ◌∷◌, Option, Some, None, if◌then◌else◌}
use Rattle.std.specs.Option.{is_none}
use Rattle.std.proofs.Common.{◌≡◌, ℕ, Bool, true, inl, refl, sym, subst, ap, ◌∙◌}
use Rattle.map_tables.specs.declared.node.Node.{Node}
use Rattle.map_tables.specs.declared.setting.Setting.{Setting}
use Rattle.papaya_raw.specs.Machine.{machine_asked, machine_replied}
use Rattle.papaya_raw.specs.declared.machines.asking.MachineReply.{MachineReply}
use Rattle.papaya_raw.specs.declared.machines.machine.Machine.{Machine}
use Rattle.many_acts.specs.Given.CallersRows.{IsRowOn}
use Rattle.many_acts.specs.Given.CallersTogether.{UnderWay, OnKey, ForRoom, Counting, OverAll}
use Rattle.seize.specs.World.{Row, Rests, Use, Vacant, Outside, Inside, Changing, IsInside}
use Rattle.seize_views.specs.Views.Rows.{row_of}
use Rattle.many_acts.specs.Given.FinishesMachines.{machine_of}
use Rattle.many_acts.specs.Given.FinishesMaps.{Standing, new_map, with_call}
use Rattle.many_acts.specs.Given.ScenesScene.{Scene, slot_of}
use Rattle.many_acts.specs.Acts.Acts.{Act, Wanted, Get, Count, UnlessToCount, AsksCall, BeginsCall, TellsCall, begun}
use Rattle.many_acts.specs.Acts.Doings.{Does, MayDo}
use Rattle.many_acts.specs.Acts.Leads.{AreFewWith, Led, asked_on}
use Rattle.seize_acts.specs.Acts.Acts.{rests, is_within}
use Rattle.seize_seats.specs.Seats.State.{State, view_of, Goes}
use Rattle.seize_views.specs.declared.view.Fixed.{Fixed}
use Rattle.seize_views.specs.declared.view.SlotView.{SlotView}
use Rattle.threads_rule.specs.Views.Begun.{machine_for, asked, calling, replied}
use Rattle.threads_rule.specs.Views.Told.{begun_with, pair_in, untold}
use Rattle.threads_rule.specs.Views.Promises.{CallsBegin, CallsAreAsked, CallsAreReplied}
use Rattle.threads_rule.specs.Views.Listed.{Called, calls_of, plain, AreNumbered, IsNewest}
use Rattle.threads_rule.specs.Views.Rule.{MapsWorld, HasRow, DoesSo, KnowsMap, KnowsPair, LooksAside, IsRun, AreRuns, Fits, Holds, KeepsFor, caller_at, pair_of, IsAside, acts_in, section_of}
use Rattle.threads_rule.specs.declared.view.Map.{Map}
use Rattle.threads_rule.specs.declared.view.BegunCall.{BegunCall}
use Rattle.threads_rule.specs.declared.view.View.{View}
use Rattle.threads_rule.specs.declared.view.SeatWork.{SeatWork}
use Rattle.threads_rule.specs.declared.view.SeatWork.TheVariants.{Nothing, Calls}
use Rattle.threads_rule.proofs.Views.Knows.{knows_within}
use Rattle.threads_rule.proofs.Views.Leaves.{Leaves, leaves_all, none_ends, own_section, section_place, section_inside, own_idle, map_on, all_last, call_here}
use Rattle.threads_rule.proofs.Views.Listed.{is_its, is_other, numbered_on}
use Rattle.threads_rule.proofs.Views.Moved.{scene_of, all_stand, are_so, Moved, Adds, knows_alike, same_slot, moved}
use Rattle.threads_rule.proofs.Views.Numbers.{slot_at}
use Rattle.threads_rule.proofs.Views.Writers.{asked_writes, few_writers, looks_aside_on, replied_writes}
use Rattle.many_acts.proofs.Given.CallersTogether.Few.{few_with_any}
use Rattle.threads_rule.proofs.Views.Pairs.{begun_pair, told_pair}
use Rattle.threads_rule.proofs.Views.UnderWay.{called_at, does as way_does, section_is as way_section, on_row as way_on}
use Rattle.seize_words.proofs.General.{same_some}

-- what is under way once it was asked: the machine that was, with the pair that it began with
asks_on : {K V : Type 0} (u : UnderWay K V K) → machine_of (asked_on u) ≡ (machine_asked (machine_of u)).0
asks_on (OnKey u) = refl
asks_on (ForRoom r) = refl
asks_on (Counting sum) = refl
asks_on (OverAll o) = refl

pair_asked : {K V : Type 0} (u : UnderWay K V K) → pair_of (asked_on u) ≡ pair_of u
pair_asked (OnKey u) = refl
pair_asked (ForRoom r) = refl
pair_asked (Counting sum) = refl
pair_asked (OverAll o) = refl

-- but for a counting
unless : {K V : Type 0} (wanted : Wanted K V) (A : Type 0) → A → UnlessToCount wanted A
unless Count A a = tt
unless _ A a = a

-- what is begun for it is begun for itself
pub plain_already : {K V : Type 0} (wanted : Wanted K V) → plain (plain wanted) ≡ plain wanted
plain_already (Get key) = refl
plain_already _ = refl

-- and has its machine
pub begins_plainly : {K V S : Type 0} (same : K → K → Bool) (hash : S → K → ℕ) (map : Map S) (t : ℕ) (wanted : Wanted K V)
    → machine_for same hash map t (plain wanted) ≡ machine_for same hash map t wanted
begins_plainly same hash map t (Get key) = refl
begins_plainly same hash map t _ = refl

-- who is within a section is
is_within_so : (u : Use) → IsInside u → is_within u ≡ true
is_within_so Vacant is = absurd is
is_within_so (Outside n) is = absurd is
is_within_so (Inside n) is = refl
is_within_so Changing is = absurd is

module _ {K V : Type 0} (same : K → K → Bool) where
  -- the machine that begins is told by setting, hash and slot
  begins_as : (slot : ℕ → ℕ) (s : Standing K) (i : ℕ) (wanted : Wanted K V)
      → machine_of (begun same slot s i wanted) ≡ machine_of (begun same (λ a. a) (new_map s.setting s.hash) (slot i) wanted)
  begins_as slot s i (Get key) = refl
  begins_as slot s i _ = refl

module _ {K V S : Type 0} (same : K → K → Bool) (hash : S → K → ℕ) (fixed : Fixed) (s : State (Node K V) (View K V S) (MapsWorld K V S)) (h : Holds same hash fixed s)
    (id : ℕ) (v : View K V S) (at_id : view_of s id ≡ Some v) (map : Map S) (knows : v.map ≡ Some map) where
  abbrev scene : Scene K V
  scene = scene_of same hash fixed s h

  fits : Fits same hash scene id v
  fits = (are_so same hash fixed s h).seats id v at_id

  abbrev place : ℕ
  place = acts_in v.under v.slot

  abbrev i : ℕ
  i = caller_at id place

  it : KnowsMap same hash scene (Some map)
  it = subst (λ (x : Option (Map S)). KnowsMap same hash scene x) knows fits.map

  within : (t : ℕ) → section_of v.under v.slot ≡ Some t → IsInside (scene.world.uses t)
  within t section = section_inside same hash scene (view_of s) (are_so same hash fixed s h).seats (are_so same hash fixed s h).leant id v at_id t section

  -- where the seat has this call under way from now on, and nothing else has changed
  module _ (t : ℕ) (section : section_of v.under v.slot ≡ Some t) (u : UnderWay K V K) (machine : Machine K V K) (is : machine_of u ≡ machine)
      (on_row : IsRowOn t (scene.world.row i)) where
    abbrev n : Scene K V
    n = record scene { calls = with_call scene.calls map.number i (Some u) }

    its_does : DoesSo same hash n i v.under v.slot (Some map) (Calls machine)
    its_does = (t, section, within t section, record { call = u; here = call_here scene.calls map.number i (Some u); is = is }, on_row)

    abbrev w : List (BegunCall K V) → View K V S
    w runs = record { slot = v.slot; under = v.under; map = v.map; by = v.by; own = v.own; work = Calls machine; looks = []; held = []; began = v.began; calls = runs }

    leaves : Leaves same hash fixed.batch_size scene n i None
    leaves = leaves_all same hash fixed.batch_size scene map.number i (Some u)

    stand : leaves.ends ≡ None
    unfolding leaves
    stand = none_ends same hash fixed.batch_size scene map.number i (Some u)

    go : LooksAside v.under (Some map) (Calls machine) → (act : Act K V S) (runs : List (BegunCall K V)) → AreNumbered 0 (s.world.doings ++ Does act ∷ []) (are_so same hash fixed s h).fresh.0 → pair_of u ≡ pair_in runs
        → Moved same hash fixed s h id act s.memory (w runs) n
    go only act runs numbered pair = record {
      memory = (are_so same hash fixed s h).memory;
      own = record {
        slot = fits.slot;
        does = subst (λ (x : Option (Map S)). DoesSo same hash n i v.under v.slot x (Calls machine)) (sym knows) its_does;
        aside = fits.aside;
        map = map_on same hash scene n id place fits.slot fixed.batch_size None leaves v.map (all_last same hash scene n id place fits.slot fixed.batch_size None leaves stand v.map) fits.map;
        own = map_on same hash scene n id place fits.slot fixed.batch_size None leaves v.own (all_last same hash scene n id place fits.slot fixed.batch_size None leaves stand v.own) fits.own;
        only = subst (λ (x : Option (Map S)). LooksAside v.under x (Calls machine)) (sym knows) only;
        held = tt;
        table = tt;
        pair =
            subst (λ (x : Option (Map S)). KnowsPair same hash n i x (Calls machine) runs) (sym knows)
            (λ x here. ap pair_of (same_some x u (sym here ∙ call_here scene.calls map.number i (Some u))) ∙ pair);
        idle = own_idle same hash scene n id place fits.slot fixed.batch_size None leaves fits.idle;
      };
      place = place;
      its_slot = fits.slot;
      mine = None;
      leaves = leaves;
      theirs = λ j t a b x ne at uses e. cc e;
      alone = same_slot same hash fixed s h id v (w runs) at_id refl;
      under = λ x at. ap (λ (y : View K V S). y.under) (same_some v x (sym at_id ∙ at));
      knows = knows_alike same hash fixed s h id v (w runs) at_id refl refl refl;
      gone = λ m e. absurd (cc (stand, e));
      leant = inl (refl, λ x at. ap (λ (y : View K V S). y.slot) (same_some v x (sym at_id ∙ at)));
      fresh = ((are_so same hash fixed s h).fresh.0, (are_so same hash fixed s h).fresh.1, numbered);
      row = knows_within fixed n id t v.under v.slot fits.aside section;
    }

  -- it has nothing under way, and begins to do this
  module _ (t : ℕ) (section : section_of v.under v.slot ≡ Some t) (free : v.work ≡ Nothing) (wanted : Wanted K V) (plainly : plain wanted ≡ wanted)
      (only : LooksAside v.under (Some map) (Calls (machine_for same hash map t wanted))) where
    does : HasRow scene i v.slot
    does = subst (λ (x : SeatWork K V S). DoesSo same hash scene i v.under v.slot v.map x) free fits.does

    place_is : place ≡ t
    place_is = section_place v.under v.slot t section

    no_row : scene.world.row i ≡ Rests
    no_row = does.row ∙ by v.under fits.aside section
      where
        by : (under : Option (ℕ × ℕ)) → IsAside under v.slot → section_of under v.slot ≡ Some t → row_of v.slot ≡ Rests
        by None aside is = ap (λ (x : SlotView (Node K V)). row_of x) (own_section v.slot t is)
        by (Some leant) aside is = ap (λ (x : SlotView (Node K V)). row_of x) aside

    its_slot : slot_of i ≡ t
    its_slot = slot_at id place fits.slot ∙ place_is

    few : AreFewWith same hash fixed.batch_size fixed.roots slot_of scene i map.number wanted
    few standing stands blocking =
        few_with_any (scene.calls map.number) i (begun same slot_of standing i wanted)
        (few_writers same hash s scene (are_so same hash fixed s h) (all_stand same hash fixed s h).makings.standing.once map.number standing stands blocking i)

    may : MayDo V same hash fixed.batch_size fixed.roots slot_of (Does (BeginsCall i map.number wanted)) h.reached.0
    may = (
      ap is_none h.nobody,
      (
        record { no_call = λ m. ap is_none (does.calls m); no_making = ap is_none does.makers; no_ending = ap is_none does.enders },
        ap rests no_row,
        unless wanted (is_within (scene.world.uses (slot_of i)) ≡ true) (ap (λ (a : ℕ). is_within (scene.world.uses a)) its_slot ∙ is_within_so (scene.world.uses t) (within t section)),
        ap is_none it.1,
        few,
      ),
    )

    led : Led same hash fixed.batch_size fixed.roots slot_of (BeginsCall i map.number wanted) scene (h.course.told h.reached.0 (Does (BeginsCall i map.number wanted)) may)
        (h.course.next h.reached.0 (Does (BeginsCall i map.number wanted)) may).0
    led = (h.course.leads h.reached.0 (Does (BeginsCall i map.number wanted)) may).0

    on_row : IsRowOn t (scene.world.row i)
    on_row = subst (λ (x : Row). IsRowOn t x) (sym no_row) tt

    machine_is : machine_of (begun same slot_of led.0 i wanted) ≡ machine_for same hash map t wanted
    machine_is =
        let same_it = same_some it.0 led.0 (sym it.1 ∙ led.1) in
        begins_as same slot_of led.0 i wanted
        ∙ ap (λ (a : ℕ). machine_of (begun same (λ b. b) (new_map led.0.setting led.0.hash) a wanted)) its_slot
        ∙ ap (λ (x : Setting). machine_of (begun same (λ b. b) (new_map x led.0.hash) t wanted)) (ap (λ (x : Standing K). x.setting) (sym same_it) ∙ it.2)
        ∙ ap (λ (f : K → ℕ). machine_of (begun same (λ b. b) (new_map map.setting f) t wanted)) (ap (λ (x : Standing K). x.hash) (sym same_it) ∙ it.3)

    abbrev machine : Machine K V K
    machine = machine_for same hash map t wanted

    abbrev to : Scene K V
    to = n t section (begun same slot_of led.0 i wanted) machine machine_is on_row

    -- the call in the list, and as its seat knows it
    abbrev call : Called K V
    call = record { caller = i; map = map.number; wanted = wanted; told = untold }

    abbrev run : BegunCall K V
    run = record { map = map.number; began = machine; told = untold }

    is_run : IsRun same hash call run
    is_run = record { map = map; number = refl; its = refl; plainly = plainly; began = ap (λ (a : ℕ). machine_for same hash map a wanted) (sym its_slot); told = refl }

    abbrev before : List (Called K V)
    before = calls_of id s.world.doings h.reached.1 []

    adds : Adds same hash fixed s h id (BeginsCall i map.number wanted) (h.course.told h.reached.0 (Does (BeginsCall i map.number wanted)) may) v (calling v map machine) to before
    adds = record {
      own = ((λ m k. 0), tt);
      others = λ j ne theirs. ap (λ (q : Bool). if q then call ∷ theirs else theirs) (is_other j id place fits.slot ne);
      its = λ are. subst (λ (q : Bool). AreRuns same hash (if q then call ∷ before else before) (run ∷ v.calls)) (sym (is_its id place fits.slot)) (is_run, are);
      newest = λ other works. subst (λ (q : Bool). IsNewest i (if q then call ∷ before else before)) (sym (is_its id place fits.slot)) refl;
      aside = λ j ne theirs. refl;
      seen = λ before b x none. absurd (cc none);
    }

    begins : Goes (Holds same hash fixed) KeepsFor s s.memory id (λ x. x ≡ calling v map machine)
    begins =
        let fresh = (are_so same hash fixed s h).fresh in
        moved same hash fixed s h id v at_id (BeginsCall i map.number wanted) may to led.3 s.memory (calling v map machine)
        (go t section (begun same slot_of led.0 i wanted) machine machine_is on_row only (BeginsCall i map.number wanted) (run ∷ v.calls)
        (numbered_on s.world.doings (Does (BeginsCall i map.number wanted) ∷ []) 0 fresh.0 fresh.0 fresh.2 refl) (begun_pair same slot_of led.0 i wanted ∙ ap begun_with machine_is))
        adds (λ x. x ≡ calling v map machine) refl

  -- what it has under way it has so, if it leans on another seat
  only_so : (machine : Machine K V K) → v.work ≡ Calls machine → LooksAside v.under (Some map) (Calls machine)
  only_so machine works =
      subst (λ (x : SeatWork K V S). LooksAside v.under (Some map) x) works
      (subst (λ (x : Option (Map S)). LooksAside v.under x v.work) knows fits.only)

  -- its call is told this
  module _ (machine : Machine K V K) (works : v.work ≡ Calls machine) (reply : MachineReply V) where
    told_may : MayDo V same hash fixed.batch_size fixed.roots slot_of (Does (TellsCall i map.number reply)) h.reached.0
    told_may = (ap is_none h.nobody, ap is_none (called_at same hash fixed s h id v at_id map machine knows works))

    told_led : Led same hash fixed.batch_size fixed.roots slot_of (TellsCall i map.number reply) scene (h.course.told h.reached.0 (Does (TellsCall i map.number reply)) told_may)
        (h.course.next h.reached.0 (Does (TellsCall i map.number reply)) told_may).0
    told_led = (h.course.leads h.reached.0 (Does (TellsCall i map.number reply)) told_may).0

    reply_is : machine_of told_led.3 ≡ (machine_replied machine reply).0
    reply_is =
        let call = (way_does same hash fixed s h id v at_id map machine knows works).3 in
        told_led.5
        ∙ ap (λ (x : UnderWay K V K). (machine_replied (machine_of x) reply).0) (same_some told_led.2 call.call (sym told_led.4 ∙ call.here))
        ∙ ap (λ (x : Machine K V K). (machine_replied x reply).0) call.is

    its_pair : pair_of told_led.3 ≡ pair_in v.calls
    its_pair =
        let knows_pair =
        subst (λ (x : SeatWork K V S). KnowsPair same hash scene i (Some map) x v.calls) works
        (subst (λ (x : Option (Map S)). KnowsPair same hash scene i x v.work v.calls) knows fits.pair) in
        told_pair same fixed.batch_size fixed.roots slot_of told_led.0 i told_led.2 reply told_led.3 told_led.7.0 ∙ knows_pair told_led.2 told_led.4

    tells : Goes (Holds same hash fixed) KeepsFor s s.memory id (λ x. x ≡ replied v machine reply)
    tells =
        let is = way_section same hash fixed s h id v at_id map machine knows works in
        let on = way_on same hash fixed s h id v at_id map machine knows works in
        let fresh = (are_so same hash fixed s h).fresh in
        moved same hash fixed s h id v at_id (TellsCall i map.number reply) told_may (n place is told_led.3 (machine_replied machine reply).0 reply_is on) told_led.8 s.memory
        (replied v machine reply)
        (go place is told_led.3 (machine_replied machine reply).0 reply_is on
        (looks_aside_on v.under (Some map) machine (machine_replied machine reply).0 (replied_writes machine reply) (only_so machine works)) (TellsCall i map.number reply) v.calls
        (numbered_on s.world.doings (Does (TellsCall i map.number reply) ∷ []) 0 fresh.0 fresh.0 fresh.2 refl) its_pair)
        (record { own = ((λ m k. 0), tt); others = λ j ne theirs. refl; its = λ are. are; newest = λ other on. h.newest id v machine at_id works; aside = λ j ne theirs. refl; seen = λ before b x none. absurd (cc none) }) (λ x. x ≡ replied v machine reply) refl

  -- its call is asked for its next pair
  module _ (machine : Machine K V K) (works : v.work ≡ Calls machine) where
    asked_may : MayDo V same hash fixed.batch_size fixed.roots slot_of (Does (AsksCall i map.number)) h.reached.0
    asked_may = (ap is_none h.nobody, ap is_none (called_at same hash fixed s h id v at_id map machine knows works))

    asked_led : Led same hash fixed.batch_size fixed.roots slot_of (AsksCall i map.number) scene (h.course.told h.reached.0 (Does (AsksCall i map.number)) asked_may)
        (h.course.next h.reached.0 (Does (AsksCall i map.number)) asked_may).0
    asked_led = (h.course.leads h.reached.0 (Does (AsksCall i map.number)) asked_may).0

    asked_is : machine_of (asked_on asked_led.0) ≡ (machine_asked machine).0
    asked_is =
        let call = (way_does same hash fixed s h id v at_id map machine knows works).3 in
        asks_on asked_led.0 ∙ ap (λ (x : UnderWay K V K). (machine_asked (machine_of x)).0) (same_some asked_led.0 call.call (sym asked_led.1 ∙ call.here))
        ∙ ap (λ (x : Machine K V K). (machine_asked x).0) call.is

    asked_pair : pair_of (asked_on asked_led.0) ≡ pair_in v.calls
    asked_pair =
        let knows_pair =
        subst (λ (x : SeatWork K V S). KnowsPair same hash scene i (Some map) x v.calls) works
        (subst (λ (x : Option (Map S)). KnowsPair same hash scene i x v.work v.calls) knows fits.pair) in
        pair_asked asked_led.0 ∙ knows_pair asked_led.0 asked_led.1

    asks : Goes (Holds same hash fixed) KeepsFor s s.memory id (λ x. x ≡ asked v machine)
    asks =
        let is = way_section same hash fixed s h id v at_id map machine knows works in
        let on = way_on same hash fixed s h id v at_id map machine knows works in
        let fresh = (are_so same hash fixed s h).fresh in
        moved same hash fixed s h id v at_id (AsksCall i map.number) asked_may (n place is (asked_on asked_led.0) (machine_asked machine).0 asked_is on) asked_led.3 s.memory (asked v machine)
        (go place is (asked_on asked_led.0) (machine_asked machine).0 asked_is on
        (looks_aside_on v.under (Some map) machine (machine_asked machine).0 (asked_writes machine) (only_so machine works)) (AsksCall i map.number) v.calls
        (numbered_on s.world.doings (Does (AsksCall i map.number) ∷ []) 0 fresh.0 fresh.0 fresh.2 refl) asked_pair)
        (record { own = ((λ m k. 0), tt); others = λ j ne theirs. refl; its = λ are. are; newest = λ other on. h.newest id v machine at_id works; aside = λ j ne theirs. refl; seen = λ before b x none. absurd (cc none) }) (λ x. x ≡ asked v machine) refl

module _ {K S : Type 0} (V : Type 0) (same : K → K → Bool) (hash : S → K → ℕ) where
  pub calls_begin : CallsBegin V same hash
  calls_begin fixed id t v map wanted section knows free only s h at_id =
      subst (λ (machine : Machine K V K). Goes (Holds same hash fixed) KeepsFor s s.memory id (λ x. x ≡ calling v map machine)) (begins_plainly same hash map t wanted)
      (begins same hash fixed s h id v at_id map knows t section free (plain wanted) (plain_already wanted)
      (subst (λ (machine : Machine K V K). LooksAside v.under (Some map) (Calls machine)) (sym (begins_plainly same hash map t wanted)) only))

  pub calls_are_told : CallsAreReplied V same hash
  calls_are_told fixed id v map machine reply knows works s h at_id = tells same hash fixed s h id v at_id map knows machine works reply

  pub calls_are_asked : CallsAreAsked V same hash
  calls_are_asked fixed id v map machine knows works s h at_id = asks same hash fixed s h id v at_id map knows machine works
