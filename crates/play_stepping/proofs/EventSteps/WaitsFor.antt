-- A call on one key that waits, waits for a call that the moment tells, for which it may wait, in incremental mode for the copying of its key's pair alone; and its step has changed nothing.
use Rattle.std.specs.Prelude.{Option, Some}
use Rattle.std.specs.List.{list_any}
use Rattle.std.proofs.Common.{◌≡◌, ℕ, suc, ◌<◌, ◌⊎◌, inl, inr, Bool, true, false, refl, ap, sym, subst, ◌∙◌}
use Rattle.owner_whole.specs.Given.WaitsOthers.{copier_in}
use Rattle.seize_words.specs.OneMemory.Mem.{Mem, Took, value_at}
use Rattle.seize_words.specs.OneMemory.Plan.{Steps}
use Rattle.seize.specs.World.{World, Row}
use Rattle.owner_whole.specs.Given.SeizeEndsHolders.{has_batch}
use Rattle.papaya_raw.specs.Given.TablesChunks.{is_incremental}
use Rattle.papaya_raw.specs.Given.TablesDeclared.node.Node.{Node}
use Rattle.papaya_raw.specs.Given.TablesDeclared.setting.Setting.{Setting}
use Rattle.owner_whole.specs.Given.ResizeDeclared.copier.Copier.{Copier}
use Rattle.owner_whole.specs.Given.ResizeDeclared.copier.Copying.{Copying}
use Rattle.owner_whole.specs.Given.ResizeDeclared.copier.Copying.TheVariants as copies
use Rattle.papaya_raw.specs.Call.{call_plan}
use Rattle.papaya_raw.specs.Call as calls
use Rattle.papaya_raw.specs.declared.machines.answer.Called.TheVariants as says
use Rattle.papaya_raw.specs.declared.machines.call.Calling.{Calling}
use Rattle.papaya_raw.specs.declared.machines.call.Calling.TheVariants as at
use Rattle.papaya_raw.specs.declared.machines.call.KeyCall.{KeyCall}
use Rattle.play_scheduler.specs.Given.RuleChart.{Claimed}
use Rattle.play_scheduler.specs.Given.RuleWords.{Blocks}
use Rattle.owner_whole.specs.Given.PointsFactsCalls.{CallFacts, CallingFacts, IsCopying, Unchanged}
use Rattle.owner_whole.specs.Given.PointsSteps.{AreLawful}
use Rattle.owner_whole.specs.Given.PointsTold.{IsRowOfCall}
use Rattle.owner_whole.specs.Given.LateLateCalls.{SupersededCallFacts, SupersededCalling}
use Rattle.owner_whole.specs.Given.CallersRows.{IsRowOn, row_of}
use Rattle.owner_whole.specs.Given.CallersSights.{seen_by}
use Rattle.owner_whole.specs.Given.CallersTogether.{CallOnKey, UnderWay, OnKey, Together, in_slot}
use Rattle.owner_whole.proofs.Whole.Rows.Kinds.{row_decided}
use Rattle.owner_whole.specs.Given.WaitsWaits.{AnotherHolds, CallAwaits, CopierAwaits, IsBeingCopied}
use Rattle.owner_whole.proofs.Given.WaitsClaimed.{pairs_are_copied_by_calls}
use Rattle.owner_whole.proofs.Lowers.ItsPair.{waits_for_its_pair}
use Rattle.owner_whole.proofs.Given.WaitsLaws.{calls_wait_for_a_copying, call_rows_wait_for_a_holder}
use Rattle.owner_whole.proofs.Given.WaitsPromised.{map_of}
use Rattle.owner_whole.proofs.Given.WaitsWorks.{not_idle, works}
use Rattle.run_schedules.specs.declared.call.OneKey.{OneKey}
use Rattle.run_schedules.specs.Schedules.Moment.{UnderWay as CallThere, Moment}
use Rattle.run_schedules.specs.Schedules.Sequential.{key_of}
use Rattle.run_schedules.specs.Schedules.Terms.{Terms}
use Rattle.run_schedules.specs.Schedules.Views.{call_of, finite_map, grows_in_chunks, map_at}
use Rattle.run_schedules.specs.Schedules.Waiting.{is_to_be_copied, may_wait_for, waits_on_map}
use Rattle.run_executor.specs.Given.EffectsDeclared.changed.Changed.{Changed}
use Rattle.run_executor.specs.Given.EffectsDeclared.changed.Changed.TheVariants as changed
use Rattle.owner_whole.specs.Given.FinishesMaps.{Standing}
use Rattle.play_scheduler.specs.Given.FollowsCalls.{IsCalled}
use Rattle.play_scheduler.proofs.Given.OwesTables.Hosts.{Step}
use Rattle.play_scheduler.specs.Played.{RefinesFor}
use Rattle.play_scheduler.specs.declared.scheduler.Scheduler.{Scheduler}
use Rattle.play_stepping.proofs.EventSteps.CopiesWait.{only_looks_by}
use Rattle.play_stepping.proofs.EventSteps.BeingCopied.{may_be_copied}
use Rattle.run_sweeps.proofs.Quiet.QuietWaits.{asked_quiet, row_quiet, try_quiet}
use Rattle.play_stepping.proofs.EventSteps.Waiting.{at_once_for_resizes, for_pair, grows_as, waits_for_holder, waits_for_worker}
use Rattle.play_stepping.proofs.EventSteps.RoomsWait.{at_once_on, copier_on, copier_waits, dispose_on, late_on, on_slot}
use Rattle.run_executor.proofs.Given.ScenesTold.{as_step}
use Rattle.play_scheduler.specs.Given.ScenesScene.{slot_of}

module _ {K V S : Type 0} (same : K → K → Bool) (hash : K → ℕ) (terms : Terms) (m : Moment K V) (p : Scheduler K V S) (stands : RefinesFor same hash terms m p) (of i : ℕ) (u : CallOnKey K V K)
    (under : stands.scene.calls of i ≡ Some (OnKey u)) (st : Standing K) (is : stands.scene.maps of ≡ Some st) where
  abbrev w : World (Node K V)
  w = stands.scene.world

  abbrev seen : Blocks
  seen = seen_by st.blocks (st.sights (slot_of i))

  abbrev its_setting : Setting
  its_setting = in_slot st.setting (slot_of i)

  abbrev calls_on : ℕ → Option (UnderWay K V K)
  calls_on = stands.scene.calls of

  hash_is : st.hash ≡ hash
  hash_is = stands.shown.is_at.held.hashes of st is

  together : Together V same hash same st.setting slot_of w st.chart st.blocks st.sights calls_on
  together = subst (λ (h : K → ℕ). Together V same h same st.setting slot_of w st.chart st.blocks st.sights calls_on) hash_is (stands.shown.is_at.held.together.makings.standing.each of st is)

  lawful : AreLawful same hash
  lawful = subst (λ (h : K → ℕ). AreLawful same h) hash_is (stands.shown.is_at.held.together.makings.standing.fit of st is).0

  abbrev its : (c : CallThere K V) × (call_of (stands.name i) m ≡ Some c) × (c.map ≡ of) × IsCalled same (OnKey u) c.call
  its = stands.shown.shows.all.shown.calls of i (OnKey u) under

  grows : grows_in_chunks (map_at its.0.map m) ≡ is_incremental st.setting.mode
  grows = ap (λ (n : ℕ). grows_in_chunks (map_at n m)) its.2 ∙ grows_as same hash terms m p stands of st is

  abbrev Waits : Type 0
  Waits = list_any (may_wait_for same its.0 m) m.calls ≡ true

  module _ (mode : is_incremental st.setting.mode ≡ true) where
    -- in incremental mode it goes on in the tables from the root on
    fresh_of : CallFacts same hash same w i its_setting st.chart seen u.keys u.change u.call
        ⊎ ((u.change ≡ Unchanged) × SupersededCallFacts same hash same w i its_setting st.chart seen u.keys u.began u.call) → CallFacts same hash same w i its_setting st.chart seen u.keys u.change u.call
    fresh_of (inl fresh) = fresh
    fresh_of (inr (same_change, late)) = absurd (let blocking = late.blocking in cc (mode, blocking))

    -- so it does at its try,
    knows : u.call.stands ≡ at.Probes → CallFacts same hash same w i its_setting st.chart seen u.keys u.change u.call
    knows here = elim (together.stand i (OnKey u) under) as (λ _. CallFacts same hash same w i its_setting st.chart seen u.keys u.change u.call) [
      | inl rests ↦ fresh_of rests.1.facts
      | inr within ↦ absurd (subst (λ (q : Calling). IsRowOfCall q) here within.1)
    ]

    -- where it has claimed no place
    none_claimed : u.call.stands ≡ at.Probes → (j : ℕ) → st.chart.share (suc st.chart.first) j ≡ Claimed i → ⊥
    none_claimed here j claimed =
        not_idle same hash same st.setting slot_of w st.chart st.blocks st.sights calls_on together mode i j seen
        ((knows here).idle (λ copying. subst (λ (q : Calling). IsCopying q) here copying)) (inl claimed)

  -- the row that it stands at, which it has under way or is about to begin, works on its slot
  begins_on : (q : Calling) → CallingFacts same hash same w i its_setting st.chart seen u.keys u.change u.call q → IsRowOn (slot_of i) (row_of (slot_of i) q)
  begins_on (at.Disposes dispose answer) f = dispose_on same hash terms m p stands of st is i (OnKey u) under dispose f.0
  begins_on (at.Helps copier goal) f = copier_on same hash terms m p stands of st is i (OnKey u) under copier f.6
  begins_on (at.Copies copier) f = at_once_on same hash terms m p stands of st is i (OnKey u) under copier f.2
  begins_on _ f = tt

  begins_late : (q : Calling) → SupersededCalling same hash same w i its_setting st.chart seen u.keys u.began u.call q → IsRowOn (slot_of i) (row_of (slot_of i) q)
  begins_late (at.Disposes dispose answer) f = absurd f
  begins_late (at.Helps copier goal) f = absurd f
  begins_late (at.Copies copier) f = late_on same hash terms m p stands of st is i (OnKey u) under u.began copier f.1
  begins_late _ f = tt

  its_row_on : IsRowOn (slot_of i) (row_of (slot_of i) u.call.stands)
  its_row_on = elim (together.stand i (OnKey u) under) as (λ _. IsRowOn (slot_of i) (row_of (slot_of i) u.call.stands)) [
    | inl rests ↦ elim rests.1.facts as (λ _. IsRowOn (slot_of i) (row_of (slot_of i) u.call.stands)) [
      | inl fresh ↦ begins_on u.call.stands fresh.point
      | inr late ↦ begins_late u.call.stands late.1.point
    ]
    | inr within ↦ subst (λ (row : Row). IsRowOn (slot_of i) row) within.0 (stands.shown.is_at.held.on_slots i)
  ]

  -- another row has the batch of its slot
  by_holder : AnotherHolds w i (row_of (slot_of i) u.call.stands) → Waits
  by_holder (s, on, (j, has, other, only)) =
      waits_for_holder same hash terms m p stands of i j (OnKey u) under
      (subst (λ (n : ℕ). has_batch n (w.row j) ≡ true) (on_slot (slot_of i) s (row_of (slot_of i) u.call.stands) its_row_on on) has) other

  module _ (m2 : Mem (Node K V)) (told : Changed) (p2 : KeyCall K V K) (s : Step p.logged.executor.memory.memory m2 told (call_plan same same hash u.call) (p2, says.Waits)) where
    steps : Steps Took value_at w.memory (call_plan same same hash u.call) m2 (p2, says.Waits)
    steps = subst (λ (x : Mem (Node K V)). Steps Took value_at x (call_plan same same hash u.call) m2 (p2, says.Waits)) (sym stands.shown.is_at.held.memory)
        (as_step p.logged.executor.memory.memory changed.Nothing (call_plan same same hash u.call) m2 told (p2, says.Waits) s)

    module _ (mode : is_incremental st.setting.mode ≡ true) (here : u.call.stands ≡ at.Probes) where
      -- it waits for its key's pair, which the map has, and which is being copied out of the root
      for_its_pair : suc st.chart.first < st.chart.past → (d : CallThere K V) → waits_on_map same its.0.call its.0 m d ≡ true
      for_its_pair linked d = for_pair same m its.0 d (grows ∙ mode) u its.0.call its.3 of_key
        where
          of_key : (one : OneKey K V) → u.keys ≡ same (key_of one) → is_to_be_copied its.0.map m (finite_map same its.0.map m (key_of one)) ≡ true
          of_key one keys =
              let pair =
              waits_for_its_pair same hash same i its_setting u.keys lawful w st.chart seen (map_of V same hash same st.setting slot_of w st.chart st.blocks st.sights calls_on together i (together.inside i (OnKey u) under))
              u.call u.change (knows mode here) here m2 p2 steps in
              subst (λ (n : ℕ). is_to_be_copied n m (finite_map same n m (key_of one)) ≡ true) (sym its.2)
              (may_be_copied same hash terms m p stands of st is (key_of one) pair.0 u.call.trial.probe.i pair.1 pair.2 pair.3 pair.4 pair.5 (sym (ap (λ (f : K → Bool). f pair.4) keys) ∙ pair.6) linked)

      -- another call copies it
      by_copier : (t place : ℕ) → IsBeingCopied st.chart t place → Waits
      by_copier t place being =
          let pair = pairs_are_copied_by_calls V same hash same st.setting slot_of w st.chart st.blocks st.sights calls_on together mode t place being in
          let its_copier = stands.shown.shows.all.shown.calls of pair.2 pair.3 pair.4 in
          waits_for_worker same hash terms m p stands of of i pair.2 (OnKey u) pair.3 under pair.4
          (λ e. none_claimed mode here place (subst (λ (n : ℕ). st.chart.share (suc st.chart.first) place ≡ Claimed n) e pair.5)) (for_its_pair pair.1 its_copier.0) refl
          (λ looks. works same hash same st.setting slot_of w st.chart st.blocks st.sights calls_on together mode pair.2 place pair.3 pair.4 (inl pair.5) (only_looks_by pair.3 looks))

    -- its step has changed nothing
    pub quiet : told ≡ changed.Nothing
    quiet = elim (row_decided u.call.stands) as (λ _. told ≡ changed.Nothing) [
      | inl row ↦ row_quiet p.logged.executor.memory.memory m2 told same same hash u.call u.call.stands row (p2, says.Waits) s refl
      | inr none ↦
          by u.call.stands (calls_wait_for_a_copying V same hash same st.setting slot_of lawful w st.chart st.blocks st.sights calls_on together i u under none m2 p2 steps).1 s
    ]
      where
        copying : (copier : Copier) → (q : Copying) → copier.stands ≡ q → CopierAwaits st.chart (is_incremental st.setting.mode) copier q → is_incremental st.setting.mode ≡ false
            → Step p.logged.executor.memory.memory m2 told (calls.plan_at same same hash u.call (at.Copies copier)) (p2, says.Waits) → told ≡ changed.Nothing
        copying copier copies.Asks here awaits blocking t = asked_quiet p.logged.executor.memory.memory m2 told same same hash u.call copier here (p2, says.Waits) t
        copying copier copies.Marks here (yes_mode, being, open_still) blocking t = absurd (cc (yes_mode, blocking))
        copying copier _ here none blocking t = absurd none

        by : (q : Calling) → CallAwaits st.chart (is_incremental st.setting.mode) u.call q
            → Step p.logged.executor.memory.memory m2 told (calls.plan_at same same hash u.call q) (p2, says.Waits) → told ≡ changed.Nothing
        by at.Probes awaits t = try_quiet p.logged.executor.memory.memory m2 told same same hash u.call (p2, says.Waits) t
        by (at.Copies copier) (blocking, awaits) t = copying copier copier.stands refl awaits blocking t
        by _ none t = absurd none

    pub waits_so : Waits
    waits_so = elim (row_decided u.call.stands) as (λ _. Waits) [
      | inl row ↦ by_holder (call_rows_wait_for_a_holder V same hash same st.setting slot_of w st.chart st.blocks st.sights calls_on together i u under row m2 p2 steps)
      | inr none ↦
          by u.call.stands refl (calls_wait_for_a_copying V same hash same st.setting slot_of lawful w st.chart st.blocks st.sights calls_on together i u under none m2 p2 steps).1
    ]
      where
        by : (q : Calling) → u.call.stands ≡ q → CallAwaits st.chart (is_incremental st.setting.mode) u.call q → Waits
        by at.Probes here (incremental, being) = by_copier incremental here u.call.trial.table.turn u.call.trial.probe.i being
        by (at.Copies copier) here (blocking, awaits) =
            copier_waits same hash terms m p stands of st is i (OnKey u) under copier (ap copier_in here) awaits (at_once_for_resizes same m its.0 (grows ∙ blocking))
        by _ here none = absurd none
