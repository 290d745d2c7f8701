-- After a step of a call, each call whose row is to put a pair behind a table is to put it behind the one just before that in which the pair lies.
use Rattle.std.specs.Prelude.{◌≡◌, ℕ, Bool, List, Option, Some}
use Rattle.std.proofs.Common.{refl, ap, sym, subst, ◌∙◌, inl, inr}
use Rattle.run_finds.specs.Given.TablesDeclared.node.Node.{Node}
use Rattle.run_finds.specs.Given.SweepsSweep.{sweep_plan}
use Rattle.run_finds.specs.Given.ReservesDeclared.sweep.Sweep.{Sweep}
use Rattle.papaya_raw.specs.Call.{call_plan}
use Rattle.papaya_raw.specs.Machine.{called as of_key, swept as of_sweep, reserved as of_room, counted as of_sum}
use Rattle.papaya_raw.specs.declared.machines.call.KeyCall.{KeyCall}
use Rattle.papaya_raw.specs.declared.machines.machine.Machine.{Machine}
use Rattle.papaya_raw.specs.declared.machines.machine.Machine.TheVariants as kinds
use Rattle.papaya_raw.specs.declared.machines.progress.Progress.{Progress}
use Rattle.run_schedules.specs.declared.effect.Effect.{Effect}
use Rattle.run_schedules.specs.Schedules.Effects.{with_effects}
use Rattle.run_schedules.specs.Schedules.Moment.{Moment}
use Rattle.run_finds.specs.Given.RuleWords.{Blocks}
use Rattle.run_finds.specs.Given.CallersOverAll.{CallOverAll}
use Rattle.run_finds.specs.Given.CallersSights.{seen_by}
use Rattle.run_finds.specs.Given.CallersTogether.{CallOnKey, UnderWay, OnKey, OverAll, Together, ForRoom, Counting}
use Rattle.run_finds.specs.Given.EffectsEffects.{effects_of, known_after}
use Rattle.run_finds.specs.Given.EffectsKnown.{Known}
use Rattle.run_finds.specs.Given.EffectsDeclared.acting.Acting.TheVariants as acts
use Rattle.run_finds.specs.Given.FinishesMachines.{machine_of}
use Rattle.run_finds.specs.Given.FinishesMaps.{Standing}
use Rattle.run_finds.proofs.Given.FollowsSteps.{WentTo, went_to, DidSo, OfNoRow}
use Rattle.run_finds.specs.Given.MomentsWhole.{RefinesWhole}
use Rattle.run_finds.proofs.Given.OthersOutcomes.{told_in}
use Rattle.run_finds.specs.Given.SettlesDue.{RowTells, TellsNone, TellsRetired, TellsDeferred, due_in_row, OwnAreMade, ToPut, due_in_calling, due_in_sweeping}
use Rattle.run_finds.specs.Given.SettlesEntries.{EntriesAreBlank}
use Rattle.run_finds.proofs.Given.SettlesDueCalls.{rows_tell_due}
use Rattle.run_finds.proofs.Given.SettlesHand.All.{own_or_row}
use Rattle.run_finds.specs.Waits.{waits_in_calling, waits_in_sweeping, waits_in}
use Rattle.run_grows.proofs.Waits.Keys.{KeyWaits, HandNone, HandAlike, HandPast, HandNew, step_hands}
use Rattle.run_grows.proofs.Waits.Sweeps.{SweepWaits, SweptNone, SweptAlike, SweptPast, SweptNew, step_hands as sweep_step}
use Rattle.run_finds.specs.Given.ReservesReserve.{reserve_plan}
use Rattle.run_finds.specs.Given.ResizeSum.{sum_plan}
use Rattle.run_finds.specs.Given.ResizeDeclared.sum.Sum.{Sum}
use Rattle.run_finds.specs.Given.CallersRooms.{CallForRoom}
use Rattle.run_finds.proofs.Given.HandsAsking.{which}
use Rattle.run_finds.proofs.Given.SettlesCalls.{goes_as_one}
use Rattle.run_finds.specs.Given.SeizeWordsDeclared.at.At.{At}
use Rattle.run_finds.specs.Given.SeizeWorld.{World, Row, Rests, IsInside}
use Rattle.run_finds.proofs.Given.CallersTogether.Users.{events_rows}
use Rattle.run_finds.proofs.Given.FollowsOnward.{IsLasting, KeepsRoles}
use Rattle.run_finds.proofs.Given.ChangesSteps.{led_on}
use Rattle.run_finds.proofs.Given.MomentsCalls.{calls_keep_whole}
use Rattle.run_finds.specs.Puts.{IsDeferredOnTheLast, RefinesPuts, PutsStay, CallsPreservePuts}
use Rattle.run_grows.proofs.Waits.Behind.{IsBehind, key_behind, sweep_behind, room_never, call_put, sweep_put}
use Rattle.run_finds.specs.Given.ScenesHeld.{Held, IsAt}
use Rattle.run_finds.specs.Given.ScenesScene.{Scene, slot_of}
use Rattle.run_finds.specs.Given.ScenesStepping.{StepLeads, StepsFrom, scene_after}

module _ {K V : Type 0} (same : K → K → Bool) (hash : ℕ → K → ℕ) (name : ℕ → List ℕ) (m : Moment K V) (known : Known) (s : Scene K V) (old new : Held K V) (at_old : IsAt same hash old s)
    (whole : RefinesWhole same name m known s) (entries : EntriesAreBlank s) (owning : OwnAreMade known s.world) (puts : RefinesPuts known s)
    (map i : ℕ) (u : UnderWay K V K) (here : s.calls map i ≡ Some u) (said : Progress (Node K V)) (leads : StepLeads same hash i said s old new) where
  abbrev to : WentTo same hash name m known s old new at_old whole.all.shown map i u here said leads
  to = went_to same hash name m known s old new at_old whole.all.shown map i u here said leads

  abbrev effects : List Effect
  effects = effects_of (acts.Call i map) known new.changed

  abbrev known2 : Known
  known2 = known_after (acts.Call i map) new.changed known

  abbrev led : Scene K V
  led = scene_after same s old new map i to.0 u to.1 said to.4

  keeps : KeepsRoles known known2
  keeps = (led_on same hash name m known s old new at_old whole whole.all.shown map i u here said leads).keeps

  after : RefinesWhole same name (with_effects (Some (name i)) (Some map) effects m) known2 led
  after = calls_keep_whole K V same hash name m known s old new at_old whole map i u here said leads

  stood : (st2 : Standing K) × (led.maps map ≡ Some st2)
  stood = let it = (led_on same hash name m known s old new at_old whole whole.all.shown map i u here said leads).stood map to.0 to.2 in (it.0, it.1)

  -- the table is noted as it was
  kept : (of : ℕ) (place : At) (waits : Option ℕ) → IsDeferredOnTheLast known of place waits → IsDeferredOnTheLast known2 of place waits
  kept of place waits (b, turn, len, its, goes_by, noted) = (b, turn, len, its, goes_by, keeps b (subst IsLasting (sym noted) tt) ∙ noted)

  abbrev Own : Type 0
  Own = (y : UnderWay K V K) → led.calls map i ≡ Some y → machine_of y ≡ to.1 → (word : ℕ) (place : At) → due_in_row (machine_of y) ≡ Some (ToPut word place) → IsDeferredOnTheLast known2 map place (waits_in (machine_of y))

  -- by where its own has come
  pub puts_then : Own → RefinesPuts known2 led
  puts_then own n j y is word place due = elim (which s.calls map i to.4.next n j y is) as (λ _. IsDeferredOnTheLast known2 n place (waits_in (machine_of y))) [
    | inl it ↦
        let machine = goes_as_one to.1 said to.4.next to.4.goes_on y it.2 in
        let its_own : led.calls map i ≡ Some y = ap (λ (a : ℕ). led.calls a i) (sym it.0) ∙ ap (led.calls n) (sym it.1) ∙ is in
        subst (λ (x : ℕ). IsDeferredOnTheLast known2 x place (waits_in (machine_of y))) (sym it.0) (own y its_own machine word place due)
    | inr was ↦ kept n place (waits_in (machine_of y)) (puts n j y was.1 word place due)
  ]

  -- a row that is to put the pair was to put it
  was_due : (OfNoRow same hash name m known s old new at_old whole.all.shown map i u here said leads u to.4.did → ⊥) → (word : ℕ) (place : At) → due_in_row to.1 ≡ Some (ToPut word place)
      → due_in_row (machine_of u) ≡ Some (ToPut word place)
  was_due other word place due = by (rows_tell_due K V same hash name m known s old new at_old whole.all.shown whole.all.rows entries owning map i u here said leads other)
    where
      by : RowTells i map known effects (due_in_row (machine_of u)) (due_in_row to.1) → due_in_row (machine_of u) ≡ Some (ToPut word place)
      by (TellsNone none same_due) = sym same_due ∙ due
      by (TellsRetired w was gone are) = absurd (cc (gone, due))
      by (TellsDeferred w block p t len was its gone table are) = absurd (cc (gone, due))

  -- within a row it goes by the table by which it went
  pub row_puts : (OfNoRow same hash name m known s old new at_old whole.all.shown map i u here said leads u to.4.did → ⊥)
      → ((word : ℕ) (place : At) → due_in_row (machine_of u) ≡ Some (ToPut word place) → due_in_row to.1 ≡ Some (ToPut word place) → waits_in to.1 ≡ waits_in (machine_of u)) → Own
  row_puts other alike y is machine word place due =
      let now : due_in_row to.1 ≡ Some (ToPut word place) = ap due_in_row (sym machine) ∙ due in
      let before = was_due other word place now in
      let waits : waits_in (machine_of y) ≡ waits_in (machine_of u) = ap (λ (z : Machine K V K). waits_in z) machine ∙ alike word place before now in
      subst (IsDeferredOnTheLast known2 map place) (sym waits) (kept map place (waits_in (machine_of u)) (puts map i u here word place before))

  -- and before it, by what the call knows then
  module _ (rests : to.4.w2.row i ≡ Rests) where
    abbrev st2 : Standing K
    st2 = stood.0

    abbrev seen2 : Blocks
    seen2 = seen_by st2.blocks (st2.sights (slot_of i))

    together2 : Together V same st2.hash same st2.setting slot_of led.world st2.chart st2.blocks st2.sights (led.calls map)
    together2 = to.5.together.makings.standing.each map st2 stood.1

    as_next : IsInside (led.world.uses (slot_of i)) → (word : ℕ) (place : At) (waits : Option ℕ) → IsBehind word place led.world st2.chart seen2 waits → IsDeferredOnTheLast known2 map place waits
    as_next inside word place waits (t, made, seen_there, its, goes_by) =
        let sight = (together2.ground.sight (slot_of i) inside).0 in
        (st2.blocks.table t, t, st2.chart.len t, its, goes_by, (after.all.shown.maps map st2 stood.1).tables.roles t made (sight.tables t made seen_there))

    pub rest_puts : Own
    rest_puts (OnKey x) is machine word place due =
        as_next (together2.inside i (OnKey x) is) word place (waits_in_calling x.call x.call.stands)
        (key_behind word place led.world st2.chart seen2 same st2.hash st2.setting slot_of i rests x (together2.stand i (OnKey x) is) x.call.stands refl due)
    rest_puts (OverAll x) is machine word place due =
        as_next (together2.inside i (OverAll x) is) word place (waits_in_sweeping x.sweep x.sweep.stands)
        (sweep_behind word place led.world st2.chart seen2 same st2.hash st2.setting slot_of i rests x (together2.stand i (OverAll x) is) x.sweep.stands refl due)
    rest_puts (ForRoom r) is machine word place due = absurd (room_never word place r.reserve.stands due)
    rest_puts (Counting sum) is machine word place due = absurd (cc due)

  -- one that has come to nothing to put
  pub none_puts : ((word : ℕ) (place : At) → due_in_row to.1 ≡ Some (ToPut word place) → ⊥) → Own
  none_puts never y is machine word place due = absurd (never word place (ap due_in_row (sym machine) ∙ due))

-- a call on one key
module _ {K V : Type 0} (same : K → K → Bool) (hash : ℕ → K → ℕ) (name : ℕ → List ℕ) (m : Moment K V) (known : Known) (s : Scene K V) (old new : Held K V) (at_old : IsAt same hash old s)
    (whole : RefinesWhole same name m known s) (entries : EntriesAreBlank s) (owning : OwnAreMade known s.world) (puts : RefinesPuts known s)
    (map i : ℕ) (x : CallOnKey K V K) (here : s.calls map i ≡ Some (OnKey x)) (said : Progress (Node K V)) (leads : StepLeads same hash i said s old new) where
  abbrev key_to : WentTo same hash name m known s old new at_old whole.all.shown map i (OnKey x) here said leads
  key_to = went_to same hash name m known s old new at_old whole.all.shown map i (OnKey x) here said leads

  abbrev KeyDid : Type 0
  KeyDid = DidSo same hash name m known s old new at_old whole.all.shown map i (OnKey x) here said leads (OnKey x)

  key_rested : (did : KeyDid) → OfNoRow same hash name m known s old new at_old whole.all.shown map i (OnKey x) here said leads (OnKey x) did → key_to.4.w2.row i ≡ Rests
  key_rested (p2, end, machine_is, told_is, inl (step, moved)) own =
      ap (λ (w : World (Node K V)). w.row i) moved.0
      ∙ ap (λ (r : ℕ → Row). r i) (events_rows _ step.step.went.events s.world step.step.went.w2 step.step.went.users step.step.went.runs)
      ∙ (elim ((at_old.together.makings.standing.each map key_to.0 key_to.2).stand i (OnKey x) here) as (λ _. s.world.row i ≡ Rests) [
        | inl k ↦ k.0
        | inr k ↦ absurd (step.no_row k.1)
      ])
  key_rested (p2, end, machine_is, told_is, inr row) own = absurd own

  key_alike : (y : KeyCall K V K) → KeyWaits same same key_to.0.hash x.call old.memory new.memory new.changed y → (word : ℕ) (place : At) → due_in_calling x.call.stands ≡ Some (ToPut word place)
      → due_in_calling y.stands ≡ Some (ToPut word place) → waits_in_calling y y.stands ≡ waits_in_calling x.call x.call.stands
  key_alike y (HandNone none) word place before now = absurd (let some = (call_put word place y y.stands refl now).0 in cc (none, some))
  key_alike y (HandAlike no_copy pair alike) word place before now = alike
  key_alike y (HandPast d root value no_copy pair were none answer is reads nothing read sees before_root) word place before now = absurd (let some = (call_put word place y y.stands refl now).2 in cc (none, some))
  key_alike y (HandNew word2 new_word is wrote alike) word place before now = absurd (let none = sym before ∙ ap due_in_calling is in cc none)

  key_waits : (word : ℕ) (place : At) → due_in_row (machine_of (OnKey x)) ≡ Some (ToPut word place) → due_in_row key_to.1 ≡ Some (ToPut word place) → waits_in key_to.1 ≡ waits_in (machine_of (OnKey x))
  key_waits word place before now =
      let it = told_in old.memory new.memory new.changed of_key (call_plan same same key_to.0.hash x.call) (key_to.1, said) key_to.3 in
      let machine : ◌≡◌ {A = Machine K V K} key_to.1 (kinds.Key it.0.0) = ap (λ (z : Machine K V K × Progress (Node K V)). z.0) it.1 in
      ap (λ (z : Machine K V K). waits_in z) machine
      ∙ key_alike it.0.0 (step_hands same same key_to.0.hash x.call old.memory new.memory new.changed it.0 it.2) word place before (ap (λ (z : Machine K V K). due_in_row z) (sym machine) ∙ now)

  pub key_puts : RefinesPuts (known_after (acts.Call i map) new.changed known) (scene_after same s old new map i key_to.0 (OnKey x) key_to.1 said key_to.4)
  key_puts =
      puts_then same hash name m known s old new at_old whole entries owning puts map i (OnKey x) here said leads
      (elim (own_or_row same hash name m known s old new at_old whole.all.shown map i (OnKey x) here said leads (OnKey x) key_to.4.did)
      as (λ _. Own same hash name m known s old new at_old whole entries owning puts map i (OnKey x) here said leads) [
        | inl own ↦ rest_puts same hash name m known s old new at_old whole entries owning puts map i (OnKey x) here said leads (key_rested key_to.4.did own)
        | inr other ↦ row_puts same hash name m known s old new at_old whole entries owning puts map i (OnKey x) here said leads other key_waits
      ])

-- a sweep
module _ {K V : Type 0} (same : K → K → Bool) (hash : ℕ → K → ℕ) (name : ℕ → List ℕ) (m : Moment K V) (known : Known) (s : Scene K V) (old new : Held K V) (at_old : IsAt same hash old s)
    (whole : RefinesWhole same name m known s) (entries : EntriesAreBlank s) (owning : OwnAreMade known s.world) (puts : RefinesPuts known s)
    (map i : ℕ) (x : CallOverAll) (here : s.calls map i ≡ Some (OverAll x)) (said : Progress (Node K V)) (leads : StepLeads same hash i said s old new) where
  abbrev sweep_to : WentTo same hash name m known s old new at_old whole.all.shown map i (OverAll x) here said leads
  sweep_to = went_to same hash name m known s old new at_old whole.all.shown map i (OverAll x) here said leads

  abbrev SweepDid : Type 0
  SweepDid = DidSo same hash name m known s old new at_old whole.all.shown map i (OverAll x) here said leads (OverAll x)

  sweep_rested : (did : SweepDid) → OfNoRow same hash name m known s old new at_old whole.all.shown map i (OverAll x) here said leads (OverAll x) did → sweep_to.4.w2.row i ≡ Rests
  sweep_rested (p2, end, machine_is, told_is, inl (step, moved)) own =
      ap (λ (w : World (Node K V)). w.row i) moved.0
      ∙ ap (λ (r : ℕ → Row). r i) (events_rows _ step.step.went.events s.world step.step.went.w2 step.step.went.users step.step.went.runs)
      ∙ (elim ((at_old.together.makings.standing.each map sweep_to.0 sweep_to.2).stand i (OverAll x) here) as (λ _. s.world.row i ≡ Rests) [
        | inl k ↦ k.0
        | inr k ↦ absurd (step.no_row k.1)
      ])
  sweep_rested (p2, end, machine_is, told_is, inr row) own = absurd own

  sweep_alike : (y : Sweep) → SweepWaits sweep_to.0.hash x.sweep old.memory new.memory new.changed y → (word : ℕ) (place : At) → due_in_sweeping x.sweep.stands ≡ Some (ToPut word place)
      → due_in_sweeping y.stands ≡ Some (ToPut word place) → waits_in_sweeping y y.stands ≡ waits_in_sweeping x.sweep x.sweep.stands
  sweep_alike y (SweptNone none) word place before now = absurd (let some = (sweep_put word place y y.stands refl now).0 in cc (none, some))
  sweep_alike y (SweptAlike no_copy pair alike) word place before now = alike
  sweep_alike y (SweptPast d root value no_copy pair were none is reads nothing read sees before_root) word place before now = absurd (let some = (sweep_put word place y y.stands refl now).2 in cc (none, some))
  sweep_alike y (SweptNew word2 is wrote alike) word place before now = absurd (let none = sym before ∙ ap due_in_sweeping is in cc none)

  sweep_waits : (word : ℕ) (place : At) → due_in_row {K = K} {V = V} {Q = K} (machine_of (OverAll x)) ≡ Some (ToPut word place) → due_in_row sweep_to.1 ≡ Some (ToPut word place)
      → waits_in sweep_to.1 ≡ waits_in {K = K} {V = V} {Q = K} (machine_of (OverAll x))
  sweep_waits word place before now =
      let it = told_in old.memory new.memory new.changed of_sweep (sweep_plan sweep_to.0.hash x.sweep) (sweep_to.1, said) sweep_to.3 in
      let machine : ◌≡◌ {A = Machine K V K} sweep_to.1 (kinds.Sweep it.0.0) = ap (λ (z : Machine K V K × Progress (Node K V)). z.0) it.1 in
      ap (λ (z : Machine K V K). waits_in z) machine
      ∙ sweep_alike it.0.0 (sweep_step sweep_to.0.hash x.sweep old.memory new.memory new.changed it.0 it.2) word place before (ap (λ (z : Machine K V K). due_in_row z) (sym machine) ∙ now)

  pub sweep_puts : RefinesPuts (known_after (acts.Call i map) new.changed known) (scene_after same s old new map i sweep_to.0 (OverAll x) sweep_to.1 said sweep_to.4)
  sweep_puts =
      puts_then same hash name m known s old new at_old whole entries owning puts map i (OverAll x) here said leads
      (elim (own_or_row same hash name m known s old new at_old whole.all.shown map i (OverAll x) here said leads (OverAll x) sweep_to.4.did)
      as (λ _. Own same hash name m known s old new at_old whole entries owning puts map i (OverAll x) here said leads) [
        | inl own ↦ rest_puts same hash name m known s old new at_old whole entries owning puts map i (OverAll x) here said leads (sweep_rested sweep_to.4.did own)
        | inr other ↦ row_puts same hash name m known s old new at_old whole entries owning puts map i (OverAll x) here said leads other sweep_waits
      ])

-- a reservation, and one that counts, has nothing to put
module _ {K V : Type 0} (same : K → K → Bool) (hash : K → ℕ) (old new : Held K V) (machine : Machine K V K) (said : Progress (Node K V)) (word : ℕ) (place : At) where
  room_has_none : (r : CallForRoom) → StepsFrom same hash (machine_of (ForRoom r)) old new machine said → due_in_row machine ≡ Some (ToPut word place) → ⊥
  room_has_none r steps due =
      (let it = told_in old.memory new.memory new.changed of_room (reserve_plan hash r.reserve) (machine, said) steps in
      room_never word place it.0.0.stands (sym (ap (λ (q : Machine K V K × Progress (Node K V)). due_in_row q.0) it.1) ∙ due))

  sum_has_none : (sum : Sum) → StepsFrom same hash (machine_of (Counting sum)) old new machine said → due_in_row machine ≡ Some (ToPut word place) → ⊥
  sum_has_none sum steps due =
      (let it = told_in old.memory new.memory new.changed of_sum (sum_plan sum) (machine, said) steps in
      let none = sym (ap (λ (q : Machine K V K × Progress (Node K V)). due_in_row q.0) it.1) ∙ due in cc none)

pub calls_keep_puts : (K V : Type 0) (same : K → K → Bool) (hash : ℕ → K → ℕ) → CallsPreservePuts K V same hash
calls_keep_puts K V same hash name m known s old new at_old whole entries owning puts map i (OnKey x) here said leads =
    key_puts same hash name m known s old new at_old whole entries owning puts map i x here said leads
calls_keep_puts K V same hash name m known s old new at_old whole entries owning puts map i (OverAll x) here said leads =
    sweep_puts same hash name m known s old new at_old whole entries owning puts map i x here said leads
calls_keep_puts K V same hash name m known s old new at_old whole entries owning puts map i (ForRoom r) here said leads =
    puts_then same hash name m known s old new at_old whole entries owning puts map i (ForRoom r) here said leads
    (none_puts same hash name m known s old new at_old whole entries owning puts map i (ForRoom r) here said leads
    (λ word place due. room_has_none same (leads map (ForRoom r) here).0.hash old new (leads map (ForRoom r) here).1 said word place r (leads map (ForRoom r) here).3 due))
calls_keep_puts K V same hash name m known s old new at_old whole entries owning puts map i (Counting sum) here said leads =
    puts_then same hash name m known s old new at_old whole entries owning puts map i (Counting sum) here said leads
    (none_puts same hash name m known s old new at_old whole entries owning puts map i (Counting sum) here said leads
    (λ word place due. sum_has_none same (leads map (Counting sum) here).0.hash old new (leads map (Counting sum) here).1 said word place sum (leads map (Counting sum) here).3 due))

pub puts_stay : (K V : Type 0) → PutsStay K V
puts_stay K V earlier later s t puts keeps map i u is word place due =
    let was = keeps map i u is word place due in
    let before : due_in_row (machine_of was.0) ≡ Some (ToPut word place) = ap (λ (z : Machine K V K). due_in_row z) was.2 ∙ due in
    let it = puts map i was.0 was.1 word place before in
    (it.0, it.1, it.2, it.3, ap (λ (z : Machine K V K). waits_in z) (sym was.2) ∙ it.4, was.3 it.0 it.3 ∙ it.5)
