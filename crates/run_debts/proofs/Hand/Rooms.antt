-- A step of a reservation that is none of a row: what it has in hand goes with the effects of the step.
use Rattle.std.specs.Prelude.{◌≡◌, ◌^◌, ℕ, ◌==◌, nat_lt, Bool, true, false, List, [], Some, if◌then◌else◌}
use Rattle.std.proofs.Common.{refl, ap, sym, subst, ◌∙◌, inl, inr}
use Rattle.run_places.specs.Given.SeizeWordsOp.{Out, Found, Stored, Exchanged, Made, Taken, Roomed}
use Rattle.run_places.specs.Given.SeizeDeclared.advance.Advance.{Advance as Counting}
use Rattle.run_places.specs.Given.SeizeDeclared.advance.Advance.TheVariants as progress
use Rattle.run_places.specs.Given.TablesDeclared.node.Node.{Node}
use Rattle.run_places.specs.Given.TablesDeclared.table.Table.{Table}
use Rattle.run_places.specs.Given.ResizeCopier.{copier_plan}
use Rattle.run_places.specs.Given.ResizeCopierStates.{copying_all}
use Rattle.run_places.specs.Given.ResizeNewTable.{new_table_plan}
use Rattle.run_places.specs.Given.ResizeSum.{sum_plan}
use Rattle.run_places.specs.Given.TablesChunks.{is_incremental}
use Rattle.run_places.specs.Given.TablesDeclared.setting.Setting.{Setting}
use Rattle.run_places.specs.Given.ResizeDeclared.copier.Copier.{Copier}
use Rattle.run_places.specs.Given.ResizeDeclared.new_table.NewTable.{NewTable}
use Rattle.run_places.specs.Given.ResizeDeclared.yielding.Yielding.{Yielding}
use Rattle.run_places.specs.Given.ResizeDeclared.sum.Sum.{Sum}
use Rattle.run_places.specs.Given.ReservesReserve as reserves
use Rattle.run_places.specs.Given.ReservesReserve.{reserve_plan}
use Rattle.run_places.specs.Given.ReservesDeclared.reserve.Reserve.{Reserve}
use Rattle.run_places.specs.Given.ReservesDeclared.reserve.Reserving.{Reserving}
use Rattle.run_places.specs.Given.ReservesDeclared.reserve.Reserving.TheVariants as reserving
use Rattle.run_places.specs.Given.RawMachine.{reserved as of_room}
use Rattle.run_places.specs.Given.RawProgress.{of_outcome}
use Rattle.run_places.specs.Given.RawDeclared.machines.machine.Machine.{Machine}
use Rattle.run_places.specs.Given.RawDeclared.machines.machine.Machine.TheVariants as kinds
use Rattle.run_places.specs.Given.RawDeclared.machines.progress.Progress.{Progress}
use Rattle.run_places.specs.Given.RunsDeclared.effect.Effect.{Effect}
use Rattle.run_places.specs.Given.SchedulesMoment.{Moment}
use Rattle.run_places.specs.Given.TellerTells.{StepsObserved}
use Rattle.run_places.specs.Given.EffectsDeclared.changed.Changed.{Changed}
use Rattle.run_places.specs.Given.EffectsDeclared.changed.Changed.TheVariants as changed
use Rattle.run_places.specs.Given.RuleWords.{Blocks}
use Rattle.run_places.proofs.Given.RuleKeys.Always.{Always, AlwaysOf, always_if, always_plan_as, always_steps}
use Rattle.owner_facts.specs.Given.PointsUnlinked.{has_unlinked}
use Rattle.owner_facts.specs.Given.LateFactsReserves.{CopiesPairs, ReservingFacts}
use Rattle.owner_facts.specs.Given.LateLateReserves.{SupersededReserving}
use Rattle.owner_facts.specs.Given.LateToldReserves.{IsRowOfReserve}
use Rattle.owner_facts.specs.Given.CallersRooms.{CallForRoom}
use Rattle.owner_facts.specs.Given.CallersSights.{seen_by}
use Rattle.owner_facts.specs.Given.CallersTogether.{ForRoom, in_slot}
use Rattle.run_places.specs.Given.EffectsEffects.{effects_of}
use Rattle.run_places.specs.Given.EffectsKnown.{Known}
use Rattle.run_places.specs.Given.EffectsDeclared.acting.Acting.TheVariants as acts
use Rattle.owner_facts.specs.Given.FinishesMaps.{Standing}
use Rattle.run_places.specs.Given.FollowsShows.{Refines}
use Rattle.run_places.proofs.Given.FollowsSteps.{WentTo, went_to, is_inside, OfNoRow}
use Rattle.run_places.proofs.Given.OthersOutcomes.{told_in}
use Rattle.run_debts.specs.Hand.{in_hand_of_room, in_hand, NotesOfRoom, NotesPending}
use Rattle.run_debts.specs.InHand.{TakesPair}
use Rattle.run_debts.specs.Owed.{PendingGoes}
use Rattle.run_debts.specs.Owing.{KeepsOwed}
use Rattle.run_debts.proofs.CopierTables.{KnowsTables, whole_knows, late_knows}
use Rattle.run_debts.proofs.Hand.Copies.{copying_goes, room_then}
use Rattle.run_debts.proofs.Here.{each}
use Rattle.run_debts.proofs.Leaving.{shifts_take, no_promotion, leaves}
use Rattle.run_debts.proofs.Passed.{copier_none}
use Rattle.run_debts.proofs.Rest.{room_shifts}
use Rattle.run_debts.proofs.Spares.{room_is_promoting, spares_room}
use Rattle.run_places.proofs.Given.ScenesTold.{as_step}
use Rattle.run_places.specs.Given.ScenesHeld.{Held, IsAt}
use Rattle.run_places.specs.Given.ScenesScene.{Scene, slot_of}
use Rattle.run_places.specs.Given.ScenesStepping.{StepLeads, has_ended}

-- one that is to copy a whole table has unlinked none
pub begins_none : (setting : Setting) (table next : Table) → has_unlinked (copying_all setting table next).stands ≡ false
begins_none setting table next = by (is_incremental setting.mode) _ _ refl refl
  where
    by : (b : Bool) (x y : Copier) → has_unlinked x.stands ≡ false → has_unlinked y.stands ≡ false → has_unlinked (if b then x else y).stands ≡ false
    by true x y f g = f
    by false x y f g = g

module _ (known : Known) where
  -- where it stands a reservation has nothing in hand
  abbrev NoneOfRoom : Reserving → Type 0
  NoneOfRoom p = (in_hand_of_room known p ≡ []) × NotesOfRoom known p

  copying_none : (c : Reserve) (table next : Table) → NoneOfRoom (reserves.copying c table next).stands
  copying_none c table next = copier_none known (copying_all c.setting table next) (copying_all c.setting table next).stands (begins_none c.setting table next)

module _ (known : Known) (K V : Type 0) where
  abbrev HasNone : Reserve × Yielding (Node K V) Unit → Type 0
  HasNone e = NoneOfRoom known e.0.stands

  either : (b : Bool) (x y : Reserve × Yielding (Node K V) Unit) → HasNone x → HasNone y → HasNone (if b then x else y)
  either true x y f g = f
  either false x y f g = g

  module _ (c : Reserve) where
    enough_none : (table : Table) (need : ℕ) → HasNone (reserves.enough c table need)
    enough_none table need = either (nat_lt (2 ^ 48) need) _ _ (refl, tt) (either (nat_lt table.len need) _ _ (refl, tt) (refl, tt))

    summed_none : (table : Table) (end : Sum × Counting ℕ) → HasNone (reserves.summed c table end)
    summed_none table (sum, progress.Goes) = (refl, tt)
    summed_none table (sum, progress.Waits) = (refl, tt)
    summed_none table (sum, progress.Done count) = enough_none table (reserves.needed c.additional count)
    summed_none table (sum, progress.Refused fault) = (refl, tt)

    made_none : (end : NewTable × Counting Table) → HasNone (reserves.made c end)
    made_none (making, progress.Goes) = (refl, tt)
    made_none (making, progress.Waits) = (refl, tt)
    made_none (making, progress.Done table) = (refl, tt)
    made_none (making, progress.Refused fault) = (refl, tt)

    grown_none : (table : Table) (end : NewTable × Counting Table) → HasNone (reserves.grown c table end)
    grown_none table (making, progress.Goes) = (refl, tt)
    grown_none table (making, progress.Waits) = (refl, tt)
    grown_none table (making, progress.Done next) = copying_none known c table next
    grown_none table (making, progress.Refused fault) = (refl, tt)

    module _ (self : NoneOfRoom known c.stands) where
      root_none : (out : Out (Node K V)) → Always HasNone (reserves.root_read c out)
      root_none (Found root) = always_if HasNone (root == 0) _ _ (refl, tt) (λ value. (refl, tt))
      root_none Stored = self
      root_none (Exchanged r) = self
      root_none (Made r) = self
      root_none (Taken value) = self
      root_none (Roomed r) = self

      next_none : (table : Table) (need : ℕ) (out : Out (Node K V)) → Always HasNone (reserves.next_read c table need out)
      next_none table need (Found link) = always_if HasNone (link == 0) _ _ (refl, tt) (λ value. copying_none known c table _)
      next_none table need Stored = self
      next_none table need (Exchanged r) = self
      next_none table need (Made r) = self
      next_none table need (Taken value) = self
      next_none table need (Roomed r) = self

  -- so it is after a step of one that copies no pairs
  none_at : (hash : K → ℕ) (c : Reserve) (stands : Reserving) → c.stands ≡ stands → (CopiesPairs stands → ⊥) → AlwaysOf HasNone (reserves.plan_at hash c stands)
  none_at hash c reserving.Reads is none = root_none c (subst (NoneOfRoom known) (sym is) (refl, tt))
  none_at hash c (reserving.Makes making) is none = always_plan_as HasNone (reserves.made c) (made_none c) (new_table_plan making)
  none_at hash c (reserving.Sums table sum) is none = always_plan_as HasNone (reserves.summed c table) (summed_none c table) (sum_plan sum)
  none_at hash c (reserving.Follows table need) is none = next_none c (subst (NoneOfRoom known) (sym is) (refl, tt)) table need
  none_at hash c (reserving.Grows table making) is none = always_plan_as HasNone (reserves.grown c table) (grown_none c table) (new_table_plan making)
  none_at hash c (reserving.Copies copier) is none = absurd (none tt)
  none_at hash c reserving.Over is none = subst (NoneOfRoom known) (sym is) (refl, tt)
  none_at hash c (reserving.Refused fault) is none = subst (NoneOfRoom known) (sym is) (refl, tt)

module _ {K V : Type 0} (same : K → K → Bool) (hash : ℕ → K → ℕ) (name : ℕ → List ℕ) (m : Moment K V) (known : Known) (s : Scene K V) (old new : Held K V) (at_old : IsAt same hash old s)
    (shown : Refines same name m known s) (map i : ℕ) (x : CallForRoom) (under_way : s.calls map i ≡ Some (ForRoom x)) (said : Progress (Node K V)) (leads : StepLeads same hash i said s old new)
    (notes : NotesOfRoom known x.reserve.stands) (no_row : IsRowOfReserve x.reserve.stands → ⊥)
    (own : OfNoRow same hash name m known s old new at_old shown map i (ForRoom x) under_way said leads (ForRoom x) (went_to same hash name m known s old new at_old shown map i (ForRoom x) under_way said leads).4.did) where
  abbrev to : WentTo same hash name m known s old new at_old shown map i (ForRoom x) under_way said leads
  to = went_to same hash name m known s old new at_old shown map i (ForRoom x) under_way said leads

  abbrev st : Standing K
  st = to.0

  abbrev told : Changed
  told = new.changed

  abbrev effects : List Effect
  effects = effects_of (acts.Call i map) known told

  abbrev blocks : Blocks
  blocks = seen_by st.blocks (st.sights (slot_of i))

  abbrev Stepped : Reserving → Reserve × Yielding (Node K V) Unit → Type 0
  Stepped stands e = StepsObserved K V (Reserve × Yielding (Node K V) Unit) old.memory changed.Nothing (reserves.plan_at to.0.hash x.reserve stands) new.memory told e

  inner : (e : Reserve × Yielding (Node K V) Unit) × (◌≡◌ {A = Machine K V K × Progress (Node K V)} (to.1, said) (of_room e)) × Stepped x.reserve.stands e
  inner = told_in old.memory new.memory told of_room (reserve_plan to.0.hash x.reserve) (to.1, said) to.3

  machine_is : to.1 ≡ kinds.Reserve inner.0.0
  machine_is = ap (λ (z : Machine K V K × Progress (Node K V)). z.0) inner.1

  no_pair : (n : ℕ) → TakesPair effects n → ⊥
  no_pair = shifts_take effects (room_shifts same hash name m known s old new at_old shown map i (ForRoom x) under_way said leads x to.4.did own)

  abbrev Knows : Copier → Type 0
  Knows p = KnowsTables same st.hash s.world i (in_slot st.setting (slot_of i)) st.chart blocks p

  abbrev KnowsOf : Reserving → Type 0
  KnowsOf (reserving.Copies copier) = Knows copier
  KnowsOf _ = Unit {0}

  fresh_of : (p : Reserving) → ReservingFacts same st.hash s.world i (in_slot st.setting (slot_of i)) st.chart blocks p → KnowsOf p
  fresh_of (reserving.Copies copier) facts = whole_knows same st.hash s.world i (in_slot st.setting (slot_of i)) st.chart blocks copier facts
  fresh_of _ facts = tt

  late_of : (p : Reserving) → SupersededReserving same st.hash s.world i (in_slot st.setting (slot_of i)) st.chart blocks x.began p → KnowsOf p
  late_of (reserving.Copies copier) facts = late_knows same st.hash s.world i (in_slot st.setting (slot_of i)) st.chart blocks x.began copier facts
  late_of _ facts = tt

  knows : KnowsOf x.reserve.stands
  knows = elim ((each same hash name m known s old at_old shown map i st to.2 (ForRoom x) under_way).stand i (ForRoom x) under_way) as (λ _. KnowsOf x.reserve.stands) [
    | inl k ↦ elim (k.1.facts) as (λ _. KnowsOf x.reserve.stands) [
      | inl facts ↦ fresh_of x.reserve.stands facts.point
      | inr late ↦ late_of x.reserve.stands late.point
    ]
    | inr k ↦ absurd (no_row k.1)
  ]

  abbrev Goes : Type 0
  Goes = PendingGoes K V same hash m known s old new map i (ForRoom x) said under_way leads

  -- it copies no pairs, and has nothing in hand, before and after
  none_goes : (CopiesPairs x.reserve.stands → ⊥) → in_hand_of_room known x.reserve.stands ≡ [] → room_is_promoting x.reserve.stands ≡ false → Goes
  none_goes copies nothing other =
      let after = always_steps (HasNone known K V) old.memory new.memory (reserve_plan to.0.hash x.reserve) inner.0 (none_at known K V to.0.hash x.reserve x.reserve.stands refl copies)
      (as_step old.memory changed.Nothing (reserve_plan to.0.hash x.reserve) new.memory told inner.0 inner.2) in
      let none : in_hand known to.1 ≡ [] = ap (in_hand known) machine_is ∙ after.0 in (
        KeepsOwed
            (leaves same hash name m known s old new at_old shown map i (ForRoom x) under_way said leads own no_pair
            (no_promotion same hash name m known s old new at_old shown map i (ForRoom x) under_way said leads (reserve_plan to.0.hash x.reserve) inner.0
            (spares_room K V to.0.hash x.reserve x.reserve.stands other no_row) inner.2))
            (none ∙ sym nothing),
        subst (NotesPending known) (sym machine_is) after.1,
        λ ended. none,
      )

  goes_at : (stands : Reserving) → x.reserve.stands ≡ stands → Goes
  goes_at (reserving.Copies copier) is =
      let d = told_in old.memory new.memory told (reserves.copied x.reserve) (copier_plan to.0.hash copier) inner.0 (subst (λ (z : Reserving). Stepped z inner.0) is inner.2) in
      let came = room_then known x.reserve d.0 in
      let machine : to.1 ≡ kinds.Reserve (reserves.copied x.reserve d.0).0 = machine_is ∙ ap (λ (z : Reserve × Yielding (Node K V) Unit). kinds.Reserve z.0) d.1 in
      let says : said ≡ of_outcome (reserves.copied x.reserve d.0).1 =
      ap (λ (z : Machine K V K × Progress (Node K V)). z.1) inner.1 ∙ ap (λ (z : Reserve × Yielding (Node K V) Unit). of_outcome z.1) d.1 in
      copying_goes same hash name m known s old new at_old shown map i (ForRoom x) under_way said leads
      (is_inside same hash name m known s old new at_old shown map i (ForRoom x) under_way said leads) own copier (subst KnowsOf is knows) (λ row. no_row (subst IsRowOfReserve (sym is) row))
      (ap (in_hand_of_room known) is) (subst (NotesOfRoom known) is notes) d.0 d.2
      (λ has. (ap (in_hand known) machine ∙ (came.0 has).0, λ n. subst (NotesPending known) (sym machine) ((came.0 has).1 n)))
      (λ ended. ap (in_hand known) machine ∙ came.1 (ap has_ended (sym says) ∙ ended)) no_pair
      (λ no. no_promotion same hash name m known s old new at_old shown map i (ForRoom x) under_way said leads (reserve_plan to.0.hash x.reserve) inner.0
      (spares_room K V to.0.hash x.reserve x.reserve.stands (ap room_is_promoting is ∙ no) no_row) inner.2)
  goes_at stands is = none_goes (λ copies. subst CopiesPairs is copies) (ap (in_hand_of_room known) is) (ap room_is_promoting is)

  pub room_goes_on : Goes
  room_goes_on = goes_at x.reserve.stands refl
