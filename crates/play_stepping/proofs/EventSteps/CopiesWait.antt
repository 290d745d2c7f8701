-- What a call knows of the copier within which it stands, on a map that grows in chunks; and, in either mode, that it may wait for another caller's call that copies, or ends a copying.
use Rattle.std.specs.Prelude.{◌*◌, ◌∷◌, is_some, Option, Some, None}
use Rattle.std.specs.List.{list_any}
use Rattle.std.proofs.Common.{◌≡◌, ◌≢◌, ℕ, suc, ◌<◌, ◌⊎◌, inl, inr, Bool, true, false, refl, ap, sym, subst, ◌∙◌, arith}
use Rattle.owner_whole.specs.Given.WaitsOthers.{EndsAt, copier_in, copier_in_room, copier_in_sweep, copier_of}
use Rattle.owner_whole.proofs.Given.WaitersStands.{copier_knows as knows_at_once}
use Rattle.seize_words.specs.OneMemory.Word.{block_in}
use Rattle.seize.specs.World.{World, IsInside}
use Rattle.play_scheduler.proofs.Given.SeizeMemoryWords.There.{live_pos}
use Rattle.papaya_raw.specs.Given.TablesChunks.{is_incremental}
use Rattle.papaya_raw.specs.Given.TablesDeclared.node.Node.{Node}
use Rattle.papaya_raw.specs.Given.TablesDeclared.setting.Setting.{Setting}
use Rattle.papaya_raw.specs.Given.TablesDeclared.table.Table.{Table}
use Rattle.owner_whole.specs.Given.ResizeDeclared.copier.Copier.{Copier}
use Rattle.owner_whole.specs.Given.ResizeDeclared.copier.Copying.{Copying}
use Rattle.owner_whole.specs.Given.ResizeDeclared.copier.Copying.TheVariants as copies
use Rattle.papaya_raw.specs.declared.machines.call.Calling.{Calling}
use Rattle.papaya_raw.specs.declared.machines.call.Calling.TheVariants as at
use Rattle.papaya_raw.specs.Given.ReservesDeclared.reserve.Reserving.{Reserving}
use Rattle.papaya_raw.specs.Given.ReservesDeclared.reserve.Reserving.TheVariants as reserves
use Rattle.papaya_raw.specs.Given.ReservesDeclared.sweep.Sweep.{Sweep}
use Rattle.papaya_raw.specs.Given.ReservesDeclared.sweep.Sweeping.{Sweeping}
use Rattle.papaya_raw.specs.Given.ReservesDeclared.sweep.Sweeping.TheVariants as sweeps
use Rattle.play_scheduler.specs.Given.RuleMaps.{IsTable}
use Rattle.play_scheduler.specs.Given.RuleWords.{Blocks}
use Rattle.owner_whole.specs.Given.PointsFactsCalls.{CallFacts, CallingFacts, Unchanged}
use Rattle.owner_whole.specs.Given.PointsFactsCopies.{CopierFacts, CopyingFacts}
use Rattle.owner_whole.specs.Given.PointsFactsCopiesBlocking.{CopierFactsBlocking, CopyingFactsBlocking}
use Rattle.owner_whole.specs.Given.PointsSteps.{AreLawful}
use Rattle.owner_whole.specs.Given.PointsTold.{IsRowOfCall, IsRowOfCopier}
use Rattle.owner_whole.specs.Given.LateFactsReserves.{CopiesWhole, IsEnding, ReservingFacts}
use Rattle.owner_whole.specs.Given.LateFactsSweeps.{SweepingFacts}
use Rattle.owner_whole.specs.Given.LateLateCalls.{SupersededCallFacts}
use Rattle.owner_whole.specs.Given.LateLateCopies.{SupersededCopierFacts, SupersededCopying}
use Rattle.owner_whole.specs.Given.LateToldReserves.{IsRowOfReserve}
use Rattle.owner_whole.specs.Given.LateToldSweeps.{IsRowOfSweep}
use Rattle.owner_whole.specs.Given.CallersSights.{IsVisibility, seen_by}
use Rattle.owner_whole.specs.Given.CallersTogether.{CallOnKey, UnderWay, UnlessCounts, OnKey, ForRoom, Counting, OverAll, Together, in_slot}
use Rattle.owner_whole.proofs.Given.WaitsAwaited.{HasOther}
use Rattle.owner_whole.proofs.Given.WaitsClaimed.{chosen}
use Rattle.run_schedules.specs.Schedules.Moment.{UnderWay as CallThere, Moment}
use Rattle.run_schedules.specs.Schedules.Terms.{Terms}
use Rattle.run_schedules.specs.Schedules.Views.{call_of}
use Rattle.run_schedules.specs.Schedules.Waiting.{may_wait_for}
use Rattle.run_executor.specs.Given.EffectsKnown.{Known, known}
use Rattle.run_executor.specs.Given.EffectsDeclared.role.Role.{Role}
use Rattle.run_executor.specs.Given.EffectsDeclared.role.Role.TheVariants as role
use Rattle.owner_whole.specs.Given.FinishesMachines.{machine_of}
use Rattle.owner_whole.specs.Given.FinishesMaps.{Standing}
use Rattle.play_scheduler.specs.Given.FollowsBlocks.{HasRole}
use Rattle.play_scheduler.specs.Given.FollowsCalls.{IsCalled}
use Rattle.play_scheduler.specs.Given.FollowsMaps.{table_of}
use Rattle.play_scheduler.specs.Given.OwesLooking.{IsLooking}
use Rattle.play_scheduler.specs.Given.SettlesHand.{in_hand, in_hand_of_call, in_hand_of_room, in_hand_of_sweep, tables_in_hand}
use Rattle.play_scheduler.proofs.Given.SettlesPassed.{numbered, passed_first, tables_named}
use Rattle.run_schedules.specs.Schedules.Effects.{passed}
use Rattle.play_scheduler.specs.Played.{RefinesFor}
use Rattle.play_scheduler.specs.declared.scheduler.Scheduler.{Scheduler}
use Rattle.play_stepping.proofs.EventSteps.Waiting.{IsForResizes, owing_hands, waits_for_copier, waits_for_handing}
use Rattle.owner_whole.proofs.Given.WaitsWorks.{OnlyLooks, works}
use Rattle.play_scheduler.specs.Given.ScenesScene.{slot_of}
use Rattle.owner_whole.proofs.Given.WaitersAwaited.{looks_within as looks_none}
use Rattle.seize_words.proofs.General.{same_some as the}

-- the row of a call that copies is its copier's
key_row : (stands : Calling) (q : Copier) → copier_in stands ≡ Some q → IsRowOfCall stands → IsRowOfCopier q.stands
key_row (at.Helps copier goal) q e row = subst (λ (x : Copier). IsRowOfCopier x.stands) (the copier q e) row
key_row (at.Copies copier) q e row = subst (λ (x : Copier). IsRowOfCopier x.stands) (the copier q e) row
key_row _ q e row = absurd (cc e)

room_row : (stands : Reserving) (q : Copier) → copier_in_room stands ≡ Some q → IsRowOfReserve stands → IsRowOfCopier q.stands
room_row (reserves.Copies copier) q e row = subst (λ (x : Copier). IsRowOfCopier x.stands) (the copier q e) row
room_row _ q e row = absurd (cc e)

sweep_row : (stands : Sweeping) (q : Copier) → copier_in_sweep stands ≡ Some q → IsRowOfSweep stands → IsRowOfCopier q.stands
sweep_row (sweeps.Copies copier) q e row = subst (λ (x : Copier). IsRowOfCopier x.stands) (the copier q e) row
sweep_row _ q e row = absurd (cc e)

looking_none : {K V : Type 0} (u : UnderWay K V K) → IsLooking (machine_of u) → copier_of u ≡ None
looking_none (OnKey u) looks = looks_none u.call.stands looks.1
looking_none (Counting sum) looks = refl
looking_none (ForRoom r) looks = absurd looks
looking_none (OverAll o) looks = absurd looks

-- one whose machine looks only looks
pub only_looks_by : {K V : Type 0} (x : UnderWay K V K) → IsLooking (machine_of x) → OnlyLooks x
only_looks_by (OnKey u) looks = looks.1
only_looks_by (Counting sum) looks = tt
only_looks_by (ForRoom r) looks = looks
only_looks_by (OverAll o) looks = looks

-- what such a call has in hand is what its copier has
module _ (by : Known) (q : Copier) where
  key_hand : (stands : Calling) → copier_in stands ≡ Some q → in_hand_of_call by stands ≡ tables_in_hand by q q.stands
  key_hand (at.Helps copier goal) e = ap (λ (y : Copier). tables_in_hand by y y.stands) (the copier q e)
  key_hand (at.Copies copier) e = ap (λ (y : Copier). tables_in_hand by y y.stands) (the copier q e)
  key_hand _ e = absurd (cc e)

  room_hand : (stands : Reserving) → copier_in_room stands ≡ Some q → in_hand_of_room by stands ≡ tables_in_hand by q q.stands
  room_hand (reserves.Copies copier) e = ap (λ (y : Copier). tables_in_hand by y y.stands) (the copier q e)
  room_hand _ e = absurd (cc e)

  sweep_hand : (stands : Sweeping) → copier_in_sweep stands ≡ Some q → in_hand_of_sweep by stands ≡ tables_in_hand by q q.stands
  sweep_hand (sweeps.Copies copier) e = ap (λ (y : Copier). tables_in_hand by y y.stands) (the copier q e)
  sweep_hand _ e = absurd (cc e)

  hand_of : {K V : Type 0} (u : UnderWay K V K) → copier_of u ≡ Some q → in_hand by (machine_of u) ≡ tables_in_hand by q q.stands
  hand_of (OnKey u) e = key_hand u.call.stands e
  hand_of (ForRoom r) e = room_hand r.reserve.stands e
  hand_of (OverAll o) e = sweep_hand o.sweep.stands e
  hand_of (Counting sum) e = absurd (cc e)

module _ {K V S : Type 0} (same : K → K → Bool) (hash : K → ℕ) (terms : Terms) (m : Moment K V) (p : Scheduler K V S) (stands : RefinesFor same hash terms m p) (of : ℕ)
    (st : Standing K) (is : stands.scene.maps of ≡ Some st) where
  abbrev w : World (Node K V)
  w = stands.scene.world

  abbrev calls_on : ℕ → Option (UnderWay K V K)
  calls_on = stands.scene.calls of

  abbrev by_notes : Known
  by_notes = known p.logged.notes

  hash_is : st.hash ≡ hash
  hash_is = stands.shown.is_at.held.hashes of st is

  pub all_together : Together V same hash same st.setting slot_of w st.chart st.blocks st.sights calls_on
  all_together = subst (λ (h : K → ℕ). Together V same h same st.setting slot_of w st.chart st.blocks st.sights calls_on) hash_is (stands.shown.is_at.held.together.makings.standing.each of st is)

  pub is_lawful : AreLawful same hash
  is_lawful = subst (λ (h : K → ℕ). AreLawful same h) hash_is (stands.shown.is_at.held.together.makings.standing.fit of st is).0

  -- a call within a copier is none that counts
  copies_within : {A : Type 0} (u : UnderWay K V K) (q : Copier) → copier_of u ≡ Some q → UnlessCounts u A → A
  copies_within (OnKey u) q is a = a
  copies_within (ForRoom r) q is a = a
  copies_within (Counting sum) q is a = absurd (cc is)
  copies_within (OverAll o) q is a = a

  -- so it is within its section
  pub within_section : (k : ℕ) (u : UnderWay K V K) → stands.scene.calls of k ≡ Some u → (q : Copier) → copier_of u ≡ Some q → IsInside (w.uses (slot_of k))
  within_section k u has q is = copies_within u q is (all_together.inside k u has)

  -- of one call
  module _ (i : ℕ) (x : UnderWay K V K) (under : stands.scene.calls of i ≡ Some x) where
    abbrev seen : Blocks
    seen = seen_by st.blocks (st.sights (slot_of i))

    abbrev its_setting : Setting
    its_setting = in_slot st.setting (slot_of i)

    its_sight : IsInside (w.uses (slot_of i)) → IsVisibility st.chart st.blocks (st.sights (slot_of i))
    its_sight inside = (all_together.ground.sight (slot_of i) inside).0

    -- a table of its sight is noted as one of the map
    pub noted_table : IsInside (w.uses (slot_of i)) → (t : ℕ) (table : Table) → IsTable st.chart seen table t
        → (known p.logged.notes).roles (block_in table.link) ≡ role.Table (table_of of t) (st.chart.len t)
    noted_table inside t table it =
        let link : table.link ≡ st.blocks.table t * 2048 = ap (λ (y : Table). y.link) it.is in
        let block : block_in table.link ≡ st.blocks.table t = omega (arith, link) in
        ap (λ (b : ℕ). by_notes.roles b) block ∙ (stands.shown.shows.all.shown.maps of st is).tables.roles t it.made ((its_sight inside).tables t it.made it.known)

    -- and there, so no word of a link to it is 0
    table_there : IsInside (w.uses (slot_of i)) → (t : ℕ) (table : Table) → IsTable st.chart seen table t → table.link ≢ 0
    table_there inside t table it none =
        let role_is = noted_table inside t table it in
        let has : HasRole w m.stored (block_in table.link) (role.Table (table_of of t) (st.chart.len t)) =
        subst (λ (r : Role). HasRole w m.stored (block_in table.link) r) role_is (stands.shown.shows.all.shown.blocks.roles (block_in table.link)) in
        let pos : 0 < block_in table.link = live_pos w.memory (block_in table.link) (ap is_some has.1) in
        omega (arith, none, pos)

    module _ (mode : is_incremental st.setting.mode ≡ true) where
      -- what a copier of a whole table knows
      pub whole_knows : (copier : Copier) → CopiesWhole same hash w i its_setting st.chart seen copier → CopierFacts same hash w i its_setting st.chart seen copier
      whole_knows copier whole =
          (chosen ((copier.whole ≡ true) × CopierFacts same hash w i its_setting st.chart seen copier × IsEnding same hash w i its_setting st.chart seen copier copier.stands)
          (CopierFactsBlocking same hash w i its_setting st.chart seen copier) (is_incremental its_setting.mode) mode whole).1

      -- what it knows of its copier, where that stands at no row
      module _ (q : Copier) (none : IsRowOfCopier q.stands → ⊥) where
        abbrev Knows : Type 0
        Knows = CopierFacts same hash w i its_setting st.chart seen q

        key_knows : (u : CallOnKey K V K) (point : Calling) → copier_in point ≡ Some q → CallingFacts same hash same w i its_setting st.chart seen u.keys u.change u.call point → Knows
        key_knows u (at.Helps copier goal) e f = subst (λ (y : Copier). CopierFacts same hash w i its_setting st.chart seen y) (the copier q e) f.6
        key_knows u (at.Copies copier) e f = absurd (let blocking = f.1 in cc (mode, blocking))
        key_knows u _ e f = absurd (cc e)

        key_facts : (u : CallOnKey K V K) → copier_in u.call.stands ≡ Some q
            → CallFacts same hash same w i its_setting st.chart seen u.keys u.change u.call
            ⊎ ((u.change ≡ Unchanged) × SupersededCallFacts same hash same w i its_setting st.chart seen u.keys u.began u.call) → Knows
        key_facts u e (inl fresh) = key_knows u u.call.stands e fresh.point
        key_facts u e (inr (same_change, late)) = absurd (let blocking = late.blocking in cc (mode, blocking))

        room_knows : (point : Reserving) → copier_in_room point ≡ Some q → ReservingFacts same hash w i its_setting st.chart seen point → Knows
        room_knows (reserves.Copies copier) e f = subst (λ (y : Copier). CopierFacts same hash w i its_setting st.chart seen y) (the copier q e) (whole_knows copier f)
        room_knows _ e f = absurd (cc e)

        sweep_knows : (began : ℕ) (o : Sweep) (point : Sweeping) → copier_in_sweep point ≡ Some q → SweepingFacts same hash w i its_setting st.chart seen began o point → Knows
        sweep_knows began o (sweeps.Copies copier) e (inl whole) = subst (λ (y : Copier). CopierFacts same hash w i its_setting st.chart seen y) (the copier q e) (whole_knows copier whole)
        sweep_knows began o (sweeps.Copies copier) e (inr (blocking, late)) = absurd (cc (mode, blocking))
        sweep_knows began o _ e f = absurd (cc e)

        knows_of : (y : UnderWay K V K) → x ≡ y → copier_of y ≡ Some q → Knows
        knows_of (OnKey u) e within = elim (all_together.stand i (OnKey u) (under ∙ ap (λ (y : UnderWay K V K). Some y) e)) as (λ _. Knows) [
          | inl rests ↦ key_facts u within rests.1.facts
          | inr row ↦ absurd (none (key_row u.call.stands q within row.1))
        ]
        knows_of (ForRoom r) e within = elim (all_together.stand i (ForRoom r) (under ∙ ap (λ (y : UnderWay K V K). Some y) e)) as (λ _. Knows) [
          | inl rests ↦ elim rests.1.facts as (λ _. Knows) [
            | inl fresh ↦ room_knows r.reserve.stands within fresh.point
            | inr late ↦ absurd (let blocking = late.blocking in cc (mode, blocking))
          ]
          | inr row ↦ absurd (none (room_row r.reserve.stands q within row.1))
        ]
        knows_of (OverAll o) e within = elim (all_together.stand i (OverAll o) (under ∙ ap (λ (y : UnderWay K V K). Some y) e)) as (λ _. Knows) [
          | inl rests ↦ sweep_knows o.began o.sweep o.sweep.stands within rests.1.facts.point
          | inr row ↦ absurd (none (sweep_row o.sweep.stands q within row.1))
        ]
        knows_of (Counting sum) e within = absurd (cc within)

        pub copier_knows : copier_of x ≡ Some q → Knows
        copier_knows within = knows_of x refl within

  -- where a copier is to say that a copying is over, it has unlinked its source, and its target is a later table
  module _ (k : ℕ) (u : UnderWay K V K) (has : stands.scene.calls of k ≡ Some u) (q : Copier) (within : copier_of u ≡ Some q) (here : q.stands ≡ copies.Announces) where
    abbrev Unlinked : Type 0
    Unlinked = (s : ℕ) × (t : ℕ) × (s < t) × IsTable st.chart (seen_by st.blocks (st.sights (slot_of k))) q.source s × (q.target.turn ≡ t)

    none_there : IsRowOfCopier q.stands → ⊥
    none_there row = subst (λ (s : Copying). IsRowOfCopier s) here row

    at_chunks : CopierFacts same hash w k (in_slot st.setting (slot_of k)) st.chart (seen_by st.blocks (st.sights (slot_of k))) q → Unlinked
    at_chunks facts = by (subst (λ (s : Copying). CopyingFacts same hash w k (in_slot st.setting (slot_of k)) st.chart (seen_by st.blocks (st.sights (slot_of k))) q s) here facts.point)
      where
        by : CopyingFacts same hash w k (in_slot st.setting (slot_of k)) st.chart (seen_by st.blocks (st.sights (slot_of k))) q copies.Announces → Unlinked
        by ((s, upto, source, target, cut), done, none) = (s, suc s, (let next : s < suc s = omega arith in next), source, ap (λ (y : Table). y.turn) target.is)

    at_once : CopierFactsBlocking same hash w k (in_slot st.setting (slot_of k)) st.chart (seen_by st.blocks (st.sights (slot_of k))) q → Unlinked
    at_once facts = by (subst (λ (s : Copying). CopyingFactsBlocking same hash w k (in_slot st.setting (slot_of k)) st.chart (seen_by st.blocks (st.sights (slot_of k))) q s) here facts.point)
      where
        by : CopyingFactsBlocking same hash w k (in_slot st.setting (slot_of k)) st.chart (seen_by st.blocks (st.sights (slot_of k))) q copies.Announces → Unlinked
        by (s, source, unlinked) = (s, st.chart.first, unlinked.0, source, ap (λ (y : Table). y.turn) unlinked.1.is)

    at_last : (began : ℕ) → SupersededCopierFacts same hash w k (in_slot st.setting (slot_of k)) st.chart (seen_by st.blocks (st.sights (slot_of k))) began q → Unlinked
    at_last began facts = by (subst (λ (s : Copying). SupersededCopying same hash w k (in_slot st.setting (slot_of k)) st.chart (seen_by st.blocks (st.sights (slot_of k))) began q s) here facts.point)
      where
        by : SupersededCopying same hash w k (in_slot st.setting (slot_of k)) st.chart (seen_by st.blocks (st.sights (slot_of k))) began q copies.Announces → Unlinked
        by (s, t, source, unlinked) = (s, t, unlinked.0, source, ap (λ (y : Table). y.turn) unlinked.1.is)

    unlinked : Unlinked
    unlinked = by (is_incremental st.setting.mode) refl
      where
        by : (b : Bool) → is_incremental st.setting.mode ≡ b → Unlinked
        by true mode = at_chunks (copier_knows k u has mode q none_there within)
        by false mode = elim (knows_at_once V same hash same st.setting slot_of w st.chart st.blocks st.sights calls_on all_together mode k q u has within none_there) as (λ _. Unlinked) [
          | inl fresh ↦ at_once fresh
          | inr late ↦ at_last late.0 late.1
        ]

  -- a call that waits for whichever copying of a table
  module _ (i : ℕ) (x : UnderWay K V K) (under : stands.scene.calls of i ≡ Some x) (resizes : IsForResizes same m (stands.shown.shows.all.shown.calls of i x under).0) where
    abbrev Waits : Type 0
    Waits = list_any (may_wait_for same (stands.shown.shows.all.shown.calls of i x under).0 m) m.calls ≡ true

    -- another one, that is to say that a copying is over, hands over the table that it has unlinked
    module _ (k : ℕ) (u : UnderWay K V K) (has : stands.scene.calls of k ≡ Some u) (other : k ≡ i → ⊥) (q : Copier) (within : copier_of u ≡ Some q) where
      never : IsLooking (machine_of u) → ⊥
      never looks = (let both = sym (looking_none u looks) ∙ within in cc both)

      abbrev one : (d : CallThere K V) × (call_of (stands.name k) m ≡ Some d) × (d.map ≡ of) × IsCalled same u d.call
      one = stands.shown.shows.all.shown.calls of k u has

      announcing : q.stands ≡ copies.Announces → Waits
      announcing here =
          let cut = unlinked k u has q within here in
          let owes : one.0.owes ≡ passed of cut.0 q.target.turn =
          stands.shown.kept.owed.owed of k u has one.0 one.1 ∙ hand_of by_notes q u within ∙ ap (λ (y : Copying). tables_in_hand by_notes q y) here
          ∙ tables_named by_notes q q.source.link (st.chart.len cut.0) (table_of of cut.0) (table_there k u has (within_section k u has q within) cut.0 q.source cut.3)
          (noted_table k u has (within_section k u has q within) cut.0 q.source cut.3) in
          let first : passed of cut.0 q.target.turn ≡ numbered of cut.0 ∷ passed of (suc cut.0) q.target.turn =
          passed_first of cut.0 q.target.turn (let behind = cut.2 in let turn = cut.4 in omega (arith, behind, turn)) in
          waits_for_handing same hash terms m p stands of of i k x u under has other resizes refl never
          (owing_hands same hash terms m p stands of of i k x u under has other (numbered of cut.0) (passed of (suc cut.0) q.target.turn) (owes ∙ first))

      at_its_end : (t : ℕ) → t < st.chart.past → EndsAt st.chart q q.stands t → Waits
      at_its_end t made ends = by q.stands refl ends
        where
          by : (s : Copying) → q.stands ≡ s → EndsAt st.chart q s t → Waits
          by copies.Promotes here (turn, behind) = waits_for_copier same hash terms m p stands of of i k x u under has other resizes refl never st is (omega (arith, behind, made))
          by copies.Announces here (turn, upto) = announcing here
          by _ here none = absurd none

    pub other_waits : HasOther st.chart calls_on i → Waits
    other_waits (k, u, has, other, inl (linked, works)) = waits_for_copier same hash terms m p stands of of i k x u under has other resizes refl (λ looks. works (only_looks_by u looks)) st is linked
    other_waits (k, u, has, other, inr (t, made, q, within, ends)) = at_its_end k u has other q within t made ends
