-- In incremental mode, after each step of a reservation, and of a sweep, each copying that is not over has who ends it, if so before.
use Rattle.std.specs.Prelude.{Option, Some, None}
use Rattle.std.specs.Int.{IsPowerOfTwo}
use Rattle.std.proofs.Common.{◌≡◌, ℕ, Bool, true, List, ◌⊎◌, inl, inr, refl, ap, sym, subst, ◌∙◌}
use Rattle.seize_words.specs.OneMemory.Mem.{Mem, Took, value_at}
use Rattle.seize_words.specs.OneMemory.Plan.{Steps}
use Rattle.seize.specs.World.{World, with_at}
use Rattle.seize_acts.proofs.Given.SeizeRuleRows.Leaving.{steps_back}
use Rattle.map_tables.specs.Chunks.{is_incremental}
use Rattle.map_tables.specs.declared.node.Node.{Node}
use Rattle.map_tables.specs.declared.resize_mode.ResizeMode.{ResizeMode}
use Rattle.map_tables.specs.declared.setting.Setting.{Setting}
use Rattle.map_tables.specs.declared.table.Table.{Table}
use Rattle.map_machines.specs.Copier.{copier_plan}
use Rattle.map_machines.specs.declared.yielding.Yielding.{Yielding}
use Rattle.map_machines.specs.declared.yielding.Yielding.TheVariants as outcome
use Rattle.map_machines.specs.declared.copier.Copier.{Copier}
use Rattle.map_sweeps.specs.Reserves.Reserve as room_plans
use Rattle.map_sweeps.specs.declared.reserve.Reserve.{Reserve}
use Rattle.map_sweeps.specs.declared.reserve.Reserving.{Reserving}
use Rattle.map_sweeps.specs.declared.reserve.Reserving.TheVariants as reserves
use Rattle.map_sweeps.specs.Sweeps.Sweep as sweep_plans
use Rattle.map_sweeps.specs.declared.sweep.Sweep.{Sweep}
use Rattle.map_sweeps.specs.declared.sweep.Sweeping.{Sweeping}
use Rattle.map_sweeps.specs.declared.sweep.Sweeping.TheVariants as sweeps
use Rattle.map_sweeps.specs.declared.sweep.Swept.{Swept}
use Rattle.many_calls.specs.Given.RuleChart.{Chart}
use Rattle.many_calls.specs.Given.RuleInWorld.{IsMapIn}
use Rattle.many_calls.specs.Given.RuleMaps.{spot_of}
use Rattle.many_calls.specs.Given.RuleMoves.{Move, Links, Removes, after}
use Rattle.many_calls.specs.Given.RuleWords.{Blocks}
use Rattle.many_calls.specs.Given.PointsFactsCopies.{CopierFacts}
use Rattle.many_calls.specs.Given.PointsFactsCopiesBlocking.{CopierFactsBlocking}
use Rattle.many_calls.specs.Given.PointsSteps.{AreLawful}
use Rattle.many_calls.specs.Given.PointsTold.{IsBesideCopying, OnlyLinks}
use Rattle.many_calls.specs.Given.LateFactsReserves.{CopiesPairs, CopiesWhole, IsEnding, ReservingFacts, ReserveFacts}
use Rattle.many_calls.specs.Given.LateFactsSweeps.{CopiesPairs as SweepCopies, SweepingFacts}
use Rattle.many_calls.specs.Given.LateLateReserves.{SupersededReserveFacts}
use Rattle.many_calls.specs.Given.LateToldReserves.{IsRowOfReserve}
use Rattle.many_calls.specs.Given.LateToldSweeps.{IsRowOfSweep, OnlyRemoves}
use Rattle.many_calls.specs.OverAll.{CallOverAll, come_to}
use Rattle.many_calls.specs.Rooms.{CallForRoom}
use Rattle.many_calls.specs.Sights.{Visible, seen_by}
use Rattle.many_calls.specs.Sweeps.{SweepStepsTogether}
use Rattle.many_calls.specs.Together.{UnderWay, ForRoom, OverAll, Together, RoomStepsTogether, RoomOutcome, FreshRoom, LateRoom, next_for_room, next_over_all, in_slot}
use Rattle.map_measures.specs.Waits.Others.{HaveEnds, copier_in_room, copier_in_sweep, RoomsPreserveEnds, SweepsPreserveEnds}
use Rattle.map_measures.proofs.Waits.Claimed.{chosen}
use Rattle.map_measures.proofs.Waits.CopiersKeep.{beside_keeps, copier_keeps}
use Rattle.map_measures.proofs.Waits.EndingCalls.{copier_then}
use Rattle.map_measures.proofs.Waits.Promised.{map_of}
use Rattle.map_measures.proofs.Waits.SameEnds.{Reached}

-- it goes on within its copier where that goes on
room_on : {K V : Type 0} (Q : Type 0) (p : Reserve) (began : ℕ) (b : Copier × Yielding (Node K V) Table) (p2 : Reserve) (end : Yielding (Node K V) Unit)
    → (p2, end) ≡ room_plans.copied p b → b.1 ≡ outcome.Goes → copier_then (next_for_room {K = K} {V = V} {Q = Q} (record { began = began; reserve = p2 }) end) ≡ Some b.0
room_on {K} {V} Q p began (q, outcome.Goes) p2 end e goes =
    ap (λ (x : Reserve × Yielding (Node K V) Unit). copier_then (next_for_room {K = K} {V = V} {Q = Q} (record { began = began; reserve = x.0 }) x.1)) e
room_on Q p began (q, outcome.Waits) p2 end e goes = absurd (cc goes)
room_on Q p began (q, outcome.Gave value) p2 end e goes = absurd (cc goes)
room_on Q p began (q, outcome.Done table) p2 end e goes = absurd (cc goes)
room_on Q p began (q, outcome.Refused fault) p2 end e goes = absurd (cc goes)

sweep_on : {K V : Type 0} (Q : Type 0) (p : Sweep) (o : CallOverAll) (entered : ℕ) (done : List ℕ) (b : Copier × Yielding (Node K V) Table) (p2 : Sweep) (end : Swept (Node K V))
    → (p2, end) ≡ sweep_plans.copied p b → b.1 ≡ outcome.Goes → copier_then (next_over_all {K = K} {V = V} {Q = Q} (come_to o entered done p2) end) ≡ Some b.0
sweep_on {K} {V} Q p o entered done (q, outcome.Goes) p2 end e goes =
    ap (λ (x : Sweep × Swept (Node K V)). copier_then (next_over_all {K = K} {V = V} {Q = Q} (come_to o entered done x.0) x.1)) e
sweep_on Q p o entered done (q, outcome.Waits) p2 end e goes = absurd (cc goes)
sweep_on Q p o entered done (q, outcome.Gave value) p2 end e goes = absurd (cc goes)
sweep_on Q p o entered done (q, outcome.Done table) p2 end e goes = absurd (cc goes)
sweep_on Q p o entered done (q, outcome.Refused fault) p2 end e goes = absurd (cc goes)

module _ {K : Type 0} (hash : K → ℕ) (mode : ResizeMode) (c d : Chart K) where
  abbrev MovesBeside : Type 0
  MovesBeside = (d ≡ c) ⊎ ((move : Move K) × IsBesideCopying move × (d ≡ after (spot_of hash) (is_incremental mode) move c))

  links : OnlyLinks hash mode c d → MovesBeside
  links (inl is) = inl is
  links (inr (len, limit, is)) = inr (Links len limit, tt, is)

  removes : OnlyRemoves hash mode c d → MovesBeside
  removes (inl is) = inl is
  removes (inr (t, place, is)) = inr (Removes t place, tt, is)

module _ {K Q : Type 0} (V : Type 0) (same : K → K → Bool) (hash : K → ℕ) (asks : Q → K → Bool) (setting : Setting) (slot : ℕ → ℕ) where
  module _ (are : AreLawful same hash) (power : IsPowerOfTwo setting.initial) (mode : is_incremental setting.mode ≡ true)
      (w : World (Node K V)) (c : Chart K) (blocks : Blocks) (sights : ℕ → Visible) (calls : ℕ → Option (UnderWay K V Q))
      (s : Together V same hash asks setting slot w c blocks sights calls) (ends : HaveEnds c calls) (i : ℕ) (m2 : Mem (Node K V)) where
    abbrev seen : Blocks
    seen = seen_by blocks (sights (slot i))

    abbrev its_setting : Setting
    its_setting = in_slot setting (slot i)

    -- what a copier of a whole table knows
    whole_knows : (copier : Copier) → CopiesWhole same hash w i its_setting c seen copier → CopierFacts same hash w i its_setting c seen copier
    whole_knows copier whole =
        (chosen ((copier.whole ≡ true) × CopierFacts same hash w i its_setting c seen copier × IsEnding same hash w i its_setting c seen copier copier.stands)
        (CopierFactsBlocking same hash w i its_setting c seen copier) (is_incremental its_setting.mode) mode whole).1

    module _ (r : CallForRoom) (has : calls i ≡ Some (ForRoom r)) (none : IsRowOfReserve r.reserve.stands → ⊥) (p2 : Reserve) (end : Yielding (Node K V) Unit)
        (steps : Steps Took value_at w.memory (room_plans.reserve_plan hash r.reserve) m2 (p2, end))
        (leads : RoomStepsTogether V same hash asks setting slot w c blocks sights calls i r m2 p2 end) where
      map : IsMapIn same hash its_setting w c seen
      map = map_of V same hash asks setting slot w c blocks sights calls s i (s.inside i (ForRoom r) has)

      abbrev next : Option (UnderWay K V Q)
      next = next_for_room (record { began = r.began; reserve = p2 }) end

      abbrev After : Type 0
      After = HaveEnds leads.went.c2 (with_at calls i next)

      reached : Reached same hash its_setting are.lawful mode w i c seen map m2 leads.went.c2 leads.went.blocks2
      reached = (leads.went.w2, leads.went.memory, leads.went.map, leads.went.blocks_same, leads.went.tables, leads.went.moved)

      by_beside : copier_in_room r.reserve.stands ≡ None → (CopiesPairs r.reserve.stands → ⊥) → After
      by_beside within apart =
          beside_keeps same hash are its_setting power mode w i c seen map calls ends m2 leads.went.c2 leads.went.blocks2 reached next (ap copier_then has ∙ within)
          (links hash its_setting.mode c leads.went.c2 (told leads.went.told))
        where
          told : RoomOutcome V same hash asks setting slot c i r p2 end leads.went.w2 leads.went.c2 leads.went.blocks2 → OnlyLinks hash its_setting.mode c leads.went.c2
          told (FreshRoom fresh) = fresh.beside apart
          told (LateRoom blocking late) = absurd (cc (mode, blocking))

      by_fresh : (stands : Reserving) → r.reserve.stands ≡ stands → ReservingFacts same hash w i its_setting c seen stands → After
      by_fresh (reserves.Copies copier) here whole =
          let d = steps_back (room_plans.copied r.reserve) w.memory m2 (copier_plan hash copier) (p2, end)
          (subst (λ (stands : Reserving). Steps Took value_at w.memory (room_plans.plan_at hash r.reserve stands) m2 (p2, end)) here steps) in
          copier_keeps same hash are its_setting power mode w i c seen map calls ends m2 leads.went.c2 leads.went.blocks2 reached next copier
          (ap copier_then has ∙ ap copier_in_room here) (whole_knows copier whole)
          (λ row. none (subst (λ (stands : Reserving). IsRowOfReserve stands) (sym here) row)) d.0 d.1 (room_on Q r.reserve r.began d.0 p2 end d.2)
      by_fresh _ here f = by_beside (ap copier_in_room here) (λ copying. subst (λ (stands : Reserving). CopiesPairs stands) here copying)

      room_knows : ReserveFacts same hash w i its_setting c seen r.reserve ⊎ SupersededReserveFacts same hash w i its_setting c seen r.began r.reserve → After
      room_knows (inl fresh) = by_fresh r.reserve.stands refl fresh.point
      room_knows (inr late) = absurd (let blocking = late.blocking in cc (mode, blocking))

      room_keeps : After
      room_keeps = elim (s.stand i (ForRoom r) has) as (λ _. After) [
        | inl rests ↦ room_knows rests.1.facts
        | inr within ↦ absurd (none within.1)
      ]

    module _ (o : CallOverAll) (has : calls i ≡ Some (OverAll o)) (none : IsRowOfSweep o.sweep.stands → ⊥) (p2 : Sweep) (end : Swept (Node K V))
        (steps : Steps Took value_at w.memory (sweep_plans.sweep_plan hash o.sweep) m2 (p2, end))
        (leads : SweepStepsTogether V same hash asks setting slot w c blocks sights calls i o m2 p2 end) where
      sweeps_map : IsMapIn same hash its_setting w c seen
      sweeps_map = map_of V same hash asks setting slot w c blocks sights calls s i (s.inside i (OverAll o) has)

      abbrev sweeps_next : Option (UnderWay K V Q)
      sweeps_next = next_over_all (come_to o leads.entered2 leads.done2 p2) end

      abbrev SweepsAfter : Type 0
      SweepsAfter = HaveEnds leads.went.c2 (with_at calls i sweeps_next)

      sweeps_reached : Reached same hash its_setting are.lawful mode w i c seen sweeps_map m2 leads.went.c2 leads.went.blocks2
      sweeps_reached = (leads.went.w2, leads.went.memory, leads.went.map, leads.went.blocks_same, leads.went.tables, leads.went.moved)

      sweep_at : (stands : Sweeping) → o.sweep.stands ≡ stands → SweepingFacts same hash w i its_setting c seen o.began o.sweep stands → SweepsAfter
      sweep_at (sweeps.Copies copier) here (inl whole) =
          let d = steps_back (sweep_plans.copied o.sweep) w.memory m2 (copier_plan hash copier) (p2, end)
          (subst (λ (stands : Sweeping). Steps Took value_at w.memory (sweep_plans.plan_at hash o.sweep stands) m2 (p2, end)) here steps) in
          copier_keeps same hash are its_setting power mode w i c seen sweeps_map calls ends m2 leads.went.c2 leads.went.blocks2 sweeps_reached sweeps_next copier
          (ap copier_then has ∙ ap copier_in_sweep here) (whole_knows copier whole)
          (λ row. none (subst (λ (stands : Sweeping). IsRowOfSweep stands) (sym here) row)) d.0 d.1 (sweep_on Q o.sweep o leads.entered2 leads.done2 d.0 p2 end d.2)
      sweep_at (sweeps.Copies copier) here (inr (blocking, late)) = absurd (cc (mode, blocking))
      sweep_at _ here f =
          beside_keeps same hash are its_setting power mode w i c seen sweeps_map calls ends m2 leads.went.c2 leads.went.blocks2 sweeps_reached sweeps_next
          (ap copier_then has ∙ ap copier_in_sweep here)
          (removes hash its_setting.mode c leads.went.c2 (leads.went.told.beside (λ copying. subst (λ (stands : Sweeping). SweepCopies stands) here copying)))

      sweep_keeps : SweepsAfter
      sweep_keeps = elim (s.stand i (OverAll o) has) as (λ _. SweepsAfter) [
        | inl rests ↦ sweep_at o.sweep.stands refl rests.1.facts.point
        | inr within ↦ absurd (none within.1)
      ]

  pub rooms_keep_ends : RoomsPreserveEnds V same hash asks setting slot
  rooms_keep_ends are power mode w c blocks sights calls s ends i r has none m2 p2 end steps leads =
      room_keeps are power mode w c blocks sights calls s ends i m2 r has none p2 end steps leads

  pub sweeps_keep_ends : SweepsPreserveEnds V same hash asks setting slot
  sweeps_keep_ends are power mode w c blocks sights calls s ends i o has none m2 p2 end steps leads =
      sweep_keeps are power mode w c blocks sights calls s ends i m2 o has none p2 end steps leads
