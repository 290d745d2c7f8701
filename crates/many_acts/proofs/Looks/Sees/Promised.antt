-- What a step of any call has seen at no row lasts.
use Rattle.std.specs.Prelude.{◌==◌, ◌/◌, ◌<◌, ◌^◌, Option, Some}
use Rattle.std.proofs.Common.{◌≡◌, ℕ, Bool, true, ◌⊎◌, inl, inr, sym, subst, ap, ◌∙◌}
use Rattle.run_shows.specs.Given.SeizeWordsMem.{Mem}
use Rattle.run_shows.specs.Given.SeizeLaw.{holds, owner_of}
use Rattle.run_shows.specs.Given.SeizeWorld.{World, IsInside}
use Rattle.run_shows.specs.Given.TablesDeclared.node.Node.{Node}
use Rattle.run_shows.specs.Given.TablesDeclared.setting.Setting.{Setting}
use Rattle.run_shows.specs.Given.ResizeSum.{sum_plan}
use Rattle.run_shows.specs.Given.ReservesReserve.{reserve_plan}
use Rattle.run_shows.specs.Given.SweepsSweep.{sweep_plan}
use Rattle.run_shows.specs.Given.RawCall.{call_plan}
use Rattle.run_shows.specs.Given.RawMachine as machines
use Rattle.run_shows.specs.Given.RawMachine.{machine_plan}
use Rattle.run_shows.specs.Given.RawProgress.{of_called}
use Rattle.run_shows.specs.Given.RawDeclared.machines.answer.Called.{Called}
use Rattle.run_shows.specs.Given.RawDeclared.machines.answer.Called.TheVariants as called
use Rattle.run_shows.specs.Given.RawDeclared.machines.call.KeyCall.{KeyCall}
use Rattle.run_shows.specs.Given.RawDeclared.machines.machine.Machine.{Machine}
use Rattle.run_shows.specs.Given.RawDeclared.machines.machine.Machine.TheVariants as kinds
use Rattle.run_shows.specs.Given.RawDeclared.machines.progress.Progress.{Progress}
use Rattle.run_shows.specs.Given.RuleWords.{Blocks}
use Rattle.run_shows.specs.Given.RuleInWorld.{IsMapIn}
use Rattle.owner_facts.specs.Given.LateLateCalls.{SupersededCallFacts}
use Rattle.owner_facts.specs.Given.PointsFactsCalls.{Change, Unchanged, CallFacts}
use Rattle.owner_facts.specs.Given.PointsSteps.{AreLawful}
use Rattle.owner_facts.specs.Given.PointsTold.{IsRowOfCall}
use Rattle.owner_facts.specs.Given.LateToldReserves.{IsRowOfReserve}
use Rattle.owner_facts.specs.Given.LateToldSweeps.{IsRowOfSweep}
use Rattle.owner_facts.specs.Given.CallersOverAll.{CallOverAll}
use Rattle.owner_facts.specs.Given.CallersRooms.{CallForRoom}
use Rattle.owner_facts.specs.Given.CallersSights.{seen_by}
use Rattle.owner_facts.specs.Given.CallersTogether.{UnderWay, CallOnKey, OnKey, ForRoom, Counting, OverAll, Together, IsAtPoint, in_slot}
use Rattle.owner_facts.specs.Given.FinishesEndings.{Finishing, EndingsTogether}
use Rattle.owner_facts.specs.Given.FinishesMachines.{machine_of}
use Rattle.owner_facts.specs.Given.FinishesMakings.{Beginning}
use Rattle.owner_facts.specs.Given.FinishesMaps.{Standing}
use Rattle.many_acts.specs.Looks.Looks.{IsAtRow}
use Rattle.many_acts.specs.Looks.Sees.{HasSeen, Continues, IsOwnOf, StepsSeeWhatLasts}
use Rattle.many_acts.proofs.Looks.Lookups.{within, map}
use Rattle.many_acts.proofs.Looks.Sees.Calls.{SawOwn, call_lasts}
use Rattle.many_acts.proofs.Looks.Sees.Held.{AllSeen}
use Rattle.many_acts.proofs.Looks.Sees.Left.{left_call_lasts}
use Rattle.many_acts.proofs.Looks.Sees.Own.{IsOn}
use Rattle.many_acts.proofs.Looks.Sees.Plans.{seen_as}
use Rattle.many_acts.proofs.Looks.Sees.Rooms.{reserve_sees, left_reserve_sees, sweep_sees}
use Rattle.many_acts.proofs.Looks.Sees.Tables.{sum_sees_none}

-- a call on a key goes on as is told
goes_on : {K V : Type 0} (end : Called (Node K V)) → IsOn end → Continues (of_called end)
goes_on called.Goes on = tt
goes_on called.Waits on = tt
goes_on (called.Asks pair) on = tt
goes_on (called.Gave value) on = absurd on
goes_on (called.Unstored value) on = absurd on
goes_on (called.Done answer) on = absurd on
goes_on (called.Refused fault) on = absurd on

module _ {K Q : Type 0} (V : Type 0) (same : K → K → Bool) (asks : Q → K → Bool) (batch_size roots : ℕ) (slot : ℕ → ℕ) where
  module _ (w : World (Node K V)) (maps : ℕ → Option (Standing K)) (calls : ℕ → ℕ → Option (UnderWay K V Q)) (makers : ℕ → Option (Beginning K)) (enders : ℕ → Option (Finishing K V))
      (all : EndingsTogether V same asks batch_size roots slot w maps calls makers enders) (m : ℕ) (s : Standing K) (stands : maps m ≡ Some s)
      (i : ℕ) (m2 : Mem (Node K V)) (machine : Machine K V Q) (told : Progress (Node K V)) (b : ℕ) where
    together : Together V same s.hash asks s.setting slot w s.chart s.blocks s.sights (calls m)
    together = all.makings.standing.each m s stands

    lawful : AreLawful same s.hash
    lawful = (all.makings.standing.fit m s stands).0

    -- the section holds a block of the map
    abbrev IsHeld : ℕ → Type 0
    IsHeld x = (holds (slot i) x w.log ≡ true) × (owner_of x w.log ≡ s.setting.counter)

    abbrev Lasts : Type 0
    Lasts = IsHeld b ⊎ (IsOwnOf machine b × Continues told)

    abbrev here : Setting
    here = in_slot s.setting (slot i)

    abbrev its_seen : Blocks
    its_seen = seen_by s.blocks (s.sights (slot i))

    module _ (inside : IsInside (w.uses (slot i))) where
      its_within : AllSeen IsHeld s.chart its_seen
      its_within =
          let all_within = within same s.hash asks s.setting slot lawful w s.chart s.blocks s.sights (calls m) together i inside in
          let sight = (together.ground.sight (slot i) inside).0 in record {
            tables = λ t made known. (all_within.tables t made known, together.ground.owned.tables t made (sight.tables t made known));
            pairs = λ n stored known. (all_within.pairs n stored known, together.ground.owned.pairs n stored (sight.pairs n stored known));
          }

      its_map : IsMapIn same s.hash here w s.chart its_seen
      its_map = map same s.hash asks s.setting slot lawful w s.chart s.blocks s.sights (calls m) together i inside

      -- a call on a key
      module _ (u : CallOnKey K V Q) (has : calls m i ≡ Some (OnKey u)) (none : IsRowOfCall u.call.stands → ⊥) where
        abbrev Facts : Type 0
        Facts = CallFacts same s.hash asks w i here s.chart its_seen u.keys u.change u.call

        -- where the call has come to with its own pair
        own_lasts : (change : Change) (setting_is : u.call.setting ≡ here) (code : u.call.hash < 2 ^ 64) (first : KeyCall K V Q × Called (Node K V)) → machine ≡ kinds.Key first.0 → told ≡ of_called first.1
            → SawOwn same s.hash asks (lawful.fits) w (slot i) i s.chart its_seen here IsHeld its_within its_map u.keys change u.call setting_is code b m2 first → IsOwnOf machine b × Continues told
        own_lasts change setting_is code first is_machine is_told own =
            let keeps = own.keeps in (
              subst (λ (x : Machine K V Q). IsOwnOf x b) (sym is_machine) (keeps.1, ap (λ (x : ℕ). x == 0) keeps.0 ∙ own.some, own.block ∙ ap (λ (x : ℕ). x / 2048) (sym keeps.0)),
              subst (λ (x : Progress (Node K V)). Continues x) (sym is_told) (goes_on first.1 keeps.2),
            )

        key_lasts : Facts → HasSeen b w.memory (machine_plan asks same s.hash (kinds.Key u.call)) m2 (machine, told) → Lasts
        key_lasts facts saw =
            let first = seen_as machines.called b w.memory (call_plan asks same s.hash u.call) m2 (machine, told) saw in
            elim (call_lasts same s.hash asks (lawful.fits) w (slot i) i s.chart its_seen here IsHeld its_within its_map u.keys u.change u.call facts.setting_is facts.code b m2 first.0 facts none
            first.2) as (λ _. Lasts) [
              | inl held ↦ inl held
              | inr own ↦ inr (own_lasts u.change facts.setting_is facts.code first.0 (ap (λ (x : Machine K V Q × Progress (Node K V)). x.0) first.1) (ap (λ (x : Machine K V Q × Progress (Node K V)). x.1) first.1) own)
            ]

        left_lasts : SupersededCallFacts same s.hash asks w i here s.chart its_seen u.keys u.began u.call → HasSeen b w.memory (machine_plan asks same s.hash (kinds.Key u.call)) m2 (machine, told) → Lasts
        left_lasts facts saw =
            let first = seen_as machines.called b w.memory (call_plan asks same s.hash u.call) m2 (machine, told) saw in
            elim (left_call_lasts same s.hash asks (lawful.fits) w (slot i) i s.chart its_seen here IsHeld its_within its_map u.keys u.began u.call facts b m2 first.0 none first.2) as (λ _. Lasts) [
              | inl held ↦ inl held
              | inr own ↦ inr (own_lasts Unchanged facts.setting_is facts.code first.0 (ap (λ (x : Machine K V Q × Progress (Node K V)). x.0) first.1)
                  (ap (λ (x : Machine K V Q × Progress (Node K V)). x.1) first.1) own)
            ]

        key_stands : IsAtPoint V same s.hash asks s.setting slot w s.chart its_seen i (OnKey u) → HasSeen b w.memory (machine_plan asks same s.hash (kinds.Key u.call)) m2 (machine, told)
            → Lasts
        key_stands (inl (rests, knows)) saw = elim knows.facts as (λ _. Lasts) [
          | inl facts ↦ key_lasts facts saw
          | inr late ↦ left_lasts late.1 saw
        ]
        key_stands (inr (row, is_row, knows)) saw = absurd (none is_row)

      room_held : (r : CallForRoom) → (IsRowOfReserve r.reserve.stands → ⊥) → IsAtPoint V same s.hash asks s.setting slot w s.chart its_seen i (ForRoom r)
          → HasSeen b w.memory (machine_plan asks same s.hash (kinds.Reserve r.reserve)) m2 (machine, told) → IsHeld b
      room_held r none (inl (rests, knows)) saw =
          let first = seen_as machines.reserved b w.memory (reserve_plan s.hash r.reserve) m2 (machine, told) saw in
          elim knows.facts as (λ _. IsHeld b) [
            | inl facts ↦ reserve_sees same s.hash (lawful.fits) w (slot i) i s.chart its_seen here IsHeld its_within its_map b m2 r.reserve facts first.0 none first.2
            | inr late ↦ left_reserve_sees same s.hash (lawful.fits) w (slot i) i s.chart its_seen here IsHeld its_within its_map b m2 r.began r.reserve late first.0 none first.2
          ]
      room_held r none (inr (row, is_row, knows)) saw = absurd (none is_row)

      sweep_held : (o : CallOverAll) → (IsRowOfSweep o.sweep.stands → ⊥) → IsAtPoint V same s.hash asks s.setting slot w s.chart its_seen i (OverAll o)
          → HasSeen b w.memory (machine_plan asks same s.hash (kinds.Sweep o.sweep)) m2 (machine, told) → IsHeld b
      sweep_held o none (inl (rests, knows)) saw =
          let first = seen_as machines.swept b w.memory (sweep_plan s.hash o.sweep) m2 (machine, told) saw in
          sweep_sees same s.hash (lawful.fits) w (slot i) i s.chart its_seen here IsHeld its_within its_map b m2 o.began o.sweep knows.facts first.0 none first.2
      sweep_held o none (inr (row, is_row, knows)) saw = absurd (none is_row)

    by_kind : (u : UnderWay K V Q) → calls m i ≡ Some u → (IsAtRow u → ⊥) → HasSeen b w.memory (machine_plan asks same s.hash (machine_of u)) m2 (machine, told)
        → Lasts
    by_kind (OnKey u) has none saw = key_stands (together.inside i (OnKey u) has) u has none (together.stand i (OnKey u) has) saw
    by_kind (ForRoom r) has none saw = inl (room_held (together.inside i (ForRoom r) has) r none (together.stand i (ForRoom r) has) saw)
    by_kind (Counting sum) has none saw =
        let first = seen_as machines.counted b w.memory (sum_plan sum) m2 (machine, told) saw in absurd (sum_sees_none b w.memory m2 sum first.0 first.2)
    by_kind (OverAll o) has none saw = inl (sweep_held (together.inside i (OverAll o) has) o none (together.stand i (OverAll o) has) saw)

  pub steps_see : StepsSeeWhatLasts V same asks batch_size roots slot
  steps_see w maps calls makers enders all m s stands i u has none m2 machine told b saw =
      by_kind w maps calls makers enders all m s stands i m2 machine told b u has none saw
