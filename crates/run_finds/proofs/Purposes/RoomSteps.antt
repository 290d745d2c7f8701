-- A step of a reservation that is under way, in the words of a run.
use Rattle.std.specs.Prelude.{◌≡◌, ℕ, zero, suc, ◌+◌, ◌^◌, ◌<◌, ◌≤◌, nat_lt, Bool, false, List, Option, Some, None, Result, Ok, Err}
use Rattle.std.proofs.Common.{refl, ap, sym, subst, ◌∙◌, arith}
use Rattle.run_finds.specs.Given.SeizeWordsMem.{Mem, Took, value_at, word_at}
use Rattle.run_finds.specs.Given.SeizeWordsPlan.{Steps}
use Rattle.run_finds.specs.Given.SeizeWordsDeclared.at.At.TheVariants.{Word}
use Rattle.run_finds.specs.Given.SeizeWordsDeclared.fault.Fault.{Fault}
use Rattle.run_finds.proofs.Given.SeizeRuleRows.Leaving.{steps_back}
use Rattle.run_finds.specs.Given.SeizeDeclared.advance.Advance.TheVariants as counting
use Rattle.run_finds.specs.Given.TablesLengths.{len_of}
use Rattle.run_finds.specs.Given.TablesDeclared.node.Node.{Node}
use Rattle.run_finds.specs.Given.TablesDeclared.setting.Setting.{Setting}
use Rattle.run_finds.specs.Given.TablesDeclared.table.Table.{Table}
use Rattle.run_finds.specs.Given.ResizeDeclared.yielding.Yielding.{Yielding}
use Rattle.run_finds.specs.Given.ResizeDeclared.yielding.Yielding.TheVariants as outcome
use Rattle.run_finds.specs.Given.ResizeSum.{sum_plan}
use Rattle.run_finds.specs.Given.ResizeDeclared.sum.Sum.{Sum}
use Rattle.run_finds.specs.Given.ReservesReserve.{or_too_long, needed, plan_at, reserve_plan}
use Rattle.run_finds.specs.Given.ReservesDeclared.reserve.Reserve.{Reserve}
use Rattle.run_finds.specs.Given.ReservesDeclared.reserve.Reserving.{Reserving}
use Rattle.run_finds.specs.Given.ReservesDeclared.reserve.Reserving.TheVariants as reserving
use Rattle.run_finds.specs.Given.RawMachine.{machine_plan, reserved}
use Rattle.run_finds.specs.Given.RawDeclared.machines.machine.Machine.{Machine}
use Rattle.run_finds.specs.Given.RawDeclared.machines.machine.Machine.TheVariants as kinds
use Rattle.run_finds.specs.Given.RawDeclared.machines.progress.Answer.TheVariants as answers
use Rattle.run_finds.specs.Given.RawDeclared.machines.progress.Progress.{Progress}
use Rattle.run_finds.specs.Given.RawDeclared.machines.progress.Progress.TheVariants as progress
use Rattle.run_finds.specs.Given.SchedulesCounts.{AddsUp, Counts}
use Rattle.run_finds.specs.Given.SchedulesLists.{OneOf}
use Rattle.run_finds.specs.Given.SchedulesMoment.{UnderWay as CallThere, Moment}
use Rattle.run_finds.specs.Given.SchedulesSweeps.{Fits}
use Rattle.run_finds.specs.Given.RuleInWorld.{IsMapIn}
use Rattle.run_finds.specs.Given.RuleMaps.{IsTable}
use Rattle.run_finds.specs.Given.PointsFactsTables.{CountsShards, SumFacts}
use Rattle.run_finds.specs.Given.CallersRooms.{CallForRoom}
use Rattle.run_finds.specs.Given.CallersSights.{seen_by}
use Rattle.run_finds.specs.Given.CallersTogether.{UnderWay, ForRoom, Together, in_slot}
use Rattle.run_finds.specs.Given.FinishesMachines.{ContinuesAs}
use Rattle.run_finds.specs.Given.FinishesMaps.{Standing}
use Rattle.run_finds.specs.Given.LateToldReserves.{IsRowOfReserve}
use Rattle.run_finds.specs.Given.EffectsDeclared.changed.Changed.TheVariants.{Nothing}
use Rattle.run_finds.proofs.Given.OthersOutcomes.{told_in}
use Rattle.run_finds.proofs.Given.ChangesLogs.{now_there}
use Rattle.run_finds.specs.Reserving.{ReservesAt, SumTells}
use Rattle.run_finds.proofs.Reserving.{rooms_keep_count}
use Rattle.run_finds.specs.Purposes.Needs.{NeedsAt}
use Rattle.run_finds.specs.Purposes.Purposes.{RoomAt, HasMet}
use Rattle.run_finds.specs.Purposes.Shards.{ReadsShards}
use Rattle.run_finds.proofs.Purposes.Needs.{rooms_keep_needs}
use Rattle.run_finds.proofs.Purposes.RoomFacts.{turn_is, Point, StandsSo, room_setting, room_point, room_knows, was_root}
use Rattle.run_finds.proofs.Purposes.RoomPoints.{LedAt, Led, reads_lead, makes_lead, sums_lead, follows_lead, grows_lead, copies_lead}
use Rattle.run_finds.proofs.Purposes.Sums.{counting_on}
use Rattle.run_finds.proofs.Given.ScenesTold.{as_step}
use Rattle.run_finds.specs.Given.ScenesHeld.{Held, IsAt}
use Rattle.run_finds.specs.Given.ScenesScene.{Scene, slot_of}
use Rattle.run_finds.specs.Given.ScenesStepping.{StepsFrom}
use Rattle.run_finds.specs.Given.ChangesHistories.{IsPast}
use Rattle.run_finds.specs.Given.SchedulesTransition.{Past}

-- a table that is not too short, for a length that can be had
fits_so : (o : Result ℕ Fault) (len : ℕ) → nat_lt (2 ^ 48) (or_too_long o) ≡ false → nat_lt len (or_too_long o) ≡ false → Fits o len
fits_so (Ok need) len many short = grind (arith, short)
fits_so (Err fault) len many short = absurd (grind (arith, many))

module _ {K V : Type 0} (same : K → K → Bool) (hash : ℕ → K → ℕ) (log : Past K V) (is_past : IsPast log) (m : Moment K V) (s : Scene K V) (old new : Held K V) (at : IsAt same hash old s)
    (of i : ℕ) (r : CallForRoom) (here : s.calls of i ≡ Some (ForRoom r)) (st : Standing K) (there : s.maps of ≡ Some st) (c : CallThere K V) (before : c.begun ≤ log.entries)
    (shards : ReadsShards log m s of (ForRoom r)) (has : HasMet of st (log.since c.begun) r)
    (machine : Machine K V K) (said : Progress (Node K V)) (steps : StepsFrom same st.hash (kinds.Reserve r.reserve) old new machine said) where
  abbrev mem : Mem (Node K V)
  mem = s.world.memory

  abbrev p : Reserve
  p = r.reserve

  abbrev moments : List (Moment K V)
  moments = log.since c.begun

  each : Together V same st.hash same st.setting slot_of s.world st.chart st.blocks st.sights (s.calls of)
  each = at.together.makings.standing.each of st there

  its_map : IsMapIn same st.hash st.setting s.world st.chart st.blocks
  its_map = each.ground.map

  stands : StandsSo V same st.hash st.setting slot_of s.world st.chart (seen_by st.blocks (st.sights (slot_of i))) i r
  stands = each.stand i (ForRoom r) here

  setting_is : p.setting ≡ in_slot st.setting (slot_of i)
  setting_is = room_setting V same st.hash st.setting slot_of s.world st.chart (seen_by st.blocks (st.sights (slot_of i))) i r stands

  -- at its end: a count of the shards, and a table that is the root, or was, with room for so many more
  abbrev pub EndsSo : Type 0
  EndsSo =
      (count : ℕ) × Counts (suc st.setting.mask) of moments count × (t : ℕ) × (has.low ≤ t) × (t ≤ st.chart.first) × (t < st.chart.past)
      × Fits (len_of (count + p.additional)) (st.chart.len t)

  abbrev Knows : Reserving → Type 0
  Knows x = Point V same st.hash st.setting slot_of s.world st.chart (seen_by st.blocks (st.sights (slot_of i))) i r x

  -- what it counts
  module _ (table : Table) (sum : Sum) (is : p.stands ≡ reserving.Sums table sum) (knows : Knows p.stands) where
    known : SumFacts (in_slot st.setting (slot_of i)) sum × (t : ℕ) × IsTable st.chart (seen_by st.blocks (st.sights (slot_of i))) table t × (t ≤ st.chart.first)
    known = was_root same st.hash s.world i (in_slot st.setting (slot_of i)) st.chart (seen_by st.blocks (st.sights (slot_of i))) r.began p.stands table sum is knows

    pub few : CountsShards sum.setting sum.stands
    few = subst (λ (x : Setting). CountsShards x sum.stands) (sym known.0.0) known.0.1

    pub reads : (shard : ℕ) → shard ≤ sum.setting.mask → word_at mem (Word sum.setting.counter shard) ≡ Some (log.now.shards of shard)
    reads shard l =
        ap (λ (x : Setting). word_at mem (Word x.counter shard)) known.0.0
        ∙ (shards tt).0 of st there shard (subst (λ (x : Setting). shard ≤ x.mask) known.0.0 l) ∙ ap Some ((shards tt).1.0 shard)

    -- what it comes to where that is enough
    pub ends : has.low ≤ table.turn → (count : ℕ) → Counts (suc sum.setting.mask) of moments count → nat_lt (2 ^ 48) (needed p.additional count) ≡ false
        → nat_lt table.len (needed p.additional count) ≡ false → EndsSo
    ends l count counts many short = (
      count,
      subst (λ (x : Setting). Counts (suc x.mask) of moments count) known.0.0 counts,
      known.1,
      (let turn = turn_is st.chart (seen_by st.blocks (st.sights (slot_of i))) table known.1 known.2 in omega (arith, l, turn)),
      known.3,
      known.2.made,
      subst (Fits (len_of (count + p.additional))) (ap (λ (x : Table). x.len) known.2.is) (fits_so (len_of (count + p.additional)) table.len many short),
    )

  last : (P : Moment K V → Type 0) → P log.now → OneOf P moments
  last P it = now_there log is_past P c.begun before it

  -- what it knows outside of rows
  knows_at : (x : Reserving) → (IsRowOfReserve x → ⊥) → p.stands ≡ x → Knows p.stands
  knows_at x none is =
      room_point V same st.hash st.setting slot_of s.world st.chart (seen_by st.blocks (st.sights (slot_of i))) i r stands (λ row. none (subst IsRowOfReserve is row))

  -- where a counting would be done by the step, it has counted so many;
  pub counts_then : (table : Table) (sum sum2 : Sum) (count : ℕ) → p.stands ≡ reserving.Sums table sum → (mem2 : Mem (Node K V)) → Steps Took value_at mem (sum_plan sum) mem2 (sum2, counting.Done count)
      → Counts (suc p.setting.mask) of moments count
  counts_then table sum sum2 count is mem2 step =
      let here = knows_at (reserving.Sums table sum) (λ row. row) is in
      subst (λ (x : Setting). Counts (suc x.mask) of moments count) ((known table sum is here).0.0 ∙ sym setting_is)
      (counting_on of moments mem sum log.now last (reads table sum is here) (few table sum is here) (subst (RoomAt of moments has.low) is has.point).1 mem2 (sum2, counting.Done count) step)

  -- and so has one that is
  tells : SumTells of moments p old.memory new.memory new.changed
  tells table sum sum2 count is step =
      counts_then table sum sum2 count is new.memory
      (subst (λ (x : Mem (Node K V)). Steps Took value_at x (sum_plan sum) new.memory (sum2, counting.Done count)) (sym at.memory)
      (as_step old.memory Nothing (sum_plan sum) new.memory new.changed (sum2, counting.Done count) step))

  -- where the map has had no table it has counted nothing, as the last event was over
  counted_none : st.chart.past ≡ 0 → (n : ℕ) → Counts n of moments 0
  counted_none past n = (0, adds_none n, refl)
    where
      adds_none : (n : ℕ) → AddsUp of moments n 0
      adds_none zero = refl
      adds_none (suc shard) =
          last (λ x. (rest : ℕ) × AddsUp of moments shard rest × (0 ≡ rest + x.shards of shard))
          (0, adds_none shard, (let none = (shards tt).2 st there past shard in omega (arith, none)))

  abbrev Step : Reserving → Reserve × Yielding (Node K V) Unit → Type 0
  Step x end = Steps Took value_at mem (plan_at st.hash p x) new.memory end

  -- the step, and what the machine says of it
  its_step : (end : Reserve × Yielding (Node K V) Unit) × Step p.stands end × ((machine, said) ≡ reserved end)
  its_step =
      let b = steps_back reserved old.memory new.memory (reserve_plan st.hash p) (machine, said)
      (as_step old.memory Nothing (machine_plan same same st.hash (kinds.Reserve p)) new.memory new.changed (machine, said) steps) in
      (b.0, subst (λ (x : Mem (Node K V)). Steps Took value_at x (reserve_plan st.hash p) new.memory b.0) (sym at.memory) b.1, b.2)

  -- where it leads
  led : (end : Reserve × Yielding (Node K V) Unit) → Step p.stands end → Led of moments has.low EndsSo end
  led end step = by p.stands refl has.point step
    where
      by : (x : Reserving) → p.stands ≡ x → RoomAt of moments has.low x → Step x end → Led of moments has.low EndsSo end
      by reserving.Reads is h step =
          reads_lead of moments has.low EndsSo same st.hash st.setting s.world st.chart st.blocks its_map has.root log.now last p (ap (λ (x : Setting). x.root) setting_is)
          counted_none new.memory end step
      by (reserving.Makes making) is h step = makes_lead of moments has.low EndsSo st.hash p making h mem new.memory end step
      by (reserving.Sums table sum) is h step =
          sums_lead of moments has.low EndsSo same st.hash st.setting s.world st.chart st.blocks its_map has.root log.now last p (ap (λ (x : Setting). x.root) setting_is) table sum h.0
          (reads table sum is (knows_at (reserving.Sums table sum) (λ row. row) is)) (few table sum is (knows_at (reserving.Sums table sum) (λ row. row) is)) h.1
          (ends table sum is (knows_at (reserving.Sums table sum) (λ row. row) is) h.0) new.memory end step
      by (reserving.Follows table need) is h step =
          follows_lead of moments has.low EndsSo st.hash p table need h (subst (LedAt of moments has.low EndsSo) (sym is) h) mem new.memory end step
      by (reserving.Grows table making) is h step = grows_lead of moments has.low EndsSo st.hash p table making h mem new.memory end step
      by (reserving.Copies copier) is h step =
          copies_lead of moments has.low EndsSo st.hash p copier (room_knows V same st.hash st.setting slot_of s.world st.chart (seen_by st.blocks (st.sights (slot_of i))) i r stands copier is) h.0 h.1 mem
          new.memory end step
      by reserving.Over is h step = absurd h
      by (reserving.Refused fault) is h step = absurd h

  -- where it goes on
  pub room_goes : (next : Option (UnderWay K V K)) → ContinuesAs machine said next → (x : UnderWay K V K) → next ≡ Some x → (p2 : Reserve) → machine ≡ kinds.Reserve p2 → LedAt of moments has.low EndsSo p2.stands
  room_goes next goes x e p2 machine_is = by its_step.0 its_step.2 (led its_step.0 its_step.1)
    where
      ended : next ≡ None → ⊥
      ended gone = cc (gone, e)

      same_one : (q : Reserve) → machine ≡ kinds.Reserve q → q ≡ p2
      same_one q is = cc (is, machine_is)

      by : (end : Reserve × Yielding (Node K V) Unit) → (machine, said) ≡ reserved end → Led of moments has.low EndsSo end → LedAt of moments has.low EndsSo p2.stands
      by (q, outcome.Goes) is so = subst (λ (y : Reserve). LedAt of moments has.low EndsSo y.stands) (same_one q (ap (λ z. z.0) is)) so
      by (q, outcome.Waits) is so = subst (λ (y : Reserve). LedAt of moments has.low EndsSo y.stands) (same_one q (ap (λ z. z.0) is)) so
      by (q, outcome.Gave value) is so = subst (λ (y : Reserve). LedAt of moments has.low EndsSo y.stands) (same_one q (ap (λ z. z.0) is)) so
      by (q, outcome.Done end) is so = absurd (ended (subst (λ (y : Progress (Node K V)). ContinuesAs machine y next) (ap (λ z. z.1) is) goes))
      by (q, outcome.Refused fault) is so = absurd (ended (subst (λ (y : Progress (Node K V)). ContinuesAs machine y next) (ap (λ z. z.1) is) goes))

  -- what it has counted, and which table it makes
  pub room_keeps : (p2 : Reserve) → machine ≡ kinds.Reserve p2 → ReservesAt of moments p2 p2.stands × NeedsAt of moments p2 p2.stands
  room_keeps p2 machine_is =
      let it = told_in old.memory new.memory new.changed reserved (reserve_plan st.hash p) (machine, said) steps in
      let one = its_one it.0 it.1 in (
        subst (λ (y : Reserve). ReservesAt of moments y y.stands) one
            (rooms_keep_count K V st.hash of moments p old.memory new.memory new.changed it.0 has.reserves tells it.2),
        subst (λ (y : Reserve). NeedsAt of moments y y.stands) one (rooms_keep_needs st.hash of moments p old.memory new.memory new.changed it.0 has.needs tells it.2),
      )
    where
      its_one : (end : Reserve × Yielding (Node K V) Unit) → (machine, said) ≡ reserved end → end.0 ≡ p2
      its_one (q, o) is = (let its : machine ≡ kinds.Reserve q = ap (λ z. z.0) is in cc (its, machine_is))

  -- where it ends
  pub room_ends : said ≡ progress.Done answers.Reserved → EndsSo
  room_ends done = by its_step.0 its_step.2 (led its_step.0 its_step.1)
    where
      by : (end : Reserve × Yielding (Node K V) Unit) → (machine, said) ≡ reserved end → Led of moments has.low EndsSo end → EndsSo
      by (q, outcome.Goes) is so = absurd (let told = ap (λ z. z.1) is in cc (told, done))
      by (q, outcome.Waits) is so = absurd (let told = ap (λ z. z.1) is in cc (told, done))
      by (q, outcome.Gave value) is so = absurd (let told = ap (λ z. z.1) is in cc (told, done))
      by (q, outcome.Done end) is so = so
      by (q, outcome.Refused fault) is so = absurd (let told = ap (λ z. z.1) is in cc (told, done))
