-- A reservation and a sweep wait within their copyings, or within rows of the collector: so their plans say, whatever the memory is.
use Rattle.std.specs.Prelude.{◌==◌, ◌&&◌, nat_lt, if◌then◌else◌, Ok, Err}
use Rattle.std.proofs.Common.{◌≡◌, ℕ, ◌^◌, Bool, true, false, ap, sym, subst, ◌∙◌}
use Rattle.seize_words.specs.OneMemory.Word.{block_in}
use Rattle.seize_words.specs.declared.fault.Fault.TheVariants.{Capacity}
use Rattle.seize_words.specs.OneMemory.Mem.{Mem, Took, value_at}
use Rattle.seize_words.specs.OneMemory.Op.{Out, Found, Exchanged}
use Rattle.seize_words.specs.OneMemory.Plan.{Steps}
use Rattle.seize_acts.proofs.Given.SeizeRuleRows.Leaving.{steps_back}
use Rattle.seize.specs.declared.advance.Advance.{Advance}
use Rattle.seize.specs.declared.advance.Advance.TheVariants as progress
use Rattle.seize.specs.declared.rows.settle.Settled.{Settled}
use Rattle.seize.specs.declared.rows.settle.Settled.TheVariants as settled
use Rattle.map_tables.specs.Marks.{has_mark}
use Rattle.map_tables.specs.Nodes.{table_seen}
use Rattle.map_tables.specs.declared.marks.TheConstants.{COPYING}
use Rattle.map_tables.specs.declared.node.Node.{Node}
use Rattle.map_tables.specs.declared.table.Table.{Table}
use Rattle.map_machines.specs.Copier.{copier_plan}
use Rattle.map_machines.specs.Dispose.{dispose_plan}
use Rattle.map_machines.specs.NewTable.{new_table_plan}
use Rattle.map_machines.specs.Sum.{sum_plan}
use Rattle.map_machines.specs.declared.copier.Copier.{Copier}
use Rattle.map_machines.specs.declared.dispose.Dispose.{Dispose}
use Rattle.map_machines.specs.declared.new_table.NewTable.{NewTable}
use Rattle.map_machines.specs.declared.yielding.Yielding.{Yielding}
use Rattle.map_machines.specs.declared.yielding.Yielding.TheVariants as outcome
use Rattle.map_machines.specs.declared.sum.Sum.{Sum}
use Rattle.map_sweeps.specs.Reserves.Reserve as reserve
use Rattle.map_sweeps.specs.declared.reserve.Reserve.{Reserve}
use Rattle.map_sweeps.specs.declared.reserve.Reserving.{Reserving}
use Rattle.map_sweeps.specs.declared.reserve.Reserving.TheVariants as reserves
use Rattle.map_sweeps.specs.Sweeps.Sweep as sweep
use Rattle.map_sweeps.specs.Sweeps.SweepPoints.{removes, standing, further, tableless, beginning, entering, telling, told, at_pair, seen}
use Rattle.map_sweeps.specs.declared.sweep.Purpose.{Purpose}
use Rattle.map_sweeps.specs.declared.sweep.Purpose.TheVariants.{Walks, Clears, Retains}
use Rattle.map_sweeps.specs.declared.sweep.Sweep.{Sweep}
use Rattle.map_sweeps.specs.declared.sweep.Sweeping.{Sweeping}
use Rattle.map_sweeps.specs.declared.sweep.Sweeping.TheVariants as sweeps
use Rattle.map_sweeps.specs.declared.sweep.Swept.{Swept}
use Rattle.map_sweeps.specs.declared.sweep.Swept.TheVariants as swept
use Rattle.many_calls.proofs.Given.RuleKeys.Always.{Always, AlwaysOf, always_if, always_steps}
use Rattle.many_calls.specs.Given.LateToldReserves.{IsRowOfReserve}
use Rattle.many_calls.specs.Given.LateToldSweeps.{IsRowOfSweep}
use Rattle.map_measures.proofs.Waits.Copiers.{Proceeds, Sees, copier_waits}
use Rattle.map_measures.proofs.Waits.Never.{Advances, Settles, always_within, sum_goes, new_table_goes, dispose_goes}
use Rattle.many_calls.specs.Given.LateFactsReserves.{CopiesPairs as Copying}

-- what the copier within a reservation, or within a sweep, has seen
abbrev pub RoomSees : {K V : Type 0} → Mem (Node K V) → Reserving → Type 0
RoomSees m (reserves.Copies copier) = Sees copier m copier.stands
RoomSees m _ = ⊥

abbrev pub SweepSees : {K V : Type 0} → Mem (Node K V) → Sweeping → Type 0
SweepSees m (sweeps.Copies copier) = Sees copier m copier.stands
SweepSees m _ = ⊥

-- a reservation
module _ (K V : Type 0) (p : Reserve) where
  abbrev RoomOn : Reserve × Yielding (Node K V) Unit → Type 0
  RoomOn = Proceeds

  root_goes : (out : Out (Node K V)) → Always RoomOn (reserve.root_read p out)
  root_goes (Found root) = always_if RoomOn (root == 0) _ _ tt (λ value. tt)
  root_goes _ = tt

  next_goes : (table : Table) (need : ℕ) (out : Out (Node K V)) → Always RoomOn (reserve.next_read p table need out)
  next_goes table need (Found link) = always_if RoomOn (link == 0) _ _ tt (λ value. tt)
  next_goes table need _ = tt

  made_goes : (to : NewTable × Advance Table) → Advances to → RoomOn (reserve.made p to)
  made_goes (next, progress.Goes) on = tt
  made_goes (next, progress.Waits) on = on
  made_goes (next, progress.Done table) on = tt
  made_goes (next, progress.Refused fault) on = tt

  grown_goes : (table : Table) (to : NewTable × Advance Table) → Advances to → RoomOn (reserve.grown p table to)
  grown_goes table (next, progress.Goes) on = tt
  grown_goes table (next, progress.Waits) on = on
  grown_goes table (next, progress.Done new) on = tt
  grown_goes table (next, progress.Refused fault) on = tt

  enough_goes : (table : Table) (need : ℕ) → RoomOn (reserve.enough p table need)
  enough_goes table need = by (nat_lt (2 ^ 48) need) (nat_lt table.len need)
    where
      by : (long short : Bool)
          → RoomOn (if long then reserve.refusing p Capacity else (if short then (reserve.standing p (reserves.Follows table need), outcome.Goes) else (reserve.standing p reserves.Over, outcome.Done tt)))
      by true short = tt
      by false true = tt
      by false false = tt

  summed_goes : (table : Table) (to : Sum × Advance ℕ) → Advances to → RoomOn (reserve.summed p table to)
  summed_goes table (next, progress.Goes) on = tt
  summed_goes table (next, progress.Waits) on = on
  summed_goes table (next, progress.Done count) on = enough_goes table (reserve.needed p.additional count)
  summed_goes table (next, progress.Refused fault) on = tt

  room_goes : (hash : K → ℕ) (stands : Reserving) → (Copying stands → ⊥) → AlwaysOf RoomOn (reserve.plan_at {V = V} hash p stands)
  room_goes hash reserves.Reads none = root_goes
  room_goes hash (reserves.Makes making) none = always_within Advances RoomOn (reserve.made p) made_goes (new_table_plan making) (new_table_goes K V making)
  room_goes hash (reserves.Sums table sum) none =
      always_within Advances RoomOn (reserve.summed p table) (summed_goes table) (sum_plan sum) (sum_goes (Node K V) sum)
  room_goes hash (reserves.Follows table need) none = next_goes table need
  room_goes hash (reserves.Grows table making) none =
      always_within Advances RoomOn (reserve.grown p table) (grown_goes table) (new_table_plan making) (new_table_goes K V making)
  room_goes hash (reserves.Copies copier) none = absurd (none tt)
  room_goes hash reserves.Over none = tt
  room_goes hash (reserves.Refused fault) none = tt

  module _ (hash : K → ℕ) (m m2 : Mem (Node K V)) (q : Reserve) where
    abbrev room_waiting : Reserve × Yielding (Node K V) Unit
    room_waiting = (q, outcome.Waits)

    goes_not : (x : Reserve × Yielding (Node K V) Unit) → Proceeds x → room_waiting ≡ x → ⊥
    goes_not x on e = subst (λ (y : Reserve × Yielding (Node K V) Unit). Proceeds y) (sym e) on

    copied_waits : (copier : Copier) → (IsRowOfReserve (reserves.Copies copier) → ⊥) → (to : Copier × Yielding (Node K V) Table)
        → Steps Took value_at m (copier_plan hash copier) m2 to
        → room_waiting ≡ reserve.copied p to → (q ≡ reserve.standing p (reserves.Copies copier)) × Sees copier m copier.stands
    copied_waits copier none (next, outcome.Waits) s e =
        let h = copier_waits copier m hash m2 next none s in (
          ap (λ (y : Reserve × Yielding (Node K V) Unit). y.0) e ∙ ap (λ (x : Copier). reserve.standing p (reserves.Copies x)) h.0,
          h.1,
        )
    copied_waits copier none (next, outcome.Goes) s e = absurd (goes_not _ tt e)
    copied_waits copier none (next, outcome.Gave value) s e = absurd (goes_not _ tt e)
    copied_waits copier none (next, outcome.Done table) s e = absurd (goes_not _ tt e)
    copied_waits copier none (next, outcome.Refused fault) s e = absurd (goes_not _ tt e)

    waits_at : (stands : Reserving) → (IsRowOfReserve stands → ⊥) → Steps Took value_at m (reserve.plan_at hash p stands) m2 room_waiting
        → (q ≡ reserve.standing p stands) × RoomSees m stands
    waits_at (reserves.Copies copier) none s =
        let b = steps_back (reserve.copied p) m m2 (copier_plan hash copier) room_waiting s in copied_waits copier none b.0 b.1 b.2
    waits_at stands none s = absurd (always_steps Proceeds m m2 (reserve.plan_at hash p stands) room_waiting (room_goes hash stands (λ copies. copies)) s)

    pub room_waits : (IsRowOfReserve p.stands → ⊥) → Steps Took value_at m (reserve.reserve_plan hash p) m2 room_waiting → (q ≡ p) × RoomSees m p.stands
    room_waits none s = waits_at p.stands none s

-- it goes on, or has ended, or is to be asked or told
abbrev pub SweepsOn : {S T : Type 0} → S × Swept T → Type 0
SweepsOn (s, swept.Waits) = ⊥
SweepsOn (s, _) = Unit {0}

-- a sweep
module _ (K V : Type 0) where
  abbrev SweepOn : Sweep × Swept (Node K V) → Type 0
  SweepOn = SweepsOn

  told_goes : (q : Sweep) (stands : Sweeping) → SweepOn (q, told {T = Node K V} stands)
  told_goes q sweeps.Reads = tt
  told_goes q sweeps.Follows = tt
  told_goes q (sweeps.Copies copier) = tt
  told_goes q sweeps.Ready = tt
  told_goes q sweeps.Words = tt
  told_goes q (sweeps.Asks word) = tt
  told_goes q (sweeps.Tries word) = tt
  told_goes q (sweeps.Counts removed) = tt
  told_goes q (sweeps.Disposes dispose) = tt
  told_goes q sweeps.Over = tt
  told_goes q (sweeps.Refused fault) = tt

  pub telling_goes : (q : Sweep) → SweepOn (telling {T = Node K V} q)
  telling_goes q = told_goes q q.stands

  seen_goes : (q : Sweep) (word : ℕ) → SweepOn (seen {T = Node K V} q word)
  seen_goes q word = by (removes q.purpose && has_mark word COPYING) (block_in word == 0)
    where
      pair : (purpose : Purpose) → SweepOn (at_pair {T = Node K V} purpose q word)
      pair Walks = tt
      pair Clears = tt
      pair Retains = tt

      by : (m z : Bool)
          → SweepOn (if m then telling {T = Node K V} (further (record q { met = true })) else (if z then telling (further q) else at_pair q.purpose q word))
      by true z = telling_goes (further (record q { met = true }))
      by false true = telling_goes (further q)
      by false false = pair q.purpose

  module _ (p : Sweep) where
    sweep_root_goes : (out : Out (Node K V)) → Always SweepOn (sweep.root_read p out)
    sweep_root_goes (Found root) = always_if SweepOn (root == 0) _ _ (telling_goes (tableless p)) (λ value. telling_goes (entering p (table_seen root value)))
    sweep_root_goes _ = tt

    sweep_next_goes : (out : Out (Node K V)) → Always SweepOn (sweep.next_read p out)
    sweep_next_goes (Found link) = always_if SweepOn (link == 0) _ _ (telling_goes (beginning p)) (λ value. tt)
    sweep_next_goes _ = tt

    word_goes : (out : Out (Node K V)) → Always SweepOn (sweep.word_found p out)
    word_goes (Found word) = seen_goes p word
    word_goes _ = tt

    tried_goes : (word : ℕ) (out : Out (Node K V)) → Always SweepOn (sweep.tried p word out)
    tried_goes word (Exchanged (Ok found)) = tt
    tried_goes word (Exchanged (Err found)) = seen_goes p found
    tried_goes word _ = tt

    disposed_goes : (to : Dispose × Settled (Node K V)) → Settles to → SweepOn (sweep.disposed p to)
    disposed_goes (next, settled.Goes) on = tt
    disposed_goes (next, settled.Waits) on = on
    disposed_goes (next, settled.Gave value) on = tt
    disposed_goes (next, settled.Done) on = telling_goes (further p)

    -- but for its copying, and rows
    abbrev MayWait : Sweeping → Type 0
    MayWait (sweeps.Copies copier) = Unit {0}
    MayWait (sweeps.Disposes dispose) = IsRowOfSweep (sweeps.Disposes dispose)
    MayWait _ = ⊥

    sweep_goes : (hash : K → ℕ) (stands : Sweeping) → (MayWait stands → ⊥) → AlwaysOf SweepOn (sweep.plan_at {V = V} hash p stands)
    sweep_goes hash sweeps.Reads none = sweep_root_goes
    sweep_goes hash sweeps.Follows none = sweep_next_goes
    sweep_goes hash (sweeps.Copies copier) none = absurd (none tt)
    sweep_goes hash sweeps.Words none = word_goes
    sweep_goes hash (sweeps.Tries word) none = tried_goes word
    sweep_goes hash (sweeps.Counts removed) none = λ out. tt
    sweep_goes hash (sweeps.Disposes dispose) none =
        always_within Settles SweepOn (sweep.disposed p) disposed_goes (dispose_plan dispose) (dispose_goes K V dispose none)
    sweep_goes hash sweeps.Ready none = tt
    sweep_goes hash (sweeps.Asks word) none = tt
    sweep_goes hash sweeps.Over none = tt
    sweep_goes hash (sweeps.Refused fault) none = tt

    module _ (hash : K → ℕ) (m m2 : Mem (Node K V)) (q : Sweep) where
      abbrev sweep_waiting : Sweep × Swept (Node K V)
      sweep_waiting = (q, swept.Waits)

      sweep_goes_not : (x : Sweep × Swept (Node K V)) → SweepsOn x → sweep_waiting ≡ x → ⊥
      sweep_goes_not x on e = subst (λ (y : Sweep × Swept (Node K V)). SweepsOn y) (sym e) on

      sweep_copied_waits : (copier : Copier) → (IsRowOfSweep (sweeps.Copies copier) → ⊥) → (to : Copier × Yielding (Node K V) Table)
          → Steps Took value_at m (copier_plan hash copier) m2 to
          → sweep_waiting ≡ sweep.copied p to → (q ≡ standing p (sweeps.Copies copier)) × Sees copier m copier.stands
      sweep_copied_waits copier none (next, outcome.Waits) s e =
          let h = copier_waits copier m hash m2 next none s in
          (ap (λ (y : Sweep × Swept (Node K V)). y.0) e ∙ ap (λ (x : Copier). standing p (sweeps.Copies x)) h.0, h.1)
      sweep_copied_waits copier none (next, outcome.Goes) s e = absurd (sweep_goes_not _ tt e)
      sweep_copied_waits copier none (next, outcome.Gave value) s e = absurd (sweep_goes_not _ tt e)
      sweep_copied_waits copier none (next, outcome.Done table) s e = absurd (sweep_goes_not _ (telling_goes (entering p table)) e)
      sweep_copied_waits copier none (next, outcome.Refused fault) s e = absurd (sweep_goes_not _ tt e)

      sweep_waits_at : (stands : Sweeping) → (IsRowOfSweep stands → ⊥) → Steps Took value_at m (sweep.plan_at hash p stands) m2 sweep_waiting
          → (q ≡ standing p stands) × SweepSees m stands
      sweep_waits_at (sweeps.Copies copier) none s =
          let b = steps_back (sweep.copied p) m m2 (copier_plan hash copier) sweep_waiting s in sweep_copied_waits copier none b.0 b.1 b.2
      sweep_waits_at (sweeps.Disposes dispose) none s =
          absurd (always_steps SweepsOn m m2 (sweep.plan_at hash p (sweeps.Disposes dispose)) sweep_waiting (sweep_goes hash (sweeps.Disposes dispose) none) s)
      sweep_waits_at stands none s = absurd (always_steps SweepsOn m m2 (sweep.plan_at hash p stands) sweep_waiting (sweep_goes hash stands (λ may. may)) s)

      pub sweep_waits : (IsRowOfSweep p.stands → ⊥) → Steps Took value_at m (sweep.sweep_plan hash p) m2 sweep_waiting → (q ≡ p) × SweepSees m p.stands
      sweep_waits none s = sweep_waits_at p.stands none s
