-- A step after which a copier makes a table writes no root: what writes it makes none.
use Rattle.std.specs.Prelude.{◌≡◌, ℕ, ◌+◌, ◌%◌, ◌^◌, ◌==◌, Bool, true, false, Some, Ok, Err, ◌⊎◌, if◌then◌else◌}
use Rattle.std.proofs.Common.{refl, ap, sym, subst, ◌∙◌, inl, inr}
use Rattle.run_finds.specs.Given.SeizeWordsMem.{Gives, Mem, value_at, word_at}
use Rattle.run_finds.specs.Given.SeizeWordsOp.{Exchanged, Found, Load, Made, Make, Out, Roomed, Stored, Taken}
use Rattle.run_finds.specs.Given.SeizeWordsPlan.{Ends, Now, Plan, Seeing}
use Rattle.run_finds.specs.Given.SeizeWordsWord.{block_in}
use Rattle.papaya_raw.specs.Given.SeizeDeclared.advance.Advance.{Advance as Counting}
use Rattle.papaya_raw.specs.Given.SeizeDeclared.advance.Advance.TheVariants as progress
use Rattle.papaya_raw.specs.Given.TablesNodes.{table_seen}
use Rattle.papaya_raw.specs.Given.TablesTablePlaces.{at_word}
use Rattle.papaya_raw.specs.Given.TablesDeclared.lengths.Reason.TheVariants.{NoPlace}
use Rattle.papaya_raw.specs.Given.TablesDeclared.node.Node.{Node}
use Rattle.papaya_raw.specs.Given.TablesDeclared.node.Node.TheVariants as node
use Rattle.papaya_raw.specs.Given.TablesDeclared.table.Table.{Table}
use Rattle.papaya_raw.specs.Given.TablesDeclared.table_words.TheConstants.{NEXT, PLACES}
use Rattle.papaya_raw.specs.Given.ResizeCopier as copiers
use Rattle.papaya_raw.specs.Given.ResizeCopier.{copier_plan}
use Rattle.papaya_raw.specs.Given.ResizeCopierFurther.{anew, grown, remade, replacement_read}
use Rattle.run_finds.specs.Given.ResizeNewTable as tables
use Rattle.run_finds.specs.Given.ResizeNewTable.{counted, new_table_plan, table_after}
use Rattle.run_finds.specs.Given.ResizeSum as sums
use Rattle.run_finds.specs.Given.ResizeSum.{sum_plan}
use Rattle.run_finds.specs.Given.ResizeDeclared.copier.Copier.{Copier}
use Rattle.run_finds.specs.Given.ResizeDeclared.copier.Copying.{Copying}
use Rattle.run_finds.specs.Given.ResizeDeclared.copier.Copying.TheVariants as copying
use Rattle.run_finds.specs.Given.ResizeDeclared.new_table.Making.{Making}
use Rattle.run_finds.specs.Given.ResizeDeclared.new_table.Making.TheVariants as makes
use Rattle.run_finds.specs.Given.ResizeDeclared.new_table.NewTable.{NewTable}
use Rattle.run_finds.specs.Given.ResizeDeclared.yielding.Yielding.{Yielding}
use Rattle.run_finds.specs.Given.ResizeDeclared.yielding.Yielding.TheVariants as outcome
use Rattle.run_finds.specs.Given.ResizeDeclared.sum.Sum.{Sum}
use Rattle.run_finds.specs.Given.ResizeDeclared.sum.Summing.{Summing}
use Rattle.run_finds.specs.Given.ResizeDeclared.sum.Summing.TheVariants as summing
use Rattle.papaya_raw.specs.Given.ReservesReserve as reserves
use Rattle.papaya_raw.specs.Given.ReservesReserve.{reserve_plan}
use Rattle.papaya_raw.specs.Given.ReservesDeclared.reserve.Reserve.{Reserve}
use Rattle.papaya_raw.specs.Given.ReservesDeclared.reserve.Reserving.{Reserving}
use Rattle.papaya_raw.specs.Given.ReservesDeclared.reserve.Reserving.TheVariants as reserving
use Rattle.papaya_raw.specs.Given.SweepsSweep as sweeps_of
use Rattle.papaya_raw.specs.Given.SweepsSweep.{sweep_plan}
use Rattle.papaya_raw.specs.Given.ReservesDeclared.sweep.Sweep.{Sweep}
use Rattle.papaya_raw.specs.Given.ReservesDeclared.sweep.Sweeping.{Sweeping}
use Rattle.papaya_raw.specs.Given.ReservesDeclared.sweep.Sweeping.TheVariants as sweeping
use Rattle.papaya_raw.specs.Given.ReservesDeclared.sweep.Swept.{Swept}
use Rattle.papaya_raw.specs.Call as calls_of
use Rattle.papaya_raw.specs.Call.{call_plan, copied, helped}
use Rattle.papaya_raw.specs.Machine.{called as of_key, counted as of_sum, machine_plan, reserved as of_room, swept as of_sweep}
use Rattle.papaya_raw.specs.declared.machines.answer.Called.{Called}
use Rattle.papaya_raw.specs.declared.machines.call.Calling.{Calling}
use Rattle.papaya_raw.specs.declared.machines.call.Calling.TheVariants as calling
use Rattle.papaya_raw.specs.declared.machines.call.KeyCall.{KeyCall}
use Rattle.papaya_raw.specs.declared.machines.machine.Machine.{Machine}
use Rattle.papaya_raw.specs.declared.machines.machine.Machine.TheVariants as kinds
use Rattle.papaya_raw.specs.declared.machines.progress.Progress.{Progress}
use Rattle.run_finds.specs.Given.TellerTells.{StepsObserved, observed_of}
use Rattle.run_finds.specs.Given.EffectsDeclared.changed.Changed.{Changed}
use Rattle.run_finds.specs.Given.EffectsDeclared.changed.Changed.TheVariants as changed
use Rattle.run_finds.specs.Given.TellsSeen.{seen_of}
use Rattle.run_finds.proofs.Given.RuleKeys.Always.{Always, AlwaysOf, always_ends, always_steps}
use Rattle.run_finds.proofs.Given.OthersOutcomes.{told_in}
use Rattle.run_grows.specs.Grows.Further.{CallMakes, CopierMakes, MachineMakes, RoomMakes, SweepMakes}
use Rattle.run_grows.proofs.Grows.Finding.Making.Calls as calls
use Rattle.run_grows.proofs.Grows.Finding.Making.Calls.{CallEnds}
use Rattle.run_grows.proofs.Grows.Finding.Making.Copiers as copier
use Rattle.run_grows.proofs.Grows.Finding.Making.Copiers.{CopierEnds}
use Rattle.run_grows.proofs.Grows.Finding.Making.Rooms as rooms
use Rattle.run_grows.proofs.Grows.Finding.Making.Rooms.{RoomEnds}
use Rattle.run_grows.proofs.Grows.Finding.Making.Sweeps as sweeps
use Rattle.run_grows.proofs.Grows.Finding.Making.Sweeps.{SweepEnds}
use Rattle.run_grows.proofs.Grows.Finding.Making.Unpromoted.{OffRoot}
use Rattle.run_finds.proofs.Given.ScenesTold.{as_step}
use Rattle.run_finds.proofs.Given.General.{equal_so as number_is}

-- the copier of a machine
abbrev pub CallCopier : Calling → Copier → Type 0
CallCopier (calling.Helps c goal) x = c ≡ x
CallCopier (calling.Copies c) x = c ≡ x
CallCopier _ x = ⊥

abbrev pub RoomCopier : Reserving → Copier → Type 0
RoomCopier (reserving.Copies c) x = c ≡ x
RoomCopier _ x = ⊥

abbrev pub SweepCopier : Sweeping → Copier → Type 0
SweepCopier (sweeping.Copies c) x = c ≡ x
SweepCopier _ x = ⊥

abbrev pub HasCopier : {K V Q : Type 0} → Machine K V Q → Copier → Type 0
HasCopier (kinds.Key p) x = CallCopier p.stands x
HasCopier (kinds.Reserve r) x = RoomCopier r.stands x
HasCopier (kinds.Sweep c) x = SweepCopier c.stands x
HasCopier (kinds.Count sum) x = ⊥

-- no table is made
abbrev pub NoTable : NewTable → Type 0
NoTable n = ⊥

none_goes : (K V : Type 0) (n : NewTable) → NoTable n → AlwaysOf (λ (e : NewTable × Counting Table). NoTable e.0) (new_table_plan {K = K} {V = V} n)
none_goes K V n none = absurd none

module _ {K V : Type 0} (m m2 : Mem (Node K V)) (told : Changed) where
  abbrev Step : {R : Type 0} → Plan (Node K V) R → R → Type 0
  Step {R} plan end = StepsObserved K V R m changed.Nothing plan m2 told end

  abbrev Off : Type 0
  Off = OffRoot told

  -- by the operation of a making

  made_off : (value : Node K V) (words : ℕ) (out : Out (Node K V)) → OffRoot (observed_of (Make value words) out (seen_of m (Make value words) out))
  made_off value words (Made (Ok x)) = tt
  made_off value words (Made (Err back)) = tt
  made_off value words _ = tt

  pub sum_off : (c : Sum) (p : Summing) (end : Sum × Counting ℕ) → Step (sums.plan_at c p) end → Off
  sum_off c (summing.Adds shard total) end s = subst OffRoot (sym s.1.1) tt
  sum_off c (summing.Over count) end s = subst OffRoot (sym s.2) tt

  abbrev pub IsDone : NewTable × Counting Table → Type 0
  IsDone end = (t : Table) × (end.1 ≡ progress.Done t)

  linked_off : (n : NewTable) (table : Table) (end : NewTable × Counting Table) → Step (tables.links {T = Node K V} n table) end → IsDone end ⊎ Off
  linked_off n table end (Exchanged (Ok found), took, ends) = inl (table, ap (λ (x : NewTable × Counting Table). x.1) ends)
  linked_off n table end (Exchanged (Err found), took, ends) = inr (subst OffRoot (sym took.1) tt)
  linked_off n table end (Found word, took, ends) = inr (subst OffRoot (sym took.1) tt)
  linked_off n table end (Stored, took, ends) = inr (subst OffRoot (sym took.1) tt)
  linked_off n table end (Made r, took, ends) = inr (subst OffRoot (sym took.1) tt)
  linked_off n table end (Taken value, took, ends) = inr (subst OffRoot (sym took.1) tt)
  linked_off n table end (Roomed r, took, ends) = inr (subst OffRoot (sym took.1) tt)

  making_off : (n : NewTable) (p : Making) (end : NewTable × Counting Table) → Step (tables.plan_at {K = K} {V = V} n p) end → IsDone end ⊎ Off
  making_off n (makes.Sums before reason sum) end s = let it = told_in m m2 told (counted n before reason) (sum_plan sum) end s in inr (sum_off sum sum.stands it.0 it.2)
  making_off n (makes.Makes table) end s = inr (subst OffRoot (sym s.1.1) (made_off (node.Table table.len table.limit table.turn) ((table.len + PLACES) % 2 ^ 64) s.0))
  making_off n (makes.Promotes table) end s = inr (subst OffRoot (sym s.1.1) tt)
  making_off n (makes.Links table) end s = linked_off n table end s
  making_off n (makes.Drops table found) end s = inr (subst OffRoot (sym s.1.1) tt)
  making_off n (makes.Over table) end s = inr (subst OffRoot (sym s.2) tt)
  making_off n (makes.Refused fault) end s = inr (subst OffRoot (sym s.2) tt)

  pub new_table_off : (n : NewTable) (end : NewTable × Counting Table) → Step (new_table_plan {K = K} {V = V} n) end → IsDone end ⊎ Off
  new_table_off n end s = making_off n n.stands end s

  -- of a copier: where its table is linked, it makes none any longer
  module _ (hash : K → ℕ) (c : Copier) (end : Copier × Yielding (Node K V) Table) where
    abbrev CopierOff : Type 0
    CopierOff = CopierMakes NoTable end.0.stands ⊎ Off

    grown_done : (word code : ℕ) (e : NewTable × Counting Table) → IsDone e → CopierMakes NoTable (grown {K = K} {V = V} c word code e).0.stands
    grown_done word code (x, progress.Goes) is = absurd (let e = is.1 in cc e)
    grown_done word code (x, progress.Waits) is = absurd (let e = is.1 in cc e)
    grown_done word code (x, progress.Done t) is = tt
    grown_done word code (x, progress.Refused fault) is = absurd (let e = is.1 in cc e)

    remade_done : (e : NewTable × Counting Table) → IsDone e → CopierMakes NoTable (remade {K = K} {V = V} c e).0.stands
    remade_done (x, progress.Goes) is = absurd (let e = is.1 in cc e)
    remade_done (x, progress.Waits) is = absurd (let e = is.1 in cc e)
    remade_done (x, progress.Done t) is = tt
    remade_done (x, progress.Refused fault) is = absurd (let e = is.1 in cc e)

    -- where it goes by a step of the making
    by_making : (f : NewTable × Counting Table → Copier × Yielding (Node K V) Table) → ((e : NewTable × Counting Table) → IsDone e → CopierMakes NoTable (f e).0.stands) → (e : NewTable × Counting Table) → end ≡ f e
        → IsDone e ⊎ Off → CopierOff
    by_making f done e is so = elim so as (λ _. CopierOff) [
      | inl over ↦ inl (subst (λ (x : Copier × Yielding (Node K V) Table). CopierMakes NoTable x.0.stands) (sym is) (done e over))
      | inr off ↦ inr off
    ]

    -- where it makes none, and begins none
    quiet : (p : Copying) → c.stands ≡ p → AlwaysOf (CopierEnds NoTable K V) (copiers.plan_at hash c p) → Step (copiers.plan_at hash c p) end → CopierOff
    quiet p is always s = inl (always_steps (CopierEnds NoTable K V) m m2 (copiers.plan_at hash c p) end always (as_step m changed.Nothing (copiers.plan_at hash c p) m2 told end s))

    at_point : (p : Copying) → c.stands ≡ p → Step (copiers.plan_at hash c p) end → CopierOff
    at_point (copying.Grows word code n) is s =
        let it = told_in m m2 told (grown c word code) (new_table_plan n) end s in by_making (grown c word code) (grown_done word code) it.0 it.1 (new_table_off n it.0 it.2)
    at_point (copying.Remakes n) is s = let it = told_in m m2 told (remade c) (new_table_plan n) end s in by_making (remade c) remade_done it.0 it.1 (new_table_off n it.0 it.2)
    at_point (copying.Passes word code table) is s = inr (subst OffRoot (sym s.1.1) tt)
    at_point copying.Replaces is s = inr (subst OffRoot (sym s.1.1) tt)
    at_point p is s = quiet p is (copier.point_makes NoTable K V hash (none_goes K V) c (subst (CopierMakes NoTable) (sym is) tt) p tt tt) s

    copier_off : Step (copier_plan hash c) end → CopierOff
    copier_off s = at_point c.stands refl s

  -- of a call, whichever it is
  module _ (asks : K → K → Bool) (same : K → K → Bool) (hash : K → ℕ) where
    key_at : (p : KeyCall K V K) (end : KeyCall K V K × Called (Node K V)) (stands : Calling) → p.stands ≡ stands → Step (calls_of.plan_at asks same hash p stands) end → CallMakes NoTable end.0.stands ⊎ Off
    key_at p end (calling.Helps c goal) is s =
        let it = told_in m m2 told (helped p goal) (copier_plan hash c) end s in
        elim (copier_off hash c it.0 it.2) as (λ _. CallMakes NoTable end.0.stands ⊎ Off) [
          | inl none ↦ inl (subst (λ (x : KeyCall K V K × Called (Node K V)). CallMakes NoTable x.0.stands) (sym it.1) (calls.helped_makes NoTable p goal it.0 none))
          | inr off ↦ inr off
        ]
    key_at p end (calling.Copies c) is s =
        let it = told_in m m2 told (copied p) (copier_plan hash c) end s in
        elim (copier_off hash c it.0 it.2) as (λ _. CallMakes NoTable end.0.stands ⊎ Off) [
          | inl none ↦ inl (subst (λ (x : KeyCall K V K × Called (Node K V)). CallMakes NoTable x.0.stands) (sym it.1) (calls.copied_makes NoTable p it.0 none))
          | inr off ↦ inr off
        ]
    key_at p end stands is s =
        inl (always_steps (CallEnds NoTable) m m2 (calls_of.plan_at asks same hash p stands) end (calls.point_makes NoTable asks same hash p (subst (CallMakes NoTable) (sym is) tt) (none_goes K V) stands tt tt)
        (as_step m changed.Nothing (calls_of.plan_at asks same hash p stands) m2 told end s))

    room_at : (r : Reserve) (end : Reserve × Yielding (Node K V) Unit) (stands : Reserving) → r.stands ≡ stands → Step (reserves.plan_at hash r stands) end → RoomMakes NoTable end.0.stands ⊎ Off
    room_at r end (reserving.Copies c) is s =
        let it = told_in m m2 told (reserves.copied r) (copier_plan hash c) end s in
        elim (copier_off hash c it.0 it.2) as (λ _. RoomMakes NoTable end.0.stands ⊎ Off) [
          | inl none ↦ inl (subst (λ (x : Reserve × Yielding (Node K V) Unit). RoomMakes NoTable x.0.stands) (sym it.1) (rooms.copied_makes NoTable K V hash (none_goes K V) (record r { stands = reserving.Over }) tt it.0 none))
          | inr off ↦ inr off
        ]
    room_at r end stands is s =
        inl (always_steps (RoomEnds NoTable K V) m m2 (reserves.plan_at hash r stands) end (rooms.point_makes NoTable K V hash (none_goes K V) r (subst (RoomMakes NoTable) (sym is) tt) stands tt tt)
        (as_step m changed.Nothing (reserves.plan_at hash r stands) m2 told end s))

    sweep_at : (c : Sweep) (end : Sweep × Swept (Node K V)) (stands : Sweeping) → c.stands ≡ stands → Step (sweeps_of.plan_at hash c stands) end → SweepMakes NoTable end.0.stands ⊎ Off
    sweep_at c end (sweeping.Copies x) is s =
        let it = told_in m m2 told (sweeps_of.copied c) (copier_plan hash x) end s in
        elim (copier_off hash x it.0 it.2) as (λ _. SweepMakes NoTable end.0.stands ⊎ Off) [
          | inl none ↦ inl (subst (λ (y : Sweep × Swept (Node K V)). SweepMakes NoTable y.0.stands) (sym it.1) (sweeps.copied_makes NoTable K V hash (none_goes K V) (record c { stands = sweeping.Over }) tt it.0 none))
          | inr off ↦ inr off
        ]
    sweep_at c end stands is s =
        inl (always_steps (SweepEnds NoTable K V) m m2 (sweeps_of.plan_at hash c stands) end (sweeps.point_makes NoTable K V hash (none_goes K V) c (subst (SweepMakes NoTable) (sym is) tt) stands tt tt)
        (as_step m changed.Nothing (sweeps_of.plan_at hash c stands) m2 told end s))

    calls_end : (e : KeyCall K V K × Called (Node K V)) → CallMakes NoTable e.0.stands → MachineMakes NoTable (of_key {K = K} {V = V} {Q = K} e).0
    calls_end (p, told) so = so

    rooms_end : (e : Reserve × Yielding (Node K V) Unit) → RoomMakes NoTable e.0.stands → MachineMakes NoTable (of_room {K = K} {V = V} {Q = K} e).0
    rooms_end (r, outcome) so = so

    sweeps_end : (e : Sweep × Swept (Node K V)) → SweepMakes NoTable e.0.stands → MachineMakes NoTable (of_sweep {K = K} {V = V} {Q = K} e).0
    sweeps_end (c, told) so = so

    sums_end : (e : Sum × Counting ℕ) → MachineMakes NoTable (of_sum {K = K} {V = V} {Q = K} e).0
    sums_end (sum, told) = tt

    pub machine_off : (before machine : Machine K V K) (said : Progress (Node K V)) → Step (machine_plan asks same hash before) (machine, said) → MachineMakes NoTable machine ⊎ Off
    machine_off (kinds.Key p) machine said s =
        let it = told_in m m2 told of_key (call_plan asks same hash p) (machine, said) s in
        elim (key_at p it.0 p.stands refl it.2) as (λ _. MachineMakes NoTable machine ⊎ Off) [
          | inl none ↦ inl (subst (λ (x : Machine K V K × Progress (Node K V)). MachineMakes NoTable x.0) (sym it.1) (calls_end it.0 none))
          | inr off ↦ inr off
        ]
    machine_off (kinds.Reserve r) machine said s =
        let it = told_in m m2 told of_room (reserve_plan hash r) (machine, said) s in
        elim (room_at r it.0 r.stands refl it.2) as (λ _. MachineMakes NoTable machine ⊎ Off) [
          | inl none ↦ inl (subst (λ (x : Machine K V K × Progress (Node K V)). MachineMakes NoTable x.0) (sym it.1) (rooms_end it.0 none))
          | inr off ↦ inr off
        ]
    machine_off (kinds.Sweep c) machine said s =
        let it = told_in m m2 told of_sweep (sweep_plan hash c) (machine, said) s in
        elim (sweep_at c it.0 c.stands refl it.2) as (λ _. MachineMakes NoTable machine ⊎ Off) [
          | inl none ↦ inl (subst (λ (x : Machine K V K × Progress (Node K V)). MachineMakes NoTable x.0) (sym it.1) (sweeps_end it.0 none))
          | inr off ↦ inr off
        ]
    machine_off (kinds.Count sum) machine said s =
        let it = told_in m m2 told of_sum (sum_plan sum) (machine, said) s in
        inl (subst (λ (x : Machine K V K × Progress (Node K V)). MachineMakes NoTable x.0) (sym it.1) (sums_end it.0))

    -- one that reads which table follows one that was aborted makes none where one follows
    module _ (x : Copier) (is : x.stands ≡ copying.Replaces) (some : word_at m (at_word x.target NEXT) ≡ Some 0 → ⊥) where
      read_some : (end : Copier × Yielding (Node K V) Table) (out : Out (Node K V)) → Gives m (Load (at_word x.target NEXT)) out → Ends (value_at m2) (replacement_read x out) end → CopierMakes NoTable end.0.stands
      read_some end (Found link) gives e = always_ends (CopierEnds NoTable K V) (value_at m2) (replacement_read x (Found link)) end (by (link == 0) refl) e
        where
          by : (q : Bool) → (link == 0) ≡ q
              → Always (CopierEnds NoTable K V)
              (if q then Now (record x { stands = copying.Remakes (table_after x.setting x.target NoPlace) }, outcome.Goes) else Seeing (block_in link) (λ (value : Node K V). Now (anew x (table_seen link value), outcome.Goes)))
          by true none = absurd (some (gives ∙ ap (λ (n : ℕ). Some n) (number_is link 0 none)))
          by false none = λ value. tt
      read_some end _ gives e = absurd gives

      copier_none : (end : Copier × Yielding (Node K V) Table) → Step (copier_plan hash x) end → CopierMakes NoTable end.0.stands
      copier_none end s = let at = subst (λ (p : Copying). Step (copiers.plan_at hash x p) end) is s in read_some end at.0 at.1.0.0 at.2

      inner_none : (c : Copier) (end : Copier × Yielding (Node K V) Table) → c ≡ x → Step (copier_plan hash c) end → CopierMakes NoTable end.0.stands
      inner_none c end same s = copier_none end (subst (λ (y : Copier). Step (copier_plan hash y) end) same s)

      key_none : (p : KeyCall K V K) (end : KeyCall K V K × Called (Node K V)) (stands : Calling) → CallCopier stands x → Step (calls_of.plan_at asks same hash p stands) end → CallMakes NoTable end.0.stands
      key_none p end (calling.Helps c goal) its s =
          let it = told_in m m2 told (helped p goal) (copier_plan hash c) end s in
          subst (λ (y : KeyCall K V K × Called (Node K V)). CallMakes NoTable y.0.stands) (sym it.1) (calls.helped_makes NoTable p goal it.0 (inner_none c it.0 its it.2))
      key_none p end (calling.Copies c) its s =
          let it = told_in m m2 told (copied p) (copier_plan hash c) end s in
          subst (λ (y : KeyCall K V K × Called (Node K V)). CallMakes NoTable y.0.stands) (sym it.1) (calls.copied_makes NoTable p it.0 (inner_none c it.0 its it.2))
      key_none p end _ its s = absurd its

      room_none : (r : Reserve) (end : Reserve × Yielding (Node K V) Unit) (stands : Reserving) → RoomCopier stands x → Step (reserves.plan_at hash r stands) end → RoomMakes NoTable end.0.stands
      room_none r end (reserving.Copies c) its s =
          let it = told_in m m2 told (reserves.copied r) (copier_plan hash c) end s in
          subst (λ (y : Reserve × Yielding (Node K V) Unit). RoomMakes NoTable y.0.stands) (sym it.1)
          (rooms.copied_makes NoTable K V hash (none_goes K V) (record r { stands = reserving.Over }) tt it.0 (inner_none c it.0 its it.2))
      room_none r end _ its s = absurd its

      sweep_none : (c : Sweep) (end : Sweep × Swept (Node K V)) (stands : Sweeping) → SweepCopier stands x → Step (sweeps_of.plan_at hash c stands) end → SweepMakes NoTable end.0.stands
      sweep_none c end (sweeping.Copies y) its s =
          let it = told_in m m2 told (sweeps_of.copied c) (copier_plan hash y) end s in
          subst (λ (z : Sweep × Swept (Node K V)). SweepMakes NoTable z.0.stands) (sym it.1)
          (sweeps.copied_makes NoTable K V hash (none_goes K V) (record c { stands = sweeping.Over }) tt it.0 (inner_none y it.0 its it.2))
      sweep_none c end _ its s = absurd its

      pub machine_none : (before machine : Machine K V K) (said : Progress (Node K V)) → HasCopier before x → Step (machine_plan asks same hash before) (machine, said) → MachineMakes NoTable machine
      machine_none (kinds.Key p) machine said its s =
          let it = told_in m m2 told of_key (call_plan asks same hash p) (machine, said) s in
          subst (λ (y : Machine K V K × Progress (Node K V)). MachineMakes NoTable y.0) (sym it.1) (calls_end it.0 (key_none p it.0 p.stands its it.2))
      machine_none (kinds.Reserve r) machine said its s =
          let it = told_in m m2 told of_room (reserve_plan hash r) (machine, said) s in
          subst (λ (y : Machine K V K × Progress (Node K V)). MachineMakes NoTable y.0) (sym it.1) (rooms_end it.0 (room_none r it.0 r.stands its it.2))
      machine_none (kinds.Sweep c) machine said its s =
          let it = told_in m m2 told of_sweep (sweep_plan hash c) (machine, said) s in
          subst (λ (y : Machine K V K × Progress (Node K V)). MachineMakes NoTable y.0) (sym it.1) (sweeps_end it.0 (sweep_none c it.0 c.stands its it.2))
      machine_none (kinds.Count sum) machine said its s = absurd its
