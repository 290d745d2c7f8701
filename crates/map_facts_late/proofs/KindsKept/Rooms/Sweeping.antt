-- A sweep is refused for memory, or for the length of a table.
use Rattle.std.specs.Prelude.{ℕ, ◌==◌, ◌&&◌, nat_lt, if◌then◌else◌, Bool, true, false, Ok, Err}
use Rattle.std.proofs.Common.{inl, inr, refl, sym, subst}
use Rattle.map_facts.specs.Given.SeizeWordsDeclared.fault.Fault.{Fault}
use Rattle.map_facts.specs.Given.SeizeWordsDeclared.fault.Fault.TheVariants.{Capacity, Memory}
use Rattle.map_facts.specs.Given.SeizeWordsMem.{Mem, value_at, Took}
use Rattle.map_facts.specs.Given.SeizeWordsOp.{Out, Found, Stored, Exchanged, Made, Taken, Roomed}
use Rattle.map_facts.specs.Given.SeizeWordsPlan.{Steps}
use Rattle.map_facts.specs.Given.SeizeWordsWord.{block_in}
use Rattle.map_facts.proofs.Given.SeizeRuleRows.Leaving.{steps_back}
use Rattle.map_facts.specs.Given.SeizeDeclared.rows.settle.Settled.{Settled}
use Rattle.map_facts.specs.Given.SeizeDeclared.rows.settle.Settled.TheVariants as settled
use Rattle.map_facts.specs.Given.TablesChunks.{is_incremental}
use Rattle.map_facts.specs.Given.TablesMarks.{has_mark}
use Rattle.map_facts.specs.Given.TablesDeclared.lengths.Reason.{Reason}
use Rattle.map_facts.specs.Given.TablesDeclared.marks.TheConstants.{COPYING}
use Rattle.map_facts.specs.Given.TablesDeclared.node.Node.{Node}
use Rattle.map_facts.specs.Given.TablesDeclared.table.Table.{Table}
use Rattle.map_facts.specs.Given.ResizeCopier.{copier_plan}
use Rattle.map_facts.specs.Given.ResizeDispose.{dispose_plan}
use Rattle.map_facts.specs.Given.ResizeDeclared.copier.Copier.{Copier}
use Rattle.map_facts.specs.Given.ResizeDeclared.dispose.Dispose.{Dispose}
use Rattle.map_facts.specs.Given.ResizeDeclared.yielding.Yielding.{Yielding}
use Rattle.map_facts.specs.Given.ResizeDeclared.yielding.Yielding.TheVariants as outcome
use Rattle.map_facts.specs.Given.SweepsSweep.{word_found, tried, disposed, root_read, next_read, copied, plan_at, sweep_plan}
use Rattle.map_facts.specs.Given.SweepsSweepPoints.{removes, beginning, tableless, entering, past, at_end, further, next_at, after_next, reply_at, after_reply, told, telling, at_pair, seen}
use Rattle.map_facts.specs.Given.ReservesDeclared.sweep.Purpose.{Purpose}
use Rattle.map_facts.specs.Given.ReservesDeclared.sweep.Purpose.TheVariants.{Walks, Clears, Retains}
use Rattle.map_facts.specs.Given.ReservesDeclared.sweep.Sweep.{Sweep}
use Rattle.map_facts.specs.Given.ReservesDeclared.sweep.Sweeping.{Sweeping}
use Rattle.map_facts.specs.Given.ReservesDeclared.sweep.Sweeping.TheVariants as at
use Rattle.map_facts.specs.Given.ReservesDeclared.sweep.Swept.{Swept}
use Rattle.map_facts.specs.Given.ReservesDeclared.sweep.Swept.TheVariants.{Goes}
use Rattle.map_facts.proofs.Given.RuleKeys.Always.{Always, AlwaysOf, always_if, always_steps}
use Rattle.map_facts_late.specs.Ends.{EndsInSweeping}
use Rattle.map_facts_late.specs.Faults.{AnyTable, IsRoom, RoomInSweeping, SoInSweeping, HoldsInSweeping, SweepRefusesSo}
use Rattle.map_facts_late.proofs.KindsKept.Rooms.Copying.{CopiesAs, CopiesFor, copier_as, copying_ends}
use Rattle.map_facts_late.proofs.KindsKept.Rooms.Reserving.{copying_as}

-- it goes on with no machine within it
abbrev pub IsOwn : Sweeping → Type 0
IsOwn (at.Copies copier) = ⊥
IsOwn (at.Disposes dispose) = ⊥
IsOwn _ = Unit {0}

-- a fault that it has to tell is such a one, and a refusal is one for it
module _ (Is : Fault → Type 0) (Last : Table → Reason → Type 0) where
  abbrev pub SweepsAs : {T : Type 0} → Sweep × Swept T → Type 0
  SweepsAs (c, told) = HoldsInSweeping Is Last c.stands × SweepRefusesSo Is told

  -- one of two points
  if_so : (b : Bool) (x y : Sweeping) → HoldsInSweeping Is Last x → HoldsInSweeping Is Last y → HoldsInSweeping Is Last (if b then x else y)
  if_so true x y p q = p
  if_so false x y p q = q

  further_so : (c : Sweep) → HoldsInSweeping Is Last (further c).stands
  further_so c = if_so (nat_lt (past c).place c.table.len) at.Words (at_end c) tt (if_so (removes c.purpose && c.met) at.Follows at.Over tt tt)

  next_so : (c : Sweep) → HoldsInSweeping Is Last c.stands → (stands : Sweeping) → HoldsInSweeping Is Last (next_at stands c).stands
  next_so c room at.Ready = if_so (nat_lt c.place c.table.len) at.Words at.Over tt tt
  next_so c room _ = room

  reply_so : (c : Sweep) → HoldsInSweeping Is Last c.stands → (keeps : Bool) (stands : Sweeping) → HoldsInSweeping Is Last (reply_at stands c keeps).stands
  reply_so c room true (at.Asks word) = further_so c
  reply_so c room false (at.Asks word) = tt
  reply_so c room keeps _ = room

  -- Asked for the next pair, or told whether to keep one, it goes on so.
  pub told_as_on : (c : Sweep) → HoldsInSweeping Is Last c.stands → HoldsInSweeping Is Last (after_next c).stands × ((keeps : Bool) → HoldsInSweeping Is Last (after_reply c keeps).stands)
  told_as_on c room = (next_so c room c.stands, λ keeps. reply_so c room keeps c.stands)

  module _ (K V : Type 0) (hash : K → ℕ) (c : Sweep) where
    abbrev Rooms : Sweep × Swept (Node K V) → Type 0
    Rooms end = SweepsAs end

    told_so : (stands : Sweeping) → HoldsInSweeping Is Last stands → SweepRefusesSo Is (told {T = Node K V} stands)
    told_so (at.Refused fault) room = room
    told_so _ room = tt

    telling_so : (p : Sweep) → HoldsInSweeping Is Last p.stands → Rooms (telling p)
    telling_so p room = (room, told_so p.stands room)

    entering_so : (table : Table) → HoldsInSweeping Is Last (entering c table).stands
    entering_so table = by (is_incremental c.setting.mode) (removes c.purpose)
      where
        by : (b r : Bool) → HoldsInSweeping Is Last (if b then record c { table = table; stands = at.Follows } else record c { table = table; place = 0; met = false; stands = if r then at.Words else at.Ready }).stands
        by true r = tt
        by false true = tt
        by false false = tt

    pair_so : (purpose : Purpose) (word : ℕ) → Rooms (at_pair purpose c word)
    pair_so Walks word = (tt, tt)
    pair_so Clears word = (tt, tt)
    pair_so Retains word = (tt, tt)

    seen_so : (word : ℕ) → Rooms (seen c word)
    seen_so word = by (removes c.purpose && has_mark word COPYING) (block_in word == 0)
      where
        by : (a b : Bool) → Rooms (if a then telling (further (record c { met = true })) else (if b then telling (further c) else at_pair c.purpose c word))
        by true b = telling_so (further (record c { met = true })) (further_so (record c { met = true }))
        by false true = telling_so (further c) (further_so c)
        by false false = pair_so c.purpose word

    pub copied_as : (end : Copier × Yielding (Node K V) Table) → CopiesAs Is Last end → Rooms (copied c end)
    copied_as (copier, outcome.Goes) room = (room.0, tt)
    copied_as (copier, outcome.Waits) room = (room.0, tt)
    copied_as (copier, outcome.Gave value) room = (room.0, tt)
    copied_as (copier, outcome.Done table) room = telling_so (entering c table) (entering_so table)
    copied_as (copier, outcome.Refused fault) room = (room.1, room.1)

    pub disposed_as : (end : Dispose × Settled (Node K V)) → Rooms (disposed c end)
    disposed_as (dispose, settled.Goes) = (tt, tt)
    disposed_as (dispose, settled.Waits) = (tt, tt)
    disposed_as (dispose, settled.Gave value) = (tt, tt)
    disposed_as (dispose, settled.Done) = telling_so (further c) (further_so c)

    module _ (here : HoldsInSweeping Is Last c.stands) where
      stays : Rooms (c, Goes)
      stays = (here, tt)

      root_so : (out : Out (Node K V)) → Always Rooms (root_read c out)
      root_so (Found root) =
          always_if Rooms (root == 0) _ _ (telling_so (tableless c) (if_so (removes c.purpose) at.Over at.Ready tt tt)) (λ value. telling_so (entering c _) (entering_so _))
      root_so Stored = stays
      root_so (Exchanged r) = stays
      root_so (Made r) = stays
      root_so (Taken value) = stays
      root_so (Roomed r) = stays

      follows_so : (out : Out (Node K V)) → Always Rooms (next_read c out)
      follows_so (Found link) =
          always_if Rooms (link == 0) _ _ (telling_so (beginning c) (if_so (removes c.purpose) at.Words at.Ready tt tt)) (λ value. (copying_as Is Last c.setting c.table _, tt))
      follows_so Stored = stays
      follows_so (Exchanged r) = stays
      follows_so (Made r) = stays
      follows_so (Taken value) = stays
      follows_so (Roomed r) = stays

      word_so : (out : Out (Node K V)) → Always Rooms (word_found c out)
      word_so (Found word) = seen_so word
      word_so Stored = stays
      word_so (Exchanged r) = stays
      word_so (Made r) = stays
      word_so (Taken value) = stays
      word_so (Roomed r) = stays

      tried_so : (word : ℕ) (out : Out (Node K V)) → Always Rooms (tried c word out)
      tried_so word (Exchanged (Ok found)) = (tt, tt)
      tried_so word (Exchanged (Err found)) = seen_so found
      tried_so word (Found found) = stays
      tried_so word Stored = stays
      tried_so word (Made r) = stays
      tried_so word (Taken value) = stays
      tried_so word (Roomed r) = stays

      -- each step leads to a point that is so, and a refusal is so
      pub own_as : (stage : Sweeping) → IsOwn stage → HoldsInSweeping Is Last stage → AlwaysOf Rooms (plan_at hash c stage)
      own_as at.Reads own room = root_so
      own_as at.Follows own room = follows_so
      own_as (at.Copies copier) own room = absurd own
      own_as at.Words own room = word_so
      own_as (at.Tries word) own room = tried_so word
      own_as (at.Counts removed) own room = λ out. (tt, tt)
      own_as (at.Disposes dispose) own room = absurd own
      own_as at.Ready own room = (here, tt)
      own_as (at.Asks word) own room = (here, tt)
      own_as at.Over own room = (here, tt)
      own_as (at.Refused fault) own room = (here, room)

-- The promise: each step leads to a point that is so, and a refusal is so.
module _ (Is : Fault → Type 0) (Last : Table → Reason → Type 0) (short : Is Memory) (K V : Type 0) (hash : K → ℕ) (c : Sweep) (here : HoldsInSweeping Is Last c.stands) where
  abbrev SweepsHere : Sweep × Swept (Node K V) → Type 0
  SweepsHere end = SweepsAs Is Last end

  pub sweep_as : (m m2 : Mem (Node K V)) (end : Sweep × Swept (Node K V)) → EndsInSweeping Is Last m c.stands → Steps Took value_at m (sweep_plan hash c) m2 end → SweepsAs Is Last end
  sweep_as m m2 end ends s = by c.stands here ends s
    where
      by : (stage : Sweeping) → HoldsInSweeping Is Last stage → EndsInSweeping Is Last m stage → Steps Took value_at m (plan_at hash c stage) m2 end → SweepsHere end
      by (at.Copies copier) so ends s =
          let d = steps_back (copied c) m m2 (copier_plan hash copier) end s in
          subst SweepsHere (sym d.2) (copied_as Is Last K V hash c d.0 (copier_as Is Last short K V hash copier so m m2 d.0 ends d.1))
      by (at.Disposes dispose) so ends s = let d = steps_back (disposed c) m m2 (dispose_plan dispose) end s in subst SweepsHere (sym d.2) (disposed_as Is Last K V hash c d.0)
      by stage so ends s = always_steps SweepsHere m m2 (plan_at hash c stage) end (own_as Is Last K V hash c here stage tt so) s

-- the fault is such a one in any case
pub sweeping_ends : (Is : Fault → Type 0) → Is Capacity → {T : Type 0} (m : Mem T) (stage : Sweeping) → EndsInSweeping Is AnyTable m stage
sweeping_ends Is long m (at.Copies copier) = copying_ends Is long m copier copier.stands
sweeping_ends Is long m _ = tt

module _ (Is : Fault → Type 0) where
  abbrev pub SweepsFor : {T : Type 0} → Sweep × Swept T → Type 0
  SweepsFor end = SweepsAs Is AnyTable end

  pub told_so_on : (c : Sweep) → SoInSweeping Is c.stands → SoInSweeping Is (after_next c).stands × ((keeps : Bool) → SoInSweeping Is (after_reply c keeps).stands)
  told_so_on c room = told_as_on Is AnyTable c room

  module _ (K V : Type 0) (hash : K → ℕ) (c : Sweep) where
    abbrev RoomsFor : Sweep × Swept (Node K V) → Type 0
    RoomsFor end = SweepsFor end

    pub copied_so : (end : Copier × Yielding (Node K V) Table) → CopiesFor Is end → RoomsFor (copied c end)
    copied_so end room = copied_as Is AnyTable K V hash c end room

    pub disposed_so : (end : Dispose × Settled (Node K V)) → RoomsFor (disposed c end)
    disposed_so end = disposed_as Is AnyTable K V hash c end

    module _ (here : SoInSweeping Is c.stands) where
      pub own_so : (stage : Sweeping) → IsOwn stage → SoInSweeping Is stage → AlwaysOf RoomsFor (plan_at hash c stage)
      own_so stage own room = own_as Is AnyTable K V hash c here stage own room

-- so for room
pub told_rooms : (c : Sweep) → RoomInSweeping c.stands → RoomInSweeping (after_next c).stands × ((keeps : Bool) → RoomInSweeping (after_reply c keeps).stands)
told_rooms c room = told_so_on IsRoom c room

abbrev pub SweepsRoom : {T : Type 0} → Sweep × Swept T → Type 0
SweepsRoom end = SweepsFor IsRoom end

pub sweep_rooms : (K V : Type 0) (hash : K → ℕ) (c : Sweep) → RoomInSweeping c.stands → (m m2 : Mem (Node K V)) (end : Sweep × Swept (Node K V))
    → Steps Took value_at m (sweep_plan hash c) m2 end → SweepsRoom end
sweep_rooms K V hash c here m m2 end s = sweep_as IsRoom AnyTable (inl refl) K V hash c here m m2 end (sweeping_ends IsRoom (inr refl) m c.stands) s
