-- A reservation is refused for memory, or for the length of a table.
use Rattle.std.specs.Prelude.{◌≡◌, ℕ, ◌^◌, ◌<◌, ◌≤◌, ◌==◌, nat_lt, if◌then◌else◌, Bool, true, false, Some}
use Rattle.std.proofs.Common.{inl, inr, refl, sym, subst, ap, ◌∙◌, eqb-true, arith}
use Rattle.std.proofs.lemmas.Bool.{ltb-true}
use Rattle.map_facts.specs.Given.SeizeWordsDeclared.at.At.TheVariants.{Root}
use Rattle.map_facts.specs.Given.SeizeWordsDeclared.fault.Fault.{Fault}
use Rattle.map_facts.specs.Given.SeizeWordsDeclared.fault.Fault.TheVariants.{Capacity, Memory}
use Rattle.map_facts.specs.Given.SeizeWordsMem.{Mem, value_at, Took}
use Rattle.map_facts.specs.Given.SeizeWordsOp.{Out, Found, Stored, Exchanged, Made, Taken, Roomed}
use Rattle.map_facts.specs.Given.SeizeWordsPlan.{Steps}
use Rattle.map_facts.proofs.Given.SeizeWordsOneOwner.Operations.{loaded}
use Rattle.map_facts.proofs.Given.SeizeRuleRows.Leaving.{steps_back}
use Rattle.map_facts.specs.Given.SeizeDeclared.advance.Advance.{Advance}
use Rattle.map_facts.specs.Given.SeizeDeclared.advance.Advance.TheVariants as progress
use Rattle.map_facts.specs.Given.TablesChunks.{is_incremental}
use Rattle.map_facts.specs.Given.ResizeCopier.{copier_plan}
use Rattle.map_facts.specs.Given.ResizeCopierStates.{copying_all, resting}
use Rattle.map_facts.specs.Given.ResizeNewTable.{new_table_plan}
use Rattle.map_facts.specs.Given.ReservesReserve.{standing, needed, refusing, enough, summed, made, grown, copied, root_read, next_read, plan_at, reserve_plan}
use Rattle.map_facts.specs.Given.ResizeSum.{sum_plan}
use Rattle.map_facts.specs.Given.TablesTablePlaces.{at_word}
use Rattle.map_facts.specs.Given.TablesDeclared.lengths.Reason.{Reason}
use Rattle.map_facts.specs.Given.TablesDeclared.node.Node.{Node}
use Rattle.map_facts.specs.Given.ResizeDeclared.yielding.Yielding.{Yielding}
use Rattle.map_facts.specs.Given.ResizeDeclared.yielding.Yielding.TheVariants as outcome
use Rattle.map_facts.specs.Given.TablesDeclared.setting.Setting.{Setting}
use Rattle.map_facts.specs.Given.TablesDeclared.table.Table.{Table}
use Rattle.map_facts.specs.Given.TablesDeclared.table_words.TheConstants.{NEXT}
use Rattle.map_facts.specs.Given.ResizeDeclared.copier.Copier.{Copier}
use Rattle.map_facts.specs.Given.ResizeDeclared.copier.Copying.TheVariants as copies
use Rattle.map_facts.specs.Given.ResizeDeclared.new_table.NewTable.{NewTable}
use Rattle.map_facts.specs.Given.ReservesDeclared.reserve.Reserve.{Reserve}
use Rattle.map_facts.specs.Given.ReservesDeclared.reserve.Reserving.{Reserving}
use Rattle.map_facts.specs.Given.ReservesDeclared.reserve.Reserving.TheVariants as at
use Rattle.map_facts.specs.Given.ResizeDeclared.sum.Sum.{Sum}
use Rattle.map_facts.proofs.Given.RuleKeys.Always.{Always, AlwaysOf, always_ends, always_steps}
use Rattle.map_facts_late.specs.Ends.{EndsInReserving}
use Rattle.map_facts_late.specs.Faults.{AnyTable, IsRoom, RoomInReserving, RefusesSo, SoInReserving, HoldsInCopying, HoldsInReserving}
use Rattle.map_facts_late.proofs.KindsKept.Rooms.Copying.{CopiesAs, CopiesFor, copier_as, copying_ends}
use Rattle.map_facts_late.proofs.KindsKept.Rooms.Making.{CountsOn, sum_counts, MakesAs, MakesFor, always_long, always_where, new_table_as, first_table_as, table_reserved_as}
use Rattle.map_facts.proofs.Given.General.{less_not as at_least}

-- a fault that it has to tell is such a one, and a refusal is one for it
module _ (Is : Fault → Type 0) (Last : Table → Reason → Type 0) where
  abbrev pub ReservesAs : {T : Type 0} → Reserve × Yielding T Unit → Type 0
  ReservesAs (p, told) = HoldsInReserving Is Last p.stands × RefusesSo Is told

  -- a copying that begins
  pub copying_as : (setting : Setting) (source target : Table) → HoldsInCopying Is Last (copying_all setting source target).stands
  copying_as setting source target = by (is_incremental setting.mode)
    where
      by : (b : Bool) → HoldsInCopying Is Last (if b then record (resting setting true source target copies.Marks) { end = source.len } else resting setting true source target copies.Asks).stands
      by true = tt
      by false = tt

-- it goes on with no machine within it
abbrev pub IsOwn : Reserving → Type 0
IsOwn at.Reads = Unit {0}
IsOwn (at.Follows table need) = Unit {0}
IsOwn at.Over = Unit {0}
IsOwn (at.Refused fault) = Unit {0}
IsOwn _ = ⊥

module _ (Is : Fault → Type 0) (Last : Table → Reason → Type 0) where
  module _ (K V : Type 0) (hash : K → ℕ) (p : Reserve) where
    abbrev Rooms : Reserve × Yielding (Node K V) Unit → Type 0
    Rooms end = ReservesAs Is Last end

    enough_as : (table : Table) (need : ℕ) → (2 ^ 48 < need → Is Capacity) → Rooms (enough p table need)
    enough_as table need many = by (nat_lt (2 ^ 48) need) (nat_lt table.len need) refl
      where
        by : (long short : Bool) → nat_lt (2 ^ 48) need ≡ long
            → Rooms (if long then refusing p Capacity else (if short then (standing p (at.Follows table need), outcome.Goes) else (standing p at.Over, outcome.Done tt)))
        by true short e = let so = many (ltb-true (2 ^ 48) need e) in (so, so)
        by false true e = (at_least (2 ^ 48) need e, tt)
        by false false e = (tt, tt)

    -- where it has come to a count by which it needs too many places, the fault is such a one
    pub summed_as : (table : Table) (end : Sum × Advance ℕ) → CountsOn end → ((count : ℕ) → end.1 ≡ progress.Done count → 2 ^ 48 < needed p.additional count → Is Capacity) → Rooms (summed p table end)
    summed_as table (sum, progress.Goes) on many = (tt, tt)
    summed_as table (sum, progress.Waits) on many = (tt, tt)
    summed_as table (sum, progress.Done count) on many = enough_as table (needed p.additional count) (many count refl)
    summed_as table (sum, progress.Refused fault) on many = absurd on

    pub made_as : (end : NewTable × Advance Table) → MakesAs Is Last end → Rooms (made p end)
    made_as (making, progress.Goes) room = (room, tt)
    made_as (making, progress.Waits) room = (room, tt)
    made_as (making, progress.Done table) room = (tt, tt)
    made_as (making, progress.Refused fault) room = (room.1, room.1)

    pub grown_as : (table : Table) (end : NewTable × Advance Table) → MakesAs Is Last end → Rooms (grown p table end)
    grown_as table (making, progress.Goes) room = (room, tt)
    grown_as table (making, progress.Waits) room = (room, tt)
    grown_as table (making, progress.Done next) room = (copying_as Is Last p.setting table next, tt)
    grown_as table (making, progress.Refused fault) room = (room.1, room.1)

    pub copied_as : (end : Copier × Yielding (Node K V) Table) → CopiesAs Is Last end → Rooms (copied p end)
    copied_as (copier, outcome.Goes) room = (room.0, tt)
    copied_as (copier, outcome.Waits) room = (room.0, tt)
    copied_as (copier, outcome.Gave value) room = (room.0, tt)
    copied_as (copier, outcome.Done table) room = (tt, tt)
    copied_as (copier, outcome.Refused fault) room = (room.1, room.1)

    -- where it has read that the map has no table, or that none is linked behind the root
    abbrev pub EndsOwn : Reserving → Type 0
    EndsOwn at.Reads = (out : Out (Node K V)) → out ≡ Found 0 → 2 ^ 48 < needed p.additional 0 → Is Capacity
    EndsOwn (at.Follows table need) = (out : Out (Node K V)) → out ≡ Found 0 → 2 ^ 63 ≤ table.turn → Is Capacity
    EndsOwn _ = Unit {0}

    module _ (here : HoldsInReserving Is Last p.stands) where
      stays : Rooms (p, outcome.Goes)
      stays = (here, tt)

      pub root_as : (out : Out (Node K V)) → (out ≡ Found 0 → 2 ^ 48 < needed p.additional 0 → Is Capacity) → Always Rooms (root_read p out)
      root_as (Found root) many =
          always_where Rooms (root == 0) _ _ (λ none. (first_table_as Is Last p.setting (needed p.additional 0) (many (ap (λ (x : ℕ). Found x) (eqb-true root 0 none))), tt)) (λ value. (tt, tt))
      root_as Stored many = stays
      root_as (Exchanged r) many = stays
      root_as (Made r) many = stays
      root_as (Taken value) many = stays
      root_as (Roomed r) many = stays

      pub follows_as : (table : Table) (need : ℕ) → need ≤ 2 ^ 48 → (out : Out (Node K V)) → (out ≡ Found 0 → 2 ^ 63 ≤ table.turn → Is Capacity) → Always Rooms (next_read p table need out)
      follows_as table need few (Found link) late =
          always_where Rooms (link == 0) _ _
          (λ none. (table_reserved_as Is Last p.setting table need (λ many. absurd (omega (arith, few, many))) (late (ap (λ (x : ℕ). Found x) (eqb-true link 0 none))), tt))
          (λ value. (copying_as Is Last p.setting table _, tt))
      follows_as table need few Stored late = stays
      follows_as table need few (Exchanged r) late = stays
      follows_as table need few (Made r) late = stays
      follows_as table need few (Taken value) late = stays
      follows_as table need few (Roomed r) late = stays

      -- each step leads to a point that is so, and a refusal is so
      pub own_as : (stage : Reserving) → IsOwn stage → HoldsInReserving Is Last stage → EndsOwn stage → AlwaysOf Rooms (plan_at hash p stage)
      own_as at.Reads own room ends = λ out. root_as out (ends out)
      own_as (at.Follows table need) own room ends = λ out. follows_as table need room out (ends out)
      own_as at.Over own room ends = (here, tt)
      own_as (at.Refused fault) own room ends = (here, room)
      own_as (at.Makes making) own room ends = absurd own
      own_as (at.Sums table sum) own room ends = absurd own
      own_as (at.Grows table making) own room ends = absurd own
      own_as (at.Copies copier) own room ends = absurd own

-- the fault is such a one in any case
module _ (Is : Fault → Type 0) (long : Is Capacity) where
  pub reserving_ends : {T : Type 0} (m m2 : Mem T) (p : Reserve) (stage : Reserving) → EndsInReserving Is AnyTable m m2 p stage
  reserving_ends m m2 p at.Reads = λ none many. long
  reserving_ends m m2 p (at.Makes making) = always_long Is long making.setting
  reserving_ends m m2 p (at.Sums table sum) = λ after count counts many. long
  reserving_ends m m2 p (at.Follows table need) = λ none late. long
  reserving_ends m m2 p (at.Grows table making) = always_long Is long making.setting
  reserving_ends m m2 p (at.Copies copier) = copying_ends Is long m copier copier.stands
  reserving_ends m m2 p at.Over = tt
  reserving_ends m m2 p (at.Refused fault) = tt

-- The promise: each step leads to a point that is so, and a refusal is so.
module _ (Is : Fault → Type 0) (Last : Table → Reason → Type 0) (short : Is Memory) (K V : Type 0) (hash : K → ℕ) (p : Reserve) (here : HoldsInReserving Is Last p.stands) where
  abbrev ReservesHere : Reserve × Yielding (Node K V) Unit → Type 0
  ReservesHere end = ReservesAs Is Last end

  pub reserve_as : (m m2 : Mem (Node K V)) (end : Reserve × Yielding (Node K V) Unit) → EndsInReserving Is Last m m2 p p.stands → Steps Took value_at m (reserve_plan hash p) m2 end → ReservesAs Is Last end
  reserve_as m m2 end ends s = by p.stands here ends s
    where
      by : (stage : Reserving) → HoldsInReserving Is Last stage → EndsInReserving Is Last m m2 p stage → Steps Took value_at m (plan_at hash p stage) m2 end → ReservesHere end
      by at.Reads so ends s =
          let d = loaded m (root_read p) (Root p.setting.root) m2 end s in
          always_ends ReservesHere (value_at m) (root_read p (Found d.0)) end
          (root_as Is Last K V hash p here (Found d.0) (λ none. ends (let zero : d.0 ≡ 0 = cc none in d.1 ∙ ap (λ (x : ℕ). Some x) zero))) d.3
      by (at.Makes making) so ends s =
          let d = steps_back (made p) m m2 (new_table_plan making) end s in
          subst ReservesHere (sym d.2) (made_as Is Last K V hash p d.0 (new_table_as Is Last short making ends so m m2 d.0 d.1))
      by (at.Sums table sum) so ends s =
          let d = steps_back (summed p table) m m2 (sum_plan sum) end s in
          subst ReservesHere (sym d.2)
          (summed_as Is Last K V hash p table d.0 (always_steps CountsOn m m2 (sum_plan sum) d.0 (sum_counts (Node K V) sum) d.1)
          (λ count done. ends d.0.0 count (subst (λ (told : Advance ℕ). Steps Took value_at m (sum_plan sum) m2 (d.0.0, told)) done d.1)))
      by (at.Follows table need) so ends s =
          let d = loaded m (next_read p table need) (at_word table NEXT) m2 end s in
          always_ends ReservesHere (value_at m) (next_read p table need (Found d.0)) end
          (follows_as Is Last K V hash p here table need so (Found d.0) (λ none. ends (let zero : d.0 ≡ 0 = cc none in d.1 ∙ ap (λ (x : ℕ). Some x) zero))) d.3
      by (at.Grows table making) so ends s =
          let d = steps_back (grown p table) m m2 (new_table_plan making) end s in
          subst ReservesHere (sym d.2) (grown_as Is Last K V hash p table d.0 (new_table_as Is Last short making ends so m m2 d.0 d.1))
      by (at.Copies copier) so ends s =
          let d = steps_back (copied p) m m2 (copier_plan hash copier) end s in
          subst ReservesHere (sym d.2) (copied_as Is Last K V hash p d.0 (copier_as Is Last short K V hash copier so m m2 d.0 ends d.1))
      by at.Over so ends s = always_steps ReservesHere m m2 (plan_at hash p at.Over) end (own_as Is Last K V hash p here at.Over tt tt tt) s
      by (at.Refused fault) so ends s = always_steps ReservesHere m m2 (plan_at hash p (at.Refused fault)) end (own_as Is Last K V hash p here (at.Refused fault) tt so tt) s

-- where the fault is such a one in any case
module _ (Is : Fault → Type 0) where
  abbrev pub ReservesFor : {T : Type 0} → Reserve × Yielding T Unit → Type 0
  ReservesFor end = ReservesAs Is AnyTable end

  module _ (long : Is Capacity) (K V : Type 0) (hash : K → ℕ) (p : Reserve) where
    abbrev RoomsFor : Reserve × Yielding (Node K V) Unit → Type 0
    RoomsFor end = ReservesFor end

    pub summed_so : (table : Table) (end : Sum × Advance ℕ) → CountsOn end → RoomsFor (summed p table end)
    summed_so table end on = summed_as Is AnyTable K V hash p table end on (λ count done many. long)

    pub made_so : (end : NewTable × Advance Table) → MakesFor Is end → RoomsFor (made p end)
    made_so end room = made_as Is AnyTable K V hash p end room

    pub grown_so : (table : Table) (end : NewTable × Advance Table) → MakesFor Is end → RoomsFor (grown p table end)
    grown_so table end room = grown_as Is AnyTable K V hash p table end room

    pub copied_so : (end : Copier × Yielding (Node K V) Table) → CopiesFor Is end → RoomsFor (copied p end)
    copied_so end room = copied_as Is AnyTable K V hash p end room

    own_ends : (stage : Reserving) → EndsOwn Is AnyTable K V hash p stage
    own_ends at.Reads = λ out none many. long
    own_ends (at.Follows table need) = λ out none late. long
    own_ends _ = tt

    module _ (here : SoInReserving Is p.stands) where
      pub own_so : (stage : Reserving) → IsOwn stage → SoInReserving Is stage → AlwaysOf RoomsFor (plan_at hash p stage)
      own_so stage own room = own_as Is AnyTable K V hash p here stage own room (own_ends stage)

-- so for room
abbrev pub ReservesRoom : {T : Type 0} → Reserve × Yielding T Unit → Type 0
ReservesRoom end = ReservesFor IsRoom end

pub reserve_rooms : (K V : Type 0) (hash : K → ℕ) (p : Reserve) → RoomInReserving p.stands → (m m2 : Mem (Node K V)) (end : Reserve × Yielding (Node K V) Unit)
    → Steps Took value_at m (reserve_plan hash p) m2 end → ReservesRoom end
reserve_rooms K V hash p here m m2 end s = reserve_as IsRoom AnyTable (inl refl) K V hash p here m m2 end (reserving_ends IsRoom (inr refl) m m2 p p.stands) s
