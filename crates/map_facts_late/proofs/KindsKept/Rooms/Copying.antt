-- A copying is refused for what the making of a table is refused for: for memory, or for the length of a table.
use Rattle.std.specs.Prelude.{◌≡◌, ℕ, ◌+◌, ◌-◌, ◌%◌, ◌/◌, ◌^◌, ◌==◌, nat_lt, if◌then◌else◌, Bool, true, false, Some, Ok, Err}
use Rattle.std.proofs.Common.{inl, inr, refl, sym, subst, ap, ◌∙◌, eqb-true}
use Rattle.map_facts.specs.Given.SeizeWordsDeclared.fault.Fault.{Fault}
use Rattle.map_facts.specs.Given.SeizeWordsDeclared.fault.Fault.TheVariants.{Capacity, Memory}
use Rattle.map_facts.specs.Given.SeizeWordsMem.{Mem, value_at, Took}
use Rattle.map_facts.specs.Given.SeizeWordsOp.{Out, Found, Stored, Exchanged, Made, Taken, Roomed}
use Rattle.map_facts.specs.Given.SeizeWordsPlan.{Steps}
use Rattle.map_facts.proofs.Given.SeizeWordsOneOwner.Operations.{loaded}
use Rattle.map_facts.proofs.Given.SeizeRuleRows.Leaving.{steps_back}
use Rattle.map_facts.specs.Given.SeizeDeclared.advance.Advance.{Advance}
use Rattle.map_facts.specs.Given.SeizeDeclared.advance.Advance.TheVariants as progress
use Rattle.map_facts.specs.Given.SeizeDeclared.rows.settle.Settle.{Settle}
use Rattle.map_facts.specs.Given.SeizeDeclared.rows.settle.Settled.{Settled}
use Rattle.map_facts.specs.Given.SeizeDeclared.rows.settle.Settled.TheVariants as settled
use Rattle.map_facts.specs.Given.SeizeSettle.{settle_plan}
use Rattle.map_facts.specs.Given.TablesChunks.{is_incremental}
use Rattle.map_facts.specs.Given.ResizeCopier.{plan_at, copier_plan}
use Rattle.map_facts.specs.Given.ResizeCopierClaims.{root_read, next_read, status_read, claim_read, claimed}
use Rattle.map_facts.specs.Given.ResizeCopierCounts.{refusing, counted}
use Rattle.map_facts.specs.Given.ResizeCopierFurther.{further_read, replacement_read, grown, remade}
use Rattle.map_facts.specs.Given.ResizeCopierMarks.{is_mine, is_awaited, marked}
use Rattle.map_facts.specs.Given.ResizeCopierPlaces.{next_try, pair_put, place_read, after_put}
use Rattle.map_facts.specs.Given.ResizeCopierPromotes.{table_retired, promoted, successor_read, retired}
use Rattle.map_facts.specs.Given.ResizeCopierStates.{standing, behind, none_left, next_place, place_done}
use Rattle.map_facts.specs.Given.ResizeNewTable.{new_table_plan}
use Rattle.map_facts.specs.Given.TablesNodes.{deferred_word}
use Rattle.map_facts.specs.Given.TablesProbes.{probe_after}
use Rattle.map_facts.specs.Given.TablesTablePlaces.{at_word}
use Rattle.map_facts.specs.Given.TablesDeclared.lengths.Reason.{Reason}
use Rattle.map_facts.specs.Given.TablesDeclared.lengths.Reason.TheVariants.{NoPlace}
use Rattle.map_facts.specs.Given.TablesDeclared.node.Node.{Node}
use Rattle.map_facts.specs.Given.ResizeDeclared.yielding.Yielding.{Yielding}
use Rattle.map_facts.specs.Given.ResizeDeclared.yielding.Yielding.TheVariants as outcome
use Rattle.map_facts.specs.Given.TablesDeclared.probe.Probe.{Probe}
use Rattle.map_facts.specs.Given.TablesDeclared.status.TheConstants.Status.{PROMOTED, ABORTED}
use Rattle.map_facts.specs.Given.TablesDeclared.table.Table.{Table}
use Rattle.map_facts.specs.Given.TablesDeclared.table_words.TheConstants.{NEXT}
use Rattle.map_facts.specs.Given.ResizeDeclared.copier.Copier.{Copier}
use Rattle.map_facts.specs.Given.ResizeDeclared.copier.Copying.{Copying}
use Rattle.map_facts.specs.Given.ResizeDeclared.copier.Copying.TheVariants as at
use Rattle.map_facts.specs.Given.ResizeDeclared.new_table.NewTable.{NewTable}
use Rattle.map_facts.proofs.Given.RuleKeys.Always.{Always, AlwaysOf, always_ends, always_if, always_steps}
use Rattle.map_facts_late.specs.Ends.{EndsSo, IsLastFor, EndsInCopying}
use Rattle.map_facts_late.specs.Faults.{AnyTable, IsRoom, RoomInCopying, RefusesSo, SoInCopying, HoldsInCopying}
use Rattle.map_facts_late.proofs.KindsKept.Rooms.Making.{MakesAs, MakesFor, always_long, always_where, new_table_as, table_after_as}

-- a fault that it has to tell is such a one, and a refusal is one for it
module _ (Is : Fault → Type 0) (Last : Table → Reason → Type 0) where
  abbrev pub CopiesAs : {T : Type 0} → Copier × Yielding T Table → Type 0
  CopiesAs (p, told) = HoldsInCopying Is Last p.stands × RefusesSo Is told

-- it goes on with no machine within it
abbrev pub IsOwn : Copying → Type 0
IsOwn (at.Grows word code making) = ⊥
IsOwn (at.Remakes making) = ⊥
IsOwn (at.Retires settle rest) = ⊥
IsOwn _ = Unit {0}

module _ (Is : Fault → Type 0) (Last : Table → Reason → Type 0) where
  -- where it goes on after a piece of work
  behind_so : (p : Copier) → HoldsInCopying Is Last (behind p).stands
  behind_so p = by p.whole
    where
      by : (b : Bool) → HoldsInCopying Is Last (if b then record p { place = 0; end = 0; spent = is_incremental p.setting.mode; stands = at.Asks } else standing p at.Over).stands
      by true = tt
      by false = tt

  none_left_so : (p : Copier) → HoldsInCopying Is Last (none_left p).stands
  none_left_so p = by p.whole
    where
      by : (b : Bool) → HoldsInCopying Is Last (if b then record p { spent = true; stands = at.Asks } else standing p at.Over).stands
      by true = tt
      by false = tt

  next_so : (p : Copier) → HoldsInCopying Is Last (next_place p).stands
  next_so p = by (nat_lt p.place (p.end - 1)) (p.done == 0)
    where
      ends : (b : Bool) → HoldsInCopying Is Last (if b then behind p else standing p at.Counts).stands
      ends true = behind_so p
      ends false = tt

      by : (a b : Bool) → HoldsInCopying Is Last (if a then record p { place = p.place + 1; stands = at.Marks } else (if b then behind p else standing p at.Counts)).stands
      by true b = tt
      by false b = ends b

  done_so : (p : Copier) → HoldsInCopying Is Last (place_done p).stands
  done_so p = next_so (record p { done = (p.done + 1) % 2 ^ 64 })

  next_try_so : (p : Copier) (word code : ℕ) (table : Table) (probe : Probe) → HoldsInCopying Is Last (next_try p word code table probe).stands
  next_try_so p word code table probe = by (nat_lt probe.len table.limit) (is_incremental p.setting.mode)
    where
      ends : (b : Bool) → HoldsInCopying Is Last (if b then standing p (at.Passes word code table) else record p { place = 0; end = 0; done = 0; stands = at.Aborts }).stands
      ends true = tt
      ends false = tt

      by : (a b : Bool) → HoldsInCopying Is Last (if a then standing p (at.Probes word code table (probe_after probe (table.len - 1))) else (if b then standing p (at.Passes word code table) else record p { place = 0; end = 0; done = 0; stands = at.Aborts })).stands
      by true b = tt
      by false b = ends b

  pair_put_so : (p : Copier) (word : ℕ) → HoldsInCopying Is Last (pair_put p word).stands
  pair_put_so p word = by (is_incremental p.setting.mode)
    where
      by : (b : Bool) → HoldsInCopying Is Last (if b then standing p (at.Covers word) else place_done p).stands
      by true = tt
      by false = done_so p

  refusing_so : (p : Copier) (word : ℕ) (fault : Fault) → Is fault → HoldsInCopying Is Last (refusing p word fault).stands
  refusing_so p word fault room = by (p.done == 0)
    where
      by : (b : Bool) → HoldsInCopying Is Last (if b then standing p (at.Unmarks word fault) else standing p (at.Tallies word fault)).stands
      by true = room
      by false = room

  retired_so : (p : Copier) (rest : ℕ) → HoldsInCopying Is Last (table_retired p rest).stands
  retired_so p rest = by (rest == 0)
    where
      by : (b : Bool) → HoldsInCopying Is Last (if b then standing p at.Over else standing p (at.Succeeds rest)).stands
      by true = tt
      by false = tt

  module _ (K V : Type 0) (hash : K → ℕ) (p : Copier) where
    abbrev Rooms : Copier × Yielding (Node K V) Table → Type 0
    Rooms end = CopiesAs Is Last end

    pub grown_as : (word code : ℕ) (end : NewTable × Advance Table) → MakesAs Is Last end → Rooms (grown p word code end)
    grown_as word code (making, progress.Goes) room = (room, tt)
    grown_as word code (making, progress.Waits) room = (room, tt)
    grown_as word code (making, progress.Done table) room = (tt, tt)
    grown_as word code (making, progress.Refused fault) room = (refusing_so p word fault room.1, tt)

    pub remade_as : (end : NewTable × Advance Table) → MakesAs Is Last end → Rooms (remade p end)
    remade_as (making, progress.Goes) room = (room, tt)
    remade_as (making, progress.Waits) room = (room, tt)
    remade_as (making, progress.Done table) room = (tt, tt)
    remade_as (making, progress.Refused fault) room = (room.1, tt)

    pub settled_as : (rest : ℕ) (end : Settle × Settled (Node K V)) → Rooms (retired p rest end)
    settled_as rest (settle, settled.Goes) = (tt, tt)
    settled_as rest (settle, settled.Waits) = (tt, tt)
    settled_as rest (settle, settled.Gave value) = (tt, tt)
    settled_as rest (settle, settled.Done) = (retired_so p rest, tt)

    -- where it has read that no table is linked behind one that has no place, that one is such a table
    abbrev pub EndsOwn : Copying → Type 0
    EndsOwn (at.Passes word code table) = EndsSo Is Last p.setting × ((out : Out (Node K V)) → out ≡ Found 0 → IsLastFor Is Last table)
    EndsOwn at.Replaces = EndsSo Is Last p.setting × ((out : Out (Node K V)) → out ≡ Found 0 → IsLastFor Is Last p.target)
    EndsOwn _ = Unit {0}

    module _ (here : HoldsInCopying Is Last p.stands) where
      stays : Rooms (p, outcome.Goes)
      stays = (here, tt)

      root_so : (out : Out (Node K V)) → Always Rooms (root_read p out)
      root_so (Found link) = λ value. (tt, tt)
      root_so Stored = stays
      root_so (Exchanged r) = stays
      root_so (Made r) = stays
      root_so (Taken value) = stays
      root_so (Roomed r) = stays

      follows_so : (out : Out (Node K V)) → Always Rooms (next_read p out)
      follows_so (Found link) = always_if Rooms (link == 0) _ _ (tt, tt) (λ value. (tt, tt))
      follows_so Stored = stays
      follows_so (Exchanged r) = stays
      follows_so (Made r) = stays
      follows_so (Taken value) = stays
      follows_so (Roomed r) = stays

      status_so : (out : Out (Node K V)) → Always Rooms (status_read p out)
      status_so (Found status) =
          always_if Rooms (status == PROMOTED) _ _ (tt, tt) (always_if Rooms (status == ABORTED) _ _ (tt, tt) (always_if Rooms p.spent _ _ (here, tt) (tt, tt)))
      status_so Stored = stays
      status_so (Exchanged r) = stays
      status_so (Made r) = stays
      status_so (Taken value) = stays
      status_so (Roomed r) = stays

      claim_so : (out : Out (Node K V)) → Always Rooms (claim_read p out)
      claim_so (Found claim) = always_if Rooms (nat_lt claim p.source.len) _ _ (tt, tt) (none_left_so p, tt)
      claim_so Stored = stays
      claim_so (Exchanged r) = stays
      claim_so (Made r) = stays
      claim_so (Taken value) = stays
      claim_so (Roomed r) = stays

      claimed_so : (out : Out (Node K V)) → Always Rooms (claimed p out)
      claimed_so (Found claim) = always_if Rooms (nat_lt claim p.source.len) _ _ (tt, tt) (none_left_so p, tt)
      claimed_so Stored = stays
      claimed_so (Exchanged r) = stays
      claimed_so (Made r) = stays
      claimed_so (Taken value) = stays
      claimed_so (Roomed r) = stays

      marked_so : (out : Out (Node K V)) → Always Rooms (marked hash p out)
      marked_so (Found word) =
          always_if Rooms (is_mine p word) _ _ (always_if Rooms (word / 2048 == 0) _ _ (done_so p, tt) (λ value. (tt, tt)))
          (always_if Rooms (is_awaited p word) _ _ (here, tt) (next_so p, tt))
      marked_so Stored = stays
      marked_so (Exchanged r) = stays
      marked_so (Made r) = stays
      marked_so (Taken value) = stays
      marked_so (Roomed r) = stays

      place_so : (word code : ℕ) (table : Table) (probe : Probe) (out : Out (Node K V)) → Always Rooms (place_read p word code table probe out)
      place_so word code table probe (Found found) = always_if Rooms (found == 0) _ _ (tt, tt) (next_try_so p word code table probe, tt)
      place_so word code table probe Stored = stays
      place_so word code table probe (Exchanged r) = stays
      place_so word code table probe (Made r) = stays
      place_so word code table probe (Taken value) = stays
      place_so word code table probe (Roomed r) = stays

      put_so : (word code : ℕ) (table : Table) (probe : Probe) (out : Out (Node K V)) → Always Rooms (after_put p word code table probe out)
      put_so word code table probe (Exchanged (Ok found)) = (pair_put_so p word, tt)
      put_so word code table probe (Exchanged (Err found)) = (next_try_so p word code table probe, tt)
      put_so word code table probe (Found found) = stays
      put_so word code table probe Stored = stays
      put_so word code table probe (Made r) = stays
      put_so word code table probe (Taken value) = stays
      put_so word code table probe (Roomed r) = stays

      pub further_as : (word code : ℕ) (table : Table) → EndsSo Is Last p.setting → (out : Out (Node K V)) → (out ≡ Found 0 → IsLastFor Is Last table) → Always Rooms (further_read p word code table out)
      further_as word code table ends (Found link) last =
          always_where Rooms (link == 0) _ _ (λ none. (table_after_as Is Last p.setting table NoPlace (last (ap (λ (x : ℕ). Found x) (eqb-true link 0 none)) NoPlace tt) ends, tt)) (λ value. (tt, tt))
      further_as word code table ends Stored last = stays
      further_as word code table ends (Exchanged r) last = stays
      further_as word code table ends (Made r) last = stays
      further_as word code table ends (Taken value) last = stays
      further_as word code table ends (Roomed r) last = stays

      pub replacement_as : EndsSo Is Last p.setting → (out : Out (Node K V)) → (out ≡ Found 0 → IsLastFor Is Last p.target) → Always Rooms (replacement_read p out)
      replacement_as ends (Found link) last =
          always_where Rooms (link == 0) _ _ (λ none. (table_after_as Is Last p.setting p.target NoPlace (last (ap (λ (x : ℕ). Found x) (eqb-true link 0 none)) NoPlace tt) ends, tt)) (λ value. (tt, tt))
      replacement_as ends Stored last = stays
      replacement_as ends (Exchanged r) last = stays
      replacement_as ends (Made r) last = stays
      replacement_as ends (Taken value) last = stays
      replacement_as ends (Roomed r) last = stays

      counted_so : (out : Out (Node K V)) → Always Rooms (counted p out)
      counted_so (Found count) = always_if Rooms ((count + p.done) % 2 ^ 64 == p.source.len) _ _ (tt, tt) (behind_so (record p { done = 0 }), tt)
      counted_so Stored = stays
      counted_so (Exchanged r) = stays
      counted_so (Made r) = stays
      counted_so (Taken value) = stays
      counted_so (Roomed r) = stays

      promoted_so : (out : Out (Node K V)) → Always Rooms (promoted p out)
      promoted_so (Exchanged (Ok found)) = (tt, tt)
      promoted_so (Exchanged (Err found)) = (behind_so p, tt)
      promoted_so (Found found) = stays
      promoted_so Stored = stays
      promoted_so (Made r) = stays
      promoted_so (Taken value) = stays
      promoted_so (Roomed r) = stays

      successor_so : (table : ℕ) (out : Out (Node K V)) → Always Rooms (successor_read p table out)
      successor_so table (Found link) = (tt, tt)
      successor_so table Stored = stays
      successor_so table (Exchanged r) = stays
      successor_so table (Made r) = stays
      successor_so table (Taken value) = stays
      successor_so table (Roomed r) = stays

      -- each step leads to a point that is so, and a refusal is so
      pub own_as : (stage : Copying) → IsOwn stage → HoldsInCopying Is Last stage → EndsOwn stage → AlwaysOf Rooms (plan_at hash p stage)
      own_as at.Begins own room ends = root_so
      own_as at.Follows own room ends = follows_so
      own_as at.Asks own room ends = status_so
      own_as at.Sees own room ends = claim_so
      own_as at.Claims own room ends = claimed_so
      own_as at.Marks own room ends = marked_so
      own_as (at.Probes word code table probe) own room ends = place_so word code table probe
      own_as (at.Puts word code table probe) own room ends = put_so word code table probe
      own_as (at.Covers word) own room ends = λ out. (done_so p, tt)
      own_as (at.Passes word code table) own room ends = λ out. further_as word code table ends.0 out (ends.1 out)
      own_as (at.Grows word code making) own room ends = absurd own
      own_as at.Aborts own room ends = λ out. (tt, tt)
      own_as at.Replaces own room ends = λ out. replacement_as ends.0 out (ends.1 out)
      own_as (at.Remakes making) own room ends = absurd own
      own_as at.Counts own room ends = counted_so
      own_as (at.Tallies word fault) own room ends = λ out. (room, tt)
      own_as (at.Unmarks word fault) own room ends = λ out. (room, tt)
      own_as (at.Unclaims fault) own room ends = λ out. (room, tt)
      own_as at.Promotes own room ends = promoted_so
      own_as at.Announces own room ends = λ out. (tt, tt)
      own_as (at.Succeeds table) own room ends = successor_so table
      own_as (at.Retires settle rest) own room ends = absurd own
      own_as at.Over own room ends = (here, tt)
      own_as (at.Refused fault) own room ends = (here, room)

-- the fault is such a one in any case, and any table is one of these
module _ (Is : Fault → Type 0) (long : Is Capacity) where
  pub copying_ends : {T : Type 0} (m : Mem T) (p : Copier) (stage : Copying) → EndsInCopying Is AnyTable m p stage
  copying_ends m p (at.Passes word code table) = (always_long Is long p.setting, λ none reason by_table. tt)
  copying_ends m p (at.Grows word code making) = always_long Is long making.setting
  copying_ends m p at.Replaces = (always_long Is long p.setting, λ none reason by_table. tt)
  copying_ends m p (at.Remakes making) = always_long Is long making.setting
  copying_ends m p _ = tt

-- The promise: each step leads to a point that is so, and a refusal is so.
module _ (Is : Fault → Type 0) (Last : Table → Reason → Type 0) (short : Is Memory) (K V : Type 0) (hash : K → ℕ) (p : Copier) (here : HoldsInCopying Is Last p.stands) where
  abbrev CopiesHere : Copier × Yielding (Node K V) Table → Type 0
  CopiesHere end = CopiesAs Is Last end

  pub copier_as : (m m2 : Mem (Node K V)) (end : Copier × Yielding (Node K V) Table) → EndsInCopying Is Last m p p.stands → Steps Took value_at m (copier_plan hash p) m2 end → CopiesAs Is Last end
  copier_as m m2 end ends s = by p.stands here ends s
    where
      told : (stage : Copying) → AlwaysOf CopiesHere (plan_at hash p stage) → Steps Took value_at m (plan_at hash p stage) m2 end → CopiesHere end
      told stage always s = always_steps CopiesHere m m2 (plan_at hash p stage) end always s

      by : (stage : Copying) → HoldsInCopying Is Last stage → EndsInCopying Is Last m p stage → Steps Took value_at m (plan_at hash p stage) m2 end → CopiesHere end
      by (at.Grows word code making) so ends s =
          let d = steps_back (grown p word code) m m2 (new_table_plan making) end s in
          subst CopiesHere (sym d.2) (grown_as Is Last K V hash p word code d.0 (new_table_as Is Last short making ends so m m2 d.0 d.1))
      by (at.Remakes making) so ends s =
          let d = steps_back (remade p) m m2 (new_table_plan making) end s in
          subst CopiesHere (sym d.2) (remade_as Is Last K V hash p d.0 (new_table_as Is Last short making ends so m m2 d.0 d.1))
      by (at.Retires settle rest) so ends s =
          let d = steps_back (retired p rest) m m2 (settle_plan deferred_word settle) end s in subst CopiesHere (sym d.2) (settled_as Is Last K V hash p rest d.0)
      by (at.Passes word code table) so ends s =
          let d = loaded m (further_read p word code table) (at_word table NEXT) m2 end s in
          always_ends CopiesHere (value_at m) (further_read p word code table (Found d.0)) end
          (further_as Is Last K V hash p here word code table ends.0 (Found d.0) (λ none. ends.1 (let zero : d.0 ≡ 0 = cc none in d.1 ∙ ap (λ (x : ℕ). Some x) zero))) d.3
      by at.Replaces so ends s =
          let d = loaded m (replacement_read p) (at_word p.target NEXT) m2 end s in
          always_ends CopiesHere (value_at m) (replacement_read p (Found d.0)) end
          (replacement_as Is Last K V hash p here ends.0 (Found d.0) (λ none. ends.1 (let zero : d.0 ≡ 0 = cc none in d.1 ∙ ap (λ (x : ℕ). Some x) zero))) d.3
      by stage so ends s = told stage (own_as Is Last K V hash p here stage tt so tt) s

-- where the fault is such a one in any case
module _ (Is : Fault → Type 0) where
  abbrev pub CopiesFor : {T : Type 0} → Copier × Yielding T Table → Type 0
  CopiesFor end = CopiesAs Is AnyTable end

  module _ (long : Is Capacity) (K V : Type 0) (hash : K → ℕ) (p : Copier) where
    abbrev RoomsFor : Copier × Yielding (Node K V) Table → Type 0
    RoomsFor end = CopiesFor end

    pub grown_so : (word code : ℕ) (end : NewTable × Advance Table) → MakesFor Is end → RoomsFor (grown p word code end)
    grown_so word code end room = grown_as Is AnyTable K V hash p word code end room

    pub remade_so : (end : NewTable × Advance Table) → MakesFor Is end → RoomsFor (remade p end)
    remade_so end room = remade_as Is AnyTable K V hash p end room

    pub settled_so : (rest : ℕ) (end : Settle × Settled (Node K V)) → RoomsFor (retired p rest end)
    settled_so rest end = settled_as Is AnyTable K V hash p rest end

    own_ends : (stage : Copying) → EndsOwn Is AnyTable K V hash p stage
    own_ends (at.Passes word code table) = (always_long Is long p.setting, λ out none reason by_table. tt)
    own_ends at.Replaces = (always_long Is long p.setting, λ out none reason by_table. tt)
    own_ends _ = tt

    module _ (here : SoInCopying Is p.stands) where
      pub own_so : (stage : Copying) → IsOwn stage → SoInCopying Is stage → AlwaysOf RoomsFor (plan_at hash p stage)
      own_so stage own room = own_as Is AnyTable K V hash p here stage own room (own_ends stage)

-- so for room
abbrev pub CopiesRoom : {T : Type 0} → Copier × Yielding T Table → Type 0
CopiesRoom end = CopiesFor IsRoom end

pub copier_rooms : (K V : Type 0) (hash : K → ℕ) (p : Copier) → RoomInCopying p.stands → (m m2 : Mem (Node K V)) (end : Copier × Yielding (Node K V) Table)
    → Steps Took value_at m (copier_plan hash p) m2 end → CopiesRoom end
copier_rooms K V hash p here m m2 end s = copier_as IsRoom AnyTable (inl refl) K V hash p here m m2 end (copying_ends IsRoom (inr refl) m p p.stands) s
