-- Each step by which a machine goes on lowers its numbers, whichever its kind.
use Rattle.std.specs.Prelude.{◌≡◌, ℕ, ◌+◌, Bool, List, [], ◌∷◌, ◌++◌, length, Option, Some}
use Rattle.std.proofs.Common.{inl, inr, refl, ap, sym, subst, ◌∙◌, length-append}
use Rattle.seize_words.specs.OneMemory.Mem.{Mem, Took, value_at}
use Rattle.seize_words.specs.OneMemory.Plan.{Steps}
use Rattle.map_measures.proofs.Given.SeizeRuleRows.Leaving.{steps_back}
use Rattle.seize.specs.World.{World, IsInside, with_at}
use Rattle.seize.specs.declared.advance.Advance.{Advance as Counted}
use Rattle.seize.specs.declared.advance.Advance.TheVariants as counted
use Rattle.map_tables.specs.declared.node.Node.{Node}
use Rattle.map_measures.specs.Given.ResizeSum.{sum_plan}
use Rattle.map_measures.specs.Given.ResizeDeclared.yielding.Yielding.{Yielding}
use Rattle.map_measures.specs.Given.ResizeDeclared.yielding.Yielding.TheVariants as outcome
use Rattle.map_measures.specs.Given.ResizeDeclared.sum.Sum.{Sum}
use Rattle.papaya_raw.specs.Call.{call_plan}
use Rattle.papaya_raw.specs.Machine as machines
use Rattle.papaya_raw.specs.Machine.{machine_plan}
use Rattle.papaya_raw.specs.Progress.{of_called, of_outcome, of_swept, of_counting}
use Rattle.papaya_raw.specs.declared.machines.answer.Called.{Called}
use Rattle.papaya_raw.specs.declared.machines.answer.Called.TheVariants as called
use Rattle.papaya_raw.specs.declared.machines.call.KeyCall.{KeyCall}
use Rattle.papaya_raw.specs.declared.machines.machine.Machine.{Machine}
use Rattle.papaya_raw.specs.declared.machines.machine.Machine.TheVariants as kinds
use Rattle.papaya_raw.specs.declared.machines.progress.Progress.{Progress}
use Rattle.papaya_raw.specs.Given.ReservesReserve.{reserve_plan}
use Rattle.papaya_raw.specs.Given.ReservesDeclared.reserve.Reserve.{Reserve}
use Rattle.papaya_raw.specs.Given.SweepsSweep.{sweep_plan}
use Rattle.papaya_raw.specs.Given.ReservesDeclared.sweep.Sweep.{Sweep}
use Rattle.papaya_raw.specs.Given.ReservesDeclared.sweep.Sweeping.{Sweeping}
use Rattle.papaya_raw.specs.Given.ReservesDeclared.sweep.Swept.{Swept}
use Rattle.papaya_raw.specs.Given.ReservesDeclared.sweep.Swept.TheVariants as swept
use Rattle.map_measures.specs.Given.PointsMeasures.{IsBelow}
use Rattle.map_measures.specs.Given.PointsMeasuresTables.{number_of_sum}
use Rattle.owner_facts.proofs.Given.PointsMaking.EndsSum.{sum_lowers}
use Rattle.owner_facts.specs.Given.PointsSteps.{AreLawful}
use Rattle.owner_facts.specs.Given.CallersOverAll.{CallOverAll, gone_on}
use Rattle.owner_facts.specs.Given.CallersRooms.{CallForRoom}
use Rattle.owner_facts.specs.Given.CallersTogether.{UnderWay, UnlessCounts, CallOnKey, OnKey, ForRoom, Counting, OverAll, Together, next_of, next_for_room, next_over_all}
use Rattle.owner_facts.proofs.Given.CallersTogether.At.{at_same}
use Rattle.owner_facts.specs.Given.FinishesEndings.{Finishing, EndingsTogether}
use Rattle.owner_facts.specs.Given.FinishesMachines.{machine_of, DidOfKind, MachineStepsWithEndings}
use Rattle.owner_facts.specs.Given.FinishesMakings.{Beginning}
use Rattle.owner_facts.specs.Given.FinishesMaps.{Standing, IsSameMap, with_call}
use Rattle.map_measures.specs.Falls.Calls.{number_of_call}
use Rattle.map_measures.specs.Falls.Falls.{GoesFurther}
use Rattle.map_measures.specs.Falls.FallsWithin.{GoesFurther as RoomGoesFurther}
use Rattle.map_measures.specs.Falls.Reserves.{number_of_reserve}
use Rattle.map_measures.proofs.Falls.Below.{below_followed}
use Rattle.map_measures.specs.Passes.FallsSweeps.{AdvancesFrom}
use Rattle.map_measures.specs.Passes.Sweeps.{number_of_sweep}
use Rattle.owner_whole.specs.Lowers.Lowers.{Continues, StepsLower}
use Rattle.owner_whole.specs.Lowers.Numbers.{row_within, numbers_of}
use Rattle.owner_whole.proofs.Lowers.KeyRows.{key_row_falls}
use Rattle.owner_whole.proofs.Lowers.Own.{key_falls, room_falls}
use Rattle.owner_whole.proofs.Lowers.RoomRows.{room_row_falls}
use Rattle.owner_whole.proofs.Lowers.Rows.{left}
use Rattle.owner_whole.proofs.Lowers.SweepRows.{sweep_row_falls}
use Rattle.owner_whole.proofs.Lowers.Swept.{sweep_falls}
use Rattle.map_measures.proofs.Falls.Calls.Lengths.{numbers_are_as_many}
use Rattle.map_measures.proofs.Falls.Reserves.Lengths.{reserve_numbers_are_as_many}
use Rattle.map_measures.proofs.Passes.Promised.{sweep_numbers_are_as_many}

-- What goes on as a machine goes on as that of its kind, and is under way on.

goes_called : {T : Type 0} (x : Called T) → Continues (of_called x) → GoesFurther x
goes_called called.Goes goes = tt
goes_called called.Waits goes = absurd goes
goes_called (called.Gave value) goes = tt
goes_called (called.Unstored value) goes = tt
goes_called (called.Asks asked) goes = absurd goes
goes_called (called.Done answer) goes = absurd goes
goes_called (called.Refused fault) goes = absurd goes

goes_room : {T : Type 0} (x : Yielding T Unit) → Continues (of_outcome x) → RoomGoesFurther x
goes_room outcome.Goes goes = tt
goes_room outcome.Waits goes = absurd goes
goes_room (outcome.Gave value) goes = tt
goes_room (outcome.Done end) goes = absurd goes
goes_room (outcome.Refused fault) goes = absurd goes

goes_swept : {T : Type 0} (stands : Sweeping) (x : Swept T) → Continues (of_swept x) → AdvancesFrom stands x
goes_swept stands swept.Goes goes = tt
goes_swept stands swept.Waits goes = absurd goes
goes_swept stands (swept.Gave value) goes = tt
goes_swept stands swept.Ready goes = absurd goes
goes_swept stands (swept.Pair word) goes = tt
goes_swept stands (swept.Asks word) goes = absurd goes
goes_swept stands swept.Done goes = absurd goes
goes_swept stands (swept.Refused fault) goes = absurd goes

goes_counted : (T : Type 0) (x : Counted ℕ) → Continues {T = T} (of_counting x) → x ≡ counted.Goes
goes_counted T counted.Goes goes = refl
goes_counted T counted.Waits goes = absurd goes
goes_counted T (counted.Done sum) goes = absurd goes
goes_counted T (counted.Refused fault) goes = absurd goes

module _ {K V Q : Type 0} where
  key_next : (u : CallOnKey K V Q) (x : Called (Node K V)) → GoesFurther x → next_of u x ≡ Some (OnKey u)
  key_next u called.Goes goes = refl
  key_next u called.Waits goes = absurd goes
  key_next u (called.Gave value) goes = refl
  key_next u (called.Unstored value) goes = refl
  key_next u (called.Asks asked) goes = absurd goes
  key_next u (called.Done answer) goes = absurd goes
  key_next u (called.Refused fault) goes = absurd goes

  room_next : (r : CallForRoom) (x : Yielding (Node K V) Unit) → RoomGoesFurther x → next_for_room {K = K} {V = V} {Q = Q} r x ≡ Some (ForRoom r)
  room_next r outcome.Goes goes = refl
  room_next r outcome.Waits goes = absurd goes
  room_next r (outcome.Gave value) goes = refl
  room_next r (outcome.Done end) goes = absurd goes
  room_next r (outcome.Refused fault) goes = absurd goes

  sweep_next : (o : CallOverAll) (x : Swept (Node K V)) → Continues (of_swept x) → next_over_all {K = K} {V = V} {Q = Q} o x ≡ Some (OverAll o)
  sweep_next o swept.Goes goes = refl
  sweep_next o swept.Waits goes = absurd goes
  sweep_next o (swept.Gave value) goes = refl
  sweep_next o swept.Ready goes = absurd goes
  sweep_next o (swept.Pair word) goes = refl
  sweep_next o (swept.Asks word) goes = absurd goes
  sweep_next o swept.Done goes = absurd goes
  sweep_next o (swept.Refused fault) goes = absurd goes

  -- a machine of a kind is the one that it was made of
  key_of : (x y : KeyCall K V Q) → ◌≡◌ {A = Machine K V Q} (kinds.Key x) (kinds.Key y) → x ≡ y
  key_of x y e = cc e

  reserve_of : (x y : Reserve) → ◌≡◌ {A = Machine K V Q} (kinds.Reserve x) (kinds.Reserve y) → x ≡ y
  reserve_of x y e = cc e

  sweep_of : (x y : Sweep) → ◌≡◌ {A = Machine K V Q} (kinds.Sweep x) (kinds.Sweep y) → x ≡ y
  sweep_of x y e = cc e

standing_of : {K : Type 0} (x y : Standing K) → Some x ≡ Some y → x ≡ y
standing_of x y e = cc e

-- one number more
one_more : (xs : List ℕ) (n x : ℕ) → length xs ≡ n → length (xs ++ (x ∷ [])) ≡ n + 1
one_more xs n x is = length-append xs (x ∷ []) ∙ ap (λ (k : ℕ). k + 1) is

module _ {K Q : Type 0} (V : Type 0) (same : K → K → Bool) (asks : Q → K → Bool) (batch_size roots : ℕ) (slot : ℕ → ℕ) where
  module _ (w : World (Node K V)) (maps : ℕ → Option (Standing K)) (calls : ℕ → ℕ → Option (UnderWay K V Q)) (makers : ℕ → Option (Beginning K)) (enders : ℕ → Option (Finishing K V))
      (all : EndingsTogether V same asks batch_size roots slot w maps calls makers enders) (m : ℕ) (s : Standing K) (here : maps m ≡ Some s) (i : ℕ)
      (m2 : Mem (Node K V)) (machine : Machine K V Q) (told : Progress (Node K V)) (goes : Continues told) where
    stands : Together V same s.hash asks s.setting slot w s.chart s.blocks s.sights (calls m)
    stands = all.makings.standing.each m s here

    lawful : AreLawful same s.hash
    lawful = (all.makings.standing.fit m s here).0

    abbrev Leads : UnderWay K V Q → Type 0
    Leads u = MachineStepsWithEndings V same asks batch_size roots slot w maps calls makers enders m s i m2 u machine told

    abbrev Before : UnderWay K V Q → List ℕ
    Before u = numbers_of left (slot i) s w.memory (machine_of u)

    abbrev Lower : UnderWay K V Q → Standing K → Machine K V Q → Type 0
    Lower u s2 x = IsBelow (numbers_of left (slot i) s2 m2 x) (Before u) × (length (numbers_of left (slot i) s2 m2 x) ≡ length (Before u))

    abbrev Steps' : UnderWay K V Q → Type 0
    Steps' u = Steps Took value_at w.memory (machine_plan asks same s.hash (machine_of u)) m2 (machine, told)

    -- the map that stands then, and the machine, are these
    as_is : (u : UnderWay K V Q) (s2 s3 : Standing K) (x : Machine K V Q) → s2 ≡ s3 → machine ≡ x → Lower u s3 x → Lower u s2 machine
    as_is u s2 s3 x is is_machine lower =
        subst (λ (y : Machine K V Q). Lower u s2 y) (sym is_machine) (subst (λ (y : Standing K). Lower u y x) (sym is) lower)

    moved : (u : UnderWay K V Q) (to : Leads u) (s2 s3 : Standing K) → to.maps2 m ≡ Some s2 → to.maps2 ≡ with_at maps m (Some s3) → s2 ≡ s3
    moved u to s2 s3 is moves = standing_of s2 s3 (sym is ∙ ap (λ (f : ℕ → Option (Standing K)). f m) moves ∙ at_same maps m (Some s3) m refl)

    -- its map stands as it was, but for what can be looked at, and with it stands what has gone on
    module _ (u : UnderWay K V Q) (to : Leads u) (same_maps : (n : ℕ) → IsSameMap (maps n) (to.maps2 n)) (v : UnderWay K V Q) (next_is : to.next ≡ Some v) where
      same_map : IsSameMap (Some s) (to.maps2 m)
      same_map = subst (λ (x : Option (Standing K)). IsSameMap x (to.maps2 m)) here (same_maps m)

      abbrev s3 : Standing K
      s3 = record s { blocks = same_map.0; sights = same_map.1 }

      abbrev calls2 : ℕ → Option (UnderWay K V Q)
      calls2 = with_call calls m i to.next m

      then : Together V same s.hash asks s.setting slot to.w2 s.chart same_map.0 same_map.1 calls2
      then = to.together.makings.standing.each m s3 same_map.2

      has2 : calls2 i ≡ Some v
      has2 = ap (λ (f : ℕ → Option (UnderWay K V Q)). f i) (at_same calls m (with_at (calls m) i to.next) m refl) ∙ at_same (calls m) i to.next i refl ∙ next_is

      inside2 : UnlessCounts v (IsInside (to.w2.uses (slot i)))
      inside2 = then.inside i v has2

    -- A call on one key.
    at_key : (u : CallOnKey K V Q) → calls m i ≡ Some (OnKey u) → Steps' (OnKey u) → (to : Leads (OnKey u)) (s2 : Standing K) → to.maps2 m ≡ Some s2 → Lower (OnKey u) s2 machine
    at_key u has st to s2 is = by to.did
      where
        e : (e : KeyCall K V Q × Called (Node K V)) × Steps Took value_at w.memory (call_plan asks same s.hash u.call) m2 e × ((machine, told) ≡ machines.called e)
        e = steps_back machines.called w.memory m2 (call_plan asks same s.hash u.call) (machine, told) st

        goes_so : GoesFurther e.0.1
        goes_so = goes_called e.0.1 (subst Continues (ap (λ (x : Machine K V Q × Progress (Node K V)). x.1) e.2) goes)

        is_so : (p2 : KeyCall K V Q) → machine ≡ kinds.Key p2 → e.0.0 ≡ p2
        is_so p2 mach = key_of e.0.0 p2 (sym (ap (λ (x : Machine K V Q × Progress (Node K V)). x.0) e.2) ∙ mach)

        st_so : (p2 : KeyCall K V Q) → machine ≡ kinds.Key p2 → Steps Took value_at w.memory (call_plan asks same s.hash u.call) m2 (p2, e.0.1)
        st_so p2 mach = subst (λ (x : KeyCall K V Q). Steps Took value_at w.memory (call_plan asks same s.hash u.call) m2 (x, e.0.1)) (is_so p2 mach) e.1

        many : (s4 : Standing K) (p2 : KeyCall K V Q) → length (numbers_of left (slot i) s4 m2 (kinds.Key p2)) ≡ length (Before (OnKey u))
        many s4 p2 =
            one_more (number_of_call s4.hash s4.chart s4.blocks p2) 14 (left m2 (row_within (slot i) (kinds.Key p2))) (numbers_are_as_many s4.hash s4.chart s4.blocks p2)
            ∙ sym (one_more (number_of_call s.hash s.chart s.blocks u.call) 14 (left w.memory (row_within (slot i) (kinds.Key u.call))) (numbers_are_as_many s.hash s.chart s.blocks u.call))

        by : DidOfKind V same asks batch_size roots slot w maps calls makers enders m s i m2 to.w2 to.maps2 to.next (OnKey u) machine told → Lower (OnKey u) s2 machine
        by (p2, end, mach, tells, inl (among, (world, moves, next_is))) =
            let s3 : Standing K = record s { chart = among.step.went.c2; blocks = among.step.blocks2; sights = among.step.sights2 } in
            as_is (OnKey u) s2 s3 (kinds.Key p2) (moved (OnKey u) to s2 s3 is moves) mach (
              below_followed (number_of_call s3.hash s3.chart s3.blocks p2) (number_of_call s.hash s.chart s.blocks u.call) _ _
                  (key_falls same s.hash asks s.setting slot lawful w s.chart s.blocks s.sights (calls m) stands i (stands.inside i (OnKey u) has) u has among.no_row m2 p2 e.0.1 (st_so p2 mach) goes_so end among.step),
              many s3 p2,
            )
        by (p2, end, mach, tells, inr (among, (world, same_maps, next_is))) =
            let u2 : CallOnKey K V Q = record { keys = u.keys; pair = u.pair; began = u.began; change = u.change; call = p2 } in
            let is_next = next_is ∙ key_next u2 end (goes_called end (subst Continues tells goes)) in
            let s3 : Standing K = s3 (OnKey u) to same_maps (OnKey u2) is_next in
            as_is (OnKey u) s2 s3 (kinds.Key p2) (standing_of s2 s3 (sym is ∙ (same_map (OnKey u) to same_maps (OnKey u2) is_next).2)) mach (
              key_row_falls same s.hash asks s.setting slot lawful w s.chart s.blocks s.sights (calls m) stands i (stands.inside i (OnKey u) has) u has among.is_row to.w2 s3.blocks
                  (same_map (OnKey u) to same_maps (OnKey u2) is_next).3 s3.sights (calls2 (OnKey u) to same_maps (OnKey u2) is_next) (then (OnKey u) to same_maps (OnKey u2) is_next)
                  (inside2 (OnKey u) to same_maps (OnKey u2) is_next) u2 (has2 (OnKey u) to same_maps (OnKey u2) is_next) m2 e.0.1 (st_so p2 mach) goes_so,
              many s3 p2,
            )

    -- A reservation.
    at_room : (r : CallForRoom) → calls m i ≡ Some (ForRoom r) → Steps' (ForRoom r) → (to : Leads (ForRoom r)) (s2 : Standing K) → to.maps2 m ≡ Some s2 → Lower (ForRoom r) s2 machine
    at_room r has st to s2 is = by to.did
      where
        e : (e : Reserve × Yielding (Node K V) Unit) × Steps Took value_at w.memory (reserve_plan s.hash r.reserve) m2 e × ((machine, told) ≡ machines.reserved e)
        e = steps_back machines.reserved w.memory m2 (reserve_plan s.hash r.reserve) (machine, told) st

        goes_so : RoomGoesFurther e.0.1
        goes_so = goes_room e.0.1 (subst Continues (ap (λ (x : Machine K V Q × Progress (Node K V)). x.1) e.2) goes)

        st_so : (p2 : Reserve) → machine ≡ kinds.Reserve p2 → Steps Took value_at w.memory (reserve_plan s.hash r.reserve) m2 (p2, e.0.1)
        st_so p2 mach =
            subst (λ (x : Reserve). Steps Took value_at w.memory (reserve_plan s.hash r.reserve) m2 (x, e.0.1))
            (reserve_of {K = K} {V = V} {Q = Q} e.0.0 p2 (sym (ap (λ (x : Machine K V Q × Progress (Node K V)). x.0) e.2) ∙ mach)) e.1

        many : (s4 : Standing K) (p2 : Reserve) → length (numbers_of {Q = Q} left (slot i) s4 m2 (kinds.Reserve p2)) ≡ length (Before (ForRoom r))
        many s4 p2 =
            one_more (number_of_reserve s4.chart s4.blocks p2) 11 (left m2 (row_within {K = K} {V = V} {Q = Q} (slot i) (kinds.Reserve p2))) (reserve_numbers_are_as_many s4.chart s4.blocks p2)
            ∙ sym (one_more (number_of_reserve s.chart s.blocks r.reserve) 11 (left w.memory (row_within {K = K} {V = V} {Q = Q} (slot i) (kinds.Reserve r.reserve))) (reserve_numbers_are_as_many s.chart s.blocks r.reserve))

        by : DidOfKind V same asks batch_size roots slot w maps calls makers enders m s i m2 to.w2 to.maps2 to.next (ForRoom r) machine told → Lower (ForRoom r) s2 machine
        by (p2, end, mach, tells, inl (among, (world, moves, next_is))) =
            let s3 : Standing K = record s { chart = among.step.went.c2; blocks = among.step.blocks2; sights = among.step.sights2 } in
            as_is (ForRoom r) s2 s3 (kinds.Reserve p2) (moved (ForRoom r) to s2 s3 is moves) mach (
              below_followed (number_of_reserve s3.chart s3.blocks p2) (number_of_reserve s.chart s.blocks r.reserve) _ _
                  (room_falls same s.hash asks s.setting slot lawful w s.chart s.blocks s.sights (calls m) stands i (stands.inside i (ForRoom r) has) r has among.no_row m2 p2 e.0.1 (st_so p2 mach) goes_so end among.step),
              many s3 p2,
            )
        by (p2, end, mach, tells, inr (among, (world, same_maps, next_is))) =
            let r2 : CallForRoom = record { began = r.began; reserve = p2 } in
            let is_next = next_is ∙ room_next {Q = Q} r2 end (goes_room end (subst Continues tells goes)) in
            let s3 : Standing K = s3 (ForRoom r) to same_maps (ForRoom r2) is_next in
            as_is (ForRoom r) s2 s3 (kinds.Reserve p2) (standing_of s2 s3 (sym is ∙ (same_map (ForRoom r) to same_maps (ForRoom r2) is_next).2)) mach (
              room_row_falls same s.hash asks s.setting slot lawful w s.chart s.blocks s.sights (calls m) stands i (stands.inside i (ForRoom r) has) r has among.is_row to.w2 s3.blocks
                  (same_map (ForRoom r) to same_maps (ForRoom r2) is_next).3 s3.sights (calls2 (ForRoom r) to same_maps (ForRoom r2) is_next) (then (ForRoom r) to same_maps (ForRoom r2) is_next)
                  (inside2 (ForRoom r) to same_maps (ForRoom r2) is_next) r2 (has2 (ForRoom r) to same_maps (ForRoom r2) is_next) m2 e.0.1 (st_so p2 mach) goes_so,
              many s3 p2,
            )

    -- A sweep.
    at_sweep : (o : CallOverAll) → calls m i ≡ Some (OverAll o) → Steps' (OverAll o) → (to : Leads (OverAll o)) (s2 : Standing K) → to.maps2 m ≡ Some s2 → Lower (OverAll o) s2 machine
    at_sweep o has st to s2 is = by to.did
      where
        e : (e : Sweep × Swept (Node K V)) × Steps Took value_at w.memory (sweep_plan s.hash o.sweep) m2 e × ((machine, told) ≡ machines.swept e)
        e = steps_back machines.swept w.memory m2 (sweep_plan s.hash o.sweep) (machine, told) st

        goes_so : AdvancesFrom o.sweep.stands e.0.1
        goes_so = goes_swept o.sweep.stands e.0.1 (subst Continues (ap (λ (x : Machine K V Q × Progress (Node K V)). x.1) e.2) goes)

        st_so : (p2 : Sweep) → machine ≡ kinds.Sweep p2 → Steps Took value_at w.memory (sweep_plan s.hash o.sweep) m2 (p2, e.0.1)
        st_so p2 mach =
            subst (λ (x : Sweep). Steps Took value_at w.memory (sweep_plan s.hash o.sweep) m2 (x, e.0.1))
            (sweep_of {K = K} {V = V} {Q = Q} e.0.0 p2 (sym (ap (λ (x : Machine K V Q × Progress (Node K V)). x.0) e.2) ∙ mach)) e.1

        many : (s4 : Standing K) (p2 : Sweep) → length (numbers_of {Q = Q} left (slot i) s4 m2 (kinds.Sweep p2)) ≡ length (Before (OverAll o))
        many s4 p2 =
            one_more (number_of_sweep s4.hash s4.chart s4.blocks p2) 11 (left m2 (row_within {K = K} {V = V} {Q = Q} (slot i) (kinds.Sweep p2))) (sweep_numbers_are_as_many s4.hash s4.chart s4.blocks p2)
            ∙ sym (one_more (number_of_sweep s.hash s.chart s.blocks o.sweep) 11 (left w.memory (row_within {K = K} {V = V} {Q = Q} (slot i) (kinds.Sweep o.sweep))) (sweep_numbers_are_as_many s.hash s.chart s.blocks o.sweep))

        by : DidOfKind V same asks batch_size roots slot w maps calls makers enders m s i m2 to.w2 to.maps2 to.next (OverAll o) machine told → Lower (OverAll o) s2 machine
        by (p2, end, mach, tells, inl (among, (world, moves, next_is))) =
            let s3 : Standing K = record s { chart = among.step.went.c2; blocks = among.step.blocks2; sights = among.step.sights2 } in
            as_is (OverAll o) s2 s3 (kinds.Sweep p2) (moved (OverAll o) to s2 s3 is moves) mach (
              below_followed (number_of_sweep s3.hash s3.chart s3.blocks p2) (number_of_sweep s.hash s.chart s.blocks o.sweep) _ _
                  (sweep_falls same s.hash asks s.setting slot lawful w s.chart s.blocks s.sights (calls m) stands i (stands.inside i (OverAll o) has) o has among.no_row m2 p2 e.0.1 (st_so p2 mach) goes_so end among.step),
              many s3 p2,
            )
        by (p2, end, mach, tells, inr (among, (world, same_maps, next_is))) =
            let o2 : CallOverAll = gone_on o p2 in
            let is_next = next_is ∙ sweep_next {Q = Q} o2 end (subst Continues tells goes) in
            let s3 : Standing K = s3 (OverAll o) to same_maps (OverAll o2) is_next in
            as_is (OverAll o) s2 s3 (kinds.Sweep p2) (standing_of s2 s3 (sym is ∙ (same_map (OverAll o) to same_maps (OverAll o2) is_next).2)) mach (
              sweep_row_falls same s.hash asks s.setting slot lawful w s.chart s.blocks s.sights (calls m) stands i (stands.inside i (OverAll o) has) o has among.is_row to.w2 s3.blocks
                  (same_map (OverAll o) to same_maps (OverAll o2) is_next).3 s3.sights (calls2 (OverAll o) to same_maps (OverAll o2) is_next) (then (OverAll o) to same_maps (OverAll o2) is_next)
                  (inside2 (OverAll o) to same_maps (OverAll o2) is_next) o2 (has2 (OverAll o) to same_maps (OverAll o2) is_next) m2 e.0.1 (st_so p2 mach) goes_so,
              many s3 p2,
            )

    -- A counting.
    at_sum : (sum : Sum) → Steps' (Counting sum) → (s2 : Standing K) → Lower (Counting sum) s2 machine
    at_sum sum st s2 =
        let e = steps_back machines.counted w.memory m2 (sum_plan sum) (machine, told) st in
        let goes_so = goes_counted (Node K V) e.0.1 (subst Continues (ap (λ (x : Machine K V Q × Progress (Node K V)). x.1) e.2) goes) in
        subst (λ (x : Machine K V Q). Lower (Counting sum) s2 x) (sym (ap (λ (x : Machine K V Q × Progress (Node K V)). x.0) e.2)) (
          below_followed (number_of_sum e.0.0) (number_of_sum sum) (left {K = K} {V = V} m2 (row_within {K = K} {V = V} {Q = Q} (slot i) (kinds.Count e.0.0)) ∷ [])
              (left {K = K} {V = V} w.memory (row_within {K = K} {V = V} {Q = Q} (slot i) (kinds.Count sum)) ∷ []) (sum_lowers w.memory sum m2 e.0 e.1 goes_so),
          refl,
        )

    pub lowers : (u : UnderWay K V Q) → calls m i ≡ Some u → Steps' u → (to : Leads u) (s2 : Standing K) → to.maps2 m ≡ Some s2 → Lower u s2 machine
    lowers (OnKey u) has st to s2 is = at_key u has st to s2 is
    lowers (ForRoom r) has st to s2 is = at_room r has st to s2 is
    lowers (Counting sum) has st to s2 is = at_sum sum st s2
    lowers (OverAll o) has st to s2 is = at_sweep o has st to s2 is

  pub steps_lower : StepsLower V same asks batch_size roots slot
  steps_lower = (
    left,
    λ w maps calls makers enders all m s here i u has m2 machine told st goes to s2 is.
        lowers w maps calls makers enders all m s here i m2 machine told goes u has st to s2 is,
  )
