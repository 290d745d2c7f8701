-- A reservation that needs more places than a table can have: it comes to no table, and is refused for the length.
use Rattle.std.specs.Prelude.{◌≡◌, ℕ, zero, suc, ◌+◌, ◌^◌, ◌<◌, ◌≤◌, ◌==◌, Bool, true, false, cond, nat_le, nat_lt, if◌then◌else◌, max, List, [], ◌∷◌, ◌++◌, length, Some, Result, Ok, Err, IfOk}
use Rattle.std.proofs.Common.{refl, sym, ◌∙◌, ap, subst, arith, inl, inr}
use Rattle.std.proofs.lemmas.Bool.{lt-ltb, lt-leb}
use denote.Ref.{Bor}
use Rattle.seize_words.specs.OneMemory.Mem.{Mem, Took, value_at}
use Rattle.seize_words.specs.OneMemory.Plan.{Steps}
use Rattle.seize_words.specs.declared.at.At.TheVariants.{Root}
use Rattle.seize_words.specs.declared.fault.Fault.{Fault}
use Rattle.seize_words.specs.declared.fault.Fault.TheVariants.{Capacity}
use Rattle.seize_words.specs.OneMemory.Op.{Found}
use Rattle.seize_words.proofs.OneMemory.OneOwner.Operations.{loaded}
use Rattle.seize.specs.declared.advance.Advance.{Advance}
use Rattle.seize.specs.declared.advance.Advance.TheVariants as progress
use Rattle.map_straight.proofs.Given.SeizeRuleRows.Leaving.{steps_back}
use Rattle.map_tables.proofs.TableLens.{have_table_lens}
use Rattle.map_tables.specs.Lengths.{IsTableLen, places_for}
use Rattle.map_tables.specs.declared.node.Node.{Node}
use Rattle.map_tables.specs.declared.node.Node.TheVariants as node
use Rattle.map_tables.specs.declared.setting.Setting.{Setting}
use Rattle.map_tables.specs.declared.table.Table.{Table}
use Rattle.map_straight.specs.Given.ResizeNewTable.{first_table, making_first, new_table_plan, plan_at as making_at, planned}
use Rattle.map_tables.specs.Powers.{next_power}
use Rattle.map_tables.specs.Probes.{limit_of}
use Rattle.map_straight.specs.Given.ResizeSum.{sum_plan}
use Rattle.map_straight.specs.Given.ResizeDeclared.new_table.Making.{Making}
use Rattle.map_straight.specs.Given.ResizeDeclared.new_table.Making.TheVariants as makes
use Rattle.map_straight.specs.Given.ResizeDeclared.new_table.NewTable.{NewTable}
use Rattle.map_straight.specs.Given.ResizeDeclared.yielding.Yielding.{Yielding}
use Rattle.map_straight.specs.Given.ResizeDeclared.yielding.Yielding.TheVariants as outcome
use Rattle.map_straight.specs.Given.ResizeDeclared.sum.Sum.{Sum}
use Rattle.papaya_raw.specs.Given.ReservesReserve.{enough, made, needed, or_too_long, plan_at, refusing, reserve_plan, reserving, root_read, standing, summed}
use Rattle.papaya_raw.specs.Given.ReservesDeclared.reserve.Reserve.{Reserve}
use Rattle.papaya_raw.specs.Given.ReservesDeclared.reserve.Reserving.{Reserving}
use Rattle.papaya_raw.specs.Given.ReservesDeclared.reserve.Reserving.TheVariants as at
use Rattle.map_straight.specs.Given.RuleChart.{Chart}
use Rattle.map_straight.specs.Given.RuleWords.{Blocks}
use Rattle.owner_whole.specs.Given.CallersSights.{seen_by}
use Rattle.owner_whole.specs.Given.PointsFactsTables.{SumFacts}
use Rattle.owner_whole.specs.Given.LateFactsReserves.{ReservingFacts}
use Rattle.owner_whole.specs.Given.LateToldReserves.{IsRowOfReserve}
use Rattle.owner_whole.specs.Given.MapsAloneReserves.{LooksAtRoot, SumsUp}
use Rattle.map_straight.proofs.Given.RuleKeys.Always.{always_ends, always_steps}
use Rattle.owner_whole.proofs.Given.LateKindsKept.Rooms.Making.{CountsOn, always_where, sum_counts}
use Rattle.owner_whole.proofs.Given.MapsReserves.Sums.{Ahead, sum_ahead}
use Rattle.owner_whole.specs.Whole.Contents.{ContentsBelow}
use Rattle.owner_whole.proofs.Whole.Contents.Below.{below_stays}
use Rattle.owner_whole.proofs.Whole.Rooms.Own.{knows_here}
use Rattle.owner_whole.specs.Strides.Ending.{RunsTo}
use Rattle.owner_calls.specs.Owned.Machines.{for_room_plan, for_room_settled}
use Rattle.owner_calls.specs.Owned.Owned.{Holds}
use Rattle.owner_calls.specs.Owned.Rooms.{NeedTooMany}
use Rattle.owner_calls.specs.declared.machines.ForRoom.{ForRoom}
use Rattle.owner_calls.proofs.Owned.Owned.Rooms.{Course, CourseTo, Under, begun, course_step, said_still, slot_of, under_back}
use Rattle.owner_whole.proofs.Strides.Runs.Comes.{NextOf, run_comes}

-- the length that they need, by whether that is one of a table
abbrev len_by : ℕ → ℕ → Bool → Result ℕ Fault
len_by additional count fits = if fits then Ok (max (next_power (places_for (count + additional))) 8) else Err Capacity

-- by so few places, few are needed
few_needed : (additional count : ℕ) → places_for (count + additional) ≤ 2 ^ 48 → needed additional count ≤ 2 ^ 48
few_needed additional count few = by (nat_le (places_for (count + additional)) (2 ^ 48)) refl (have_table_lens.made_for (count + additional))
  where
    by : (b : Bool) → nat_le (places_for (count + additional)) (2 ^ 48) ≡ b → IfOk (len_by additional count b) IsTableLen → or_too_long (len_by additional count b) ≤ 2 ^ 48
    by true is of = of.most
    by false is of = absurd (grind (arith, is, few))

-- those that need too many places by themselves need too many beside others
pub many_beside : (additional count : ℕ) → NeedTooMany additional count → 2 ^ 48 < needed additional count
many_beside additional count (inr many) = many
many_beside additional count (inl alone) = by (nat_le (places_for (count + additional)) (2 ^ 48)) refl
  where
    too_many : places_for (0 + additional) ≤ 2 ^ 48 → ⊥
    too_many few = let n = few_needed additional 0 few in omega (arith, alone, n)

    by : (b : Bool) → nat_le (places_for (count + additional)) (2 ^ 48) ≡ b → 2 ^ 48 < or_too_long (len_by additional count b)
    by true is = absurd (too_many (grind (arith, is)))
    by false is = omega arith

-- a map with no table has no pairs
module _ {K V : Type 0} (m : Mem (Node K V)) (c : Chart K) (blocks : Blocks) where
  none_below : ((n : ℕ) → c.current n ≡ false) → (n : ℕ) (xs : List (K × V)) → ContentsBelow m c blocks n xs → xs ≡ []
  none_below none zero xs are = are
  none_below none (suc n) xs are =
      none_below none n xs
      (subst (λ (b : Bool). cond b ((ys : List (K × V)) × (k : K) × (v : V) × ContentsBelow m c blocks n ys × (value_at m (blocks.pair n) ≡ Some (node.Pair k v)) × (xs ≡ ys ++ ((k, v) ∷ [])))
      (ContentsBelow m c blocks n xs)) (none n) are)

-- from what the map held
module _ {K V S : Type 0} (same : K → K → Bool) (hashes : S → K → ℕ) (b : Bor S) (setting : Setting) (m0 : Mem (Node K V)) (xs : List (K × V)) (h : Holds same (hashes b.now) setting m0 xs)
    (additional : ℕ) (many : 2 ^ 48 < needed additional (length xs)) where
  abbrev hash : K → ℕ
  hash = hashes b.now

  abbrev InCourse : Reserve → Mem (Node K V) → Type 0
  InCourse = Course same hashes b setting m0 xs h additional

  abbrev LeadsTo : Reserve → Mem (Node K V) → Yielding (Node K V) Unit → Type 0
  LeadsTo = CourseTo same hashes b setting m0 xs h additional

  -- It has come to no table: it reads the root, counts, or is refused for the length.
  abbrev HasNoTable : Reserving → Type 0
  HasNoTable at.Reads = Unit {0}
  HasNoTable (at.Makes making) = making.stands ≡ makes.Refused Capacity
  HasNoTable (at.Sums table sum) = Unit {0}
  HasNoTable (at.Refused fault) = fault ≡ Capacity
  HasNoTable _ = ⊥

  -- so after a step, by what that tells
  abbrev ComesToNone : Reserve × Yielding (Node K V) Unit → Type 0
  ComesToNone (q, outcome.Done end) = ⊥
  ComesToNone (q, outcome.Refused fault) = fault ≡ Capacity
  ComesToNone (q, _) = HasNoTable q.stands

  no_row : (stage : Reserving) → HasNoTable stage → IsRowOfReserve stage → ⊥
  no_row at.Reads none row = row
  no_row (at.Makes making) none row = row
  no_row (at.Sums table sum) none row = row
  no_row (at.Follows table need) none row = row
  no_row (at.Grows table making) none row = row
  no_row (at.Copies copier) none row = none
  no_row at.Over none row = row
  no_row (at.Refused fault) none row = row

  refused_at : (p : Reserve) (table : Table) (need : ℕ) → 2 ^ 48 < need → ComesToNone (enough p table need)
  refused_at p table need long =
      subst (λ (x : Bool). ComesToNone (if x then refusing p Capacity else (if nat_lt table.len need then (standing p (at.Follows table need), outcome.Goes) else (standing p at.Over, outcome.Done tt))))
      (sym (lt-ltb (2 ^ 48) need long)) refl

  summed_so : (p : Reserve) (table : Table) (end : Sum × Advance ℕ) → CountsOn end → ((count : ℕ) → end.1 ≡ progress.Done count → 2 ^ 48 < needed p.additional count) → ComesToNone (summed p table end)
  summed_so p table (sum, progress.Goes) on is = tt
  summed_so p table (sum, progress.Waits) on is = tt
  summed_so p table (sum, progress.Done count) on is = refused_at p table (needed p.additional count) (is count refl)
  summed_so p table (sum, progress.Refused fault) on is = absurd on

  -- what is read of the root: it goes on with the making of a first table, or counts
  abbrev ReadTo : Reserve → Reserving → Type 0
  ReadTo p (at.Makes making) = making ≡ first_table p.setting (needed p.additional 0)
  ReadTo p (at.Sums table sum) = Unit {0}
  ReadTo p _ = ⊥

  abbrev WasRead : Reserve → Reserve × Yielding (Node K V) Unit → Type 0
  WasRead p (q, told) = (told ≡ outcome.Goes) × ReadTo p q.stands

  -- a first table of so many places is none
  none_first : (len : ℕ) → 2 ^ 48 < len → making_first (max len 8) ≡ makes.Refused Capacity
  none_first len long =
      ap (λ (x : Bool). if x then makes.Makes (planned (max len 8) (limit_of (max len 8)) 0) else makes.Refused Capacity)
      (lt-leb (max len 8) (2 ^ 48) (omega (arith, long)))

  -- Where the map has no table, it has no pairs.
  module _ (q : Reserve) (m : Mem (Node K V)) (now : InCourse q m) where
    none_current : now.c.past ≡ 0 → (n : ℕ) → now.c.current n ≡ false
    none_current past n = by (now.c.current n) refl
      where
        by : (x : Bool) → now.c.current n ≡ x → x ≡ false
        by true is =
            let there = now.alone.together.ground.map.map.rule.common.stands n is in
            let gone = now.alone.together.ground.map.map.rule.common.unmade there.0 there.1 (omega (arith, past)) in absurd (let e = sym there.4 ∙ gone in cc e)
        by false is = refl

    contents_now : ContentsBelow now.w.memory now.c now.blocks now.c.stored xs
    contents_now =
        let s : h.chart.stored ≡ now.c.stored = (let k = now.runs.changed.stored in omega (arith, k)) in
        subst (λ (n : ℕ). ContentsBelow now.w.memory now.c now.blocks n xs) s
        (below_stays same h.world.memory now.w.memory h.chart now.c h.blocks now.blocks h.chart.stored xs (λ o low. ap (λ (f : ℕ → Bool). f o) now.runs.changed.changes) now.runs.keeps.values h.are)

    none_there : now.c.past ≡ 0 → length xs ≡ 0
    none_there past = ap length (none_below now.w.memory now.c now.blocks (none_current past) now.c.stored xs contents_now)

  -- so a first table is to have too many places
  first_so : (q : Reserve) (m : Mem (Node K V)) → InCourse q m → (p : Reserve) → p.additional ≡ additional → ReadTo p q.stands → HasNoTable q.stands
  first_so q m now p same_more read = by q.stands refl read
    where
      by : (stage : Reserving) → q.stands ≡ stage → ReadTo p stage → HasNoTable stage
      by (at.Makes making) is r =
          let past = subst (LooksAtRoot now.c) is now.root in
          let few = ap (needed additional) (none_there q m now past) in
          let more = ap (λ (a : ℕ). needed a 0) same_more in
          ap (λ (x : NewTable). x.stands) r ∙ none_first (needed p.additional 0) (omega (arith, many, few, more))
      by (at.Sums table sum) is r = tt
      by at.Reads is r = tt
      by (at.Follows table need) is r = absurd r
      by (at.Grows table making) is r = absurd r
      by (at.Copies copier) is r = absurd r
      by at.Over is r = absurd r
      by (at.Refused fault) is r = absurd r

  led_on : (q : Reserve) (m : Mem (Node K V)) (told : Yielding (Node K V) Unit) → LeadsTo q m told → (p : Reserve) → p.additional ≡ additional → WasRead p (q, told) → ComesToNone (q, told)
  led_on q m outcome.Goes now p more read = first_so q m now p more read.1
  led_on q m outcome.Waits now p more read = absurd now
  led_on q m (outcome.Gave value) now p more read = absurd (let e = read.0 in cc e)
  led_on q m (outcome.Done end) now p more read = absurd (let e = read.0 in cc e)
  led_on q m (outcome.Refused fault) now p more read = absurd (let e = read.0 in cc e)

  -- a step of one that has come to no table
  module _ (p : Reserve) (m : Mem (Node K V)) (here : InCourse p m) (none : HasNoTable p.stands) (m2 : Mem (Node K V)) (p2 : Reserve) (told : Yielding (Node K V) Unit)
      (leads : LeadsTo p2 m2 told) where
    abbrev Stepped : Reserving → Type 0
    Stepped stage = Steps Took value_at here.w.memory (plan_at hash p stage) m2 (p2, told)

    reads_so : Stepped at.Reads → ComesToNone (p2, told)
    reads_so s =
        let d = loaded here.w.memory (root_read p) (Root p.setting.root) m2 (p2, told) s in
        led_on p2 m2 told leads p here.more
        (always_ends (WasRead p) (value_at here.w.memory) (root_read p (Found d.0)) (p2, told) (always_where (WasRead p) (d.0 == 0) _ _ (λ zero. (refl, refl)) (λ value. (refl, tt))) d.3)

    sums_so : (table : Table) (sum : Sum) → SumFacts setting sum → SumsUp setting here.w.memory (at.Sums table sum) → Stepped (at.Sums table sum) → ComesToNone (p2, told)
    sums_so table sum facts had s =
        let d = steps_back (summed p table) here.w.memory m2 (sum_plan sum) (p2, told) s in
        subst ComesToNone (sym d.2)
        (summed_so p table d.0 (always_steps CountsOn here.w.memory m2 (sum_plan sum) d.0 (sum_counts (Node K V) sum) d.1)
        (λ count done. counted d.0 count done (sum_ahead setting here.w.memory sum facts.0 facts.1 m2 d.0 d.1)))
      where
        counted : (end : Sum × Advance ℕ) (count : ℕ) → end.1 ≡ progress.Done count → Ahead setting here.w.memory sum facts.0 sum.stands end → 2 ^ 48 < needed p.additional count
        counted (next, progress.Done c) count done ahead =
            let one : c ≡ count = cc done in
            let all = said_still same hashes b setting m0 xs h additional here.w.memory here.counts in
            subst (λ (n : ℕ). 2 ^ 48 < needed p.additional n) (sym (sym one ∙ ahead ∙ had ∙ all)) (subst (λ (a : ℕ). 2 ^ 48 < needed a (length xs)) (sym here.more) many)
        counted (next, progress.Goes) count done ahead = absurd (cc done)
        counted (next, progress.Waits) count done ahead = absurd (cc done)
        counted (next, progress.Refused fault) count done ahead = absurd (cc done)

    refusing_so : (making : NewTable) → making.stands ≡ makes.Refused Capacity → (end : NewTable × Advance Table) → Steps Took value_at here.w.memory (new_table_plan {K = K} {V = V} making) m2 end → ComesToNone (made p end)
    refusing_so making is end t =
        let stays = subst (λ (x : Making). Steps Took value_at here.w.memory (making_at {K = K} {V = V} making x) m2 end) is t in
        subst (λ (x : NewTable × Advance Table). ComesToNone (made p x)) (sym stays.1) refl

    step_so : Steps Took value_at m (reserve_plan hash p) m2 (p2, told) → ComesToNone (p2, told)
    step_so s =
        let knows = knows_here {V = V} {Q = K} same hash same setting (slot_of same hashes b setting m0 xs h additional) h.lawful here.w here.c here.blocks here.sights (record { began = here.began; reserve = p }) here.alone (no_row p.stands none) in
        by p.stands none knows.2.point here.sums
        (subst (λ (x : Mem (Node K V)). Steps Took value_at x (reserve_plan hash p) m2 (p2, told)) (sym here.memory) s)
      where
        by : (stage : Reserving) → HasNoTable stage → ReservingFacts same hash here.w 0 setting here.c (seen_by here.blocks (here.sights setting.slot)) stage → SumsUp setting here.w.memory stage → Stepped stage → ComesToNone (p2, told)
        by at.Reads so point had t = reads_so t
        by (at.Makes making) so point had t =
            let d = steps_back (made p) here.w.memory m2 (new_table_plan making) (p2, told) t in
            subst ComesToNone (sym d.2) (refusing_so making so d.0 d.1)
        by (at.Sums table sum) so point had t = sums_so table sum point.1 had t
        by (at.Refused fault) so point had t = subst ComesToNone (sym t.1) so
        by (at.Follows table need) so point had t = absurd so
        by (at.Grows table making) so point had t = absurd so
        by (at.Copies copier) so point had t = absurd so
        by at.Over so point had t = absurd so

  -- it has come to none, and is under way
  abbrev HasNone : ForRoom S → Mem (Node K V) → Type 0
  HasNone x m = (u : Under same hashes b setting m0 xs h additional x m) × HasNoTable u.p.stands

  -- where a step of its machine leads, by what that tells
  abbrev NextNone : ForRoom S → Mem (Node K V) → Advance Unit → Type 0
  NextNone = NextOf HasNone (λ x m result. result ≡ Err Capacity)

  next_none : (q : Reserve) (m : Mem (Node K V)) (told : Yielding (Node K V) Unit) → LeadsTo q m told → ComesToNone (q, told)
      → NextNone (for_room_settled (record { reserve = q; hasher = b }) told).0 m (for_room_settled (record { reserve = q; hasher = b }) told).1
  next_none q m outcome.Goes course none = (record { p = q; is = refl; course = course }, none)
  next_none q m outcome.Waits course none = absurd course
  next_none q m (outcome.Gave value) course none = (record { p = q; is = refl; course = course }, none)
  next_none q m (outcome.Done end) course none = absurd none
  next_none q m (outcome.Refused fault) course none = ap (λ (z : Fault). Err z) none

  under_none : (x : ForRoom S) (m : Mem (Node K V)) → HasNone x m → (m2 : Mem (Node K V)) (end : ForRoom S × Advance Unit) → Steps Took value_at m (for_room_plan {V = V} hashes x) m2 end → NextNone end.0 m2 end.1
  under_none x m n m2 end s =
      let k = under_back same hashes b setting m0 xs h additional x m n.0 m2 end s in
      let to = course_step same hashes b setting m0 xs h additional n.0.p m n.0.course m2 k.0.0 k.0.1 k.1 in
      subst (λ (y : ForRoom S × Advance Unit). NextNone y.0 m2 y.1) (sym k.2) (next_none k.0.0 m2 k.0.1 to (step_so n.0.p m n.0.course n.1 m2 k.0.0 k.0.1 to k.1))

  runs_none : (x : ForRoom S) (m : Mem (Node K V)) (x2 : ForRoom S) (m2 : Mem (Node K V)) (result : Result Unit Fault) → RunsTo (for_room_plan {V = V} hashes) x m x2 m2 result → HasNone x m → result ≡ Err Capacity
  runs_none x m x2 m2 result runs none = run_comes HasNone (λ y n r. r ≡ Err Capacity) (for_room_plan {V = V} hashes) under_none x m none x2 m2 result runs

-- A reservation that needs more places than a table can have is refused for the length.
module _ {K V S : Type 0} (same : K → K → Bool) (hashes : S → K → ℕ) (b : Bor S) (setting : Setting) (m0 : Mem (Node K V)) (xs : List (K × V)) (h : Holds same (hashes b.now) setting m0 xs) (additional : ℕ) where
  pub too_much_room : (p : Reserve) → p ≡ reserving setting additional → (x : ForRoom S) (m : Mem (Node K V)) (result : Result Unit Fault)
      → RunsTo (for_room_plan {V = V} hashes) (record { reserve = p; hasher = b }) m0 x m result → NeedTooMany additional (length xs) → result ≡ Err Capacity
  too_much_room p is x m result runs need =
      runs_none same hashes b setting m0 xs h additional (many_beside additional (length xs) need) (record { reserve = p; hasher = b }) m0 x m result runs
      (begun same hashes b setting m0 xs h additional p is, begins_so)
    where
      begins_so : HasNoTable same hashes b setting m0 xs h additional (many_beside additional (length xs) need) (begun same hashes b setting m0 xs h additional p is).p.stands
      begins_so =
          subst (λ (q : Reserve). HasNoTable same hashes b setting m0 xs h additional (many_beside additional (length xs) need) q.stands)
          (sym is ∙ ap (λ (x : ForRoom S). x.reserve) (begun same hashes b setting m0 xs h additional p is).is) tt
