-- A reservation of one owner's map, run to its end: the map has the same pairs, and room for further ones.
use Rattle.std.specs.Prelude.{◌≡◌, ℕ, suc, ◌+◌, ◌-◌, ◌*◌, ◌%◌, ◌^◌, ◌≤◌, ◌⊎◌, Bool, false, cond, List, length, Some, Result, Ok, Err}
use Rattle.std.proofs.Common.{refl, sym, ◌∙◌, ap, subst, arith, inl, inr}
use Rattle.std.proofs.lemmas.Bool.{ne_eqb}
use denote.Ref.{Bor}
use Rattle.seize_words.specs.OneMemory.Mem.{Mem, Can, Took, value_at, word_at}
use Rattle.seize_words.specs.OneMemory.Plan.{Plan, May, Steps}
use Rattle.seize_words.specs.OneMemory.Word.{block_in}
use Rattle.seize_words.specs.declared.at.At.TheVariants.{Root}
use Rattle.seize_words.specs.declared.fault.Fault.{Fault}
use Rattle.seize.specs.World.{World}
use Rattle.seize.specs.declared.advance.Advance.{Advance}
use Rattle.map_straight.proofs.Given.SeizeRuleRows.Leaving.{steps_back}
use Rattle.map_tables.specs.Counts.{count_in}
use Rattle.map_tables.specs.declared.node.Node.{Node}
use Rattle.map_tables.specs.declared.node.Node.TheVariants as node
use Rattle.map_tables.specs.declared.setting.Setting.{Setting}
use Rattle.map_straight.specs.Given.ResizeDeclared.yielding.Yielding.{Yielding}
use Rattle.map_straight.specs.Given.ResizeDeclared.yielding.Yielding.TheVariants as outcome
use Rattle.papaya_raw.specs.Given.ReservesReserve.{needed, reserving, reserve_plan}
use Rattle.papaya_raw.specs.Given.ReservesDeclared.reserve.Reserve.{Reserve}
use Rattle.map_straight.specs.Given.RuleChart.{Chart}
use Rattle.map_straight.specs.Given.RuleWords.{Blocks}
use Rattle.map_straight.specs.Given.RuleInWorld.{IsMapIn}
use Rattle.owner_whole.specs.Given.PointsFactsCalls.{Unchanged}
use Rattle.owner_whole.specs.Given.AloneCounted.{HasAdded}
use Rattle.owner_whole.specs.Given.AloneCounting.{IsCounted, shards_sum}
use Rattle.owner_whole.specs.Given.AloneEndings.{RunsEnd, runs_end}
use Rattle.owner_whole.specs.Given.LateFaults.{IsRoom, RoomInReserving, RefusesRoom, RefusesSo, HoldsInReserving}
use Rattle.owner_whole.proofs.Given.LateKindsKept.Laws.{reserves_refuse_room, reserves_ask_on}
use Rattle.owner_whole.specs.Given.MapsAloneReserves.{LooksAtRoot, SumsUp, RootHasPlaces}
use Rattle.owner_whole.specs.Given.MapsEndingsReserves.{HasMore, StepsOn}
use Rattle.owner_whole.specs.Given.CallersSights.{Visible}
use Rattle.owner_whole.specs.Given.CallersTogether.{ForRoom as ForRoomOf, in_slot}
use Rattle.owner_whole.specs.Given.CallersRooms.{CallForRoom}
use Rattle.owner_whole.specs.Whole.Contents.{AreContents, ContentsBelow, HasRun}
use Rattle.owner_whole.specs.Whole.Limits.{LastEnds, IsForRoom, IsTheLast}
use Rattle.owner_whole.specs.Whole.Owner.{IsQuiescent, IsAlone}
use Rattle.owner_whole.specs.Whole.WholeRooms.{RoomStepLeads}
use Rattle.owner_whole.proofs.Whole.Contents.Below.{below_stays}
use Rattle.owner_whole.proofs.Whole.Contents.Length.{countings_come_to}
use Rattle.owner_whole.proofs.Whole.Contents.Runs.{runs_begin}
use Rattle.owner_whole.proofs.Whole.Keys.AtEnds.{counts_where_unchanged}
use Rattle.owner_whole.proofs.Whole.Rooms.Whole.{rooms_begin_alone, rooms_go_on_alone, rooms_come_to_an_end}
use Rattle.owner_whole.specs.Strides.Ending.{Continues, Ends, all_end, RunsTo}
use Rattle.owner_calls.specs.Owned.Machines.{for_room_settled, for_room_after, for_room_plan}
use Rattle.owner_calls.specs.Owned.Owned.{Holds}
use Rattle.owner_calls.specs.Owned.Rooms.{CannotMakeRoom, HasRoomFor, NeedTooMany, RoomBy}
use Rattle.owner_calls.specs.declared.machines.ForRoom.{ForRoom}
use Rattle.owner_calls.proofs.Owned.Owned.Keys.{may_turned}
use Rattle.owner_calls.proofs.Owned.Owned.Lasts.{last_shown}
use Rattle.owner_whole.proofs.Strides.Runs.Comes.{NextOf, run_comes}
use Rattle.seize_words.proofs.General.{and_nothing as no_more}

-- from what the map held
module _ {K V S : Type 0} (same : K → K → Bool) (hashes : S → K → ℕ) (b : Bor S) (setting : Setting) (m0 : Mem (Node K V)) (xs : List (K × V)) (h : Holds same (hashes b.now) setting m0 xs) (additional : ℕ) where
  abbrev hash : K → ℕ
  hash = hashes b.now

  abbrev pub slot_of : ℕ → ℕ
  slot_of i = setting.slot

  -- of no key
  abbrev no_keys : K → Bool
  no_keys k = false

  abbrev it : Reserve → ForRoom S
  it p = record { reserve = p; hasher = b }

  abbrev since : ℕ → Reserve → CallForRoom
  since began p = record { began = began; reserve = p }

  -- what the shards of a memory say
  abbrev said_in : Mem (Node K V) → ℕ
  said_in m = count_in (shards_sum m setting.counter (suc setting.mask) % 2 ^ 64)

  all_of : (s : ℕ) → s ≡ 0 + (s - 0)
  all_of s = omega arith

  said_first : said_in h.world.memory ≡ length xs
  said_first =
      ap (λ (x : ℕ). count_in (x % 2 ^ 64)) (all_of (shards_sum h.world.memory setting.counter (suc setting.mask)))
      ∙ countings_come_to same hash setting h.world h.chart h.blocks h.rests.together.ground.map h.counted xs h.are

  -- where none was added, they say the same
  pub said_still : (m : Mem (Node K V)) → HasAdded setting h.world.memory 0 m → said_in m ≡ length xs
  said_still m none = ap count_in none ∙ ap (λ (x : ℕ). count_in (x % 2 ^ 64)) (no_more (shards_sum h.world.memory setting.counter (suc setting.mask))) ∙ said_first

  abbrev RunsIt : Mem (Node K V) → Chart K → Blocks → Type 0
  RunsIt m c blocks = HasRun same hash setting no_keys h.world.memory h.chart h.blocks Unchanged m c blocks

  -- it is under way, and alone, since the map rested
  pub record Course (p : Reserve) (m : Mem (Node K V)) : Type 0 where
    pub w : World (Node K V)
    pub c : Chart K
    pub blocks : Blocks
    pub sights : ℕ → Visible
    pub began : ℕ
    pub alone : IsAlone {Q = K} same hash same setting slot_of w c blocks sights (ForRoomOf (since began p))
    pub memory : w.memory ≡ m
    pub runs : RunsIt w.memory c blocks
    pub counts : HasAdded setting h.world.memory 0 w.memory
    pub root : LooksAtRoot c p.stands
    pub sums : SumsUp setting w.memory p.stands
    pub room : RoomInReserving p.stands
    pub more : p.additional ≡ additional
    pub ends : HoldsInReserving (IsForRoom c additional (length xs)) (IsTheLast c) p.stands

  -- it has ended, and the map rests
  pub record HasEnded (m : Mem (Node K V)) : Type 0 where
    pub w : World (Node K V)
    pub c : Chart K
    pub blocks : Blocks
    pub sights : ℕ → Visible
    pub rests : IsQuiescent {K = K} {V = V} {Q = K} same hash same setting slot_of w c blocks sights
    pub memory : w.memory ≡ m
    pub runs : RunsIt w.memory c blocks
    pub counts : HasAdded setting h.world.memory 0 w.memory

  -- and the root has the places
  abbrev pub HasMadeRoom : Mem (Node K V) → Type 0
  HasMadeRoom m = (e : HasEnded m) × RootHasPlaces setting e.w.memory e.c additional

  -- or it was refused for this
  abbrev pub IsRefused : Mem (Node K V) → Fault → Type 0
  IsRefused m fault = (e : HasEnded m) × IsRoom fault × IsForRoom e.c additional (length xs) fault

  -- where a step leads, by its outcome
  abbrev pub CourseTo : Reserve → Mem (Node K V) → Yielding (Node K V) Unit → Type 0
  CourseTo p m outcome.Goes = Course p m
  CourseTo p m outcome.Waits = ⊥
  CourseTo p m (outcome.Gave value) = Course p m
  CourseTo p m (outcome.Done end) = HasMadeRoom m
  CourseTo p m (outcome.Refused fault) = IsRefused m fault

  module _ (p : Reserve) (m : Mem (Node K V)) (here : Course p m) where
    abbrev Leading : Mem (Node K V) → Reserve → Yielding (Node K V) Unit → Type 0
    Leading m2 p2 told = RoomStepLeads {Q = K} same hash same setting slot_of here.w here.c here.blocks (since here.began p) m2 p2 told

    pub course_may : May Can Took value_at m (reserve_plan hash p)
    course_may =
        subst (λ (x : Mem (Node K V)). May Can Took value_at x (reserve_plan hash p)) here.memory
        (rooms_go_on_alone same hash same setting slot_of h.lawful h.initial here.w here.c here.blocks here.sights (since here.began p) here.alone).0

    module _ (m2 : Mem (Node K V)) (p2 : Reserve) (told : Yielding (Node K V) Unit) (s : Steps Took value_at m (reserve_plan hash p) m2 (p2, told)) where
      leading : Leading m2 p2 told
      leading =
          (rooms_go_on_alone same hash same setting slot_of h.lawful h.initial here.w here.c here.blocks here.sights (since here.began p) here.alone).1 m2 p2 told
          (subst (λ (x : Mem (Node K V)). Steps Took value_at x (reserve_plan hash p) m2 (p2, told)) (sym here.memory) s)

      faults : RoomInReserving p2.stands × RefusesRoom told
      faults = reserves_refuse_room hash p here.room m m2 (p2, told) s

      more_then : p2.additional ≡ additional
      more_then = reserves_ask_on {K = K} {V = V} hash p m m2 (p2, told) s ∙ here.more

      ends_of : (l : Leading m2 p2 told)
          → HoldsInReserving (IsForRoom l.c2 additional (length xs)) (IsTheLast l.c2) p2.stands × RefusesSo (IsForRoom l.c2 additional (length xs)) told
      ends_of l =
          subst (λ (a : ℕ). HoldsInReserving (IsForRoom l.c2 a (length xs)) (IsTheLast l.c2) p2.stands × RefusesSo (IsForRoom l.c2 a (length xs)) told) here.more
          (l.ends h.incremental h.few here.sums (length xs) (said_still here.w.memory here.counts)
          (subst (λ (a : ℕ). HoldsInReserving (IsForRoom here.c a (length xs)) (IsTheLast here.c) p.stands) (sym here.more) here.ends))

      course_of : (l : Leading m2 p2 told) → IsAlone {Q = K} same hash same setting slot_of l.w2 l.c2 l.blocks2 l.sights2 (ForRoomOf (since here.began p2)) → LooksAtRoot l.c2 p2.stands × SumsUp setting l.w2.memory p2.stands
          → Course p2 m2
      course_of l alone root = record {
        w = l.w2;
        c = l.c2;
        blocks = l.blocks2;
        sights = l.sights2;
        began = here.began;
        alone = alone;
        memory = l.memory;
        runs = l.runs no_keys h.world.memory h.chart h.blocks h.rests.together.ground.map.map.rule here.runs;
        counts = l.counts h.world.memory 0 here.counts;
        root = root.0;
        sums = root.1;
        room = faults.0;
        more = more_then;
        ends = (ends_of l).0;
      }

      ended_of : (l : Leading m2 p2 told) → IsQuiescent {K = K} {V = V} {Q = K} same hash same setting slot_of l.w2 l.c2 l.blocks2 l.sights2 → HasEnded m2
      ended_of l rests = record {
        w = l.w2;
        c = l.c2;
        blocks = l.blocks2;
        sights = l.sights2;
        rests = rests;
        memory = l.memory;
        runs = l.runs no_keys h.world.memory h.chart h.blocks h.rests.together.ground.map.map.rule here.runs;
        counts = l.counts h.world.memory 0 here.counts;
      }

    pub course_step : (m2 : Mem (Node K V)) (p2 : Reserve) (told : Yielding (Node K V) Unit) → Steps Took value_at m (reserve_plan hash p) m2 (p2, told) → CourseTo p2 m2 told
    unfolding ended_of
    course_step m2 p2 outcome.Goes s =
        let l = leading m2 p2 outcome.Goes s in course_of m2 p2 outcome.Goes s l l.leads (l.places h.incremental here.root here.sums)
    course_step m2 p2 outcome.Waits s = (leading m2 p2 outcome.Waits s).leads
    course_step m2 p2 (outcome.Gave value) s =
        let l = leading m2 p2 (outcome.Gave value) s in course_of m2 p2 (outcome.Gave value) s l l.leads.0 (l.places h.incremental here.root here.sums)
    course_step m2 p2 (outcome.Done end) s =
        let l = leading m2 p2 (outcome.Done end) s in
        (ended_of m2 p2 (outcome.Done end) s l l.leads, subst (RootHasPlaces setting l.w2.memory l.c2) (more_then m2 p2 (outcome.Done end) s) (l.places h.incremental here.root here.sums))
    course_step m2 p2 (outcome.Refused fault) s =
        let l = leading m2 p2 (outcome.Refused fault) s in (
          ended_of m2 p2 (outcome.Refused fault) s l l.leads,
          (faults m2 p2 (outcome.Refused fault) s).1,
          (ends_of m2 p2 (outcome.Refused fault) s l).1,
        )

    pub course_ends : RunsEnd (Reserve × Mem (Node K V)) (StepsOn hash) (p, m)
    course_ends =
        subst (λ (x : Mem (Node K V)). RunsEnd (Reserve × Mem (Node K V)) (StepsOn hash) (p, x)) here.memory
        (rooms_come_to_an_end same hash same setting slot_of h.lawful h.initial here.w here.c here.blocks here.sights (since here.began p) here.alone)

  -- the machine of the reservation is there, and it is under way
  pub record Under (x : ForRoom S) (m : Mem (Node K V)) : Type 0 where
    pub p : Reserve
    pub is : x ≡ it p
    pub course : Course p m

  -- what it comes to
  abbrev pub ComesTo : ForRoom S → Mem (Node K V) → Result Unit Fault → Type 0
  ComesTo x m (Ok end) = HasMadeRoom m
  ComesTo x m (Err fault) = IsRefused m fault

  -- where a step of that machine leads, by what it tells
  abbrev pub Next : ForRoom S → Mem (Node K V) → Advance Unit → Type 0
  Next = NextOf Under ComesTo

  next_by : (p : Reserve) (m : Mem (Node K V)) (told : Yielding (Node K V) Unit) → CourseTo p m told → Next (for_room_settled (it p) told).0 m (for_room_settled (it p) told).1
  next_by p m outcome.Goes c = record { p = p; is = refl; course = c }
  next_by p m outcome.Waits c = absurd c
  next_by p m (outcome.Gave value) c = record { p = p; is = refl; course = c }
  next_by p m (outcome.Done end) c = c
  next_by p m (outcome.Refused fault) c = c

  abbrev pub the_plan : ForRoom S → Plan (Node K V) (ForRoom S × Advance Unit)
  the_plan = for_room_plan hashes

  module _ (x : ForRoom S) (m : Mem (Node K V)) (u : Under x m) where
    pub under_may : May Can Took value_at m (the_plan x)
    under_may =
        subst (λ y. May Can Took value_at m (the_plan y)) (sym u.is)
        (may_turned (for_room_after (it u.p)) Can Took value_at m (reserve_plan hash u.p) (course_may u.p m u.course))

    pub under_back : (m2 : Mem (Node K V)) (end : ForRoom S × Advance Unit) → Steps Took value_at m (the_plan x) m2 end
        → (e : Reserve × Yielding (Node K V) Unit) × Steps Took value_at m (reserve_plan hash u.p) m2 e × (end ≡ for_room_after (it u.p) e)
    under_back m2 end s =
        steps_back (for_room_after (it u.p)) m m2 (reserve_plan hash u.p) end (subst (λ y. Steps Took value_at m (the_plan y) m2 end) u.is s)

    pub under_step : (m2 : Mem (Node K V)) (end : ForRoom S × Advance Unit) → Steps Took value_at m (the_plan x) m2 end → Next end.0 m2 end.1
    under_step m2 end s =
        let k = under_back m2 end s in
        subst (λ y. Next y.0 m2 y.1) (sym k.2) (next_by k.0.0 m2 k.0.1 (course_step u.p m u.course m2 k.0.0 k.0.1 k.1))

  OnTo : Reserve → Mem (Node K V) → Yielding (Node K V) Unit → Type 0
  OnTo p2 m2 told = HasMore told × (v : Under (for_room_settled (it p2) told).0 m2) × (v.p ≡ p2)

  on_told : (p2 : Reserve) (m2 : Mem (Node K V)) (told : Yielding (Node K V) Unit) → CourseTo p2 m2 told → Continues (for_room_settled (it p2) told).1 → OnTo p2 m2 told
  unfolding OnTo
  on_told p2 m2 outcome.Goes c on = (tt, record { p = p2; is = refl; course = c }, refl)
  on_told p2 m2 outcome.Waits c on = absurd c
  on_told p2 m2 (outcome.Gave value) c on = (tt, record { p = p2; is = refl; course = c }, refl)
  on_told p2 m2 (outcome.Done end) c on = absurd on
  on_told p2 m2 (outcome.Refused fault) c on = absurd on

  ends_from : (y : Reserve × Mem (Node K V)) → RunsEnd (Reserve × Mem (Node K V)) (StepsOn hash) y → (x : ForRoom S) (u : Under x y.1) → u.p ≡ y.0 → Ends the_plan x y.1
  unfolding OnTo
  ends_from y (runs_end _ next) x u e =
      all_end x y.1 (under_may x y.1 u) (λ m2 x2 told on s.
      let k = under_back x y.1 u m2 (x2, told) s in
      let g = on_told k.0.0 m2 k.0.1 (course_step u.p y.1 u.course m2 k.0.0 k.0.1 k.1) (subst (Continues {A = Unit}) (ap (λ z. z.1) k.2) on) in
      subst (λ z. Ends the_plan z m2) (sym (ap (λ z. z.0) k.2))
      (ends_from (k.0.0, m2) (next (k.0.0, m2) (k.0.1, g.0, subst (λ p. Steps Took value_at y.1 (reserve_plan hash p) m2 (k.0.0, k.0.1)) e k.1))
      (for_room_settled (it k.0.0) k.0.1).0 g.1 g.2))

  -- it comes to its end
  under_ends : (x : ForRoom S) (m : Mem (Node K V)) → Under x m → Ends the_plan x m
  under_ends x m u = ends_from (u.p, m) (course_ends u.p m u.course) x u refl

  nothing_added : (s : ℕ) → s % 2 ^ 64 ≡ (s + 0) % 2 ^ 64
  nothing_added s = ap (λ x. x % 2 ^ 64) (omega arith)

  -- it begins
  begins_under : Under (it (reserving (in_slot setting setting.slot) additional)) m0
  begins_under = record {
    p = reserving (in_slot setting setting.slot) additional;
    is = refl;
    course = record {
      w = h.world;
      c = h.chart;
      blocks = h.blocks;
      sights = h.sights;
      began = h.chart.now;
      alone = rooms_begin_alone same hash same setting slot_of h.world h.chart h.blocks h.sights h.rests additional;
      memory = h.memory;
      runs = runs_begin V same hash setting no_keys h.world.memory h.chart h.blocks h.rests.together.ground.moments;
      counts = nothing_added _;
      root = tt;
      sums = tt;
      room = tt;
      more = refl;
      ends = tt;
    };
  }

  module _ (m : Mem (Node K V)) (e : HasEnded m) where
    abbrev map_then : IsMapIn same hash setting e.w e.c e.blocks
    map_then = e.rests.together.ground.map

    contents_then : AreContents e.w.memory e.c e.blocks xs
    contents_then =
        let s : h.chart.stored ≡ e.c.stored = (let k = e.runs.changed.stored in omega (arith, k)) in
        subst (λ (n : ℕ). ContentsBelow e.w.memory e.c e.blocks n xs) s
        (below_stays same h.world.memory e.w.memory h.chart e.c h.blocks e.blocks h.chart.stored xs (λ o low. ap (λ (f : ℕ → Bool). f o) e.runs.changed.changes) e.runs.keeps.values h.are)

    counted_then : IsCounted setting e.w.memory e.c
    counted_then = counts_where_unchanged V same hash setting e.w e.c e.blocks map_then h.world.memory h.chart h.rests.together.ground.map.map.rule no_keys e.runs.changed e.counts h.counted

    holds_then : Holds same hash setting m xs
    holds_then = record {
      lawful = h.lawful;
      initial = h.initial;
      few = h.few;
      one_shard = h.one_shard;
      incremental = h.incremental;
      size = h.size;
      world = e.w;
      chart = e.c;
      blocks = e.blocks;
      sights = e.sights;
      memory = e.memory;
      rests = e.rests;
      counted = counted_then;
      are = contents_then;
    }

    -- what the shards say is how many pairs there are
    said : count_in (shards_sum e.w.memory setting.counter (suc setting.mask) % 2 ^ 64) ≡ length xs
    said = said_still e.w.memory e.counts

    room_then : RootHasPlaces setting e.w.memory e.c additional → HasRoomFor setting m additional (length xs)
    room_then places = record {
      root = e.blocks.table e.c.first * 2048;
      root_is = subst (λ (x : Mem (Node K V)). word_at x (Root setting.root) ≡ Some (e.blocks.table e.c.first * 2048)) e.memory
          (map_then.map.shows.root_there ∙ ap (λ (x : Bool). Some (cond x 0 (e.blocks.table e.c.first * 2048))) (ne_eqb e.c.past 0 (λ z. let l = places.1 in omega (arith, z, l))));
      there = λ zero.
          (let number = map_then.map.shows.table_numbers e.c.first places.1 (map_then.map.shows.linked e.c.first (omega arith) places.1) in
          let positive = number.0 in omega (arith, zero, positive));
      len = e.c.len e.c.first;
      limit = e.c.limit e.c.first;
      turn = e.c.first;
      table = subst (λ (x : Mem (Node K V)). value_at x (block_in (e.blocks.table e.c.first * 2048)) ≡ Some (node.Table (e.c.len e.c.first) (e.c.limit e.c.first) e.c.first)) e.memory
          (ap (value_at e.w.memory) (its_block (e.blocks.table e.c.first)) ∙ (map_then.map.shows.tables e.c.first places.1 (map_then.map.shows.linked e.c.first (omega arith) places.1)).value);
      places = subst (λ (n : ℕ). needed additional n ≤ e.c.len e.c.first) said places.0;
    }
      where
        its_block : (n : ℕ) → block_in (n * 2048) ≡ n
        its_block n = omega arith

  why_not : (m : Mem (Node K V)) (e : HasEnded m) → LastEnds e.c ⊎ NeedTooMany additional (length xs) → CannotMakeRoom setting m additional (length xs)
  why_not m e (inl last) = inl (last_shown same hash h.lawful setting e.w e.c e.blocks e.rests.together.ground.map m e.memory last)
  why_not m e (inr many) = inr many

  by_result : (x : ForRoom S) (m : Mem (Node K V)) (result : Result Unit Fault) → ComesTo x m result → RoomBy same hash setting additional m xs result
  by_result x m (Ok end) c = (holds_then m c.0, room_then m c.0 c.1)
  by_result x m (Err fault) c = (holds_then m c.0, c.1, λ long. why_not m c.0 (c.2 long))

  module _ (p : Reserve) (is : p ≡ reserving setting additional) where
    pub begun : Under (it p) m0
    begun = subst (λ (x : Reserve). Under (it x) m0) (sym is) begins_under

    pub making_room_ends : Ends (for_room_plan {V = V} hashes) (record { reserve = p; hasher = b }) m0
    making_room_ends = under_ends (it p) m0 begun

    pub making_room_by : (x : ForRoom S) (m : Mem (Node K V)) (result : Result Unit Fault) → RunsTo (for_room_plan {V = V} hashes) (record { reserve = p; hasher = b }) m0 x m result
        → RoomBy same hash setting additional m xs result
    making_room_by x m result runs = by_result x m result (run_comes Under ComesTo the_plan under_step (it p) m0 begun x m result runs)
