-- What a caller looks at of its map stands in a memory without all other blocks, and its call knows there what it knows.
use Rattle.std.specs.Prelude.{◌≡◌, ℕ, ◌≤◌, ◌==◌, Bool, true, false, cond, Option, Some, ◌⊎◌}
use Rattle.std.specs.Int.{IsPowerOfTwo}
use Rattle.std.proofs.Common.{inl, inr, refl, ap, sym, subst, ◌∙◌, eqb-true}
use Rattle.std.proofs.lemmas.Bool.{eq-eqb}
use Rattle.run_shows.specs.Given.SeizeWordsMem.{Mem, Can, Took, value_at}
use Rattle.run_shows.specs.Given.SeizeWordsPlan.{May}
use Rattle.run_shows.specs.Given.SeizeLaw.{holds}
use Rattle.run_shows.specs.Given.SeizeWorld.{World, Hand, NoBlock, Making, InUse, Parting, Cutting, Handed, LeftTo, IsInside}
use Rattle.run_shows.specs.Given.TablesChunks.{is_incremental}
use Rattle.run_shows.specs.Given.TablesDeclared.node.Node.{Node}
use Rattle.run_shows.specs.Given.TablesDeclared.setting.Setting.{Setting}
use Rattle.run_shows.specs.Given.ResizeSum.{sum_plan}
use Rattle.run_shows.specs.Given.ResizeDeclared.sum.Sum.{Sum}
use Rattle.run_shows.specs.Given.ReservesReserve.{reserve_plan}
use Rattle.run_shows.specs.Given.SweepsSweep.{sweep_plan}
use Rattle.run_shows.specs.Given.RawCall.{call_plan}
use Rattle.run_shows.specs.Given.RuleChart.{Chart}
use Rattle.run_shows.specs.Given.RuleMaps.{spot_of}
use Rattle.run_shows.specs.Given.RuleWords.{Blocks}
use Rattle.run_shows.specs.Given.RuleInWorld.{IsHeldBy, IsMapIn}
use Rattle.run_shows.proofs.Given.RuleHistory.LeavingOn.{leaves_same}
use Rattle.run_shows.proofs.Given.RuleWorld.Framed.{shows_kept}
use Rattle.run_shows.proofs.Given.RuleWorld.WentWrote.{HasCounter, counter_of}
use Rattle.owner_facts.specs.Given.PointsFactsCalls.{Unchanged, CallFacts}
use Rattle.owner_facts.specs.Given.PointsOthers.{OthersStep}
use Rattle.owner_facts.specs.Given.PointsSteps.{AreLawful}
use Rattle.owner_facts.specs.Given.PointsTold.{IsRowOfCall}
use Rattle.owner_facts.proofs.Given.PointsCalls.StepsTold.{calls_keep_the_map}
use Rattle.owner_facts.proofs.Given.PointsMaking.Sum.{may_sum}
use Rattle.owner_facts.specs.Given.LateFactsReserves.{ReserveFacts}
use Rattle.owner_facts.specs.Given.LateLateCalls.{SupersededCallFacts}
use Rattle.owner_facts.specs.Given.LateLateReserves.{SupersededReserveFacts}
use Rattle.owner_facts.specs.Given.LateLeft.{ClaimsAreFew}
use Rattle.owner_facts.specs.Given.LateToldReserves.{IsRowOfReserve}
use Rattle.owner_facts.specs.Given.LateToldSweeps.{IsRowOfSweep}
use Rattle.owner_facts.proofs.Given.LateCalls.Points.{late_calls_keep_the_map}
use Rattle.owner_facts.proofs.Given.LateCopiers.Points.{late_copiers_keep_the_map}
use Rattle.owner_facts.proofs.Given.LateLasts.Promised.{calls_know_on}
use Rattle.owner_facts.proofs.Given.LateRooms.Laws.{reserves_keep_the_map, late_reserves_keep_the_map, reserves_know_on}
use Rattle.owner_facts.proofs.Given.LateSwept.Laws.{sweeps_keep_the_map, sweeps_know_on}
use Rattle.owner_facts.specs.Given.CallersKept.{IsWithin}
use Rattle.owner_facts.specs.Given.CallersOverAll.{CallOverAll}
use Rattle.owner_facts.specs.Given.CallersRooms.{CallForRoom}
use Rattle.owner_facts.specs.Given.CallersSights.{Visible, seen_by}
use Rattle.owner_facts.specs.Given.CallersTogether.{UnderWay, CallOnKey, OnKey, ForRoom, Counting, OverAll, Together, IsAtPoint, in_slot}
use Rattle.owner_facts.proofs.Given.CallersSights.Seen.{map_seen}
use Rattle.owner_facts.proofs.Given.CallersTogether.Few.{claim_few}
use Rattle.owner_facts.proofs.Given.CallersTogether.Fits.{map_in_slot}
use Rattle.many_acts.specs.Looks.Looks.{IsHeldFor}
use Rattle.many_acts.proofs.Looks.Restricted.{restricted, value_kept, word_kept}
use Rattle.run_shows.proofs.Given.CallersTogether.Any.{either as then_of}

-- whether this holder has the block
abbrev pub has_it : ℕ → Hand → Bool
has_it j NoBlock = false
has_it j (Making i) = i == j
has_it j (InUse o) = false
has_it j (Parting i) = i == j
has_it j (Cutting i) = i == j
has_it j Handed = false
has_it j (LeftTo i) = false

pub has : (j : ℕ) (hand : Hand) → IsHeldBy j hand → has_it j hand ≡ true
has j NoBlock held = absurd held
has j (Making i) held = eq-eqb i j held
has j (InUse o) held = absurd held
has j (Parting i) held = eq-eqb i j held
has j (Cutting i) held = eq-eqb i j held
has j Handed held = absurd held
has j (LeftTo i) held = absurd held

pub is_held : (j : ℕ) (hand : Hand) → has_it j hand ≡ true → IsHeldBy j hand
is_held j NoBlock e = cc e
is_held j (Making i) e = eqb-true i j e
is_held j (InUse o) e = cc e
is_held j (Parting i) e = eqb-true i j e
is_held j (Cutting i) e = eqb-true i j e
is_held j Handed e = cc e
is_held j (LeftTo i) e = cc e

either : (x y : Bool) → cond x true y ≡ true → (x ≡ true) ⊎ (y ≡ true)
either true y e = inl refl
either false y e = inr e

first_of : (x y : Bool) → x ≡ true → cond x true y ≡ true
first_of x y e = ap (λ (b : Bool). cond b true y) e

module _ {K V Q : Type 0} (same : K → K → Bool) (hash : K → ℕ) (asks : Q → K → Bool) (setting : Setting) (slot : ℕ → ℕ) (lawful : AreLawful same hash) (initial : IsPowerOfTwo setting.initial)
    (w : World (Node K V)) (c : Chart K) (blocks : Blocks) (sights : ℕ → Visible) (calls : ℕ → Option (UnderWay K V Q)) (s : Together V same hash asks setting slot w c blocks sights calls)
    (i : ℕ) (inside : IsInside (w.uses (slot i))) where
  -- what is kept: the section holds it, its caller has it, or it is the counter
  abbrev pub keep : ℕ → Bool
  keep b = cond (holds (slot i) b w.log) true (cond (has_it i (w.hand b)) true (b == setting.counter))

  pub held_for : (b : ℕ) → keep b ≡ true → IsHeldFor w (slot i) i setting.counter b
  held_for b is = elim (either (holds (slot i) b w.log) (cond (has_it i (w.hand b)) true (b == setting.counter)) is) as (λ _. IsHeldFor w (slot i) i setting.counter b) [
    | inl held ↦ inl held
    | inr more ↦ elim (either (has_it i (w.hand b)) (b == setting.counter) more) as (λ _. IsHeldFor w (slot i) i setting.counter b) [
      | inl own ↦ inr (inl (is_held i (w.hand b) own))
      | inr counter ↦ inr (inr (eqb-true b setting.counter counter))
    ]
  ]

  kept_held : (b : ℕ) → holds (slot i) b w.log ≡ true → keep b ≡ true
  kept_held b is = first_of (holds (slot i) b w.log) (cond (has_it i (w.hand b)) true (b == setting.counter)) is

  kept_own : (b : ℕ) → IsHeldBy i (w.hand b) → keep b ≡ true
  kept_own b is = then_of (holds (slot i) b w.log) (cond (has_it i (w.hand b)) true (b == setting.counter)) (first_of (has_it i (w.hand b)) (b == setting.counter) (has i (w.hand b) is))

  kept_counter : keep setting.counter ≡ true
  kept_counter =
      then_of (holds (slot i) setting.counter w.log) (cond (has_it i (w.hand setting.counter)) true (setting.counter == setting.counter))
      (then_of (has_it i (w.hand setting.counter)) (setting.counter == setting.counter) (eq-eqb setting.counter setting.counter refl))

  abbrev pub less : Mem (Node K V)
  less = restricted keep w.memory

  -- the world with that memory
  abbrev w2 : World (Node K V)
  w2 = record w { memory = less }

  abbrev here : Setting
  here = in_slot setting (slot i)

  abbrev seen : Blocks
  seen = seen_by blocks (sights (slot i))

  within : IsWithin w (slot i) c seen setting
  within = (s.ground.sight (slot i) inside).1

  map : IsMapIn same hash here w c seen
  map = map_seen same hash here w c blocks (sights (slot i)) (map_in_slot same hash setting w c blocks (slot i) s.ground.map) (s.ground.sight (slot i) inside).0

  -- the map stands there
  map2 : IsMapIn same hash here w2 c seen
  map2 = record {
    map = record {
      rule = map.map.rule;
      shows = shows_kept hash w.memory less c seen setting.root map.map.shows (record {
        root_word = λ word is. is;
        table_values = λ t made known. value_kept keep w.memory (blocks.table t) (kept_held (blocks.table t) (within.tables t made known));
        pair_values = λ n made known. value_kept keep w.memory (blocks.pair n) (kept_held (blocks.pair n) (within.pairs n made known));
        words = λ t d word made known other is. word_kept keep w.memory (blocks.table t) d (kept_held (blocks.table t) (within.tables t made known)) ∙ is;
      });
      later = map.map.later;
    };
    counter = value_kept keep w.memory setting.counter kept_counter ∙ map.counter;
    shards = λ shard l. let x = map.shards shard l in (x.0, word_kept keep w.memory setting.counter shard kept_counter ∙ x.1);
    tables = map.tables;
    pairs = map.pairs;
    named = map.named;
    tables_out = map.tables_out;
    pairs_out = map.pairs_out;
  }

  -- nothing that its caller looks at has changed
  others : OthersStep same hash here i w c seen w2 c seen
  others = record {
    leaves = leaves_same same (spot_of hash) (is_incremental setting.mode) i c;
    tables = λ t made known. (refl, known);
    pairs = λ n made known. (refl, known);
    values = λ n made known. value_kept keep w.memory (blocks.pair n) (kept_held (blocks.pair n) (within.pairs n made known));
    own = record {
      blocks = λ b value is other held. (refl, value_kept keep w.memory b (kept_own b held) ∙ is);
      words = λ b field value is other making. word_kept keep w.memory b field (kept_own b (subst (IsHeldBy i) (sym making) refl));
    };
  }

  few : is_incremental setting.mode ≡ false → ClaimsAreFew c
  few blocking t made = claim_few calls c (s.few blocking) t made

  -- so each step of a call may be taken there, if it is none of a row
  pub may_key : (u : CallOnKey K V Q) → calls i ≡ Some (OnKey u) → (IsRowOfCall u.call.stands → ⊥) → May Can Took value_at less (call_plan asks same hash u.call)
  may_key u is none = by (s.stand i (OnKey u) is)
    where
      late_may : SupersededCallFacts same hash asks w2 i here c seen u.keys u.began u.call → May Can Took value_at less (call_plan asks same hash u.call)
      late_may late = (late_calls_keep_the_map V same hash asks (late_copiers_keep_the_map same hash) lawful here initial w2 i c seen u.keys u.began u.call map2 s.ground.moments (few late.blocking) late none).0

      by_facts : u.began ≤ c.now
          → CallFacts same hash asks w i here c seen u.keys u.change u.call ⊎ ((u.change ≡ Unchanged) × SupersededCallFacts same hash asks w i here c seen u.keys u.began u.call)
          → May Can Took value_at less (call_plan asks same hash u.call)
      by_facts began (inl first) =
          elim (((calls_know_on V same hash asks lawful here i w w2 c c seen seen map map2 s.ground.moments others few).1 u.keys u.began began u.change u.call).0 first)
          as (λ _. May Can Took value_at less (call_plan asks same hash u.call)) [
            | inl facts ↦ (calls_keep_the_map V same hash asks lawful here initial w2 i c seen u.keys u.change u.call map2 facts none).0
            | inr late ↦ late_may late.1
          ]
      by_facts began (inr late) = late_may (((calls_know_on V same hash asks lawful here i w w2 c c seen seen map map2 s.ground.moments others few).1 u.keys u.began began u.change u.call).1 late.1)

      by : IsAtPoint V same hash asks setting slot w c seen i (OnKey u) → May Can Took value_at less (call_plan asks same hash u.call)
      by (inl (rests, knows)) = by_facts knows.since.began_before knows.facts
      by (inr (row, is_row, knows)) = absurd (none is_row)

  pub may_room : (r : CallForRoom) → calls i ≡ Some (ForRoom r) → (IsRowOfReserve r.reserve.stands → ⊥) → May Can Took value_at less (reserve_plan hash r.reserve)
  may_room r is none = by (s.stand i (ForRoom r) is)
    where
      late_may : SupersededReserveFacts same hash w2 i here c seen r.began r.reserve → May Can Took value_at less (reserve_plan hash r.reserve)
      late_may late = (late_reserves_keep_the_map V same hash lawful here initial w2 i c seen r.began r.reserve map2 s.ground.moments (few late.blocking) late none).0

      by_facts : r.began ≤ c.now → ReserveFacts same hash w i here c seen r.reserve ⊎ SupersededReserveFacts same hash w i here c seen r.began r.reserve
          → May Can Took value_at less (reserve_plan hash r.reserve)
      by_facts began (inl first) =
          elim ((reserves_know_on V same hash lawful here i w w2 c c seen seen map map2 s.ground.moments others few r.began began r.reserve).0 first)
          as (λ _. May Can Took value_at less (reserve_plan hash r.reserve)) [
            | inl facts ↦ (reserves_keep_the_map V same hash lawful here initial w2 i c seen r.reserve map2 facts none).0
            | inr late ↦ late_may late
          ]
      by_facts began (inr late) = late_may ((reserves_know_on V same hash lawful here i w w2 c c seen seen map map2 s.ground.moments others few r.began began r.reserve).1 late)

      by : IsAtPoint V same hash asks setting slot w c seen i (ForRoom r) → May Can Took value_at less (reserve_plan hash r.reserve)
      by (inl (rests, knows)) = by_facts knows.began_before knows.facts
      by (inr (row, is_row, knows)) = absurd (none is_row)

  pub may_sweep : (o : CallOverAll) → calls i ≡ Some (OverAll o) → (IsRowOfSweep o.sweep.stands → ⊥) → May Can Took value_at less (sweep_plan hash o.sweep)
  may_sweep o is none = by (s.stand i (OverAll o) is)
    where
      by : IsAtPoint V same hash asks setting slot w c seen i (OverAll o) → May Can Took value_at less (sweep_plan hash o.sweep)
      by (inl (rests, knows)) =
          (sweeps_keep_the_map V same hash lawful here initial w2 i c seen o.began o.sweep map2 s.ground.moments few
          (sweeps_know_on V same hash lawful here i w w2 c c seen seen map map2 s.ground.moments others few o.began knows.began_before o.sweep knows.facts) none).0
      by (inr (row, is_row, knows)) = absurd (none is_row)

-- a counting looks at the counter alone
module _ {K V Q : Type 0} (same : K → K → Bool) (hash : K → ℕ) (asks : Q → K → Bool) (setting : Setting) (slot : ℕ → ℕ)
    (w : World (Node K V)) (c : Chart K) (blocks : Blocks) (sights : ℕ → Visible) (calls : ℕ → Option (UnderWay K V Q)) (s : Together V same hash asks setting slot w c blocks sights calls)
    (i : ℕ) where
  abbrev pub keep_counter : ℕ → Bool
  keep_counter b = b == setting.counter

  pub counter_for : (b : ℕ) → keep_counter b ≡ true → IsHeldFor w (slot i) i setting.counter b
  counter_for b is = inr (inr (eqb-true b setting.counter is))

  counter_there : HasCounter setting (restricted keep_counter w.memory)
  counter_there =
      let had = counter_of same hash setting w c blocks s.ground.map in
      let kept : keep_counter setting.counter ≡ true = eq-eqb setting.counter setting.counter refl in
      record {
        counter = value_kept keep_counter w.memory setting.counter kept ∙ had.counter;
        shards = λ shard l. let is = had.shards shard l in (is.0, word_kept keep_counter w.memory setting.counter shard kept ∙ is.1);
      }

  pub may_count : (sum : Sum) → calls i ≡ Some (Counting sum) → May Can Took value_at (restricted keep_counter w.memory) (sum_plan sum)
  may_count sum is =
      let had = counter_there in
      may_sum (in_slot setting (slot i)) (restricted keep_counter w.memory) (record { counter = had.counter; shards = had.shards }) sum (s.stand i (Counting sum) is).1
