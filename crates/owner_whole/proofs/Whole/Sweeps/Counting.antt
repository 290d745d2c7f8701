-- A step of a sweep that is alone, and the shards of the counter: it counts one pair less for each that it has removed.
use Rattle.std.specs.Prelude.{◌≡◌, ◌≢◌, ℕ, suc, ◌+◌, ◌-◌, ◌%◌, ◌^◌, ◌==◌, ◌&&◌, Bool, true, false, nat_lt, Some, bit_and, if◌then◌else◌}
use Rattle.std.proofs.Common.{inl, inr, refl, ap, sym, subst, ◌∙◌, arith}
use Rattle.std.proofs.lemmas.Bool.{ne_eqb}
use Rattle.seize_words.specs.declared.at.At.{At}
use Rattle.seize_words.specs.declared.at.At.TheVariants.{Word}
use Rattle.seize_words.specs.OneMemory.Mem.{Mem, Can, Took, value_at, word_at, with_word}
use Rattle.seize_words.specs.OneMemory.Plan.{Now, May, Steps}
use Rattle.seize_words.specs.OneMemory.Word.{block_in}
use Rattle.seize_words.proofs.OneMemory.OneOwner.Operations.{added}
use Rattle.seize.specs.World.{World}
use Rattle.seize.specs.declared.rows.settle.Settled.{Settled}
use Rattle.seize.specs.declared.rows.settle.Settled.TheVariants as settled
use Rattle.map_tables.specs.Chunks.{is_incremental}
use Rattle.map_tables.specs.Counts.{count_change}
use Rattle.map_tables.specs.Marks.{has_mark}
use Rattle.map_tables.specs.declared.marks.TheConstants.{COPYING}
use Rattle.map_tables.specs.declared.node.Node.{Node}
use Rattle.map_tables.specs.declared.setting.Setting.{Setting}
use Rattle.map_tables.specs.declared.table.Table.{Table}
use Rattle.map_measures.specs.Given.ResizeCopier.{copier_plan}
use Rattle.map_measures.specs.Given.ResizeDispose as dispose
use Rattle.map_measures.specs.Given.ResizeDeclared.copier.Copier.{Copier}
use Rattle.map_measures.specs.Given.ResizeDeclared.dispose.Dispose.{Dispose}
use Rattle.map_measures.specs.Given.ResizeDeclared.dispose.Disposing.{Disposing}
use Rattle.map_measures.specs.Given.ResizeDeclared.dispose.Disposing.TheVariants as disposes
use Rattle.map_measures.specs.Given.ResizeDeclared.yielding.Yielding.{Yielding}
use Rattle.map_measures.specs.Given.ResizeDeclared.yielding.Yielding.TheVariants as outcome
use Rattle.papaya_raw.specs.Given.SweepsSweep.{disposed, copied, plan_at, sweep_plan}
use Rattle.papaya_raw.specs.Given.SweepsSweepPoints.{removes, further, tableless, beginning, entering, telling, going, at_pair, seen, next_at, reply_at}
use Rattle.papaya_raw.specs.Given.ReservesDeclared.sweep.Purpose.{Purpose}
use Rattle.papaya_raw.specs.Given.ReservesDeclared.sweep.Purpose.TheVariants.{Walks, Clears, Retains}
use Rattle.papaya_raw.specs.Given.ReservesDeclared.sweep.Sweep.{Sweep}
use Rattle.papaya_raw.specs.Given.ReservesDeclared.sweep.Sweeping.{Sweeping}
use Rattle.papaya_raw.specs.Given.ReservesDeclared.sweep.Sweeping.TheVariants as at
use Rattle.papaya_raw.specs.Given.ReservesDeclared.sweep.Swept.{Swept}
use Rattle.map_measures.specs.Given.RuleChart.{Still, Place, Chart, put}
use Rattle.map_measures.specs.Given.RuleMaps.{spot_of}
use Rattle.map_measures.specs.Given.RuleMoves.{without}
use Rattle.map_measures.specs.Given.RuleWords.{Blocks, byte_of}
use Rattle.map_measures.specs.Given.RuleInWorld.{IsMapIn}
use Rattle.map_measures.proofs.Given.RuleSpared.{PlanSpares, spares_as}
use Rattle.map_measures.proofs.Given.RuleWords.PlaceWords.{pair_block}
use Rattle.map_measures.proofs.Given.RuleWords.PlacesShown.{byte_of-few}
use Rattle.owner_facts.specs.Given.PointsSteps.{AreLawful}
use Rattle.owner_facts.specs.Given.PointsTold.{IsRowOf}
use Rattle.owner_facts.specs.Alone.Counting.{pairs_in, shards_sum}
use Rattle.owner_facts.proofs.Alone.Shards.PairsChanged.{put_false, pairs_as}
use Rattle.owner_facts.proofs.Alone.Shards.Sums.{shard_added}
use Rattle.owner_facts.proofs.Alone.Spared.Calls.{in_place}
use Rattle.owner_facts.proofs.Alone.Spared.Shards.{counter_apart, shards_spared}
use Rattle.owner_facts.specs.Given.LateFactsSweeps.{HasTaken, SweepingFacts, SweepFacts}
use Rattle.owner_facts.specs.Given.LateToldSweeps.{IsRowOfSweep}
use Rattle.owner_facts.proofs.Given.LateSwept.Sweeps.Moved.{Removing, SweepMoves}
use Rattle.owner_facts.proofs.Maps.Reserves.Counted.{whole_spares}
use Rattle.owner_whole.specs.Whole.WholeSweeps.{uncounted, IsCountedBut, SweptPairsCounted, TellingCountsNothing, RepliesPreserveThePurpose}
use Rattle.owner_whole.proofs.Whole.Fresh.Sweeps.{CopiesRoot}
use Rattle.owner_whole.proofs.Whole.Sweeps.Over.{further_by}

-- where a sweep comes to whose place it has read, or whose table it has come to, it has nothing to count
seen_none : (T : Type 0) (p : Sweep) (word : ℕ) → uncounted (seen {T = T} p word).0.stands ≡ 0
seen_none T p word = by (removes p.purpose && has_mark word COPYING) (block_in word == 0)
  where
    further_none : (q : Sweep) → uncounted (further q).stands ≡ 0
    further_none q = further_by (λ x. uncounted x ≡ 0) q refl refl refl

    pair_none : (purpose : Purpose) → uncounted (at_pair {T = T} purpose p word).0.stands ≡ 0
    pair_none Walks = refl
    pair_none Clears = refl
    pair_none Retains = refl

    by : (m z : Bool) → uncounted (if m then telling {T = T} (further (record p { met = true })) else (if z then telling (further p) else at_pair p.purpose p word)).0.stands ≡ 0
    by true z = further_none (record p { met = true })
    by false true = further_none p
    by false false = pair_none p.purpose

beginning_none : (p : Sweep) → uncounted (beginning p).stands ≡ 0
beginning_none p = by (removes p.purpose)
  where
    by : (r : Bool) → uncounted (if r then at.Words else at.Ready) ≡ 0
    by true = refl
    by false = refl

entering_none : (p : Sweep) (table : Table) → uncounted (entering p table).stands ≡ 0
entering_none p table = by (is_incremental p.setting.mode)
  where
    by : (x : Bool) → uncounted (if x then record p { table = table; stands = at.Follows } else beginning (record p { table = table })).stands ≡ 0
    by true = refl
    by false = beginning_none (record p { table = table })

tableless_none : (p : Sweep) → uncounted (tableless p).stands ≡ 0
tableless_none p = by (removes p.purpose)
  where
    by : (r : Bool) → uncounted (if r then at.Over else at.Ready) ≡ 0
    by true = refl
    by false = refl

copied_none : {K V : Type 0} (p : Sweep) (x : Copier × Yielding (Node K V) Table) → uncounted (copied p x).0.stands ≡ 0
copied_none p (next, outcome.Goes) = refl
copied_none p (next, outcome.Waits) = refl
copied_none p (next, outcome.Gave value) = refl
copied_none p (next, outcome.Done table) = entering_none p table
copied_none p (next, outcome.Refused fault) = refl

disposed_none : {K V : Type 0} (p : Sweep) (x : Dispose × Settled (Node K V)) → uncounted (disposed p x).0.stands ≡ 0
disposed_none p (d, settled.Goes) = refl
disposed_none p (d, settled.Waits) = refl
disposed_none p (d, settled.Gave value) = refl
disposed_none p (d, settled.Done) = further_by (λ x. uncounted x ≡ 0) p refl refl refl

-- sums of the shards, up to the end of a word
same_sum : (s2 s p2 p u2 u : ℕ) → s2 ≡ s → p2 + u2 ≡ p + u → s % 2 ^ 64 ≡ p + u → s2 % 2 ^ 64 ≡ p2 + u2
same_sum s2 s p2 p u2 u same pairs was = omega (arith, same, pairs, was)

one_less : (s2 s p : ℕ) → s2 % 2 ^ 64 ≡ (s + (2 ^ 64 - 1)) % 2 ^ 64 → s % 2 ^ 64 ≡ p + 1 → s2 % 2 ^ 64 ≡ p + 0
one_less s2 s p e was = omega (arith, e, was)

module _ {K V : Type 0} (same : K → K → Bool) (hash : K → ℕ) (lawful : AreLawful same hash) (setting : Setting) (began : ℕ) (w : World (Node K V)) (c : Chart K) (blocks : Blocks)
    (map : IsMapIn same hash setting w c blocks) (p : Sweep) (f : SweepFacts same hash w 0 setting c blocks began p) (whole : CopiesRoot same hash setting w c blocks p.stands)
    (none : IsRowOfSweep p.stands → ⊥) (may : May Can Took value_at w.memory (sweep_plan hash p)) (m2 : Mem (Node K V)) (p2 : Sweep) (end : Swept (Node K V))
    (steps : Steps Took value_at w.memory (sweep_plan hash p) m2 (p2, end)) (w2 : World (Node K V)) (c2 : Chart K) (blocks2 : Blocks)
    (moves : SweepMoves same hash 0 setting began w c blocks p p.stands (p2, end) w2 c2 blocks2) (stored : c2.stored ≡ c.stored) where
  abbrev sum : Mem (Node K V) → ℕ
  sum m = shards_sum m setting.counter (suc setting.mask)

  -- it writes no shard, unless it counts
  module _ (shard : ℕ) where
    sweep_spares : (stage : Sweeping) → ((removed : ℕ) → stage ≢ at.Counts removed) → SweepingFacts same hash w 0 setting c blocks began p stage → CopiesRoot same hash setting w c blocks stage
        → (IsRowOfSweep stage → ⊥) → PlanSpares {T = Node K V} (Word setting.counter shard) (plan_at {K = K} {V = V} hash p stage)
    sweep_spares at.Reads other point whole row = tt
    sweep_spares at.Follows other point whole row = tt
    sweep_spares (at.Copies copier) other point whole row =
        spares_as (Word setting.counter shard) (copied p) (copier_plan hash copier) (whole_spares same hash w setting c blocks map shard copier row (is_incremental setting.mode) whole)
    sweep_spares at.Ready other point whole row = tt
    sweep_spares at.Words other point whole row = tt
    sweep_spares (at.Asks word) other point whole row = tt
    sweep_spares (at.Tries word) other (taking, names, t, (over, inside)) whole row =
        in_place same hash w 0 setting c blocks (Word setting.counter shard) map (counter_apart same hash w setting c blocks map 0 shard) p.table t p.place over.table inside
    sweep_spares (at.Counts removed) other point whole row = absurd (other removed refl)
    sweep_spares (at.Disposes d) other point whole row = spares_as (Word setting.counter shard) (disposed p) (dispose.dispose_plan d) (by d.stands row)
      where
        by : (stands : Disposing) → (IsRowOf stands → ⊥) → PlanSpares {T = Node K V} (Word setting.counter shard) (dispose.plan_at d stands)
        by (disposes.Settles settle) row = absurd (row tt)
        by (disposes.Defers defer) row = absurd (row tt)
        by disposes.Reads row = tt
        by (disposes.Walks table) row = tt
        by disposes.Over row = tt
    sweep_spares at.Over other point whole row = tt
    sweep_spares (at.Refused fault) other point whole row = tt

  sum_same : ((removed : ℕ) → p.stands ≢ at.Counts removed) → sum m2 ≡ sum w.memory
  sum_same other = shards_spared same hash w setting c blocks map (sweep_plan hash p) (λ shard. sweep_spares shard p.stands other f.point whole none) may m2 (p2, end) steps

  same_pairs : c2.current ≡ c.current → pairs_in c2 ≡ pairs_in c
  same_pairs e = pairs_as c2 c.current c.stored e stored

  -- it counts nothing, and removes nothing
  kept : ((removed : ℕ) → p.stands ≢ at.Counts removed) → c2.current ≡ c.current → uncounted p2.stands ≡ 0 → uncounted p.stands ≡ 0 → IsCountedBut setting w.memory c p.stands → IsCountedBut setting m2 c2 p2.stands
  kept other e none2 none1 was =
      same_sum (sum m2) (sum w.memory) (pairs_in c2) (pairs_in c) (uncounted p2.stands) (uncounted p.stands) (sum_same other) (let pairs = same_pairs e in omega (arith, pairs, none2, none1)) was

  current_of : c2 ≡ c → c2.current ≡ c.current
  current_of e = ap (λ (d : Chart K). d.current) e

  stands_in : (x : Sweep × Swept (Node K V)) → (p2, end) ≡ x → (n : ℕ) → uncounted x.0.stands ≡ n → uncounted p2.stands ≡ n
  stands_in x is n e = ap (λ (y : Sweep × Swept (Node K V)). uncounted y.0.stands) is ∙ e

  -- it has removed a pair
  removed_then : (word : ℕ) → p.stands ≡ at.Tries word → Removing same hash 0 setting began w c blocks p word (p2, end) c2 → IsCountedBut setting w.memory c p.stands → IsCountedBut setting m2 c2 p2.stands
  removed_then word is (n, there, current, e, ends) was =
      let gone : c2.current ≡ put c.current n false = ap (λ (d : Chart K). d.current) e ∙ ap (λ (x : Place). without (spot_of hash) (is_incremental setting.mode) x c.current) there.3 in
      let low = (map.map.rule.common.keyed there.0 p.place n Still there.1 there.3).0 in
      let now = pairs_as c2 (put c.current n false) c.stored gone stored in
      let less = put_false c.current n c.stored low current in
      same_sum (sum m2) (sum w.memory) (pairs_in c2) (pairs_in c) (uncounted p2.stands) (uncounted p.stands) (sum_same (λ removed q. cc (is, q)))
      (let one = stands_in (going p (at.Counts word)) ends 1 refl in let zero = ap uncounted is in omega (arith, now, less, one, zero)) was

  -- it counts it
  counted_then : (removed : ℕ) → p.stands ≡ at.Counts removed → c2 ≡ c → uncounted p2.stands ≡ 0 → IsCountedBut setting w.memory c p.stands → IsCountedBut setting m2 c2 p2.stands
  counted_then removed is e none2 was =
      let st = subst (λ (x : Sweeping). Steps Took value_at w.memory (plan_at hash p x) m2 (p2, end)) is steps in
      let d = added w.memory (λ out. Now (going {T = Node K V} p (at.Disposes (dispose.disposing p.setting removed p.table)))) (Word p.setting.counter (bit_and p.setting.slot p.setting.mask)) (count_change removed) m2 (p2, end) st in
      let more = shard_added w.memory m2 setting (count_change removed) d.0 (subst (λ (x : At). word_at w.memory x ≡ Some d.0) shard_is d.1)
      (subst (λ (x : At). m2 ≡ with_word w.memory x ((d.0 + count_change removed) % 2 ^ 64)) shard_is d.2) in
      let less : count_change removed ≡ 2 ^ 64 - 1 = ap (λ (x : Bool). if x then 1 else 2 ^ 64 - 1) (ne_eqb removed 0 some) in
      let one : uncounted p.stands ≡ 1 = ap uncounted is in
      subst (λ (x : ℕ). sum m2 % 2 ^ 64 ≡ pairs_in c2 + x) (sym none2)
      (subst (λ (x : ℕ). sum m2 % 2 ^ 64 ≡ x + 0) (sym (same_pairs (current_of e)))
      (one_less (sum m2) (sum w.memory) (pairs_in c) (more ∙ ap (λ (x : ℕ). (sum w.memory + x) % 2 ^ 64) less) (was ∙ ap (λ (x : ℕ). pairs_in c + x) one)))
    where
      shard_is : Word p.setting.counter (bit_and p.setting.slot p.setting.mask) ≡ Word setting.counter (bit_and setting.slot setting.mask)
      shard_is = ap (λ (x : Setting). Word x.counter (bit_and x.slot x.mask)) f.setting_is

      taken : (t : ℕ) × HasTaken same hash w 0 setting c blocks began removed t
      taken = let point = subst (SweepingFacts same hash w 0 setting c blocks began p) is f.point in (point.1, point.3)

      some : removed ≢ 0
      some zero =
          let left = taken.1.2 in
          let named = (map.map.shows.pair_numbers taken.1.0 left.0 left.1).0 in
          let block : block_in removed ≡ blocks.pair taken.1.0 = ap block_in taken.1.3 ∙ pair_block blocks.pair (λ o. byte_of hash (c.key o)) taken.1.0 Still taken.1.1 (byte_of-few hash lawful.fits (c.key taken.1.0)) in
          omega (arith, zero, named, block)

  pub own_counts : IsCountedBut setting w.memory c p.stands → IsCountedBut setting m2 c2 p2.stands
  own_counts was = by p.stands refl moves
    where
      at_stage : (stage : Sweeping) → p.stands ≡ stage → uncounted stage ≡ 0 → uncounted p.stands ≡ 0
      at_stage stage is e = ap uncounted is ∙ e

      by : (stage : Sweeping) → p.stands ≡ stage → SweepMoves same hash 0 setting began w c blocks p stage (p2, end) w2 c2 blocks2 → IsCountedBut setting m2 c2 p2.stands
      by at.Reads is (e, g, inl (bare, ends)) = kept (λ r q. cc (is, q)) (current_of e) (stands_in (telling (tableless p)) ends 0 (tableless_none p)) (at_stage at.Reads is refl) was
      by at.Reads is (e, g, inr (table, there, ends)) = kept (λ r q. cc (is, q)) (current_of e) (stands_in (telling (entering p table)) ends 0 (entering_none p table)) (at_stage at.Reads is refl) was
      by at.Follows is (e, g, t, there, inl (last, ends)) = kept (λ r q. cc (is, q)) (current_of e) (stands_in (telling (beginning p)) ends 0 (beginning_none p)) (at_stage at.Follows is refl) was
      by at.Follows is (e, g, t, there, inr (next, ends)) = kept (λ r q. cc (is, q)) (current_of e) (stands_in _ ends 0 refl) (at_stage at.Follows is refl) was
      by (at.Copies copier) is (e, x, ends, more) = kept (λ r q. cc (is, q)) e (stands_in (copied p x) ends 0 (copied_none p x)) (at_stage (at.Copies copier) is refl) was
      by at.Words is (e, g, (t, there, ends)) = kept (λ r q. cc (is, q)) (current_of e) (stands_in _ ends 0 (seen_none (Node K V) p _)) (at_stage at.Words is refl) was
      by (at.Tries word) is (g, inl (e, (t, there, ends))) = kept (λ r q. cc (is, q)) (current_of e) (stands_in _ ends 0 (seen_none (Node K V) p _)) (at_stage (at.Tries word) is refl) was
      by (at.Tries word) is (g, inr removing) = removed_then word is removing was
      by (at.Counts removed) is (e, ends) = counted_then removed is e (stands_in _ ends 0 refl) was
      by (at.Disposes d) is (e, x, ends) = kept (λ r q. cc (is, q)) (current_of e) (stands_in (disposed p x) ends 0 (disposed_none p x)) (at_stage (at.Disposes d) is refl) was
      by at.Ready is (e, ends) = kept (λ r q. cc (is, q)) (current_of e) (stands_in _ ends 0 (at_stage at.Ready is refl)) (at_stage at.Ready is refl) was
      by (at.Asks word) is (e, ends) = kept (λ r q. cc (is, q)) (current_of e) (stands_in _ ends 0 (at_stage (at.Asks word) is refl)) (at_stage (at.Asks word) is refl) was
      by at.Over is (e, ends) = kept (λ r q. cc (is, q)) (current_of e) (stands_in _ ends 0 (at_stage at.Over is refl)) (at_stage at.Over is refl) was
      by (at.Refused fault) is (e, ends) = kept (λ r q. cc (is, q)) (current_of e) (stands_in _ ends 0 (at_stage (at.Refused fault) is refl)) (at_stage (at.Refused fault) is refl) was

-- what a sweep is asked, or told, counts nothing
pub telling_counts_nothing : TellingCountsNothing
telling_counts_nothing p = (next_none p.stands refl, λ keeps. reply_none p.stands refl keeps)
  where
    next_none : (stage : Sweeping) → p.stands ≡ stage → uncounted (next_at stage p).stands ≡ uncounted p.stands
    next_none at.Ready is = by (nat_lt p.place p.table.len) ∙ sym (ap uncounted is)
      where
        by : (more : Bool) → uncounted (if more then at.Words else at.Over) ≡ 0
        by true = refl
        by false = refl
    next_none _ is = refl

    reply_none : (stage : Sweeping) → p.stands ≡ stage → (keeps : Bool) → uncounted (reply_at stage p keeps).stands ≡ uncounted p.stands
    reply_none (at.Asks word) is true = further_by (λ x. uncounted x ≡ 0) p refl refl refl ∙ sym (ap uncounted is)
    reply_none (at.Asks word) is false = sym (ap uncounted is)
    reply_none _ is keeps = refl

-- nor does it change the purpose
pub telling_keeps_the_purpose : RepliesPreserveThePurpose
telling_keeps_the_purpose p = (next_kept p.stands, reply_kept p.stands)
  where
    next_kept : (stage : Sweeping) → (next_at stage p).purpose ≡ p.purpose
    next_kept at.Ready = refl
    next_kept _ = refl

    reply_kept : (stage : Sweeping) (keeps : Bool) → (reply_at stage p keeps).purpose ≡ p.purpose
    reply_kept (at.Asks word) true = refl
    reply_kept (at.Asks word) false = refl
    reply_kept _ keeps = refl

-- with nothing to count, the shards say how many pairs the map has
pub swept_pairs_counted : {K V : Type 0} → SweptPairsCounted K V
swept_pairs_counted setting m c = (
  λ its purpose was. none_more (shards_sum m setting.counter (suc setting.mask)) (pairs_in c) was,
  λ was. none_less (shards_sum m setting.counter (suc setting.mask)) (pairs_in c) was,
  λ fault was. none_less (shards_sum m setting.counter (suc setting.mask)) (pairs_in c) was,
)
  where
    none_more : (s p : ℕ) → s % 2 ^ 64 ≡ p → s % 2 ^ 64 ≡ p + 0
    none_more s p e = omega (arith, e)

    none_less : (s p : ℕ) → s % 2 ^ 64 ≡ p + 0 → s % 2 ^ 64 ≡ p
    none_less s p e = omega (arith, e)
