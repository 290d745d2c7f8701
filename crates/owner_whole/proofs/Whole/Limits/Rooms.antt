-- A step of a reservation that is alone, in incremental mode: it is refused for the length of a table only where the last table cannot be followed, or so many
-- further pairs need more places than a table can have.
use Rattle.std.specs.Prelude.{◌≡◌, ◌⊎◌, ℕ, suc, ◌%◌, ◌^◌, ◌<◌, ◌≤◌, Bool, true, cond}
use Rattle.std.proofs.Common.{refl, sym, subst, ◌∙◌, inl, inr}
use Rattle.seize_words.specs.OneMemory.Mem.{Mem, Can, Took, value_at}
use Rattle.seize_words.specs.OneMemory.Plan.{May, Steps}
use Rattle.seize_words.specs.declared.at.At.TheVariants.{Word}
use Rattle.seize_words.specs.declared.fault.Fault.{Fault}
use Rattle.seize_words.specs.declared.fault.Fault.TheVariants.{Capacity, Memory}
use Rattle.seize.specs.World.{World}
use Rattle.seize.specs.declared.advance.Advance.TheVariants as progress
use Rattle.map_tables.specs.Chunks.{is_incremental}
use Rattle.map_tables.specs.Counts.{count_in}
use Rattle.map_tables.specs.declared.node.Node.{Node}
use Rattle.map_tables.specs.declared.setting.Setting.{Setting}
use Rattle.map_tables.specs.declared.table_words.TheConstants.{NEXT}
use Rattle.map_measures.specs.Given.ResizeCopier.{copier_plan}
use Rattle.map_measures.specs.Given.ResizeNewTable.{new_table_plan}
use Rattle.map_measures.specs.Given.ResizeDeclared.copier.Copier.{Copier}
use Rattle.map_measures.specs.Given.ResizeDeclared.copier.Copying.{Copying}
use Rattle.map_measures.specs.Given.ResizeDeclared.copier.Copying.TheVariants as copies
use Rattle.map_measures.specs.Given.ResizeDeclared.yielding.Yielding.{Yielding}
use Rattle.papaya_raw.specs.Given.ReservesReserve.{copied, grown, made, needed, plan_at, reserve_plan}
use Rattle.papaya_raw.specs.Given.ReservesDeclared.reserve.Reserve.{Reserve}
use Rattle.papaya_raw.specs.Given.ReservesDeclared.reserve.Reserving.{Reserving}
use Rattle.papaya_raw.specs.Given.ReservesDeclared.reserve.Reserving.TheVariants as at
use Rattle.map_measures.specs.Given.RuleChart.{Chart}
use Rattle.map_measures.specs.Given.RuleWords.{Blocks}
use Rattle.map_measures.specs.Given.RuleLasts.{Lasts}
use Rattle.map_measures.specs.Given.RuleMaps.{spot_of}
use Rattle.map_measures.specs.Given.RuleInWorld.{IsMapIn, SameBlocks}
use Rattle.owner_facts.specs.Given.PointsFactsCopies.{CopierFacts}
use Rattle.owner_facts.specs.Given.PointsFactsCopiesBlocking.{CopierFactsBlocking}
use Rattle.owner_facts.specs.Alone.Counting.{shards_sum}
use Rattle.map_measures.specs.Given.LateEnds.{EndsSo, EndsInCopying, EndsInReserving}
use Rattle.owner_facts.specs.Given.LateFactsReserves.{CopiesWhole, IsEnding, ReservingFacts, ReserveFacts}
use Rattle.map_measures.specs.Given.LateFaults.{HoldsInReserving}
use Rattle.owner_facts.specs.Given.LateToldReserves.{IsRowOfReserve}
use Rattle.owner_facts.specs.Maps.AloneReserves.{SumsUp}
use Rattle.map_measures.proofs.Given.RuleSpared.{PlanSpares, spares_as, step_spares}
use Rattle.map_measures.proofs.Given.LateKindsKept.Rooms.Bound.{BoundReserving, Keeps, reserving_on}
use Rattle.map_measures.proofs.Given.LateKindsKept.Rooms.Reserving.{ReservesAs, reserve_as}
use Rattle.owner_facts.proofs.Maps.Reserves.Sums.{sum_ahead}
use Rattle.owner_whole.specs.Whole.Limits.{LastEnds, IsForTheLast, IsForRoom, IsTheLast}
use Rattle.owner_whole.proofs.Whole.Limits.Copiers.{copier_bounds, copier_keeps, ends_so, keeps_where, last_then, memory_is_other, row_copier}
use Rattle.owner_whole.proofs.Whole.Limits.Past.{is_last, its_link, past_same}
use Rattle.owner_whole.proofs.Whole.Limits.Spares.{making_spares}

-- where only the last table can be why, it is so for a reservation, too
module _ {K : Type 0} (c : Chart K) (additional count : ℕ) where
  for_room : (fault : Fault) → IsForTheLast c fault → IsForRoom c additional count fault
  for_room fault so e = inl (so e)

  ends_room : (setting : Setting) → EndsSo (IsForTheLast c) (IsTheLast c) setting → EndsSo (IsForRoom c additional count) (IsTheLast c) setting
  ends_room setting ends before reason n last none = for_room Capacity (ends before reason n last none)

  copying_room : {T : Type 0} (m : Mem T) (copier : Copier) (stage : Copying) → EndsInCopying (IsForTheLast c) (IsTheLast c) m copier stage
      → EndsInCopying (IsForRoom c additional count) (IsTheLast c) m copier stage
  copying_room m copier (copies.Passes word code table) ends = (ends_room copier.setting ends.0, ends.1)
  copying_room m copier (copies.Grows word code making) ends = ends_room making.setting ends
  copying_room m copier copies.Replaces ends = (ends_room copier.setting ends.0, ends.1)
  copying_room m copier (copies.Remakes making) ends = ends_room making.setting ends
  copying_room m copier _ ends = tt

-- what further pairs need does not change
many_still : {K : Type 0} (c c2 : Chart K) (Many : Type 0) → (LastEnds c → LastEnds c2) → LastEnds c ⊎ Many → LastEnds c2 ⊎ Many
many_still c c2 Many last (inl ends) = inl (last ends)
many_still c c2 Many last (inr many) = inr many

keeps_room : {K : Type 0} (c c2 : Chart K) (additional count : ℕ) → Keeps (IsForTheLast c) (IsForTheLast c2) (IsTheLast c) (IsTheLast c2)
    → Keeps (IsForRoom c additional count) (IsForRoom c2 additional count) (IsTheLast c) (IsTheLast c2)
keeps_room c c2 additional count keeps = (
  (λ fault so e. many_still c c2 ((2 ^ 48 < needed additional 0) ⊎ (2 ^ 48 < needed additional count)) (λ last. keeps.0 Capacity (λ is. last) refl) (so e)),
  keeps.1,
)

module _ {K V : Type 0} (same : K → K → Bool) (hash : K → ℕ) (setting : Setting) (bits : is_incremental setting.mode ≡ true) (fits : setting.initial ≤ 2 ^ 48)
    (w w2 : World (Node K V)) (c c2 : Chart K) (blocks blocks2 : Blocks) (map : IsMapIn same hash setting w c blocks) (map2 : IsMapIn same hash setting w2 c2 blocks2)
    (lasts : Lasts same (spot_of hash) (is_incremental setting.mode) c c2) (blocks_same : SameBlocks c blocks blocks2) (p : Reserve) (facts : ReserveFacts same hash w 0 setting c blocks p)
    (may : May Can Took value_at w.memory (reserve_plan hash p)) (count : ℕ) (said : count_in (shards_sum w.memory setting.counter (suc setting.mask) % 2 ^ 64) ≡ count)
    (sums : SumsUp setting w.memory p.stands) (end : Reserve × Yielding (Node K V) Unit) (s : Steps Took value_at w.memory (reserve_plan hash p) w2.memory end) where
  abbrev FactsOf : Reserving → Type 0
  FactsOf stands = ReservingFacts same hash w 0 setting c blocks stands

  -- as the mode is
  facts_of : (copier : Copier) → CopiesWhole same hash w 0 setting c blocks copier → CopierFacts same hash w 0 setting c blocks copier
  facts_of copier copies =
      (subst (λ (b : Bool). cond b ((copier.whole ≡ true) × CopierFacts same hash w 0 setting c blocks copier × IsEnding same hash w 0 setting c blocks copier copier.stands)
      (CopierFactsBlocking same hash w 0 setting c blocks copier)) bits copies).1

  at_point : (stands : Reserving) → p.stands ≡ stands → (t : ℕ) → suc t ≡ c.past → PlanSpares (Word (blocks.table t) NEXT) (plan_at {V = V} hash p stands) → c2.past ≡ c.past
  at_point stands is t last spares =
      past_same same hash setting w w2 c c2 blocks blocks2 map map2 lasts blocks_same t last
      (step_spares (Word (blocks.table t) NEXT) tt w.memory 0 (its_link same hash setting w c blocks map t last) (reserve_plan hash p) w2.memory end
      (subst (λ (x : Reserving). PlanSpares (Word (blocks.table t) NEXT) (plan_at {V = V} hash p x)) (sym is) spares) may s)

  copier_spared : (copier : Copier) → p.stands ≡ at.Copies copier → (t : ℕ) → suc t ≡ c.past → PlanSpares (Word (blocks.table t) NEXT) (copier_plan {V = V} hash copier) → c2.past ≡ c.past
  copier_spared copier is t last spares = at_point (at.Copies copier) is t last (spares_as (Word (blocks.table t) NEXT) (copied p) (copier_plan hash copier) spares)

  few : (other : Setting) → other ≡ setting → other.initial ≤ 2 ^ 48
  few other is = subst (λ (x : Setting). x.initial ≤ 2 ^ 48) (sym is) fits

  bounds : (stands : Reserving) → p.stands ≡ stands → FactsOf stands → SumsUp setting w.memory stands → EndsInReserving (IsForRoom c2 p.additional count) (IsTheLast c2) w.memory w2.memory p stands
  bounds at.Reads is f had = λ none many e. inr (inl many)
  bounds (at.Makes making) is f had = ends_room c2 p.additional count making.setting (ends_so c2 making.setting (few making.setting f.setting_is))
  bounds (at.Sums table sum) is f had = λ after n counts many e.
      inr (inr (subst (λ (x : ℕ). 2 ^ 48 < needed p.additional x) (sum_ahead setting w.memory sum f.1.0 f.1.1 w2.memory (after, progress.Done n) counts ∙ had ∙ said) many))
  bounds (at.Follows table need) is f had = λ none late e.
      (let last = is_last same hash setting w c blocks map table f.0.0 f.0.1 none in
      let still = last_then same hash setting w c c2 blocks map lasts (at_point (at.Follows table need) is f.0.0 last tt) table f.0.0 f.0.1 last in
      inl (table.turn, still.0, inr late))
  bounds (at.Grows table making) is f had = ends_room c2 p.additional count making.setting (ends_so c2 making.setting (few making.setting f.3.setting_is))
  bounds (at.Copies copier) is f had =
      copying_room c2 p.additional count w.memory copier copier.stands (copier_bounds same hash setting w c c2 blocks map lasts fits copier (facts_of copier f) (copier_spared copier is))
  bounds at.Over is f had = tt
  bounds (at.Refused fault) is f had = tt

  stays : (stands : Reserving) → p.stands ≡ stands → FactsOf stands → BoundReserving stands → Keeps (IsForTheLast c) (IsForTheLast c2) (IsTheLast c) (IsTheLast c2)
  stays (at.Makes making) is f bound =
      keeps_where same hash (is_incremental setting.mode) c c2 lasts (λ t last. at_point (at.Makes making) is t last
      (spares_as (Word (blocks.table t) NEXT) (made p) (new_table_plan making) (making_spares K V (blocks.table t) making making.stands bound)))
  stays (at.Grows table making) is f bound =
      keeps_where same hash (is_incremental setting.mode) c c2 lasts (λ t last. at_point (at.Grows table making) is t last
      (spares_as (Word (blocks.table t) NEXT) (grown p table) (new_table_plan making) (making_spares K V (blocks.table t) making making.stands bound)))
  stays (at.Copies copier) is f bound = copier_keeps same hash setting w c c2 blocks map lasts fits copier (facts_of copier f) (copier_spared copier is) bound
  stays (at.Refused fault) is f bound = keeps_where same hash (is_incremental setting.mode) c c2 lasts (λ t last. at_point (at.Refused fault) is t last tt)
  stays _ is f bound = absurd bound

  -- The promise: so it is then.
  pub reserve_ends : HoldsInReserving (IsForRoom c p.additional count) (IsTheLast c) p.stands → ReservesAs (IsForRoom c2 p.additional count) (IsTheLast c2) end
  reserve_ends so =
      reserve_as (IsForRoom c2 p.additional count) (IsTheLast c2) (for_room c2 p.additional count Memory (memory_is_other c2)) K V hash p
      (reserving_on (IsForRoom c p.additional count) (IsForRoom c2 p.additional count) (IsTheLast c) (IsTheLast c2) p.stands
      (λ bound. keeps_room c c2 p.additional count (stays p.stands refl facts.point bound)) so)
      w.memory w2.memory end (bounds p.stands refl facts.point sums) s

-- and so it is after a step of a row of the collector
row_bounds : {K T : Type 0} (c : Chart K) (p : Reserve) (count : ℕ) (m m2 : Mem T) (stands : Reserving) → IsRowOfReserve stands
    → EndsInReserving (IsForRoom c p.additional count) (IsTheLast c) m m2 p stands
row_bounds c p count m m2 (at.Copies copier) row = copying_room c p.additional count m copier copier.stands (row_copier c m copier copier.stands row)
row_bounds c p count m m2 _ row = absurd row

module _ {K V : Type 0} (hash : K → ℕ) (c : Chart K) (p : Reserve) (is_row : IsRowOfReserve p.stands) (count : ℕ) where
  pub row_reserve_ends : (m m2 : Mem (Node K V)) (end : Reserve × Yielding (Node K V) Unit) → Steps Took value_at m (reserve_plan hash p) m2 end
      → HoldsInReserving (IsForRoom c p.additional count) (IsTheLast c) p.stands → ReservesAs (IsForRoom c p.additional count) (IsTheLast c) end
  row_reserve_ends m m2 end s so =
      reserve_as (IsForRoom c p.additional count) (IsTheLast c) (for_room c p.additional count Memory (memory_is_other c)) K V hash p so m m2 end (row_bounds c p count m m2 p.stands is_row) s
