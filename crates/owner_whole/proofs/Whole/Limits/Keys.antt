-- A step of a call on one key that is alone, in incremental mode: where it has to tell that a table would be too long, or is to put one behind the last one, that
-- one is the last still; and the length is refused only where that one cannot be followed.
use Rattle.std.specs.Prelude.{◌≡◌, ℕ, suc, ◌^◌, ◌≤◌, Bool, true}
use Rattle.std.proofs.Common.{refl, ap, sym, subst, ◌∙◌}
use Rattle.seize_words.specs.OneMemory.Mem.{Mem, Can, Took, value_at}
use Rattle.seize_words.specs.OneMemory.Plan.{May, Steps}
use Rattle.seize_words.specs.OneMemory.Word.{block_in}
use Rattle.seize_words.specs.declared.at.At.TheVariants.{Word}
use Rattle.seize.specs.World.{World}
use Rattle.map_tables.specs.Chunks.{is_incremental}
use Rattle.map_tables.specs.declared.node.Node.{Node}
use Rattle.map_tables.specs.declared.setting.Setting.{Setting}
use Rattle.map_tables.specs.declared.table.Table.{Table}
use Rattle.map_tables.specs.declared.table_words.TheConstants.{NEXT}
use Rattle.map_measures.specs.Given.ResizeCopier.{copier_plan}
use Rattle.map_measures.specs.Given.ResizeNewTable.{new_table_plan}
use Rattle.map_measures.specs.Given.ResizeDeclared.copier.Copier.{Copier}
use Rattle.papaya_raw.specs.Call.{call_plan, first_made, helped, next_made, plan_at}
use Rattle.papaya_raw.specs.declared.machines.answer.Called.{Called}
use Rattle.papaya_raw.specs.declared.machines.answer.End.TheVariants as ends
use Rattle.papaya_raw.specs.declared.machines.asking.Asking.TheVariants as asking
use Rattle.papaya_raw.specs.declared.machines.asking.Gap.TheVariants as gaps
use Rattle.papaya_raw.specs.declared.machines.call.KeyCall.{KeyCall}
use Rattle.papaya_raw.specs.declared.machines.call.Calling.{Calling}
use Rattle.papaya_raw.specs.declared.machines.call.Calling.TheVariants as at
use Rattle.map_measures.specs.Given.RuleChart.{Chart}
use Rattle.map_measures.specs.Given.RuleWords.{Blocks}
use Rattle.map_measures.specs.Given.RuleLasts.{Lasts}
use Rattle.map_measures.specs.Given.RuleMaps.{spot_of}
use Rattle.map_measures.specs.Given.RuleInWorld.{IsMapIn, SameBlocks}
use Rattle.owner_facts.specs.Given.PointsFactsCalls.{Change, IsOwnPair, CallingFacts, CallFacts}
use Rattle.owner_facts.specs.Given.PointsTold.{IsRowOfCall}
use Rattle.map_measures.specs.Given.LateEnds.{EndsInCalling}
use Rattle.map_measures.specs.Given.LateFaults.{CallRefusesSo, HoldsInCalling}
use Rattle.map_measures.proofs.Given.RuleSpared.{PlanSpares, spares_as, step_spares}
use Rattle.owner_facts.proofs.Given.PointsCalls.Probes.{own_block}
use Rattle.map_measures.proofs.Given.LateKindsKept.Rooms.Bound.{BoundCalling, Keeps, calling_on}
use Rattle.map_measures.proofs.Given.LateKindsKept.Rooms.Calling.{key_as}
use Rattle.owner_whole.specs.Whole.Limits.{IsForTheLast, IsTheLast}
use Rattle.owner_whole.proofs.Whole.Limits.Copiers.{copier_bounds, copier_keeps, ends_so, keeps_where, last_then, memory_is_other, row_copier}
use Rattle.owner_whole.proofs.Whole.Limits.Past.{is_last, its_link, known, made, past_same}
use Rattle.owner_whole.proofs.Whole.Limits.Spares.{making_spares}

module _ {K V Q : Type 0} (same : K → K → Bool) (hash : K → ℕ) (asks : Q → K → Bool) (setting : Setting) (bits : is_incremental setting.mode ≡ true) (fits : setting.initial ≤ 2 ^ 48)
    (w w2 : World (Node K V)) (c c2 : Chart K) (blocks blocks2 : Blocks) (map : IsMapIn same hash setting w c blocks) (map2 : IsMapIn same hash setting w2 c2 blocks2)
    (lasts : Lasts same (spot_of hash) (is_incremental setting.mode) c c2) (blocks_same : SameBlocks c blocks blocks2) (keys : K → Bool) (change : Change) (p : KeyCall K V Q)
    (facts : CallFacts same hash asks w 0 setting c blocks keys change p) (may : May Can Took value_at w.memory (call_plan asks same hash p)) (end : KeyCall K V Q × Called (Node K V))
    (s : Steps Took value_at w.memory (call_plan asks same hash p) w2.memory end) where
  abbrev Facts : Calling → Type 0
  Facts stands = CallingFacts same hash asks w 0 setting c blocks keys change p stands

  -- beside a copying, it reads whether a table is behind another one, or a fault is known, or a table behind which another one is to be put
  abbrev Reads : Calling → Type 0
  Reads at.Nexts = Unit {0}
  Reads (at.Helps copier goal) = ⊥
  Reads stands = BoundCalling stands

  -- its block is none of a table
  apart : (t : ℕ) → suc t ≡ c.past → IsOwnPair same hash asks w 0 setting c blocks keys change p.own p.hash → blocks.table t ≡ block_in p.own → ⊥
  apart t last own e =
      let table = (map.map.shows.tables t (made same hash setting w c blocks map t last) (known same hash setting w c blocks map t last)).value in
      let pair = own.there in
      let at_own : value_at w.memory (blocks.table t) ≡ value_at w.memory own.block = ap (value_at w.memory) (e ∙ own_block same hash asks 0 setting keys w c blocks change p.own p.hash facts.code own) in
      cc (table, pair, at_own)

  call_spares : (t : ℕ) → suc t ≡ c.past → (stands : Calling) → Reads stands → Facts stands → PlanSpares (Word (blocks.table t) NEXT) (plan_at asks same hash p stands)
  call_spares t last at.Nexts reads f = tt
  call_spares t last (at.Firsts making) reads f = spares_as (Word (blocks.table t) NEXT) (first_made p) (new_table_plan making) (making_spares K V (blocks.table t) making making.stands reads)
  call_spares t last (at.Allocs making) reads f = spares_as (Word (blocks.table t) NEXT) (next_made p) (new_table_plan making) (making_spares K V (blocks.table t) making making.stands reads)
  call_spares t last (at.Helps copier goal) reads f = absurd reads
  call_spares t last (at.Copies copier) reads f = absurd (let blocking = f.1 in cc (blocking, bits))
  call_spares t last (at.Asks (asking.Absent gaps.Last)) reads f = tt
  call_spares t last (at.Drops (ends.Refused fault)) reads f = apart t last f.1
  call_spares t last (at.Over (ends.Refused fault)) reads f = tt
  call_spares t last _ reads f = absurd reads

  -- so the map has as many tables then
  as_many : (t : ℕ) → suc t ≡ c.past → PlanSpares (Word (blocks.table t) NEXT) (call_plan asks same hash p) → c2.past ≡ c.past
  as_many t last spares =
      past_same same hash setting w w2 c c2 blocks blocks2 map map2 lasts blocks_same t last
      (step_spares (Word (blocks.table t) NEXT) tt w.memory 0 (its_link same hash setting w c blocks map t last) (call_plan asks same hash p) w2.memory end spares may s)

  same_then : Reads p.stands → (t : ℕ) → suc t ≡ c.past → c2.past ≡ c.past
  same_then reads t last = as_many t last (call_spares t last p.stands reads facts.point)

  -- where it helps in a copying
  module _ (copier : Copier) (goal : Table) (is : p.stands ≡ at.Helps copier goal) where
    copier_spared : (t : ℕ) → suc t ≡ c.past → PlanSpares (Word (blocks.table t) NEXT) (copier_plan {V = V} hash copier) → c2.past ≡ c.past
    copier_spared t last spares =
        as_many t last (subst (λ (stands : Calling). PlanSpares (Word (blocks.table t) NEXT) (plan_at asks same hash p stands)) (sym is)
        (spares_as (Word (blocks.table t) NEXT) (helped p goal) (copier_plan hash copier) spares))

  bounds : (stands : Calling) → p.stands ≡ stands → Facts stands → EndsInCalling (IsForTheLast c2) (IsTheLast c2) w.memory p.trial.table stands
  bounds at.Nexts is f = λ none reason by_table.
      (let last = is_last same hash setting w c blocks map p.trial.table f.1 f.2.0 none in
      let still = last_then same hash setting w c c2 blocks map lasts (same_then (subst Reads (sym is) tt) f.1 last) p.trial.table f.1 f.2.0 last in (by_table, still.0, still.1))
  bounds (at.Firsts making) is f = ends_so c2 making.setting (subst (λ (x : Setting). x.initial ≤ 2 ^ 48) (sym f.2.setting_is) fits)
  bounds (at.Allocs making) is f = ends_so c2 making.setting (subst (λ (x : Setting). x.initial ≤ 2 ^ 48) (sym f.3.setting_is) fits)
  bounds (at.Helps copier goal) is f = copier_bounds same hash setting w c c2 blocks map lasts fits copier f.6 (copier_spared copier goal is)
  bounds (at.Copies copier) is f = absurd (let blocking = f.1 in cc (blocking, bits))
  bounds _ is f = tt

  -- what is so of the last table is so then
  stays : (stands : Calling) → p.stands ≡ stands → Facts stands → BoundCalling stands → Keeps (IsForTheLast c) (IsForTheLast c2) (IsTheLast c) (IsTheLast c2)
  stays (at.Helps copier goal) is f bound = copier_keeps same hash setting w c c2 blocks map lasts fits copier f.6 (copier_spared copier goal is) bound
  stays at.Nexts is f bound = absurd bound
  stays stands is f bound = keeps_where same hash (is_incremental setting.mode) c c2 lasts (same_then (subst Reads (sym is) bound))

  -- The promise: so it is then.
  pub call_ends : HoldsInCalling (IsForTheLast c) (IsTheLast c) p.trial.table p.stands
      → HoldsInCalling (IsForTheLast c2) (IsTheLast c2) end.0.trial.table end.0.stands × CallRefusesSo (IsForTheLast c2) end.1
  call_ends so =
      key_as (IsForTheLast c2) (IsTheLast c2) (memory_is_other c2) asks same hash p
      (calling_on (IsForTheLast c) (IsForTheLast c2) (IsTheLast c) (IsTheLast c2) p.trial.table p.stands (stays p.stands refl facts.point) so)
      w.memory w2.memory end (bounds p.stands refl facts.point) s

-- and so it is after a step of a row of the collector
module _ {K V Q : Type 0} (same : K → K → Bool) (hash : K → ℕ) (asks : Q → K → Bool) (c : Chart K) (p : KeyCall K V Q) (is_row : IsRowOfCall p.stands) where
  row_bounds : {T : Type 0} (m : Mem T) (stands : Calling) → IsRowOfCall stands → EndsInCalling (IsForTheLast c) (IsTheLast c) m p.trial.table stands
  row_bounds m (at.Disposes dispose answer) row = tt
  row_bounds m (at.Helps copier goal) row = row_copier c m copier copier.stands row
  row_bounds m (at.Copies copier) row = row_copier c m copier copier.stands row
  row_bounds m _ row = absurd row

  pub row_call_ends : (m m2 : Mem (Node K V)) (end : KeyCall K V Q × Called (Node K V)) → Steps Took value_at m (call_plan asks same hash p) m2 end
      → HoldsInCalling (IsForTheLast c) (IsTheLast c) p.trial.table p.stands
      → HoldsInCalling (IsForTheLast c) (IsTheLast c) end.0.trial.table end.0.stands × CallRefusesSo (IsForTheLast c) end.1
  row_call_ends m m2 end s so = key_as (IsForTheLast c) (IsTheLast c) (memory_is_other c) asks same hash p so m m2 end (row_bounds m p.stands is_row) s
