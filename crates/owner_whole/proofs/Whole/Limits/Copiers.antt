-- A step of a copier that is alone, in incremental mode: where it has to tell that a table would be too long, or is to put one behind the last one, that one is
-- the last still.
use Rattle.std.specs.Prelude.{◌≡◌, ℕ, suc, ◌^◌, ◌≤◌, Bool}
use Rattle.std.proofs.Common.{ap, sym, subst, ◌∙◌, arith}
use Rattle.seize_words.specs.OneMemory.Mem.{Mem}
use Rattle.seize_words.specs.declared.at.At.TheVariants.{Word}
use Rattle.seize_words.specs.declared.fault.Fault.TheVariants.{Memory}
use Rattle.seize.specs.World.{World}
use Rattle.map_tables.specs.Chunks.{is_incremental}
use Rattle.map_tables.specs.Lengths.{CannotBeFollowed}
use Rattle.map_tables.specs.declared.node.Node.{Node}
use Rattle.map_tables.specs.declared.setting.Setting.{Setting}
use Rattle.map_tables.specs.declared.table.Table.{Table}
use Rattle.map_tables.specs.declared.table_words.TheConstants.{NEXT}
use Rattle.map_measures.specs.Given.ResizeCopier.{copier_plan}
use Rattle.map_measures.specs.Given.ResizeDeclared.copier.Copier.{Copier}
use Rattle.map_measures.specs.Given.ResizeDeclared.copier.Copying.{Copying}
use Rattle.map_measures.specs.Given.ResizeDeclared.copier.Copying.TheVariants as copies
use Rattle.map_measures.specs.Given.RuleChart.{Chart}
use Rattle.map_measures.specs.Given.RuleWords.{Blocks}
use Rattle.map_measures.specs.Given.RuleLasts.{Lasts}
use Rattle.map_measures.specs.Given.RuleMaps.{spot_of, IsTable}
use Rattle.map_measures.specs.Given.RuleInWorld.{IsMapIn}
use Rattle.owner_facts.specs.Given.PointsFactsCopies.{CopyingFacts, CopierFacts}
use Rattle.owner_facts.specs.Given.PointsTold.{IsRowOfCopier}
use Rattle.map_measures.specs.Given.LateEnds.{EndsSo, EndsInCopying}
use Rattle.map_tables.proofs.Ends.{only_the_last_ends}
use Rattle.map_measures.proofs.Given.RuleSpared.{PlanSpares}
use Rattle.map_measures.proofs.Given.RuleWords.TablesSeen.{len_is, turn_is}
use Rattle.map_measures.proofs.Given.LateKindsKept.Rooms.Bound.{BoundCopying, Keeps}
use Rattle.owner_whole.specs.Whole.Limits.{LastEnds, IsForTheLast, IsTheLast}
use Rattle.owner_whole.proofs.Whole.Limits.Past.{is_last}
use Rattle.owner_whole.proofs.Whole.Limits.Spares.{HasPlace, ReadsLast, copier_spares}

-- the fault of a table that is refused for memory is not its length
pub memory_is_other : {K : Type 0} (c : Chart K) → IsForTheLast c Memory
memory_is_other c e = absurd (cc e)

module _ {K : Type 0} (c : Chart K) where
  -- where no table can follow the last one, that one cannot be followed
  pub ends_so : (setting : Setting) → setting.initial ≤ 2 ^ 48 → EndsSo (IsForTheLast c) (IsTheLast c) setting
  ends_so setting fits before reason count last none e =
      (before.turn, last.1, subst (λ (len : ℕ). CannotBeFollowed len before.turn) last.2 (only_the_last_ends reason before.len before.turn count setting.initial last.0 fits none))

-- from one chart to a later one with as many tables
module _ {K : Type 0} (same : K → K → Bool) (hash : K → ℕ) (incremental : Bool) (c c2 : Chart K) (lasts : Lasts same (spot_of hash) incremental c c2) (past : c2.past ≡ c.past) where
  pub last_on : LastEnds c → LastEnds c2
  last_on (t, last, ends) = (t, last ∙ sym past, subst (λ (len : ℕ). CannotBeFollowed len t) (sym (lasts.lens t (omega (arith, last))).0) ends)

  pub keeps_on : Keeps (IsForTheLast c) (IsForTheLast c2) (IsTheLast c) (IsTheLast c2)
  keeps_on = (
    (λ fault so e. last_on (so e)),
    (λ before reason so. (so.0, so.1 ∙ sym past, so.2 ∙ sym (lasts.lens before.turn (let is = so.1 in omega (arith, is))).0)),
  )

-- what is so of the last table, where there is one, is so then
pub keeps_where : {K : Type 0} (same : K → K → Bool) (hash : K → ℕ) (incremental : Bool) (c c2 : Chart K) → Lasts same (spot_of hash) incremental c c2 → ((t : ℕ) → suc t ≡ c.past → c2.past ≡ c.past)
    → Keeps (IsForTheLast c) (IsForTheLast c2) (IsTheLast c) (IsTheLast c2)
keeps_where same hash incremental c c2 lasts past = (
  (λ fault is e. (let d = is e in (keeps_on same hash incremental c c2 lasts (past d.0 d.1)).0 fault is e)),
  (λ before reason is. (keeps_on same hash incremental c c2 lasts (past before.turn is.1)).1 before reason is),
)

module _ {K V : Type 0} (same : K → K → Bool) (hash : K → ℕ) (setting : Setting) (w : World (Node K V)) (c c2 : Chart K) (blocks : Blocks) (map : IsMapIn same hash setting w c blocks)
    (lasts : Lasts same (spot_of hash) (is_incremental setting.mode) c c2) where
  -- the last table is that then
  pub last_then : c2.past ≡ c.past → (table : Table) (t : ℕ) → IsTable c blocks table t → suc t ≡ c.past → (suc table.turn ≡ c2.past) × (table.len ≡ c2.len table.turn)
  last_then past table t entered last =
      let is_turn = turn_is hash w.memory c blocks setting.root map.map.shows table t entered in
      (ap suc is_turn ∙ last ∙ sym past, len_is hash w.memory c blocks setting.root map.map.shows table t entered ∙ sym (lasts.lens t entered.made).0 ∙ ap c2.len (sym is_turn))

  -- a copier, where a step that leaves the link of the last table leaves the map with as many tables
  module _ (fits : setting.initial ≤ 2 ^ 48) (copier : Copier) (facts : CopierFacts same hash w 0 setting c blocks copier)
      (spared : (t : ℕ) → suc t ≡ c.past → PlanSpares (Word (blocks.table t) NEXT) (copier_plan {V = V} hash copier) → c2.past ≡ c.past) where
    abbrev FactsOf : Copying → Type 0
    FactsOf stage = CopyingFacts same hash w 0 setting c blocks copier stage

    has_place : (stage : Copying) → FactsOf stage → HasPlace copier stage
    has_place (copies.Unmarks word fault) f =
        let inside = f.0.2.in_range.0 in let most = (map.map.shows.sized c.first f.0.2.copies.0.made).most in omega (arith, inside, most)
    has_place _ f = tt

    pub copier_same : ReadsLast copier.stands → (t : ℕ) → suc t ≡ c.past → c2.past ≡ c.past
    copier_same reads t last = spared t last (copier_spares K V (blocks.table t) hash copier copier.stands (has_place copier.stands facts.point) reads)

    bounds : (stage : Copying) → (ReadsLast stage → ReadsLast copier.stands) → FactsOf stage → EndsInCopying (IsForTheLast c2) (IsTheLast c2) w.memory copier stage
    bounds (copies.Passes word code table) here f = (
      ends_so c2 copier.setting (subst (λ (x : Setting). x.initial ≤ 2 ^ 48) (sym facts.setting_is) fits),
      λ none reason by_table.
          (let last = is_last same hash setting w c blocks map table f.2 f.6 none in let still = last_then (copier_same (here tt) f.2 last) table f.2 f.6 last in (by_table, still.0, still.1)),
    )
    bounds (copies.Grows word code making) here f = ends_so c2 making.setting (subst (λ (x : Setting). x.initial ≤ 2 ^ 48) (sym f.9.setting_is) fits)
    bounds copies.Replaces here f = absurd f
    bounds (copies.Remakes making) here f = absurd f
    bounds _ here f = tt

    pub copier_bounds : EndsInCopying (IsForTheLast c2) (IsTheLast c2) w.memory copier copier.stands
    copier_bounds = bounds copier.stands (λ r. r) facts.point

    reads_of : (stage : Copying) → BoundCopying stage → ReadsLast stage
    reads_of (copies.Passes word code table) b = tt
    reads_of stage b = b

    pub copier_keeps : BoundCopying copier.stands → Keeps (IsForTheLast c) (IsForTheLast c2) (IsTheLast c) (IsTheLast c2)
    copier_keeps bound = keeps_where same hash (is_incremental setting.mode) c c2 lasts (copier_same (reads_of copier.stands bound))

-- a copier within whose row of the collector a step is
pub row_copier : {K : Type 0} (c : Chart K) {T : Type 0} (m : Mem T) (copier : Copier) (stage : Copying) → IsRowOfCopier stage → EndsInCopying (IsForTheLast c) (IsTheLast c) m copier stage
row_copier c m copier (copies.Retires settle rest) row = tt
row_copier c m copier _ row = absurd row
