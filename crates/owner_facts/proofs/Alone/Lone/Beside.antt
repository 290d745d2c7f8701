-- What a call does beside its copying leaves all to a caller that is alone: what is known of the tables, and that the others are idle.
use Rattle.std.proofs.Common.{◌≡◌, ℕ, zero, suc, ◌<◌, Bool, true, false, inl, inr, refl, sym, subst, arith}
use Rattle.many_maps.specs.Given.TablesChunks.{is_incremental}
use Rattle.many_maps.specs.Given.ResizeCopierStates.{helping, copying_all}
use Rattle.many_maps.specs.Given.TablesDeclared.resize_mode.ResizeMode.{ResizeMode}
use Rattle.many_maps.specs.Given.TablesDeclared.setting.Setting.{Setting}
use Rattle.many_maps.specs.Given.TablesDeclared.table.Table.{Table}
use Rattle.many_maps.specs.Given.ResizeDeclared.copier.Copier.{Copier}
use Rattle.many_maps.specs.Given.RawDeclared.machines.call.Calling.{Calling}
use Rattle.many_maps.specs.Given.RawDeclared.machines.call.Calling.TheVariants as at
use Rattle.many_maps.specs.Given.RuleChart.{Chart}
use Rattle.many_maps.specs.Given.RuleRule.{Rule, no_table}
use Rattle.many_maps.specs.Given.RuleMoves.{Move, Links, Stores, Replaces, Removes, Marks, MarksBlocking, Skips, Unmarks, Puts, Covers, PutsLate, Claims, Reclaims, Counts, GivesUp, Aborts, Promotes, Announces, after}
use Rattle.many_maps.specs.Given.RuleLasts.{IsBy}
use Rattle.many_maps.specs.Given.RuleMaps.{spot_of}
use Rattle.many_maps.specs.Given.PointsFactsAloneBlocking.{AllAborted, AllUncounted, AloneBlocking}
use Rattle.many_maps.specs.Given.PointsFactsCalls.{IsCopying}
use Rattle.many_maps.specs.Given.PointsMeasures.{OthersIdle}
use Rattle.many_maps.specs.Given.PointsTold.{IsBesideCopying, MovedBesideCopying, OnlyLinks}
use Rattle.many_maps.proofs.Given.PointsSteps.AloneCharts.{aborted_begins, uncounted_begins, idle_after, links_alone}
use Rattle.many_maps.proofs.Given.PointsCalls.Making.{links_beside}
use Rattle.many_maps.proofs.Given.RuleMoves.RuleBegins.{rule_begins}
use Rattle.owner_facts.specs.Alone.FactsAlone.{AloneAt}
use Rattle.owner_facts.specs.Alone.FactsAloneCalls.{TablesAlone, AloneAtPoint, AloneBetweenCalls}
use Rattle.owner_facts.proofs.Alone.Lone.Moves.{alone_before, idle_kept, plain_kept, first_kept}
use Rattle.owner_facts.proofs.Alone.Lone.Awaits.{IsFresh}

module _ {K : Type 0} (same : K → K → Bool) (hash : K → ℕ) (caller : ℕ) (c : Chart K) where
  -- such a move is none for the places that a caller copies
  beside_none : (move : Move K) → IsBesideCopying move → (i : ℕ) → IsBy i move → ⊥
  beside_none (Links len limit) beside i by = by
  beside_none (Stores t k j) beside i by = by
  beside_none (Replaces t place k) beside i by = by
  beside_none (Removes t place) beside i by = by
  beside_none (Marks o place) beside i by = beside
  beside_none (MarksBlocking place) beside i by = beside
  beside_none (Skips o t place) beside i by = beside
  beside_none (Unmarks o place) beside i by = beside
  beside_none (Puts o place t k j) beside i by = beside
  beside_none (Covers o place) beside i by = beside
  beside_none (PutsLate t place n) beside i by = beside
  beside_none (Claims o t chunk) beside i by = beside
  beside_none (Reclaims t claim) beside i by = beside
  beside_none (Counts o t number) beside i by = beside
  beside_none (GivesUp o t) beside i by = beside
  beside_none (Aborts t) beside i by = beside
  beside_none (Promotes t) beside i by = beside
  beside_none (Announces t) beside i by = beside

  idle_moved : (b : Bool) (move : Move K) → IsBesideCopying move → OthersIdle caller c → OthersIdle caller (after (spot_of hash) b move c)
  idle_moved true move beside = idle_kept same hash caller c move (λ i other. beside_none move beside i)
  idle_moved false move beside = idle_after same (spot_of hash) caller move c (λ i other. beside_none move beside i)

  tables_moved : (b : Bool) (move : Move K) → IsBesideCopying move → Rule same (spot_of hash) b c → Rule same (spot_of hash) b (after (spot_of hash) b move c)
      → TablesAlone b c → TablesAlone b (after (spot_of hash) b move c)
  tables_moved true (Links len limit) beside rule rule2 tables = by c.past refl
    where
      by : (past : ℕ) → c.past ≡ past → TablesAlone true (after (spot_of hash) true (Links len limit) c)
      by zero none = first_kept same hash caller c rule len limit (some none) none
        where
          some : c.past ≡ 0 → 0 < len
          some none = let there = (rule2.common.lens c.past (omega arith)).0 in grind (arith, there)
      by (suc past) made = plain_kept same hash caller c (Links len limit) tt (rule.common.rooted (omega (arith, made))) tables
  tables_moved false (Links len limit) beside rule rule2 tables = links_alone same (spot_of hash) c rule tables.0 tables.1 len limit
  tables_moved true (Stores t k j) beside rule rule2 tables = tables
  tables_moved false (Stores t k j) beside rule rule2 tables = tables
  tables_moved true (Replaces t place k) beside rule rule2 tables = tables
  tables_moved false (Replaces t place k) beside rule rule2 tables = tables
  tables_moved true (Removes t place) beside rule rule2 tables = tables
  tables_moved false (Removes t place) beside rule rule2 tables = tables
  tables_moved b (Marks o place) beside rule rule2 tables = absurd beside
  tables_moved b (MarksBlocking place) beside rule rule2 tables = absurd beside
  tables_moved b (Skips o t place) beside rule rule2 tables = absurd beside
  tables_moved b (Unmarks o place) beside rule rule2 tables = absurd beside
  tables_moved b (Puts o place t k j) beside rule rule2 tables = absurd beside
  tables_moved b (Covers o place) beside rule rule2 tables = absurd beside
  tables_moved b (PutsLate t place n) beside rule rule2 tables = absurd beside
  tables_moved b (Claims o t chunk) beside rule rule2 tables = absurd beside
  tables_moved b (Reclaims t claim) beside rule rule2 tables = absurd beside
  tables_moved b (Counts o t number) beside rule rule2 tables = absurd beside
  tables_moved b (GivesUp o t) beside rule rule2 tables = absurd beside
  tables_moved b (Aborts t) beside rule rule2 tables = absurd beside
  tables_moved b (Promotes t) beside rule rule2 tables = absurd beside
  tables_moved b (Announces t) beside rule rule2 tables = absurd beside

  module _ (mode : ResizeMode) (c2 : Chart K) where
    pub beside_idle : MovedBesideCopying hash mode c c2 → OthersIdle caller c → OthersIdle caller c2
    beside_idle (inl e) idle = subst (OthersIdle caller) (sym e) idle
    beside_idle (inr (move, beside, e)) idle = subst (OthersIdle caller) (sym e) (idle_moved (is_incremental mode) move beside idle)

    pub beside_tables : Rule same (spot_of hash) (is_incremental mode) c → Rule same (spot_of hash) (is_incremental mode) c2 → MovedBesideCopying hash mode c c2
        → TablesAlone (is_incremental mode) c → TablesAlone (is_incremental mode) c2
    beside_tables rule rule2 (inl e) tables = subst (TablesAlone (is_incremental mode)) (sym e) tables
    beside_tables rule rule2 (inr (move, beside, e)) tables =
        subst (TablesAlone (is_incremental mode)) (sym e)
        (tables_moved (is_incremental mode) move beside rule (subst (Rule same (spot_of hash) (is_incremental mode)) e rule2) tables)

-- before a map has a table
pub rests_first : (K : Type 0) (b : Bool) (caller : ℕ) → AloneBetweenCalls {K = K} b caller no_table
rests_first K true caller = record { idle = λ i t j other. refl; tables = alone_before K }
rests_first K false caller = record { idle = λ i t j other. refl; tables = (aborted_begins K, uncounted_begins K) }

-- and once it has its first
pub rests_linked : {K : Type 0} (same : K → K → Bool) (hash : K → ℕ) (caller : ℕ) (mode : ResizeMode) (c2 : Chart K) → Rule same (spot_of hash) (is_incremental mode) c2
    → OnlyLinks hash mode no_table c2 → AloneBetweenCalls (is_incremental mode) caller c2
rests_linked {K} same hash caller mode c2 rule2 links =
    let first = rests_first K (is_incremental mode) caller in
    let beside = links_beside hash mode no_table c2 links in record {
      idle = beside_idle same hash caller no_table mode c2 beside first.idle;
      tables = beside_tables same hash caller no_table mode c2 (rule_begins same (spot_of hash) (is_incremental mode)) rule2 beside first.tables;
    }

-- where a call copies nothing
module _ {K : Type 0} (b : Bool) (c : Chart K) where
  beside_is : (stands : Calling) → (IsCopying stands → ⊥) → AloneAtPoint b c stands ≡ TablesAlone b c
  beside_is at.Makes other = refl
  beside_is (at.Looks lookup) other = refl
  beside_is at.Roots other = refl
  beside_is at.Probes other = refl
  beside_is (at.Tries word new) other = refl
  beside_is (at.Counts removed) other = refl
  beside_is at.Nexts other = refl
  beside_is (at.Firsts making) other = refl
  beside_is (at.Allocs making) other = refl
  beside_is (at.Helps copier goal) other = absurd (other tt)
  beside_is (at.Copies copier) other = absurd (other tt)
  beside_is (at.Disposes dispose answer) other = refl
  beside_is (at.Asks asking) other = refl
  beside_is (at.Drops end) other = refl
  beside_is (at.Over end) other = refl

  pub tables_of : (stands : Calling) → (IsCopying stands → ⊥) → AloneAtPoint b c stands → TablesAlone b c
  tables_of stands other alone = subst (λ (X : Type 0). X) (beside_is stands other) alone

-- a copier that is alone begins
pub alone_begins : {K : Type 0} (c : Chart K) (setting : Setting) (source target : Table) → is_incremental setting.mode ≡ false → AllAborted c → AllUncounted c
    → AloneBlocking c (copying_all setting source target) (copying_all setting source target).stands
alone_begins c setting source target blocking aborted uncounted = rw blocking (aborted, uncounted, λ spent. absurd (cc spent))

-- a call that begins to copy
module _ {K : Type 0} (c : Chart K) (setting : Setting) (tables : TablesAlone (is_incremental setting.mode) c) where
  begins_helping : (copier : Copier) → is_incremental setting.mode ≡ true → copier ≡ helping setting → AloneAt c copier copier.stands
  begins_helping copier bits is = subst (λ (x : Copier). AloneAt c x x.stands) (sym is) (subst (λ (b : Bool). TablesAlone b c) bits tables)

  begins_copying : (copier : Copier) → is_incremental setting.mode ≡ false → (source target : Table) → copier ≡ copying_all setting source target → AloneBlocking c copier copier.stands
  begins_copying copier blocking source target is =
      let known = subst (λ (b : Bool). TablesAlone b c) blocking tables in
      subst (λ (x : Copier). AloneBlocking c x x.stands) (sym is) (alone_begins c setting source target blocking known.0 known.1)

  pub fresh_alone : (stands : Calling) → IsFresh setting stands → AloneAtPoint (is_incremental setting.mode) c stands
  fresh_alone (at.Helps copier goal) fresh = begins_helping copier fresh.0 fresh.1
  fresh_alone (at.Copies copier) fresh = begins_copying copier fresh.0 fresh.1 fresh.2 fresh.3
  fresh_alone at.Makes fresh = tables
  fresh_alone (at.Looks lookup) fresh = tables
  fresh_alone at.Roots fresh = tables
  fresh_alone at.Probes fresh = tables
  fresh_alone (at.Tries word new) fresh = tables
  fresh_alone (at.Counts removed) fresh = tables
  fresh_alone at.Nexts fresh = tables
  fresh_alone (at.Firsts making) fresh = tables
  fresh_alone (at.Allocs making) fresh = tables
  fresh_alone (at.Disposes dispose answer) fresh = tables
  fresh_alone (at.Asks asking) fresh = tables
  fresh_alone (at.Drops end) fresh = tables
  fresh_alone (at.Over end) fresh = tables
