-- A step of a reservation that is none of a row of the collector leaves what the shards say.
use Rattle.std.specs.Prelude.{◌≡◌, ℕ, suc, Bool, true, false, cond}
use Rattle.std.proofs.Common.{refl}
use Rattle.many_maps.specs.Given.SeizeWordsDeclared.at.At.TheVariants.{Root, Word}
use Rattle.many_maps.specs.Given.SeizeWordsMem.{Mem, Can, Took, value_at}
use Rattle.many_maps.specs.Given.SeizeWordsPlan.{May, Steps}
use Rattle.many_maps.specs.Given.SeizeWorld.{World}
use Rattle.many_maps.specs.Given.TablesChunks.{is_incremental}
use Rattle.many_maps.specs.Given.ResizeCopier.{copier_plan}
use Rattle.many_maps.specs.Given.ResizeNewTable.{new_table_plan}
use Rattle.many_maps.specs.Given.ReservesReserve.{made, summed, grown, copied, plan_at, reserve_plan}
use Rattle.many_maps.specs.Given.ResizeSum.{sum_plan}
use Rattle.many_maps.specs.Given.TablesDeclared.node.Node.{Node}
use Rattle.many_maps.specs.Given.ResizeDeclared.yielding.Yielding.{Yielding}
use Rattle.many_maps.specs.Given.TablesDeclared.setting.Setting.{Setting}
use Rattle.many_maps.specs.Given.TablesDeclared.table_words.TheConstants.{NEXT}
use Rattle.many_maps.specs.Given.ResizeDeclared.copier.Copier.{Copier}
use Rattle.many_maps.specs.Given.ReservesDeclared.reserve.Reserve.{Reserve}
use Rattle.many_maps.specs.Given.ReservesDeclared.reserve.Reserving.{Reserving}
use Rattle.many_maps.specs.Given.ReservesDeclared.reserve.Reserving.TheVariants as at
use Rattle.many_maps.specs.Given.RuleChart.{Chart}
use Rattle.many_maps.specs.Given.RuleWords.{Blocks}
use Rattle.many_maps.specs.Given.RuleInWorld.{IsMapIn}
use Rattle.many_maps.specs.Given.PointsFactsCopies.{CopierFacts}
use Rattle.many_maps.specs.Given.PointsFactsCopiesBlocking.{CopierFactsBlocking}
use Rattle.many_maps.specs.Given.PointsTold.{IsRowOfCopier}
use Rattle.owner_facts.specs.Alone.Counting.{shards_sum}
use Rattle.many_maps.specs.Given.LateFactsReserves.{IsEnding, ReservingFacts, ReserveFacts}
use Rattle.many_maps.specs.Given.LateToldReserves.{IsRowOfReserve}
use Rattle.owner_facts.proofs.Alone.Spared.Shards.{counter_apart, counter_no_next, shards_spared}
use Rattle.many_maps.proofs.Given.RuleSpared.{PlanSpares, spares_as}
use Rattle.owner_facts.proofs.Alone.Spared.Calls.{IsApart, new_table_spares, sum_spares, copier_spares}
use Rattle.owner_facts.proofs.Alone.Spared.Helpers.{helper_spares}

module _ {K V : Type 0} (same : K → K → Bool) (hash : K → ℕ) (w : World (Node K V)) (setting : Setting) (c : Chart K) (blocks : Blocks) (map : IsMapIn same hash setting w c blocks) where
  module _ (shard : ℕ) where
    pub apart : IsApart same hash w 0 setting c blocks (Word setting.counter shard)
    apart = counter_apart same hash w setting c blocks map 0 shard

    -- a copier of a whole table writes no shard
    pub whole_spares : (copier : Copier) → (IsRowOfCopier copier.stands → ⊥) → (b : Bool)
        → cond b ((copier.whole ≡ true) × CopierFacts same hash w 0 setting c blocks copier × IsEnding same hash w 0 setting c blocks copier copier.stands)
        (CopierFactsBlocking same hash w 0 setting c blocks copier)
        → PlanSpares {T = Node K V} (Word setting.counter shard) (copier_plan hash copier)
    whole_spares copier row true g =
        helper_spares same hash w 0 setting c blocks (Word setting.counter shard) map apart copier g.1.point row g.1.setting_is refl (counter_no_next same hash w setting c blocks map shard)
    whole_spares copier row false g =
        copier_spares same hash w 0 setting c blocks (Word setting.counter shard) map apart copier g.point row g.setting_is (λ e. refl)
        (λ t making table e link entered. counter_no_next same hash w setting c blocks map shard t entered.made entered.known)

  module _ (p : Reserve) (f : ReserveFacts same hash w 0 setting c blocks p) (none : IsRowOfReserve p.stands → ⊥) where
    module _ (shard : ℕ) where
      reserve_spares : (stands : Reserving) → ReservingFacts same hash w 0 setting c blocks stands → (IsRowOfReserve stands → ⊥) → PlanSpares (Word setting.counter shard) (plan_at {K = K} {V = V} hash p stands)
      reserve_spares at.Reads g row = tt
      reserve_spares (at.Makes making) g row =
          spares_as (Word setting.counter shard) (made p) (new_table_plan making)
          (new_table_spares same hash w 0 setting c blocks (Word setting.counter shard) map (apart shard) (Root setting.root) 0 making g (λ table e. refl))
      reserve_spares (at.Sums table sum) g row =
          spares_as (Word setting.counter shard) (summed p table) (sum_plan sum) (sum_spares same hash w 0 setting c blocks (Word setting.counter shard) map (apart shard) sum)
      reserve_spares (at.Follows table need) g row = tt
      reserve_spares (at.Grows table making) g row =
          spares_as (Word setting.counter shard) (grown p table) (new_table_plan making)
          (new_table_spares same hash w 0 setting c blocks (Word setting.counter shard) map (apart shard) (Word (blocks.table g.0) NEXT) (suc g.0) making g.3
          (λ table e. counter_no_next same hash w setting c blocks map shard g.0 g.1.made g.1.known))
      reserve_spares (at.Copies copier) g row = spares_as (Word setting.counter shard) (copied p) (copier_plan hash copier) (whole_spares shard copier row (is_incremental setting.mode) g)
      reserve_spares at.Over g row = tt
      reserve_spares (at.Refused fault) g row = tt

    pub reserve_counts_none : May Can Took value_at w.memory (reserve_plan hash p) → (m2 : Mem (Node K V)) (end : Reserve × Yielding (Node K V) Unit)
        → Steps Took value_at w.memory (reserve_plan hash p) m2 end → shards_sum m2 setting.counter (suc setting.mask) ≡ shards_sum w.memory setting.counter (suc setting.mask)
    reserve_counts_none may m2 end steps = shards_spared same hash w setting c blocks map (reserve_plan hash p) (λ shard. reserve_spares shard p.stands f.point none) may m2 end steps
