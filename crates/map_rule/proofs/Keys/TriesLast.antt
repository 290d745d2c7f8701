-- What a machine knows of its tries lasts, whatever moves are made.
use Rattle.std.proofs.Common.{◌≡◌, ℕ, ◌*◌, ◌≤◌, Bool, true, ap, sym, ◌∙◌, arith}
use Rattle.map_machines.specs.Given.TablesDeclared.table.Table.{Table}
use Rattle.map_rule.specs.Chart.{Chart}
use Rattle.map_rule.specs.Rule.{ShutBefore}
use Rattle.map_rule.specs.Lasts.{Lasts}
use Rattle.map_rule.specs.Words.{Blocks}
use Rattle.map_rule.specs.Maps.{spot_of, IsTable}
use Rattle.map_rule.specs.InWorld.{SameBlocks}

module _ {K : Type 0} (same : K → K → Bool) (hash : K → ℕ) (incremental : Bool) (c c2 : Chart K) (lasts : Lasts same (spot_of hash) incremental c c2) where
  -- in incremental mode, tables that are shut stay so
  pub shut_before_lasts : incremental ≡ true → (t : ℕ) → t ≤ c.past → (k : K) → ShutBefore same (spot_of hash) incremental c t k → ShutBefore same (spot_of hash) incremental c2 t k
  shut_before_lasts is t made k shut u l = lasts.shut u k is (omega arith) (shut u l)

  module _ (blocks blocks2 : Blocks) (blocks_same : SameBlocks c blocks blocks2) where
    -- a table that was entered
    pub table_lasts : (table : Table) (t : ℕ) → IsTable c blocks table t → IsTable c2 blocks2 table t
    table_lasts table t entered = record {
      made = (let made = entered.made in let more = lasts.past in omega (arith, made, more));
      known = (blocks_same.tables t entered.made entered.known).1;
      is = entered.is ∙ sym (ap (λ b. record { link = b * 2048; len = c2.len t; limit = c2.limit t; turn = t }) block
          ∙ ap (λ n. record { link = blocks.table t * 2048; len = n; limit = c2.limit t; turn = t }) (lasts.lens t entered.made).0
          ∙ ap (λ n. record { link = blocks.table t * 2048; len = c.len t; limit = n; turn = t }) (lasts.lens t entered.made).1);
    }
      where
        block : blocks2.table t ≡ blocks.table t
        block = (blocks_same.tables t entered.made entered.known).0
