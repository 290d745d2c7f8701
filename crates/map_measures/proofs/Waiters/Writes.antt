-- In blocking mode: which steps of a copier leave the count of a table as it is, and the root: all but the one that adds to the count, and the one that makes a table the root.
use Rattle.std.specs.Prelude.{◌==◌, ◌&&◌, ◌%◌}
use Rattle.std.proofs.Common.{◌≡◌, ◌≢◌, ℕ, suc, ◌+◌, ◌/◌, ◌^◌, ◌<◌, Bool, true, false, refl, ap, sym, subst, ◌∙◌, arith}
use Rattle.std.proofs.lemmas.Bool.{ne_eqb}
use Rattle.seize_words.specs.declared.at.At.{At}
use Rattle.seize_words.specs.declared.at.At.TheVariants.{Root, Word}
use Rattle.seize_words.specs.OneMemory.Mem.{same_at}
use Rattle.seize.specs.World.{World}
use Rattle.map_machines.specs.Sum.{sum_plan, plan_at as sum_at}
use Rattle.map_machines.specs.NewTable.{counted, new_table_plan, plan_at as making_at}
use Rattle.map_machines.specs.Copier.{copier_plan, plan_at as copying_at}
use Rattle.map_machines.specs.CopierFurther.{remade}
use Rattle.map_tables.specs.declared.node.Node.{Node}
use Rattle.map_tables.specs.declared.setting.Setting.{Setting}
use Rattle.map_tables.specs.declared.table.Table.{Table}
use Rattle.map_tables.specs.declared.table_words.TheConstants.{NEXT, CLAIM, COPIED, STATUS, PLACES}
use Rattle.map_machines.specs.declared.sum.Sum.{Sum}
use Rattle.map_machines.specs.declared.sum.Summing.{Summing}
use Rattle.map_machines.specs.declared.sum.Summing.TheVariants as sums
use Rattle.map_machines.specs.declared.new_table.NewTable.{NewTable}
use Rattle.map_machines.specs.declared.new_table.Making.{Making}
use Rattle.map_machines.specs.declared.new_table.Making.TheVariants as makes
use Rattle.map_machines.specs.declared.copier.Copier.{Copier}
use Rattle.map_machines.specs.declared.copier.Copying.{Copying as Point}
use Rattle.map_machines.specs.declared.copier.Copying.TheVariants as at
use Rattle.many_calls.specs.Given.RuleChart.{Chart}
use Rattle.many_calls.specs.Given.RuleInWorld.{IsMapIn, IsOut}
use Rattle.many_calls.specs.Given.RuleWords.{Blocks}
use Rattle.many_calls.specs.Given.PointsFactsTables.{IsOwnTable, NewTableFacts, MakingFacts}
use Rattle.many_calls.proofs.Given.RuleSpared.{IsBeside, PlanSpares, spares_as}
use Rattle.many_calls.proofs.Claims.Knows.{CopierKnows}

-- the count of a table is no other word of one
other_field : (a b field : ℕ) → COPIED ≢ field → same_at (Word a COPIED) (Word b field) ≡ false
other_field a b field other = by (a == b) (COPIED == field) (ne_eqb COPIED field other)
  where
    by : (x y : Bool) → y ≡ false → (x && y) ≡ false
    by true y e = e
    by false y e = refl

no_place : (place : ℕ) → place < 2 ^ 48 → COPIED ≢ (place + PLACES) % 2 ^ 64
no_place place few e = omega (arith, few, e)

module _ {K V : Type 0} (same : K → K → Bool) (hash : K → ℕ) (w : World (Node K V)) (caller : ℕ) (setting : Setting) (c : Chart K) (blocks : Blocks) (map : IsMapIn same hash setting w c blocks) where
  module _ (t : ℕ) (made : t < c.past) (known : blocks.table_known t ≡ true) where
    abbrev pub copied_word : At
    copied_word = Word (blocks.table t) COPIED

    own_beside : (table : Table) (status : ℕ) → IsOwnTable w caller table status → IsBeside copied_word (table.link / 2048)
    own_beside table status own e = subst IsOut (ap w.hand (e ∙ block) ∙ own.hand) (map.tables_out t made known)
      where
        block : table.link / 2048 ≡ own.block
        block = let link = own.link in omega (arith, link)

    sum_spares : (sum : Sum) (stands : Summing) → PlanSpares {T = Node K V} copied_word (sum_at sum stands)
    sum_spares sum (sums.Adds shard total) = tt
    sum_spares sum (sums.Over count) = tt

    making_spares : (u : ℕ) (n : NewTable) → NewTableFacts w caller setting c blocks (Word (blocks.table u) NEXT) (suc u) n → PlanSpares {T = Node K V} copied_word (new_table_plan n)
    making_spares u n facts = by n.stands facts.point
      where
        by : (stands : Making) → MakingFacts w caller setting c blocks (Word (blocks.table u) NEXT) (suc u) stands → PlanSpares {T = Node K V} copied_word (making_at n stands)
        by (makes.Sums before reason sum) point = spares_as copied_word (counted n before reason) (sum_plan sum) (sum_spares sum sum.stands)
        by (makes.Makes table) point = tt
        by (makes.Promotes table) point = other_field (blocks.table t) (table.link / 2048) STATUS (λ e. omega (arith, e))
        by (makes.Links table) point = subst (λ (x : At). same_at copied_word x ≡ false) (sym facts.link_is) (other_field (blocks.table t) (blocks.table u) NEXT (λ e. omega (arith, e)))
        by (makes.Drops table found) point = own_beside table _ point.0
        by (makes.Over table) point = tt
        by (makes.Refused fault) point = tt

    pub copied_spares : (p : Copier) → CopierKnows w caller setting c blocks p p.stands → (p.stands ≡ at.Counts → ⊥) → PlanSpares copied_word (copier_plan {V = V} hash p)
    copied_spares p knows none = by p.stands refl knows
      where
        by : (stands : Point) → p.stands ≡ stands → CopierKnows w caller setting c blocks p stands → PlanSpares copied_word (copying_at {V = V} hash p stands)
        by at.Asks is k = tt
        by at.Sees is k = tt
        by at.Claims is k = other_field (blocks.table t) (p.target.link / 2048) CLAIM (λ e. omega (arith, e))
        by at.Marks is few = other_field (blocks.table t) (p.source.link / 2048) ((p.place + PLACES) % 2 ^ 64) (no_place p.place few)
        by (at.Probes word code table probe) is k = tt
        by (at.Puts word code table probe) is few = other_field (blocks.table t) (table.link / 2048) ((probe.i + PLACES) % 2 ^ 64) (no_place probe.i few)
        by at.Counts is k = absurd (none is)
        by at.Aborts is k = other_field (blocks.table t) (p.target.link / 2048) STATUS (λ e. omega (arith, e))
        by at.Replaces is k = tt
        by (at.Remakes making) is (u, new) = spares_as copied_word (remade p) (new_table_plan making) (making_spares u making new)
        by at.Promotes is k = refl
        by at.Announces is k = other_field (blocks.table t) (p.target.link / 2048) STATUS (λ e. omega (arith, e))
        by (at.Succeeds table) is k = tt
        by at.Over is k = tt
        by (at.Refused fault) is k = tt
        by _ is k = absurd k

  -- the root
  abbrev pub root_word : At
  root_word = Root setting.root

  root_sums : (sum : Sum) (stands : Summing) → PlanSpares {T = Node K V} root_word (sum_at sum stands)
  root_sums sum (sums.Adds shard total) = tt
  root_sums sum (sums.Over count) = tt

  root_making : (u : ℕ) (n : NewTable) → NewTableFacts w caller setting c blocks (Word (blocks.table u) NEXT) (suc u) n → PlanSpares {T = Node K V} root_word (new_table_plan n)
  root_making u n facts = by n.stands
    where
      by : (stands : Making) → PlanSpares {T = Node K V} root_word (making_at n stands)
      by (makes.Sums before reason sum) = spares_as root_word (counted n before reason) (sum_plan sum) (root_sums sum sum.stands)
      by (makes.Makes table) = tt
      by (makes.Promotes table) = refl
      by (makes.Links table) = subst (λ (x : At). same_at root_word x ≡ false) (sym facts.link_is) refl
      by (makes.Drops table found) = tt
      by (makes.Over table) = tt
      by (makes.Refused fault) = tt

  pub root_spares : (p : Copier) → CopierKnows w caller setting c blocks p p.stands → (p.stands ≡ at.Promotes → ⊥) → PlanSpares root_word (copier_plan {V = V} hash p)
  root_spares p knows none = by p.stands refl knows
    where
      by : (stands : Point) → p.stands ≡ stands → CopierKnows w caller setting c blocks p stands → PlanSpares root_word (copying_at {V = V} hash p stands)
      by at.Asks is k = tt
      by at.Sees is k = tt
      by at.Claims is k = refl
      by at.Marks is k = refl
      by (at.Probes word code table probe) is k = tt
      by (at.Puts word code table probe) is k = refl
      by at.Counts is k = refl
      by at.Aborts is k = refl
      by at.Replaces is k = tt
      by (at.Remakes making) is (u, new) = spares_as root_word (remade p) (new_table_plan making) (root_making u making new)
      by at.Promotes is k = absurd (none is)
      by at.Announces is k = refl
      by (at.Succeeds table) is k = tt
      by at.Over is k = tt
      by (at.Refused fault) is k = tt
      by _ is k = absurd k
