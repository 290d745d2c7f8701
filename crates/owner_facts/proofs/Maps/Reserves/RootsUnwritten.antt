-- The steps that write no root: those of a making of a table behind another one, and those of a copier but the promotion.
use Rattle.std.proofs.Common.{◌≡◌, ℕ, sym, subst}
use Rattle.many_maps.specs.Given.SeizeWordsDeclared.at.At.TheVariants.{Word}
use Rattle.many_maps.specs.Given.ResizeCopier.{plan_at}
use Rattle.many_maps.specs.Given.ResizeCopierFurther.{grown, remade}
use Rattle.many_maps.specs.Given.ResizeNewTable as new
use Rattle.many_maps.specs.Given.ResizeSum as summing
use Rattle.many_maps.specs.Given.ResizeDeclared.copier.Copier.{Copier}
use Rattle.many_maps.specs.Given.ResizeDeclared.copier.Copying.{Copying}
use Rattle.many_maps.specs.Given.ResizeDeclared.copier.Copying.TheVariants as at
use Rattle.many_maps.specs.Given.ResizeDeclared.new_table.NewTable.{NewTable}
use Rattle.many_maps.specs.Given.ResizeDeclared.new_table.Making.{Making}
use Rattle.many_maps.specs.Given.ResizeDeclared.new_table.Making.TheVariants as makes
use Rattle.many_maps.specs.Given.ResizeDeclared.sum.Sum.{Sum}
use Rattle.many_maps.specs.Given.ResizeDeclared.sum.Summing.{Summing}
use Rattle.many_maps.specs.Given.ResizeDeclared.sum.Summing.TheVariants as sums
use Rattle.many_maps.specs.Given.TablesDeclared.node.Node.{Node}
use Rattle.many_maps.proofs.Given.RuleWorld.RootSpared.{IsNoRoot}
use Rattle.owner_facts.proofs.Maps.Reserves.CopiersOn.{PromotesNone}
use Rattle.owner_facts.proofs.Maps.Reserves.PlansLeave.{WritesNoRoot, no_root_as}

-- where it makes a table, that is to stand behind another one
abbrev pub MakesBehind : Copying → Type 0
MakesBehind (at.Grows word code making) = (b : ℕ) × (i : ℕ) × (making.link ≡ Word b i)
MakesBehind (at.Remakes making) = (b : ℕ) × (i : ℕ) × (making.link ≡ Word b i)
MakesBehind _ = Unit {0}

module _ (K V : Type 0) where
  pub sum_no_root : (sum : Sum) → WritesNoRoot {T = Node K V} (summing.sum_plan sum)
  sum_no_root sum = by sum.stands
    where
      by : (stands : Summing) → WritesNoRoot {T = Node K V} (summing.plan_at sum stands)
      by (sums.Adds shard total) = tt
      by (sums.Over count) = tt

  module _ (n : NewTable) (b i : ℕ) (behind : n.link ≡ Word b i) where
    making_no_root : (stands : Making) → WritesNoRoot (new.plan_at {K = K} {V = V} n stands)
    making_no_root (makes.Sums before reason sum) = no_root_as (new.counted n before reason) (summing.sum_plan sum) (sum_no_root sum)
    making_no_root (makes.Makes table) = tt
    making_no_root (makes.Promotes table) = tt
    making_no_root (makes.Links table) = subst IsNoRoot (sym behind) tt
    making_no_root (makes.Drops table found) = tt
    making_no_root (makes.Over table) = tt
    making_no_root (makes.Refused fault) = tt

    pub new_table_no_root : WritesNoRoot (new.new_table_plan {K = K} {V = V} n)
    new_table_no_root = making_no_root n.stands

  pub copier_no_root : (hash : K → ℕ) (p : Copier) (stands : Copying) → PromotesNone stands → MakesBehind stands → WritesNoRoot (plan_at {K = K} {V = V} hash p stands)
  copier_no_root hash p at.Begins none behind = tt
  copier_no_root hash p at.Follows none behind = tt
  copier_no_root hash p at.Asks none behind = tt
  copier_no_root hash p at.Sees none behind = tt
  copier_no_root hash p at.Claims none behind = tt
  copier_no_root hash p at.Marks none behind = tt
  copier_no_root hash p (at.Probes word code table probe) none behind = tt
  copier_no_root hash p (at.Puts word code table probe) none behind = tt
  copier_no_root hash p (at.Covers word) none behind = tt
  copier_no_root hash p (at.Passes word code table) none behind = tt
  copier_no_root hash p (at.Grows word code making) none (b, i, behind) = no_root_as (grown p word code) (new.new_table_plan making) (new_table_no_root making b i behind)
  copier_no_root hash p at.Aborts none behind = tt
  copier_no_root hash p at.Replaces none behind = tt
  copier_no_root hash p (at.Remakes making) none (b, i, behind) = no_root_as (remade p) (new.new_table_plan making) (new_table_no_root making b i behind)
  copier_no_root hash p at.Counts none behind = tt
  copier_no_root hash p (at.Tallies word fault) none behind = tt
  copier_no_root hash p (at.Unmarks word fault) none behind = tt
  copier_no_root hash p (at.Unclaims fault) none behind = tt
  copier_no_root hash p at.Promotes none behind = absurd none
  copier_no_root hash p at.Announces none behind = absurd none
  copier_no_root hash p (at.Succeeds table) none behind = absurd none
  copier_no_root hash p (at.Retires settle rest) none behind = absurd none
  copier_no_root hash p at.Over none behind = tt
  copier_no_root hash p (at.Refused fault) none behind = tt
