-- A step that has a fault to tell, or is to come to the length of a table, leaves the links of all tables as they are.
use Rattle.std.specs.Prelude.{◌≡◌, ℕ, ◌+◌, ◌%◌, ◌^◌, ◌<◌, ◌&&◌, ◌==◌, Bool, true, false}
use Rattle.std.proofs.Common.{refl, ap, ◌∙◌, arith}
use Rattle.std.proofs.lemmas.Bool.{ne_eqb}
use Rattle.seize_words.specs.OneMemory.Mem.{same_at}
use Rattle.seize_words.specs.OneMemory.Word.{block_in}
use Rattle.seize_words.specs.declared.at.At.{At}
use Rattle.seize_words.specs.declared.at.At.TheVariants.{Word}
use Rattle.map_tables.specs.declared.node.Node.{Node}
use Rattle.map_tables.specs.declared.table_words.TheConstants.{NEXT, CLAIM, COPIED, PLACES}
use Rattle.map_measures.specs.Given.ResizeCopier.{plan_at}
use Rattle.map_measures.specs.Given.ResizeCopierFurther.{grown, remade}
use Rattle.map_measures.specs.Given.ResizeNewTable as tables
use Rattle.map_measures.specs.Given.ResizeNewTable.{new_table_plan}
use Rattle.map_measures.specs.Given.ResizeSum as counts
use Rattle.map_measures.specs.Given.ResizeSum.{sum_plan}
use Rattle.map_measures.specs.Given.ResizeDeclared.copier.Copier.{Copier}
use Rattle.map_measures.specs.Given.ResizeDeclared.copier.Copying.{Copying}
use Rattle.map_measures.specs.Given.ResizeDeclared.copier.Copying.TheVariants as copies
use Rattle.map_measures.specs.Given.ResizeDeclared.new_table.NewTable.{NewTable}
use Rattle.map_measures.specs.Given.ResizeDeclared.new_table.Making.{Making}
use Rattle.map_measures.specs.Given.ResizeDeclared.new_table.Making.TheVariants as makes
use Rattle.map_measures.specs.Given.ResizeDeclared.sum.Sum.{Sum}
use Rattle.map_measures.specs.Given.ResizeDeclared.sum.Summing.{Summing}
use Rattle.map_measures.specs.Given.ResizeDeclared.sum.Summing.TheVariants as sums
use Rattle.map_measures.proofs.Given.RuleSpared.{PlanSpares, spares_as}
use Rattle.map_measures.proofs.Given.LateKindsKept.Rooms.Bound.{BoundMaking, BoundCopying}

-- a copier stands so that a fault is known, or that it reads whether a table is behind another one
abbrev pub ReadsLast : Copying → Type 0
ReadsLast (copies.Passes word code table) = Unit {0}
ReadsLast stage = BoundCopying stage

-- where it takes a mark back, its place is one of a table
abbrev pub HasPlace : Copier → Copying → Type 0
HasPlace p (copies.Unmarks word fault) = p.place < 2 ^ 63
HasPlace p _ = Unit {0}

neither : (b : Bool) → (b && false) ≡ false
neither true = refl
neither false = refl

module _ (K V : Type 0) (b : ℕ) where
  -- the link of this block
  abbrev pub link : At
  link = Word b NEXT

  other_field : (block field : ℕ) → (NEXT == field) ≡ false → same_at link (Word block field) ≡ false
  other_field block field apart = ap (λ (q : Bool). (b == block) && q) apart ∙ neither (b == block)

  sum_spares : (sum : Sum) → PlanSpares link (sum_plan {T = Node K V} sum)
  sum_spares sum = by sum.stands
    where
      by : (stands : Summing) → PlanSpares link (counts.plan_at {T = Node K V} sum stands)
      by (sums.Adds shard total) = tt
      by (sums.Over count) = tt

  pub making_spares : (n : NewTable) (stage : Making) → BoundMaking stage → PlanSpares link (tables.plan_at {K = K} {V = V} n stage)
  making_spares n (makes.Sums before reason sum) bound = spares_as link (tables.counted n before reason) (sum_plan sum) (sum_spares sum)
  making_spares n (makes.Refused fault) bound = tt
  making_spares n _ bound = absurd bound

  pub copier_spares : (hash : K → ℕ) (p : Copier) (stage : Copying) → HasPlace p stage → ReadsLast stage → PlanSpares link (plan_at {V = V} hash p stage)
  copier_spares hash p (copies.Passes word code table) few bound = tt
  copier_spares hash p (copies.Grows word code making) few bound = spares_as link (grown p word code) (new_table_plan making) (making_spares making making.stands bound)
  copier_spares hash p (copies.Remakes making) few bound = spares_as link (remade p) (new_table_plan making) (making_spares making making.stands bound)
  copier_spares hash p (copies.Tallies word fault) few bound = other_field (block_in p.target.link) COPIED refl
  copier_spares hash p (copies.Unmarks word fault) few bound =
      other_field (block_in p.source.link) ((p.place + PLACES) % 2 ^ 64) (ne_eqb NEXT ((p.place + PLACES) % 2 ^ 64) (λ e. omega (arith, e, few)))
  copier_spares hash p (copies.Unclaims fault) few bound = other_field (block_in p.target.link) CLAIM refl
  copier_spares hash p (copies.Refused fault) few bound = tt
  copier_spares hash p _ few bound = absurd bound
