-- Which steps of a copier leave the claim of a table as it is: all but the one that adds to it.
use Rattle.std.specs.Prelude.{◌==◌, ◌&&◌, ◌%◌}
use Rattle.std.proofs.Common.{◌≡◌, ◌≢◌, ℕ, suc, ◌+◌, ◌/◌, ◌^◌, ◌<◌, Bool, true, false, refl, ap, sym, subst, ◌∙◌, arith}
use Rattle.std.proofs.lemmas.Bool.{ne_eqb}
use Rattle.seize_model.specs.Given.SeizeWordsDeclared.at.At.{At}
use Rattle.seize_model.specs.Given.SeizeWordsDeclared.at.At.TheVariants.{Word}
use Rattle.seize_model.specs.Given.SeizeWordsMem.{same_at}
use Rattle.seize_model.specs.Given.SeizeWorld.{World}
use Rattle.map_facts_late.specs.Given.ResizeSum.{sum_plan, plan_at as sum_at}
use Rattle.map_facts_late.specs.Given.ResizeNewTable.{counted, new_table_plan, plan_at as making_at}
use Rattle.map_facts_late.specs.Given.ResizeCopier.{copier_plan, plan_at as copying_at}
use Rattle.map_facts_late.specs.Given.ResizeCopierFurther.{remade}
use Rattle.map_facts_late.specs.Given.TablesTablePlaces.{at_word}
use Rattle.map_facts_late.specs.Given.TablesDeclared.node.Node.{Node}
use Rattle.map_facts_late.specs.Given.TablesDeclared.setting.Setting.{Setting}
use Rattle.map_facts_late.specs.Given.TablesDeclared.table.Table.{Table}
use Rattle.map_facts_late.specs.Given.TablesDeclared.table_words.TheConstants.{NEXT, CLAIM, COPIED, STATUS, PLACES}
use Rattle.map_facts_late.specs.Given.ResizeDeclared.sum.Sum.{Sum}
use Rattle.map_facts_late.specs.Given.ResizeDeclared.sum.Summing.{Summing}
use Rattle.map_facts_late.specs.Given.ResizeDeclared.sum.Summing.TheVariants as sums
use Rattle.map_facts_late.specs.Given.ResizeDeclared.new_table.NewTable.{NewTable}
use Rattle.map_facts_late.specs.Given.ResizeDeclared.new_table.Making.{Making}
use Rattle.map_facts_late.specs.Given.ResizeDeclared.new_table.Making.TheVariants as makes
use Rattle.map_facts_late.specs.Given.ResizeDeclared.copier.Copier.{Copier}
use Rattle.map_facts_late.specs.Given.ResizeDeclared.copier.Copying.{Copying as Point}
use Rattle.map_facts_late.specs.Given.ResizeDeclared.copier.Copying.TheVariants as at
use Rattle.map_facts_late.specs.Given.RuleChart.{Chart}
use Rattle.map_facts_late.specs.Given.RuleInWorld.{IsMapIn, IsOut}
use Rattle.map_facts_late.specs.Given.RuleMaps.{IsTable}
use Rattle.map_facts_late.specs.Given.RuleWords.{Blocks}
use Rattle.map_facts_late.proofs.Given.RuleWords.TablesSeen.{word_stands, turn_is}
use Rattle.map_facts_late.specs.Given.PointsFactsTables.{IsOwnTable, NewTableFacts, MakingFacts}
use Rattle.map_facts_late.proofs.Given.RuleSpared.{IsBeside, PlanSpares, spares_as}
use Rattle.many_calls.proofs.Claims.Knows.{CopierKnows}

-- a claim is no other word of a table
other_field : (a b field : ℕ) → CLAIM ≢ field → same_at (Word a CLAIM) (Word b field) ≡ false
other_field a b field other = by (a == b) (CLAIM == field) (ne_eqb CLAIM field other)
  where
    by : (x y : Bool) → y ≡ false → (x && y) ≡ false
    by true y e = e
    by false y e = refl

-- nor a place of one
no_place : (place : ℕ) → place < 2 ^ 48 → CLAIM ≢ (place + PLACES) % 2 ^ 64
no_place place few e = omega (arith, few, e)

module _ {K V : Type 0} (same : K → K → Bool) (hash : K → ℕ) (w : World (Node K V)) (caller : ℕ) (setting : Setting) (c : Chart K) (blocks : Blocks) (map : IsMapIn same hash setting w c blocks)
    (t : ℕ) (made : t < c.past) (known : blocks.table_known t ≡ true) where
  abbrev pub claim_word : At
  claim_word = Word (blocks.table t) CLAIM

  -- nor a word of a table that is not linked yet
  own_beside : (table : Table) (status : ℕ) → IsOwnTable w caller table status → IsBeside claim_word (table.link / 2048)
  own_beside table status own e = subst IsOut (ap w.hand (e ∙ block) ∙ own.hand) (map.tables_out t made known)
    where
      block : table.link / 2048 ≡ own.block
      block = let link = own.link in omega (arith, link)

  sum_spares : (sum : Sum) (stands : Summing) → PlanSpares {T = Node K V} claim_word (sum_at sum stands)
  sum_spares sum (sums.Adds shard total) = tt
  sum_spares sum (sums.Over count) = tt

  -- a making of a table behind another one
  making_spares : (u : ℕ) (n : NewTable) → NewTableFacts w caller setting c blocks (Word (blocks.table u) NEXT) (suc u) n → PlanSpares {T = Node K V} claim_word (new_table_plan n)
  making_spares u n facts = by n.stands facts.point
    where
      by : (stands : Making) → MakingFacts w caller setting c blocks (Word (blocks.table u) NEXT) (suc u) stands → PlanSpares {T = Node K V} claim_word (making_at n stands)
      by (makes.Sums before reason sum) point = spares_as claim_word (counted n before reason) (sum_plan sum) (sum_spares sum sum.stands)
      by (makes.Makes table) point = tt
      by (makes.Promotes table) point = other_field (blocks.table t) (table.link / 2048) STATUS (λ e. omega (arith, e))
      by (makes.Links table) point = subst (λ (x : At). same_at claim_word x ≡ false) (sym facts.link_is) (other_field (blocks.table t) (blocks.table u) NEXT (λ e. omega (arith, e)))
      by (makes.Drops table found) point = own_beside table _ point.0
      by (makes.Over table) point = tt
      by (makes.Refused fault) point = tt

  -- the claim of another table
  other_table : (table : Table) (u : ℕ) → IsTable c blocks table u → table.turn ≢ t → same_at claim_word (at_word table CLAIM) ≡ false
  other_table table u entered other =
      subst (λ (x : At). same_at claim_word x ≡ false) (sym (word_stands hash w.memory c blocks setting.root map.map.shows table u entered CLAIM))
      (ap (λ (x : Bool). x && (CLAIM == CLAIM)) (ne_eqb (blocks.table t) (blocks.table u) apart))
    where
      apart : blocks.table t ≢ blocks.table u
      apart e = other (turn_is hash w.memory c blocks setting.root map.map.shows table u entered ∙ sym (map.map.shows.tables_apart t u made entered.made known entered.known e))

  pub copier_spares : (p : Copier) → CopierKnows w caller setting c blocks p p.stands → (p.stands ≡ at.Claims → p.target.turn ≢ t) → PlanSpares claim_word (copier_plan {V = V} hash p)
  copier_spares p knows other = by p.stands refl knows
    where
      by : (stands : Point) → p.stands ≡ stands → CopierKnows w caller setting c blocks p stands → PlanSpares claim_word (copying_at {V = V} hash p stands)
      by at.Asks is k = tt
      by at.Sees is k = tt
      by at.Claims is (u, entered) = other_table p.target u entered (other is)
      by at.Marks is few = other_field (blocks.table t) (p.source.link / 2048) ((p.place + PLACES) % 2 ^ 64) (no_place p.place few)
      by (at.Probes word code table probe) is k = tt
      by (at.Puts word code table probe) is few = other_field (blocks.table t) (table.link / 2048) ((probe.i + PLACES) % 2 ^ 64) (no_place probe.i few)
      by at.Counts is k = other_field (blocks.table t) (p.target.link / 2048) COPIED (λ e. omega (arith, e))
      by at.Aborts is k = other_field (blocks.table t) (p.target.link / 2048) STATUS (λ e. omega (arith, e))
      by at.Replaces is k = tt
      by (at.Remakes making) is (u, new) = spares_as claim_word (remade p) (new_table_plan making) (making_spares u making new)
      by at.Promotes is k = refl
      by at.Announces is k = other_field (blocks.table t) (p.target.link / 2048) STATUS (λ e. omega (arith, e))
      by (at.Succeeds table) is k = tt
      by at.Over is k = tt
      by (at.Refused fault) is k = tt
      by _ is k = absurd k
