-- The turn of a table is found by its link.
use Rattle.std.specs.Prelude.{◌==◌, ◌&&◌}
use Rattle.std.proofs.Common.{◌≡◌, ◌≢◌, ℕ, zero, suc, ◌*◌, ◌<◌, ◌≤◌, Bool, true, false, cond, refl, ap, sym, ◌∙◌, arith, eqb-true}
use Rattle.std.proofs.lemmas.Bool.{eq-eqb}
use Rattle.map_rule.specs.Given.SeizeWordsMem.{Mem}
use Rattle.papaya_raw.specs.Given.TablesDeclared.node.Node.{Node}
use Rattle.map_rule.specs.Chart.{Chart}
use Rattle.map_rule.specs.Words.{Blocks, Represents}
use Rattle.map_facts.specs.MeasuresDisposes.{turn_of}

module _ {K V : Type 0} (hash : K → ℕ) (m : Mem (Node K V)) (c : Chart K) (blocks : Blocks) (root : ℕ) (shows : Represents hash m c blocks root)
    (link u : ℕ) (made : u < c.past) (known : blocks.table_known u ≡ true) (is : link ≡ blocks.table u * 2048) where
  -- a known table with its link is this one
  only : (t : ℕ) → t < c.past → blocks.table_known t ≡ true → (blocks.table t * 2048 == link) ≡ true → t ≡ u
  only t low seen e = let one = eqb-true (blocks.table t * 2048) link e in shows.tables_apart t u low made seen known (omega (arith, one, is))

  -- so it is met, unless one below is to be met
  met : (t : ℕ) → t ≡ u → (blocks.table_known t && (blocks.table t * 2048 == link)) ≡ true
  met t e = ap (λ x. blocks.table_known x && (blocks.table x * 2048 == link)) e ∙ both (blocks.table_known u) (blocks.table u * 2048 == link) known (eq-eqb (blocks.table u * 2048) link (sym is))
    where
      both : (a b : Bool) → a ≡ true → b ≡ true → (a && b) ≡ true
      both a b x y = cc

  below : (past : ℕ) → u < past → past ≤ c.past → turn_of blocks link past ≡ u
  below zero low most = absurd (omega (arith, low))
  below (suc t) low most = by (blocks.table_known t) refl (blocks.table t * 2048 == link) refl (λ other. below t other (omega (arith, most)))
    where
      lower : (t ≢ u) → u < t
      lower ne = omega (arith, low, ne)

      by : (a : Bool) → blocks.table_known t ≡ a → (b : Bool) → (blocks.table t * 2048 == link) ≡ b → (u < t → turn_of blocks link t ≡ u) → cond (a && b) t (turn_of blocks link t) ≡ u
      by true e true f rest = only t (omega (arith, most)) e f
      by true e false f rest = rest (lower (λ one. let is_met = met t one in cc (is_met, e, f)))
      by false e b f rest = rest (lower (λ one. let seen = ap blocks.table_known one ∙ known in cc (seen, e)))

  pub turn_found : turn_of blocks link c.past ≡ u
  turn_found = below c.past made (omega arith)
