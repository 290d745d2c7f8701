-- A making of a first table writes no root but its own.
use Rattle.std.specs.Prelude.{◌≡◌, ◌≢◌, ℕ, ◌+◌, ◌%◌, ◌^◌, ◌/◌, cond, Some, IsSome}
use Rattle.std.proofs.Common.{refl, ap, sym, subst, ◌∙◌, inl, inr, arith}
use Rattle.std.proofs.lemmas.Bool.{ne_eqb}
use Rattle.many_maps.specs.Given.SeizeWordsDeclared.at.At.TheVariants.{Root, Used, Word}
use Rattle.many_maps.specs.Given.SeizeWordsMem.{Mem, value_at, word_at, with_word, Took}
use Rattle.many_maps.specs.Given.SeizeWordsPlan.{Now, Steps}
use Rattle.many_maps.proofs.Given.SeizeWordsOneOwner.AfterWrites.{word_at-with_word}
use Rattle.many_maps.proofs.Given.SeizeWordsOneOwner.Operations.{exchanged, stored, made as make_made}
use Rattle.many_maps.specs.Given.SeizeWorld.{World}
use Rattle.many_maps.specs.Given.SeizeDeclared.advance.Advance.{Advance}
use Rattle.many_maps.specs.Given.ResizeNewTable.{goes, made, linked, plan_at, new_table_plan}
use Rattle.many_maps.specs.Given.TablesDeclared.node.Node.{Node}
use Rattle.many_maps.specs.Given.TablesDeclared.node.Node.TheVariants as node
use Rattle.many_maps.specs.Given.TablesDeclared.setting.Setting.{Setting}
use Rattle.many_maps.specs.Given.TablesDeclared.status.TheConstants.Status.{PROMOTED}
use Rattle.many_maps.specs.Given.TablesDeclared.table.Table.{Table}
use Rattle.many_maps.specs.Given.TablesDeclared.table_words.TheConstants.{STATUS, PLACES}
use Rattle.many_maps.specs.Given.ResizeDeclared.new_table.NewTable.{NewTable}
use Rattle.many_maps.specs.Given.ResizeDeclared.new_table.Making.{Making as Point}
use Rattle.many_maps.specs.Given.ResizeDeclared.new_table.Making.TheVariants as at
use Rattle.many_maps.specs.Given.RuleRule.{no_table}
use Rattle.many_maps.specs.Given.RuleWords.{Blocks}
use Rattle.many_maps.specs.Given.PointsFactsTables.{MakingFacts, NewTableFacts}

module _ {K V : Type 0} (m : Mem (Node K V)) (root : ℕ) where
  pub record LeavesRootsBut (m2 : Mem (Node K V)) : Type 0 where
    pub used : (r : ℕ) → word_at m2 (Used r) ≡ word_at m (Used r)
    pub others : (r : ℕ) → r ≢ root → word_at m2 (Root r) ≡ word_at m (Root r)

  module _ (n : NewTable) (link_is : n.link ≡ Root root) where
    leaves : (m2 m3 : Mem (Node K V)) → m2 ≡ m3 → LeavesRootsBut m3 → LeavesRootsBut m2
    leaves m2 m3 is h = subst LeavesRootsBut (sym is) h

    module _ (w : World (Node K V)) (caller : ℕ) (setting : Setting) (blocks : Blocks) (there : IsSome (word_at m (Root root))) where
      leaves_at : (stands : Point) → MakingFacts w caller setting (no_table {K = K}) blocks (Root setting.root) 0 stands → (m2 : Mem (Node K V)) (end : NewTable × Advance Table)
          → Steps Took value_at m (plan_at n stands) m2 end → LeavesRootsBut m2
      leaves_at (at.Sums before reason sum) facts m2 end s = absurd (let made = facts.0.1.made in omega (arith, made))
      leaves_at (at.Makes table) facts m2 end s =
          elim (make_made m (made n table) (node.Table table.len table.limit table.turn) ((table.len + PLACES) % 2 ^ 64) m2 end s) as (λ _. LeavesRootsBut m2) [
            | inl d ↦ leaves m2 _ d.2 (record { used = λ r. refl; others = λ r other. refl })
            | inr d ↦ leaves m2 m d.2 (record { used = λ r. refl; others = λ r other. refl })
          ]
      leaves_at (at.Promotes table) facts m2 end s =
          let d = stored m (λ out. Now (goes n (at.Links table))) (Word (table.link / 2048) STATUS) PROMOTED m2 end s in
          leaves m2 _ d.0 (record { used = λ r. refl; others = λ r other. refl })
      leaves_at (at.Links table) facts m2 end s =
          elim (exchanged m (linked n table) n.link 0 table.link m2 end s) as (λ _. LeavesRootsBut m2) [
            | inl d ↦ leaves m2 (with_word m (Root root) table.link) (d.2 ∙ ap (λ l. with_word m l table.link) link_is)
                (record {
                  used = λ r. refl;
                  others = λ r other. word_at-with_word m (Root root) table.link (Root r) there ∙ ap (λ q. cond q (Some table.link) (word_at m (Root r))) (ne_eqb r root other);
                })
            | inr d ↦ leaves m2 m d.2 (record { used = λ r. refl; others = λ r other. refl })
          ]
      leaves_at (at.Drops table found) facts m2 end s = absurd (let made = facts.3 in omega (arith, made))
      leaves_at (at.Over table) facts m2 end s = absurd (let made = facts.2.made in omega (arith, made))
      leaves_at (at.Refused fault) facts m2 end s = leaves m2 m s.0 (record { used = λ r. refl; others = λ r other. refl })

-- of a map that has no table yet
pub leaves_roots : {K V : Type 0} (w : World (Node K V)) (caller : ℕ) (setting : Setting) (blocks : Blocks) → IsSome (word_at w.memory (Root setting.root)) → (n : NewTable)
    → NewTableFacts w caller setting (no_table {K = K}) blocks (Root setting.root) 0 n → (m2 : Mem (Node K V)) (end : NewTable × Advance Table)
    → Steps Took value_at w.memory (new_table_plan n) m2 end → LeavesRootsBut w.memory setting.root m2
leaves_roots w caller setting blocks there n f m2 end s = leaves_at w.memory setting.root n f.link_is w caller setting blocks there n.stands f.point m2 end s
