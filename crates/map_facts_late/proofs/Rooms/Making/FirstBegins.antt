-- A making of a first table knows what it is to know as it begins, also where the length is one that no table has.
use Rattle.std.specs.Prelude.{ℕ, ◌≤◌, ◌^◌, Bool, max, if◌then◌else◌}
use Rattle.std.proofs.Common.{refl, sym, subst, inl, inr}
use Rattle.std.proofs.lemmas.Bool.Decides.{leb_tells}
use Rattle.map_facts.specs.Given.SeizeWordsDeclared.at.At.TheVariants.{Root}
use Rattle.map_facts.specs.Given.SeizeWordsDeclared.fault.Fault.TheVariants.{Capacity}
use Rattle.map_facts.specs.Given.SeizeWorld.{World}
use Rattle.map_facts.specs.Given.TablesLengths.{IsTableLen}
use Rattle.map_facts.specs.Given.TablesProbes.{limit_of}
use Rattle.map_facts.specs.Given.TablesDeclared.node.Node.{Node}
use Rattle.map_facts.specs.Given.TablesDeclared.setting.Setting.{Setting}
use Rattle.map_facts.specs.Given.ResizeNewTable.{planned, first_table}
use Rattle.map_facts.specs.Given.ResizeDeclared.new_table.Making.TheVariants as at
use Rattle.map_facts.specs.Given.RuleChart.{Chart}
use Rattle.map_facts.specs.Given.RuleWords.{Blocks}
use Rattle.map_facts.specs.FactsTables.{MakingFacts, NewTableFacts}
use Rattle.map_facts.proofs.Making.TablesBegin.{first_table_facts}

module _ {K V : Type 0} (w : World (Node K V)) (caller : ℕ) (setting : Setting) (c : Chart K) (blocks : Blocks) where
  pub first_table_begins : (len : ℕ) → (max len 8 ≤ 2 ^ 48 → IsTableLen (max len 8)) → NewTableFacts w caller setting c blocks (Root setting.root) 0 (first_table setting len)
  first_table_begins len is =
      elim (leb_tells (max len 8) (2 ^ 48)) as (λ _. NewTableFacts w caller setting c blocks (Root setting.root) 0 (first_table setting len)) [
        | inl few ↦ first_table_facts w caller setting c blocks len (is few.1)
        | inr many ↦ record {
          setting_is = refl;
          link_is = refl;
          link_of = inl (refl, refl);
          point = subst (λ (b : Bool). MakingFacts w caller setting c blocks (Root setting.root) 0 (if b then at.Makes (planned (max len 8) (limit_of (max len 8)) 0) else at.Refused Capacity)) (sym many.0) tt;
        }
      ]
