-- A step that has read a link goes on without a table, or with the one that the link leads to.
use Rattle.std.specs.Prelude.{◌≡◌, ℕ, ◌/◌, ◌≤◌, ◌==◌, true, false, Some, IsSome, if◌then◌else◌}
use Rattle.std.proofs.Common.{sym, subst, ◌∙◌, inl, inr, eqb-true}
use Rattle.std.proofs.lemmas.Bool.{eqb-false}
use Rattle.map_machines.specs.Given.SeizeWordsMem.{Mem, value_at}
use Rattle.map_machines.specs.Given.SeizeWordsPlan.{Now, Seeing, MaySee, Ends}
use Rattle.map_machines.proofs.Given.SeizeWordsPlans.{see_if, ends_if}
use Rattle.map_machines.specs.Given.TablesNodes.{table_seen}
use Rattle.map_machines.specs.Given.TablesDeclared.node.Node.{Node}
use Rattle.map_machines.specs.Given.TablesDeclared.table.Table.{Table}
use Rattle.map_rule.specs.Chart.{Chart}
use Rattle.map_rule.specs.Words.{Blocks, Represents}
use Rattle.map_rule.specs.Maps.{IsTable}
use Rattle.map_rule.specs.Links.{IsLinkTo, LeadsTo}
use Rattle.map_rule.proofs.Words.LinksSeen.{link_some}
use Rattle.map_rule.proofs.Words.TablesSeen.{link_seen, link_not_zero, table_is}

module _ {K V : Type 0} (hash : K → ℕ) (m : Mem (Node K V)) (c : Chart K) (blocks : Blocks) (root : ℕ) (shows : Represents hash m c blocks root)
    (link t : ℕ) (there : IsLinkTo c blocks link t) where
  -- what it leads to is there, and is that table
  pub link_shown : IsSome (value_at m (link / 2048))
  link_shown = subst (λ (x : ℕ). IsSome (value_at m (x / 2048))) (sym there.0) (link_seen hash m c blocks root shows t there.1 there.2)

  pub link_table : (value : Node K V) → value_at m (link / 2048) ≡ Some value → IsTable c blocks (table_seen link value) t
  link_table value =
      subst (λ (x : ℕ). value_at m (x / 2048) ≡ Some value → IsTable c blocks (table_seen x value) t) (sym there.0) (table_is hash m c blocks root shows t there.1 there.2 value)

module _ {K V R : Type 0} (hash : K → ℕ) (m : Mem (Node K V)) (c : Chart K) (blocks : Blocks) (root : ℕ) (shows : Represents hash m c blocks root)
    (link t : ℕ) (leads : LeadsTo c blocks link t) (empty : R) (on : Table → R) where
  some_link : (link == 0) ≡ false → IsLinkTo c blocks link t
  some_link e = link_some c blocks link t leads (eqb-false link 0 e)

  no_link : (link == 0) ≡ true → c.past ≤ t
  no_link e = by leads
    where
      by : LeadsTo c blocks link t → c.past ≤ t
      by (inl none) = none.1
      by (inr some) = absurd (link_not_zero hash m c blocks root shows t some.1 some.2 (sym some.0 ∙ eqb-true link 0 e))

  pub see_link : MaySee (value_at m) (if link == 0 then Now empty else Seeing (link / 2048) (λ value. Now (on (table_seen link value))))
  see_link =
      see_if (value_at m) (link == 0) (Now empty) (Seeing (link / 2048) (λ value. Now (on (table_seen link value)))) (λ e. tt)
      (λ e. (link_shown hash m c blocks root shows link t (some_link e), λ value seen. tt))

  pub link_ends : (P : R → Type 0) → (c.past ≤ t → P empty) → ((table : Table) → IsTable c blocks table t → P (on table))
      → (end : R) → Ends (value_at m) (if link == 0 then Now empty else Seeing (link / 2048) (λ value. Now (on (table_seen link value)))) end → P end
  link_ends P none some end ends =
      elim (ends_if (value_at m) (link == 0) (Now empty) (Seeing (link / 2048) (λ value. Now (on (table_seen link value)))) end ends) as (λ _. P end) [
        | inl h ↦ subst P (sym h.1) (none (no_link h.0))
        | inr h ↦ subst P (sym h.1.2) (some (table_seen link h.1.0) (link_table hash m c blocks root shows link t (some_link h.0) h.1.0 h.1.1))
      ]
