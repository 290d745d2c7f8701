-- Where the links of a map lead: the root's to the first table, and each table's to the one behind.
use Rattle.std.proofs.Common.{◌≡◌, ℕ, zero, suc, ◌*◌, ◌<◌, ◌≤◌, Bool, true, cond, Some, ◌⊎◌, inl, inr, refl, ap, sym, ◌∙◌, arith, ◌≢◌}
use Rattle.std.proofs.lemmas.Bool.{cases_lt, cases_order, lt-ltb, le-ltb, eq-eqb, ne_eqb}
use Rattle.map_machines.specs.Given.SeizeWordsDeclared.at.At.TheVariants.{Root}
use Rattle.map_machines.specs.Given.SeizeWordsMem.{Mem, word_at}
use Rattle.map_machines.specs.Given.TablesTablePlaces.{at_word}
use Rattle.map_machines.specs.Given.TablesDeclared.node.Node.{Node}
use Rattle.map_machines.specs.Given.TablesDeclared.resize_mode.ResizeMode.{ResizeMode}
use Rattle.map_machines.specs.Given.TablesDeclared.table.Table.{Table}
use Rattle.map_machines.specs.Given.TablesDeclared.table_words.TheConstants.{NEXT}
use Rattle.map_rule.specs.Chart.{Chart}
use Rattle.map_rule.specs.Words.{Blocks, next_word, root_word}
use Rattle.map_rule.specs.Links.{IsLinkTo, LeadsTo}
use Rattle.map_rule.specs.Maps.{IsMap, IsTable}
use Rattle.map_rule.proofs.Words.TablesSeen.{next_there}

module _ {K : Type 0} (c : Chart K) (blocks : Blocks) where
  -- a link that was read leads to the table where it is not 0, and where the table was made
  pub link_some : (link t : ℕ) → LeadsTo c blocks link t → link ≢ 0 → IsLinkTo c blocks link t
  link_some link t (inl none) some = absurd (some none.0)
  link_some link t (inr there) some = there

  pub link_made : (link t : ℕ) → LeadsTo c blocks link t → t < c.past → IsLinkTo c blocks link t
  link_made link t (inl none) made = absurd (omega (arith, made, none.1))
  link_made link t (inr there) made = there

module _ {K V : Type 0} (same : K → K → Bool) (hash : K → ℕ) (mode : ResizeMode) (root : ℕ) (m : Mem (Node K V)) (c : Chart K) (blocks : Blocks) (map : IsMap same hash mode root m c blocks) where
  -- the tables behind one that can be looked at
  pub behind_known : (t u : ℕ) → t ≤ u → u < c.past → blocks.table_known t ≡ true → blocks.table_known u ≡ true
  behind_known t u l made known = by_order (cases_order t u)
    where
      by_order : (t ≡ u) ⊎ ((t < u) ⊎ (u < t)) → blocks.table_known u ≡ true
      by_order (inl e) = ap blocks.table_known (sym e) ∙ known
      by_order (inr (inl h)) = map.later t u h made known
      by_order (inr (inr h)) = absurd (omega arith)

  -- the link of the root
  pub root_leads : (link : ℕ) → word_at m (Root root) ≡ Some link → LeadsTo c blocks link c.first
  root_leads link read = by_past c.past refl
    where
      is_root : link ≡ root_word hash c blocks
      is_root = cc (map.shows.root_there)

      by_past : (p : ℕ) → c.past ≡ p → LeadsTo c blocks link c.first
      by_past zero e = let first = map.rule.common.rootless e in inl (is_root ∙ ap (λ q. cond q 0 (blocks.table c.first * 2048)) (eq-eqb c.past 0 e), omega arith)
      by_past (suc p) e =
          let made = map.rule.common.rooted (omega arith) in
          inr (
            is_root ∙ ap (λ q. cond q 0 (blocks.table c.first * 2048)) (ne_eqb c.past 0 (λ z. omega arith)),
            made,
            map.shows.linked c.first (omega arith) made,
          )

  -- the link to the table behind one
  pub next_leads : (table : Table) (t link : ℕ) → IsTable c blocks table t → word_at m (at_word table NEXT) ≡ Some link → LeadsTo c blocks link (suc t)
  next_leads table t link entered read = by_past (cases_lt (suc t) c.past)
    where
      is_next : link ≡ next_word hash c blocks t
      is_next = cc (next_there hash m c blocks root map.shows table t entered)

      by_past : (suc t < c.past) ⊎ (c.past ≤ suc t) → LeadsTo c blocks link (suc t)
      by_past (inl l) =
          inr (
            is_next ∙ ap (λ q. cond q (blocks.table (suc t) * 2048) 0) (lt-ltb (suc t) c.past l),
            l,
            behind_known t (suc t) (omega arith) l entered.known,
          )
      by_past (inr l) = inl (is_next ∙ ap (λ q. cond q (blocks.table (suc t) * 2048) 0) (le-ltb (suc t) c.past l), l)
