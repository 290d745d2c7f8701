-- Where the last table of a map cannot be followed, its memory shows that.
use Rattle.std.specs.Prelude.{◌≡◌, ℕ, zero, suc, ◌+◌, ◌-◌, ◌/◌, ◌<◌, ◌≤◌, Bool, Some}
use Rattle.std.proofs.Common.{ap, sym, subst, inl, inr, arith}
use Rattle.seize_words.specs.OneMemory.Mem.{Mem, value_at, word_at}
use Rattle.seize_words.specs.declared.at.At.TheVariants.{Root}
use Rattle.map_tables.specs.Lengths.{CannotBeFollowed}
use Rattle.map_tables.specs.declared.node.Node.{Node}
use Rattle.map_tables.specs.declared.setting.Setting.{Setting}
use Rattle.map_rule.specs.Chart.{Chart}
use Rattle.map_rule.specs.Words.{Blocks}
use Rattle.map_rule.specs.Links.{LeadsTo}
use Rattle.map_rule.proofs.Laws.{links_have_tables}
use Rattle.map_straight.specs.Shown.Chain.{word_or_none, shape_of, behind, CannotGrow, CountsTables, shapes_on, CannotGrowIn}
use Rattle.map_straight.specs.Shown.Shown.{HasMap}
use Rattle.map_straight.proofs.Shown.Chains.{behind_leads, chain_shown}
use Rattle.map_straight.proofs.Shown.Links as links

module _ {K V : Type 0} (eq : K → K → Bool) (hash : K → ℕ) (m : Mem (Node K V)) (setting : Setting) (c : Chart K) (blocks : Blocks) (stands : HasMap eq hash m setting c blocks)
    (last : ℕ) (is_last : suc last ≡ c.past) (ends : CannotBeFollowed (c.len last) last) where
  -- a linked table as its block shows it
  shape_is : (t link : ℕ) → LeadsTo c blocks link t → t < c.past → shape_of (value_at m (link / 2048)) ≡ (c.len t, t)
  shape_is t link (inl none) made = absurd (let over = none.1 in omega (arith, over, made))
  shape_is t link (inr there) made = ap shape_of (links_have_tables eq hash setting.mode setting.root m c blocks stands.map link t there).1

  -- the link behind it
  goes_on : (t link : ℕ) → c.first ≤ t → LeadsTo c blocks link t → t < c.past → LeadsTo c blocks (behind m link) (suc t)
  goes_on t link linked (inl none) made = absurd (let over = none.1 in omega (arith, over, made))
  goes_on t link linked (inr there) made =
      subst (λ (l : ℕ). LeadsTo c blocks (behind m l) (suc t)) (sym there.0) (behind_leads eq hash m setting c blocks stands t linked made)

  -- the tables from a linked one on end with the last one
  chain_ends : (tables t link : ℕ) → c.first ≤ t → t + tables ≡ c.past → t ≤ last → LeadsTo c blocks link t → CannotGrow (shapes_on m tables link)
  chain_ends zero t link linked count below leads = absurd (omega (arith, count, below, is_last))
  chain_ends (suc zero) t link linked count below leads =
      let is : last ≡ t = omega (arith, count, is_last) in
      subst (λ (shape : ℕ × ℕ). CannotBeFollowed shape.0 shape.1) (sym (shape_is t link leads (omega (arith, below, is_last)))) (subst (λ (u : ℕ). CannotBeFollowed (c.len u) u) is ends)
  chain_ends (suc (suc tables)) t link linked count below leads =
      chain_ends (suc tables) (suc t) (behind m link) (omega (arith, linked)) (omega (arith, count)) (omega (arith, count, is_last))
      (goes_on t link linked leads (omega (arith, below, is_last)))

  -- so many they are
  all_linked : (c.first < c.past) × (c.first + (c.past - c.first) ≡ c.past)
  all_linked = let first = stands.map.rule.common.rooted (omega (arith, is_last)) in (first, omega (arith, first))

  -- where the root leads
  pub grows_no_more : (root : ℕ) → word_at m (Root setting.root) ≡ Some root → CannotGrowIn m setting
  grows_no_more root read =
      subst (λ (link : ℕ). (tables : CountsTables m link) × CannotGrow (shapes_on m tables.0 link)) (sym (ap word_or_none read)) (
        (c.past - c.first, (chain_shown eq hash m setting c blocks stands (c.past - c.first) c.first root (omega arith) all_linked.1 leads).0),
        chain_ends (c.past - c.first) c.first root (omega arith) all_linked.1 (let first = all_linked.0 in omega (arith, first, is_last)) leads,
      )
    where
      leads : LeadsTo c blocks root c.first
      leads = links.root_leads_on eq hash m setting c blocks stands root read
