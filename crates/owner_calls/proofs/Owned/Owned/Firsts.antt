-- One owner's map that was just made has the tables that it was made with, and its memory shows them.
use Rattle.std.specs.Prelude.{◌≡◌, ℕ, zero, suc, ◌≤◌, max, Bool, List, [], ◌∷◌, if◌then◌else◌, Some}
use Rattle.std.proofs.Common.{refl, sym, ◌∙◌, ap, subst, arith, inl, inr}
use Rattle.std.proofs.lemmas.Bool.{eq-eqb, ne_eqb}
use Rattle.seize_words.specs.OneMemory.Mem.{Mem, word_at}
use Rattle.seize_words.specs.declared.at.At.TheVariants.{Root}
use Rattle.map_tables.specs.declared.node.Node.{Node}
use Rattle.map_tables.specs.declared.setting.Setting.{Setting}
use Rattle.map_straight.specs.Shown.Chain.{CountsTables, behind, shape_of, shapes_on, word_or_none}
use Rattle.map_straight.specs.Shown.Shown.{HasMap}
use Rattle.map_straight.proofs.Shown.Chains.{behind_leads}
use Rattle.map_straight.proofs.Shown.Links.{root_leads_on}
use Rattle.map_straight.specs.Given.RuleChart.{Chart}
use Rattle.map_straight.specs.Given.RuleLinks.{LeadsTo}
use Rattle.map_straight.specs.Given.RuleWords.{Blocks, root_word}
use Rattle.map_straight.proofs.Given.RuleLaws.{links_have_tables}
use Rattle.owner_whole.specs.Given.FinishesMakings.{IsNewChart}
use Rattle.owner_calls.specs.Owned.Owned.{Holds}
use Rattle.owner_calls.specs.Owned.Rooms.{RepresentTables, tables_with}
use Rattle.owner_calls.proofs.Owned.Walks.{holds_stands}

-- at a link there are tables of these places and turns
abbrev AreAt : {K V : Type 0} → Mem (Node K V) → ℕ → List (ℕ × ℕ) → Type 0
AreAt m link shapes = (tables : CountsTables m link) × (shapes_on m tables.0 link ≡ shapes)

shape_as : (a b x y : ℕ) (shape : ℕ × ℕ) → shape ≡ (a, b) → a ≡ x → b ≡ y → shape ≡ (x, y)
shape_as a b x y shape is first second = subst (λ (u : ℕ). shape ≡ (x, u)) second (subst (λ (u : ℕ). shape ≡ (u, b)) first is)

module _ {K V : Type 0} (same : K → K → Bool) (hash : K → ℕ) (m : Mem (Node K V)) (setting : Setting) (c : Chart K) (blocks : Blocks) (stands : HasMap same hash m setting c blocks) where
  -- a link leads nowhere behind the last table
  ends_at : (link t : ℕ) → LeadsTo c blocks link t → c.past ≤ t → link ≡ 0
  ends_at link t (inl nowhere) last = nowhere.0
  ends_at link t (inr there) last = let made = there.1 in absurd (omega (arith, made, last))

  -- one leads to the first table, where it is the only one
  one_at : (link len : ℕ) → LeadsTo c blocks link c.first → c.past ≡ 1 → c.first ≡ 0 → c.len 0 ≡ len → AreAt m link ((len, 0) ∷ [])
  one_at link len (inl nowhere) one first has = let over = nowhere.1 in absurd (omega (arith, over, one, first))
  one_at link len (inr there) one first has =
      let found = links_have_tables same hash setting.mode setting.root m c blocks stands.map link c.first there in
      let next = subst (λ (l : ℕ). LeadsTo c blocks (behind m l) (suc c.first)) (sym there.0) (behind_leads same hash m setting c blocks stands c.first (omega arith) there.1) in (
        (suc zero, (found.0, ends_at (behind m link) (suc c.first) next (omega (arith, one, first)))),
        ap (λ (shape : ℕ × ℕ). shape ∷ []) (shape_as (c.len c.first) c.first len 0 _ (ap shape_of found.1) (ap c.len first ∙ has) first),
      )

module _ {K V : Type 0} (same : K → K → Bool) (hash : K → ℕ) (setting : Setting) (m : Mem (Node K V)) (xs : List (K × V)) (h : Holds same hash setting m xs) (places : ℕ) where
  stands : HasMap same hash m setting h.chart h.blocks
  stands = holds_stands same hash setting m xs h

  root_there : word_at m (Root setting.root) ≡ Some (root_word hash h.chart h.blocks)
  root_there = stands.map.shows.root_there

  leads : LeadsTo h.chart h.blocks (root_word hash h.chart h.blocks) h.chart.first
  leads = root_leads_on same hash m setting h.chart h.blocks stands (root_word hash h.chart h.blocks) root_there

  abbrev by_places : Bool → List (ℕ × ℕ)
  by_places none = if none then [] else (max places 8, 0) ∷ []

  at_root : IsNewChart hash setting places h.chart → AreAt m (root_word hash h.chart h.blocks) (tables_with places)
  at_root (inl none) =
      subst (AreAt m (root_word hash h.chart h.blocks)) (sym (ap by_places (eq-eqb places 0 none.0))) (
        (
          zero,
          ends_at same hash m setting h.chart h.blocks stands (root_word hash h.chart h.blocks) h.chart.first leads
              (let past = ap (λ (c : Chart K). c.past) none.1 in omega (arith, past)),
        ),
        refl,
      )
  at_root (inr some) =
      subst (AreAt m (root_word hash h.chart h.blocks)) (sym (ap by_places (ne_eqb places 0 some.0)))
      (one_at same hash m setting h.chart h.blocks stands (root_word hash h.chart h.blocks) (max places 8) leads
      (ap (λ (c : Chart K). c.past) some.2) (ap (λ (c : Chart K). c.first) some.2) (ap (λ (c : Chart K). c.len 0) some.2))

  pub first_shown : IsNewChart hash setting places h.chart → RepresentTables setting m (tables_with places)
  first_shown new = subst (λ (link : ℕ). AreAt m link (tables_with places)) (sym (ap word_or_none root_there)) (at_root new)
