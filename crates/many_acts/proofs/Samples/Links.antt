-- What the definitions refuse, in a memory of two tables of one place, of which the root names the first, and that names the second: a table that was unlinked
-- while the one before still names it; a root that still leads to one that was; a section that does not see the next table.
use Rattle.std.specs.Prelude.{Option, Some, None}
use Rattle.std.proofs.Common.{◌≡◌, ◌≢◌, ◌<◌, ℕ, true, false, List, [], ◌∷◌, inl, inr, refl, arith, ap}
use Rattle.run_shows.specs.Given.SeizeWordsMem.{Mem, word_at}
use Rattle.run_shows.specs.Given.SeizeWordsWord.{link_to}
use Rattle.run_shows.specs.Given.SeizeWordsDeclared.at.At.TheVariants.{Root}
use Rattle.run_shows.specs.Given.SeizeWordsDeclared.block.Block.{Block}
use Rattle.run_shows.specs.Given.SeizeLaw.{Effect, Linked, Unlinked, Ended, is_over}
use Rattle.run_shows.specs.Given.SeizeWorld.{World, Rests, Vacant, NoBlock}
use Rattle.run_shows.specs.Given.TablesDeclared.node.Node.{Node}
use Rattle.run_shows.specs.Given.TablesDeclared.node.Node.TheVariants as node
use Rattle.run_shows.specs.Given.TablesDeclared.table_words.TheConstants.{NEXT}
use Rattle.run_shows.specs.Given.RuleInWorld.{IsKnownBlock}
use Rattle.owner_facts.specs.Given.CallersSights.{seen_by}
use Rattle.owner_facts.specs.Given.FinishesMaps.{Standing}
use Rattle.many_acts.specs.Links.Tied.{TableNames, RootNames, LinksLead, IsTied, IsClosed, unlinkings, UnlinksWhatNoneNames}
use Rattle.run_shows.proofs.Given.General.{false_not_true as not_true}

-- both tables are linked, and the second one is unlinked
abbrev both_linked : List Effect
both_linked = Linked 2 7 ∷ Linked 1 7 ∷ []

abbrev second_cut : List Effect
second_cut = Unlinked 2 ∷ Linked 2 7 ∷ Linked 1 7 ∷ []

second_was_cut : unlinkings 2 both_linked < unlinkings 2 second_cut
second_was_cut = omega arith

-- where it was over as its owner ended, the first one says nothing any more
over_says_nothing : is_over 1 (Unlinked 2 ∷ Ended 7 ∷ Linked 2 7 ∷ Linked 1 7 ∷ []) ≡ true
over_says_nothing = refl

module _ (K V : Type 0) where
  -- a table of one place, with this turn, and this link to the next one
  abbrev table : ℕ → ℕ → Block (Node K V)
  table turn next = record { value = node.Table 1 0 turn; entry = 0 ∷ 0 ∷ 0 ∷ 0 ∷ []; words = next ∷ 0 ∷ 0 ∷ 0 ∷ 0 ∷ 0 ∷ [] }

  abbrev two_tables : Mem (Node K V)
  two_tables = record { roots = link_to 1 ∷ []; used = 1 ∷ []; slots = []; blocks = Some (table 0 (link_to 2)) ∷ Some (table 1 0) ∷ []; choices = [] }

  -- with this log
  abbrev told_as : List Effect → World (Node K V)
  told_as log = record { memory = two_tables; row = λ i. Rests; uses = λ s. Vacant; hand = λ b. NoBlock; log = log }

  abbrev no_maps : ℕ → Option (Standing K)
  no_maps m = None

  -- the first table names the second
  first_names : TableNames two_tables 1 2
  first_names = (0, 0, 0, NEXT, refl, inl refl, (link_to 2, refl, refl, omega arith))

  -- A world is not tied in which the second one can't be reached: the first one can be, and names it.
  second_is_named : LinksLead (told_as second_cut) no_maps 2
  second_is_named = inr (1, refl, refl, first_names)

  second_untied : IsTied (told_as second_cut) no_maps → ⊥
  second_untied tied = not_true (tied 2 second_is_named)

  -- So no step may have unlinked it.
  second_not_unlinked : UnlinksWhatNoneNames (told_as both_linked) (told_as second_cut) no_maps → ⊥
  second_not_unlinked unlinks = (unlinks 2 second_was_cut).2 second_is_named

  -- With a map that stands at this root, links lead to the first table, and on to the second.
  module _ (s : Standing K) (at_root : s.setting.root ≡ 0) where
    abbrev one_map : ℕ → Option (Standing K)
    one_map m = Some s

    root_names : (log : List Effect) → RootNames (told_as log) one_map 1
    root_names log = (0, s, refl, (link_to 1, ap (λ (r : ℕ). word_at two_tables (Root r)) at_root, refl, omega arith))

    both_are_named : (log : List Effect) → LinksLead (told_as log) one_map 2
    both_are_named log = inl (1, (1, root_names log, first_names))

    -- The root must not name a table that can't be reached, nor may one that can be name one that was never linked.
    root_untied : IsTied (told_as (Unlinked 1 ∷ Linked 1 7 ∷ [])) one_map → ⊥
    root_untied tied = not_true (tied 1 (inl (0, root_names (Unlinked 1 ∷ Linked 1 7 ∷ []))))

    behind_untied : IsTied (told_as (Linked 1 7 ∷ [])) one_map → ⊥
    behind_untied tied = not_true (tied 2 (both_are_named (Linked 1 7 ∷ [])))

    -- A section that sees the first table of this map alone does not see all that links lead to.
    module _ (slot : ℕ) (made : 0 < s.chart.past) (first_at : 1 ≡ s.blocks.table 0) (seen : (s.sights slot).tables 0 ≡ true)
        (alone : (t : ℕ) → t < s.chart.past → (s.sights slot).tables t ≡ true → 2 ≢ s.blocks.table t) (no_pair : (n : ℕ) → n < s.chart.stored → (s.sights slot).pairs n ≡ false) where
      not_closed : IsClosed (told_as both_linked) s slot → ⊥
      not_closed closed = by (closed.tables 1 2 (inl (0, made, seen, first_at)) first_names)
        where
          by : IsKnownBlock s.chart (seen_by s.blocks (s.sights slot)) 2 → ⊥
          by (inl (t, low, is_seen, is)) = alone t low is_seen is
          by (inr (n, low, is_seen, is)) = let none = no_pair n low in cc (none, is_seen)
