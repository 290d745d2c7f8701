-- Each step of a making of a table: it may be taken, and where it leads.
use Rattle.std.specs.Prelude.{◌≡◌, ℕ, Bool}
use Rattle.std.specs.Int.{IsPowerOfTwo}
use Rattle.std.proofs.Common.{refl, sym, subst, inl, inr}
use Rattle.map_rule.specs.Given.SeizeWordsMem.{Mem, Can, Took, value_at}
use Rattle.map_rule.specs.Given.SeizeWordsPlan.{May, Steps}
use Rattle.map_rule.specs.Given.SeizeWordsDeclared.at.At.{At}
use Rattle.papaya_raw.specs.Given.SeizeWorld.{World}
use Rattle.papaya_raw.specs.Given.SeizeDeclared.advance.Advance.{Advance}
use Rattle.papaya_raw.specs.Given.SeizeDeclared.advance.Advance.TheVariants as progress
use Rattle.map_rule.specs.Given.ResizeNewTable.{plan_at, new_table_plan}
use Rattle.papaya_raw.specs.Given.TablesDeclared.node.Node.{Node}
use Rattle.papaya_raw.specs.Given.TablesDeclared.resize_mode.ResizeMode.{ResizeMode}
use Rattle.papaya_raw.specs.Given.TablesDeclared.setting.Setting.{Setting}
use Rattle.papaya_raw.specs.Given.TablesDeclared.table.Table.{Table}
use Rattle.map_rule.specs.Given.ResizeDeclared.new_table.NewTable.{NewTable}
use Rattle.map_rule.specs.Given.ResizeDeclared.new_table.Making.{Making as Point}
use Rattle.map_rule.specs.Given.ResizeDeclared.new_table.Making.TheVariants as at
use Rattle.map_rule.specs.Chart.{Chart}
use Rattle.map_rule.specs.Rule.{IsLawful}
use Rattle.map_rule.specs.Words.{Blocks}
use Rattle.map_rule.specs.Maps.{spot_of}
use Rattle.map_rule.specs.InWorld.{IsMapIn, StepSpec, SparesPairs}
use Rattle.map_facts.specs.FactsTables.{IsLinkOf, MakingFacts, NewTableFacts}
use Rattle.map_facts.specs.Told.{NewTableOutcome, OnlyLinks, LinksLast}
use Rattle.map_facts.specs.Measures.{IsBelow}
use Rattle.map_facts.specs.MeasuresTables.{number_of_new_table}
use Rattle.map_rule.proofs.World.WentTold.{went_as}
use Rattle.map_facts.proofs.Making.EndsNewTable.{new_table_lowers}
use Rattle.map_facts.proofs.Making.TableMade.{NewTableTells, NewTableWent, told_still, may_sums, went_sums, may_makes, went_makes, may_promotes, went_promotes}
use Rattle.map_facts.proofs.Making.TableLinks.{may_links, went_links}
use Rattle.map_facts.proofs.Making.TableDrops.{may_drops, went_drops}

-- what only links leaves the pairs of the map
pub links_current : {K : Type 0} (hash : K → ℕ) (mode : ResizeMode) (c c2 : Chart K) → OnlyLinks hash mode c c2 → c2.current ≡ c.current
links_current hash mode c c2 (inl e) = subst (λ (x : Chart _). x.current ≡ c.current) (sym e) refl
links_current hash mode c c2 (inr l) = subst (λ (x : Chart _). x.current ≡ c.current) (sym l.2) refl

pub only_links : {K : Type 0} (hash : K → ℕ) (mode : ResizeMode) (turn : ℕ) (c c2 : Chart K) (end : NewTable × Advance Table) → LinksLast hash mode turn c c2 end → OnlyLinks hash mode c c2
only_links hash mode turn c c2 end (inl e) = inl e
only_links hash mode turn c c2 end (inr l) = inr (l.1.len, l.1.limit, l.3)

-- if the step goes on, its number is lower
abbrev pub Lowers : NewTable → NewTable × Advance Table → Type 0
Lowers n end = end.1 ≡ progress.Goes → IsBelow (number_of_new_table end.0) (number_of_new_table n)

module _ {K V : Type 0} (same : K → K → Bool) (hash : K → ℕ) (w : World (Node K V)) (setting : Setting) (c : Chart K) (blocks : Blocks) (map : IsMapIn same hash setting w c blocks) where
  module _ (caller : ℕ) (link : At) (turn : ℕ) (initial_is : IsPowerOfTwo setting.initial) where
    module _ (n : NewTable) (setting_is : n.setting ≡ setting) (link_is : n.link ≡ link) (of : IsLinkOf setting c blocks link turn) where
      may_at : (stands : Point) → MakingFacts w caller setting c blocks link turn stands → May Can Took value_at w.memory (plan_at n stands)
      may_at (at.Sums before reason sum) facts = may_sums same hash w caller setting c blocks link turn map n setting_is link_is of initial_is before reason sum facts.0 facts.1
      may_at (at.Makes table) facts = may_makes same hash w caller setting c blocks link turn map n setting_is link_is of table facts.0 facts.1
      may_at (at.Promotes table) facts = may_promotes same hash w caller setting c blocks link turn map n setting_is link_is of table facts.0 facts.1 facts.2
      may_at (at.Links table) facts = may_links same hash w caller setting c blocks link turn map n setting_is link_is of table facts.0 facts.1
      may_at (at.Drops table found) (own, u, at_turn, made, known, found_is, planned) =
          may_drops same hash w caller setting c blocks map n table _ own found u made known found_is
      may_at (at.Over table) facts = tt
      may_at (at.Refused fault) facts = tt

      went_at : IsLawful same (spot_of hash) → (stands : Point) → MakingFacts w caller setting c blocks link turn stands → (m2 : Mem (Node K V)) (end : NewTable × Advance Table)
          → Steps Took value_at w.memory (plan_at n stands) m2 end → NewTableWent same hash w caller setting c blocks link turn m2 end
      went_at lawful (at.Sums before reason sum) facts m2 end s =
          went_sums same hash w caller setting c blocks link turn map n setting_is link_is of initial_is before reason sum facts.0 facts.1 m2 end s
      went_at lawful (at.Makes table) facts m2 end s = went_makes same hash w caller setting c blocks link turn map n setting_is link_is of table facts.0 facts.1 m2 end s
      went_at lawful (at.Promotes table) facts m2 end s =
          went_promotes same hash w caller setting c blocks link turn map n setting_is link_is of table facts.0 facts.1 facts.2 m2 end s
      went_at lawful (at.Links table) facts m2 end s = went_links same hash w caller setting c blocks link turn map n setting_is link_is of table facts.0 facts.1 lawful m2 end s
      went_at lawful (at.Drops table found) (own, u, at_turn, made, known, found_is, planned) m2 end s =
          went_drops same hash w caller setting c blocks map n table _ own found u made known found_is link turn at_turn m2 end s
      went_at lawful (at.Over table) facts m2 end s =
          told_still same hash w caller setting c blocks link turn map m2 s.0 end
          (subst (λ (e : NewTable × Advance Table). NewTableOutcome w caller setting c blocks link turn e) (sym s.1) facts)
      went_at lawful (at.Refused fault) facts m2 end s =
          told_still same hash w caller setting c blocks link turn map m2 s.0 end
          (subst (λ (e : NewTable × Advance Table). NewTableOutcome w caller setting c blocks link turn e) (sym s.1) tt)

    pub may_new_table : (n : NewTable) → NewTableFacts w caller setting c blocks link turn n → May Can Took value_at w.memory (new_table_plan n)
    may_new_table n facts = may_at n facts.setting_is facts.link_is facts.link_of n.stands facts.point

    -- each step that goes on is one of those left, and a table is linked by a last step
    pub went_new_table_lowers : IsLawful same (spot_of hash) → (n : NewTable) → NewTableFacts w caller setting c blocks link turn n → (m2 : Mem (Node K V)) (end : NewTable × Advance Table)
        → Steps Took value_at w.memory (new_table_plan n) m2 end
        → StepSpec same hash setting caller w c blocks m2
        (λ w2 c2 blocks2. SparesPairs w w2 × LinksLast hash setting.mode turn c c2 end × NewTableOutcome w2 caller setting c2 blocks2 link turn end × Lowers n end)
    went_new_table_lowers lawful n facts m2 end s =
        went_as same hash setting caller w c blocks m2 (NewTableTells same hash w caller setting c blocks link turn end)
        (λ w2 c2 blocks2. SparesPairs w w2 × LinksLast hash setting.mode turn c c2 end × NewTableOutcome w2 caller setting c2 blocks2 link turn end × Lowers n end)
        (λ w2 c2 blocks2 map2 moved same_blocks told. (told.0, told.1, told.2, new_table_lowers w.memory n m2 end s))
        (went_at n facts.setting_is facts.link_is facts.link_of lawful n.stands facts.point m2 end s)

    pub went_new_table : IsLawful same (spot_of hash) → (n : NewTable) → NewTableFacts w caller setting c blocks link turn n → (m2 : Mem (Node K V)) (end : NewTable × Advance Table)
        → Steps Took value_at w.memory (new_table_plan n) m2 end
        → StepSpec same hash setting caller w c blocks m2 (λ w2 c2 blocks2. SparesPairs w w2 × OnlyLinks hash setting.mode c c2 × NewTableOutcome w2 caller setting c2 blocks2 link turn end)
    went_new_table lawful n facts m2 end s =
        went_as same hash setting caller w c blocks m2
        (λ w2 c2 blocks2. SparesPairs w w2 × LinksLast hash setting.mode turn c c2 end × NewTableOutcome w2 caller setting c2 blocks2 link turn end × Lowers n end)
        (λ w2 c2 blocks2. SparesPairs w w2 × OnlyLinks hash setting.mode c c2 × NewTableOutcome w2 caller setting c2 blocks2 link turn end)
        (λ w2 c2 blocks2 map2 moved same_blocks told. (told.0, only_links hash setting.mode turn c c2 end told.1, told.2))
        (went_new_table_lowers lawful n facts m2 end s)
