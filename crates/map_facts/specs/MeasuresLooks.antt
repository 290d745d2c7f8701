-- How far a lookup is from its end, and how many loads it makes.
use Rattle.std.specs.Prelude.{◌≡◌, ℕ, suc, ◌+◌, ◌-◌, ◌≤◌, List, [], ◌∷◌, Option}
use Rattle.map_rule.specs.Given.SeizeWordsDeclared.at.At.{At}
use Rattle.map_rule.specs.Given.SeizeWordsOp.{Load}
use Rattle.map_rule.specs.Given.SeizeWordsPlan.{Plan, Turn, Do}
use Rattle.papaya_raw.specs.Given.SeizeDeclared.advance.Advance.{Advance}
use Rattle.papaya_raw.specs.Given.SeizeDeclared.advance.Advance.TheVariants as progress
use Rattle.papaya_raw.specs.Given.TablesDeclared.table.Table.{Table}
use Rattle.map_rule.specs.Given.ResizeDeclared.lookup.Lookup.{Lookup}
use Rattle.map_rule.specs.Given.ResizeDeclared.lookup.Looking.{Looking}
use Rattle.map_rule.specs.Given.ResizeDeclared.lookup.Looking.TheVariants as at
use Rattle.map_rule.specs.Chart.{Chart}

-- the step makes a load
abbrev pub IsLoad : {T R : Type 0} → Plan T R → Type 0
IsLoad (Turn rest) = ⊥
IsLoad (Do op rest) = (at : At) × (op ≡ Load at)

-- it has found what it looked for, or that there is none
abbrev pub HasEnded : Looking → Type 0
HasEnded (at.Over found) = Unit {0}
HasEnded _ = ⊥

-- One load leads from here to there: from the root to a first try, from a try to the next one or beyond the table, and from there to the
-- first try at the table behind.
abbrev pub LoadLeads : Looking → Looking → Type 0
LoadLeads at.Roots (at.Probes trial) = trial.probe.len ≡ 0
LoadLeads (at.Probes trial) (at.Probes other) = (other.table ≡ trial.table) × (other.probe.len ≡ suc trial.probe.len) × (other.probe.len ≤ trial.table.limit)
LoadLeads (at.Probes trial) (at.Nexts table) = (table ≡ trial.table) × (trial.probe.len ≤ trial.table.limit)
LoadLeads (at.Nexts table) (at.Probes trial) = (trial.table.turn ≡ suc table.turn) × (trial.probe.len ≡ 0)
LoadLeads _ _ = ⊥

-- where a step goes on from here
abbrev pub LookupLeads : Looking → Lookup × Advance (Option ℕ) → Type 0
LookupLeads stands (l, progress.Goes) = LoadLeads stands l.stands
LookupLeads stands (l, _) = Unit {0}

-- tables left, and tries left at this one
abbrev pub number_at_looking : {K : Type 0} → Chart K → Looking → List ℕ
number_at_looking c at.Roots = suc c.past ∷ 0 ∷ []
number_at_looking c (at.Probes trial) = (c.past - trial.table.turn) ∷ suc (trial.table.limit - trial.probe.len) ∷ []
number_at_looking c (at.Nexts table) = (c.past - table.turn) ∷ 0 ∷ []
number_at_looking c (at.Over found) = 0 ∷ 0 ∷ []

-- the numbers of a lookup
abbrev pub number_of_lookup : {K : Type 0} → Chart K → Lookup → List ℕ
number_of_lookup c l = number_at_looking c l.stands

-- the tables entered, the newest first, after a load more
abbrev pub entered : Looking → Looking → List Table → List Table
entered (at.Probes trial) (at.Probes other) tables = tables
entered _ (at.Probes trial) tables = trial.table ∷ tables
entered _ _ tables = tables

-- a lookup that stands here has entered these tables, and made so many loads
pub data HasLooked : Looking → List Table → ℕ → Type 0 where
  begun : HasLooked at.Roots [] 0
  further : (here there : Looking) (tables : List Table) (loads : ℕ) → HasLooked here tables loads → LoadLeads here there
      → HasLooked there (entered here there tables) (suc loads)

-- one for the root, and in each table one for each try and one for the link to the table behind
abbrev pub most_loads : List Table → ℕ
most_loads [] = 1
most_loads (table ∷ tables) = (table.limit + 2) + most_loads tables

-- each table stands behind the one entered before it: none is entered twice
abbrev pub OneBehindTheOther : List Table → Type 0
OneBehindTheOther [] = Unit {0}
OneBehindTheOther (table ∷ []) = Unit {0}
OneBehindTheOther (table ∷ before ∷ tables) = (table.turn ≡ suc before.turn) × OneBehindTheOther (before ∷ tables)

-- with its next load, a lookup has made no more than these
abbrev pub LookupsAreShort : Type 0
LookupsAreShort = (stands : Looking) (tables : List Table) (loads : ℕ) → HasLooked stands tables loads → (suc loads ≤ most_loads tables) × OneBehindTheOther tables
