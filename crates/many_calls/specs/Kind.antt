-- Which kind of call one is: what it does where its key is in the map, and where it is not, and which replies it takes.
use Rattle.map_facts_late.specs.Given.RawDeclared.machines.answer.Missing.{Missing}
use Rattle.map_facts_late.specs.Given.RawDeclared.machines.answer.Missing.TheVariants as missing
use Rattle.map_facts_late.specs.Given.RawDeclared.machines.answer.There.{There}
use Rattle.map_facts_late.specs.Given.RawDeclared.machines.answer.There.TheVariants as there
use Rattle.map_facts_late.specs.Given.RawDeclared.machines.asking.Takes.{Takes}
use Rattle.map_facts_late.specs.Given.RawDeclared.machines.asking.Takes.TheVariants as replies

pub record Kind : Type 0 where
  pub present : There
  pub absent : Missing
  pub takes : Takes

-- those that never ask
abbrev pub gets : Kind
gets = record { present = there.Answers; absent = missing.Answers; takes = replies.Nothing }

abbrev pub removes : Kind
removes = record { present = there.Removes; absent = missing.Answers; takes = replies.Nothing }

abbrev pub inserts : Kind
inserts = record { present = there.Puts; absent = missing.Puts; takes = replies.Nothing }

abbrev pub tries_to_insert : Kind
tries_to_insert = record { present = there.Answers; absent = missing.Puts; takes = replies.Nothing }

-- and those that do
abbrev pub computes : Kind
computes = record { present = there.Asks; absent = missing.Asks; takes = replies.Changes }

abbrev pub updates : Kind
updates = record { present = there.Asks; absent = missing.Answers; takes = replies.Values }

abbrev pub updates_or_inserts : Kind
updates_or_inserts = record { present = there.Asks; absent = missing.Asks; takes = replies.Values }

abbrev pub tries_to_insert_with : Kind
tries_to_insert_with = record { present = there.Answers; absent = missing.Asks; takes = replies.Values }

abbrev pub removes_if : Kind
removes_if = record { present = there.Asks; absent = missing.Answers; takes = replies.Choices }
