-- A map is made with one table, has two pairs, and ends, step by step. And wrong histories of makings and ends.
use Rattle.std.proofs.Common.{◌≡◌, ℕ, true, List, [], ◌∷◌, refl, sym}
use Rattle.seize_words.specs.declared.fault.Fault.TheVariants.{Memory}
use Rattle.papaya_raw.specs.Given.TablesDeclared.resize_mode.ResizeMode.TheVariants.{Incremental}
use Rattle.run_schedules.specs.declared.shapes.TableShape.{TableShape}
use Rattle.run_schedules.specs.declared.call.Response.TheVariants as answer
use Rattle.run_schedules.specs.declared.call.Call.TheVariants.{On}
use Rattle.run_schedules.specs.declared.call.OneKey.TheVariants.{Insert}
use Rattle.run_schedules.specs.declared.effect.Effect.{Effect}
use Rattle.run_schedules.specs.declared.effect.Effect.TheVariants.{Asked, Ended, Linked, PairMade, Stored, TableMade, Taken}
use Rattle.run_schedules.specs.declared.effect.Growth.TheVariants.{ABlock}
use Rattle.run_schedules.specs.declared.effect.TableId.{TableId}
use Rattle.run_schedules.specs.declared.outcome.Outcome.TheVariants.{Answered, Done, Goes, Refused}
use Rattle.run_schedules.specs.Deeds.Deeds.{Begins, Ends, Entry, Makes, MapComes, MapFails, MapGoes, Opens, Steps}
use Rattle.run_schedules.specs.Deeds.History.{MovesOn}
use Rattle.run_schedules.proofs.Samples.Deeds.{entry, one_none, spot}
use Rattle.run_schedules.proofs.Samples.Schedules.Words.{small as terms}
use Rattle.seize_words.proofs.General.{true_not_false as yes_no}

abbrev first : TableId
first = record { map = 0; turn = 0 }

abbrev shape : TableShape
shape = record { len = 8; limit = 7 }

-- for six pairs a map is made, with a counter and a table
abbrev opened : List (Entry ℕ ℕ)
opened = entry (Makes 0) Goes (Asked ABlock ∷ []) ∷ entry (MapComes 0 0 (Incremental 64) 6) Goes [] ∷ []

abbrev tabled : List (Entry ℕ ℕ)
tabled = entry (Makes 0) Goes (Asked ABlock ∷ TableMade first ∷ []) ∷ opened

abbrev links : Entry ℕ ℕ
links = entry (Makes 0) Done (Linked first shape ∷ [])

abbrev pub made : List (Entry ℕ ℕ)
made = links ∷ tabled

makes_right : MovesOn terms tabled links
unfolding lib.Count.count_leading_zeros
makes_right = record { finds = ((refl, (refl, refl, (refl, refl))), tt); may = refl; granted = refl; refuses = tt; whole = (refl, refl); leaves = tt }

-- two calls store a pair each, at the places 5 and 2
abbrev stores : ℕ → ℕ → ℕ → List (Entry ℕ ℕ) → List (Entry ℕ ℕ)
stores key number place log =
    entry (Steps 0) (Answered answer.Absent) []
    ∷ entry (Steps 0) Goes (Stored number (spot place) ∷ [])
    ∷ entry (Steps 0) Goes (Asked ABlock ∷ PairMade ∷ [])
    ∷ entry (Begins 0 0 0 (On (Insert key 10))) Goes []
    ∷ log

abbrev pub filled : List (Entry ℕ ℕ)
filled = stores 2 2 2 (stores 5 1 5 (entry (Opens 0) Done [] ∷ made))

-- It ends: the pair at the place 2 is reclaimed, then the other one, then the table, and then the root is left.
abbrev takes : Effect → Entry ℕ ℕ
takes effect = entry (Ends 0) Goes (effect ∷ [])

abbrev emptied : List (Entry ℕ ℕ)
emptied = takes (Ended 1) ∷ takes (Ended 2) ∷ filled

abbrev goes : Entry ℕ ℕ
goes = entry (MapGoes 0) Done []

takes_first : MovesOn terms filled (takes (Ended 2))
takes_first = record { finds = ((refl, refl), tt); may = refl; granted = refl; refuses = tt; whole = tt; leaves = tt }

takes_table : MovesOn terms emptied (takes (Taken first))
takes_table = record { finds = ((refl, refl), tt); may = refl; granted = refl; refuses = tt; whole = tt; leaves = tt }

goes_right : MovesOn terms (takes (Taken first) ∷ emptied) goes
goes_right = record { finds = tt; may = refl; granted = refl; refuses = tt; whole = (refl, refl); leaves = tt }

-- Wrong: the later pair ends first; the table is taken while there is a pair; the map goes with its table, or with a pair.
later_first : MovesOn terms filled (takes (Ended 1)) → ⊥
later_first is = yes_no (sym is.finds.0.1)

table_first : MovesOn terms (takes (Ended 2) ∷ filled) (takes (Taken first)) → ⊥
table_first is = one_none is.finds.0.0

two_none : ◌≡◌ {A = ℕ} 2 0 → ⊥
two_none h = cc

goes_full : MovesOn terms filled goes → ⊥
goes_full is = two_none is.whole.0

some_none : {X : Type 0} (x : X) → x ∷ [] ≡ [] → ⊥
some_none x h = cc

goes_early : MovesOn terms emptied goes → ⊥
goes_early is = some_none _ is.whole.1

-- The map's going makes no table.
goes_making : MovesOn terms emptied (entry (MapGoes 0) Done (Asked ABlock ∷ TableMade first ∷ [])) → ⊥
goes_making is = yes_no (sym is.may)

-- Wrong: it is made for six pairs and has no table; one is made and not linked; a making is refused that has made one.
makes_none : MovesOn terms opened (entry (Makes 0) Done []) → ⊥
makes_none is = one_none (sym is.whole.1)

leaves_one : MovesOn terms tabled (entry (Makes 0) Done []) → ⊥
leaves_one is = one_none (sym is.whole.0)

fails_late : MovesOn terms tabled (entry (MapFails 0) (Refused Memory) []) → ⊥
fails_late is = one_none is.whole.0

-- One that is refused has made none: it asked, and nothing was made.
abbrev asks : List Effect → Entry ℕ ℕ
asks effects = record { deed = Makes 0; outcome = Goes; effects = effects; refused = true }

fails_right : MovesOn terms (asks (Asked ABlock ∷ []) ∷ entry (MapComes 0 0 (Incremental 64) 6) Goes [] ∷ []) (entry (MapFails 0) (Refused Memory) [])
fails_right = record { finds = tt; may = refl; granted = refl; refuses = tt; whole = (refl, refl); leaves = tt }

refused_made : MovesOn terms opened (asks (Asked ABlock ∷ TableMade first ∷ [])) → ⊥
refused_made is = yes_no is.refuses.1
