-- Lines worked by hand from the rules of what is printed: examples that the definitions of specs/Text.antt have to give. Nothing cites them.
use Rattle.std.proofs.Common.{◌≡◌, ◌^◌, [], ◌∷◌, refl}
use Rattle.std.specs.Prelude.{codes, Some, None, map}
use Rattle.std.specs.List.{filter_map}
use Rattle.std.specs.Fmt.{digits}
use Rattle.seize_words.specs.declared.fault.Fault.TheVariants.{ForeignGuard, ZeroChunk, Capacity, SlotsUsedUp, CollectorsUsedUp, RootsUsedUp, GuardsFull, RemoveNothing, Busy, Memory}
use Rattle.run_schedules.specs.declared.call.Response.TheVariants.{Stored, Occupied, Kept, Inserted, Updated, Removed, Aborted, Completed, Counted}
use Rattle.run_schedules.specs.declared.effect.Effect.TheVariants.{Promoted, Deferred, Retired, Reclaimed, Ended, Taken}
use Rattle.run_schedules.specs.declared.effect.TableId.{TableId}
use Rattle.run_schedules.specs.declared.effect.Thing.TheVariants.{APair, ATable}
use Rattle.run_schedules.specs.declared.outcome.Outcome.TheVariants.{Goes, Asks, Waits, Ready, Shows, Answered}
use Rattle.run_schedules.specs.declared.ended.Living.{Living}
use Rattle.run_schedules.specs.Schedules.Runs.{pair_of}
use Rattle.reclaimed_script.specs.Outputs.{refused_line}
use Rattle.reclaimed_engine.specs.PrintedText.Ascending.{ascending}
use Rattle.reclaimed_engine.specs.PrintedText.Text.{WordPair, WordRun, answer_line, back_lines, entry, fault_line, key_and_value, name_number, map_line, outcome_line, shape_line, tag, waiting_line}

light : WordPair
light = record { number = 4; key = 7; value = codes "x" }

one : WordPair
one = record { number = 1; key = 3; value = codes "one" }

two : WordPair
two = record { number = 2; key = 100; value = codes "two" }

five : WordPair
five = record { number = 5; key = 20; value = codes "five" }

six : WordPair
six = record { number = 6; key = 100; value = codes "six" }

first_table : TableId
first_table = record { map = 0; turn = 0 }

stored_light : (run : WordRun) → pair_of run 4 ≡ Some light → answer_line run (Stored 4) ≡ codes "stored #4 7 x\n"
unfolding digits light
stored_light run e = rw e refl

occupied_by_light : (run : WordRun) → pair_of run 4 ≡ Some light → answer_line run (Occupied 4 (codes "y")) ≡ codes "occupied #4 7 x y\n"
unfolding digits light
occupied_by_light run e = rw e refl

done_on_the_whole_map : (run : WordRun) → outcome_line run (Answered Completed) ≡ codes "ok\n"
done_on_the_whole_map run = refl

kept_light : (run : WordRun) → pair_of run 4 ≡ Some light → answer_line run (Kept 4) ≡ codes "kept #4 7 x\n"
unfolding digits light
kept_light run e = rw e refl

inserted_light : (run : WordRun) → pair_of run 4 ≡ Some light → answer_line run (Inserted 4) ≡ codes "inserted #4 7 x\n"
unfolding digits light
inserted_light run e = rw e refl

updated_two : (run : WordRun) → pair_of run 2 ≡ Some two → pair_of run 6 ≡ Some six → answer_line run (Updated 2 6) ≡ codes "updated #2 100 two #6 100 six\n"
unfolding digits two six
updated_two run e f = rw (e, f) refl

removed_light : (run : WordRun) → pair_of run 4 ≡ Some light → answer_line run (Removed 4) ≡ codes "removed #4 7 x\n"
unfolding digits light
removed_light run e = rw e refl

aborted : (run : WordRun) → answer_line run (Aborted (codes "w_1")) ≡ codes "aborted w_1\n"
aborted run = refl

ten_pairs : (run : WordRun) → answer_line run (Counted 10) ≡ codes "len 10\n"
unfolding digits
ten_pairs run = refl

asks_about_none : (run : WordRun) → outcome_line run (Asks None) ≡ codes "asks none\n"
asks_about_none run = refl

asks_about_light : (run : WordRun) → pair_of run 4 ≡ Some light → outcome_line run (Asks (Some 4)) ≡ codes "asks #4 7 x\n"
unfolding digits light
asks_about_light run e = rw e refl

shows_light : (run : WordRun) → pair_of run 4 ≡ Some light → outcome_line run (Shows 4) ≡ codes "some #4 7 x\n"
unfolding digits light
shows_light run e = rw e refl

waits : (run : WordRun) → outcome_line run Waits ≡ codes "waits\n"
waits run = refl

ready : (run : WordRun) → outcome_line run Ready ≡ codes "ready\n"
ready run = refl

goes_on : (run : WordRun) → outcome_line run Goes ≡ codes "goes\n"
goes_on run = refl

shape_of_no_table : shape_line [] ≡ codes "shape\n"
shape_of_no_table = refl

shape_of_two_tables : shape_line (record { len = 8; limit = 7 } ∷ record { len = 16; limit = 15 } ∷ []) ≡ codes "shape 8:7 16:15\n"
unfolding digits
shape_of_two_tables = refl

shape_of_a_great_table : shape_line (record { len = 8; limit = 7 } ∷ record { len = 281474976710656; limit = 240 } ∷ []) ≡ codes "shape 8:7 281474976710656:240\n"
unfolding digits
shape_of_a_great_table = refl

-- of all that happens to pairs and tables, lines tell what is reclaimed of pairs
back_of_light : (run : WordRun) → pair_of run 4 ≡ Some light → back_lines run (Retired (APair 4) ∷ Deferred 4 first_table ∷ Promoted first_table ∷ Retired (ATable first_table) ∷ Reclaimed (ATable first_table) ∷ Taken first_table ∷ Reclaimed (APair 4) ∷ []) ≡ codes "back #4 7 x\n"
unfolding digits light
back_of_light run e = rw e refl

-- a pair that was still in the map as the map ended has the line of a pair that had left it
ended_light : (run : WordRun) → pair_of run 4 ≡ Some light → back_lines run (Ended 4 ∷ []) ≡ codes "back #4 7 x\n"
unfolding digits light
ended_light run e = rw e refl

-- each refusal by its number and its name
refusals : map refused_line (ForeignGuard ∷ ZeroChunk ∷ Capacity ∷ SlotsUsedUp ∷ CollectorsUsedUp ∷ RootsUsedUp ∷ GuardsFull ∷ RemoveNothing ∷ Busy ∷ Memory ∷ [])
    ≡ codes "refused 1 ForeignGuard\n" ∷ codes "refused 2 ZeroChunk\n" ∷ codes "refused 3 Capacity\n" ∷ codes "refused 4 SlotsUsedUp\n" ∷ codes "refused 5 CollectorsUsedUp\n"
    ∷ codes "refused 6 RootsUsedUp\n" ∷ codes "refused 7 GuardsFull\n" ∷ codes "refused 8 RemoveNothing\n" ∷ codes "refused 9 Busy\n" ∷ codes "refused 10 Memory\n" ∷ []
unfolding digits
refusals = refl

-- the pairs that ended with their map and one that had left it, in the order of the effects
backs_in_order : (run : WordRun) → pair_of run 2 ≡ Some two → pair_of run 4 ≡ Some light → pair_of run 1 ≡ Some one
    → back_lines run (Ended 2 ∷ Retired (APair 3) ∷ Reclaimed (APair 4) ∷ Ended 1 ∷ []) ≡ codes "back #2 100 two\nback #4 7 x\nback #1 3 one\n"
unfolding digits light one two
backs_in_order run e f g = rw (e, f, g) refl

tag_of_ten : tag 10 ≡ codes " #10"
unfolding digits
tag_of_ten = refl

key_and_value_of_light : key_and_value (Some light) ≡ codes " 7 x"
unfolding digits light
key_and_value_of_light = refl

entry_of_light : entry light ≡ codes " 7:x"
unfolding digits light
entry_of_light = refl

none_waiting : waiting_line [] ≡ codes "waiting\n"
none_waiting = refl

two_waiting : waiting_line (3 ∷ 12 ∷ []) ≡ codes "waiting #3 #12\n"
unfolding digits
two_waiting = refl

fault_on_line_two : fault_line 2 (codes "no such event") ≡ codes "line 2: no such event\n"
unfolding digits
fault_on_line_two = refl

fault_on_line_twelve : fault_line 12 (codes "unknown event") ≡ codes "line 12: unknown event\n"
unfolding digits
fault_on_line_twelve = refl

keys_ascend : ascending (λ key. key) (30 ∷ 4 ∷ 100 ∷ 5 ∷ []) ≡ 4 ∷ 5 ∷ 30 ∷ 100 ∷ []
keys_ascend = refl

-- a name comes before those that it begins, and a capital letter before a small one
names_in_order : ascending (λ name. name_number (2 ^ 120) name) (codes "ba" ∷ codes "b" ∷ codes "a2" ∷ codes "B" ∷ codes "a10" ∷ []) ≡ codes "B" ∷ codes "a10" ∷ codes "a2" ∷ codes "b" ∷ codes "ba" ∷ []
names_in_order = refl

-- the pairs of a map, which were not stored in the order of their keys
map_of_three : (run : WordRun) (living : Living) → living.name ≡ codes "m2" → filter_map (pair_of run) living.pairs.items ≡ six ∷ one ∷ five ∷ []
    → map_line run living ≡ codes "map m2 3:one 20:five 100:six\n"
unfolding digits one five six
map_of_three run living named pairs = rw (named, pairs) refl
