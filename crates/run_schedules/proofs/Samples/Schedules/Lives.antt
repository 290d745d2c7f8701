-- Wrong lives of pairs, tables and blocks.
use Rattle.std.specs.Prelude.{codes, nat_eq, ◌+◌}
use Rattle.std.proofs.Common.{◌≡◌, ℕ, zero, suc, List, [], ◌∷◌, arith, Some, None}
use Rattle.run_schedules.specs.declared.call.Call.TheVariants.{On}
use Rattle.run_schedules.specs.declared.call.OneKey.TheVariants.{Insert}
use Rattle.run_schedules.specs.declared.call.Response.TheVariants as answer
use Rattle.run_schedules.specs.declared.event.Event.TheVariants.{Refresh, Flush}
use Rattle.run_schedules.specs.declared.effect.Effect.{Effect}
use Rattle.run_schedules.specs.declared.effect.Effect.TheVariants.{Asked, TableMade, TableGivenUp, Linked, Promoted, Stored, Counted, Deferred, Retired, Reclaimed}
use Rattle.run_schedules.specs.declared.effect.Growth.TheVariants.{ABlock}
use Rattle.run_schedules.specs.declared.effect.TableId.{TableId}
use Rattle.run_schedules.specs.declared.effect.Thing.TheVariants.{APair, ATable}
use Rattle.run_schedules.specs.declared.outcome.Outcome.TheVariants.{Done, Answered}
use Rattle.run_schedules.specs.Schedules.Entry.{Entry}
use Rattle.run_schedules.specs.Schedules.Handing.{MovesOn}
use Rattle.run_schedules.specs.Schedules.Linearizable.{IsLinearizable}
use Rattle.run_schedules.specs.Schedules.Model.{IsByModel}
use Rattle.run_schedules.specs.Schedules.Reclaims.{IsProtected, LeavesLittle}
use Rattle.run_schedules.proofs.Samples.Schedules.Words.{no_yes, puts_leaves, absent_found, some_thing, some_table, zero_next, next_zero, nothing_below, nothing_between, small, entry, spot, table, shape, makes_pair, call, inserted, drop_guard}
use Rattle.run_schedules.proofs.Samples.Schedules.Stored.{put_two, replaced, dropped}
use Rattle.run_schedules.proofs.Samples.Schedules.Resized as resized
use Rattle.seize_words.proofs.General.{either, true_not_false as yes_no}

-- wrong: a pair is put behind a table that it was never copied past, or behind one that never was
behind_newest : MovesOn small inserted (put_two (Answered (answer.Found 1)) (Deferred 1 (table 0) ∷ [])) → ⊥
behind_newest h = zero_next 0 (h.finds.1.1.1.1.0.1.1.1)

behind_none : MovesOn small inserted (put_two (Answered (answer.Found 1)) (Deferred 1 (table 1000) ∷ [])) → ⊥
behind_none h = zero_next 1000 (h.finds.1.1.1.1.0.1.1.1)

-- wrong: tables are retired that never were, thirty of them, or one that the root has not passed
abbrev retire_tables : ℕ → List Effect
retire_tables zero = []
retire_tables (suc n) = Retired (ATable (table (n + 1))) ∷ retire_tables n

thirty_tables : MovesOn small inserted (put_two (Answered (answer.Found 1)) (Retired (APair 1) ∷ retire_tables 30)) → ⊥
thirty_tables h = no_yes (h.finds.1.1.1.1.1.0.1)

retires_root : MovesOn small inserted (put_two (Answered (answer.Found 1)) (Retired (APair 1) ∷ Retired (ATable (table 0)) ∷ [])) → ⊥
retires_root h = no_yes (h.finds.1.1.1.1.1.0.1)

-- wrong: the pair is not handed over, or twice
keeps_for_ever : MovesOn small inserted (put_two (Answered (answer.Found 1)) []) → ⊥
keeps_for_ever h = some_thing (APair 1) [] (h.leaves.0.owes)

hands_twice : MovesOn small inserted (put_two (Answered (answer.Found 1)) (Retired (APair 1) ∷ Retired (APair 1) ∷ [])) → ⊥
hands_twice h = no_yes (h.finds.1.1.1.1.1.0.1.0)

-- wrong: a pair is reclaimed that is in the map, or that was never stored; or twice
back_in_map : MovesOn small inserted (drop_guard (Reclaimed (APair 1) ∷ [])) → ⊥
back_in_map h = h.finds.0

back_unstored : MovesOn small replaced (drop_guard (Reclaimed (APair 3) ∷ [])) → ⊥
back_unstored h = h.finds.0

back_twice : MovesOn small replaced (drop_guard (Reclaimed (APair 1) ∷ Reclaimed (APair 1) ∷ [])) → ⊥
back_twice h = h.finds.1.0

back_again : MovesOn small dropped (entry (Refresh (codes "g")) Done 0 (Reclaimed (APair 1) ∷ [])) → ⊥
back_again h = h.finds.0

-- wrong: it comes back while the guard is open under which it was replaced; by a flush; or not at all as that guard ends
back_too_early : IsProtected inserted (put_two (Answered (answer.Found 1)) (Retired (APair 1) ∷ Reclaimed (APair 1) ∷ [])) → ⊥
back_too_early h = yes_no h

back_by_call : MovesOn small inserted (put_two (Answered (answer.Found 1)) (Retired (APair 1) ∷ Reclaimed (APair 1) ∷ [])) → ⊥
back_by_call h = no_yes (h.may)

back_by_flush : MovesOn small replaced (entry (Flush (codes "g")) Done 0 (Reclaimed (APair 1) ∷ [])) → ⊥
back_by_flush h = no_yes (h.may)

none_back : ◌≡◌ {A = List ℕ} [] (1 ∷ []) → ⊥
none_back h = cc

nothing_back : IsByModel small replaced (drop_guard []) → ⊥
nothing_back h = none_back h

waits_at_rest : LeavesLittle small replaced (drop_guard []) → ⊥
waits_at_rest h = nothing_below (h.bounded)

-- wrong: the insertion tells that there was no pair, or changes nothing; another number is given; the same block is stored twice
tells_none : IsLinearizable nat_eq inserted (put_two (Answered answer.Absent) (Retired (APair 1) ∷ [])) → ⊥
tells_none h = absent_found 1 (h.ends)

changes_nothing : IsLinearizable nat_eq inserted (call (On (Insert 1 20)) (Answered (answer.Found 1)) 9 []) → ⊥
changes_nothing h = either (puts_leaves (answer.Found 1) 20) (λ e. e) h.ends

absent_and_nothing : IsLinearizable nat_eq inserted (call (On (Insert 2 20)) (Answered answer.Absent) 9 []) → ⊥
absent_and_nothing h = either (puts_leaves answer.Absent 20) (λ e. e) h.ends

three_two : ◌≡◌ {A = ℕ} 3 2 → ⊥
three_two h = omega (arith, h)

numbers_on : MovesOn small inserted (call (On (Insert 2 20)) (Answered answer.Absent) 9 (makes_pair (Stored 3 (spot 0 2) ∷ Counted 0 ∷ []))) → ⊥
numbers_on h = three_two (h.finds.1.1.0.1.0)

stores_unmade : MovesOn small inserted (call (On (Insert 2 20)) (Answered answer.Absent) 9 (Stored 2 (spot 0 2) ∷ Counted 0 ∷ [])) → ⊥
stores_unmade h = no_yes (h.finds.0.1.1)

-- wrong: what it stored is not counted, or in another shard
counts_nothing : MovesOn small inserted (call (On (Insert 2 20)) (Answered answer.Absent) 9 (makes_pair (Stored 2 (spot 0 2) ∷ []))) → ⊥
counts_nothing h = next_zero 0 (h.leaves.0.counted)

counts_elsewhere : MovesOn small inserted (call (On (Insert 2 20)) (Answered answer.Absent) 9 (makes_pair (Stored 2 (spot 0 2) ∷ Counted 1 ∷ []))) → ⊥
counts_elsewhere h = next_zero 0 (h.finds.1.1.1.0.1.1)

-- a table that comes too late is given up; wrong: it is kept, or comes in with a turn too high, a length or a last try of no rule
abbrev grow : List Effect → Entry ℕ ℕ
grow effects = call (On (Insert 9 10)) (Answered answer.Absent) 40 (makes_pair effects)

keeps_table : MovesOn small inserted (grow (Asked ABlock ∷ TableMade (table 1) ∷ Stored 2 (spot 0 2) ∷ Counted 0 ∷ [])) → ⊥
keeps_table h = some_table (table 1) (h.leaves.0.table)

gives_up_first : MovesOn small inserted (grow (Asked ABlock ∷ TableMade (table 1) ∷ TableGivenUp (table 1) ∷ Stored 2 (spot 0 2) ∷ Counted 0 ∷ [])) → ⊥
gives_up_first h = nothing_between (h.finds.1.1.1.1.0.1.1)

no_table : (t : TableId) → None ≡ Some t → ⊥
no_table t h = cc

links_unmade : MovesOn small inserted (grow (Linked (table 1) (shape 64 30) ∷ Stored 2 (spot 0 2) ∷ Counted 0 ∷ [])) → ⊥
links_unmade h = no_table (table 1) (h.finds.1.1.0.1.0)

retires_in_disorder : MovesOn small resized.removed (call (On (Insert 20 1)) (Answered answer.Absent) 40 (Promoted (table 2) ∷ [])) → ⊥
retires_in_disorder h = no_yes (h.finds.0.1.1)
