-- Calls that ask: what they ask about, how often, and what they go by. And wrong runs.
use Rattle.std.specs.Prelude.{codes, nat_eq}
use Rattle.std.proofs.Common.{◌≡◌, ℕ, true, false, List, [], ◌∷◌, inl, inr, refl, arith, Some, None}
use Rattle.seize_words.specs.declared.fault.Fault.TheVariants.{RemoveNothing}
use Rattle.run_schedules.specs.declared.call.Call.{Call}
use Rattle.run_schedules.specs.declared.call.Call.TheVariants.{On}
use Rattle.run_schedules.specs.declared.call.OneKey.TheVariants.{Insert, Get, TryInsertWith, GetOrInsertWith, Update, UpdateOrInsert, UpdateOrInsertWith, Compute, Remove, RemoveIf}
use Rattle.run_schedules.specs.declared.call.Reply.{Reply}
use Rattle.run_schedules.specs.declared.call.Reply.TheVariants.{Gives, Removes, Aborts, Decides}
use Rattle.run_schedules.specs.declared.call.Response.TheVariants as answer
use Rattle.run_schedules.specs.declared.event.Event.TheVariants.{Begin, Replied}
use Rattle.run_schedules.specs.declared.effect.Effect.TheVariants.{Asked, PairMade, Stored, Replaced, Removed, Counted, Retired}
use Rattle.run_schedules.specs.declared.effect.Growth.TheVariants.{ABlock}
use Rattle.run_schedules.specs.declared.effect.Thing.TheVariants.{APair}
use Rattle.run_schedules.specs.declared.outcome.Outcome.{Outcome}
use Rattle.run_schedules.specs.declared.outcome.Outcome.TheVariants.{Goes, Asks, Answered, Refused}
use Rattle.run_schedules.specs.Schedules.Sequential.{Meaning, Answers, Refuses, Wants, Leaves, Puts, Takes, ComesIn, GivesWay, GoesOut}
use Rattle.run_schedules.specs.Schedules.Entry.{Entry}
use Rattle.run_schedules.specs.Schedules.InTurn.{HasRightOutcome}
use Rattle.run_schedules.specs.Schedules.Steps.{TakesSteps}
use Rattle.run_schedules.specs.Schedules.Linearizable.{IsLinearizable}
use Rattle.run_schedules.specs.Schedules.Handing.{MovesOn}
use Rattle.run_schedules.proofs.Samples.Schedules.Words.{no_yes, found_none, wants_no, owes_one, puts_leaves, answers_refuses, AsksThere, asks_answered, Changed, goes_busy, one_shift, small, entry, spot, shape, makes_pair, makes_table, begin, go, call, entered, inserted}
use Rattle.seize_words.proofs.General.{either, true_not_false as yes_no}

-- caller c begins a call, and gets a reply
abbrev begun : Call ℕ ℕ → List (Entry ℕ ℕ)
begun called = begin called ∷ inserted

abbrev reply : Reply ℕ → Entry ℕ ℕ
reply told = entry (Replied (codes "c") told) Goes 0 []

-- `compute` of a key that has pair 1 asks about that one
abbrev asked : List (Entry ℕ ℕ)
asked = go (Asks (Some 1)) 3 [] ∷ begun (On (Compute 1))

asks : IsLinearizable nat_eq (begun (On (Compute 1))) (go (Asks (Some 1)) 3 [])
asks = record { changes = inl refl; ends = tt; asks = (refl, inl (refl, refl), inr refl) }

-- that it asks about pair 1 is not that it asks about none, or about another one
pair_none : AsksThere (Some 1) None Wants → ⊥
pair_none (same, wants) = cc same

pair_other : AsksThere (Some 1) (Some 7) Wants → ⊥
pair_other (same, wants) = cc same

-- wrong: about none, or about another one
asks_none : IsLinearizable nat_eq (begun (On (Compute 1))) (go (Asks None) 3 []) → ⊥
asks_none h = either pair_none (either pair_none (λ e. e)) h.asks.1

asks_other : IsLinearizable nat_eq (begun (On (Compute 1))) (go (Asks (Some 7)) 3 []) → ⊥
asks_other h = either pair_other (either pair_other (λ e. e)) h.asks.1

-- while there is no reply it is told again, and nothing is done
asks_on : HasRightOutcome small asked (go (Asks (Some 1)) 0 [])
asks_on = refl

asks_on_idly : TakesSteps asked (go (Asks (Some 1)) 0 [])
asks_on_idly = record { makes = refl; does = omega arith; brief = tt }

answers_asking : ◌≡◌ {A = Outcome ℕ} (Answered (answer.Aborted 5)) (Asks (Some 1)) → ⊥
answers_asking h = cc

goes_unasked : HasRightOutcome small asked (go (Answered (answer.Aborted 5)) 3 []) → ⊥
goes_unasked h = answers_asking h

-- it is told to store, and the pair of the reply is replaced
abbrev told : List (Entry ℕ ℕ)
told = reply (Gives 20) ∷ asked

reply_taken : HasRightOutcome small asked (reply (Gives 20))
reply_taken = refl

updates : IsLinearizable nat_eq told (go (Answered (answer.Updated 1 2)) 9 (makes_pair (Replaced 1 ∷ Stored 2 (spot 0 1) ∷ Retired (APair 1) ∷ [])))
updates = record { changes = inr (refl, answer.Updated 1 2, Puts 20, refl, refl); ends = refl; asks = tt }

-- wrong: a reply of another kind is taken, or one that nobody asked for
other_kind : HasRightOutcome small asked (reply (Decides true)) → ⊥
other_kind h = goes_busy h

unasked : HasRightOutcome small told (reply (Gives 21)) → ⊥
unasked h = goes_busy h

-- wrong: it asks about the same pair again
asks_twice : IsLinearizable nat_eq told (go (Asks (Some 1)) 3 []) → ⊥
asks_twice h = either no_yes yes_no h.asks.2

-- wrong: it asks once more after it has changed its map
abbrev changed : List (Entry ℕ ℕ)
changed = go Goes 1000000 (makes_pair (Replaced 1 ∷ Stored 2 (spot 0 1) ∷ [])) ∷ told

asks_after : IsLinearizable nat_eq changed (go (Asks (Some 2)) 3 []) → ⊥
asks_after h = owes_one (answer.Updated 1 2) (h.asks.0)

-- wrong: it aborts though it was told to store, or stores another value
updates_aborts : ◌≡◌ {A = Meaning ℕ} (Answers (answer.Updated 1 2) (Puts 20)) (Answers (answer.Aborted 20) Leaves) → ⊥
updates_aborts h = cc

aborts_instead : IsLinearizable nat_eq told (go (Answered (answer.Aborted 20)) 3 []) → ⊥
aborts_instead h = either updates_aborts (either updates_aborts (either updates_aborts (either updates_aborts (λ e. e)))) h.ends

-- it is told to abort, or to remove
aborts : IsLinearizable nat_eq (reply (Aborts 5) ∷ asked) (go (Answered (answer.Aborted 5)) 3 [])
aborts = record { changes = inl refl; ends = inl refl; asks = tt }

removes : IsLinearizable nat_eq (reply Removes ∷ asked) (go (Answered (answer.Removed 1)) 9 (Removed 1 ∷ Retired (APair 1) ∷ Counted 0 ∷ []))
removes = record { changes = inr (refl, answer.Removed 1, Takes, refl, refl); ends = refl; asks = tt }

-- wrong: there is something to remove, and it is refused as if there were nothing
taken : ◌≡◌ {A = Meaning ℕ} (Answers (answer.Removed 1) Takes) Refuses → ⊥
taken h = answers_refuses (answer.Removed 1) Takes h

refuses_removal : IsLinearizable nat_eq (reply Removes ∷ asked) (go (Refused RemoveNothing) 3 []) → ⊥
refuses_removal h = either taken (either taken (either taken (either taken (λ e. e)))) h.ends.1

-- wrong: an aborted `compute` keeps a block that it made
keeps_block : MovesOn small (reply (Aborts 5) ∷ asked) (go (Answered (answer.Aborted 5)) 9 (Asked ABlock ∷ PairMade ∷ [])) → ⊥
keeps_block h = yes_no (h.leaves.0.block)

-- meanwhile another call puts pair 2 in the place of pair 1: then it asks about that one
abbrev meanwhile : List (Entry ℕ ℕ)
meanwhile = call (On (Insert 1 30)) (Answered (answer.Found 1)) 9 (makes_pair (Replaced 1 ∷ Stored 2 (spot 0 1) ∷ Retired (APair 1) ∷ [])) ∷ told

asks_new : IsLinearizable nat_eq meanwhile (go (Asks (Some 2)) 6 [])
asks_new = record { changes = inl refl; ends = tt; asks = (refl, inl (refl, refl), inr refl) }

-- wrong: it takes the reply for pair 1 as one for pair 2
mistakes_pair :
    IsLinearizable nat_eq meanwhile (go (Answered (answer.Updated 2 3)) 9 (makes_pair (Replaced 2 ∷ Stored 3 (spot 0 1) ∷ Retired (APair 2) ∷ []))) → ⊥
mistakes_pair h = either (one_shift (GivesWay 2) (ComesIn 3 ∷ [])) (wants_no (Some 2) 3 (GivesWay 2 ∷ ComesIn 3 ∷ [])) h.changes

-- a key without a pair is asked about with none, also before there is a table, and once
abbrev asked_none : List (Entry ℕ ℕ)
asked_none = go (Asks None) 1 [] ∷ begin (On (Compute 5)) ∷ entered

asks_for_none : IsLinearizable nat_eq (begin (On (Compute 5)) ∷ entered) (go (Asks None) 1 [])
asks_for_none = record { changes = inl refl; ends = tt; asks = (refl, inl (refl, refl), inr refl) }

asks_none_twice : IsLinearizable nat_eq (reply (Gives 50) ∷ asked_none) (go (Asks None) 1 []) → ⊥
asks_none_twice h = either no_yes yes_no h.asks.2

refuses_nothing : IsLinearizable nat_eq (reply Removes ∷ asked_none) (go (Refused RemoveNothing) 1 [])
refuses_nothing = record { changes = inl refl; ends = (refl, inl refl); asks = tt }

inserts :
    IsLinearizable nat_eq (reply (Gives 50) ∷ asked_none) (go (Answered (answer.Inserted 1)) 12
    (makes_pair (makes_table 0 (shape 32 25) (Stored 1 (spot 0 5) ∷ Counted 0 ∷ []))))
inserts = record { changes = inr (refl, answer.Inserted 1, Puts 50, refl, refl); ends = refl; asks = tt }

-- wrong: an aborted `compute`, or a removal, makes the first table
aborts_with_table : MovesOn small (reply (Aborts 5) ∷ asked_none) (go (Answered (answer.Aborted 5)) 9 (makes_table 0 (shape 32 25) [])) → ⊥
aborts_with_table h = no_yes (h.finds.1.1.0.1.2.0)

removes_with_table : MovesOn small entered (call (On (Remove 5)) (Answered answer.Absent) 9 (makes_table 0 (shape 32 25) [])) → ⊥
removes_with_table h = no_yes (h.finds.1.1.0.1.2.0)

-- where its value is not needed a closure is not asked: there is a pair, or there is none
abbrev UnneededFor : Call ℕ ℕ → ℕ → Type 0
UnneededFor called n = IsLinearizable nat_eq (begun called) (go (Asks (Some n)) 3 []) → ⊥

keeps_one : AsksThere (Some 1) (Some 1) (Answers (answer.Kept 1) Leaves) → ⊥
keeps_one = asks_answered (Some 1) (Some 1) (answer.Kept 1) Leaves

finds_one : AsksThere (Some 1) (Some 1) (Answers (answer.Found 1) Leaves) → ⊥
finds_one = asks_answered (Some 1) (Some 1) (answer.Found 1) Leaves

finds_none : AsksThere None None (Answers answer.Absent Leaves) → ⊥
finds_none = asks_answered None None answer.Absent Leaves

stores_two : AsksThere None None (Answers (answer.Stored 2) (Puts 50)) → ⊥
stores_two = asks_answered None None (answer.Stored 2) (Puts 50)

try_insert_with : UnneededFor (On (TryInsertWith 1)) 1
try_insert_with h = either keeps_one (either keeps_one (λ e. e)) h.asks.1

get_or_insert_with : UnneededFor (On (GetOrInsertWith 1)) 1
get_or_insert_with h = either finds_one (either finds_one (λ e. e)) h.asks.1

update : IsLinearizable nat_eq (begun (On (Update 5))) (go (Asks None) 3 []) → ⊥
update h = either finds_none (either finds_none (λ e. e)) h.asks.1

update_or_insert : IsLinearizable nat_eq (begun (On (UpdateOrInsert 5 50))) (go (Asks None) 3 []) → ⊥
update_or_insert h = either stores_two (either stores_two (λ e. e)) h.asks.1

insertion_asks : HasRightOutcome small (begun (On (Insert 1 20))) (go (Asks (Some 1)) 3 []) → ⊥
insertion_asks h = no_yes h

-- and where it is needed it is
update_or_insert_with : IsLinearizable nat_eq (begun (On (UpdateOrInsertWith 5))) (go (Asks None) 3 [])
update_or_insert_with = record { changes = inl refl; ends = tt; asks = (refl, inl (refl, refl), inr refl) }

-- `remove_if` removes the pair that it was told of, and may ask again
abbrev removing : Reply ℕ → List (Entry ℕ ℕ)
removing told = reply told ∷ go (Asks (Some 1)) 3 [] ∷ begun (On (RemoveIf 1))

removes_if : IsLinearizable nat_eq (removing (Decides true)) (go (Answered (answer.Found 1)) 9 (Removed 1 ∷ Retired (APair 1) ∷ Counted 0 ∷ []))
removes_if = record { changes = inr (refl, answer.Found 1, Takes, refl, refl); ends = refl; asks = tt }

keeps : IsLinearizable nat_eq (removing (Decides false)) (go (Answered (answer.Kept 1)) 3 [])
keeps = record { changes = inl refl; ends = inl refl; asks = tt }

asks_again : IsLinearizable nat_eq (removing (Decides true)) (go (Asks (Some 1)) 3 [])
asks_again = record { changes = inl refl; ends = tt; asks = (refl, inl (refl, refl), inl refl) }

-- wrong: it removes a pair that it was not told of, or one that was to stay
removes_untold : IsLinearizable nat_eq (begun (On (RemoveIf 1))) (go (Answered (answer.Found 1)) 9 (Removed 1 ∷ Retired (APair 1) ∷ Counted 0 ∷ [])) → ⊥
removes_untold h = either (one_shift (GoesOut 1) []) (wants_no (Some 1) 2 (GoesOut 1 ∷ [])) h.changes

kept_stays : Changed None (Answers (answer.Kept 1) Leaves) (Some 1) 2 (GoesOut 1 ∷ []) → ⊥
kept_stays (owes, a, Leaves, means, same) = cc same
kept_stays (owes, a, Puts v, means, same) = cc means
kept_stays (owes, a, Takes, means, same) = cc means

removes_kept : IsLinearizable nat_eq (removing (Decides false)) (go (Answered (answer.Found 1)) 9 (Removed 1 ∷ Retired (APair 1) ∷ Counted 0 ∷ [])) → ⊥
removes_kept h = either (one_shift (GoesOut 1) []) kept_stays h.changes

-- what comes after a reply is promised like all else: a lookup then tells what is there
looks_after : IsLinearizable nat_eq told (call (On (Get 1)) (Answered (answer.Found 1)) 3 [])
looks_after = record { changes = inl refl; ends = inl refl; asks = tt }

-- wrong: it tells none; an insertion stores nothing; a pair is removed by nobody's call
looks_wrong : IsLinearizable nat_eq told (call (On (Get 1)) (Answered answer.Absent) 3 []) → ⊥
looks_wrong h = either (found_none 1) (λ e. e) h.ends

stores_nothing : IsLinearizable nat_eq told (call (On (Insert 5 50)) (Answered answer.Absent) 3 []) → ⊥
stores_nothing h = either (puts_leaves answer.Absent 50) (λ e. e) h.ends

removes_nobody : IsLinearizable nat_eq told (entry (Begin (codes "d") (codes "g") (codes "m") (On (Get 1))) Goes 0 (Removed 1 ∷ [])) → ⊥
removes_nobody h = one_shift (GoesOut 1) [] h
