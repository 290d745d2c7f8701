-- A walk over a map shows each pair once that was there all the time, a clearing leaves none, and a retaining those that it was told to keep. And wrong histories.
use Rattle.std.specs.Prelude.{nat_eq}
use Rattle.std.proofs.Common.{◌≡◌, ℕ, Bool, true, false, List, [], ◌∷◌, ◌⊎◌, inl, refl, sym, Some}
use Rattle.seize_words.specs.declared.fault.Fault.TheVariants.{Memory}
use Rattle.run_schedules.specs.declared.call.Response.TheVariants as answer
use Rattle.run_schedules.specs.declared.call.Call.TheVariants.{Clear, Len, Reserve, Retain, Walk}
use Rattle.run_schedules.specs.declared.call.Reply.TheVariants.{Decides}
use Rattle.run_schedules.specs.declared.effect.Effect.TheVariants.{Removed}
use Rattle.run_schedules.specs.declared.outcome.Outcome.TheVariants.{Answered, Asks, Goes, Ready, Refused, Shows}
use Rattle.run_schedules.specs.Deeds.Deeds.{Begins, Entry, Replies, Steps}
use Rattle.run_schedules.specs.Deeds.History.{IsSwept}
use Rattle.run_schedules.proofs.Samples.Deeds.{entry, never, one_none}
use Rattle.run_schedules.proofs.Samples.Deeds.Maps.{filled}
use Rattle.run_schedules.proofs.Samples.Schedules.Words.{small as terms}
use Rattle.seize_words.proofs.General.{either, true_not_false as yes_no}

no_yes : false ≡ true → ⊥
no_yes e = yes_no (sym e)

-- the map has the pairs 1 and 2, and caller 1 goes over it
abbrev walking : List (Entry ℕ ℕ)
walking = entry (Steps 1) Ready [] ∷ entry (Begins 1 0 0 Walk) Goes [] ∷ filled

abbrev shows : ℕ → Entry ℕ ℕ
shows n = entry (Steps 1) (Shows n) []

shows_one : IsSwept nat_eq terms walking (shows 1)
shows_one = (refl, (inl refl, refl))

-- Wrong: it shows one twice, one that is not there, or ends without the second pair.
shows_twice : IsSwept nat_eq terms (shows 1 ∷ walking) (shows 1) → ⊥
shows_twice is = yes_no is.1.1

none_there : (false ≡ true) ⊎ ((false ≡ true) ⊎ ((false ≡ true) ⊎ ⊥)) → ⊥
none_there is = either no_yes (either no_yes (either no_yes never)) is

shows_none : IsSwept nat_eq terms walking (shows 3) → ⊥
shows_none is = none_there is.1.0

ends_early : IsSwept nat_eq terms (shows 1 ∷ walking) (entry (Steps 1) (Answered answer.Absent) []) → ⊥
ends_early is = one_none (sym (is.1 2 (refl, (refl, (refl, (refl, tt))))))

-- Nor does it end so early by another answer.
ends_otherwise : IsSwept nat_eq terms (shows 1 ∷ walking) (entry (Steps 1) (Answered answer.Completed) []) → ⊥
ends_otherwise is = no_yes is.0

-- A clearing removes both.
abbrev clearing : List (Entry ℕ ℕ)
clearing = entry (Begins 1 0 0 Clear) Goes [] ∷ filled

abbrev removes : ℕ → Entry ℕ ℕ
removes n = entry (Steps 1) Goes (Removed n ∷ [])

clears_both : IsSwept nat_eq terms (removes 1 ∷ removes 2 ∷ clearing) (entry (Steps 1) (Answered answer.Completed) [])
clears_both = (refl, refl)

-- It may be refused before it is over.
clears_short : IsSwept nat_eq terms (removes 2 ∷ clearing) (entry (Steps 1) (Refused Memory) [])
clears_short = (refl, tt)

-- Wrong: it leaves a pair that was there all the time, whatever it answers, or shows one.
clears_one : IsSwept nat_eq terms (removes 2 ∷ clearing) (entry (Steps 1) (Answered answer.Completed) []) → ⊥
clears_one is = no_yes is.1

clears_none : IsSwept nat_eq terms clearing (entry (Steps 1) (Answered answer.Absent) []) → ⊥
clears_none is = no_yes is.0

clears_showing : IsSwept nat_eq terms clearing (shows 1) → ⊥
clears_showing is = no_yes is.0

-- A retaining asks about each, and keeps those about which the reply was yes.
abbrev told : ℕ → Bool → List (Entry ℕ ℕ) → List (Entry ℕ ℕ)
told n keeps log = entry (Replies 1 (Decides keeps)) Goes [] ∷ entry (Steps 1) (Asks (Some n)) [] ∷ log

abbrev retaining : List (Entry ℕ ℕ)
retaining = removes 2 ∷ told 2 false (entry (Begins 1 0 0 Retain) Goes [] ∷ filled)

retains_one : IsSwept nat_eq terms (told 1 true retaining) (entry (Steps 1) (Answered answer.Completed) [])
retains_one = (refl, refl {a = true})

-- Wrong: it keeps one about which the reply was no, or one about which it did not ask.
retains_no : IsSwept nat_eq terms (told 1 false retaining) (entry (Steps 1) (Answered answer.Completed) []) → ⊥
retains_no is = no_yes is.1

retains_unasked : IsSwept nat_eq terms retaining (entry (Steps 1) (Answered answer.Completed) []) → ⊥
retains_unasked is = no_yes is.1

-- Nor does a counting answer but by a number, and a reservation but that there is room.
counts_none : IsSwept nat_eq terms (entry (Begins 1 0 0 Len) Goes [] ∷ filled) (entry (Steps 1) (Answered answer.Completed) []) → ⊥
counts_none is = no_yes is.0

reserves_none : IsSwept nat_eq terms (entry (Begins 1 0 0 (Reserve 1)) Goes [] ∷ filled) (entry (Steps 1) (Answered answer.Absent) []) → ⊥
reserves_none is = no_yes is.0
