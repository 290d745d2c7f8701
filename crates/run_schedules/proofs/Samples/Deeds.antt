-- A history worked by hand: a pair is stored, removed, and reclaimed once its section has ended. And wrong histories, each refused for its reason.
mod Maps
mod Slots
mod Swept
use Rattle.std.specs.Prelude.{nat_eq}
use Rattle.std.proofs.Common.{◌≡◌, ℕ, false, List, [], ◌∷◌, inl, inr, refl}
use Rattle.papaya_raw.specs.Given.TablesDeclared.resize_mode.ResizeMode.TheVariants.{Incremental}
use Rattle.run_schedules.specs.declared.call.Response.{Response}
use Rattle.run_schedules.specs.declared.call.Response.TheVariants as answer
use Rattle.run_schedules.specs.declared.call.Call.{Call}
use Rattle.run_schedules.specs.declared.call.Call.TheVariants.{On}
use Rattle.run_schedules.specs.declared.call.OneKey.TheVariants.{Get, Insert, Remove}
use Rattle.run_schedules.specs.declared.effect.Effect.{Effect}
use Rattle.run_schedules.specs.declared.effect.Effect.TheVariants.{Stored, Removed, Retired, Reclaimed}
use Rattle.run_schedules.specs.declared.effect.Spot.{Spot}
use Rattle.run_schedules.specs.declared.effect.Thing.TheVariants.{APair}
use Rattle.run_schedules.specs.declared.outcome.Outcome.{Outcome}
use Rattle.run_schedules.specs.declared.outcome.Outcome.TheVariants.{Done, Goes, Answered}
use Rattle.run_schedules.specs.Schedules.Sequential.{Meaning, Answers, Leaves, Puts, Takes, Shift, ComesIn}
use Rattle.run_schedules.specs.Deeds.Deeds.{Deed, Begins, Steps, Leaves as LeavesSlot, Opens, Shuts, MapComes, Entry}
use Rattle.run_schedules.specs.Deeds.History.{IsLinearizable, IsProtected, answers_of}
use Rattle.run_schedules.proofs.Samples.Schedules.Words.{owes_one as owes_none}
use Rattle.seize_words.proofs.General.{either, true_not_false as yes_no}

pub never : ⊥ → ⊥
never h = h

pub one_none : ◌≡◌ {A = ℕ} 1 0 → ⊥
one_none h = cc

comes_in : (n : ℕ) → ◌≡◌ {A = List Shift} (ComesIn n ∷ []) [] → ⊥
comes_in n h = cc

absent_found : (n : ℕ) → ◌≡◌ {A = Meaning ℕ} (Answers answer.Absent Leaves) (Answers (answer.Found n) Leaves) → ⊥
absent_found n h = cc

abbrev pub entry : Deed ℕ ℕ → Outcome ℕ → List Effect → Entry ℕ ℕ
entry deed outcome effects = record { deed = deed; outcome = outcome; effects = effects; refused = false }

abbrev pub spot : ℕ → Spot
spot place = record { turn = 0; place = place }

-- a map comes, and the section of slot 3 begins
abbrev first : List (Entry ℕ ℕ)
first = entry (Opens 3) Done [] ∷ entry (MapComes 0 0 (Incremental 64) 8) Goes [] ∷ []

-- caller 1 stores pair 1, of the key 1
abbrev storing : List (Entry ℕ ℕ)
storing = entry (Begins 1 3 0 (On (Insert 1 10))) Goes [] ∷ first

abbrev store : Entry ℕ ℕ
store = entry (Steps 1) Goes (Stored 1 (spot 1) ∷ [])

abbrev stored : List (Entry ℕ ℕ)
stored = entry (Steps 1) (Answered answer.Absent) [] ∷ store ∷ storing

stores_right : IsLinearizable nat_eq storing store
stores_right = record { changes = inr (refl, answer.Absent, Puts 10, refl, refl); ends = tt; asks = tt }

answers_right : IsLinearizable nat_eq (store ∷ storing) (entry (Steps 1) (Answered answer.Absent) [])
answers_right = record { changes = inl refl; ends = refl; asks = tt }

-- caller 2 removes it
abbrev removing : List (Entry ℕ ℕ)
removing = entry (Begins 2 3 0 (On (Remove 1))) Goes [] ∷ stored

abbrev remove : Entry ℕ ℕ
remove = entry (Steps 2) Goes (Removed 1 ∷ [])

abbrev pub removed : List (Entry ℕ ℕ)
removed = entry (Steps 2) (Answered (answer.Found 1)) (Retired (APair 1) ∷ []) ∷ remove ∷ removing

removes_right : IsLinearizable nat_eq removing remove
removes_right = record { changes = inr (refl, answer.Found 1, Takes, refl, refl); ends = tt; asks = tt }

-- and the pair is reclaimed once the section has ended
reclaimed_right : IsProtected (entry (Shuts 3) Goes [] ∷ removed) (entry (LeavesSlot 3) Goes (Reclaimed (APair 1) ∷ []))
reclaimed_right = refl

-- Wrong: it is given back while the section is open, in which it left its map.
given_back : IsProtected removed (entry (LeavesSlot 3) Goes (Reclaimed (APair 1) ∷ [])) → ⊥
given_back is = yes_no is

-- One call changes its map twice.
changed_twice : IsLinearizable nat_eq (store ∷ storing) (entry (Steps 1) Goes (Stored 2 (spot 2) ∷ [])) → ⊥
changed_twice is = either (λ e. comes_in 2 e) (λ w. owes_none answer.Absent w.0) is.changes

-- An answer was so before the call, and at no moment of it.
abbrev getting : List (Entry ℕ ℕ)
getting = entry (Begins 3 3 0 (On (Get 1))) Goes [] ∷ removed

answered_late : IsLinearizable nat_eq getting (entry (Steps 3) (Answered (answer.Found 1)) []) → ⊥
answered_late is = either (absent_found 1) (either (absent_found 1) never) is.ends

-- A call of another caller is left out: the pair that is found is none's.
abbrev alone : List (Entry ℕ ℕ)
alone = entry (Begins 3 3 0 (On (Get 1))) Goes [] ∷ first

left_out : IsLinearizable nat_eq alone (entry (Steps 3) (Answered (answer.Found 1)) []) → ⊥
left_out is = either (absent_found 1) (either (absent_found 1) never) is.ends

-- What caller 1 was answered stands there once, and is its own.
abbrev its : List (Call ℕ ℕ × Response ℕ)
its = (On (Insert 1 10), answer.Absent) ∷ []

its_answers : answers_of 1 removed ≡ its
its_answers = refl

none_is_one : ◌≡◌ {A = List (Call ℕ ℕ × Response ℕ)} [] its → ⊥
none_is_one h = cc

two_are_one : ◌≡◌ {A = List (Call ℕ ℕ × Response ℕ)} ((On (Insert 1 10), answer.Absent) ∷ its) its → ⊥
two_are_one h = cc

-- Wrong: it stands there not at all, since another one got its answer; or twice.
anothers : answers_of 1 (entry (Steps 2) (Answered answer.Absent) [] ∷ store ∷ storing) ≡ its → ⊥
anothers is = none_is_one is

abbrev twice : List (Entry ℕ ℕ)
twice = entry (Steps 1) (Answered answer.Absent) [] ∷ entry (Begins 1 3 0 (On (Insert 1 10))) Goes [] ∷ stored

stands_twice : answers_of 1 twice ≡ its → ⊥
stands_twice is = two_are_one is
