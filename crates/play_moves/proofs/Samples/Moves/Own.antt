-- Whose call an entry is of: one that is looked up and answered; and wrong histories, each refused for its reason.
use Rattle.std.specs.Prelude.{◌≡◌, ℕ, Bool, true, false, List, [], ◌∷◌}
use Rattle.std.proofs.Common.{refl}
use Rattle.run_schedules.specs.declared.call.Response.TheVariants as answer
use Rattle.run_schedules.specs.declared.call.Call.TheVariants.{On}
use Rattle.run_schedules.specs.declared.call.OneKey.TheVariants.{Get}
use Rattle.run_schedules.specs.declared.outcome.Outcome.{Outcome}
use Rattle.run_schedules.specs.declared.outcome.Outcome.TheVariants.{Answered, Goes}
use Rattle.run_schedules.specs.Deeds.Deeds.{Begins, Deed, Entry, Steps}
use Rattle.play_moves.specs.EachMoves.Own.{IsOfItsCall}

abbrev entry : Deed ℕ ℕ → Outcome ℕ → Entry ℕ ℕ
entry deed outcome = record { deed = deed; outcome = outcome; effects = []; refused = false }

-- caller 1 looks a key up within the section of slot 3, and is answered
abbrev begin : ℕ → Entry ℕ ℕ
begin i = entry (Begins i 3 0 (On (Get 1))) Goes

abbrev ends : ℕ → Entry ℕ ℕ
ends i = entry (Steps i) (Answered answer.Absent)

abbrev begun : List (Entry ℕ ℕ)
begun = begin 1 ∷ []

begins_right : IsOfItsCall [] (begin 1)
begins_right = refl

ends_right : IsOfItsCall begun (ends 1)
ends_right = refl

yes_no : ◌≡◌ {A = Bool} true false → ⊥
yes_no h = cc h

no_yes : ◌≡◌ {A = Bool} false true → ⊥
no_yes h = cc h

-- Wrong: another caller gives its answer; it is answered twice; and it begins a second call beside the first.
anothers : IsOfItsCall begun (ends 2) → ⊥
anothers is = no_yes is

answered_twice : IsOfItsCall (ends 1 ∷ begun) (ends 1) → ⊥
answered_twice is = no_yes is

stands_twice : IsOfItsCall begun (begin 1) → ⊥
stands_twice is = yes_no is
