-- Walks, `clear`, `retain` and `len`. And wrong runs.
use Rattle.std.specs.Prelude.{codes, nat_eq}
use Rattle.std.proofs.Common.{◌≡◌, ◌≤◌, ℕ, Bool, true, false, List, [], ◌∷◌, inl, refl, arith, Option, Some, None}
use Rattle.run_schedules.specs.declared.call.Call.{Call}
use Rattle.run_schedules.specs.declared.call.Call.TheVariants.{Clear, Retain, Len, Walk}
use Rattle.run_schedules.specs.declared.call.Reply.{Reply}
use Rattle.run_schedules.specs.declared.call.Reply.TheVariants.{Decides}
use Rattle.run_schedules.specs.declared.call.Response.TheVariants as answer
use Rattle.run_schedules.specs.declared.event.Event.TheVariants.{Go, Replied, Next}
use Rattle.run_schedules.specs.declared.effect.Effect.{Effect}
use Rattle.run_schedules.specs.declared.effect.Effect.TheVariants.{Removed, Counted, Retired}
use Rattle.run_schedules.specs.declared.effect.Thing.TheVariants.{APair}
use Rattle.run_schedules.specs.declared.outcome.Outcome.{Outcome}
use Rattle.run_schedules.specs.declared.outcome.Outcome.TheVariants.{Goes, Asks, Ready, Shows, Answered}
use Rattle.run_schedules.specs.Schedules.Entry.{Entry}
use Rattle.run_schedules.specs.Schedules.Linearizable.{IsLinearizable}
use Rattle.run_schedules.specs.Schedules.Steps.{TakesSteps}
use Rattle.run_schedules.specs.Schedules.Sweeps.{IsSwept}
use Rattle.run_schedules.proofs.Samples.Schedules.Words.{no_yes, zero_next, small, entry, call}
use Rattle.run_schedules.proofs.Samples.Schedules.Stored.{replaced}
use Rattle.seize_words.proofs.General.{either, true_not_false as yes_no}

abbrev swept : Call ℕ ℕ → Outcome ℕ → List Effect → Entry ℕ ℕ
swept called outcome effects = call called outcome 40 effects

-- pair 2 is in the map, and `clear` removes it
clears : IsSwept nat_eq small replaced (swept Clear (Answered answer.Completed) (Removed 2 ∷ Retired (APair 2) ∷ Counted 0 ∷ []))
clears = refl

-- wrong: it leaves it
clears_nothing : IsSwept nat_eq small replaced (swept Clear (Answered answer.Completed) []) → ⊥
clears_nothing h = no_yes h

-- `retain` asks about it, and removes it where the reply was no
abbrev retaining : Bool → List (Entry ℕ ℕ)
retaining reply = entry (Replied (codes "-") (Decides reply)) Goes 0 [] ∷ swept Retain (Asks (Some 2)) [] ∷ replaced

abbrev go_on : Outcome ℕ → List Effect → Entry ℕ ℕ
go_on outcome effects = entry (Go (codes "-") false) outcome 9 effects

retains_yes : IsSwept nat_eq small (retaining true) (go_on (Answered answer.Completed) [])
retains_yes = refl

removes_no : IsLinearizable nat_eq (retaining false) (go_on (Answered answer.Completed) (Removed 2 ∷ Retired (APair 2) ∷ Counted 0 ∷ []))
removes_no = record { changes = (refl, tt); ends = tt; asks = tt }

-- wrong: it keeps a pair answered no, removes one answered yes, or one that it has not asked about; or asks about one that left before
retains_no : IsSwept nat_eq small (retaining false) (go_on (Answered answer.Completed) []) → ⊥
retains_no h = no_yes h

yes_for_no : ◌≡◌ {A = Option (Reply ℕ)} (Some (Decides true)) (Some (Decides false)) → ⊥
yes_for_no h = cc

removes_yes : IsLinearizable nat_eq (retaining true) (go_on (Answered answer.Completed) (Removed 2 ∷ Retired (APair 2) ∷ Counted 0 ∷ [])) → ⊥
removes_yes h = yes_for_no (h.changes.0)

no_reply : ◌≡◌ {A = Option (Reply ℕ)} None (Some (Decides false)) → ⊥
no_reply h = cc

removes_unasked : IsLinearizable nat_eq replaced (swept Retain (Answered answer.Completed) (Removed 2 ∷ Retired (APair 2) ∷ Counted 0 ∷ [])) → ⊥
removes_unasked h = no_reply (h.changes.0)

asks_left : IsLinearizable nat_eq replaced (swept Retain (Asks (Some 1)) []) → ⊥
asks_left h = either no_yes (λ e. e) h.asks

-- a walk shows pair 2, once
abbrev walks : List (Entry ℕ ℕ)
walks = swept Walk Ready [] ∷ replaced

abbrev next : Outcome ℕ → Entry ℕ ℕ
next outcome = entry (Next (codes "-")) outcome 9 []

shows_two : IsSwept nat_eq small walks (next (Shows 2))
shows_two = (inl refl, refl)

-- wrong: it goes on by no step
none_made : 1 ≤ 0 → ⊥
none_made few = omega (arith, few)

shows_at_once : TakesSteps walks (entry (Next (codes "-")) (Shows 2) 0 []) → ⊥
shows_at_once h = none_made h.makes

-- wrong: it shows one that left before it began, none at all, or one twice
shows_one : IsSwept nat_eq small walks (next (Shows 1)) → ⊥
shows_one h = either no_yes (either no_yes (λ e. e)) h.0

shows_none : IsSwept nat_eq small walks (next (Answered answer.Absent)) → ⊥
shows_none h = zero_next 0 (h 1 (refl, (refl, tt)))

shows_twice : IsSwept nat_eq small (next (Shows 2) ∷ walks) (next (Shows 2)) → ⊥
shows_twice h = yes_no (h.1)

-- `len` is the size
counts_one : IsSwept nat_eq small replaced (swept Len (Answered (answer.Counted 1)) [])
counts_one = (1, inl (0, refl, refl), refl)
