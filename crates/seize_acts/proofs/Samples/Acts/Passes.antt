-- A wrong plan that passes a slot by as soon as an exchange is lost, stepped in a world of two blocks: refused by `ActsAreSound`.
use Rattle.std.specs.Prelude.{Some, None, Err}
use Rattle.std.proofs.Common.{◌≡◌, ℕ, true, false, [], ◌∷◌, ◌++◌, refl}
use Rattle.seize_words.specs.declared.at.At.TheVariants.{Root, Slot}
use Rattle.seize_words.specs.OneMemory.Mem.{value_at}
use Rattle.seize_words.specs.OneMemory.Op.{Out, Store, Exchange, Make, Exchanged}
use Rattle.seize_words.specs.OneMemory.Plan.{Plan, Then, Do}
use Rattle.seize.specs.declared.states.TheConstants.{HEAD}
use Rattle.seize.specs.declared.rows.settle.Settle.{Settle}
use Rattle.seize.specs.declared.rows.settle.Settling.{Settling}
use Rattle.seize.specs.declared.rows.settle.Settling.TheVariants as settling
use Rattle.seize.specs.declared.rows.settle.Settled.{Settled}
use Rattle.seize.specs.Settle.{goes, pushed_of, after_push, settle_plan}
use Rattle.seize.specs.Law.{holds, IsSound}
use Rattle.seize.specs.World.{World, Register', Retire, at_start}
use Rattle.seize_acts.specs.Acts.Acts.{Begin, Step, Operate, Links, Unlinks}
use Rattle.seize_acts.proofs.Samples.Acts.Base.{plain, or_start, after, on, enters, links, settle_by}

abbrev passed : Settle → ℕ → ℕ → ℕ → ℕ → Out ℕ → Then ℕ (Settle × Settled ℕ)
passed c block left pushed slot (Exchanged (Err head)) = goes c (pushed_of block left pushed)
passed c block left pushed slot out = after_push c block left pushed slot out

abbrev passes_at : Settle → Settling → Plan ℕ (Settle × Settled ℕ)
passes_at c (settling.Pushes block left pushed slot head) = Do (Exchange (Slot slot HEAD) head block) (passed c block left pushed slot)
passes_at c stands = settle_plan plain c

abbrev passes : Settle → Plan ℕ (Settle × Settled ℕ)
passes c = passes_at c c.stands

-- Slot 0 is active, slot 1 is not, and blocks 1 and 2 are unlinked within that section.
abbrev unlinked : World ℕ
unlinked =
    after plain 1 (links ++ Operate 0 (Make 8 0) (Some 2) (Links 2 3 ∷ []) ∷ Operate 0 (Store (Root 0) 0) None (Unlinks 1 ∷ Unlinks 2 ∷ []) ∷ [])
    (on plain 1 9 1 (after plain 1 (enters ++ Begin 1 (Register' false) (Some 0) ∷ []) (at_start plain 1)))

-- Caller 0 retires block 1, and has linked it to the head of slot 0. Meanwhile caller 1 has retired block 2, whose entry is on that list now.
abbrev raced : World ℕ
raced =
    on plain 1 40 1 (after plain 1 (Begin 1 (Retire 1 2) None ∷ [])
    (after plain 1 (Begin 0 (Retire 0 1) None ∷ Step 0 None ∷ Step 0 None ∷ Step 0 None ∷ Step 0 None ∷ Step 0 None ∷ Step 0 None ∷ Step 0 None ∷ Step 0 None
    ∷ Step 0 None ∷ Step 0 None ∷ Step 0 None ∷ Step 0 None ∷ Step 0 None ∷ []) unlinked))

held_inside : holds 0 1 raced.log ≡ true
held_inside = refl

-- caller 0 takes its next step by this plan, and goes on to its end
abbrev pushed_by : (Settle → Plan ℕ (Settle × Settled ℕ)) → World ℕ
pushed_by plan = on plain 1 30 0 (or_start (settle_by plan (raced.row 0) raced))

-- it takes block 1, which the section of slot 0 holds
passes_takes : value_at (pushed_by passes).memory 1 ≡ None
passes_takes = refl

-- what holds a block does not leave it free
no_yes : true ≡ false → ⊥
no_yes e = cc e

passes_is_refused : IsSound (pushed_by passes).log → ⊥
passes_is_refused sound = no_yes (sound.2 0)

-- The right plan links its entry anew, and block 1 waits for the slot.
right_waits : value_at (pushed_by (settle_plan plain)).memory 1 ≡ Some 7
right_waits = refl
