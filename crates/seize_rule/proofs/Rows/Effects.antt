-- What one step of a row adds to the log.
use Rattle.std.specs.Prelude.{if◌then◌else◌, ◌==◌}
use Rattle.std.proofs.Common.{◌≡◌, ℕ, Bool, true, false, List, [], ◌∷◌, ◌++◌, refl, arith, sym, subst}
use Rattle.seize_moves.specs.Given.SeizeDeclared.states.TheConstants.{ACTIVE}
use Rattle.seize_moves.specs.Given.SeizeDeclared.rows.settle.Settle.{Settle}
use Rattle.seize_moves.specs.Given.SeizeDeclared.rows.settle.Settling.{Settling}
use Rattle.seize_moves.specs.Given.SeizeDeclared.rows.settle.Settling.TheVariants as at
use Rattle.seize_moves.specs.Given.SeizeDeclared.rows.leave.Leave.{Leave}
use Rattle.seize_moves.specs.Given.SeizeDeclared.rows.leave.Leaving.{Leaving}
use Rattle.seize_moves.specs.Given.SeizeDeclared.rows.leave.Leaving.TheVariants as leaving
use Rattle.seize_moves.specs.Given.SeizeDeclared.rows.register.Register.{Register}
use Rattle.seize_moves.specs.Given.SeizeDeclared.rows.register.Registering.{Registering}
use Rattle.seize_moves.specs.Given.SeizeDeclared.rows.register.Registering.TheVariants as registering
use Rattle.seize_moves.specs.Given.SeizeLaw.{Effect, Entered, Left, Linked, Unlinked, Deferred, Retired, Taken, Dropped, Ended, where_is, owner_of, IsSound, Made, LeftOver}
use Rattle.seize_moves.specs.Given.SeizeWorld.{Hand, NoBlock, times, with_at, handed_by, settle_effects, leave_effects, register_effects}
use Rattle.seize_moves.specs.Given.SeizeSequence.{taken_in}
use Rattle.seize_moves.proofs.Moves.State.Held.{NoneLeft}

-- a section begins or ends, or a block is retired or taken
abbrev pub IsOfRow : Effect → Type 0
IsOfRow (Entered s) = Unit {0}
IsOfRow (Left s) = Unit {0}
IsOfRow (Retired b) = Unit {0}
IsOfRow (Taken b) = Unit {0}
IsOfRow _ = ⊥

-- what one step of a row adds: nothing, or one such effect
abbrev pub IsOneStep : List Effect → Type 0
IsOneStep [] = Unit {0}
IsOneStep (e ∷ []) = IsOfRow e
IsOneStep (e ∷ f ∷ effects) = ⊥

pub settle_one : (c : Settle) (p : Settling) → IsOneStep (settle_effects c p)
settle_one c at.Sees = tt
settle_one c at.Holds = tt
settle_one c at.Pops = tt
settle_one c (at.Firsts block) = tt
settle_one c (at.Batches block) = tt
settle_one c (at.Ends block) = tt
settle_one c (at.Appends block) = tt
settle_one c (at.Counts block) = tt
settle_one c (at.Scans slot block marks) = tt
settle_one c (at.Marks slot block marks) = tt
settle_one c (at.Marked slot block marks) = tt
settle_one c (at.Closes marks) = tt
settle_one c (at.Reads block left pushed) = tt
settle_one c (at.Links block left pushed slot head) = tt
settle_one c (at.Pushes block left pushed slot head) = tt
settle_one c (at.Pushed block left pushed) = tt
settle_one c (at.Sums pushed) = tt
settle_one c at.Nexts = tt
settle_one c (at.Drains next word) = tt
settle_one c (at.Joins next more) = tt
settle_one c (at.Tails next) = tt
settle_one c (at.Takes next) = tt
settle_one c at.Puts = tt
settle_one c at.Lists = tt
settle_one c (at.Owns next) = tt
settle_one c (at.Downs next batch) = tt
settle_one c at.Gives = tt
settle_one c at.Over = tt

pub leave_one : (c : Leave) (p : Leaving) → IsOneStep (leave_effects c p)
leave_one c leaving.Swaps = tt
leave_one c (leaving.Settles settle) = settle_one settle settle.stands
leave_one c leaving.Frees = tt
leave_one c leaving.Over = by (c.becomes == ACTIVE)
  where
    by : (t : Bool) → IsOneStep (if t then Entered c.slot ∷ [] else [])
    by true = tt
    by false = tt

pub register_one : (c : Register) (p : Registering) → IsOneStep (register_effects c p)
register_one c registering.Begin = tt
register_one c registering.Look = tt
register_one c (registering.Widen bucket seen) = tt
register_one c (registering.Take seen) = tt
register_one c registering.Enter = tt
register_one c registering.Registered = tt
register_one c (registering.Refused fault) = tt

-- a settling row ends no section, and a leaving one that of its slot
pub settle_goes_on : (s : ℕ) (c : Settle) (p : Settling) → NoneLeft s (settle_effects c p)
settle_goes_on s c at.Sees = tt
settle_goes_on s c at.Holds = tt
settle_goes_on s c at.Pops = tt
settle_goes_on s c (at.Firsts block) = tt
settle_goes_on s c (at.Batches block) = tt
settle_goes_on s c (at.Ends block) = tt
settle_goes_on s c (at.Appends block) = tt
settle_goes_on s c (at.Counts block) = (tt, tt)
settle_goes_on s c (at.Scans slot block marks) = tt
settle_goes_on s c (at.Marks slot block marks) = tt
settle_goes_on s c (at.Marked slot block marks) = tt
settle_goes_on s c (at.Closes marks) = tt
settle_goes_on s c (at.Reads block left pushed) = tt
settle_goes_on s c (at.Links block left pushed slot head) = tt
settle_goes_on s c (at.Pushes block left pushed slot head) = tt
settle_goes_on s c (at.Pushed block left pushed) = tt
settle_goes_on s c (at.Sums pushed) = tt
settle_goes_on s c at.Nexts = tt
settle_goes_on s c (at.Drains next word) = tt
settle_goes_on s c (at.Joins next more) = tt
settle_goes_on s c (at.Tails next) = tt
settle_goes_on s c (at.Takes next) = (tt, tt)
settle_goes_on s c at.Puts = tt
settle_goes_on s c at.Lists = tt
settle_goes_on s c (at.Owns next) = tt
settle_goes_on s c (at.Downs next batch) = tt
settle_goes_on s c at.Gives = tt
settle_goes_on s c at.Over = tt

pub leave_goes_on : (s : ℕ) (c : Leave) (p : Leaving) → (p ≡ leaving.Swaps → c.slot ≡ s → ⊥) → NoneLeft s (leave_effects c p)
leave_goes_on s c leaving.Swaps other = (other refl, tt)
leave_goes_on s c (leaving.Settles settle) other = settle_goes_on s settle settle.stands
leave_goes_on s c leaving.Frees other = tt
leave_goes_on s c leaving.Over other = by (c.becomes == ACTIVE)
  where
    by : (t : Bool) → NoneLeft s (if t then Entered c.slot ∷ [] else [])
    by true = (tt, tt)
    by false = tt

pub register_goes_on : (s : ℕ) (c : Register) (p : Registering) → NoneLeft s (register_effects c p)
register_goes_on s c registering.Begin = tt
register_goes_on s c registering.Look = tt
register_goes_on s c (registering.Widen bucket seen) = tt
register_goes_on s c (registering.Take seen) = tt
register_goes_on s c registering.Enter = (tt, tt)
register_goes_on s c registering.Registered = tt
register_goes_on s c (registering.Refused fault) = tt

-- no registering row takes a block
pub register_none : (c : Register) (p : Registering) → taken_in (register_effects c p) ≡ []
register_none c registering.Begin = refl
register_none c registering.Look = refl
register_none c (registering.Widen bucket seen) = refl
register_none c (registering.Take seen) = refl
register_none c registering.Enter = refl
register_none c registering.Registered = refl
register_none c (registering.Refused fault) = refl

-- one effect takes the block only if none keeps it
pub one_not_taken : (b : ℕ) (effects log : List Effect) → IsOneStep effects → (IsSound (Taken b ∷ log) → ⊥) → IsSound (effects ++ log) → times b (taken_in effects) ≡ 0
one_not_taken b [] log one kept sound = refl
one_not_taken b (Taken c ∷ []) log one kept sound = by (b == c) refl
  where
    by : (t : Bool) → (b == c) ≡ t → times b (c ∷ []) ≡ 0
    by true e = absurd (kept (subst (λ (d : ℕ). IsSound (Taken d ∷ log)) (sym (same e)) sound))
      where
        same : (b == c) ≡ true → b ≡ c
        same q = grind (arith, q)
    by false e = grind (arith, e)
one_not_taken b (Entered c ∷ []) log one kept sound = refl
one_not_taken b (Left c ∷ []) log one kept sound = refl
one_not_taken b (Made c ∷ []) log one kept sound = absurd one
one_not_taken b (Linked c w ∷ []) log one kept sound = absurd one
one_not_taken b (Unlinked c ∷ []) log one kept sound = absurd one
one_not_taken b (Deferred c t ∷ []) log one kept sound = absurd one
one_not_taken b (Retired c ∷ []) log one kept sound = refl
one_not_taken b (Dropped c ∷ []) log one kept sound = absurd one
one_not_taken b (Ended w ∷ []) log one kept sound = absurd one
one_not_taken b (LeftOver c further ∷ []) log one kept sound = absurd one
one_not_taken b (e ∷ f ∷ effects) log one kept sound = absurd one

-- blocks that aren't taken are in the hands that had them
pub hand_kept : (b : ℕ) (effects : List Effect) (hand : ℕ → Hand) → times b (taken_in effects) ≡ 0 → IsOneStep effects → handed_by effects hand b ≡ hand b
hand_kept b [] hand none one = refl
hand_kept b (Taken c ∷ []) hand none one = by (b == c) refl
  where
    by : (t : Bool) → (b == c) ≡ t → with_at hand c NoBlock b ≡ hand b
    by true e = absurd (grind (arith, e, none))
    by false e = grind (arith, e)
hand_kept b (Entered c ∷ []) hand none one = refl
hand_kept b (Left c ∷ []) hand none one = refl
hand_kept b (Made c ∷ []) hand none one = absurd one
hand_kept b (Linked c w ∷ []) hand none one = absurd one
hand_kept b (Unlinked c ∷ []) hand none one = absurd one
hand_kept b (Deferred c t ∷ []) hand none one = absurd one
hand_kept b (Retired c ∷ []) hand none one = refl
hand_kept b (Dropped c ∷ []) hand none one = absurd one
hand_kept b (Ended w ∷ []) hand none one = absurd one
hand_kept b (LeftOver c further ∷ []) hand none one = absurd one
hand_kept b (e ∷ f ∷ effects) hand none one = absurd one

-- and one that is taken is nobody's then
pub taken_hand : (b : ℕ) (effects : List Effect) (hand : ℕ → Hand) → IsOneStep effects → (times b (taken_in effects) ≡ 0 → ⊥) → handed_by effects hand b ≡ NoBlock
taken_hand b [] hand one some = absurd (some refl)
taken_hand b (Taken c ∷ []) hand one some = by (b == c) refl
  where
    by : (t : Bool) → (b == c) ≡ t → with_at hand c NoBlock b ≡ NoBlock
    by true e = grind (arith, e)
    by false e = absurd (some (grind (arith, e)))
taken_hand b (Entered c ∷ []) hand one some = absurd (some refl)
taken_hand b (Left c ∷ []) hand one some = absurd (some refl)
taken_hand b (Made c ∷ []) hand one some = absurd one
taken_hand b (Linked c w ∷ []) hand one some = absurd one
taken_hand b (Unlinked c ∷ []) hand one some = absurd one
taken_hand b (Deferred c t ∷ []) hand one some = absurd one
taken_hand b (Retired c ∷ []) hand one some = absurd (some refl)
taken_hand b (Dropped c ∷ []) hand one some = absurd one
taken_hand b (Ended w ∷ []) hand one some = absurd one
taken_hand b (LeftOver c further ∷ []) hand one some = absurd one
taken_hand b (e ∷ f ∷ effects) hand one some = absurd one

-- a step of a row changes nothing of where blocks are
pub place_kept : (b : ℕ) (effects log : List Effect) → IsOneStep effects → where_is b (effects ++ log) ≡ where_is b log
place_kept b [] log one = refl
place_kept b (Entered c ∷ []) log one = refl
place_kept b (Left c ∷ []) log one = refl
place_kept b (Made c ∷ []) log one = absurd one
place_kept b (Linked c w ∷ []) log one = absurd one
place_kept b (Unlinked c ∷ []) log one = absurd one
place_kept b (Deferred c t ∷ []) log one = absurd one
place_kept b (Retired c ∷ []) log one = refl
place_kept b (Taken c ∷ []) log one = refl
place_kept b (Dropped c ∷ []) log one = absurd one
place_kept b (Ended w ∷ []) log one = absurd one
place_kept b (LeftOver c further ∷ []) log one = absurd one
place_kept b (e ∷ f ∷ effects) log one = absurd one

-- nor of whose they are
pub owner_kept : (b : ℕ) (effects log : List Effect) → IsOneStep effects → owner_of b (effects ++ log) ≡ owner_of b log
owner_kept b [] log one = refl
owner_kept b (Entered c ∷ []) log one = refl
owner_kept b (Left c ∷ []) log one = refl
owner_kept b (Made c ∷ []) log one = absurd one
owner_kept b (Linked c w ∷ []) log one = absurd one
owner_kept b (Unlinked c ∷ []) log one = absurd one
owner_kept b (Deferred c t ∷ []) log one = absurd one
owner_kept b (Retired c ∷ []) log one = refl
owner_kept b (Taken c ∷ []) log one = refl
owner_kept b (Dropped c ∷ []) log one = absurd one
owner_kept b (Ended w ∷ []) log one = absurd one
owner_kept b (LeftOver c further ∷ []) log one = absurd one
owner_kept b (e ∷ f ∷ effects) log one = absurd one
