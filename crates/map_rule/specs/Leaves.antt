-- What a move of another caller leaves to a caller.
use Rattle.std.specs.Prelude.{◌≡◌, ◌≢◌, ℕ, suc, ◌<◌, ◌≤◌, Bool, true, false, ◌⊎◌}
use Rattle.map_machines.specs.Given.TablesDeclared.status.TheConstants.Status.{ABORTED, PROMOTED}
use Rattle.map_rule.specs.Chart.{Phase, Still, Copying, Holds, Claimed, Counted, Lost, Chart}
use Rattle.map_rule.specs.Rule.{Rule, IsLawful}
use Rattle.map_rule.specs.Moves.{Move, is_of_caller, after, Allowed}
use Rattle.map_rule.specs.Lasts.{Lasts, IsBy}
use Rattle.map_rule.specs.Moments.{Moments, Remembers}

module _ {K : Type 0} (same : K → K → Bool) (spot : ℕ → K → ℕ → ℕ) (incremental : Bool) where
  -- behind the root, the pair stands where it stood, and so
  abbrev pub LiesAlike : Chart K → Chart K → ℕ → Type 0
  LiesAlike c c2 n =
      (t p : ℕ) → c.first < t
      → ((phase : Phase) (borrowed : Bool) → c2.place t p ≡ Holds n phase borrowed → c.place t p ≡ Holds n phase borrowed)
      × ((borrowed : Bool) → c.place t p ≡ Holds n Still borrowed → c2.place t p ≡ Holds n Still borrowed)

  -- from one state of the tables to a later one, where caller i took no step
  pub record Leaves (i : ℕ) (c c2 : Chart K) : Type 0 where
    pub lasts : Lasts same spot incremental c c2
    pub remembers : Remembers incremental c c2
    -- a pair that has left the map doesn't come back
    pub gone : (n : ℕ) → n < c.stored → c.current n ≡ false → c2.current n ≡ false
    -- nor does a place name it, in incremental mode, that didn't before
    pub unnamed : incremental ≡ true → (n : ℕ) → n < c.stored → c.current n ≡ false
        → (t p : ℕ) (phase : Phase) (borrowed : Bool) → c2.place t p ≡ Holds n phase borrowed → (before : Phase) × (c.place t p ≡ Holds n before borrowed)
    -- a table that was given up stays so, one that is known as promoted, too, and no root is given up
    pub aborted : (t : ℕ) → c.status t ≡ ABORTED → c2.status t ≡ ABORTED
    pub promoted : (t : ℕ) → c.status t ≡ PROMOTED → c2.status t ≡ PROMOTED
    pub spared : (t : ℕ) → t ≤ c.first → c.status t ≢ ABORTED → c2.status t ≢ ABORTED
    -- in blocking mode, claims only grow; and where the root goes on, it goes past all tables, and each was given up or all of it was claimed
    pub claims : incremental ≡ false → (t : ℕ) → c.claim t ≤ c2.claim t
    pub goes_on : incremental ≡ false → c.first < c2.first → (t : ℕ) → c.first < t → t < c.past
        → (t ≤ c2.first) × ((c2.status t ≡ ABORTED) ⊎ (c.len c.first ≤ c2.claim t))
    -- the caller's shares of the copying stay its own, and as they are, and no others become so
    pub mine : (t j : ℕ) → is_of_caller i (c.share t j) ≡ true → c2.share t j ≡ c.share t j
    pub mine_before : (t j : ℕ) → is_of_caller i (c2.share t j) ≡ true → c.share t j ≡ c2.share t j
    -- while it has one behind the root, the root stays, unless the table was given up in blocking mode
    pub root_stays : (t j : ℕ) → c.first < t → t < c.past → j < c.len c.first → is_of_caller i (c.share t j) ≡ true
        → (c2.first ≡ c.first) ⊎ ((incremental ≡ false) × (c2.status t ≡ ABORTED))
    -- in incremental mode, the place that it is copying, and the pair of it behind the root, are as they were
    pub my_place : incremental ≡ true → (j n : ℕ) (borrowed : Bool) → suc c.first < c.past → j < c.len c.first → c.share (suc c.first) j ≡ Claimed i → c.place c.first j ≡ Holds n Copying borrowed
        → (c2.place c.first j ≡ Holds n Copying borrowed) × LiesAlike c c2 n
    -- in blocking mode, one for which a share was lost was aborted by then
    pub gave_up : incremental ≡ false → c.first < c2.first → (t j : ℕ) → c.first < t → t < c.past → j < c.len c.first → c.share t j ≡ Lost → c2.status t ≡ ABORTED
    pub counted : (t j : ℕ) → c.share t j ≡ Counted → c2.share t j ≡ Counted
    pub lost : (t j : ℕ) → c.share t j ≡ Lost → c2.share t j ≡ Lost

  -- The promise: each move leaves that to all who have not made it.
  abbrev pub MovesLeaveToOthers : Type 0
  MovesLeaveToOthers =
      IsLawful same spot → (i : ℕ) (move : Move K) (c : Chart K) → (IsBy i move → ⊥) → Rule same spot incremental c → Moments incremental c → Allowed same spot incremental move c
      → Leaves i c (after spot incremental move c)

  -- and so do steps one after another
  abbrev pub LeavesOnAndOn : Type 0
  LeavesOnAndOn = (i : ℕ) (c c2 c3 : Chart K) → Leaves i c c2 → Leaves i c2 c3 → Leaves i c c3
