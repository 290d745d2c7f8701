-- Claims in blocking mode: how many calls are under way at a time, and that so few keep the claim of each table far from the end of a word.
use Rattle.std.specs.Prelude.{◌≡◌, ◌≢◌, ℕ, ◌+◌, ◌*◌, ◌<◌, ◌≤◌, ◌^◌, ◌⊎◌, List, length}
use Rattle.std.specs.List.{All, AllPairs}
use Rattle.map_facts_late.specs.Given.ResizeDeclared.copier.Copying.TheVariants as copies
use Rattle.map_facts_late.specs.Given.RawDeclared.machines.call.Calling.{Calling}
use Rattle.map_facts_late.specs.Given.RawDeclared.machines.call.Calling.TheVariants as at
use Rattle.map_facts_late.specs.Given.RuleChart.{Chart}

-- Such callers are few: however many different ones are taken, there are at most so many.
abbrev pub AreFew : (ℕ → Type 0) → Type 0
AreFew Such = (callers : List ℕ) → AllPairs (λ i j. i ≢ j) callers → All Such callers → length callers ≤ 2 ^ 32

-- a call on one key that stands there is no lookup
abbrev pub IsNoLookup : Calling → Type 0
IsNoLookup (at.Looks lookup) = ⊥
IsNoLookup _ = Unit {0}

-- the next step of a call is to claim a chunk of places, to be copied into the table with this turn
abbrev pub IsToClaim : ℕ → Calling → Type 0
IsToClaim t (at.Copies copier) = (copier.stands ≡ copies.Claims) × (copier.target.turn ≡ t)
IsToClaim t _ = ⊥

-- With a chunk more for each of the callers that are to claim there, the claim of a table is at most that of the longest table and of as many chunks
-- as callers may be under way.
abbrev pub ClaimsFit : {K : Type 0} → Chart K → (ℕ → ℕ → Type 0) → Type 0
ClaimsFit c IsToClaimOf =
    (t : ℕ) → t < c.past → (callers : List ℕ) → AllPairs (λ i j. i ≢ j) callers → All (IsToClaimOf t) callers
    → c.claim t + 4096 * length callers ≤ 2 ^ 48 + 4096 * 2 ^ 32

-- What one step of a call does to claims, which was to claim there before it, and is to claim there after it.
pub record ClaimsBy {K : Type 0} (c c2 : Chart K) (Was Then : ℕ → Type 0) : Type 0 where
  -- a claim is as it was, or grew by a chunk at most, by a call that was to claim there and has done so
  pub grows : (t : ℕ) → t < c.past → (c2.claim t ≡ c.claim t) ⊎ (Was t × (Then t → ⊥) × (c2.claim t ≤ c.claim t + 4096))
  -- a call comes to claim there only where it has seen that places are left
  pub sees : (t : ℕ) → Then t → c2.claim t < 2 ^ 48
