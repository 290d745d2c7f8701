-- What a seat that visits blocks is known by.
use Rattle.std.specs.Prelude.{◌≡◌, ℕ, ◌≤◌, List, [], ◌∷◌, Option, Some, None}
use base.Stored.{Coded, coded×, coded_ℕ, coded_list, coded_via}
use denote.RawPtr.{coded_ptr}
use Rattle.seize_words.specs.OneMemory.Mem.{Mem}
use Rattle.seize_seats.specs.Seats.State.{State, view_of}
use Rattle.seize_seats.specs.Seats.Visits.{Spot, Visit, Claim, HoldsKept, plain_memory}
use Rattle.seize_seats.specs.Seats.Errands.{Away, ViewCode, with_away, HoldsAway}
use Rattle.seize_seats.specs.Plots.Pieces.{value_of, lies}
use Rattle.seize_seats.specs.declared.kept.Kept.{Kept}

abbrev pub listed : {A : Type 0} → Option A → List A
listed None = []
listed (Some u) = u ∷ []

pub listed_inj : {A : Type 0} (x y : Option A) → listed x ≡ listed y → x ≡ y
listed_inj None None e = λ i. None
listed_inj None (Some u) e = absurd (cc e)
listed_inj (Some u) None e = absurd (cc e)
listed_inj (Some u) (Some w) e = let same : u ≡ w = cc e in λ i. Some (same i)

abbrev pub claim_coded : Coded Claim
claim_coded = coded_via (coded× coded_ℕ (coded× coded_ℕ (coded× coded_ℕ (coded× coded_ℕ coded_ℕ))))
    (λ (c : Claim). (c.guard, (c.guards, (c.owner, (c.owners, c.block)))))
    (λ x y e i. record { guard = (e i).0; guards = (e i).1.0; owner = (e i).1.1.0; owners = (e i).1.1.1.0; block = (e i).1.1.1.1 })

-- the parts of what is noted, as they are kept
abbrev pub visit_parts : Visit → List (ℕ × Spot) × (ℕ × List Claim)
visit_parts y = (listed y.spot, (y.steps, listed y.claim))

pub visit_parts_inj : (x y : Visit) → visit_parts x ≡ visit_parts y → x ≡ y
visit_parts_inj x y e =
    let spots : x.spot ≡ y.spot = listed_inj x.spot y.spot (λ i. (e i).0) in let claims : x.claim ≡ y.claim = listed_inj x.claim y.claim (λ i. (e i).1.1) in
    λ i. record { spot = spots i; steps = (e i).1.0; claim = claims i }

abbrev pub visit_coded : Coded Visit
visit_coded = coded_via (coded× (coded_list (coded× coded_ℕ (coded× coded_ptr coded_ℕ))) (coded× coded_ℕ (coded_list claim_coded))) visit_parts visit_parts_inj

-- what a seat knows, which block it visits, and whether it is on an errand
abbrev pub Seen : Type 0 → Type 0
Seen V = (V × Visit) × Away

abbrev pub seat_coded : {V : Type 0} → Coded V → ViewCode (Seen V)
seat_coded c = with_away (coded× c visit_coded)

-- what holds between any two steps of a memory whose seats visit blocks and go on errands
abbrev pub HoldsHere : {T V W : Type 0} → (V → Type 0) → (V → ℕ → Type 0) → (State T V W → Type 0) → State (Kept T) (Seen V) W → Type 0
HoldsHere {T} {V} {W} rests leans holds =
    HoldsAway (λ (u : V × Visit). rests u.0) (λ (u : V × Visit) (n : ℕ). leans u.0 n) (HoldsKept value_of lies holds)

-- as long as no seat has come the memory is what it was as its lifetime began
abbrev pub IsStill : {T V W : Type 0} → Mem T → State (Kept T) (Seen V) W → Type 0
IsStill m s = s.views ≡ [] → plain_memory value_of s.memory ≡ m

-- Both seats of a claim are there, at the steps that it names or past them; as long as they are at them the block is kept.
abbrev pub IsKept : {T V W : Type 0} → (V → V → W → ℕ → Type 0) → Claim → State (Kept T) (Seen V) W → Type 0
IsKept {T} {V} keeps c s =
    (a o : Seen V) × (view_of s c.guard ≡ Some a) × (view_of s c.owner ≡ Some o) × (c.guards ≤ a.0.1.steps) × (c.owners ≤ o.0.1.steps)
    × (c.guards ≡ a.0.1.steps → c.owners ≡ o.0.1.steps → keeps a.0.0 o.0.0 s.world c.block)

-- what seats bear witness of is so
abbrev pub AreClaimed : {T V W : Type 0} → (V → V → W → ℕ → Type 0) → State (Kept T) (Seen V) W → Type 0
AreClaimed {T} {V} keeps s = (id : ℕ) (u : Seen V) (c : Claim) → view_of s id ≡ Some u → u.0.1.claim ≡ Some c → IsKept keeps c s

-- what holds between any two steps, in a lifetime that began so
abbrev pub HoldsSince : {T V W : Type 0} → (V → Type 0) → (V → ℕ → Type 0) → Mem T → (State T V W → Type 0) → (V → V → W → ℕ → Type 0)
    → State (Kept T) (Seen V) W → Type 0
HoldsSince rests leans m holds keeps s = HoldsHere rests leans holds s × IsStill m s × AreClaimed keeps s

-- what seats keep is a matter of their views
abbrev pub keeps_here : {V W : Type 0} → (V → V → W → ℕ → Type 0) → Seen V → Seen V → W → ℕ → Type 0
keeps_here keeps u o w b = keeps u.0.0 o.0.0 w b
