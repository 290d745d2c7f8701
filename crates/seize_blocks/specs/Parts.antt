-- Which strips of a memory are had, and claims to numbers of them.
use Rattle.std.specs.Prelude.{◌≡◌, ℕ, ◌+◌, ◌-◌, ◌*◌, ◌<◌, ◌≤◌, ◌^◌}
use denote.RawPtr.{InBlock}
use Rattle.seize_seats.specs.Seats.Owned.{BaseId, core_of}
use Rattle.seize_blocks.specs.declared.part.Part.{Part}
use Rattle.seize_blocks.specs.declared.part.Place.{Place}
use Rattle.seize_atoms.specs.Placed.{IsItsIndex}
use Rattle.seize_atoms.specs.declared.claim.Claim.{Claim}

-- it is a strip of this memory
abbrev pub IsHad : {T : Type 0} → BaseId → Part T → Type 0
IsHad z p = (core_of p.strip.id ≡ core_of z) × InBlock p.strip.words

-- it is that of this place in the list, and so many numbers come before that which follows it
abbrev pub IsPart : {T : Type 0} → BaseId → Part T → ℕ → Type 0
IsPart z p place = IsHad z p × (p.strip.id.place ≡ place) × (p.first + p.count ≡ z.least * 2 ^ place)

-- the block, if one was looked for, is at the place, which is in a strip of this memory
abbrev pub IsFound : {T : Type 0} → BaseId → Place T → Type 0
IsFound z p =
    (core_of p.spot.strip.id ≡ core_of z) × InBlock p.spot.strip.words × (p.spot.values ≡ p.spot.strip.id.values)
    × IsItsIndex p.spot.strip.id p.block p.spot.index

-- it is the block's index among all numbers, if these are so many, and in any case no higher one, and one of as many
abbrev pub IsItsNumber : ℕ → ℕ → Type 0
IsItsNumber block number = (number < 2 ^ 32) × (0 < block → (number < block) × (block ≤ 2 ^ 32 → number ≡ block - 1))

-- a number of a strip, with its index in it, is claimed
abbrev pub IsClaimed : {T : Type 0} → BaseId → Part T × ℕ × Claim → Type 0
IsClaimed z c = IsHad z c.0 × (c.1 < c.0.count) × (c.2.found ≡ 0) × (c.2.base ≡ z.hands_name) × (c.2.index ≡ c.0.first + c.1)
