-- The places at which a key is looked for in a table, one try after another.
use Rattle.std.specs.Prelude.{◌≡◌, ℕ, ◌+◌, ◌-◌, ◌*◌, ◌/◌, ◌%◌, ◌^◌, ◌<◌, min}
use Rattle.std.specs.Int.Bits.{bit_and}
use Rattle.map_tables.specs.declared.probe.Probe.{Probe}
use Rattle.map_tables.specs.Powers.{floor_log2}

-- the triangular numbers: 0, 1, 3, 6, and so on
abbrev pub triangular : ℕ → ℕ
triangular number = number * (number + 1) / 2

-- the place of a hash at a try, in a table of `2 ^ bits` places
abbrev pub place_at : ℕ → ℕ → ℕ → ℕ
place_at hash bits try = (hash + triangular try) % 2 ^ bits

-- the probe is at the place of the hash that its try has
abbrev pub IsAt : Probe → ℕ → ℕ → Type 0
IsAt probe hash bits = probe.i ≡ place_at hash bits probe.len

-- the first tries, as many as the table has places, are at different places
abbrev pub HasDistinctPlaces : ℕ → ℕ → Type 0
HasDistinctPlaces hash bits =
    (try other : ℕ) → try < 2 ^ bits → other < 2 ^ bits → place_at hash bits try ≡ place_at hash bits other → try ≡ other

-- each place is that of one of these tries
abbrev pub HasAllPlaces : ℕ → ℕ → Type 0
HasAllPlaces hash bits = (place : ℕ) → place < 2 ^ bits → (try : ℕ) × (try < 2 ^ bits) × (place_at hash bits try ≡ place)

-- where a probe begins
abbrev pub probe_from : ℕ → ℕ → Probe
probe_from hash mask = record { i = bit_and hash mask; len = 0 }

-- where it goes on: the try after this one, and as many places further
abbrev pub probe_after : Probe → ℕ → Probe
probe_after probe mask = record {
  i = bit_and ((probe.i + (probe.len + 1) % 2 ^ 64) % 2 ^ 64) mask;
  len = (probe.len + 1) % 2 ^ 64;
}

-- the last try at a table of this length
abbrev pub limit_of : ℕ → ℕ
limit_of len = min (5 * floor_log2 len) (len - 1)
