-- Numbers of blocks lie in strips, one after the other: each strip has words and values of its own, side by side.
use Rattle.std.specs.Prelude.{◌≡◌, ℕ, ◌+◌, ◌<◌, ◌≤◌, List, [], ◌∷◌}
use base.Stored.{Coded, coded×, coded_ℕ, coded_via}
use denote.RawPtr.{Ptr, null_ptr, coded_ptr}

-- where its words lie, and how many come before those of its first number; where the values lie; the index of its first number, and how many it has
pub record Strip : Type 0 where
  pub words : Ptr
  pub skip : ℕ
  pub values : Ptr
  pub first : ℕ
  pub size : ℕ

abbrev pub strip_coded : Coded Strip
strip_coded = coded_via (coded× coded_ptr (coded× coded_ℕ (coded× coded_ptr (coded× coded_ℕ coded_ℕ))))
    (λ (s : Strip). (s.words, (s.skip, (s.values, (s.first, s.size)))))
    (λ x y e i. record { words = (e i).0; skip = (e i).1.0; values = (e i).1.1.0; first = (e i).1.1.1.0; size = (e i).1.1.1.1 })

-- what stands in their list where there is no strip yet
abbrev pub no_strip : Strip
no_strip = record { words = null_ptr; skip = 0; values = null_ptr; first = 0; size = 0 }

-- all but the first one
abbrev pub further : List Strip → List Strip
further [] = []
further (s ∷ ss) = ss

-- What the list of the strips is known by: its name, where the doors of all but the first one lie, and how many numbers the first one has.
pub record Book : Type 0 where
  pub name : ℕ
  pub doors : Ptr
  pub least : ℕ

-- the index is that of one of its numbers
abbrev pub IsOf : Strip → ℕ → Type 0
IsOf s i = (s.first ≤ i) × (i < s.first + s.size)

-- from this index on one follows the other, up to the n-th number
abbrev pub AreStrips : ℕ → List Strip → ℕ → Type 0
AreStrips i [] n = n ≡ i
AreStrips i (s ∷ ss) n = (s.first ≡ i) × AreStrips (i + s.size) ss n
