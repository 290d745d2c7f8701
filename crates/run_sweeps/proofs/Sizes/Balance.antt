-- What is said of how many pairs a map has, by its shards and by calls, and how many are there: both go up alike from one moment to another.
use Rattle.std.specs.Prelude.{◌≡◌, ℕ, ◌+◌, ◌*◌, ◌-◌, ◌/◌, ◌%◌, ◌^◌, ◌==◌, Bool, true, false, is_some, List, sum_by, Option, None, if◌then◌else◌}
use Rattle.std.proofs.Common.{refl, ap, ◌∙◌, arith}
use Rattle.run_finds.specs.Given.RunsDeclared.effect.Effect.{Effect}
use Rattle.run_finds.specs.Given.RunsDeclared.effect.Effect.TheVariants.{Replaced}
use Rattle.run_finds.specs.Given.SchedulesEntry.{ByCall, acting}
use Rattle.run_finds.specs.Given.SchedulesMoment.{UnderWay, Moment}
use Rattle.run_finds.specs.Given.SchedulesViews.{size_of}
use Rattle.run_finds.specs.Waiting.{once_if}
use Rattle.run_sweeps.specs.Sizes.Sizes.{sum_below}

module _ {K V : Type 0} where
  -- What a call has added to a map and not counted; and what it has taken out, with the pair whose place the next one is to take.
  abbrev pub plus_of : ℕ → UnderWay K V → ℕ
  plus_of k c = if k == c.map then c.gained else 0

  abbrev pub minus_of : ℕ → UnderWay K V → ℕ
  minus_of k c = if k == c.map then c.lost + once_if (is_some c.replacing) else 0

  -- what is said, and what is there, with what is missing
  abbrev pub said : ℕ → ℕ → Moment K V → ℕ
  said shards k m = sum_below shards (m.shards k) + sum_by (plus_of k) m.calls

  abbrev pub there : ℕ → Moment K V → ℕ
  there k m = size_of k m + sum_by (minus_of k) m.calls

  -- they go up by as much, but for multiples of 2 ^ 64
  abbrev pub Moves : ℕ → ℕ → Moment K V → Moment K V → Type 0
  Moves shards k x y = (a : ℕ) × (b : ℕ) × (said shards k y + there k x + 2 ^ 64 * a ≡ said shards k x + there k y + 2 ^ 64 * b)

  module _ (shards k : ℕ) where
    -- as where neither does,
    pub moves_none : (x y : Moment K V) → said shards k y ≡ said shards k x → there k y ≡ there k x → Moves shards k x y
    moves_none x y same_said same_there = (0, 0, omega (arith, same_said, same_there))

    -- and over two ways
    pub moves_on : (x y z : Moment K V) → Moves shards k x y → Moves shards k y z → Moves shards k x z
    moves_on x y z (a, b, first) (c, d, later) =
        (a + c, b + d, joined (said shards k x) (said shards k y) (said shards k z) (there k x) (there k y) (there k z) a b c d first later)
      where
        joined : (s0 s1 s2 t0 t1 t2 a b c d : ℕ) → s1 + t0 + 2 ^ 64 * a ≡ s0 + t1 + 2 ^ 64 * b → s2 + t1 + 2 ^ 64 * c ≡ s1 + t2 + 2 ^ 64 * d
            → s2 + t0 + 2 ^ 64 * (a + c) ≡ s0 + t2 + 2 ^ 64 * (b + d)
        joined s0 s1 s2 t0 t1 t2 a b c d e f = omega (arith, e, f)

    -- where both were the same they are so still
    pub evens : (x y : Moment K V) → Moves shards k x y → said shards k x % 2 ^ 64 ≡ there k x % 2 ^ 64 → said shards k y % 2 ^ 64 ≡ there k y % 2 ^ 64
    evens x y (a, b, moves) same = by (said shards k x) (said shards k y) (there k x) (there k y) moves same
      where
        by : (s0 s1 t0 t1 : ℕ) → s1 + t0 + 2 ^ 64 * a ≡ s0 + t1 + 2 ^ 64 * b → s0 % 2 ^ 64 ≡ t0 % 2 ^ 64 → s1 % 2 ^ 64 ≡ t1 % 2 ^ 64
        by s0 s1 t0 t1 e f = omega (arith, e, f)

  -- where a call replaces a pair it replaces no other one
  abbrev pub ReplacesFirst : Option (List ℕ) → Moment K V → Effect → Type 0
  ReplacesFirst caller m (Replaced p) = ByCall (λ c. c.replacing ≡ None) (acting caller m)
  ReplacesFirst caller m _ = Unit {0}

  -- a call that is on this map, with so much added, taken out, and to be replaced
  pub record IsWorth (d : UnderWay K V) (on added out : ℕ) (instead : Option ℕ) : Type 0 where
    pub map : d.map ≡ on
    pub gained : d.gained ≡ added
    pub lost : d.lost ≡ out
    pub replacing : d.replacing ≡ instead

  module _ (k : ℕ) (d : UnderWay K V) (on added out : ℕ) (instead : Option ℕ) (worth : IsWorth d on added out instead) where
    pub plus_is : plus_of k d ≡ (if k == on then added else 0)
    plus_is = ap (λ (n : ℕ). if k == n then d.gained else 0) worth.map ∙ ap (λ (n : ℕ). if k == on then n else 0) worth.gained

    pub minus_is : minus_of k d ≡ (if k == on then out + once_if (is_some instead) else 0)
    minus_is =
        ap (λ (n : ℕ). if k == n then d.lost + once_if (is_some d.replacing) else 0) worth.map
        ∙ ap (λ (n : ℕ). if k == on then n + once_if (is_some d.replacing) else 0) worth.lost
        ∙ ap (λ (o : Option ℕ). if k == on then out + once_if (is_some o) else 0) worth.replacing

-- nothing is nothing on any map
pub none_either : (q : Bool) (n : ℕ) → n ≡ 0 → (if q then n else 0) ≡ 0
none_either true n none = none
none_either false n none = refl

-- a word with what was added and taken out, as a number with multiples of 2 ^ 64
pub word_even : (word gained lost : ℕ) → (a : ℕ) × (b : ℕ) × ((word + gained + (2 ^ 64 - lost % 2 ^ 64)) % 2 ^ 64 + lost + 2 ^ 64 * a ≡ word + gained + 2 ^ 64 * b)
word_even word gained lost = ((word + gained + (2 ^ 64 - lost % 2 ^ 64)) / 2 ^ 64, 1 + lost / 2 ^ 64, omega arith)
