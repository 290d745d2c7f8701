-- By hand: where no table can follow the last one.
use Rattle.std.specs.Prelude.{◌^◌, [], ◌∷◌}
use Rattle.std.proofs.Common.{inl, inr, arith}
use Rattle.map_straight.specs.Shown.Chain.{CannotGrow}

-- where there is none, one can be
none_ends : CannotGrow [] → ⊥
none_ends h = h

-- one that is short, and has not the last turn, can be followed, whatever came before it
short_followed : CannotGrow ((2 ^ 48, 0) ∷ ((64, 1) ∷ [])) → ⊥
short_followed (inl long) = absurd (omega (arith, long))
short_followed (inr late) = absurd (omega (arith, late))

longest_ends : CannotGrow ((64, 0) ∷ ((2 ^ 48, 1) ∷ []))
longest_ends = inl (omega arith)

latest_ends : CannotGrow ((64, 2 ^ 63) ∷ [])
latest_ends = inr (omega arith)
