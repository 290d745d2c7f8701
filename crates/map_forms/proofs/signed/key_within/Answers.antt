use Rattle.std.proofs.Common.{refl, inl, rules, arith, FitsSigned, w64, ◌≤ℤ◌}
use Rattle.std.proofs.lemmas.Int.{ints, to_z-of_z}
use Rattle.map_forms.proofs.PlainTexts.{none_within}
use Rattle.map_forms.proofs.signed.key_within.Goals as goal

pub returns-in_default : goal.returns-in_default
returns-in_default c =
    let fits : FitsSigned w64 c.in-Some.number = search rules in
    let out : (c.args.least ≤ℤ c.in-Some.number) × (c.in-Some.number ≤ℤ c.args.most) → ⊥ = λ within. grind (arith, ints, to_z-of_z) in
    inl (refl, none_within c.args.least c.args.most c.in-Some.number c.args.text.now c.ranges.least c.ranges.most fits c.in-Some.ensures out)

pub returns-in_default-2 : goal.returns-in_default-2
returns-in_default-2 c =
    let fits : FitsSigned w64 c.in-Some.number = search rules in
    let out : (c.args.least ≤ℤ c.in-Some.number) × (c.in-Some.number ≤ℤ c.args.most) → ⊥ = λ within. grind (arith, ints, to_z-of_z) in
    inl (refl, none_within c.args.least c.args.most c.in-Some.number c.args.text.now c.ranges.least c.ranges.most fits c.in-Some.ensures out)
