-- Each table has its flag.
use Rattle.std.specs.Prelude.{◌++◌, drop, length, map, slice_index_or, slice_set, take}
use Rattle.std.proofs.Common.{◌≡◌, ◌+◌, ◌<◌, ◌≤◌, ℕ, suc, List, refl, sym, ap, ◌∙◌, arith}
use Rattle.run_effects.specs.Tallies.Tally.{flagged}
use Rattle.run_effects.specs.declared.tally.Flagged.{Flagged}
use Rattle.run_effects.proofs.Tallies.Tallies.{changed_length, set_all, set_next, unchanged_at}
use Rattle.run_effects.proofs.tally.flag_each.Goals as goal

pub loop-place-init : goal.loop-place-init
loop-place-init c = refl

-- the place is one of the list, which is as long as it was
pub index-requires : goal.index-requires
index-requires c =
    let long = ap length c.loop-place.invariant ∙ changed_length (flagged c.args.table c.args.is_retired) c.args.tables.now.items c.loop-place.place in
    let test = c.loop-place-test.true in omega (arith, long, test)

pub loop-place-preserved : goal.loop-place-preserved
loop-place-preserved c =
    let f = flagged c.args.table c.args.is_retired in
    let old = c.args.tables.now.items in
    let i = c.loop-place.place in
    let x = c.index.result.now in
    let inside : i < length old = (let test = c.loop-place-test.true in let long = c.len-place-end.ensures in omega (arith, test, long)) in
    -- what is read there has not been changed yet
    let is : slice_index_or old i x ≡ x = sym (unchanged_at f old i x inside) ∙ ap (λ (l : List Flagged). slice_index_or l i x) (sym c.loop-place.invariant) ∙ sym c.index.ensures in
    let on : suc i ≡ i + 1 = omega arith in
    ap (λ (l : List Flagged). slice_set l i c.with_flag.result) c.loop-place.invariant ∙ ap (λ (y : Flagged). slice_set (map f (take i old) ++ drop i old) i y) c.with_flag.ensures
    ∙ set_next f old i x inside is ∙ ap (λ (k : ℕ). map f (take k old) ++ drop k old) on

pub returns : goal.returns
returns c =
    let past : length c.args.tables.now.items ≤ c.loop-place.place = (let test = c.loop-place-test.false in let long = c.len-place-end.ensures in omega (arith, test, long)) in
    c.loop-place.invariant ∙ set_all (flagged c.args.table c.args.is_retired) c.args.tables.now.items c.loop-place.place past
