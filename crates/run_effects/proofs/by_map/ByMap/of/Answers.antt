-- The numbers of the pairs of each map are listed.
use Rattle.std.specs.Prelude.{◌++◌, slice_index_or, Some}
use Rattle.std.proofs.Common.{ap}
use Rattle.std.proofs.lemmas.List.{get_or_default}
use Rattle.run_effects.specs.Tallies.ByMap.{list_at, numbers_in}
use Rattle.run_effects.specs.Tallies.Tally.{numbers_at, passes}
use Rattle.run_effects.specs.declared.tally.Whereabouts.TheVariants.{Unborn}
use Rattle.run_effects.proofs.Tallies.Numbers.{number_noted, numbers_end}
use Rattle.run_effects.proofs.by_map.ByMap.of.Goals as goal

pub loop-place-init : goal.loop-place-init
loop-place-init c = λ map. ap (λ l. list_at l map ++ numbers_at (passes (Some map)) 0 c.args.pairs.now) c.new.ensures.items

pub loop-place-preserved : goal.loop-place-preserved
loop-place-preserved c = λ map.
    let i = c.loop-place.place in
    let x = slice_index_or c.args.pairs.now i Unborn in
    let is = get_or_default c.args.pairs.now i Unborn x c.loop-place-test.true in
    number_noted (passes (Some map)) (numbers_at (passes (Some map)) 0 c.args.pairs.now) (numbers_in map c.loop-place.by_map) c.args.pairs.now i x c.loop-place-test.true is (c.loop-place.invariant map)
    (numbers_in map c.note.new.self) (c.in_ok-note.ensures map)

pub returns : goal.returns
returns c = λ map. numbers_end (passes (Some map)) _ (numbers_in map c.loop-place.by_map) c.args.pairs.now c.loop-place.place c.loop-place-test.false (c.loop-place.invariant map)
