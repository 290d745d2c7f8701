-- The drivers of a crew, one after another.
use Rattle.std.specs.Prelude.{ℕ, List, [], ◌∷◌, ◌++◌, map}
use Rattle.std.specs.List.{range_with_len}
use Rattle.std.proofs.Common.{◌≡◌, sym, ap, ◌∙◌, arith}
use Rattle.std.proofs.lemmas.List.FromFn.{map-range_with_len_more}
use Rattle.run_names.specs.Crews.Crew.{Listed}
use Rattle.run_names.specs.declared.kept.Applied.{Applied}
use Rattle.run_names.proofs.crew.CrewOf.new.Goals as goal

abbrev listing : {E O : Type 0} → ℕ → List (Applied E O) → Listed E O
listing k list = record { number = k; list = list }

abbrev fresh : {E O : Type 0} → ℕ → Listed E O
fresh k = listing k []

pub of-requires-clause-counted : goal.of-requires-clause-counted
of-requires-clause-counted g c = c.split_off.ensures.amount ∙ sym c.new.ensures.len

pub loop-number-preserved : goal.loop-number-preserved
loop-number-preserved g c =
    let n = c.loop-number.number in
    let i = c.loop-number.invariant in
    let s = c.split_off.ensures in
    let drivers = c.loop-number.drivers.items in (
      omega (arith, i.0, s.parts_left),
      omega (arith, i.1, s.amount_left),
      c.in_ok-push.ensures.items ∙ ap (λ d. drivers ++ d ∷ []) (c.of.ensures ∙ ap (listing n) c.new.ensures.items)
          ∙ ap (λ (l : List (Listed g.row.E.Denot g.row.R-Outcome.Denot)). l ++ fresh n ∷ []) i.2 ∙ sym (map-range_with_len_more fresh 0 n n (omega arith)),
    )

pub returns-clause-drivers : goal.returns-clause-drivers
returns-clause-drivers g c =
    let i = c.loop-number.invariant in
    let all : c.loop-number.number ≡ c.args.n = omega (arith, i.0, c.loop-number-test.false) in
    i.2 ∙ ap (λ (n : ℕ). map fresh (range_with_len 0 n)) all
