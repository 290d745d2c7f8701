-- What is refused of an answer, and of a change, since a call began: in a map of one place, whose one pair, with key 7, was stored at its first moment.
use Rattle.std.proofs.Common.{◌≡◌, ℕ, Bool, true, refl, subst, eqb, arith}
use Rattle.map_facts_late.specs.Given.RawDeclared.machines.answer.KeyAnswer.TheVariants.{Absent}
use Rattle.map_facts_late.specs.Given.RuleWords.{Blocks}
use Rattle.map_facts_late.specs.Given.PointsFactsCalls.{Stored, Removed}
use Rattle.many_calls.specs.Since.{HadNone, WasChanged, SoSince}
use Rattle.map_facts_late.proofs.Given.RuleSamples.SampleResizes.{rooted, stored}

module _ (blocks : Blocks) where
  abbrev keys : ℕ → Bool
  keys k = eqb k 7

  -- a call that began after the pair was stored answers that its key is missing
  answers_absent : SoSince (λ k. k) stored blocks keys 1 Absent → ⊥
  answers_absent (m, began, now, none) =
      let is : m ≡ 1 = omega (arith, began, now) in
      let had = subst (λ (x : ℕ). HadNone (λ k. k) stored blocks keys x) is none in
      let missing = had.1 0 7 (omega arith) refl refl in cc missing

  -- an insertion has told a change, and the map is as it was
  stores_nothing : WasChanged (λ k. k) (record rooted { now = 1 }) blocks keys 0 (Stored 0) → ⊥
  stores_nothing made = let changed = made.1 0 in cc changed

  -- a removal has told a change, and took nothing out
  removes_nothing : WasChanged (λ k. k) (record stored { now = 2; was = λ m n. true }) blocks keys 1 (Removed 0) → ⊥
  removes_nothing made = let changed = made.1 0 in cc changed
