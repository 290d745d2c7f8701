-- A table that the root has left names the pairs that the map had then: what is found there was so at that moment.
use Rattle.std.proofs.Common.{◌≡◌, ℕ, suc, Bool, true, false, Some, refl, ap, ◌∙◌}
use Rattle.map_facts.specs.Given.RawDeclared.machines.answer.KeyAnswer.TheVariants as answers
use Rattle.map_facts.specs.Given.RuleChart.{Phase, Holds, Chart, is_taken}
use Rattle.map_facts.specs.Given.RuleRule.{IsLawful, Passed, Rule, is_of}
use Rattle.map_facts.specs.Given.RuleWords.{Blocks, place_word}
use Rattle.map_facts.specs.Given.RuleMaps.{spot_at, spot_of, IsClass}
use Rattle.map_facts.specs.Given.RuleMoments.{Moments, Names}
use Rattle.map_facts.proofs.Given.RuleMoves.Shuts.{none_at_end}
use Rattle.map_facts.proofs.Given.RuleKeys.ClassesFound.{none_at_untaken}
use Rattle.map_facts.proofs.Given.RuleKeys.ClassesSeen.{is_of_keys, tried_is}
use Rattle.map_facts_late.specs.Left.{Left}
use Rattle.map_facts_late.specs.Was.{HadNone, SoSince}

module _ {K : Type 0} (same : K → K → Bool) (hash : K → ℕ) (lawful : IsLawful same (spot_of hash)) (keys : K → Bool) (code : ℕ) (class : IsClass same hash keys code)
    (c : Chart K) (rule : Rule same (spot_of hash) false c) (moments : Moments false c) (blocks : Blocks) (began t : ℕ) (left : Left c began t) where
  -- it names no pair of the keys
  abbrev NamesNone : Type 0
  NamesNone =
      (k : K) → keys k ≡ true → (i n : ℕ) (phase : Phase) (borrowed : Bool) → c.place t i ≡ Holds n phase borrowed → is_of same (spot_of hash) false k (c.key n) ≡ true → ⊥

  names : (n : ℕ) → c.was (c.passed t) n ≡ true → Names c t n
  names n = (moments.frozen refl t n left.behind left.was_root).0

  had_none : NamesNone → HadNone hash c blocks keys (c.passed t)
  had_none none = (λ n was. (let at = names n was in (rule.common.keyed t at.0 n at.1 at.2 at.3).0), λ n k stored was key. by n k was key (keys k) refl)
    where
      by : (n : ℕ) (k : K) → c.was (c.passed t) n ≡ true → c.key n ≡ Some k → (b : Bool) → keys k ≡ b → keys k ≡ false
      by n k was key false e = e
      by n k was key true e =
          let at = names n was in
          absurd (none k e at.0 n at.1 at.2 at.3 (is_of_keys same hash lawful keys code class false k k (c.key n) key e ∙ e))

  so : NamesNone → SoSince hash c blocks keys began answers.Absent
  so none = (c.passed t, left.since, moments.passed_before t left.behind, had_none none)

  -- a try is at an empty place, and those before are passed
  pub was_free : (j : ℕ) → ((k : K) → keys k ≡ true → Passed same (spot_of hash) false c t k j) → is_taken false (c.place t (spot_at (c.len t) code j)) ≡ false
      → SoSince hash c blocks keys began answers.Absent
  was_free j before untaken = so (λ k asked.
      none_at_untaken same (spot_of hash) false lawful c rule.common t k j left.was_root (before k asked)
      (ap (is_taken false) (tried_is same hash lawful keys code class false c t j k asked) ∙ untaken))

  -- all tries are passed
  pub was_past : ((k : K) → keys k ≡ true → Passed same (spot_of hash) false c t k (suc (c.limit t))) → SoSince hash c blocks keys began answers.Absent
  was_past before = so (λ k asked. none_at_end same (spot_of hash) false lawful c rule.common t k left.was_root (before k asked))

  -- a pair of them stands there
  pub was_there : (i n : ℕ) (phase : Phase) (borrowed : Bool) (k : K) → c.place t i ≡ Holds n phase borrowed → c.key n ≡ Some k → keys k ≡ true → blocks.pair_known n ≡ true
      → (word : ℕ) → word ≡ place_word hash c blocks (Holds n phase borrowed) → SoSince hash c blocks keys began (answers.Found word)
  was_there i n phase borrowed k at key asked known word is = (
    c.passed t,
    left.since,
    moments.passed_before t left.behind,
    (
      n,
      ((rule.common.keyed t i n phase borrowed at).0, (moments.frozen refl t n left.behind left.was_root).1 (i, phase, borrowed, at), k, key, asked),
      known,
      phase,
      borrowed,
      is,
    ),
  )
