-- What a call answers that has changed nothing is of the list of the map's pairs.
use Rattle.std.specs.Prelude.{◌≡◌, ℕ, zero, suc, ◌<◌, Bool, true, List, [], ◌∷◌, Some, None, if◌then◌else◌}
use Rattle.std.proofs.Common.{refl, ap, sym, subst, ◌∙◌, inl, inr, arith}
use Rattle.std.proofs.lemmas.Bool.{cases_eq}
use Rattle.seize_words.specs.OneMemory.Mem.{Mem, value_at}
use Rattle.seize.specs.World.{World}
use Rattle.map_tables.specs.declared.node.Node.{Node}
use Rattle.map_tables.specs.declared.node.Node.TheVariants as node
use Rattle.map_tables.specs.declared.setting.Setting.{Setting}
use Rattle.papaya_raw.specs.declared.machines.answer.KeyAnswer.{KeyAnswer}
use Rattle.papaya_raw.specs.declared.machines.answer.KeyAnswer.TheVariants as answers
use Rattle.map_measures.specs.Given.RuleChart.{Chart}
use Rattle.map_measures.specs.Given.RuleWords.{Blocks}
use Rattle.map_measures.specs.Given.RuleInWorld.{IsMapIn}
use Rattle.owner_facts.specs.Given.PointsFactsCalls.{Unchanged}
use Rattle.owner_facts.specs.Given.PointsSteps.{AreLawful}
use Rattle.map_measures.specs.Given.CallersSince.{SoSince}
use Rattle.owner_whole.specs.Whole.Contents.{pair_for, ContentsBelow, AreContents, HasRun, IsOfPairs, AnswersOfPairs}
use Rattle.owner_whole.proofs.Whole.Contents.Lists.{pair_for-append, pair_for-first}
use Rattle.owner_whole.proofs.Whole.Contents.Below.{EndsWith, ends_with, as_before, has_pair, same_key, absent_below, pairs_apart}
use Rattle.seize_words.proofs.General.{true_or_false as decided}

module _ {K V : Type 0} (same : K → K → Bool) (hash : K → ℕ) (lawful : AreLawful same hash) (setting : Setting) (w : World (Node K V)) (c : Chart K) (blocks : Blocks)
    (map : IsMapIn same hash setting w c blocks) where
  -- the pair of a class is found in the list
  module _ (k : K) (o : ℕ) (is : c.current o ≡ true) (j : K) (v : V) (block : value_at w.memory (blocks.pair o) ≡ Some (node.Pair j v)) (of : same k j ≡ true) where
    last_there : (i : K) (x : V) → value_at w.memory (blocks.pair o) ≡ Some (node.Pair i x) → pair_for same k ((i, x) ∷ []) ≡ Some (j, v)
    last_there i x h =
        let one : Some (node.Pair i x) ≡ Some (node.Pair j v) = sym h ∙ block in
        let key : i ≡ j = cc one in
        let value : x ≡ v = cc one in
        let it : K × V = (j, v) in
        ap (λ (a : K). pair_for same k ((a, x) ∷ [])) key ∙ ap (λ (a : V). pair_for same k ((j, a) ∷ [])) value ∙ ap (λ (b : Bool). if b then Some it else None) of

    pub present_below : (n : ℕ) (xs : List (K × V)) → ContentsBelow w.memory c blocks n xs → o < n → pair_for same k xs ≡ Some (j, v)
    present_below zero xs below low = absurd (omega (arith, low))
    present_below (suc n) xs below low = elim (decided (c.current n)) as (λ _. pair_for same k xs ≡ Some (j, v)) [
      | inl e ↦ there (ends_with w.memory c blocks n xs e below) (present_below n)
      | inr e ↦ elim (cases_eq o n) as (λ _. pair_for same k xs ≡ Some (j, v)) [
        | inl here ↦ (let now = ap c.current here in absurd (cc (is, now, e)))
        | inr other ↦ present_below n xs (as_before w.memory c blocks n xs e below) (omega (arith, low, other))
      ]
    ]
      where
        there : EndsWith w.memory c blocks n xs → ((ys : List (K × V)) → ContentsBelow w.memory c blocks n ys → o < n → pair_for same k ys ≡ Some (j, v)) → pair_for same k xs ≡ Some (j, v)
        there l before = elim (cases_eq o n) as (λ _. pair_for same k xs ≡ Some (j, v)) [
          | inl here ↦
              (let none = absent_below same hash lawful setting w c blocks map k n l.before l.below
              (λ p i less its key. pairs_apart same hash lawful setting w c blocks map k o p j i is its (same_key same hash lawful setting w c blocks map o j v is block) key of (λ z. omega (arith, z, here, less))) in
              ap (pair_for same k) l.is ∙ pair_for-append same k l.before ((l.key, l.value) ∷ []) none
              ∙ last_there l.key l.value (ap (λ (x : ℕ). value_at w.memory (blocks.pair x)) here ∙ l.block))
          | inr other ↦
              ap (pair_for same k) l.is ∙ pair_for-first same k l.before ((l.key, l.value) ∷ []) (j, v) (before l.before l.below (omega (arith, low, other)))
        ]

  module _ (seen : Blocks) (sees : (o : ℕ) → c.current o ≡ true → seen.pair o ≡ blocks.pair o) (keys : K → Bool) (k : K) (keys_are : (j : K) → keys j ≡ same k j)
      (m0 : Mem (Node K V)) (c0 : Chart K) (blocks0 : Blocks) (run : HasRun same hash setting keys m0 c0 blocks0 Unchanged w.memory c blocks)
      (xs : List (K × V)) (are : AreContents w.memory c blocks xs) where
    pub answers_of_it : (answer : KeyAnswer) → SoSince hash c seen keys c0.now answer → IsOfPairs same hash w.memory c seen k xs answer
    answers_of_it (answers.Found word) (m, l, h, (n, (low, was, i, key, of), known, phase, borrowed, is)) =
        let now : c.current n ≡ true = sym (run.still refl m n l h) ∙ was in
        let p = has_pair same hash lawful setting w c blocks map n now in
        let one : Some i ≡ Some p.key = sym key ∙ p.key_is in
        let e : i ≡ p.key = cc one in
        let of_class : same k p.key ≡ true = sym (keys_are p.key) ∙ subst (λ (x : K). keys x ≡ true) e of in (
          n,
          phase,
          borrowed,
          is,
          p.key,
          p.value,
          ap (value_at w.memory) (sees n now) ∙ p.block,
          present_below k n now p.key p.value p.block of_class c.stored xs are low,
        )
    answers_of_it answers.Absent (m, l, h, all) =
        absent_below same hash lawful setting w c blocks map k c.stored xs are (λ o j low here key. sym (keys_are j) ∙ all.1 o j low (run.still refl m o l h ∙ here) key)
    answers_of_it (answers.Stored word) so = absurd so.3
    answers_of_it (answers.Replaced old new) so = absurd so.3
    answers_of_it (answers.Removed word) so = absurd so.3

pub answers_of_pairs : {K : Type 0} (V : Type 0) (same : K → K → Bool) (hash : K → ℕ) → AnswersOfPairs V same hash
answers_of_pairs V same hash lawful setting w c blocks seen map sees keys k keys_are m0 c0 blocks0 run answer so xs are =
    answers_of_it same hash lawful setting w c blocks map seen sees keys k keys_are m0 c0 blocks0 run xs are answer so
