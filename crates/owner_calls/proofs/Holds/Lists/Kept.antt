-- What a memory held is kept by what takes nothing of a map away, but for some that waited; and what was stored has come.
use Rattle.std.specs.Prelude.{◌≡◌, ℕ, ◌<◌, Bool, false, cond, List, [], ◌∷◌, ◌++◌, Option, Some, None, IsPermutation}
use Rattle.std.proofs.Common.{refl, sym, ◌∙◌, ap, subst, arith, inl, inr}
use Rattle.std.proofs.lemmas.Bool.{cases_eq, eq-eqb, ne_eqb}
use Rattle.std.proofs.lemmas.List.Sorted.{IsPermutation-trans, IsPermutation-append_right, length_permutation}
use Rattle.seize_words.specs.OneMemory.Mem.{Mem, value_at}
use Rattle.seize_words.specs.OneMemory.Word.{block_in}
use Rattle.seize.specs.World.{times}
use Rattle.map_tables.specs.declared.node.Node.{Node}
use Rattle.map_tables.specs.declared.node.Node.TheVariants as node
use Rattle.papaya_raw.specs.declared.machines.answer.KeyAnswer.{KeyAnswer}
use Rattle.papaya_raw.specs.declared.machines.answer.KeyAnswer.TheVariants as answers
use Rattle.owner_whole.proofs.Given.FinishesEnds.CountedBlocks.{times-append, times_other, some_here}
use Rattle.owner_whole.specs.Strides.Standing.{Standing}
use Rattle.owner_calls.specs.Holds.Balances.{HasJust}
use Rattle.owner_calls.specs.Holds.Came.{StandsAt, NoneCame, NoneCameBut, CameBy, stored_by}
use Rattle.owner_calls.specs.Holds.Held.{HoldsOn, held_in, pair_at_word, with_pair}
use Rattle.owner_calls.proofs.Holds.Lists.Balance.{others, stays, stays_so, still, was_there}
use Rattle.owner_calls.proofs.Holds.Lists.Numbers.{behind, held_just, joined, just_same}
use Rattle.owner_calls.proofs.Holds.Lists.Rest.{Rest, rest_of, without}
use Rattle.owner_calls.proofs.Holds.Lists.Split.{has_if, has_pair, none_there, split}

-- The map's pairs stand in the same blocks.
module _ {K V : Type 0} (m0 m : Mem (Node K V)) (blocks : List ℕ) (xs : List (K × V)) (was : Standing m0 blocks xs) (is : Standing m blocks xs) where
  had : HasJust m0 (held_in m0)
  had = held_just m0

  -- those that waited
  rest_was : Rest m0 blocks xs had.0 (held_in m0)
  rest_was = rest_of m0 blocks xs was had.0 (held_in m0) had.1 (λ c some. had.2 c _ (without m0 c blocks xs was some).here)

  apart : Standing m0 rest_was.rest rest_was.more × ((c : ℕ) → 0 < times c blocks → times c rest_was.rest ≡ 0)
  apart = behind m0 blocks xs rest_was.rest rest_was.more was rest_was.stand

  before : (waiting given : List (K × V)) → IsPermutation rest_was.more (waiting ++ given) → IsPermutation (held_in m0) (xs ++ (waiting ++ given))
  before waiting given order =
      IsPermutation-trans (held_in m0) (xs ++ rest_was.more) (xs ++ (waiting ++ given)) rest_was.order (IsPermutation-append_right xs rest_was.more (waiting ++ given) order)

  -- no pair has come
  pub none_keeps : NoneCame m0 m → HoldsOn [] xs (held_in m0) (held_in m)
  none_keeps none =
      let s = split m0 m (still m0 m (held_in m0) had blocks xs is none) (stays m0 m (held_in m0) had blocks xs is none) rest_was.rest rest_was.more apart.0 in (
        s.pairs,
        s.given,
        before s.pairs s.given s.order,
        just_same m (held_in m) (xs ++ s.pairs) (held_just m) (
          blocks ++ s.kept,
          joined m blocks xs s.kept s.pairs is s.stand (λ c some. s.counts c ∙ none_there (has_pair (value_at m c)) (times c rest_was.rest) (apart.1 c some)),
          λ b y there.
              let l = had.2 b y (none b y there) in
              let n = rest_was.counts b in
              let a = times-append b blocks rest_was.rest in
              let k = s.counts b ∙ ap (λ (q : Bool). cond q (times b rest_was.rest) 0) (has_if (value_at m b) y there) in
              let a2 = times-append b blocks s.kept in omega (arith, l, n, a, k, a2),
        ),
      )

  -- one has, in another block
  module _ (c : ℕ) (but : NoneCameBut m0 m c) (x : K × V) (here : StandsAt m c x) (beside : times c blocks ≡ 0) where
    abbrev passes : ℕ → Bool
    passes = others m0 m (held_in m0) had blocks xs is c but x here

    pub one_keeps : HoldsOn (x ∷ []) xs (held_in m0) (held_in m)
    one_keeps =
        let s = split m0 m passes (stays_so m0 m (held_in m0) had blocks xs is c but x here) rest_was.rest rest_was.more apart.0 in
        let gone = s.counts c ∙ ap (λ (q : Bool). cond (cond q false (has_pair (value_at m c))) (times c rest_was.rest) 0) (eq-eqb c c refl) in (
          s.pairs,
          s.given,
          before s.pairs s.given s.order,
          just_same m (held_in m) (x ∷ (xs ++ s.pairs)) (held_just m) (
            c ∷ (blocks ++ s.kept),
            (
              here,
              (let a = times-append c blocks s.kept in omega (arith, a, gone, beside)),
              joined m blocks xs s.kept s.pairs is s.stand (λ d some. s.counts d ∙ none_there (passes d) (times d rest_was.rest) (apart.1 d some)),
            ),
            λ b y there. elim (cases_eq b c) as (λ _. 0 < times b (c ∷ (blocks ++ s.kept))) [
              | inl same ↦ subst (λ (d : ℕ). 0 < times b (d ∷ (blocks ++ s.kept))) same (some_here b (blocks ++ s.kept))
              | inr ne ↦
                  (let other = ne_eqb b c ne in
                  let l = had.2 b y (was_there m0 m (held_in m0) had blocks xs is c but x here b y other there) in
                  let n = rest_was.counts b in
                  let a = times-append b blocks rest_was.rest in
                  let k = s.counts b ∙ ap (λ (q : Bool). cond (cond q false (has_pair (value_at m b))) (times b rest_was.rest) 0) other
                  ∙ ap (λ (q : Bool). cond q (times b rest_was.rest) 0) (has_if (value_at m b) y there) in
                  let a2 = times-append b blocks s.kept in
                  let o = times_other b c (blocks ++ s.kept) ne in omega (arith, l, n, a, k, a2, o))
            ],
          ),
        )

  -- nothing stands in the block in which one may have come
  none_but : (c : ℕ) → NoneCameBut m0 m c → ((x : K × V) → StandsAt m c x → ⊥) → NoneCame m0 m
  none_but c but empty b x there = elim (but b x there) as (λ _. StandsAt m0 b x) [
    | inl before ↦ before
    | inr its ↦ absurd (empty x (subst (λ (d : ℕ). StandsAt m d x) its there))
  ]

  but_keeps : (c : ℕ) → NoneCameBut m0 m c → times c blocks ≡ 0 → HoldsOn (with_pair (value_at m c) []) xs (held_in m0) (held_in m)
  but_keeps c but beside = by (value_at m c) refl
    where
      empty : (o : Option (Node K V)) → value_at m c ≡ o → ((x : K × V) → o ≡ Some (node.Pair x.0 x.1) → ⊥) → HoldsOn [] xs (held_in m0) (held_in m)
      empty o there none = none_keeps (none_but c but (λ x stands. none x (sym there ∙ stands)))

      by : (o : Option (Node K V)) → value_at m c ≡ o → HoldsOn (with_pair o []) xs (held_in m0) (held_in m)
      by (Some (node.Pair key value)) there = one_keeps c but (key, value) there beside
      by (Some (node.Table len limit turn)) there = empty (Some (node.Table len limit turn)) there (λ x e. cc e)
      by (Some node.Shards) there = empty (Some node.Shards) there (λ x e. cc e)
      by None there = empty None there (λ x e. cc e)

  -- by an answer
  pub answer_keeps : (answer : KeyAnswer) → CameBy m0 m answer → ((word : ℕ) → stored_by answer ≡ Some word → times (block_in word) blocks ≡ 0)
      → HoldsOn (pair_at_word m (stored_by answer)) xs (held_in m0) (held_in m)
  answer_keeps answers.Absent came beside = none_keeps came
  answer_keeps (answers.Found word) came beside = none_keeps came
  answer_keeps (answers.Stored word) came beside = but_keeps (block_in word) came (beside word refl)
  answer_keeps (answers.Replaced old new) came beside = but_keeps (block_in new) came (beside new refl)
  answer_keeps (answers.Removed word) came beside = none_keeps came

-- a memory that has no pair
pub none_held : {K V : Type 0} (m : Mem (Node K V)) → HasJust m [] → held_in m ≡ []
none_held {K} {V} m just = by (held_in m) (just_same m (held_in m) [] (held_just m) just)
  where
    by : (xs : List (K × V)) → IsPermutation xs [] → xs ≡ []
    by [] same = refl
    by (x ∷ xs) same = absurd (let e = length_permutation (x ∷ xs) [] same in omega (arith, e))
