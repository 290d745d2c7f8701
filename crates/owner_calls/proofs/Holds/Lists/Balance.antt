-- Where no pair has come to a memory but one, those that it had are there still or were given back.
use Rattle.std.specs.Prelude.{◌≡◌, ℕ, ◌<◌, ◌==◌, Bool, true, false, cond, List, [], ◌∷◌, ◌++◌, IsPermutation}
use Rattle.std.proofs.Common.{refl, sym, ◌∙◌, ap, subst, arith, inl, inr}
use Rattle.std.proofs.lemmas.Bool.{cases_eq, eq-eqb, ne_eqb}
use Rattle.std.proofs.lemmas.List.Sorted.{IsPermutation-trans, IsPermutation-cons, IsPermutation-append_left}
use Rattle.seize_words.specs.OneMemory.Mem.{Mem, value_at}
use Rattle.seize_words.specs.OneMemory.Word.{block_in}
use Rattle.seize.specs.World.{times}
use Rattle.map_tables.specs.declared.node.Node.{Node}
use Rattle.papaya_raw.specs.declared.machines.answer.KeyAnswer.{KeyAnswer}
use Rattle.papaya_raw.specs.declared.machines.answer.KeyAnswer.TheVariants as answers
use Rattle.owner_whole.proofs.Given.FinishesEnds.CountedBlocks.{times_other, some_here}
use Rattle.owner_whole.specs.Strides.Standing.{Standing}
use Rattle.owner_calls.proofs.Owned.Owned.Standing.{pairs_stand}
use Rattle.owner_calls.specs.Holds.Balances.{HasJust, Balances, HasStored}
use Rattle.owner_calls.specs.Holds.Came.{StandsAt, NoneCame, NoneCameBut, CameBy}
use Rattle.owner_calls.specs.Holds.Promises.{WhatLeavesBalances, AnswersBalance}
use Rattle.owner_calls.proofs.Holds.Lists.Rest.{without, rest_of}
use Rattle.owner_calls.proofs.Holds.Lists.Split.{has_pair, stands_if, has_if, split}

module _ {K V : Type 0} (m : Mem (Node K V)) (before : List (K × V)) (blocks : List ℕ) (xs : List (K × V)) (these : Standing m blocks xs) where
  -- all pairs that are there, and those that were given back
  balanced : (all : List ℕ) (ys given stored : List (K × V)) → Standing m all ys → ((b : ℕ) (x : K × V) → StandsAt m b x → 0 < times b all) → IsPermutation (stored ++ before) (ys ++ given) → Balances m before stored xs
  balanced all ys given stored stand each order =
      let r = rest_of m blocks xs these all ys stand (λ c some. each c _ (without m c blocks xs these some).here) in (
        r.more,
        given,
        (blocks ++ r.rest, r.stand, λ b x there. let k = r.counts b in let l = each b x there in omega (arith, k, l)),
        IsPermutation-trans (stored ++ before) (ys ++ given) ((xs ++ r.more) ++ given) order (IsPermutation-append_left given ys (xs ++ r.more) r.order),
      )

module _ {K V : Type 0} (m0 m : Mem (Node K V)) (before : List (K × V)) (had : HasJust m0 before) (blocks : List ℕ) (xs : List (K × V)) (these : Standing m blocks xs) where
  -- no pair has come
  module _ (none : NoneCame m0 m) where
    abbrev pub still : ℕ → Bool
    still b = has_pair (value_at m b)

    pub stays : (b : ℕ) (x : K × V) → still b ≡ true → StandsAt m0 b x → StandsAt m b x
    stays b x is was = let y = stands_if (value_at m b) is in y.1 ∙ sym (none b y.0 y.1) ∙ was

    pub none_balances : Balances m before [] xs
    none_balances =
        let s = split m0 m still stays had.0 before had.1 in
        balanced m before blocks xs these s.kept s.pairs s.given [] s.stand
        (λ b x there.
        let k = s.counts b ∙ ap (λ (q : Bool). cond q (times b had.0) 0) (has_if (value_at m b) x there) in let l = had.2 b x (none b x there) in omega (arith, k, l)) s.order

  -- one has
  module _ (c : ℕ) (but : NoneCameBut m0 m c) (x : K × V) (here : StandsAt m c x) where
    abbrev pub others : ℕ → Bool
    others b = cond (b == c) false (has_pair (value_at m b))

    both : (q h : Bool) → cond q false h ≡ true → (q ≡ false) × (h ≡ true)
    both true h e = absurd (cc e)
    both false h e = (refl, e)

    pub was_there : (b : ℕ) (y : K × V) → (b == c) ≡ false → StandsAt m b y → StandsAt m0 b y
    was_there b y other there = elim (but b y there) as (λ _. StandsAt m0 b y) [
      | inl was ↦ was
      | inr same ↦ absurd (let e : true ≡ false = sym (eq-eqb b c same) ∙ other in cc e)
    ]

    pub stays_so : (b : ℕ) (y : K × V) → others b ≡ true → StandsAt m0 b y → StandsAt m b y
    stays_so b y is was =
        let p = both (b == c) (has_pair (value_at m b)) is in let z = stands_if (value_at m b) p.1 in z.1 ∙ sym (was_there b z.0 p.0 z.1) ∙ was

    pub one_balances : Balances m before (x ∷ []) xs
    one_balances =
        let s = split m0 m others stays_so had.0 before had.1 in
        balanced m before blocks xs these (c ∷ s.kept) (x ∷ s.pairs) s.given (x ∷ [])
        (here, s.counts c ∙ ap (λ (q : Bool). cond (cond q false (has_pair (value_at m c))) (times c had.0) 0) (eq-eqb c c refl), s.stand)
        (λ b y there. elim (cases_eq b c) as (λ _. 0 < times b (c ∷ s.kept)) [
          | inl same ↦ subst (λ (d : ℕ). 0 < times b (d ∷ s.kept)) same (some_here b s.kept)
          | inr ne ↦
              (let other = ne_eqb b c ne in
              let k = s.counts b ∙ ap (λ (q : Bool). cond (cond q false (has_pair (value_at m b))) (times b had.0) 0) other ∙ ap (λ (q : Bool). cond q (times b had.0) 0) (has_if (value_at m b) y there) in
              let l = had.2 b y (was_there b y other there) in let o = times_other b c s.kept ne in omega (arith, k, l, o))
        ])
        (IsPermutation-cons x before (s.pairs ++ s.given) s.order)

pub what_leaves_balances : (K V : Type 0) → WhatLeavesBalances K V
what_leaves_balances K V m0 m before had none same hash setting xs h = let p = pairs_stand same hash setting m xs h in none_balances m0 m before had p.0 xs p.1 none

pub answers_balance : (K V : Type 0) → AnswersBalance K V
answers_balance K V m0 m before had answer came stored has same hash setting xs h = by answer came has
  where
    nothing_new : NoneCame m0 m → stored ≡ [] → Balances m before stored xs
    nothing_new none is = subst (λ (l : List (K × V)). Balances m before l xs) (sym is) (what_leaves_balances K V m0 m before had none same hash setting xs h)

    with_one : (c : ℕ) → NoneCameBut m0 m c → (x : K × V) → StandsAt m c x → stored ≡ x ∷ [] → Balances m before stored xs
    with_one c but x here is =
        let p = pairs_stand same hash setting m xs h in subst (λ (l : List (K × V)). Balances m before l xs) (sym is) (one_balances m0 m before had p.0 xs p.1 c but x here)

    by : (answer : KeyAnswer) → CameBy m0 m answer → HasStored m answer stored → Balances m before stored xs
    by answers.Absent came has = nothing_new came has
    by (answers.Found word) came has = nothing_new came has
    by (answers.Stored word) came has = with_one (block_in word) came has.0 has.1 has.2
    by (answers.Replaced old new) came has = with_one (block_in new) came has.0 has.1 has.2
    by (answers.Removed word) came has = nothing_new came has
