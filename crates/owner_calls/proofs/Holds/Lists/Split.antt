-- Of the pairs that stood in a memory, some stand in a later one, and the others do not.
use Rattle.std.specs.Prelude.{◌≡◌, ℕ, ◌+◌, ◌==◌, Bool, true, false, cond, List, [], ◌∷◌, ◌++◌, Option, Some, None, IsPermutation, if◌then◌else◌}
use Rattle.std.proofs.Common.{refl, sym, ◌∙◌, ap, arith}
use Rattle.std.proofs.lemmas.Bool.{ne_eqb}
use Rattle.std.proofs.lemmas.List.Sorted.{IsPermutation-refl, IsPermutation-sym, IsPermutation-trans, IsPermutation-cons, IsPermutation-middle}
use Rattle.seize_words.specs.OneMemory.Mem.{Mem}
use Rattle.seize.specs.World.{times}
use Rattle.map_tables.specs.declared.node.Node.{Node}
use Rattle.map_tables.specs.declared.node.Node.TheVariants as node
use Rattle.owner_whole.specs.Strides.Standing.{Standing}
use Rattle.owner_calls.specs.Holds.Came.{StandsAt}

module _ {K V : Type 0} where
  -- a pair is there
  abbrev pub has_pair : Option (Node K V) → Bool
  has_pair (Some (node.Pair key value)) = true
  has_pair _ = false

  pub stands_if : (o : Option (Node K V)) → has_pair o ≡ true → (x : K × V) × (o ≡ Some (node.Pair x.0 x.1))
  stands_if (Some (node.Pair key value)) e = ((key, value), refl)
  stands_if (Some (node.Table len limit turn)) e = absurd (cc e)
  stands_if (Some node.Shards) e = absurd (cc e)
  stands_if None e = absurd (cc e)

  pub has_if : (o : Option (Node K V)) (x : K × V) → o ≡ Some (node.Pair x.0 x.1) → has_pair o ≡ true
  has_if o x is = ap has_pair is

none_of_none : (q : Bool) → ◌≡◌ {A = ℕ} 0 (cond q 0 0)
none_of_none true = refl
none_of_none false = refl

pub none_there : (q : Bool) (n : ℕ) → n ≡ 0 → cond q n 0 ≡ 0
none_there true n none = none
none_there false n none = refl

-- Those in blocks that pass a test stand there still.
module _ {K V : Type 0} (m0 m : Mem (Node K V)) (passes : ℕ → Bool) (stays : (b : ℕ) (x : K × V) → passes b ≡ true → StandsAt m0 b x → StandsAt m b x) where
  pub record Split (blocks : List ℕ) (xs : List (K × V)) : Type 0 where
    pub kept : List ℕ
    pub pairs : List (K × V)
    pub given : List (K × V)
    pub stand : Standing m kept pairs
    pub order : IsPermutation xs (pairs ++ given)
    pub counts : (c : ℕ) → times c kept ≡ cond (passes c) (times c blocks) 0

  module _ (b : ℕ) (blocks : List ℕ) (x : K × V) (xs : List (K × V)) (here : StandsAt m0 b x) (alone : times b blocks ≡ 0) (r : Split blocks xs) where
    more_true : passes b ≡ true → (c : ℕ) (q : Bool) → passes c ≡ q → (if c == b then 1 else 0) + cond q (times c blocks) 0 ≡ cond q ((if c == b then 1 else 0) + times c blocks) 0
    more_true is c true e = refl
    more_true is c false e = ap (λ (z : Bool). (if z then 1 else 0) + 0) (ne_eqb c b (λ same. let f : true ≡ false = sym is ∙ sym (ap passes same) ∙ e in cc f))

    more_false : passes b ≡ false → (c : ℕ) (q : Bool) → passes c ≡ q → cond q (times c blocks) 0 ≡ cond q ((if c == b then 1 else 0) + times c blocks) 0
    more_false is c true e =
        let k = ap (λ (z : Bool). (if z then 1 else 0) + times c blocks) (ne_eqb c b (λ same. let f : true ≡ false = sym e ∙ ap passes same ∙ is in cc f)) in omega (arith, k)
    more_false is c false e = refl

    still : passes b ≡ true → Split (b ∷ blocks) (x ∷ xs)
    still is = record {
      kept = b ∷ r.kept;
      pairs = x ∷ r.pairs;
      given = r.given;
      stand = (stays b x is here, r.counts b ∙ none_there (passes b) (times b blocks) alone, r.stand);
      order = IsPermutation-cons x xs (r.pairs ++ r.given) r.order;
      counts = λ c. ap (λ (n : ℕ). (if c == b then 1 else 0) + n) (r.counts c) ∙ more_true is c (passes c) refl;
    }

    gone : passes b ≡ false → Split (b ∷ blocks) (x ∷ xs)
    gone is = record {
      kept = r.kept;
      pairs = r.pairs;
      given = x ∷ r.given;
      stand = r.stand;
      order = IsPermutation-trans (x ∷ xs) (x ∷ (r.pairs ++ r.given)) (r.pairs ++ (x ∷ r.given)) (IsPermutation-cons x xs (r.pairs ++ r.given) r.order)
          (IsPermutation-sym (r.pairs ++ (x ∷ r.given)) (x ∷ (r.pairs ++ r.given)) (IsPermutation-middle r.pairs x r.given));
      counts = λ c. r.counts c ∙ more_false is c (passes c) refl;
    }

    by : (q : Bool) → passes b ≡ q → Split (b ∷ blocks) (x ∷ xs)
    by true is = still is
    by false is = gone is

  pub split : (blocks : List ℕ) (xs : List (K × V)) → Standing m0 blocks xs → Split blocks xs
  split [] [] s = record { kept = []; pairs = []; given = []; stand = tt; order = IsPermutation-refl []; counts = λ c. none_of_none (passes c) }
  split (b ∷ blocks) (x ∷ xs) s = by b blocks x xs s.0 s.1 (split blocks xs s.2) (passes b) refl
  split [] (x ∷ xs) s = absurd s
  split (b ∷ blocks) [] s = absurd s
