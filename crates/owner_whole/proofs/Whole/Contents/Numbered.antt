-- The pairs of a map as a list with their numbers.
use Rattle.std.specs.Prelude.{◌≡◌, ℕ, zero, suc, ◌<◌, Bool, true, false, cond, List, [], ◌∷◌, ◌++◌, Contains, Some}
use Rattle.std.proofs.Common.{refl, ap, sym, subst, ◌∙◌, inl, inr, arith}
use Rattle.std.proofs.lemmas.Bool.{cases_eq}
use Rattle.std.proofs.lemmas.List.{append-nil}
use Rattle.std.proofs.lemmas.List.Elements.{Contains-append_left, Contains-append_right, filter-append}
use Rattle.seize_words.specs.OneMemory.Mem.{Mem, value_at}
use Rattle.map_tables.specs.declared.node.Node.{Node}
use Rattle.map_tables.specs.declared.node.Node.TheVariants as node
use Rattle.map_measures.specs.Given.RuleChart.{Chart}
use Rattle.map_measures.specs.Given.RuleWords.{Blocks}
use Rattle.owner_whole.specs.Whole.Contents.{ContentsBelow}
use Rattle.owner_whole.specs.Whole.SweptPairs.{NumberedBelow, pairs_of, those, NumbersAre, NumbersGo, PairsAreInIt}
use Rattle.owner_whole.proofs.Whole.Contents.Below.{ends_with, and_last, as_before, none_last}
use Rattle.seize_words.proofs.General.{true_or_false as decided}

-- what is below a number, by whether the map has the pair with the next one
module _ {K V : Type 0} (m : Mem (Node K V)) (c : Chart K) (blocks : Blocks) (n : ℕ) where
  -- it has this pair last
  pub record NumberedLast (xs : List (ℕ × (K × V))) : Type 0 where
    pub before : List (ℕ × (K × V))
    pub key : K
    pub value : V
    pub below : NumberedBelow m c blocks n before
    pub block : value_at m (blocks.pair n) ≡ Some (node.Pair key value)
    pub is : xs ≡ before ++ ((n, (key, value)) ∷ [])

  abbrev Below : List (ℕ × (K × V)) → Bool → Type 0
  Below xs b =
      cond b ((ys : List (ℕ × (K × V))) × (k : K) × (v : V) × NumberedBelow m c blocks n ys × (value_at m (blocks.pair n) ≡ Some (node.Pair k v)) × (xs ≡ ys ++ ((n, (k, v)) ∷ [])))
      (NumberedBelow m c blocks n xs)

  pub numbered_last : (xs : List (ℕ × (K × V))) → c.current n ≡ true → NumberedBelow m c blocks (suc n) xs → NumberedLast xs
  numbered_last xs e h = let h2 = subst (Below xs) e h in record { before = h2.0; key = h2.1; value = h2.2; below = h2.3; block = h2.4; is = h2.5 }

  pub number_last : (ys : List (ℕ × (K × V))) (k : K) (v : V) → c.current n ≡ true → NumberedBelow m c blocks n ys → value_at m (blocks.pair n) ≡ Some (node.Pair k v)
      → NumberedBelow m c blocks (suc n) (ys ++ ((n, (k, v)) ∷ []))
  number_last ys k v e below block = subst (Below (ys ++ ((n, (k, v)) ∷ []))) (sym e) (ys, k, v, below, block, refl)

  pub numbered_before : (xs : List (ℕ × (K × V))) → c.current n ≡ false → NumberedBelow m c blocks (suc n) xs → NumberedBelow m c blocks n xs
  numbered_before xs e h = subst (Below xs) e h

  pub number_none : (xs : List (ℕ × (K × V))) → c.current n ≡ false → NumberedBelow m c blocks n xs → NumberedBelow m c blocks (suc n) xs
  number_none xs e h = subst (Below xs) (sym e) h

pub pairs_append : {K V : Type 0} (xs : List (ℕ × (K × V))) (n : ℕ) (k : K) (v : V) → pairs_of (xs ++ ((n, (k, v)) ∷ [])) ≡ pairs_of xs ++ ((k, v) ∷ [])
pairs_append [] n k v = refl
pairs_append (x ∷ xs) n k v = ap (λ l. x.1 ∷ l) (pairs_append xs n k v)

module _ {K V : Type 0} (m : Mem (Node K V)) (c : Chart K) (blocks : Blocks) where
  -- with numbers
  numbers_below : (n : ℕ) (xs : List (K × V)) → ContentsBelow m c blocks n xs → (ns : List (ℕ × (K × V))) × NumberedBelow m c blocks n ns × (pairs_of ns ≡ xs)
  numbers_below zero xs is = ([], refl, sym is)
  numbers_below (suc n) xs below = elim (decided (c.current n)) as (λ _. (ns : List (ℕ × (K × V))) × NumberedBelow m c blocks (suc n) ns × (pairs_of ns ≡ xs)) [
    | inl e ↦
        (let l = ends_with m c blocks n xs e below in
        let before = numbers_below n l.before l.below in (
          before.0 ++ ((n, (l.key, l.value)) ∷ []),
          number_last m c blocks n before.0 l.key l.value e before.1 l.block,
          pairs_append before.0 n l.key l.value ∙ ap (λ (ys : List (K × V)). ys ++ ((l.key, l.value) ∷ [])) before.2 ∙ sym l.is,
        ))
    | inr e ↦ (let before = numbers_below n xs (as_before m c blocks n xs e below) in (before.0, number_none m c blocks n before.0 e before.1, before.2))
  ]

  -- and without
  numbers_gone : (n : ℕ) (ns : List (ℕ × (K × V))) → NumberedBelow m c blocks n ns → ContentsBelow m c blocks n (pairs_of ns)
  numbers_gone zero ns is = ap pairs_of is
  numbers_gone (suc n) ns below = elim (decided (c.current n)) as (λ _. ContentsBelow m c blocks (suc n) (pairs_of ns)) [
    | inl e ↦
        (let l = numbered_last m c blocks n ns e below in
        subst (ContentsBelow m c blocks (suc n)) (sym (ap pairs_of l.is ∙ pairs_append l.before n l.key l.value))
        (and_last m c blocks n (pairs_of l.before) l.key l.value e (numbers_gone n l.before l.below) l.block))
    | inr e ↦ none_last m c blocks n (pairs_of ns) e (numbers_gone n ns (numbered_before m c blocks n ns e below))
  ]

  -- a pair of the map is in it
  module _ (o : ℕ) (k : K) (v : V) (here : c.current o ≡ true) (block : value_at m (blocks.pair o) ≡ Some (node.Pair k v)) where
    same_pair : (i : K) (x : V) → value_at m (blocks.pair o) ≡ Some (node.Pair i x) → Contains {X = ℕ × (K × V)} ((o, (i, x)) ∷ []) (o, (k, v))
    same_pair i x h =
        let one : Some (node.Pair i x) ≡ Some (node.Pair k v) = sym h ∙ block in
        let key : i ≡ k = cc one in
        let value : x ≡ v = cc one in
        (0, omega arith, ap {B = ℕ × (K × V)} (λ (y : K). (o, (y, x))) key ∙ ap {B = ℕ × (K × V)} (λ (y : V). (o, (k, y))) value)

    is_in : (n : ℕ) (ns : List (ℕ × (K × V))) → NumberedBelow m c blocks n ns → o < n → Contains {X = ℕ × (K × V)} ns (o, (k, v))
    is_in zero ns below low = absurd (omega (arith, low))
    is_in (suc n) ns below low = elim (decided (c.current n)) as (λ _. Contains {X = ℕ × (K × V)} ns (o, (k, v))) [
      | inl e ↦
          (let l = numbered_last m c blocks n ns e below in
          subst (λ (xs : List (ℕ × (K × V))). Contains {X = ℕ × (K × V)} xs (o, (k, v))) (sym l.is)
          (elim (cases_eq o n) as (λ _. Contains {X = ℕ × (K × V)} (l.before ++ ((n, (l.key, l.value)) ∷ [])) (o, (k, v))) [
            | inl is ↦ Contains-append_right l.before ((n, (l.key, l.value)) ∷ []) (o, (k, v))
                (subst (λ (x : ℕ). Contains {X = ℕ × (K × V)} ((x, (l.key, l.value)) ∷ []) (o, (k, v))) is (same_pair l.key l.value (ap (λ (x : ℕ). value_at m (blocks.pair x)) is ∙ l.block)))
            | inr other ↦ Contains-append_left l.before ((n, (l.key, l.value)) ∷ []) (o, (k, v)) (is_in n l.before l.below (omega (arith, low, other)))
          ]))
      | inr e ↦ elim (cases_eq o n) as (λ _. Contains {X = ℕ × (K × V)} ns (o, (k, v))) [
        | inl is ↦ absurd (let now = ap c.current is in cc (here, now, e))
        | inr other ↦ is_in n ns (numbered_before m c blocks n ns e below) (omega (arith, low, other))
      ]
    ]

pub numbers_are : {K V : Type 0} → NumbersAre K V
numbers_are m c blocks xs are = numbers_below m c blocks c.stored xs are

pub numbers_go : {K V : Type 0} → NumbersGo K V
numbers_go m c blocks ns are = numbers_gone m c blocks c.stored ns are

pub pairs_are_in_it : {K V : Type 0} → PairsAreInIt K V
pairs_are_in_it m c blocks ns are n k v low here block = is_in m c blocks n k v here block c.stored ns are low

-- all, or none
pub all_those : {X : Type 0} (xs : List (ℕ × X)) → those (λ n. true) xs ≡ xs
all_those [] = refl
all_those (x ∷ xs) = ap (λ l. x ∷ l) (all_those xs)

pub none_those : {X : Type 0} (xs : List (ℕ × X)) → those (λ n. false) xs ≡ []
none_those [] = refl
none_those (x ∷ xs) = none_those xs

-- from one state of the pairs to a later one, in which the map has some of them
module _ {K V : Type 0} (m m2 : Mem (Node K V)) (c c2 : Chart K) (blocks blocks2 : Blocks) (test : ℕ → Bool) where
  pub numbered_those : (n : ℕ) → ((i : ℕ) → i < n → c2.current i ≡ true → c.current i ≡ true) → ((i : ℕ) → i < n → c.current i ≡ true → c2.current i ≡ test i)
      → ((i : ℕ) → i < n → c2.current i ≡ true → value_at m2 (blocks2.pair i) ≡ value_at m (blocks.pair i))
      → (ns : List (ℕ × (K × V))) → NumberedBelow m c blocks n ns → NumberedBelow m2 c2 blocks2 n (those test ns)
  numbered_those zero were agrees keeps ns is = ap (those test) is
  numbered_those (suc n) were agrees keeps ns below = elim (decided (c.current n)) as (λ _. NumberedBelow m2 c2 blocks2 (suc n) (those test ns)) [
    | inl e ↦
        (let l = numbered_last m c blocks n ns e below in
        let before = numbered_those n (λ i low. were i (omega (arith, low))) (λ i low. agrees i (omega (arith, low))) (λ i low. keeps i (omega (arith, low))) l.before l.below in
        subst (NumberedBelow m2 c2 blocks2 (suc n)) (sym (ap (those test) l.is ∙ filter-append (λ x. test x.0) l.before ((n, (l.key, l.value)) ∷ [])))
        (elim (decided (c2.current n)) as (λ _. NumberedBelow m2 c2 blocks2 (suc n) (those test l.before ++ those test ((n, (l.key, l.value)) ∷ []))) [
          | inl now ↦ subst (λ (b : Bool). NumberedBelow m2 c2 blocks2 (suc n) (those test l.before ++ cond b ((n, (l.key, l.value)) ∷ []) [])) (sym now ∙ agrees n (omega arith) e)
              (number_last m2 c2 blocks2 n (those test l.before) l.key l.value now before (keeps n (omega arith) now ∙ l.block))
          | inr gone ↦ subst (λ (b : Bool). NumberedBelow m2 c2 blocks2 (suc n) (those test l.before ++ cond b ((n, (l.key, l.value)) ∷ []) [])) (sym gone ∙ agrees n (omega arith) e)
              (subst (NumberedBelow m2 c2 blocks2 (suc n)) (sym (append-nil (those test l.before))) (number_none m2 c2 blocks2 n (those test l.before) gone before))
        ]))
    | inr e ↦ number_none m2 c2 blocks2 n (those test ns) (gone n e (c2.current n) refl (were n (omega arith)))
        (numbered_those n (λ i low. were i (omega (arith, low))) (λ i low. agrees i (omega (arith, low))) (λ i low. keeps i (omega (arith, low))) ns (numbered_before m c blocks n ns e below))
  ]
    where
      gone : (i : ℕ) → c.current i ≡ false → (b : Bool) → c2.current i ≡ b → (c2.current i ≡ true → c.current i ≡ true) → c2.current i ≡ false
      gone i none false e was = e
      gone i none true e was = absurd (let had = was e in cc (had, none))
