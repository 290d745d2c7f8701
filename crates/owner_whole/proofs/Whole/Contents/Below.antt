-- The pairs of a map as a list: there is such a list, it has one pair of each class, and how it follows the pairs of the map.
use Rattle.std.specs.Prelude.{◌≡◌, ◌≢◌, ℕ, zero, suc, ◌<◌, Bool, true, false, cond, List, [], ◌∷◌, ◌++◌, Some, None, if◌then◌else◌}
use Rattle.std.proofs.Common.{refl, ap, sym, subst, ◌∙◌, inl, inr, arith}
use Rattle.std.proofs.lemmas.Bool.{cases_eq}
use Rattle.std.proofs.lemmas.List.{append-nil}
use Rattle.seize_words.specs.OneMemory.Mem.{Mem, value_at}
use Rattle.seize.specs.World.{World}
use Rattle.map_tables.specs.Chunks.{is_incremental}
use Rattle.map_tables.specs.declared.node.Node.{Node}
use Rattle.map_tables.specs.declared.node.Node.TheVariants as node
use Rattle.map_tables.specs.declared.setting.Setting.{Setting}
use Rattle.map_measures.specs.Given.RuleChart.{Chart}
use Rattle.map_measures.specs.Given.RuleWords.{Blocks}
use Rattle.map_measures.specs.Given.RuleMaps.{spot_of}
use Rattle.map_measures.specs.Given.RuleRule.{is_of}
use Rattle.map_measures.specs.Given.RuleInWorld.{IsMapIn}
use Rattle.map_measures.proofs.Given.RuleWorld.Hands.{current_known}
use Rattle.owner_facts.specs.Given.PointsSteps.{AreLawful}
use Rattle.map_measures.proofs.Given.CallersAsked.OneCurrent.{one_current}
use Rattle.owner_whole.specs.Whole.Contents.{pair_for, without, HasOneEach, ContentsBelow, ContentsAre}
use Rattle.owner_whole.proofs.Whole.Contents.Lists.{pair_for-append, without-append, one_each_append}
use Rattle.seize_words.proofs.General.{true_or_false as decided}

-- what is below a number, by whether the map has the pair with the next one
module _ {K V : Type 0} (m : Mem (Node K V)) (c : Chart K) (blocks : Blocks) (n : ℕ) where
  -- it has this pair last
  pub record EndsWith (xs : List (K × V)) : Type 0 where
    pub before : List (K × V)
    pub key : K
    pub value : V
    pub below : ContentsBelow m c blocks n before
    pub block : value_at m (blocks.pair n) ≡ Some (node.Pair key value)
    pub is : xs ≡ before ++ ((key, value) ∷ [])

  pub ends_with : (xs : List (K × V)) → c.current n ≡ true → ContentsBelow m c blocks (suc n) xs → EndsWith xs
  ends_with xs e h =
      let h2 = subst (λ (b : Bool). cond b ((ys : List (K × V)) × (k : K) × (v : V) × ContentsBelow m c blocks n ys × (value_at m (blocks.pair n) ≡ Some (node.Pair k v)) × (xs ≡ ys ++ ((k, v) ∷ [])))
      (ContentsBelow m c blocks n xs)) e h in
      record { before = h2.0; key = h2.1; value = h2.2; below = h2.3; block = h2.4; is = h2.5 }

  pub and_last : (ys : List (K × V)) (k : K) (v : V) → c.current n ≡ true → ContentsBelow m c blocks n ys → value_at m (blocks.pair n) ≡ Some (node.Pair k v)
      → ContentsBelow m c blocks (suc n) (ys ++ ((k, v) ∷ []))
  and_last ys k v e below block =
      subst (λ (b : Bool). cond b ((zs : List (K × V)) × (j : K) × (x : V) × ContentsBelow m c blocks n zs × (value_at m (blocks.pair n) ≡ Some (node.Pair j x)) × (ys ++ ((k, v) ∷ []) ≡ zs ++ ((j, x) ∷ [])))
      (ContentsBelow m c blocks n (ys ++ ((k, v) ∷ [])))) (sym e) (ys, k, v, below, block, refl)

  pub as_before : (xs : List (K × V)) → c.current n ≡ false → ContentsBelow m c blocks (suc n) xs → ContentsBelow m c blocks n xs
  as_before xs e h =
      subst (λ (b : Bool). cond b ((ys : List (K × V)) × (k : K) × (v : V) × ContentsBelow m c blocks n ys × (value_at m (blocks.pair n) ≡ Some (node.Pair k v)) × (xs ≡ ys ++ ((k, v) ∷ [])))
      (ContentsBelow m c blocks n xs)) e h

  pub none_last : (xs : List (K × V)) → c.current n ≡ false → ContentsBelow m c blocks n xs → ContentsBelow m c blocks (suc n) xs
  none_last xs e h =
      subst (λ (b : Bool). cond b ((ys : List (K × V)) × (k : K) × (v : V) × ContentsBelow m c blocks n ys × (value_at m (blocks.pair n) ≡ Some (node.Pair k v)) × (xs ≡ ys ++ ((k, v) ∷ [])))
      (ContentsBelow m c blocks n xs)) (sym e) h

module _ {K V : Type 0} (same : K → K → Bool) (hash : K → ℕ) (lawful : AreLawful same hash) (setting : Setting) (w : World (Node K V)) (c : Chart K) (blocks : Blocks)
    (map : IsMapIn same hash setting w c blocks) where
  -- the pair of a number that the map has
  pub record HasPair (n : ℕ) : Type 0 where
    pub key : K
    pub value : V
    pub block : value_at w.memory (blocks.pair n) ≡ Some (node.Pair key value)
    pub key_is : c.key n ≡ Some key

  pub has_pair : (n : ℕ) → c.current n ≡ true → HasPair n
  has_pair n e =
      let known = current_known same hash setting w c blocks map.map.rule map.map.shows n e in
      let p = map.map.shows.pairs n known.0 known.1 in
      record { key = p.0; value = p.1; block = p.2; key_is = p.3 }

  -- there is such a list
  pub contents_exist : (n : ℕ) → (xs : List (K × V)) × ContentsBelow w.memory c blocks n xs
  contents_exist zero = ([], refl)
  contents_exist (suc n) =
      let before = contents_exist n in
      elim (decided (c.current n)) as (λ _. (xs : List (K × V)) × ContentsBelow w.memory c blocks (suc n) xs) [
        | inl e ↦ (let p = has_pair n e in (before.0 ++ ((p.key, p.value) ∷ []), and_last w.memory c blocks n before.0 p.key p.value e before.1 p.block))
        | inr e ↦ (before.0, none_last w.memory c blocks n before.0 e before.1)
      ]

  -- the key of a pair is that of its block
  pub same_key : (n : ℕ) (j : K) (v : V) → c.current n ≡ true → value_at w.memory (blocks.pair n) ≡ Some (node.Pair j v) → c.key n ≡ Some j
  same_key n j v e block =
      let p = has_pair n e in
      let one : Some (node.Pair p.key p.value) ≡ Some (node.Pair j v) = sym p.block ∙ block in
      let key : p.key ≡ j = cc one in p.key_is ∙ ap (λ (x : K). Some x) key

  -- where no pair of the map has a key of this class, the list has none
  pub absent_below : (k : K) (n : ℕ) (xs : List (K × V)) → ContentsBelow w.memory c blocks n xs
      → ((o : ℕ) (j : K) → o < n → c.current o ≡ true → c.key o ≡ Some j → same k j ≡ false) → pair_for same k xs ≡ None
  absent_below k zero xs is none = ap (pair_for same k) is
  absent_below k (suc n) xs below none = elim (decided (c.current n)) as (λ _. pair_for same k xs ≡ None) [
    | inl e ↦
        (let l = ends_with w.memory c blocks n xs e below in
        let before = absent_below k n l.before l.below (λ o j low. none o j (omega (arith, low))) in
        ap (pair_for same k) l.is ∙ pair_for-append same k l.before ((l.key, l.value) ∷ []) before
        ∙ ap (λ (b : Bool). if b then Some (l.key, l.value) else None) (none n l.key (omega arith) e (same_key n l.key l.value e l.block)))
    | inr e ↦ absent_below k n xs (as_before w.memory c blocks n xs e below) (λ o j low. none o j (omega (arith, low)))
  ]

  -- two pairs of one class are one
  pub pairs_apart : (k : K) (n o : ℕ) (i j : K) → c.current n ≡ true → c.current o ≡ true → c.key n ≡ Some i → c.key o ≡ Some j → same k i ≡ true → n ≢ o → same k j ≡ false
  pairs_apart k n o i j is_n is_o key_n key_o of_n other = by (same k j) refl
    where
      by : (b : Bool) → same k j ≡ b → same k j ≡ false
      by false apart = apart
      by true alike =
          absurd (other (one_current same (spot_of hash) lawful.lawful.classes c (is_incremental setting.mode) map.map.rule k n o is_n is_o
          (ap (is_of same (spot_of hash) (is_incremental setting.mode) k) key_n ∙ of_n) (ap (is_of same (spot_of hash) (is_incremental setting.mode) k) key_o ∙ alike)))

  -- it has one pair of each class
  others_apart : (n : ℕ) (k : K) → c.current n ≡ true → c.key n ≡ Some k → (o : ℕ) (j : K) → o < n → c.current o ≡ true → c.key o ≡ Some j → same k j ≡ false
  others_apart n k e key o j low is its = pairs_apart k n o k j e is key its (lawful.lawful.classes.refl k) (λ z. omega (arith, z, low))

  pub one_each_below : (n : ℕ) (xs : List (K × V)) → ContentsBelow w.memory c blocks n xs → HasOneEach same xs
  one_each_below zero xs is = subst (HasOneEach same) (sym is) tt
  one_each_below (suc n) xs below = elim (decided (c.current n)) as (λ _. HasOneEach same xs) [
    | inl e ↦
        (let l = ends_with w.memory c blocks n xs e below in
        subst (HasOneEach same) (sym l.is)
        (one_each_append same lawful.lawful.classes l.before (l.key, l.value) (one_each_below n l.before l.below)
        (absent_below l.key n l.before l.below (others_apart n l.key e (same_key n l.key l.value e l.block)))))
    | inr e ↦ one_each_below n xs (as_before w.memory c blocks n xs e below)
  ]

pub contents_are : {K : Type 0} (V : Type 0) (same : K → K → Bool) (hash : K → ℕ) → ContentsAre V same hash
contents_are V same hash lawful setting w c blocks map =
    let xs = contents_exist same hash lawful setting w c blocks map c.stored in
    (xs.0, xs.1, one_each_below same hash lawful setting w c blocks map c.stored xs.0 xs.1)

-- from one state of the pairs to a later one
module _ {K V : Type 0} (same : K → K → Bool) (m m2 : Mem (Node K V)) (c c2 : Chart K) (blocks blocks2 : Blocks) where
  -- pairs that the map has still have their values
  abbrev pub KeepsValues : ℕ → Type 0
  KeepsValues n = (o : ℕ) → o < n → c2.current o ≡ true → value_at m2 (blocks2.pair o) ≡ value_at m (blocks.pair o)

  fewer : (n : ℕ) → KeepsValues (suc n) → KeepsValues n
  fewer n keeps o l = keeps o (omega (arith, l))

  -- where it has the same pairs
  pub below_stays : (n : ℕ) (xs : List (K × V)) → ((o : ℕ) → o < n → c2.current o ≡ c.current o) → KeepsValues n → ContentsBelow m c blocks n xs → ContentsBelow m2 c2 blocks2 n xs
  below_stays zero xs alike keeps is = is
  below_stays (suc n) xs alike keeps below =
      let now = alike n (omega arith) in
      elim (decided (c.current n)) as (λ _. ContentsBelow m2 c2 blocks2 (suc n) xs) [
        | inl e ↦
            (let l = ends_with m c blocks n xs e below in
            subst (ContentsBelow m2 c2 blocks2 (suc n)) (sym l.is)
            (and_last m2 c2 blocks2 n l.before l.key l.value (now ∙ e) (below_stays n l.before (λ o low. alike o (omega (arith, low))) (fewer n keeps) l.below)
            (keeps n (omega arith) (now ∙ e) ∙ l.block)))
        | inr e ↦ none_last m2 c2 blocks2 n xs (now ∙ e) (below_stays n xs (λ o low. alike o (omega (arith, low))) (fewer n keeps) (as_before m c blocks n xs e below))
      ]

  -- where one pair has left it, all others are of other classes
  module _ (k : K) (gone : ℕ) (out : c2.current gone ≡ false)
      (left : (j : K) (v : V) → value_at m (blocks.pair gone) ≡ Some (node.Pair j v) → same k j ≡ true) where
    pub below_without : (n : ℕ) (xs : List (K × V)) → ((o : ℕ) → o < n → o ≢ gone → c2.current o ≡ c.current o)
        → ((o : ℕ) (j : K) (v : V) → o < n → o ≢ gone → c.current o ≡ true → value_at m (blocks.pair o) ≡ Some (node.Pair j v) → same k j ≡ false)
        → KeepsValues n → ContentsBelow m c blocks n xs → ContentsBelow m2 c2 blocks2 n (without same k xs)
    below_without zero xs alike apart keeps is = ap (without same k) is
    below_without (suc n) xs alike apart keeps below =
        elim (decided (c.current n)) as (λ _. ContentsBelow m2 c2 blocks2 (suc n) (without same k xs)) [
          | inl e ↦
              (let l = ends_with m c blocks n xs e below in
              let before = below_without n l.before (λ o low. alike o (omega (arith, low))) (λ o j v low. apart o j v (omega (arith, low))) (fewer n keeps) l.below in
              subst (ContentsBelow m2 c2 blocks2 (suc n)) (sym (ap (without same k) l.is ∙ without-append same k l.before ((l.key, l.value) ∷ [])))
              (elim (cases_eq n gone) as (λ _. ContentsBelow m2 c2 blocks2 (suc n) (without same k l.before ++ without same k ((l.key, l.value) ∷ []))) [
                | inl is ↦ subst (ContentsBelow m2 c2 blocks2 (suc n))
                    (sym (ap (λ (b : Bool). without same k l.before ++ (if b then [] else (l.key, l.value) ∷ [])) (left l.key l.value (ap (λ (x : ℕ). value_at m (blocks.pair x)) (sym is) ∙ l.block)) ∙ append-nil (without same k l.before)))
                    (none_last m2 c2 blocks2 n (without same k l.before) (ap c2.current is ∙ out) before)
                | inr other ↦ subst (ContentsBelow m2 c2 blocks2 (suc n))
                    (sym (ap (λ (b : Bool). without same k l.before ++ (if b then [] else (l.key, l.value) ∷ [])) (apart n l.key l.value (omega arith) other e l.block)))
                    (and_last m2 c2 blocks2 n (without same k l.before) l.key l.value (alike n (omega arith) other ∙ e) before (keeps n (omega arith) (alike n (omega arith) other ∙ e) ∙ l.block))
              ]))
          | inr e ↦ none_last m2 c2 blocks2 n (without same k xs)
              (elim (cases_eq n gone) as (λ _. c2.current n ≡ false) [
                | inl is ↦ ap c2.current is ∙ out
                | inr other ↦ alike n (omega arith) other ∙ e
              ])
              (below_without n xs (λ o low. alike o (omega (arith, low))) (λ o j v low. apart o j v (omega (arith, low))) (fewer n keeps) (as_before m c blocks n xs e below))
        ]
