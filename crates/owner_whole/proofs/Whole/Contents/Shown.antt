-- A walk that is done has shown the pairs of the list, each once, in some order.
use Rattle.std.specs.Prelude.{◌≡◌, ◌≢◌, ℕ, zero, suc, ◌+◌, ◌<◌, ◌≤◌, Bool, true, false, cond, eqb, List, [], ◌∷◌, ◌++◌, IsPermutation, Some}
use Rattle.std.proofs.Common.{refl, ap, sym, subst, ◌∙◌, inl, inr, arith}
use Rattle.std.proofs.lemmas.Bool.{cases_eq}
use Rattle.std.proofs.lemmas.List.Sorted.{IsPermutation-refl, IsPermutation-sym, IsPermutation-trans, IsPermutation-to_front, IsPermutation-middle, IsPermutation-cons}
use Rattle.seize_words.specs.OneMemory.Mem.{Mem, value_at}
use Rattle.map_tables.specs.declared.node.Node.{Node}
use Rattle.map_tables.specs.declared.node.Node.TheVariants as node
use Rattle.map_measures.specs.Given.RuleChart.{Chart}
use Rattle.map_measures.specs.Given.RuleWords.{Blocks}
use Rattle.map_measures.proofs.Given.RuleWorld.Hands.{current_known}
use Rattle.map_measures.specs.Given.LateCovers.{times}
use Rattle.owner_whole.specs.Whole.KeptBy.{AreShownAs, WalksShowAll}
use Rattle.owner_whole.specs.Whole.SweptPairs.{NumberedBelow, pairs_of}
use Rattle.owner_whole.proofs.Whole.Contents.KeptBy.{times_here, times_other}
use Rattle.owner_whole.proofs.Whole.Contents.Numbered.{NumberedLast, numbered_last, numbered_before, pairs_append, numbers_are}
use Rattle.owner_whole.proofs.Whole.Contents.Swept.{sweeps_leave}
use Rattle.seize_words.proofs.General.{true_or_false as decided}

module _ {K V : Type 0} (m : Mem (Node K V)) (blocks : Blocks) where
  -- a number is taken out of the list, and its pair
  record Without (n : ℕ) (done : List ℕ) (ps : List (K × V)) : Type 0 where
    pub rest : List ℕ
    pub front : List (K × V)
    pub back : List (K × V)
    pub key : K
    pub value : V
    pub block : value_at m (blocks.pair n) ≡ Some (node.Pair key value)
    pub shown : AreShownAs m blocks rest (front ++ back)
    pub is : ps ≡ front ++ ((key, value) ∷ back)
    pub here : times n done ≡ suc (times n rest)
    pub other : (i : ℕ) → i ≢ n → times i done ≡ times i rest

  take_out : (n : ℕ) (done : List ℕ) (ps : List (K × V)) → AreShownAs m blocks done ps → 0 < times n done → Without n done ps
  take_out n [] ps shown l = absurd (omega (arith, l))
  take_out n (x ∷ done) ps (k, v, qs, block, shown, is) l = elim (cases_eq n x) as (λ _. Without n (x ∷ done) ps) [
    | inl e ↦ record {
      rest = done;
      front = [];
      back = qs;
      key = k;
      value = v;
      block = ap (λ (y : ℕ). value_at m (blocks.pair y)) e ∙ block;
      shown = shown;
      is = is;
      here = ap (λ (y : ℕ). times n (y ∷ done)) (sym e) ∙ times_here n done;
      other = λ i ne. times_other x i done (λ z. ne (z ∙ sym e));
    }
    | inr ne ↦ behind (take_out n done qs shown (let e = times_other x n done ne in omega (arith, l, e))) ne
  ]
    where
      behind : Without n done qs → n ≢ x → Without n (x ∷ done) ps
      behind w ne = record {
        rest = x ∷ w.rest;
        front = (k, v) ∷ w.front;
        back = w.back;
        key = w.key;
        value = w.value;
        block = w.block;
        shown = (k, v, w.front ++ w.back, block, w.shown, refl);
        is = is ∙ ap (λ l. (k, v) ∷ l) w.is;
        here = times_other x n done ne ∙ w.here ∙ ap suc (sym (times_other x n w.rest ne));
        other = λ i other. times_more i done w.rest (w.other i other);
      }
        where
          times_more : (i : ℕ) (xs ys : List ℕ) → times i xs ≡ times i ys → times i (x ∷ xs) ≡ times i (x ∷ ys)
          times_more i xs ys e = ap (λ (y : ℕ). cond (eqb i x) 1 0 + y) e

  -- nothing was shown
  none_shown : (done : List ℕ) (ps : List (K × V)) → AreShownAs m blocks done ps → ((i : ℕ) → times i done ≡ 0) → ps ≡ []
  none_shown [] ps is none = is
  none_shown (n ∷ done) ps shown none = absurd (let e = none n in let more = times_here n done in omega (arith, e, more))

  module _ (c : Chart K) where
    -- the pairs that are shown are those with numbers below this one
    abbrev AreBelow : ℕ → List ℕ → Type 0
    AreBelow n done = ((i : ℕ) → i < n → times i done ≡ cond (c.current i) 1 0) × ((i : ℕ) → n ≤ i → times i done ≡ 0)

    -- the last one of them
    module _ (n : ℕ) (ns : List (ℕ × (K × V))) (l : NumberedLast m c blocks n ns) (e : c.current n ≡ true) (done : List ℕ) (ps : List (K × V)) (w : Without n done ps) (all : AreBelow (suc n) done) where
      gone : (i : ℕ) → n ≤ i → times i w.rest ≡ 0
      gone i low = elim (cases_eq i n) as (λ _. times i w.rest ≡ 0) [
        | inl is ↦ (let one = all.0 n (omega arith) in let e1 : cond (c.current n) 1 0 ≡ 1 = ap {B = ℕ} (λ (y : Bool). cond y 1 0) e in let more = w.here in
            let zero : times n w.rest ≡ 0 = omega (arith, one, e1, more) in ap (λ (y : ℕ). times y w.rest) is ∙ zero)
        | inr other ↦ sym (w.other i other) ∙ all.1 i (omega (arith, low, other))
      ]

      below_rest : AreBelow n w.rest
      below_rest = (λ i low. sym (w.other i (λ z. omega (arith, z, low))) ∙ all.0 i (omega (arith, low)), gone)

      same_pair : ◌≡◌ {A = K × V} (w.key, w.value) (l.key, l.value)
      same_pair =
          let one : Some (node.Pair w.key w.value) ≡ Some (node.Pair l.key l.value) = sym w.block ∙ l.block in
          let key : w.key ≡ l.key = cc one in
          let value : w.value ≡ l.value = cc one in
          ap {B = K × V} (λ (x : K). (x, w.value)) key ∙ ap {B = K × V} (λ (x : V). (l.key, x)) value

      and_last : IsPermutation (w.front ++ w.back) (pairs_of l.before) → IsPermutation ps (pairs_of ns)
      and_last before =
          subst (λ (x : List (K × V)). IsPermutation x (pairs_of ns)) (sym w.is)
          (subst (λ (x : List (K × V)). IsPermutation (w.front ++ ((w.key, w.value) ∷ w.back)) x) (sym (ap pairs_of l.is ∙ pairs_append l.before n l.key l.value))
          (subst (λ (x : K × V). IsPermutation (w.front ++ ((w.key, w.value) ∷ w.back)) (pairs_of l.before ++ (x ∷ []))) same_pair
          (IsPermutation-trans (w.front ++ ((w.key, w.value) ∷ w.back)) ((w.key, w.value) ∷ (w.front ++ w.back)) (pairs_of l.before ++ ((w.key, w.value) ∷ []))
          (IsPermutation-middle w.front (w.key, w.value) w.back)
          (IsPermutation-trans ((w.key, w.value) ∷ (w.front ++ w.back)) ((w.key, w.value) ∷ pairs_of l.before) (pairs_of l.before ++ ((w.key, w.value) ∷ []))
          (IsPermutation-cons (w.key, w.value) (w.front ++ w.back) (pairs_of l.before) before)
          (IsPermutation-sym (pairs_of l.before ++ ((w.key, w.value) ∷ [])) ((w.key, w.value) ∷ pairs_of l.before) (IsPermutation-to_front (pairs_of l.before) (w.key, w.value)))))))

    less : (n : ℕ) → c.current n ≡ false → (done : List ℕ) → AreBelow (suc n) done → AreBelow n done
    less n e done all = (
      λ i l. all.0 i (omega (arith, l)),
      λ i l. elim (cases_eq i n) as (λ _. times i done ≡ 0) [
        | inl is ↦ all.0 i (omega (arith, is)) ∙ ap {B = ℕ} (λ (x : Bool). cond x 1 0) (ap c.current is ∙ e)
        | inr other ↦ all.1 i (omega (arith, l, other))
      ],
    )

    shown_all : (n : ℕ) (ns : List (ℕ × (K × V))) → NumberedBelow m c blocks n ns → (done : List ℕ) (ps : List (K × V)) → AreShownAs m blocks done ps → AreBelow n done → IsPermutation ps (pairs_of ns)
    shown_all zero ns is done ps shown all =
        subst (λ (l : List (K × V)). IsPermutation ps l) (none_shown done ps shown (λ i. all.1 i (omega arith)) ∙ sym (ap pairs_of is)) (IsPermutation-refl ps)
    shown_all (suc n) ns below done ps shown all = elim (decided (c.current n)) as (λ _. IsPermutation ps (pairs_of ns)) [
      | inl e ↦
          (let some : 0 < times n done = (let one = all.0 n (omega arith) in let is : cond (c.current n) 1 0 ≡ 1 = ap {B = ℕ} (λ (x : Bool). cond x 1 0) e in omega (arith, one, is)) in
          let w = take_out n done ps shown some in
          let l = numbered_last m c blocks n ns e below in
          and_last n ns l e done ps w all (shown_all n l.before l.below w.rest (w.front ++ w.back) w.shown (below_rest n ns l e done ps w all)))
      | inr e ↦ shown_all n ns (numbered_before m c blocks n ns e below) done ps shown (less n e done all)
    ]

pub walks_show_all : {K : Type 0} (V : Type 0) (same : K → K → Bool) (hash : K → ℕ) → WalksShowAll V same hash
walks_show_all {K} V same hash setting w c blocks map incremental m0 c0 blocks0 asked o swept came over walks xs ps are shown =
    let numbered = numbers_are m0 c0 blocks0 xs are in
    let leaves = sweeps_leave incremental m0 w.memory c0 c blocks0 blocks asked o swept came over numbered.0 numbered.1 in
    let same_pairs = swept.walks walks in
    let each = leaves.1 (λ clears. cc (walks, clears)) in
    subst (λ (l : List (K × V)). IsPermutation ps l) numbered.2
    (shown_all m0 blocks0 c0 c0.stored numbered.0 numbered.1 o.done ps shown (
      λ i l. each i ∙ ap {B = ℕ} (λ (f : ℕ → Bool). cond (f i) 1 0) same_pairs,
      λ i l. each i ∙ ap {B = ℕ} (λ (x : Bool). cond x 1 0) (none i (let s = swept.stored in omega (arith, l, s)) (c.current i) refl),
    ))
  where
    none : (i : ℕ) → c.stored ≤ i → (b : Bool) → c.current i ≡ b → c.current i ≡ false
    none i l false e = e
    none i l true e = absurd (let low = (current_known same hash setting w c blocks map.map.rule map.map.shows i e).0 in omega (arith, l, low))
