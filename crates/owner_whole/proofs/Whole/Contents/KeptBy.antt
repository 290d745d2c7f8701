-- A retaining that is told to keep just the pairs that pass a test leaves just those.
use Rattle.std.specs.Prelude.{◌≡◌, ◌≢◌, ℕ, zero, suc, ◌<◌, Bool, true, false, cond, eqb, nat_lt, List, [], ◌∷◌, ◌++◌, filter, Some}
use Rattle.std.proofs.Common.{refl, ap, sym, subst, ◌∙◌, inl, inr, arith}
use Rattle.std.proofs.lemmas.Bool.{cases_eq, eq-eqb, ne_eqb, lt-ltb}
use Rattle.std.proofs.lemmas.List.{append-nil}
use Rattle.std.proofs.lemmas.List.Elements.{filter-append}
use Rattle.seize_words.specs.OneMemory.Mem.{Mem, value_at}
use Rattle.map_tables.specs.declared.node.Node.{Node}
use Rattle.map_tables.specs.declared.node.Node.TheVariants as node
use Rattle.papaya_raw.specs.Given.ReservesDeclared.sweep.Purpose.{Purpose}
use Rattle.map_measures.specs.Given.RuleChart.{Chart}
use Rattle.map_measures.specs.Given.RuleWords.{Blocks}
use Rattle.map_measures.specs.Given.LateCovers.{times}
use Rattle.owner_whole.specs.Whole.Contents.{AreContents}
use Rattle.owner_whole.specs.Whole.KeptBy.{KeptBegins, KeptReplied, KeptAtEnd}
use Rattle.owner_whole.specs.Whole.SweptPairs.{NumberedBelow, AreNumbered, pairs_of, those, is_done, left_by}
use Rattle.owner_whole.proofs.Whole.Contents.Numbered.{numbered_last, numbered_before, pairs_append, numbers_are, numbers_go}
use Rattle.owner_whole.proofs.Whole.Contents.Swept.{sweeps_leave}
use Rattle.seize_words.proofs.General.{true_or_false as decided}

-- how often a pair is behind another one
pub times_here : (n : ℕ) (xs : List ℕ) → times n (n ∷ xs) ≡ suc (times n xs)
times_here n xs = let e : cond (eqb n n) 1 0 ≡ 1 = ap {B = ℕ} (λ (x : Bool). cond x 1 0) (eq-eqb n n refl) in omega (arith, e)

pub times_other : (n i : ℕ) (xs : List ℕ) → i ≢ n → times i (n ∷ xs) ≡ times i xs
times_other n i xs other = let e : cond (eqb i n) 1 0 ≡ 0 = ap {B = ℕ} (λ (x : Bool). cond x 1 0) (ne_eqb i n other) in omega (arith, e)

-- what is done once a pair is told of
module _ (n : ℕ) (done : List ℕ) (fresh : times n done ≡ 0) where
  pub done_here : (b : Bool) → is_done (cond b (n ∷ done) done) n ≡ b
  done_here true = lt-ltb 0 (times n (n ∷ done)) (let e = times_here n done in omega (arith, e))
  done_here false = ap (nat_lt 0) fresh

  pub done_other : (b : Bool) (i : ℕ) → i ≢ n → is_done (cond b (n ∷ done) done) i ≡ is_done done i
  done_other true i other = ap (nat_lt 0) (times_other n i done other)
  done_other false i other = refl

module _ {K V : Type 0} (test : K → V → Bool) (m0 : Mem (Node K V)) (blocks0 : Blocks) where
  pub kept_begins : KeptBegins test m0 blocks0
  kept_begins done n k v l block = absurd (omega (arith, l))

  pub kept_told : KeptReplied test m0 blocks0
  kept_told asked done kept n first fresh k v block i j x l its = elim (cases_eq i n) as (λ _. is_done (cond (test k v) (n ∷ done) done) i ≡ test j x) [
    | inl is ↦
        (let one : Some (node.Pair j x) ≡ Some (node.Pair k v) = sym its ∙ ap (λ (y : ℕ). value_at m0 (blocks0.pair y)) is ∙ block in
        let key : j ≡ k = cc one in
        let value : x ≡ v = cc one in
        ap (is_done (cond (test k v) (n ∷ done) done)) is ∙ done_here n done fresh (test k v) ∙ ap (λ (y : V). test k y) (sym value) ∙ ap (λ (y : K). test y x) (sym key))
    | inr other ↦ done_other n done fresh (test k v) i other ∙ kept i j x (let e = times_other n i asked other in omega (arith, l, e)) its
  ]

  -- the list of those that are done, without the numbers
  module _ (c0 : Chart K) (done : List ℕ) where
    pairs_kept : (n : ℕ) → ((i : ℕ) (k : K) (v : V) → i < n → c0.current i ≡ true → value_at m0 (blocks0.pair i) ≡ Some (node.Pair k v) → is_done done i ≡ test k v)
        → (ns : List (ℕ × (K × V))) → NumberedBelow m0 c0 blocks0 n ns → pairs_of (those (is_done done) ns) ≡ filter (λ x. test x.0 x.1) (pairs_of ns)
    pairs_kept zero agrees ns is = ap (λ l. pairs_of (those (is_done done) l)) is ∙ sym (ap (λ l. filter (λ x. test x.0 x.1) (pairs_of l)) is)
    pairs_kept (suc n) agrees ns below = elim (decided (c0.current n)) as (λ _. pairs_of (those (is_done done) ns) ≡ filter (λ x. test x.0 x.1) (pairs_of ns)) [
      | inl e ↦
          (let l = numbered_last m0 c0 blocks0 n ns e below in
          let before = pairs_kept n (λ i k v low. agrees i k v (omega (arith, low))) l.before l.below in
          last l.before n l.key l.value before (agrees n l.key l.value (omega arith) e l.block) ns l.is)
      | inr e ↦ pairs_kept n (λ i k v low. agrees i k v (omega (arith, low))) ns (numbered_before m0 c0 blocks0 n ns e below)
    ]
      where
        last : (ys : List (ℕ × (K × V))) (i : ℕ) (k : K) (v : V) → pairs_of (those (is_done done) ys) ≡ filter (λ x. test x.0 x.1) (pairs_of ys) → is_done done i ≡ test k v
            → (xs : List (ℕ × (K × V))) → xs ≡ ys ++ ((i, (k, v)) ∷ []) → pairs_of (those (is_done done) xs) ≡ filter (λ x. test x.0 x.1) (pairs_of xs)
        last ys i k v before agree xs is =
            ap (λ l. pairs_of (those (is_done done) l)) is ∙ ap pairs_of (filter-append (λ x. is_done done x.0) ys ((i, (k, v)) ∷ []))
            ∙ ap (λ (b : Bool). pairs_of (those (is_done done) ys ++ cond b ((i, (k, v)) ∷ []) [])) agree ∙ by (test k v)
            ∙ ap (λ l. l ++ cond (test k v) ((k, v) ∷ []) []) before ∙ sym (filter-append (λ x. test x.0 x.1) (pairs_of ys) ((k, v) ∷ []))
            ∙ sym (ap (λ l. filter (λ x. test x.0 x.1) l) (ap pairs_of is ∙ pairs_append ys i k v))
          where
            by : (b : Bool) → pairs_of (those (is_done done) ys ++ cond b ((i, (k, v)) ∷ []) []) ≡ pairs_of (those (is_done done) ys) ++ cond b ((k, v) ∷ []) []
            by true = pairs_append (those (is_done done) ys) i k v
            by false = ap pairs_of (append-nil (those (is_done done) ys)) ∙ sym (append-nil (pairs_of (those (is_done done) ys)))

  pub kept_at_end : KeptAtEnd test m0 blocks0
  kept_at_end incremental m c0 c blocks asked o swept came over once retains kept xs are =
      let numbered = numbers_are m0 c0 blocks0 xs are in
      let leaves = sweeps_leave incremental m0 m c0 c blocks0 blocks asked o swept came over numbered.0 numbered.1 in
      let left : AreNumbered m c blocks (those (is_done o.done) numbered.0) = subst (λ (p : Purpose). AreNumbered m c blocks (left_by p o.done numbered.0)) retains leaves.0 in
      subst (AreContents m c blocks)
      (pairs_kept c0 o.done c0.stored (λ i k v low here block. kept i k v (let s = swept.stored in asked_about i (leaves.2 once retains i (omega (arith, low, s))) here) block) numbered.0 numbered.1
      ∙ ap (filter (λ x. test x.0 x.1)) numbered.2)
      (numbers_go m c blocks (those (is_done o.done) numbered.0) left)
    where
      asked_about : (i : ℕ) → times i asked ≡ cond (c0.current i) 1 0 → c0.current i ≡ true → 0 < times i asked
      asked_about i e here = let one : times i asked ≡ 1 = e ∙ ap {B = ℕ} (λ (x : Bool). cond x 1 0) here in omega (arith, one)
