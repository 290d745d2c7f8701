-- The pairs that a memory has stand in its blocks, each in one of its own, and no other stands there.
use Rattle.std.specs.Prelude.{◌≡◌, ℕ, zero, suc, ◌+◌, ◌-◌, ◌<◌, ◌≤◌, Bool, if◌then◌else◌, List, [], ◌∷◌, ◌++◌, Option, Some, None, IsPermutation, slice_index_or}
use Rattle.std.proofs.Common.{refl, sym, ◌∙◌, ap, subst, arith, inl, inr}
use Rattle.std.proofs.lemmas.Bool.{cases_eq, ne_eqb}
use Rattle.std.proofs.lemmas.List.{append-nil}
use Rattle.std.proofs.lemmas.List.Sorted.{IsPermutation-sym}
use Rattle.seize_words.specs.OneMemory.Mem.{Mem, value_at, value_in}
use Rattle.seize_words.specs.declared.block.Block.{Block}
use Rattle.seize.specs.World.{times}
use Rattle.map_tables.specs.declared.node.Node.{Node}
use Rattle.map_tables.specs.declared.node.Node.TheVariants as node
use Rattle.owner_whole.proofs.Given.FinishesEnds.CountedBlocks.{times-append, times_other, some_here}
use Rattle.owner_whole.specs.Strides.Standing.{Standing}
use Rattle.owner_calls.specs.Holds.Balances.{HasJust}
use Rattle.owner_calls.specs.Holds.Came.{StandsAt}
use Rattle.owner_calls.specs.Holds.Held.{with_pair, pairs_among, held_in}
use Rattle.owner_calls.proofs.Holds.Lists.Rest.{without, rest_of}

module _ {K V : Type 0} where
  -- the number of a block with a pair, if so many come before it
  abbrev numbered : Option (Node K V) → ℕ → List ℕ → List ℕ
  numbered (Some (node.Pair key value)) n rest = suc n ∷ rest
  numbered _ n rest = rest

  abbrev numbers : ℕ → List (Option (Block (Node K V))) → List ℕ
  numbers n [] = []
  numbers n (b ∷ blocks) = numbered (value_in b) n (numbers (suc n) blocks)

  -- none of them is so low
  low : (k n : ℕ) (blocks : List (Option (Block (Node K V)))) → k ≤ n → times k (numbers n blocks) ≡ 0
  low k n [] le = refl
  low k n (b ∷ blocks) le = by (value_in b) (low k (suc n) blocks (omega (arith, le)))
    where
      by : (o : Option (Node K V)) → times k (numbers (suc n) blocks) ≡ 0 → times k (numbered o n (numbers (suc n) blocks)) ≡ 0
      by (Some (node.Pair key value)) none = times_other k (suc n) (numbers (suc n) blocks) (λ e. omega (arith, le, e)) ∙ none
      by (Some (node.Table len limit turn)) none = none
      by (Some node.Shards) none = none
      by None none = none

  module _ (m : Mem (Node K V)) where
    -- these blocks follow on so many
    abbrev Reads : ℕ → List (Option (Block (Node K V))) → Type 0
    Reads n blocks = (i : ℕ) → value_at m (suc (n + i)) ≡ value_in (slice_index_or blocks i None)

    reads_first : (n : ℕ) (b : Option (Block (Node K V))) (blocks : List (Option (Block (Node K V)))) → Reads n (b ∷ blocks) → value_at m (suc n) ≡ value_in b
    reads_first n b blocks reads = let e : n ≡ n + 0 = omega arith in ap (λ (k : ℕ). value_at m (suc k)) e ∙ reads 0

    reads_on : (n : ℕ) (b : Option (Block (Node K V))) (blocks : List (Option (Block (Node K V)))) → Reads n (b ∷ blocks) → Reads (suc n) blocks
    reads_on n b blocks reads i = let e : suc n + i ≡ n + suc i = omega arith in ap (λ (k : ℕ). value_at m (suc k)) e ∙ reads (suc i)

    stands : (n : ℕ) (blocks : List (Option (Block (Node K V)))) → Reads n blocks → Standing m (numbers n blocks) (pairs_among blocks)
    stands n [] reads = tt
    stands n (b ∷ blocks) reads = by (value_in b) (reads_first n b blocks reads) (stands (suc n) blocks (reads_on n b blocks reads))
      where
        by : (o : Option (Node K V)) → value_at m (suc n) ≡ o → Standing m (numbers (suc n) blocks) (pairs_among blocks) → Standing m (numbered o n (numbers (suc n) blocks)) (with_pair o (pairs_among blocks))
        by (Some (node.Pair key value)) here rest = (here, low (suc n) (suc n) blocks (omega arith), rest)
        by (Some (node.Table len limit turn)) here rest = rest
        by (Some node.Shards) here rest = rest
        by None here rest = rest

    each : (n : ℕ) (blocks : List (Option (Block (Node K V)))) → Reads n blocks → (i : ℕ) (x : K × V) → StandsAt m (suc (n + i)) x → 0 < times (suc (n + i)) (numbers n blocks)
    each n [] reads i x there = absurd (let e : ◌≡◌ {A = Option (Node K V)} None (Some (node.Pair x.0 x.1)) = sym (reads i) ∙ there in cc e)
    each n (b ∷ blocks) reads zero x there = by (value_in b) (sym (reads 0) ∙ there)
      where
        by : (o : Option (Node K V)) → o ≡ Some (node.Pair x.0 x.1) → 0 < times (suc (n + 0)) (numbered o n (numbers (suc n) blocks))
        by (Some (node.Pair key value)) is = let e : suc n ≡ suc (n + 0) = omega arith in subst (λ (k : ℕ). 0 < times k (suc n ∷ numbers (suc n) blocks)) e (some_here (suc n) (numbers (suc n) blocks))
        by (Some (node.Table len limit turn)) is = absurd (cc is)
        by (Some node.Shards) is = absurd (cc is)
        by None is = absurd (cc is)
    each n (b ∷ blocks) reads (suc i) x there =
        let e : suc (suc n + i) ≡ suc (n + suc i) = omega arith in
        by (value_in b) (subst (λ (k : ℕ). 0 < times k (numbers (suc n) blocks)) e (each (suc n) blocks (reads_on n b blocks reads) i x (subst (λ (k : ℕ). StandsAt m k x) (sym e) there)))
      where
        by : (o : Option (Node K V)) → 0 < times (suc (n + suc i)) (numbers (suc n) blocks) → 0 < times (suc (n + suc i)) (numbered o n (numbers (suc n) blocks))
        by (Some (node.Pair key value)) some = omega (arith, some)
        by (Some (node.Table len limit turn)) some = some
        by (Some node.Shards) some = some
        by None some = some

    first : Reads 0 m.blocks
    first i =
        let e : suc (0 + i) ≡ suc i = omega arith in
        let f : suc i - 1 ≡ i = omega arith in
        ap (value_at m) e
        ∙ ap (λ (q : Bool). value_in {T = Node K V} (if q then None else slice_index_or m.blocks (suc i - 1) None)) (ne_eqb (suc i) 0 (λ z. omega (arith, z)))
        ∙ ap (λ (j : ℕ). value_in {T = Node K V} (slice_index_or m.blocks j None)) f

    all_there : (b : ℕ) (x : K × V) → StandsAt m b x → 0 < times b (numbers 0 m.blocks)
    all_there zero x there = absurd (cc there)
    all_there (suc i) x there =
        let e : suc (0 + i) ≡ suc i = omega arith in
        subst (λ (k : ℕ). 0 < times k (numbers 0 m.blocks)) e (each 0 m.blocks first i x (subst (λ (k : ℕ). StandsAt m k x) (sym e) there))

    pub held_just : HasJust m (held_in m)
    unfolding held_in
    held_just = (numbers 0 m.blocks, stands 0 m.blocks first, all_there)

    -- what stands behind others
    pub behind : (blocks : List ℕ) (xs : List (K × V)) (rest : List ℕ) (more : List (K × V)) → Standing m blocks xs → Standing m (blocks ++ rest) (xs ++ more)
        → Standing m rest more × ((c : ℕ) → 0 < times c blocks → times c rest ≡ 0)
    behind [] [] rest more s t = (t, λ c some. absurd (omega (arith, some)))
    behind (b ∷ blocks) (x ∷ xs) rest more s t = let r = behind blocks xs rest more s.2 t.2 in (r.0, λ c some. by r.1 c some)
      where
        by : ((c : ℕ) → 0 < times c blocks → times c rest ≡ 0) → (c : ℕ) → 0 < times c (b ∷ blocks) → times c rest ≡ 0
        by later c some = elim (cases_eq c b) as (λ _. times c rest ≡ 0) [
          | inl same ↦ subst (λ (d : ℕ). times d rest ≡ 0) (sym same) (let k = times-append b blocks rest in let a = t.1 in omega (arith, k, a))
          | inr ne ↦ later c (let k = times_other c b blocks ne in omega (arith, k, some))
        ]
    behind [] (x ∷ xs) rest more s t = absurd s
    behind (b ∷ blocks) [] rest more s t = absurd s

    -- and it stands there, if in blocks of its own
    pub joined : (blocks : List ℕ) (xs : List (K × V)) (rest : List ℕ) (more : List (K × V)) → Standing m blocks xs → Standing m rest more → ((c : ℕ) → 0 < times c blocks → times c rest ≡ 0)
        → Standing m (blocks ++ rest) (xs ++ more)
    joined [] [] rest more s t apart = t
    joined (b ∷ blocks) (x ∷ xs) rest more s t apart = (
      s.0,
      (let k = times-append b blocks rest in let a = apart b (some_here b blocks) in let o = s.1 in omega (arith, k, a, o)),
      joined blocks xs rest more s.2 t (λ c some. apart c (omega (arith, some))),
    )
    joined [] (x ∷ xs) rest more s t apart = absurd s
    joined (b ∷ blocks) [] rest more s t apart = absurd s

    none_more : (rest : List ℕ) (more : List (K × V)) → Standing m rest more → ((c : ℕ) (x : K × V) → StandsAt m c x → times c rest ≡ 0) → more ≡ []
    none_more [] [] s none = refl
    none_more (c ∷ rest) (x ∷ more) s none = absurd (let a = none c x s.0 in let h = some_here c rest in omega (arith, a, h))
    none_more [] (x ∷ more) s none = absurd s
    none_more (c ∷ rest) [] s none = absurd s

    -- two lists of all pairs that it has are one, in whatever order
    pub just_same : (xs ys : List (K × V)) → HasJust m xs → HasJust m ys → IsPermutation xs ys
    just_same xs ys had also =
        let r = rest_of m had.0 xs had.1 also.0 ys also.1 (λ c some. also.2 c _ (without m c had.0 xs had.1 some).here) in
        let b = behind had.0 xs r.rest r.more had.1 r.stand in
        let e = none_more r.rest r.more b.0 (λ c x there. b.1 c (had.2 c x there)) in
        IsPermutation-sym ys xs (subst (λ (l : List (K × V)). IsPermutation ys l) (ap (λ (l : List (K × V)). xs ++ l) e ∙ append-nil xs) r.order)
