-- What is asked of the words of a strip is what is known of the strip.
use Rattle.std.proofs.Common.{◌≡◌, ℕ, Option, None, Some, IsSome, replicate, refl, sym, ap, ◌∙◌, subst, arith, ◌*◌, ◌+◌, ◌<◌, ◌≤◌, ◌^◌}
use denote.RawPtr.{Ptr, InBlock}
use Rattle.seize_words.specs.OneMemory.Op.{Op, Out, Make, Take, Rewrite}
use Rattle.seize_words.specs.declared.at.At.{At}
use Rattle.seize_words.specs.OneMemory.Mem.{block_of, entry_in, value_in}
use Rattle.seize_words.specs.declared.at.At.TheVariants.{Entry, Word}
use Rattle.seize_words.specs.declared.block.Block.{Block}
use Rattle.seize_seats.specs.Seats.State.{State, Allows, Owns}
use Rattle.seize_seats.specs.Seats.Visits.{AreSeenAt, Spot, Visit}
use Rattle.seize_seats.specs.Seats.Reached.{IsAt}
use Rattle.seize_seats.specs.Seats.Lendings.{VisibleToThree, IsValueOf, IsValueOfBoth}
use Rattle.seize_seats.specs.Seats.Errands.{Away}
use Rattle.seize_atoms.specs.Visiting.{Seen, HoldsHere}
use Rattle.seize_atoms.proofs.Allowed.{visits_found, value_found}
use Rattle.seize_seats.specs.Plots.Pieces.{lies, lies_at}
use Rattle.seize_seats.specs.declared.kept.Kept.{Kept}
use Rattle.seize_seats.specs.declared.piece.Piece.{Piece}
use Rattle.seize_seats.specs.Seats.Owned.{BaseId}
use Rattle.seize_atoms.specs.Placed.{IsItsPlace, IsItsSign, IsItsIndex, HasWord}
use Rattle.seize_atoms.specs.declared.claim.Claim.{Claim}

-- of a block that the seat visits, its own words lie where it has seen them
pub own_lies : {T V W : Type 0} (rests : V → Type 0) (leans : V → ℕ → Type 0) (upright : (v : V) (n : ℕ) → rests v → leans v n → ⊥) (holds : State T V W → Type 0) (keeps : V → V → W → ℕ → Type 0) (id : ℕ) (v : V) (visit : Visit) (away : Away) (b i : ℕ) (s : Ptr × ℕ) (p address : Ptr) (place : ℕ)
    (z : BaseId) (index : ℕ) → IsItsIndex z b index → visit.spot ≡ Some (b, s) → (InBlock s.0 → i * 8 < 2 ^ 63 → (s.0 ≡ address) × (place ≡ i))
    → IsAt lies_at (HoldsHere rests leans holds) id ((v, visit), away) p z (Word b i) address place
own_lies {T} {V} {W} rests leans upright holds keeps id v visit away b i s p address place z index is at lands = (is.0, (s.0, seen, lands))
  where
    seen : AreSeenAt lies_at (HoldsHere rests leans holds) id ((v, visit), away) b s.0
    seen t ok here = let f = visits_found rests leans upright holds keeps t id v visit away b s ok here at in (f.0, f.1, ap (λ (u : Ptr × ℕ). u.0) f.2)

module _ {T V W F : Type 0} (rests : V → Type 0) (leans : V → ℕ → Type 0) (upright : (v : V) (n : ℕ) → rests v → leans v n → ⊥) (holds : F → State T V W → Type 0) (keeps : V → V → W → ℕ → Type 0) where
  -- what `by` ensures
  abbrev Same : Ptr → Ptr → BaseId → BaseId → BaseId → F → F → Type 0
  Same p q y z x f h = (p ≡ q) × (y ≡ z) × (f ≡ h) × (z.views_name ≡ x.views_name) × (z.hands_name ≡ x.hands_name)

  -- what a seat knows is as it was, but for what it visits
  abbrev AsItWas : ℕ → ℕ → ℕ → ℕ → V → V → Type 0
  AsItWas base' base id' id v' v = (base' ≡ base) × (id' ≡ id) × (v' ≡ v)

  abbrev Kinds : F → State (Kept T) (Seen V) W → Type 0
  Kinds h = HoldsHere rests leans (holds h)

  pub on_word : (base base' id id' : ℕ) (address : Ptr) (place : ℕ) (v v' : V) (visit : Visit) (away : Away) (at : At) (op : Op T) (so : V → Out T → V → Type 0) (p q : Ptr) (y z x : BaseId)
      (f h : F) → Same p q y z x f h → AsItWas base' base id' id v' v
      → base ≡ x.views_name → IsItsPlace (Kinds h) id' ((v', visit), away) q z at address place → Allows (holds h) keeps id v op (so v)
      → (base' ≡ y.views_name) × IsItsPlace (Kinds f) id' ((v', visit), away) p y at address place × Allows (holds f) keeps id' v' op (so v')
  on_word base base' id id' address place v v' visit away at op so p q y z x f h e s own is may =
      subst (λ (u : Ptr × BaseId × F). (base' ≡ u.1.views_name) × IsItsPlace (Kinds u.2) id' ((v', visit), away) u.0 u.1 at address place × Allows (holds u.2) keeps id' v' op (so v'))
      (λ i. (sym e.0 i, sym e.1 i, sym e.2 i))
      (s.0 ∙ own ∙ sym e.3, is, subst (λ (w : ℕ × V). Allows (holds h) keeps w.0 w.1 op (so w.1)) (λ i. (sym s.1 i, sym s.2 i)) may)

  -- of a word of a block's own, where the seat has seen them
  pub on_own : (base base' id id' b i index : ℕ) (at : Spot) (address : Ptr) (place : ℕ) (v v' : V) (visit : Visit) (away : Away) (op : Op T) (so : V → Out T → V → Type 0) (p q : Ptr)
      (y z x : BaseId) (f h : F) → Same p q y z x f h → AsItWas base' base id' id v' v → base ≡ x.views_name → InBlock address → place < 2 ^ 60 → IsItsIndex z b index
      → visit.spot ≡ Some (b, at) → (InBlock at.0 → i * 8 < 2 ^ 63 → (at.0 ≡ address) × (place ≡ i)) → Allows (holds h) keeps id v op (so v)
      → (base' ≡ y.views_name) × IsItsPlace (Kinds f) id' ((v', visit), away) p y (Word b i) address place × Allows (holds f) keeps id' v' op (so v')
  on_own base base' id id' b i index at address place v v' visit away op so p q y z x f h e s own there few is seen lands may =
      on_word base base' id id' address place v v' visit away (Word b i) op so p q y z x f h e s own
      (there, few, own_lies rests leans upright (holds h) keeps id' v' visit away b i at q address place z index is seen lands) may

  pub on_take : (base id block index first : ℕ) (v : V) (at p q : Ptr) (y z x : BaseId) (f h : F) (so : Out T → V → Type 0) → Same p q y z x f h → base ≡ x.views_name
      → IsItsIndex z block index → at ≡ z.values → first ≡ index * 5 + z.skip → first + 4 < 2 ^ 60 → Allows (holds h) keeps id v (Take block) so
      → (base ≡ y.views_name) × IsItsIndex y block index × (at ≡ y.values) × (first ≡ index * 5 + y.skip) × (first + 1 ≡ first + 1) × (first + 2 ≡ first + 2)
      × (first + 3 ≡ first + 3) × (first + 4 ≡ first + 4) × (first + 4 < 2 ^ 60) × Allows (holds f) keeps id v (Take block) so
  on_take base id block index first v at p q y z x f h so e own lies values is few may =
      subst (λ (u : BaseId × F). (base ≡ u.0.views_name) × IsItsIndex u.0 block index × (at ≡ u.0.values) × (first ≡ index * 5 + u.0.skip) × (first + 1 ≡ first + 1)
      × (first + 2 ≡ first + 2) × (first + 3 ≡ first + 3) × (first + 4 ≡ first + 4) × (first + 4 < 2 ^ 60) × Allows (holds u.1) keeps id v (Take block) so)
      (λ i. (sym e.1 i, sym e.2 i)) (own ∙ sym e.3, lies, values, is, refl, refl, refl, refl, few, may)

  pub on_rewrite : (base base' id id' block index : ℕ) (v v' : V) (visit : Visit) (away : Away) (kept : Kept T) (at p q : Ptr) (y z x : BaseId) (f h : F) (so : V → Out T → V → Type 0)
      → Same p q y z x f h → AsItWas base' base id' id v' v → visit.spot ≡ Some (block, lies kept)
      → base ≡ x.views_name → IsItsIndex z block index → at ≡ z.values → Owns (holds h) keeps id v block → Allows (holds h) keeps id v (Rewrite block kept.value) (so v)
      → (base' ≡ y.views_name) × IsItsIndex y block index × (at ≡ y.values) × ((k : Kept T) → IsValueOf (Kinds f) id' ((v', visit), away) block k → lies k ≡ lies kept)
      × Owns (holds f) keeps id' v' block × Allows (holds f) keeps id' v' (Rewrite block kept.value) (so v')
  on_rewrite base base' id id' block index v v' visit away kept at p q y z x f h so e s seen own is values alone may =
      subst (λ (u : BaseId × F). (base' ≡ u.0.views_name) × IsItsIndex u.0 block index × (at ≡ u.0.values)
      × ((k : Kept T) → IsValueOf (Kinds u.1) id' ((v', visit), away) block k → lies k ≡ lies kept)
      × Owns (holds u.1) keeps id' v' block × Allows (holds u.1) keeps id' v' (Rewrite block kept.value) (so v')) (λ i. (sym e.1 i, sym e.2 i)) (
        s.0 ∙ own ∙ sym e.3,
        is,
        values,
        λ k of. value_found rests leans upright (holds h) keeps id' v' visit away block (lies kept) k seen of,
        subst (λ (w : ℕ × V). Owns (holds h) keeps w.0 w.1 block) (λ i. (sym s.1 i, sym s.2 i)) alone,
        subst (λ (w : ℕ × V). Allows (holds h) keeps w.0 w.1 (Rewrite block kept.value) (so w.1)) (λ i. (sym s.1 i, sym s.2 i)) may,
      )

  pub on_put : (base id index first count : ℕ) (v : V) (kept : Kept T) (piece : Piece) (at p q : Ptr) (y z x : BaseId) (f h : F) (claim : Claim) (so : Out T → V → Type 0)
      → Same p q y z x f h → base ≡ x.views_name → (claim.found ≡ 0) × (claim.base ≡ x.hands_name) × (claim.index ≡ first + index)
      → z.values ≡ at → z.first ≡ first → z.size ≡ count → index < count → first + count ≤ 2 ^ 32
      → (piece.at ≡ kept.at) × (piece.count ≡ kept.count) × (piece.words ≡ replicate kept.count 0) → Allows (holds h) keeps id v (Make kept.value kept.count) so
      → (base ≡ y.views_name) × (claim.base ≡ y.hands_name) × (claim.found ≡ 0) × (claim.index ≡ y.first + index) × (index < y.size) × (y.first + index + 1 < 2 ^ 53)
      × (at ≡ y.values) × (piece.at ≡ kept.at) × (piece.count ≡ kept.count) × (piece.words ≡ replicate kept.count 0)
      × Allows (holds f) keeps id v (Make kept.value kept.count) so
  on_put base id index first count v kept piece at p q y z x f h claim so e own had values begins size lt few zeros may =
      subst (λ (u : BaseId × F). (base ≡ u.0.views_name) × (claim.base ≡ u.0.hands_name) × (claim.found ≡ 0) × (claim.index ≡ u.0.first + index) × (index < u.0.size)
      × (u.0.first + index + 1 < 2 ^ 53) × (at ≡ u.0.values) × (piece.at ≡ kept.at) × (piece.count ≡ kept.count) × (piece.words ≡ replicate kept.count 0)
      × Allows (holds u.1) keeps id v (Make kept.value kept.count) so)
      (λ i. (sym e.1 i, sym e.2 i)) (
        own ∙ sym e.3,
        had.1 ∙ sym e.4,
        had.0,
        had.2 ∙ ap (λ (k : ℕ). k + index) (sym begins),
        subst (λ (k : ℕ). index < k) (sym size) lt,
        omega (arith, begins, lt, few),
        sym values,
        zeros.0,
        zeros.1,
        zeros.2,
        may,
      )

  pub on_claim : (index first count skip : ℕ) (p q : Ptr) (y z x : BaseId) (f h : F) → Same p q y z x f h → z.first ≡ first → z.size ≡ count → z.skip ≡ skip
      → index < count → (skip + count * 5) * 8 < 2 ^ 63 → IsItsSign y (first + index) (index * 5 + skip + 4)
  on_claim index first count skip p q y z x f h e begins size before lt few =
      subst (λ (u : BaseId). IsItsSign u (first + index) (index * 5 + skip + 4)) (sym e.1)
      (omega (arith, begins, before), omega (arith, lt, few), (omega (arith, begins), omega (arith, begins, size, lt)))

-- a word of an entry is one of a block
entry_some : {T : Type 0} (x : Option (Block T)) (i : ℕ) → IsSome (entry_in x i) → IsSome (value_in x)
entry_some None i some = absurd (cc some)
entry_some (Some x) i some = refl

-- where there is such a word, the view shows its block
pub shows_block : {T V W : Type 0} (holds : State T V W → Type 0) (id : ℕ) (v : V) (b i : ℕ) → HasWord holds id v (Entry b i) → VisibleToThree holds id v id v id v b
shows_block holds id v b i has = λ t h at at' at''. entry_some (block_of t.memory b) i (has t h at)

-- what is found of a block that the seat visits lies where it has seen it
pub lies_there : {T V W : Type 0} (rests : V → Type 0) (leans : V → ℕ → Type 0) (upright : (v : V) (n : ℕ) → rests v → leans v n → ⊥) (holds : State T V W → Type 0) (keeps : V → V → W → ℕ → Type 0) (id : ℕ) (v : V) (visit : Visit) (away : Away) (b : ℕ)
    (x y : Kept T) (o : Option (Kept T)) → ((s : Spot) × (visit.spot ≡ Some (b, s))) → o ≡ Some x → o ≡ Some y
    → IsValueOfBoth (HoldsHere rests leans holds) id ((v, visit), away) id ((v, visit), away) b x → visit.spot ≡ Some (b, lies y)
lies_there rests leans upright holds keeps id v visit away b x y o s is_x is_y of =
    let one : x ≡ y = cc (is_x, is_y) in
    let found : lies x ≡ s.0 = value_found rests leans upright holds keeps id v visit away b s.0 x s.1 (of.0, of.1, of.2, of.4) in
    s.1 ∙ ap (λ (p : Spot). Some (b, p)) (sym found ∙ ap lies one)
