-- Places of slots are words, values and pointers side by side, and the other way round. Assumes `Logic`.
use Rattle.std.proofs.Common.{◌≡◌, ℕ, zero, suc, ◌+◌, ◌*◌, ◌^◌, ◌<◌, Bool, true, false, List, [], ◌∷◌, length, get_or, refl, sym, subst, arith}
use Rattle.std.specs.Prelude.{Option, None, slice_index_or, replicate}
use seplogic.Ra.Ura.{Ura}
use mir.Val.{Val}
use mir.Syntax.{w64, ty_ptr}
use base.Fraction.{full_share}
use base.Logic.{ent, guard, emp, never, mono∗, id⊢}
use base.Fml.{Fml, fsep}
use types.Logic.{Logic, sem}
use types.Kit.{‵, ◌$◌, ◌∵◌, !, qed, move, rewrite, fsplit, fjoin, fpick, fpack, feq_l, feq_i, flt_i, flt_l, check, use1, done}
use denote.RattleType.{RattleType}
use denote.Builtin.{u64, RawPtr}
use denote.Plain.{uint_in, uint_out}
use denote.RawPtr.{Ptr, block_ptr, null_ptr, ptr_val, block_of, count_of, at_block, InBlock, in_block, in_a_block}
use denote.Memory.{part_at, part_of, cell_at}
use Rattle.core.specs.Sync.RawAtomic.Pointer.{cell}
use Rattle.core.specs.Mem.Slots.Ownership.{owned, slots, Filled}
use Rattle.core.specs.contracts.option.Option.{the_row as OptionOf}
use Rattle.seize_seats.specs.Seats.Doors.{pointers}
use Rattle.seize_seats.specs.Seats.Owned.{row, stride, places}
use Rattle.seize_seats.specs.Seats.Plots.{all_full}

pub full_is : (n : ℕ) (fs : List Bool) → length fs ≡ n → Filled fs 0 n → fs ≡ all_full n
full_is zero [] long full = refl
full_is zero (f ∷ fs) long full = absurd (omega (arith, long))
full_is (suc n) [] long full = absurd (omega (arith, long))
full_is (suc n) (f ∷ fs) long full = let first : f ≡ true = full 0 (omega arith) (omega arith) in
    let rest = full_is n fs (omega (arith, long)) (λ k low lt. full (suc k) (omega arith) (omega (arith, lt))) in cc (first, rest)

is_full : (n k : ℕ) → k < n → get_or (all_full n) k false ≡ true
is_full zero k lt = absurd (omega (arith, lt))
is_full (suc n) zero lt = refl
is_full (suc n) (suc k) lt = is_full n k (omega (arith, lt))

pub are_full : (n : ℕ) → Filled (all_full n) 0 n
are_full n k low lt = is_full n k lt

-- places of words are words side by side, and the other way round
module _ {M : Type 1} {𝓤 : Ura M} (𝓛 : Logic 𝓤) (b : ℕ) where
  abbrev Words : ℕ → List ℕ → Fml
  Words o xs = slots u64 (block_ptr b o) xs (all_full (length xs))

  words_out : (xs : List ℕ) (o : ℕ) → ent 𝓤 (sem 𝓛 (Words o xs)) (sem 𝓛 (row b o xs))
  words_out [] o = id⊢ 𝓤 (emp 𝓤)
  words_out (x ∷ xs) o = mono∗ 𝓤 (uint_out 𝓛 full_share w64 x b o) (words_out xs (o + 8))

  words_in : (xs : List ℕ) (o : ℕ) → ent 𝓤 (sem 𝓛 (row b o xs)) (sem 𝓛 (Words o xs))
  words_in [] o = id⊢ 𝓤 (emp 𝓤)
  words_in (x ∷ xs) o = mono∗ 𝓤 (uint_in 𝓛 full_share w64 x b o) (words_in xs (o + 8))

module _ {M : Type 1} {𝓤 : Ura M} (𝓛 : Logic 𝓤) (p : Ptr) (xs : List ℕ) where
  abbrev pub Whole : Fml
  Whole = owned u64 p (length xs) xs (all_full (length xs))

  abbrev pub Fits : Type 0
  Fits = InBlock p × (length xs * 8 < 2 ^ 63)

  pub whole_out : ent 𝓤 (sem 𝓛 Whole) (guard 𝓤 Fits (sem 𝓛 (row (block_of p) (count_of p) xs)))
  whole_out = qed 𝓛 (‵ Whole ∷ []) ∵ fsplit ! $
      flt_l ! (λ fit. in_a_block ! p (λ (r : Ptr). in_block r (slots u64 r xs (all_full (length xs)))) (id⊢ 𝓤 (never 𝓤)) (λ b o at.
      check ! (subst InBlock (sym at) tt, fit) $ use1 𝓛 (‵ (row b o xs)) (words_out 𝓛 b xs o) $
      rewrite ! 0 (λ (t : ℕ × ℕ). ‵ (row t.0 t.1 xs)) (λ i. (block_of (sym at i), count_of (sym at i))) refl $ done !))

  pub whole_in : Fits → ent 𝓤 (sem 𝓛 (row (block_of p) (count_of p) xs)) (sem 𝓛 Whole)
  whole_in fits = let at : p ≡ block_ptr (block_of p) (count_of p) = at_block p fits.0 in qed 𝓛 (‵ (row (block_of p) (count_of p) xs) ∷ []) ∵
      use1 𝓛 (‵ (slots u64 (block_ptr (block_of p) (count_of p)) xs (all_full (length xs)))) (words_in 𝓛 (block_of p) xs (count_of p)) $
      flt_i ! (length xs * 8) (2 ^ 63) fits.1 $ fjoin ! $
      rewrite ! 0 (λ (r : Ptr). ‵ (owned u64 r (length xs) xs (all_full (length xs)))) (sym at) refl $ done !

-- places for values are places side by side, and the other way round
module _ {M : Type 1} {𝓤 : Ura M} (𝓛 : Logic 𝓤) (Y : RattleType) where
  abbrev Slotted : ℕ → ℕ → List (Option Y.Denot) → Fml
  Slotted b o xs = slots (OptionOf Y) (block_ptr b o) xs (all_full (length xs))

  places_out : (b : ℕ) (xs : List (Option Y.Denot)) (o : ℕ) → ent 𝓤 (sem 𝓛 (Slotted b o xs)) (sem 𝓛 (places Y b o xs))
  places_out b [] o = id⊢ 𝓤 (emp 𝓤)
  places_out b (x ∷ xs) o = mono∗ 𝓤 (id⊢ 𝓤 (sem 𝓛 (part_at (OptionOf Y) full_share x b o))) (places_out b xs (o + stride Y))

  places_in : (b : ℕ) (xs : List (Option Y.Denot)) (o : ℕ) → ent 𝓤 (sem 𝓛 (places Y b o xs)) (sem 𝓛 (Slotted b o xs))
  places_in b [] o = id⊢ 𝓤 (emp 𝓤)
  places_in b (x ∷ xs) o = mono∗ 𝓤 (id⊢ 𝓤 (sem 𝓛 (part_at (OptionOf Y) full_share x b o))) (places_in b xs (o + stride Y))

  module _ (p : Ptr) (xs : List (Option Y.Denot)) where
    abbrev pub Values : Fml
    Values = owned (OptionOf Y) p (length xs) xs (all_full (length xs))

    abbrev pub Roomy : Type 0
    Roomy = InBlock p × (length xs * stride Y < 2 ^ 63)

    pub values_out : ent 𝓤 (sem 𝓛 Values) (guard 𝓤 Roomy (sem 𝓛 (places Y (block_of p) (count_of p) xs)))
    values_out = qed 𝓛 (‵ Values ∷ []) ∵ fsplit ! $
        flt_l ! (λ fit. in_a_block ! p (λ (r : Ptr). in_block r (slots (OptionOf Y) r xs (all_full (length xs)))) (id⊢ 𝓤 (never 𝓤)) (λ b o at.
        check ! (subst InBlock (sym at) tt, fit) $ use1 𝓛 (‵ (places Y b o xs)) (places_out b xs o) $
        rewrite ! 0 (λ (t : ℕ × ℕ). ‵ (places Y t.0 t.1 xs)) (λ i. (block_of (sym at i), count_of (sym at i))) refl $ done !))

    pub values_in : Roomy → ent 𝓤 (sem 𝓛 (places Y (block_of p) (count_of p) xs)) (sem 𝓛 Values)
    values_in fits = let at : p ≡ block_ptr (block_of p) (count_of p) = at_block p fits.0 in qed 𝓛 (‵ (places Y (block_of p) (count_of p) xs) ∷ []) ∵
        use1 𝓛 (‵ (Slotted (block_of p) (count_of p) xs)) (places_in (block_of p) xs (count_of p)) $
        flt_i ! (length xs * stride Y) (2 ^ 63) fits.1 $ fjoin ! $
        rewrite ! 0 (λ (r : Ptr). ‵ (owned (OptionOf Y) r (length xs) xs (all_full (length xs)))) (sym at) refl $ done !

-- places of addresses are pointers side by side, and the other way round
module _ {M : Type 1} {𝓤 : Ura M} (𝓛 : Logic 𝓤) where
  pointer_out : (p : Ptr) (b o : ℕ) → ent 𝓤 (sem 𝓛 (part_at RawPtr full_share p b o)) (sem 𝓛 (cell b o p))
  unfolding part_of
  pointer_out p b o = qed 𝓛 (‵ (part_at RawPtr full_share p b o) ∷ []) ∵ fpick ! (λ vs. fsplit ! $ move ! (1 ∷ []) $ feq_l ! (λ e.
      rewrite ! 0 (λ (us : List Val). ‵ (cell_at full_share (ty_ptr ∷ []) us b o)) e refl $ done !))

  pointer_in : (p : Ptr) (b o : ℕ) → ent 𝓤 (sem 𝓛 (cell b o p)) (sem 𝓛 (part_at RawPtr full_share p b o))
  unfolding part_of
  pointer_in p b o = qed 𝓛 (‵ (cell b o p) ∷ []) ∵ feq_i ! (List Val) (ptr_val p ∷ []) (ptr_val p ∷ []) refl $ move ! (1 ∷ 0 ∷ []) $ fjoin ! $
      fpack ! (List Val) (λ vs. fsep (cell_at full_share (ty_ptr ∷ []) vs b o) (RawPtr.own_val p vs)) (ptr_val p ∷ []) $ done !

  abbrev Addresses : ℕ → ℕ → List Ptr → Fml
  Addresses b o xs = slots RawPtr (block_ptr b o) xs (all_full (length xs))

  addresses_out : (b : ℕ) (xs : List Ptr) (o : ℕ) → ent 𝓤 (sem 𝓛 (Addresses b o xs)) (sem 𝓛 (pointers b o xs))
  addresses_out b [] o = id⊢ 𝓤 (emp 𝓤)
  addresses_out b (x ∷ xs) o = mono∗ 𝓤 (pointer_out x b o) (addresses_out b xs (o + 8))

  addresses_in : (b : ℕ) (xs : List Ptr) (o : ℕ) → ent 𝓤 (sem 𝓛 (pointers b o xs)) (sem 𝓛 (Addresses b o xs))
  addresses_in b [] o = id⊢ 𝓤 (emp 𝓤)
  addresses_in b (x ∷ xs) o = mono∗ 𝓤 (pointer_in x b o) (addresses_in b xs (o + 8))

  module _ (p : Ptr) (xs : List Ptr) where
    abbrev pub Doorway : Fml
    Doorway = owned RawPtr p (length xs) xs (all_full (length xs))

    pub doorway_out : ent 𝓤 (sem 𝓛 Doorway) (guard 𝓤 (InBlock p) (sem 𝓛 (pointers (block_of p) (count_of p) xs)))
    doorway_out = qed 𝓛 (‵ Doorway ∷ []) ∵ fsplit ! $
        flt_l ! (λ fit. in_a_block ! p (λ (r : Ptr). in_block r (slots RawPtr r xs (all_full (length xs)))) (id⊢ 𝓤 (never 𝓤)) (λ b o at.
        check ! (subst InBlock (sym at) tt) $ use1 𝓛 (‵ (pointers b o xs)) (addresses_out b xs o) $
        rewrite ! 0 (λ (t : ℕ × ℕ). ‵ (pointers t.0 t.1 xs)) (λ i. (block_of (sym at i), count_of (sym at i))) refl $ done !))

    pub doorway_in : InBlock p → length xs * 8 < 2 ^ 63 → ent 𝓤 (sem 𝓛 (pointers (block_of p) (count_of p) xs)) (sem 𝓛 Doorway)
    doorway_in there few = let at : p ≡ block_ptr (block_of p) (count_of p) = at_block p there in qed 𝓛 (‵ (pointers (block_of p) (count_of p) xs) ∷ []) ∵
        use1 𝓛 (‵ (Addresses (block_of p) (count_of p) xs)) (addresses_in (block_of p) xs (count_of p)) $
        flt_i ! (length xs * 8) (2 ^ 63) few $ fjoin ! $
        rewrite ! 0 (λ (r : Ptr). ‵ (owned RawPtr r (length xs) xs (all_full (length xs)))) (sym at) refl $ done !

pub nulls_are : (n : ℕ) (xs : List Ptr) → length xs ≡ n → ((k : ℕ) → slice_index_or xs k null_ptr ≡ null_ptr) → xs ≡ replicate n null_ptr
nulls_are zero [] l none = refl
nulls_are zero (x ∷ xs) l none = absurd (omega (arith, l))
nulls_are (suc n) [] l none = absurd (omega (arith, l))
nulls_are (suc n) (x ∷ xs) l none = let first : x ≡ null_ptr = none 0 in let rest = nulls_are n xs (omega (arith, l)) (λ k. none (suc k)) in cc (first, rest)

-- each place holds none
pub nones_are : {X : Type 0} (n : ℕ) (xs : List (Option X)) → length xs ≡ n → ((k : ℕ) → slice_index_or xs k None ≡ None) → xs ≡ replicate n None
nones_are zero [] l none = refl
nones_are zero (x ∷ xs) l none = absurd (omega (arith, l))
nones_are (suc n) [] l none = absurd (omega (arith, l))
nones_are (suc n) (x ∷ xs) l none = let first : x ≡ None = none 0 in let rest = nones_are n xs (omega (arith, l)) (λ k. none (suc k)) in cc (first, rest)

pub nones_of : {X : Type 0} (n k : ℕ) → slice_index_or (replicate {A = Option X} n None) k None ≡ None
nones_of zero k = refl
nones_of (suc n) zero = refl
nones_of {X} (suc n) (suc k) = nones_of {X = X} n k
