-- Which step on a word each operation is.
use Rattle.std.specs.Prelude.{◌≡◌, ◌≢◌, ℕ, zero, suc, ◌+◌, ◌-◌, ◌%◌, ◌^◌, ◌==◌, Bool, List, [], ◌∷◌, Option, Some, None, IsSome, Result, Ok, Err, bit_or, slice_set, slice_index_or, if◌then◌else◌}
use Rattle.std.proofs.Common.{refl, sym, ap, ◌∙◌, subst, inl, inr, ◌⊎◌}
use Rattle.std.proofs.lemmas.Bool.{cases_eq, eq-eqb, ne_eqb}
use prog.Atomic.{either}
use Rattle.core.specs.Result.{MatchResult}
use Rattle.core.specs.Sync.RawAtomic.{word_found}
use Rattle.seize_words.specs.OneMemory.Mem.{Mem, Gives, block_of, entry_in, word_in, with_entry, with_word_in, word_at, with_word, after}
use Rattle.seize_words.specs.OneMemory.SlotWords.{slot_word, with_slot_word}
use Rattle.seize_words.specs.OneMemory.Op.{Op, Out, Load, Store, Swap, Add, Or, Exchange, Found, Stored, Exchanged}
use Rattle.seize_words.specs.declared.at.At.{At}
use Rattle.seize_words.specs.declared.at.At.TheVariants.{Root, Used, Slot, Entry, Word}
use Rattle.seize_words.specs.declared.block.Block.{Block}
use denote.RawPtr.{Ptr}
use Rattle.seize_seats.specs.Seats.Lines.{IsWord}
use Rattle.seize_seats.specs.Seats.Owned.{BaseId, place_in, IsIn}
use Rattle.seize_seats.specs.Seats.Steps.{IsWordStep, IsStepOf, exchanged}
use Rattle.seize_words.proofs.General.{set_same}

pub answered : (old : ℕ) (r : Result ℕ ℕ) → MatchResult r (λ n. n ≡ old) (λ n. n ≢ old) → exchanged old (word_found r) ≡ r
answered old (Ok n) is = ap (λ (y : Bool). if y then Ok n else Err n) (eq-eqb n old is)
answered old (Err n) is = ap (λ (y : Bool). if y then Ok n else Err n) (ne_eqb n old is)

some_word : (x : Option ℕ) → IsSome x → (w : ℕ) × (x ≡ Some w)
some_word None is = absurd (cc is)
some_word (Some w) is = (w, refl)

slot_same : (slots : List (List ℕ)) (s f w : ℕ) → slot_word slots s f ≡ Some w → with_slot_word slots s f w ≡ slots
slot_same [] s f w e = refl
slot_same (l ∷ ls) zero f w e = ap (λ z. z ∷ ls) (set_same l f w e)
slot_same (l ∷ ls) (suc s) f w e = ap (λ z. l ∷ z) (slot_same ls s f w e)

module _ {T : Type 0} where
  entry_same : (x : Option (Block T)) (i w : ℕ) → entry_in x i ≡ Some w → with_entry x i w ≡ x
  entry_same None i w e = refl
  entry_same (Some x) i w e = ap (λ (l : List ℕ). Some record { value = x.value; entry = l; words = x.words }) (set_same x.entry i w e)

  own_same : (x : Option (Block T)) (i w : ℕ) → word_in x i ≡ Some w → with_word_in x i w ≡ x
  own_same None i w e = refl
  own_same (Some x) i w e = ap (λ (l : List ℕ). Some record { value = x.value; entry = x.entry; words = l }) (set_same x.words i w e)

  back_in : (blocks : List (Option (Block T))) (j : ℕ) → slice_set blocks j (slice_index_or blocks j None) ≡ blocks
  back_in [] j = refl
  back_in (x ∷ xs) zero = refl
  back_in (x ∷ xs) (suc j) = ap (λ l. x ∷ l) (back_in xs j)

  block_back : (m : Mem T) (b : ℕ) (x : Option (Block T)) → x ≡ block_of m b → IsSome x → slice_set m.blocks (b - 1) x ≡ m.blocks
  block_back m b x is some = by (cases_eq b 0)
    where
      branch : Bool → Option (Block T)
      branch y = if y then None else slice_index_or m.blocks (b - 1) None

      by : (b ≡ 0) ⊎ (b ≢ 0) → slice_set m.blocks (b - 1) x ≡ m.blocks
      by (inl e) = absurd (let none : x ≡ None = is ∙ ap branch (eq-eqb b 0 e) in cc (none, some))
      by (inr ne) = ap (slice_set m.blocks (b - 1)) (is ∙ ap branch (ne_eqb b 0 ne)) ∙ back_in m.blocks (b - 1)

  some_entry : (x : Option (Block T)) (i w : ℕ) → entry_in x i ≡ Some w → IsSome x
  some_entry None i w e = absurd (cc e)
  some_entry (Some x) i w e = refl

  some_own : (x : Option (Block T)) (i w : ℕ) → word_in x i ≡ Some w → IsSome x
  some_own None i w e = absurd (cc e)
  some_own (Some x) i w e = refl

  pub word_same : (m : Mem T) (at : At) (w : ℕ) → word_at m at ≡ Some w → with_word m at w ≡ m
  word_same m (Root r) w e = ap (λ (l : List ℕ). record m { roots = l }) (set_same m.roots r w e)
  word_same m (Used r) w e = ap (λ (l : List ℕ). record m { used = l }) (set_same m.used r w e)
  word_same m (Slot s f) w e = ap (λ (l : List (List ℕ)). record m { slots = l }) (slot_same m.slots s f w e)
  word_same m (Entry b i) w e =
      let x : Option (Block T) = block_of m b in
      ap (λ (l : List (Option (Block T))). record m { blocks = l }) (ap (slice_set m.blocks (b - 1)) (entry_same x i w e)
      ∙ block_back m b x refl (some_entry x i w e))
  word_same m (Word b i) w e =
      let x : Option (Block T) = block_of m b in
      ap (λ (l : List (Option (Block T))). record m { blocks = l }) (ap (slice_set m.blocks (b - 1)) (own_same x i w e) ∙ block_back m b x refl (some_own x i w e))

-- on the word of a name, wherever it lies
module _ (T : Type 0) (at : At) where
  pub loads : IsWordStep T at (Load at) (λ n. n) Found
  loads = record { needs = λ m is. some_word (word_at m at) is; makes = λ m w e. (e, sym (word_same m at w e)) }

  pub stores : (new : ℕ) → IsWordStep T at (Store at new) (λ _. new) (λ _. Stored)
  stores new = record { needs = λ m is. some_word (word_at m at) is; makes = λ m w e. (tt, refl) }

  pub swaps : (new : ℕ) → IsWordStep T at (Swap at new) (λ _. new) Found
  swaps new = record { needs = λ m is. some_word (word_at m at) is; makes = λ m w e. (e, refl) }

  pub adds : (by : ℕ) → IsWordStep T at (Add at by) (λ n. (n + by) % 2 ^ 64) Found
  adds by = record { needs = λ m is. some_word (word_at m at) is; makes = λ m w e. (e, refl) }

  pub sets : (bits : ℕ) → IsWordStep T at (Or at bits) (λ n. bit_or n bits) Found
  sets bits = record { needs = λ m is. some_word (word_at m at) is; makes = λ m w e. (e, refl) }

  pub exchanges : (old new : ℕ) → IsWordStep T at (Exchange at old new) (λ n. either (n == old) new n) (λ n. Exchanged (exchanged old n))
  exchanges old new = record { needs = λ m is. some_word (word_at m at) is; makes = λ m w e. by m w e (cases_eq w old) }
    where
      by : (m : Mem T) (w : ℕ) → word_at m at ≡ Some w → (w ≡ old) ⊎ (w ≢ old) → Gives m (Exchange at old new) (Exchanged (exchanged old w))
          × (after m (Exchange at old new) (Exchanged (exchanged old w)) ≡ with_word m at (either (w == old) new w))
      by m w e (inl is) =
          subst (λ (y : Bool). Gives m (Exchange at old new) (Exchanged (if y then Ok w else Err w))
          × (after m (Exchange at old new) (Exchanged (if y then Ok w else Err w)) ≡ with_word m at (either y new w))) (sym (eq-eqb w old is)) ((e, is), refl)
      by m w e (inr ne) =
          subst (λ (y : Bool). Gives m (Exchange at old new) (Exchanged (if y then Ok w else Err w))
          × (after m (Exchange at old new) (Exchanged (if y then Ok w else Err w)) ≡ with_word m at (either y new w))) (sym (ne_eqb w old ne))
          ((e, ne), sym (word_same m at w e))

-- on one of a strip's words
pub lying : {T : Type 0} (p : Ptr) (z : BaseId) (at : At) (i : ℕ) (op : Op T) (f : ℕ → ℕ) (out : ℕ → Out T) → IsWordStep T at op f out
    → (IsWord z.roots z.count at → IsIn p z at × (i ≡ place_in z at)) → IsStepOf T p z at i op f out
lying p z at i op f out is lies = record { needs = is.needs; makes = is.makes; lies = lies }
