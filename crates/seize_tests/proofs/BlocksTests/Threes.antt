-- Steps on the own words of a block that is never taken: who knows of it finds them.
use Rattle.std.specs.Prelude.{◌≡◌, ◌<◌, ◌⊎◌, ◌^◌, ◌%◌, ◌+◌, ◌==◌, ℕ, zero, suc, Bool, true, false, Option, Some, Ok, Err, IsSome, slice_get, slice_set, if◌then◌else◌}
use Rattle.std.proofs.Common.{ap, refl, sym, ◌∙◌, subst, inl, inr, arith}
use Rattle.std.proofs.lemmas.Bool.{eq-eqb}
use Rattle.seize_words.specs.OneMemory.Mem.{Mem, Took, same_at, word_at, word_in, block_of, fresh, IsFreeNumber}
use Rattle.seize_words.specs.OneMemory.Op.{Out, Load, Add, Make, Found, Stored, Exchanged, Made, Taken, Roomed}
use Rattle.seize_words.specs.declared.at.At.TheVariants.{Word}
use Rattle.seize_words.specs.declared.block.Block.{Block}
use Rattle.seize_words.proofs.OneMemory.OneOwner.AfterWrites.{word_at-with_word, block_of-made}
use Rattle.seize_seats.specs.Seats.State.{State, Goes, Allows, Comes, Meets}
use Rattle.seize_seats.specs.Seats.State as State
use Rattle.seize_tests.specs.BlocksTests.Three.{HasThree, AreThrees, knows, hears}
use Rattle.seize_tests.proofs.BlocksTests.Growing.{NoneKept, S, after_set, after_push}

either : {A : Type 0} (b : Bool) (x y : Option A) → IsSome x → IsSome y → IsSome (if b then x else y)
either true x y p q = p
either false x y p q = q

module _ (s : S) (has : AreThrees s) (id : ℕ) (m : Mem ℕ) (kept : (n : ℕ) → HasThree s.memory n → HasThree m n) where
  stays : (u : ℕ) → (0 < u → HasThree m u) → AreThrees (State.after s m id u tt)
  stays u mine j n e low = by (after_set s.views id j u n e)
    where
      by : (n ≡ u) ⊎ (slice_get s.views j ≡ Some n) → HasThree m n
      by (inl same) = subst (HasThree m) (sym same) (mine (subst (λ (k : ℕ). 0 < k) same low))
      by (inr e) = kept n (has j n e low)

  goes : (so : ℕ → Type 0) (u : ℕ) → (0 < u → HasThree m u) → so u → Goes AreThrees NoneKept s m id so
  goes so u mine told = (u, tt, stays u mine, (λ j k b u o x y z v kept. kept), told)

module _ (id v i : ℕ) (low : 0 < v) (few : i < 3) where
  loads_own : Allows AreThrees NoneKept id v (Load (Word v i)) (knows v (Load (Word v i)))
  loads_own s has at = (has id v at low i few, λ out m took. told out m took)
    where
      told : (out : Out ℕ) (m : Mem ℕ) → Took s.memory (Load (Word v i)) out m → Goes AreThrees NoneKept s m id (knows v (Load (Word v i)) out)
      told (Found w) m took = let kept : (n : ℕ) → HasThree s.memory n → HasThree m n = λ n three. subst (λ (c : Mem ℕ). HasThree c n) (sym took.1) three in
          goes s has id m kept (knows v (Load (Word v i)) (Found w)) v (λ _. kept v (has id v at low)) refl
      told Stored m took = absurd took.0
      told (Exchanged r) m took = absurd took.0
      told (Made r) m took = absurd took.0
      told (Taken r) m took = absurd took.0
      told (Roomed r) m took = absurd took.0

  adds_own : (by : ℕ) → Allows AreThrees NoneKept id v (Add (Word v i) by) (knows v (Add (Word v i) by))
  adds_own by s has at = (has id v at low i few, λ out m took. told out m took)
    where
      told : (out : Out ℕ) (m : Mem ℕ) → Took s.memory (Add (Word v i) by) out m → Goes AreThrees NoneKept s m id (knows v (Add (Word v i) by) out)
      told (Found w) m took = goes s has id m kept (knows v (Add (Word v i) by) (Found w)) v (λ _. kept v (has id v at low)) refl
        where
          new : ℕ
          new = (w + by) % 2 ^ 64

          kept : (n : ℕ) → HasThree s.memory n → HasThree m n
          kept n three l lt =
              subst IsSome (sym (ap (λ (c : Mem ℕ). word_at c (Word n l)) took.1 ∙ word_at-with_word s.memory (Word v i) new (Word n l) (has id v at low i few)))
              (either (same_at (Word n l) (Word v i)) (Some new) (word_at s.memory (Word n l)) refl (three l lt))
      told Stored m took = absurd took.0
      told (Exchanged r) m took = absurd took.0
      told (Made r) m took = absurd took.0
      told (Taken r) m took = absurd took.0
      told (Roomed r) m took = absurd took.0

-- and so where the number is told apart from the view
module _ (id v b i : ℕ) (is : v ≡ b) (low : 0 < b) (few : i < 3) where
  pub loads : Allows AreThrees NoneKept id v (Load (Word b i)) (knows v (Load (Word b i)))
  loads = subst (λ (k : ℕ). Allows AreThrees NoneKept id k (Load (Word b i)) (knows k (Load (Word b i)))) (sym is) (loads_own id b i low few)

  pub adds : (by : ℕ) → Allows AreThrees NoneKept id v (Add (Word b i) by) (knows v (Add (Word b i) by))
  adds by = subst (λ (k : ℕ). Allows AreThrees NoneKept id k (Add (Word b i) by) (knows k (Add (Word b i) by))) (sym is) (adds_own id b i low few by)

fresh_word : (x l : ℕ) → l < 3 → IsSome (word_in (Some (fresh x 3)) l)
fresh_word x zero lt = refl
fresh_word x (suc zero) lt = refl
fresh_word x (suc (suc zero)) lt = refl
fresh_word x (suc (suc (suc l))) lt = absurd (omega (arith, lt))

pub makes : (id x v : ℕ) → Allows AreThrees NoneKept id v (Make x 3) (knows v (Make x 3))
makes id x v s has at = (tt, λ out m took. told out m took)
  where
    told : (out : Out ℕ) (m : Mem ℕ) → Took s.memory (Make x 3) out m → Goes AreThrees NoneKept s m id (knows v (Make x 3) out)
    told (Made (Ok b)) m took = goes s has id m kept (knows v (Make x 3) (Made (Ok b))) b (λ _. mine) (refl, free.1)
      where
        free : IsFreeNumber s.memory b
        free = took.0.0

        at_number : (k : ℕ) → block_of m k ≡ (if k == b then Some (fresh x 3) else block_of s.memory k)
        at_number k = ap (λ (n : Mem ℕ). block_of n k) took.1 ∙ block_of-made s.memory x 3 b k free

        pick : (t : Bool) (k l : ℕ) → IsSome (word_in (Some (fresh x 3)) l) → IsSome (word_in (block_of s.memory k) l)
            → IsSome (word_in (if t then Some (fresh x 3) else block_of s.memory k) l)
        pick true k l p q = p
        pick false k l p q = q

        kept : (n : ℕ) → HasThree s.memory n → HasThree m n
        kept n three l lt = subst IsSome (sym (ap (λ (o : Option (Block ℕ)). word_in o l) (at_number n))) (pick (n == b) n l (fresh_word x l lt) (three l lt))

        mine : HasThree m b
        mine l lt = subst IsSome (sym (ap (λ (o : Option (Block ℕ)). word_in o l) (at_number b
            ∙ ap (λ (t : Bool). if t then Some (fresh x 3) else block_of s.memory b) (eq-eqb b b refl)))) (fresh_word x l lt)
    told (Made (Err y)) m took = let kept : (n : ℕ) → HasThree s.memory n → HasThree m n = λ n three. subst (λ (c : Mem ℕ). HasThree c n) (sym took.1) three in
        goes s has id m kept (knows v (Make x 3) (Made (Err y))) v (λ low. kept v (has id v at low)) refl
    told (Found w) m took = absurd took.0
    told Stored m took = absurd took.0
    told (Exchanged r) m took = absurd took.0
    told (Taken r) m took = absurd took.0
    told (Roomed r) m took = absurd took.0

pub comes : Comes AreThrees NoneKept 0
comes s has = (tt, λ j n e low. by j n low (after_push s.views j 0 n e), λ b u o kept. kept)
  where
    by : (j n : ℕ) → 0 < n → (n ≡ 0) ⊎ (slice_get s.views j ≡ Some n) → HasThree s.memory n
    by j n low (inl none) = absurd (omega (arith, low, none))
    by j n low (inr e) = has j n e low

pub meets : (i v j u : ℕ) → Meets AreThrees i v j u (hears v u)
meets i v j u s has at there ne = (v, v, λ k n e low. one k n low (after_set (slice_set s.views i v) j k v n e), (refl, refl))
  where
    two : (k n : ℕ) → 0 < n → (n ≡ v) ⊎ (slice_get s.views k ≡ Some n) → HasThree s.memory n
    two k n low (inl same) = has i n (at ∙ ap Some (sym same)) low
    two k n low (inr e) = has k n e low

    one : (k n : ℕ) → 0 < n → (n ≡ v) ⊎ (slice_get (slice_set s.views i v) k ≡ Some n) → HasThree s.memory n
    one k n low (inl same) = has i n (at ∙ ap Some (sym same)) low
    one k n low (inr e) = two k n low (after_set s.views i k v n e)
