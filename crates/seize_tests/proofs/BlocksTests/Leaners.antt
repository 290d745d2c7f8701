-- A seat sets a word, looks at one that another seat has set, and clears it: what is said of who looks and who has set it holds again.
use Rattle.std.specs.Prelude.{◌≡◌, ◌≢◌, ◌⊎◌, ℕ, zero, suc, List, [], ◌∷◌, ◌++◌, Some, Ok, Err, is_some, slice_get, slice_set}
use Rattle.std.proofs.Common.{ap, refl, sym, ◌∙◌, subst, inl, inr}
use Rattle.std.proofs.lemmas.Bool.{cases_eq}
use Rattle.seize_words.specs.OneMemory.Mem.{Mem, Took, word_at}
use Rattle.seize_words.specs.OneMemory.Op.{Out, Load, Store, Exchange, Found, Stored, Exchanged, Made, Taken, Roomed}
use Rattle.seize_words.specs.declared.at.At.TheVariants.{Root}
use Rattle.seize_seats.specs.Seats.State.{State, Goes, Allows, Learns, Turns, Comes, view_of}
use Rattle.seize_seats.specs.Seats.State as State
use Rattle.seize_seats.specs.Seats.Errands.{TurnsUnlent}
use Rattle.seize_tests.specs.declared.part.Part.{Part}
use Rattle.seize_tests.specs.declared.part.Part.TheVariants.{Nothing, Keeps, Clears, Looks}
use Rattle.seize_tests.specs.BlocksTests.Leaned.{HasSet, Leans, IsLeaned, leaned}
use Rattle.seize_tests.proofs.BlocksTests.Owners.{set_here, set_else, push_get}

-- nothing is kept
abbrev pub NoneKept : Part → Part → Unit {0} → ℕ → Type 0
NoneKept u o w b = ⊥

abbrev S : Type 0
S = State ℕ Part (Unit {0})

abbrev Views : Type 0
Views = List Part

pushed : (l : Views) (i : ℕ) (x y : Part) → slice_get l i ≡ Some y → slice_get (l ++ x ∷ []) i ≡ Some y
pushed [] i x y e = absurd (cc e)
pushed (z ∷ l) zero x y e = e
pushed (z ∷ l) (suc i) x y e = pushed l i x y e

one_view : (l : Views) (i : ℕ) (x y : Part) → slice_get l i ≡ Some x → slice_get l i ≡ Some y → y ≡ x
one_view l i x y at is = let same : Some y ≡ Some x = sym is ∙ at in cc same

module _ (s : S) (has : IsLeaned s) (id : ℕ) (v : Part) (at : view_of s id ≡ Some v) (m : Mem ℕ) (w : Part) (x : ℕ) where
  abbrev views : Views
  views = slice_set s.views id w

  here : (j : ℕ) (u : Part) → j ≡ id → slice_get views j ≡ Some u → u ≡ w
  here j u is e = one_view views id w u (set_here s.views id v w at) (subst (λ (k : ℕ). slice_get views k ≡ Some u) is e)

  before : (j : ℕ) (u : Part) → j ≢ id → slice_get views j ≡ Some u → view_of s j ≡ Some u
  before j u ne e = sym (set_else s.views id j w ne) ∙ e

  -- the seat knows this then, and the word is that
  left : word_at m (Root 0) ≡ Some x → (HasSet w → x ≡ 1)
      → ((j : ℕ) (u : Part) → j ≢ id → view_of s j ≡ Some u → HasSet u → (x ≡ 1) × (HasSet w → ⊥))
      → ((n : ℕ) → w ≡ Looks n → (n ≢ id) × (view_of s n ≡ Some Keeps))
      → ((j : ℕ) → j ≢ id → view_of s j ≡ Some (Looks id) → w ≡ Keeps)
      → IsLeaned (State.after s m id w tt)
  left there mine others looks leant = record {
    word = x;
    there = there;
    set = λ j u e hs. set j u e hs (cases_eq j id);
    sole = λ j k u y e f hu hy. sole j k u y e f hu hy (cases_eq j id) (cases_eq k id);
    looked = λ j n e. looked j n e (cases_eq j id);
  }
    where
      set : (j : ℕ) (u : Part) → slice_get views j ≡ Some u → HasSet u → (j ≡ id) ⊎ (j ≢ id) → x ≡ 1
      set j u e hs (inl is) = mine (subst HasSet (here j u is e) hs)
      set j u e hs (inr ne) = (others j u ne (before j u ne e) hs).0

      sole : (j k : ℕ) (u y : Part) → slice_get views j ≡ Some u → slice_get views k ≡ Some y → HasSet u → HasSet y
          → (j ≡ id) ⊎ (j ≢ id) → (k ≡ id) ⊎ (k ≢ id) → j ≡ k
      sole j k u y e f hu hy (inl is) (inl ks) = is ∙ sym ks
      sole j k u y e f hu hy (inl is) (inr nk) = absurd ((others k y nk (before k y nk f) hy).1 (subst HasSet (here j u is e) hu))
      sole j k u y e f hu hy (inr ne) (inl ks) = absurd ((others j u ne (before j u ne e) hu).1 (subst HasSet (here k y ks f) hy))
      sole j k u y e f hu hy (inr ne) (inr nk) = has.sole j k u y (before j u ne e) (before k y nk f) hu hy

      at_keeper : (n : ℕ) → view_of s n ≡ Some Keeps → ((n ≡ id) → w ≡ Keeps) → (n ≡ id) ⊎ (n ≢ id) → slice_get views n ≡ Some Keeps
      at_keeper n keeps so (inl is) =
          ap (slice_get views) is ∙ set_here s.views id v w at ∙ ap (λ (p : Part). Some p) (so is)
      at_keeper n keeps so (inr ne) = set_else s.views id n w ne ∙ keeps

      looked : (j n : ℕ) → slice_get views j ≡ Some (Looks n) → (j ≡ id) ⊎ (j ≢ id) → slice_get views n ≡ Some Keeps
      looked j n e (inl is) = let k = looks n (sym (here j (Looks n) is e)) in at_keeper n k.1 (λ same. absurd (k.0 same)) (inr k.0)
      looked j n e (inr ne) =
          let was = before j (Looks n) ne e in
          at_keeper n (has.looked j n was) (λ is. leant j ne (subst (λ (k : ℕ). view_of s j ≡ Some (Looks k)) is was)) (cases_eq n id)

-- a seat that knows nothing, or looks, is none that others lean on
module _ (s : S) (has : IsLeaned s) (id : ℕ) where
  keeper : (j : ℕ) → view_of s j ≡ Some (Looks id) → view_of s id ≡ Some Keeps
  keeper j e = has.looked j id e

  -- it has set nothing, and comes to know something by which it has set nothing
  calm : (v w : Part) → (Keeps ≡ v → ⊥) → (HasSet w → ⊥) → view_of s id ≡ Some v
      → ((n : ℕ) → w ≡ Looks n → (n ≢ id) × (view_of s n ≡ Some Keeps)) → (m : Mem ℕ) → word_at m (Root 0) ≡ Some has.word
      → IsLeaned (State.after s m id w tt)
  calm v w not none at looks m there =
      left s has id v at m w has.word there (λ hs. absurd (none hs)) (λ j u ne e hs. (has.set j u e hs, none)) looks
      (λ j ne e. absurd (not (one_view s.views id v Keeps at (keeper j e))))

same_word : (s : S) (has : IsLeaned s) (m : Mem ℕ) → m ≡ s.memory → word_at m (Root 0) ≡ Some has.word
same_word s has m is = ap (λ (n : Mem ℕ). word_at n (Root 0)) is ∙ has.there

one_word : (s : S) (has : IsLeaned s) (w : ℕ) → word_at s.memory (Root 0) ≡ Some w → w ≡ has.word
one_word s has w e = let same : Some w ≡ Some has.word = sym e ∙ has.there in cc same

pub takes : (id : ℕ) → Allows IsLeaned NoneKept id Nothing (Exchange (Root 0) 0 1) (leaned Nothing (Exchange (Root 0) 0 1))
takes id s has at = (ap is_some has.there, λ out m took. told out m took)
  where
    told : (out : Out ℕ) (m : Mem ℕ) → Took s.memory (Exchange (Root 0) 0 1) out m → Goes IsLeaned NoneKept s m id (leaned Nothing (Exchange (Root 0) 0 1) out)
    told (Exchanged (Ok w)) m took =
        let there : word_at m (Root 0) ≡ Some 1 = ap (λ (n : Mem ℕ). word_at n (Root 0)) took.1 ∙ set_here s.memory.roots 0 has.word 1 has.there in
        let free : has.word ≡ 0 = sym (one_word s has w took.0.0) ∙ took.0.1 in
        let clash : (x : ℕ) → x ≡ 1 → x ≡ 0 → ⊥ = λ x e f. cc (e, f) in (
          Keeps,
          tt,
          left s has id Nothing at m Keeps 1 there (λ hs. refl) (λ j u ne e hs. absurd (clash has.word (has.set j u e hs) free)) (λ n e. absurd (cc e))
              (λ j ne e. refl),
          (λ j k b u o x y z f kept. kept),
          refl,
        )
    told (Exchanged (Err w)) m took = (
      Nothing,
      tt,
      calm s has id Nothing Nothing (λ e. cc e) (λ hs. hs) at (λ n e. absurd (cc e)) m (same_word s has m took.1),
      (λ j k b u o x y z f kept. kept),
      refl,
    )
    told (Found w) m took = absurd took.0
    told Stored m took = absurd took.0
    told (Made r) m took = absurd took.0
    told (Taken r) m took = absurd took.0
    told (Roomed r) m took = absurd took.0

-- where nobody leans on it
pub clears : (id : ℕ) → TurnsUnlent IsLeaned NoneKept Leans id Keeps (λ w. w ≡ Clears)
clears id s has at unlent = (
  Clears,
  tt,
  left s has id Keeps at s.memory Clears has.word has.there (λ hs. has.set id Keeps at tt) (λ j u ne e hs. absurd (ne (has.sole j id u Keeps e at hs tt)))
      (λ n e. absurd (cc e)) (λ j ne e. absurd (unlent j (Looks id) e refl)),
  (λ j k b u o x y z f kept. kept),
  refl,
)

pub stores : (id : ℕ) → Allows IsLeaned NoneKept id Clears (Store (Root 0) 0) (leaned Clears (Store (Root 0) 0))
stores id s has at = (ap is_some has.there, λ out m took. told out m took)
  where
    told : (out : Out ℕ) (m : Mem ℕ) → Took s.memory (Store (Root 0) 0) out m → Goes IsLeaned NoneKept s m id (leaned Clears (Store (Root 0) 0) out)
    told Stored m took =
        let there : word_at m (Root 0) ≡ Some 0 = ap (λ (n : Mem ℕ). word_at n (Root 0)) took.1 ∙ set_here s.memory.roots 0 has.word 0 has.there in (
          Nothing,
          tt,
          left s has id Clears at m Nothing 0 there (λ hs. absurd hs) (λ j u ne e hs. absurd (ne (has.sole j id u Clears e at hs tt))) (λ n e. absurd (cc e))
              (λ j ne e. let wrong = one_view s.views id Clears Keeps at (keeper s has id j e) in absurd (cc wrong)),
          (λ j k b u o x y z f kept. kept),
          refl,
        )
    told (Exchanged r) m took = absurd took.0
    told (Found w) m took = absurd took.0
    told (Made r) m took = absurd took.0
    told (Taken r) m took = absurd took.0
    told (Roomed r) m took = absurd took.0

pub learns : (i j : ℕ) → Learns IsLeaned NoneKept i Nothing j Keeps (λ w. w ≡ Looks j)
learns i j s has at there ne = (
  Looks j,
  tt,
  calm s has i Nothing (Looks j) (λ e. cc e) (λ hs. hs) at
      (λ n e. (let same : j ≡ n = cc e in (λ is. ne (sym (same ∙ is)), subst (λ (k : ℕ). view_of s k ≡ Some Keeps) same there))) s.memory has.there,
  (λ k l b u o x y z f kept. kept),
  refl,
)

pub loads : (id n : ℕ) → Allows IsLeaned NoneKept id (Looks n) (Load (Root 0)) (leaned (Looks n) (Load (Root 0)))
loads id n s has at = (ap is_some has.there, λ out m took. told out m took)
  where
    not_mine : (k : ℕ) → view_of s k ≡ Some Keeps → k ≡ id → ⊥
    not_mine k keeps is =
        let wrong = one_view s.views id (Looks n) Keeps at (subst (λ (l : ℕ). view_of s l ≡ Some Keeps) is keeps) in cc wrong

    told : (out : Out ℕ) (m : Mem ℕ) → Took s.memory (Load (Root 0)) out m → Goes IsLeaned NoneKept s m id (leaned (Looks n) (Load (Root 0)) out)
    told (Found w) m took =
        let keeps = has.looked id n at in (
          Looks n,
          tt,
          calm s has id (Looks n) (Looks n) (λ e. cc e) (λ hs. hs) at
              (λ k e. (let same : n ≡ k = cc e in let there = subst (λ (l : ℕ). view_of s l ≡ Some Keeps) same keeps in (not_mine k there, there))) m
              (same_word s has m took.1),
          (λ j k b u o x y z f kept. kept),
          (one_word s has w took.0 ∙ has.set n Keeps keeps tt, refl),
        )
    told Stored m took = absurd took.0
    told (Exchanged r) m took = absurd took.0
    told (Made r) m took = absurd took.0
    told (Taken r) m took = absurd took.0
    told (Roomed r) m took = absurd took.0

pub ends : (id n : ℕ) → Turns IsLeaned NoneKept id (Looks n) (λ w. w ≡ Nothing)
ends id n s has at = (
  Nothing,
  tt,
  calm s has id (Looks n) Nothing (λ e. cc e) (λ hs. hs) at (λ k e. absurd (cc e)) s.memory has.there,
  (λ j k b u o x y z f kept. kept),
  refl,
)

pub comes : Comes IsLeaned NoneKept Nothing
comes s has = (
  tt,
  record {
    word = has.word;
    there = has.there;
    set = λ j v e hs. (let k = came j v e hs in has.set j v k hs);
    sole = λ j k v u e f hv hu. has.sole j k v u (came j v e hv) (came k u f hu) hv hu;
    looked = λ j n e. pushed s.views n Nothing Keeps (has.looked j n (looks j n (push_get s.views j Nothing (Looks n) e)));
  },
  λ b u o kept. kept,
)
  where
    by : (j : ℕ) (v : Part) → HasSet v → (slice_get s.views j ≡ Some v) ⊎ (v ≡ Nothing) → slice_get s.views j ≡ Some v
    by j v hs (inl e) = e
    by j v hs (inr is) = absurd (subst HasSet is hs)

    came : (j : ℕ) (v : Part) → slice_get (s.views ++ Nothing ∷ []) j ≡ Some v → HasSet v → slice_get s.views j ≡ Some v
    came j v e hs = by j v hs (push_get s.views j Nothing v e)

    looks : (j n : ℕ) → (slice_get s.views j ≡ Some (Looks n)) ⊎ (Looks n ≡ Nothing) → slice_get s.views j ≡ Some (Looks n)
    looks j n (inl e) = e
    looks j n (inr is) = absurd (cc is)
