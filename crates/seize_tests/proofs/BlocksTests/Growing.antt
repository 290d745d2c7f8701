-- A word that only grows: steps of seats keep what is said of it, and two seats may meet.
use Rattle.std.specs.Prelude.{◌≡◌, ◌≤◌, ◌<◌, ◌⊎◌, ℕ, zero, suc, List, [], ◌∷◌, ◌++◌, Some, Ok, Err, is_some, slice_get, slice_set}
use Rattle.std.proofs.Common.{ap, refl, sym, ◌∙◌, inl, inr, arith}
use Rattle.std.proofs.lemmas.Bool.{cases_lt}
use Rattle.seize_words.specs.OneMemory.Mem.{Mem, Took, word_at}
use Rattle.seize_words.specs.OneMemory.Op.{Out, Load, Exchange, Found, Stored, Exchanged, Made, Taken, Roomed}
use Rattle.seize_words.specs.declared.at.At.TheVariants.{Root}
use Rattle.seize_seats.specs.Seats.State.{State, Goes, Allows, Learns, Meets}
use Rattle.seize_seats.specs.Seats.State as State
use Rattle.seize_tests.specs.BlocksTests.Grown.{HasGrown, grows, no_less, greater}
use Rattle.seize_tests.proofs.BlocksTests.Roots.{set_first}

-- nothing is kept
abbrev pub NoneKept : ℕ → ℕ → Unit {0} → ℕ → Type 0
NoneKept u o w b = ⊥

abbrev pub S : Type 0
S = State ℕ ℕ (Unit {0})

-- of the views after one was set: either that one, or one of before
pub after_set : (vs : List ℕ) (i j w v : ℕ) → slice_get (slice_set vs i w) j ≡ Some v → (v ≡ w) ⊎ (slice_get vs j ≡ Some v)
after_set [] i j w v e = inr e
after_set (x ∷ vs) zero zero w v e = inl (let same : w ≡ v = cc e in sym same)
after_set (x ∷ vs) zero (suc j) w v e = inr e
after_set (x ∷ vs) (suc i) zero w v e = inr e
after_set (x ∷ vs) (suc i) (suc j) w v e = after_set vs i j w v e

pub after_push : (vs : List ℕ) (j w v : ℕ) → slice_get (vs ++ w ∷ []) j ≡ Some v → (v ≡ w) ⊎ (slice_get vs j ≡ Some v)
after_push [] zero w v e = inl (let same : w ≡ v = cc e in sym same)
after_push [] (suc j) w v e = inr e
after_push (x ∷ vs) zero w v e = inr e
after_push (x ∷ vs) (suc j) w v e = after_push vs j w v e

module _ (s : S) (has : HasGrown s) (id : ℕ) (m : Mem ℕ) where
  -- the word is there, and is no less than it was
  stays : (w u : ℕ) → word_at m (Root 0) ≡ Some w → has.word ≤ w → u ≤ w → HasGrown (State.after s m id u tt)
  stays w u there le small = record { word = w; there = there; reached = λ j v e. by j v (after_set s.views id j u v e) }
    where
      by : (j v : ℕ) → (v ≡ u) ⊎ (slice_get s.views j ≡ Some v) → v ≤ w
      by j v (inl same) = omega (arith, same, small)
      by j v (inr e) = let r = has.reached j v e in omega (arith, r, le)

  goes : (so : ℕ → Type 0) (w u : ℕ) → word_at m (Root 0) ≡ Some w → has.word ≤ w → u ≤ w → so u → Goes HasGrown NoneKept s m id so
  goes so w u there le small told = (u, tt, stays w u there le small, (λ j k b u o x y z v kept. kept), told)

pub loads : (id v : ℕ) → Allows HasGrown NoneKept id v (Load (Root 0)) (grows v (Load (Root 0)))
loads id v s has at = (ap is_some has.there, λ out m took. told out m took)
  where
    told : (out : Out ℕ) (m : Mem ℕ) → Took s.memory (Load (Root 0)) out m → Goes HasGrown NoneKept s m id (grows v (Load (Root 0)) out)
    told (Found w) m took =
        let there : word_at m (Root 0) ≡ Some has.word = ap (λ (n : Mem ℕ). word_at n (Root 0)) took.1 ∙ has.there in
        let first = took.0 in let found = has.there in let same : w ≡ has.word = cc (first, found) in let known = has.reached id v at in
        goes s has id m (grows v (Load (Root 0)) (Found w)) has.word w there (omega arith) (omega (arith, same)) (omega (arith, same, known), refl)
    told Stored m took = absurd took.0
    told (Exchanged r) m took = absurd took.0
    told (Made r) m took = absurd took.0
    told (Taken r) m took = absurd took.0
    told (Roomed r) m took = absurd took.0

pub raises : (id v old new : ℕ) → old ≤ new → Allows HasGrown NoneKept id v (Exchange (Root 0) old new) (grows v (Exchange (Root 0) old new))
raises id v old new le s has at = (ap is_some has.there, λ out m took. told out m took)
  where
    told : (out : Out ℕ) (m : Mem ℕ) → Took s.memory (Exchange (Root 0) old new) out m → Goes HasGrown NoneKept s m id (grows v (Exchange (Root 0) old new) out)
    told (Exchanged (Ok w)) m took =
        let there : word_at m (Root 0) ≡ Some new = ap (λ (n : Mem ℕ). word_at n (Root 0)) took.1 ∙ set_first s.memory.roots has.word new has.there in
        let first = took.0.0 in let found = has.there in let same : w ≡ has.word = cc (first, found) in let is = took.0.1 in
        goes s has id m (grows v (Exchange (Root 0) old new) (Exchanged (Ok w))) new new there (omega (arith, same, is, le)) (omega arith) refl
    told (Exchanged (Err w)) m took =
        let there : word_at m (Root 0) ≡ Some has.word = ap (λ (n : Mem ℕ). word_at n (Root 0)) took.1 ∙ has.there in
        let first = took.0.0 in let found = has.there in let same : w ≡ has.word = cc (first, found) in
        goes s has id m (grows v (Exchange (Root 0) old new) (Exchanged (Err w))) has.word w there (omega arith) (omega (arith, same)) refl
    told (Found w) m took = absurd took.0
    told Stored m took = absurd took.0
    told (Made r) m took = absurd took.0
    told (Taken r) m took = absurd took.0
    told (Roomed r) m took = absurd took.0

pub meets : (i v j u : ℕ) → Meets HasGrown i v j u (greater v u)
meets i v j u s has at there ne = by (cases_lt v u)
  where
    both : (n : ℕ) → n ≤ has.word → HasGrown record { memory = s.memory; views = slice_set (slice_set s.views i n) j n; world = s.world }
    both n small = record { word = has.word; there = has.there; reached = λ k w e. one k w (after_set (slice_set s.views i n) j k n w e) }
      where
        two : (k w : ℕ) → (w ≡ n) ⊎ (slice_get s.views k ≡ Some w) → w ≤ has.word
        two k w (inl same) = omega (arith, same, small)
        two k w (inr e) = has.reached k w e

        one : (k w : ℕ) → (w ≡ n) ⊎ (slice_get (slice_set s.views i n) k ≡ Some w) → w ≤ has.word
        one k w (inl same) = omega (arith, same, small)
        one k w (inr e) = two k w (after_set s.views i k n w e)

    by : (v < u) ⊎ (u ≤ v) → (v' u' : ℕ) × HasGrown record { memory = s.memory; views = slice_set (slice_set s.views i v') j u'; world = s.world }
        × greater v u v' u'
    by (inl lt) = (u, u, both u (has.reached j u there), (refl, omega (arith, lt), omega arith))
    by (inr le) = (v, v, both v (has.reached i v at), (refl, omega arith, le))

pub learns : (i v j u : ℕ) → Learns HasGrown NoneKept i v j u (no_less v u)
learns i v j u s has at there ne = by (cases_lt v u)
  where
    by : (v < u) ⊎ (u ≤ v) → Goes HasGrown NoneKept s s.memory i (no_less v u)
    by (inl lt) = goes s has i s.memory (no_less v u) has.word u has.there (omega arith) (has.reached j u there) (omega (arith, lt), omega arith)
    by (inr le) = goes s has i s.memory (no_less v u) has.word v has.there (omega arith) (has.reached i v at) (omega arith, le)
