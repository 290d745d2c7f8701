-- Places change and keep their pairs, where pairs move in incremental mode: what is said of all places stays.
use Rattle.std.proofs.Common.{◌≡◌, ℕ, Bool, true, false, cond, eqb, eqb-true, Option, ◌⊎◌, inl, inr, refl, sym, subst}
use Rattle.map_rule.specs.Chart.{Phase, Still, Copying, Copied, Place, Empty, Tombstone, Holds, Share, Chart, put_in, is_settled, is_taken}
use Rattle.map_rule.specs.Rule.{OnPath, WasCopied, Full, Shut, is_of, names}
use Rattle.map_rule.specs.Moves.{marked}

-- A place before and after: it keeps its pair, and a copied one stays copied; what is taken or settled stays so.
pub record SamePair (p q : Place) : Type 0 where
  pub later : (n : ℕ) (phase : Phase) (borrowed : Bool) → p ≡ Holds n phase borrowed → (phase2 : Phase) × (q ≡ Holds n phase2 borrowed)
  pub earlier : (n : ℕ) (phase : Phase) (borrowed : Bool) → q ≡ Holds n phase borrowed
      → (phase2 : Phase) × (p ≡ Holds n phase2 borrowed) × (phase2 ≡ Copied → phase ≡ Copied)
  pub copied : (n : ℕ) (borrowed : Bool) → p ≡ Holds n Copied borrowed → q ≡ Holds n Copied borrowed
  pub taken : is_taken true p ≡ true → is_taken true q ≡ true
  pub settled : is_settled p ≡ true → is_settled q ≡ true

abbrev pub SamePairs : (ℕ → ℕ → Place) → (ℕ → ℕ → Place) → Type 0
SamePairs f g = (t i : ℕ) → SamePair (f t i) (g t i)

unchanged : (p : Place) → SamePair p p
unchanged p = record {
  later = λ n phase borrowed e. (phase, e);
  earlier = λ n phase borrowed e. (phase, e, λ o. o);
  copied = λ n borrowed e. e;
  taken = λ e. e;
  settled = λ e. e;
}

-- one place changes
pub same_pairs : (f : ℕ → ℕ → Place) (u k : ℕ) (p : Place) → SamePair (f u k) p → SamePairs f (put_in f u k p)
same_pairs f u k p h t i = at (eqb t u) (eqb-true t u) (eqb i k) (eqb-true i k)
  where
    at : (a : Bool) → (a ≡ true → t ≡ u) → (b : Bool) → (b ≡ true → i ≡ k) → SamePair (f t i) (cond a (cond b p (f t i)) (f t i))
    at false d b e = unchanged (f t i)
    at true d false e = unchanged (f t i)
    at true d true e = subst (λ (x : ℕ). SamePair (f x i) p) (sym (d refl)) (subst (λ (x : ℕ). SamePair (f u x) p) (sym (e refl)) h)

-- a place is marked
pub marked_keeps : (p : Place) → SamePair p (marked p)
marked_keeps (Empty m) = record {
  later = λ n phase borrowed e. absurd (cc e);
  earlier = λ n phase borrowed e. absurd (cc e);
  copied = λ n borrowed e. absurd (cc e);
  taken = λ e. refl;
  settled = λ e. refl;
}
marked_keeps (Tombstone m) = record {
  later = λ n phase borrowed e. absurd (cc e);
  earlier = λ n phase borrowed e. absurd (cc e);
  copied = λ n borrowed e. absurd (cc e);
  taken = λ e. refl;
  settled = λ e. refl;
}
marked_keeps (Holds n Still borrowed) = record {
  later = λ o phase lent e. (Copying, cc);
  earlier = λ o phase lent e. (Still, cc, λ d. absurd (cc d));
  copied = λ o lent e. absurd (cc e);
  taken = λ e. refl;
  settled = λ e. absurd (cc e);
}
marked_keeps (Holds n Copying borrowed) = unchanged (Holds n Copying borrowed)
marked_keeps (Holds n Copied borrowed) = unchanged (Holds n Copied borrowed)

-- a pair that is being copied gets on, or back
pub copying_keeps : (n : ℕ) (phase : Phase) (borrowed : Bool) → SamePair (Holds n Copying borrowed) (Holds n phase borrowed)
copying_keeps n phase borrowed = record {
  later = λ o x lent e. (phase, cc);
  earlier = λ o x lent e. (Copying, cc, λ d. absurd (cc d));
  copied = λ o lent e. absurd (cc e);
  taken = λ e. refl;
  settled = λ e. absurd (cc e);
}

module _ {K : Type 0} (same : K → K → Bool) (spot : ℕ → K → ℕ → ℕ) where
  names_alike : (keys : ℕ → Option K) (k : K) (p q : Place) → SamePair p q → names same spot true keys k q ≡ names same spot true keys k p
  names_alike keys k (Holds n phase borrowed) q h = let w = h.later n phase borrowed refl in rw w.1 refl
  names_alike keys k (Empty m) (Holds n phase borrowed) h = let w = h.earlier n phase borrowed refl in absurd (cc w.1)
  names_alike keys k (Empty m) (Empty m2) h = refl
  names_alike keys k (Empty m) (Tombstone m2) h = refl
  names_alike keys k (Tombstone m) (Holds n phase borrowed) h = let w = h.earlier n phase borrowed refl in absurd (cc w.1)
  names_alike keys k (Tombstone m) (Empty m2) h = refl
  names_alike keys k (Tombstone m) (Tombstone m2) h = refl

  pub names_kept : (keys : ℕ → Option K) (k : K) (f g : ℕ → ℕ → Place) → SamePairs f g
      → (t i : ℕ) → names same spot true keys k (g t i) ≡ names same spot true keys k (f t i)
  names_kept keys k f g h t i = names_alike keys k (f t i) (g t i) (h t i)

  -- the chart with other places and shares
  abbrev pub with_places : Chart K → (ℕ → ℕ → Place) → (ℕ → ℕ → Share) → Chart K
  with_places c g s = record c { place = g; share = s }

  pub path_kept : (c : Chart K) (g : ℕ → ℕ → Place) (s : ℕ → ℕ → Share) → SamePairs c.place g
      → (t i : ℕ) (k : K) → OnPath same spot true c t i k → OnPath same spot true (with_places c g s) t i k
  path_kept c g s h t i k w = (w.0, w.1, w.2, λ j l. (h t (spot (c.len t) k j)).taken (w.3 j l))

  pub shut_kept : (c : Chart K) (g : ℕ → ℕ → Place) (s : ℕ → ℕ → Share) → SamePairs c.place g
      → (t : ℕ) (k : K) → Shut same spot true c t k → Shut same spot true (with_places c g s) t k
  shut_kept c g s h t k w = (all, some w.1)
    where
      all : (i n : ℕ) (phase : Phase) (borrowed : Bool) → g t i ≡ Holds n phase borrowed → is_of same spot true k (c.key n) ≡ true → phase ≡ Copied
      all i n phase borrowed e o = let v = (h t i).earlier n phase borrowed e in v.2 (w.0 i n v.0 borrowed v.1 o)

      some : WasCopied same spot true c t k ⊎ Full same spot true c t k
          → WasCopied same spot true (with_places c g s) t k ⊎ Full same spot true (with_places c g s) t k
      some (inl v) = inl (v.0, v.1, v.2, (h t v.0).copied v.1 v.2 v.3, v.4)
      some (inr v) = inr (λ j l. (h t (spot (c.len t) k j)).taken (v j l))
