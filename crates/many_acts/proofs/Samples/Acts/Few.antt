-- Lookups are no writers: in blocking mode every caller may have one under way. Of calls that may write one too many is refused.
use Rattle.std.specs.Prelude.{◌≡◌, ◌≢◌, ◌<◌, ◌≤◌, ◌+◌, ◌^◌, ◌⊎◌, ℕ, length, Option, Some}
use Rattle.std.specs.List.{AllPairs, range_with_len}
use Rattle.std.proofs.Common.{refl, subst, inl, inr, arith}
use Rattle.std.proofs.lemmas.Bool.{cases_lt}
use Rattle.std.proofs.lemmas.List.FromFn.{length-range_with_len, get_or-range_with_len}
use Rattle.run_shows.specs.Given.ResizeDeclared.lookup.Lookup.{Lookup}
use Rattle.run_shows.specs.Given.RawDeclared.machines.call.Calling.TheVariants as at
use Rattle.owner_facts.specs.Given.CallersClaims.{AreFew, IsNoLookup}
use Rattle.owner_facts.specs.Given.CallersTogether.{CallOnKey, UnderWay, OnKey, MayWrite, IsWriter, FewWith}

module _ {K V Q : Type 0} (u : CallOnKey K V Q) (lookup : Lookup) (looks : u.call.stands ≡ at.Looks lookup) where
  -- a lookup does not count
  is_none : MayWrite (OnKey u) → ⊥
  is_none writes = subst IsNoLookup looks writes

  -- every caller looks a key up, and one more begins to
  all_look_up : (i : ℕ) → FewWith (λ j. Some (OnKey u)) i (OnKey u)
  all_look_up i callers apart all = by (cases_lt 0 (length callers))
    where
      same_call : (v : UnderWay K V Q) → ◌≡◌ {A = Option (UnderWay K V Q)} (Some (OnKey u)) (Some v) → v ≡ OnKey u
      same_call v e = cc e

      none : (j : ℕ) → ((j ≡ i) × MayWrite (OnKey u)) ⊎ IsWriter (λ k. Some (OnKey u)) j → ⊥
      none j (inl its) = is_none its.1
      none j (inr (v, is, writes)) = is_none (subst (λ (x : UnderWay K V Q). MayWrite x) (same_call v is) writes)

      by : (0 < length callers) ⊎ (length callers ≤ 0) → length callers ≤ 2 ^ 32
      by (inl some) = absurd (none _ (all 0 0 some))
      by (inr l) = omega (arith, l)

-- every number is one of such callers
one_too_many : (Such : ℕ → Type 0) → ((j : ℕ) → Such j) → (n : ℕ) → 2 ^ 32 < n → AreFew Such → ⊥
one_too_many Such each n more few = let most = few (range_with_len 0 n) apart (λ k d l. each _) in omega (arith, most, more, length-range_with_len 0 n)
  where
    apart : AllPairs (λ i j. i ≢ j) (range_with_len 0 n)
    apart i j d l past e = omega (
      arith,
      l,
      past,
      length-range_with_len 0 n,
      get_or-range_with_len 0 n i d (omega (arith, l, past, length-range_with_len 0 n)),
      get_or-range_with_len 0 n j d (omega (arith, past, length-range_with_len 0 n)),
      e,
    )

-- every caller has a call under way that may write, and one more begins
all_write : {K V Q : Type 0} (u : UnderWay K V Q) → MayWrite u → (i : ℕ) → FewWith (λ j. Some u) i u → ⊥
all_write u writes i = one_too_many (λ j. ((j ≡ i) × MayWrite u) ⊎ IsWriter (λ k. Some u) j) (λ j. inr (u, refl, writes)) (2 ^ 32 + 1) (omega arith)
