-- The claims of tables stay far from the end of a word, from one step to the next, where few callers have calls under way.
use Rattle.std.specs.Prelude.{List, [], ◌∷◌, length, slice_index_or}
use Rattle.std.specs.List.{All, AllPairs}
use Rattle.std.proofs.Common.{◌≡◌, ◌≢◌, ℕ, suc, ◌+◌, ◌*◌, ◌<◌, ◌≤◌, ◌^◌, ◌⊎◌, inl, inr, sym, subst, arith}
use Rattle.std.proofs.lemmas.Bool.{cases_eq, cases_lt}
use Rattle.std.proofs.lemmas.List.Elements.{All-cons}
use Rattle.std.proofs.lemmas.List.Kept.{AllPairs-cons}
use Rattle.map_facts_late.specs.Given.RuleChart.{Chart}
use Rattle.map_facts_late.specs.Given.RuleRule.{no_table}
use Rattle.many_calls.specs.Claims.{ClaimsFit}

-- a number stands in a list, or each number there is another one
module _ (i : ℕ) where
  abbrev StandsAt : List ℕ → ℕ → Type 0
  StandsAt callers k = (k < length callers) × (slice_index_or callers k 0 ≡ i)

  found : (callers : List ℕ) → ((k : ℕ) × StandsAt callers k) ⊎ All (λ j. i ≢ j) callers
  found [] = inr (λ k d l. absurd (omega (arith, l)))
  found (j ∷ callers) = by (cases_eq i j) (found callers)
    where
      by : (i ≡ j) ⊎ (i ≢ j) → ((k : ℕ) × StandsAt callers k) ⊎ All (λ o. i ≢ o) callers → ((k : ℕ) × StandsAt (j ∷ callers) k) ⊎ All (λ o. i ≢ o) (j ∷ callers)
      by (inl e) rest = inl (0, (omega arith, sym e))
      by (inr ne) (inl (k, (l, e))) = inl (suc k, (omega (arith, l), e))
      by (inr ne) (inr all) = inr (All-cons (λ o. i ≢ o) j callers ne all)

-- with a chunk more for each of so many callers, the claim is within the bound
abbrev Fits : ℕ → ℕ → Type 0
Fits claim n = claim + 4096 * n ≤ 2 ^ 48 + 4096 * 2 ^ 32

few_fit : (claim n : ℕ) → claim ≤ 2 ^ 48 → n ≤ 2 ^ 32 → Fits claim n
few_fit claim n a b = omega (arith, a, b)

grown_fits : (claim claim2 n : ℕ) → claim2 ≤ claim + 4096 → Fits claim (suc n) → Fits claim2 n
grown_fits claim claim2 n a b = omega (arith, a, b)

none_fits : (claim : ℕ) → Fits claim 0 → claim < 2 ^ 63
none_fits claim a = omega (arith, a)

module _ {K : Type 0} (c c2 : Chart K) (IsTo IsTo2 : ℕ → ℕ → Type 0) (i : ℕ) where
  pub fits_on : c.past ≤ c2.past
      → ((t : ℕ) → c.past ≤ t → t < c2.past → c2.claim t ≡ 0)
      → ((t j : ℕ) → IsTo2 t j → j ≢ i → IsTo t j)
      → ((t : ℕ) (callers : List ℕ) → AllPairs (λ a b. a ≢ b) callers → All (IsTo2 t) callers → length callers ≤ 2 ^ 32)
      → ((t : ℕ) → t < c.past → (c2.claim t ≡ c.claim t) ⊎ (IsTo t i × (IsTo2 t i → ⊥) × (c2.claim t ≤ c.claim t + 4096)))
      → ((t : ℕ) → IsTo2 t i → c2.claim t < 2 ^ 48)
      → ClaimsFit c IsTo → ClaimsFit c2 IsTo2
  fits_on past new had few grows sees fits t made callers apart all = by_turn (cases_lt t c.past)
    where
      is_few : length callers ≤ 2 ^ 32
      is_few = few t callers apart all

      -- the step was that of a caller that was to claim there, or of another one
      others : t < c.past → All (λ j. i ≢ j) callers → (c2.claim t ≡ c.claim t) ⊎ (IsTo t i × (IsTo2 t i → ⊥) × (c2.claim t ≤ c.claim t + 4096)) → Fits (c2.claim t) (length callers)
      others before beside grew = by grew
        where
          were : All (IsTo t) callers
          were k d l = had t (slice_index_or callers k d) (all k d l) (λ e. beside k d l (sym e))

          by : (c2.claim t ≡ c.claim t) ⊎ (IsTo t i × (IsTo2 t i → ⊥) × (c2.claim t ≤ c.claim t + 4096)) → Fits (c2.claim t) (length callers)
          by (inl e) = subst (λ (claim : ℕ). Fits claim (length callers)) (sym e) (fits t before callers apart were)
          by (inr (mine, done, most)) =
              grown_fits (c.claim t) (c2.claim t) (length callers) most
              (fits t before (i ∷ callers) (AllPairs-cons (λ a b. a ≢ b) i callers beside apart) (All-cons (IsTo t) i callers mine were))

      by_caller : t < c.past → ((k : ℕ) × StandsAt i callers k) ⊎ All (λ j. i ≢ j) callers → Fits (c2.claim t) (length callers)
      by_caller before (inl (k, (l, e))) = few_fit (c2.claim t) (length callers) (let seen = sees t (subst (IsTo2 t) e (all k 0 l)) in omega (arith, seen)) is_few
      by_caller before (inr beside) = others before beside (grows t before)

      by_turn : (t < c.past) ⊎ (c.past ≤ t) → Fits (c2.claim t) (length callers)
      by_turn (inl before) = by_caller before (found i callers)
      by_turn (inr late) = few_fit (c2.claim t) (length callers) (let zero_there = new t late made in omega (arith, zero_there)) is_few

module _ (K : Type 0) (IsTo : ℕ → ℕ → Type 0) where
  pub fits_few : (c : Chart K) → ClaimsFit c IsTo → (t : ℕ) → t < c.past → c.claim t < 2 ^ 63
  fits_few c fits t made = none_fits (c.claim t) (fits t made [] (λ a b d l m. absurd (omega (arith, m))) (λ k d l. absurd (omega (arith, l))))

  -- a map without tables
  pub fits_none : ClaimsFit (no_table {K = K}) IsTo
  fits_none t made callers apart all = absurd (omega (arith, made))
