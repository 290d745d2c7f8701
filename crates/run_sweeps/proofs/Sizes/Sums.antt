-- Sums over words, over places, and over calls, where one of them changes.
use Rattle.std.specs.Prelude.{◌≡◌, ◌≢◌, ℕ, zero, suc, ◌+◌, ◌<◌, ◌≤◌, Bool, true, false, cond, not, ◌⊎◌, List, [], ◌∷◌, find, map, sum_by, Some, if◌then◌else◌}
use Rattle.std.specs.List.{AllByRecursion, list_any}
use Rattle.std.proofs.Common.{refl, ap, sym, subst, ◌∙◌, arith, inl, inr}
use Rattle.std.proofs.lemmas.Bool.{cases_eq, or_parts}
use Rattle.std.proofs.lemmas.List.Sums.{sum_by-cons}
use Rattle.run_finds.specs.Given.RunsSame.{is_same}
use Rattle.run_finds.specs.Given.SchedulesAfter.{without_call}
use Rattle.run_finds.specs.Given.SchedulesLists.{put}
use Rattle.run_finds.specs.Given.SchedulesMoment.{Place, UnderWay}
use Rattle.run_finds.specs.Given.SchedulesViews.{places_below}
use Rattle.run_finds.proofs.Given.FollowsAlike.{put_here, put_elsewhere}
use Rattle.run_finds.proofs.Given.FollowsCalling.{is_same_is}
use Rattle.run_finds.specs.Waiting.{once_if, AreApart}
use Rattle.run_sweeps.specs.Sizes.Sizes.{sum_below}

-- words

pub below_same : (n : ℕ) (f g : ℕ → ℕ) → ((s : ℕ) → s < n → f s ≡ g s) → sum_below n f ≡ sum_below n g
below_same zero f g same = refl
below_same (suc n) f g same = let rest = below_same n f g (λ s l. same s (omega (arith, l))) in let last = same n (omega arith) in omega (arith, rest, last)

pub below_put : (n s word : ℕ) (words : ℕ → ℕ) → s < n → sum_below n (put s word words) + words s ≡ sum_below n words + word
below_put zero s word words l = absurd (omega (arith, l))
below_put (suc n) s word words l = by (cases_eq n s) (below_put n s word words)
  where
    by : (n ≡ s) ⊎ (n ≢ s) → (s < n → sum_below n (put s word words) + words s ≡ sum_below n words + word) → sum_below (suc n) (put s word words) + words s ≡ sum_below (suc n) words + word
    by (inl e) rest =
        let others = below_same n (put s word words) words (λ k less. put_elsewhere s word words k (λ is. omega (arith, less, is, e))) in
        let here = put_here s word words n e in
        let was = ap words e in
        omega (arith, others, here, was)
    by (inr ne) rest = let others = rest (omega (arith, l, ne)) in let here = put_elsewhere s word words n ne in omega (arith, others, here)

-- places

module _ (test : Place → Bool) where
  pub places_same : (f g : ℕ → Place) (n : ℕ) → ((k : ℕ) → 1 ≤ k → k ≤ n → test (f k) ≡ test (g k)) → places_below test f n ≡ places_below test g n
  places_same f g zero same = refl
  places_same f g (suc n) same =
      let rest = places_same f g n (λ k l u. same k l (omega (arith, u))) in
      let last : once_if (test (f (suc n))) ≡ once_if (test (g (suc n))) = ap once_if (same (suc n) (omega arith) (omega arith)) in
      omega (arith, rest, last)

  -- a pair is put elsewhere
  pub places_put : (n : ℕ) (to : Place) (place : ℕ → Place) (many : ℕ) → 1 ≤ n → n ≤ many → places_below test (put n to place) many + once_if (test (place n)) ≡ places_below test place many + once_if (test to)
  places_put n to place zero l u = absurd (omega (arith, l, u))
  places_put n to place (suc many) l u = by (cases_eq (suc many) n) (places_put n to place many l)
    where
      by : (suc many ≡ n) ⊎ (suc many ≢ n) → (n ≤ many → places_below test (put n to place) many + once_if (test (place n)) ≡ places_below test place many + once_if (test to))
          → places_below test (put n to place) (suc many) + once_if (test (place n)) ≡ places_below test place (suc many) + once_if (test to)
      by (inl e) rest =
          let others = places_same (put n to place) place many (λ k low less. ap test (put_elsewhere n to place k (λ is. omega (arith, less, is, e)))) in
          let here : once_if (test (put n to place (suc many))) ≡ once_if (test to) = ap (λ (p : Place). once_if (test p)) (put_here n to place (suc many) e) in
          let was : once_if (test (place (suc many))) ≡ once_if (test (place n)) = ap (λ (j : ℕ). once_if (test (place j))) e in
          omega (arith, others, here, was)
      by (inr ne) rest =
          let others = rest (omega (arith, u, ne)) in
          let here : once_if (test (put n to place (suc many))) ≡ once_if (test (place (suc many))) = ap (λ (p : Place). once_if (test p)) (put_elsewhere n to place (suc many) ne) in
          omega (arith, others, here)

-- calls

module _ {K V : Type 0} where
  pub sums_same : (f g : UnderWay K V → ℕ) (calls : List (UnderWay K V)) → AllByRecursion (λ c. f c ≡ g c) calls → sum_by f calls ≡ sum_by g calls
  sums_same f g [] all = refl
  sums_same f g (c ∷ calls) all =
      let rest = sums_same f g calls all.1 in let here = all.0 in let a = sum_by-cons f c calls in let b = sum_by-cons g c calls in omega (arith, rest, here, a, b)

  module _ (weight : UnderWay K V → ℕ) (own : List ℕ) where
    module _ (change : UnderWay K V → UnderWay K V) where
      abbrev now : UnderWay K V → UnderWay K V
      now c = if is_same c.caller own then change c else c

      -- calls of others weigh what they did,
      others_weigh : (calls : List (UnderWay K V)) → list_any (λ d. is_same d.caller own) calls ≡ false → sum_by weight (map now calls) ≡ sum_by weight calls
      others_weigh [] none = refl
      others_weigh (c ∷ calls) none =
          let two = or_parts (is_same c.caller own) (list_any (λ d. is_same d.caller own) calls) none in
          let here : weight (now c) ≡ weight c = ap (λ (q : Bool). weight (if q then change c else c)) two.0 in
          let rest = others_weigh calls two.1 in
          let a = sum_by-cons weight (now c) (map now calls) in
          let b = sum_by-cons weight c calls in
          omega (arith, here, rest, a, b)

      -- and so do all where a change leaves that
      pub all_weigh : ((c : UnderWay K V) → weight (change c) ≡ weight c) → (calls : List (UnderWay K V)) → sum_by weight (map now calls) ≡ sum_by weight calls
      all_weigh keeps [] = refl
      all_weigh keeps (c ∷ calls) =
          let here : weight (now c) ≡ weight c = by (is_same c.caller own) in
          let rest = all_weigh keeps calls in
          let a = sum_by-cons weight (now c) (map now calls) in
          let b = sum_by-cons weight c calls in
          omega (arith, here, rest, a, b)
        where
          by : (q : Bool) → weight (if q then change c else c) ≡ weight c
          by true = keeps c
          by false = refl

      -- the call of this caller weighs what its change does
      pub its_weight : (calls : List (UnderWay K V)) → AreApart calls → (c : UnderWay K V) → find (λ d. is_same d.caller own) calls ≡ Some c
          → sum_by weight (map now calls) + weight c ≡ sum_by weight calls + weight (change c)
      its_weight [] apart c is = absurd (cc is)
      its_weight (d ∷ calls) apart c is = by (is_same d.caller own) refl is (its_weight calls apart.1 c)
        where
          a : sum_by weight (map now (d ∷ calls)) ≡ weight (now d) + sum_by weight (map now calls)
          a = sum_by-cons weight (now d) (map now calls)

          b : sum_by weight (d ∷ calls) ≡ weight d + sum_by weight calls
          b = sum_by-cons weight d calls

          by : (q : Bool) → is_same d.caller own ≡ q → cond q (Some d) (find (λ x. is_same x.caller own) calls) ≡ Some c
              → (find (λ x. is_same x.caller own) calls ≡ Some c → sum_by weight (map now calls) + weight c ≡ sum_by weight calls + weight (change c))
              → sum_by weight (map now (d ∷ calls)) + weight c ≡ sum_by weight (d ∷ calls) + weight (change c)
          by true e found rest =
              let it : d ≡ c = cc found in
              let others = others_weigh calls (subst (λ (l : List ℕ). list_any (λ x. is_same x.caller l) calls ≡ false) (is_same_is d.caller own e) apart.0) in
              let here : weight (now d) ≡ weight (change c) = ap (λ (q : Bool). weight (if q then change d else d)) e ∙ ap (λ (x : UnderWay K V). weight (change x)) it in
              let was : weight d ≡ weight c = ap weight it in
              omega (arith, others, here, was, a, b)
          by false e found rest =
              let here : weight (now d) ≡ weight d = ap (λ (q : Bool). weight (if q then change d else d)) e in
              let more = rest found in
              omega (arith, here, more, a, b)

    -- a call that weighs nothing may go
    pub gone_weigh : (calls : List (UnderWay K V)) → AllByRecursion (λ c. is_same c.caller own ≡ true → weight c ≡ 0) calls → sum_by weight (without_call own calls) ≡ sum_by weight calls
    gone_weigh [] none = refl
    gone_weigh (c ∷ calls) none = by (is_same c.caller own) refl (gone_weigh calls none.1)
      where
        Goal : Bool → Type 0
        Goal q = sum_by weight (cond (not q) (c ∷ without_call own calls) (without_call own calls)) ≡ sum_by weight (c ∷ calls)

        b : sum_by weight (c ∷ calls) ≡ weight c + sum_by weight calls
        b = sum_by-cons weight c calls

        by : (q : Bool) → is_same c.caller own ≡ q → sum_by weight (without_call own calls) ≡ sum_by weight calls → Goal (is_same c.caller own)
        by true is rest = subst Goal (sym is) (let it = none.0 is in omega (arith, it, rest, b))
        by false is rest = subst Goal (sym is) (let a = sum_by-cons weight c (without_call own calls) in omega (arith, rest, a, b))
