-- Callers that have calls that may write are few: each has a place of its own.
use Rattle.std.specs.Prelude.{◌≡◌, ◌≢◌, ◌<◌, ◌≤◌, ◌^◌, ◌⊎◌, ℕ, suc, Bool, length, None, slice_index_or}
use Rattle.std.proofs.Common.{sym, ap, ◌∙◌, inl, inr, arith}
use Rattle.run_places.specs.Given.CallersClaims.{AreFew}
use Rattle.run_places.specs.Given.CallersTogether as callers
use Rattle.run_executor.specs.declared.executor.Executor.{Executor}
use Rattle.run_executor.proofs.Executing.Changed.{place_there, worker_is}
use Rattle.run_executor.proofs.Executing.Places.{same_caller}
use Rattle.run_executor.proofs.Executing.Taken.{same_worker}
use Rattle.run_executor.specs.Executing.IsThere.{IsThere, place_of}
use Rattle.run_places.specs.Given.ScenesScene.{Scene}
use Rattle.run_places.proofs.Given.CallersTogether.Distinct.{few_below}

module _ {K V S : Type 0} (same : K → K → Bool) (hash : K → ℕ) (e : Executor K V S) (s : Scene K V) (at : IsThere same hash e s) (m i : ℕ) where
  abbrev Such : ℕ → Type 0
  Such j = (j ≡ i) ⊎ callers.IsWriter (s.calls m) j

  -- the place of one that has a call is one that is used, and that of i comes next
  module _ (next : place_of i ≡ length e.workers.items) where
    within_places : (j : ℕ) → Such j → place_of j < suc (length e.workers.items)
    within_places j (inl is) = omega (arith, ap place_of is, next)
    within_places j (inr it) = omega (arith, place_there same hash e s at m j it.0 it.1)

    apart : (j k : ℕ) → Such j → Such k → j ≢ k → place_of j ≢ place_of k
    apart j k (inl a) (inl b) ne p = ne (a ∙ sym b)
    apart j k (inl a) (inr it) ne p = absurd (omega (arith, ap place_of a, next, p, place_there same hash e s at m k it.0 it.1))
    apart j k (inr it) (inl b) ne p = absurd (omega (arith, ap place_of b, next, p, place_there same hash e s at m j it.0 it.1))
    apart j k (inr it) (inr it2) ne p =
        ne (same_caller k j p (same_worker _ _ _ _ _ _ (sym (worker_is same hash e s at m j it.0 it.1) ∙ ap (λ (x : ℕ). slice_index_or e.workers.items x None) p ∙ worker_is same hash e s at m k it2.0 it2.1)).0)

    pub are_few : length e.workers.items < 2 ^ 32 → AreFew Such
    are_few few cs different all =
        let fits : length cs ≤ suc (length e.workers.items) = few_below place_of (suc (length e.workers.items)) cs
        (λ a b d l k. apart _ _ (all a d (omega (arith, l, k))) (all b d k) (different a b d l k)) (λ k d l. within_places _ (all k d l)) in
        omega (arith, fits, few)
