-- The hash that a list gives each map that it makes: by it each act is one of its own, where makings are numbered in order.
use Rattle.std.specs.Prelude.{◌==◌, suc, if◌then◌else◌}
use Rattle.std.specs.List.{AllByRecursion}
use Rattle.std.proofs.Common.{◌≡◌, ℕ, ◌≤◌, Bool, List, [], ◌∷◌, refl, sym, ap, ◌∙◌, arith}
use Rattle.std.proofs.lemmas.Bool.{eq-eqb, ne_eqb}
use Rattle.threads_rule.specs.Given.ActsActs.{BeginsMaking, BeginsRow}
use Rattle.play_linear.specs.Given.ActsDoings.{Doing, Does}
use Rattle.play_linear.specs.Linear.Linear.{IsOfOwn}
use Rattle.threads_rule.specs.Views.Listed.{AreNumbered, IsItsOwn}

module _ {K V S : Type 0} (hash : S → K → ℕ) where
  abbrev pub hash_at : List (Doing K V S) → ℕ → K → ℕ
  hash_at [] m = λ key. 0
  hash_at (Does (BeginsMaking i n hasher given places) ∷ doings) m = if n == m then hash hasher else hash_at doings m
  hash_at (doing ∷ doings) m = hash_at doings m

module _ {K S : Type 0} (V : Type 0) (same : K → K → Bool) (hash : S → K → ℕ) (batch_size roots : ℕ) (hashes : ℕ → K → ℕ) where
  -- where the numbers from one on have these hashes
  pub own_from : (doings : List (Doing K V S)) (k end : ℕ) → AreNumbered k doings end → ((m : ℕ) → k ≤ m → hashes m ≡ hash_at hash doings m) → AllByRecursion (IsItsOwn hash) doings
      → AllByRecursion (IsOfOwn V same hash hashes batch_size roots) doings
  own_from [] k end are agree own = tt
  own_from (Does (BeginsMaking i n hasher given places) ∷ doings) k end are agree own = (
    sym (agree n (let is = are.0 in omega (arith, is)) ∙ ap (λ (q : Bool). if q then hash hasher else hash_at hash doings n) (eq-eqb n n refl)),
    own_from doings (suc k) end are.1
        (λ m above.
        agree m (omega (arith, above))
        ∙ ap (λ (q : Bool). if q then hash hasher else hash_at hash doings m) (ne_eqb n m (λ e. let is = are.0 in absurd (omega (arith, e, is, above))))) own.1,
  )
  own_from (Does (BeginsRow i request) ∷ doings) k end are agree own = (own.0.1, own_from doings k end are agree own.1)
  own_from (_ ∷ doings) k end are agree own = (tt, own_from doings k end are agree own.1)
