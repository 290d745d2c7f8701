-- The caller of a name, and its place.
use Rattle.std.specs.Prelude.{◌<◌, nat_lt, cond, position, slice_get, slice_index_or, Option, Some, None, if◌then◌else◌}
use Rattle.std.specs.List.{position_or_len}
use Rattle.std.proofs.lemmas.Bool.{ltb-true}
use Rattle.std.proofs.Common.{◌≡◌, ℕ, zero, suc, Bool, true, false, List, [], ◌∷◌, length, refl, arith}
use Rattle.run_executor.specs.Named.Roll.{at_place, called}
use Rattle.run_executor.specs.Named.Seen.{if_ready, is_named, is_ready, ready_place}
use Rattle.run_executor.specs.declared.caller.NamedCaller.{NamedCaller}

module _ {V : Type 0} where
  pub called_at : (own : List ℕ) (calls : List (NamedCaller V)) (d : NamedCaller V) → called own calls ≡ Some d
      → (place : ℕ) × (position (is_named own) calls ≡ Some place) × (slice_get calls place ≡ Some d)
  called_at own calls d is = by (position (is_named own) calls) refl is
    where
      by : (o : Option ℕ) → position (is_named own) calls ≡ o → at_place calls o ≡ Some d → (place : ℕ) × (position (is_named own) calls ≡ Some place) × (slice_get calls place ≡ Some d)
      by None e h = absurd (cc h)
      by (Some place) e h = (place, e, h)

  within : (calls : List (NamedCaller V)) (k : ℕ) → k < length calls → slice_get calls k ≡ None → ⊥
  within [] k less none = omega (arith, less)
  within (d ∷ calls) zero less none = cc none
  within (d ∷ calls) (suc k) less none = within calls k (omega (arith, less)) none

  -- where nobody is called so there is no place
  pub called_out : (own : List ℕ) (calls : List (NamedCaller V)) → called own calls ≡ None → position (is_named own) calls ≡ None
  called_out own calls none = by (nat_lt (position_or_len (is_named own) calls) (length calls)) refl none
    where
      by : (b : Bool) → nat_lt (position_or_len (is_named own) calls) (length calls) ≡ b → at_place calls (cond b (Some (position_or_len (is_named own) calls)) None) ≡ None
          → cond b (Some (position_or_len (is_named own) calls)) None ≡ None
      by true e h = absurd (within calls (position_or_len (is_named own) calls) (ltb-true (position_or_len (is_named own) calls) (length calls) e) h)
      by false e h = refl

  -- who stands at a place is read there
  pub reads_at : (calls : List (NamedCaller V)) (place : ℕ) (d : NamedCaller V) → slice_get calls place ≡ Some d → d ≡ slice_index_or calls place d
  reads_at [] place d is = absurd (cc is)
  reads_at (x ∷ calls) zero d is = cc is
  reads_at (x ∷ calls) (suc place) d is = reads_at calls place d is

  -- where a walk shows pairs there its caller stands
  pub ready_placed : (own : List ℕ) (calls : List (NamedCaller V)) (place : ℕ) → ready_place own calls ≡ Some place → position (is_named own) calls ≡ Some place
  ready_placed own calls place ready = by (position (is_named own) calls) ready
    where
      one : (k : ℕ) (b : Bool) → (if b then Some k else None) ≡ Some place → Some k ≡ Some place
      one k true e = e
      one k false e = absurd (cc e)

      by : (o : Option ℕ) → if_ready calls o ≡ Some place → o ≡ Some place
      by None e = absurd (cc e)
      by (Some k) e = one k (is_ready (slice_get calls k)) e
