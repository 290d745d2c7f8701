-- A call counts in the shard that the terms of a run tell for the slot of its guard.
use Rattle.std.specs.Prelude.{◌≡◌, ℕ, ◌+◌, ◌-◌, ◌%◌, ◌^◌, Bool, true, false, nat_le, bit_and, List, [], ◌∷◌, Option, Some, if◌then◌else◌}
use Rattle.std.proofs.Common.{arith, refl, ap, sym, subst, ◌∙◌}
use Rattle.std.proofs.lemmas.Nat.{and_mask}
use Rattle.run_places.specs.Given.TablesPowers.{floor_log2, next_power}
use Rattle.run_places.specs.Given.RunsPresent.{slot_of_guard}
use Rattle.run_places.specs.Given.RunsDeclared.call.Call.{Call}
use Rattle.run_places.specs.Given.RunsDeclared.call.Call.TheVariants as call
use Rattle.run_places.specs.Given.RunsDeclared.effect.Effect.{Effect}
use Rattle.run_places.specs.Given.RunsDeclared.effect.Effect.TheVariants as effect
use Rattle.run_places.specs.Given.SchedulesEffects.{call_by, due_for, with_effect, AtEachEffect}
use Rattle.run_places.specs.Given.SchedulesEntry.{ByCall, acting}
use Rattle.run_places.specs.Given.SchedulesLives.{CallFinds}
use Rattle.run_places.specs.Given.SchedulesMoment.{UnderWay as CallThere, Moment}
use Rattle.run_places.specs.Given.SchedulesTerms.{shards_of}
use Rattle.run_places.specs.Given.SchedulesViews.{call_of}
use Rattle.run_places.proofs.Changes.Changes.{acted_on}
use Rattle.run_debts.specs.Counts.{FindsCount, FindCounts, shard_for}
use Rattle.run_debts.specs.Shards.{is_counting, CountsFindShards}
use Rattle.run_places.specs.Given.ScenesScene.{slot_of}

-- so many shards are a power of two
bits_of : (n : ℕ) → (bits : ℕ) × (next_power n ≡ 2 ^ bits)
bits_of n = by (nat_le n 1)
  where
    by : (q : Bool) → (bits : ℕ) × ((if q then 1 else 2 ^ (floor_log2 (n - 1) + 1)) ≡ 2 ^ bits)
    by true = (0, refl)
    by false = (floor_log2 (n - 1) + 1, refl)

module _ {K V : Type 0} where
  due_guard : (its : Call K V) (c : CallThere K V) (old : Option ℕ) (new : ℕ) → (due_for its c old new).guard ≡ c.guard
  due_guard (call.On one) c old new = refl
  due_guard (call.Reserve n) c old new = refl
  due_guard call.Clear c old new = refl
  due_guard call.Retain c old new = refl
  due_guard call.Len c old new = refl
  due_guard call.Walk c old new = refl

  -- an effect leaves a call its guard
  guard_kept : (m : Moment K V) (f : Effect) (c : CallThere K V) → (call_by m f c).guard ≡ c.guard
  guard_kept m (effect.Asked growth) c = refl
  guard_kept m effect.PairMade c = refl
  guard_kept m effect.PairGivenUp c = refl
  guard_kept m (effect.TableMade t) c = refl
  guard_kept m (effect.TableGivenUp t) c = refl
  guard_kept m (effect.Linked t shape) c = refl
  guard_kept m (effect.Promoted t) c = refl
  guard_kept m (effect.Copied n s) c = refl
  guard_kept m (effect.Stored n s) c = due_guard c.call c c.replacing n
  guard_kept m (effect.Replaced n) c = refl
  guard_kept m (effect.Removed n) c = due_guard c.call c (Some n) _
  guard_kept m (effect.Counted s) c = refl
  guard_kept m (effect.Deferred n t) c = refl
  guard_kept m (effect.Retired x) c = refl
  guard_kept m (effect.Reclaimed x) c = refl
  guard_kept m (effect.Ended n) c = refl
  guard_kept m (effect.Taken t) c = refl

pub counts_find_shards : (K V : Type 0) → CountsFindShards K V
counts_find_shards K V terms i setting shards own map effects m c is seated finds moments = by effects m c is seated finds
  where
    bits : (b : ℕ) × (shards_of terms ≡ 2 ^ b)
    bits = bits_of terms.processors

    shard_is : shard_for i setting ≡ slot_of i % shards_of terms
    shard_is =
        let masks : setting.mask ≡ 2 ^ bits.0 - 1 = (let e = shards ∙ bits.1 in omega (arith, e)) in
        ap (λ (x : ℕ). bit_and (slot_of i) x) masks ∙ and_mask (slot_of i) bits.0 ∙ ap (λ (x : ℕ). slot_of i % x) (sym bits.1)

    one : (v : Moment K V) (f : Effect) (d : CallThere K V) → slot_of_guard d.guard v.there ≡ slot_of i → FindsCount (shard_for i setting) f d → is_counting f ≡ true → CallFinds terms moments v f d
    one v (effect.Counted s) d seat found counts = (found.0, found.1 ∙ shard_is ∙ ap (λ (x : ℕ). x % shards_of terms) (sym seat))
    one v _ d seat found counts = absurd (cc counts)

    by : (l : List Effect) (v : Moment K V) (d : CallThere K V) → call_of own v ≡ Some d → slot_of_guard d.guard v.there ≡ slot_of i → FindCounts (shard_for i setting) own map l v
        → AtEachEffect (λ v2 f. is_counting f ≡ true → ByCall (CallFinds terms moments v2 f) (acting (Some own) v2)) (Some own) (Some map) l v
    by [] v d d_is seat found = tt
    by (f ∷ fs) v d d_is seat found = (
      (λ counts. subst (ByCall (CallFinds terms moments v f)) (sym d_is) (one v f d seat (subst (ByCall (FindsCount (shard_for i setting) f)) d_is found.0) counts)),
      by fs (with_effect (Some own) (Some map) f v) (call_by v f d) (acted_on own map f v d d_is)
          (ap (λ (g : List ℕ). slot_of_guard g v.there) (guard_kept v f d) ∙ seat) found.1,
    )
