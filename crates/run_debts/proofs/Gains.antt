-- What effects find of what a call has to count, and what it has to count after them.
use Rattle.std.specs.Prelude.{◌≡◌, ◌<◌, ◌+◌, ℕ, Bool, true, false, List, [], ◌∷◌, flat_map, length, Option, Some, None, if◌then◌else◌}
use Rattle.std.proofs.Common.{refl, ap, sym, subst, ◌∙◌, arith}
use Rattle.run_places.specs.Given.RunsSame.{is_same}
use Rattle.run_places.specs.Given.RunsDeclared.call.Call.{Call}
use Rattle.run_places.specs.Given.RunsDeclared.call.Call.TheVariants as call
use Rattle.run_places.specs.Given.RunsDeclared.effect.Effect.{Effect}
use Rattle.run_places.specs.Given.RunsDeclared.effect.Effect.TheVariants as effect
use Rattle.run_places.specs.Given.RunsDeclared.effect.Spot.{Spot}
use Rattle.run_places.specs.Given.SchedulesEffects.{gain, due_for, call_by, with_effect, with_effects}
use Rattle.run_places.specs.Given.SchedulesEntry.{ByCall}
use Rattle.run_places.specs.Given.SchedulesLinearizable.{shift_of}
use Rattle.run_places.specs.Given.SchedulesMoment.{UnderWay as CallThere, Moment}
use Rattle.run_places.specs.Given.SchedulesViews.{call_of}
use Rattle.run_places.proofs.Given.FollowsCalls.{changed_same, found}
use Rattle.run_places.proofs.Changes.Changes.{acted_on}
use Rattle.run_places.proofs.Changes.Dues.{none_of}
use Rattle.run_debts.specs.Counts.{HasToCount, FindsCount, FindCounts}
use Rattle.run_debts.specs.Shards.{is_counting}

-- the effect adds something to be counted, or counts
abbrev pub of_count : Effect → Bool
of_count (effect.Stored n s) = true
of_count (effect.Removed n) = true
of_count (effect.Counted s) = true
of_count _ = false

abbrev pub AllApart : List Effect → Type 0
AllApart [] = Unit {0}
AllApart (f ∷ fs) = (of_count f ≡ false) × AllApart fs

-- none counts
abbrev pub NoneCounts : List Effect → Type 0
NoneCounts [] = Unit {0}
NoneCounts (f ∷ fs) = (is_counting f ≡ false) × NoneCounts fs

-- by which no pair comes or goes, and which do not count
one_apart : (f : Effect) → shift_of f ≡ [] → is_counting f ≡ false → of_count f ≡ false
one_apart (effect.Stored n s) none never = absurd (cc none)
one_apart (effect.Removed n) none never = absurd (cc none)
one_apart (effect.Counted s) none never = absurd (cc never)
one_apart _ none never = refl

pub all_apart : (effects : List Effect) → flat_map shift_of effects ≡ [] → NoneCounts effects → AllApart effects
all_apart [] none never = tt
all_apart (f ∷ fs) none never = let two = none_of (shift_of f) (flat_map shift_of fs) none in (one_apart f two.0 never.0, all_apart fs two.1 never.1)

-- What the effects of a step do to what its call has to count, if it was to count before as the first says, and is after it as the second: nothing; or it has one
-- pair more to count, if such a call may store one, or has replaced one, or it has counted.
pub data CountGoes (MayStore : Type 0) (shard : ℕ) (effects : List Effect) (before after : Bool) : Type 0 where
  KeepsCount : AllApart effects → after ≡ before → CountGoes MayStore shard effects before after
  AddsOne : MayStore → (n : ℕ) (s : Spot) → effects ≡ effect.Stored n s ∷ [] → after ≡ true → CountGoes MayStore shard effects before after
  GivesWay : MayStore → (p n : ℕ) (s : Spot) → effects ≡ effect.Replaced p ∷ effect.Stored n s ∷ [] → after ≡ before → CountGoes MayStore shard effects before after
  TakesOne : (n : ℕ) → effects ≡ effect.Removed n ∷ [] → after ≡ true → CountGoes MayStore shard effects before after
  CountsAll : effects ≡ effect.Counted shard ∷ [] → before ≡ true → after ≡ false → CountGoes MayStore shard effects before after

apart_no : (f : Effect) → of_count f ≡ false → is_counting f ≡ false
apart_no (effect.Counted s) apart = absurd (cc apart)
apart_no _ apart = refl

module _ {K V : Type 0} where
  pub due_same : (its : Call K V) (c : CallThere K V) (old : Option ℕ) (new : ℕ) → ((due_for its c old new).gained ≡ c.gained) × ((due_for its c old new).lost ≡ c.lost)
  due_same (call.On one) c old new = (refl, refl)
  due_same (call.Reserve n) c old new = (refl, refl)
  due_same call.Clear c old new = (refl, refl)
  due_same call.Retain c old new = (refl, refl)
  due_same call.Len c old new = (refl, refl)
  due_same call.Walk c old new = (refl, refl)

  -- so many pairs a call has to count
  abbrev pub to_count : CallThere K V → ℕ
  to_count c = c.gained + c.lost

  one_keeps : (m : Moment K V) (f : Effect) (c : CallThere K V) → of_count f ≡ false → to_count (call_by m f c) ≡ to_count c
  one_keeps m (effect.Asked growth) c apart = refl
  one_keeps m effect.PairMade c apart = refl
  one_keeps m effect.PairGivenUp c apart = refl
  one_keeps m (effect.TableMade t) c apart = refl
  one_keeps m (effect.TableGivenUp t) c apart = refl
  one_keeps m (effect.Linked t shape) c apart = refl
  one_keeps m (effect.Promoted t) c apart = refl
  one_keeps m (effect.Copied n s) c apart = refl
  one_keeps m (effect.Stored n s) c apart = absurd (cc apart)
  one_keeps m (effect.Replaced n) c apart = refl
  one_keeps m (effect.Removed n) c apart = absurd (cc apart)
  one_keeps m (effect.Counted s) c apart = absurd (cc apart)
  one_keeps m (effect.Deferred n t) c apart = refl
  one_keeps m (effect.Retired x) c apart = refl
  one_keeps m (effect.Reclaimed x) c apart = refl
  one_keeps m (effect.Ended n) c apart = refl
  one_keeps m (effect.Taken t) c apart = refl

  one_finds : (shard : ℕ) (f : Effect) (c : CallThere K V) → is_counting f ≡ false → FindsCount shard f c
  one_finds shard (effect.Counted s) c never = absurd (cc never)
  one_finds shard _ c never = tt

  -- of the call of this name
  module _ (shard : ℕ) (own : List ℕ) (map : ℕ) where
    -- what it finds, and has to count after these effects
    abbrev pub Left : List Effect → Moment K V → (ℕ → Type 0) → Type 0
    Left effects m Has = FindCounts shard own map effects m × (d : CallThere K V) × (call_of own (with_effects (Some own) (Some map) effects m) ≡ Some d) × Has (to_count d)

    found_by : (f : Effect) (m : Moment K V) (c : CallThere K V) → call_of own m ≡ Some c → FindsCount shard f c → ByCall (FindsCount shard f) (call_of own m)
    found_by f m c is finds = subst (ByCall (FindsCount shard f)) (sym is) finds

    apart_left : (effects : List Effect) (m : Moment K V) (c : CallThere K V) → call_of own m ≡ Some c → AllApart effects → Left effects m (λ n. n ≡ to_count c)
    apart_left [] m c is apart = (tt, c, is, refl)
    apart_left (f ∷ fs) m c is apart =
        let rest = apart_left fs (with_effect (Some own) (Some map) f m) (call_by m f c) (acted_on own map f m c is) apart.1 in
        ((found_by f m c is (one_finds shard f c (apart_no f apart.0)), rest.0), rest.1, rest.2, rest.3 ∙ one_keeps m f c apart.0)

    module _ (m : Moment K V) (c : CallThere K V) (is : call_of own m ≡ Some c) where
      stored_left : (n : ℕ) (s : Spot) → c.replacing ≡ None → Left (effect.Stored n s ∷ []) m (λ k. k ≡ to_count c + 1)
      stored_left n s none = (
        (found_by (effect.Stored n s) m c is tt, tt),
        call_by m (effect.Stored n s) c,
        acted_on own map (effect.Stored n s) m c is,
        (let lost = (due_same c.call c c.replacing n).1 in sum c.gained c.lost c.replacing (due_for c.call c c.replacing n).lost none lost),
      )
        where
          sum : (gained lost : ℕ) (o : Option ℕ) (lost2 : ℕ) → o ≡ None → lost2 ≡ lost → (gained + gain o) + lost2 ≡ (gained + lost) + 1
          sum gained lost None lost2 e f = omega (arith, f)
          sum gained lost (Some p) lost2 e f = absurd (cc e)

      over_left : (p n : ℕ) (s : Spot) → Left (effect.Replaced p ∷ effect.Stored n s ∷ []) m (λ k. k ≡ to_count c)
      over_left p n s =
          let v = with_effect (Some own) (Some map) (effect.Replaced p) m in
          let d = call_by m (effect.Replaced p) c in
          let d_is = acted_on own map (effect.Replaced p) m c is in
          let same = (due_same c.call d (Some p) n).1 in (
            (found_by (effect.Replaced p) m c is tt, (found_by (effect.Stored n s) v d d_is tt, tt)),
            call_by v (effect.Stored n s) d,
            acted_on own map (effect.Stored n s) v d d_is,
            omega (arith, same),
          )

      removed_left : (n : ℕ) → Left (effect.Removed n ∷ []) m (λ k. k ≡ to_count c + 1)
      removed_left n =
          let same = (due_same c.call c (Some n) (length m.stored + 1)).0 in (
            (found_by (effect.Removed n) m c is tt, tt),
            call_by m (effect.Removed n) c,
            acted_on own map (effect.Removed n) m c is,
            omega (arith, same),
          )

      counted_left : 0 < to_count c → Left (effect.Counted shard ∷ []) m (λ k. k ≡ 0)
      counted_left some = (
        (found_by (effect.Counted shard) m c is (some, refl), tt),
        call_by m (effect.Counted shard) c,
        acted_on own map (effect.Counted shard) m c is,
        refl,
      )

      has_as : (before after : Bool) (n k : ℕ) → after ≡ before → k ≡ n → HasToCount before n → HasToCount after k
      has_as before after n k e f has = subst (λ (q : Bool). HasToCount q k) (sym e) (subst (HasToCount before) (sym f) has)

      some_more : (after : Bool) (n k : ℕ) → after ≡ true → k ≡ n + 1 → HasToCount after k
      some_more after n k e f = subst (λ (q : Bool). HasToCount q k) (sym e) (let more : 0 < k = omega (arith, f) in more)

      none_left : (after : Bool) (k : ℕ) → after ≡ false → k ≡ 0 → HasToCount after k
      none_left after k e f = subst (λ (q : Bool). HasToCount q k) (sym e) f

      was_some : (before : Bool) → before ≡ true → HasToCount before (to_count c) → 0 < to_count c
      was_some before e has = subst (λ (q : Bool). HasToCount q (to_count c)) e has

      in_place : (effects as_said : List Effect) (Has Then : ℕ → Type 0) → effects ≡ as_said → ((n : ℕ) → Has n → Then n) → Left as_said m Has → Left effects m Then
      in_place effects as_said Has Then e on left = subst (λ (l : List Effect). Left l m Then) (sym e) (left.0, left.1, left.2, on (to_count left.1) left.3)

      -- so it has what it is to have
      pub counts_left : (MayStore : Type 0) (effects : List Effect) (before after : Bool) → (MayStore → c.replacing ≡ None) → HasToCount before (to_count c) → CountGoes MayStore shard effects before after
          → Left effects m (HasToCount after)
      counts_left MayStore effects before after none has (KeepsCount apart e) =
          in_place effects effects (λ k. k ≡ to_count c) (HasToCount after) refl (λ k f. has_as before after (to_count c) k e f has) (apart_left effects m c is apart)
      counts_left MayStore effects before after none has (AddsOne may n s effects_are e) =
          in_place effects (effect.Stored n s ∷ []) (λ k. k ≡ to_count c + 1) (HasToCount after) effects_are (λ k f. some_more after (to_count c) k e f) (stored_left n s (none may))
      counts_left MayStore effects before after none has (GivesWay may p n s effects_are e) =
          in_place effects (effect.Replaced p ∷ effect.Stored n s ∷ []) (λ k. k ≡ to_count c) (HasToCount after) effects_are (λ k f. has_as before after (to_count c) k e f has) (over_left p n s)
      counts_left MayStore effects before after none has (TakesOne n effects_are e) =
          in_place effects (effect.Removed n ∷ []) (λ k. k ≡ to_count c + 1) (HasToCount after) effects_are (λ k f. some_more after (to_count c) k e f) (removed_left n)
      counts_left MayStore effects before after none has (CountsAll effects_are e f) =
          in_place effects (effect.Counted shard ∷ []) (λ k. k ≡ 0) (HasToCount after) effects_are (λ k g. none_left after k f g) (counted_left (was_some before e has))

  -- a call of another name is as it was
  pub others_stay : (own : List ℕ) (map : ℕ) (name : List ℕ) (effects : List Effect) (m : Moment K V) (c : CallThere K V) → is_same c.caller own ≡ false → call_of name m ≡ Some c
      → call_of name (with_effects (Some own) (Some map) effects m) ≡ Some c
  others_stay own map name [] m c apart is = is
  others_stay own map name (f ∷ fs) m c apart is =
      others_stay own map name fs (with_effect (Some own) (Some map) f m) c apart
      (found (call_by m f) (changed_same m f) own name m.calls c is ∙ ap (λ (q : Bool). Some (if q then call_by m f c else c)) apart)

  -- and so are all, where the effects are of no call
  pub none_changed : (acted : Option ℕ) (effects : List Effect) (m : Moment K V) → (with_effects None acted effects m).calls ≡ m.calls
  none_changed acted [] m = refl
  none_changed acted (f ∷ fs) m = none_changed acted fs (with_effect None acted f m)
