-- An effect leaves what is said of how many pairs a map has, and how many are there, alike: a call that stores a pair, or takes one out, has that to count, until it has counted it.
use Rattle.std.specs.Prelude.{◌≡◌, ◌≢◌, ℕ, ◌+◌, ◌*◌, ◌-◌, ◌^◌, ◌<◌, ◌==◌, nat_le, Bool, true, false, ◌⊎◌, is_some, List, map, sum_by, Option, Some, None, if◌then◌else◌}
use Rattle.std.proofs.Common.{refl, ap, sym, subst, ◌∙◌, arith, inl, inr}
use Rattle.std.proofs.lemmas.Bool.{cases_eq, eq-eqb, ne_eqb}
use Rattle.std.proofs.Math.Nat.{mod-lt}
use Rattle.std.proofs.lemmas.Nat.{pow_pos}
use Rattle.run_finds.specs.Given.TablesPowers.{floor_log2, next_power}
use Rattle.run_finds.specs.Given.RunsDeclared.call.Call.{Call}
use Rattle.run_finds.specs.Given.RunsDeclared.call.Call.TheVariants as call
use Rattle.run_finds.specs.Given.RunsDeclared.effect.Effect.{Effect}
use Rattle.run_finds.specs.Given.RunsDeclared.effect.Effect.TheVariants as effect
use Rattle.run_finds.specs.Given.RunsDeclared.effect.Spot.{Spot}
use Rattle.run_finds.specs.Given.RunsDeclared.effect.Thing.TheVariants.{APair, ATable}
use Rattle.run_finds.specs.Given.SchedulesEffects.{call_by, due_for, gain, shards_by, with_effect, word_with}
use Rattle.run_finds.specs.Given.SchedulesEntry.{ByCall}
use Rattle.run_finds.specs.Given.SchedulesGrowing.{only_looks}
use Rattle.run_finds.specs.Given.SchedulesLists.{put}
use Rattle.run_finds.specs.Given.SchedulesLives.{CallFinds, EventFinds, Finds}
use Rattle.run_finds.specs.Given.SchedulesMoment.{Place, UnderWay, Moment}
use Rattle.run_finds.specs.Given.SchedulesTerms.{Terms, shards_of}
use Rattle.run_finds.specs.Given.SchedulesViews.{call_of, is_in_map, size_of}
use Rattle.run_finds.proofs.Given.FollowsAlike.{put_here, put_elsewhere}
use Rattle.run_finds.specs.Life.{StoresOne}
use Rattle.run_finds.specs.Waiting.{FindsPlaced, once_if}
use Rattle.run_finds.specs.Within.{AllIsInOrder, ActsOn}
use Rattle.run_finds.proofs.Life.{life_finds_placed}
use Rattle.run_sweeps.specs.Sizes.Sizes.{sum_below}
use Rattle.run_sweeps.proofs.Sizes.Sums.{below_put, its_weight}
use Rattle.run_sweeps.proofs.Sizes.Balance.{IsWorth, Moves, ReplacesFirst, minus_is, minus_of, moves_none, plus_is, plus_of, word_even}
use Rattle.run_sweeps.proofs.Sizes.Places.{EndsNoneOf, TakesFromOne, brings, size_goes, takes}

-- there is a shard
pub shards_some : (n : ℕ) → 0 < next_power n
shards_some n = by (nat_le n 1)
  where
    by : (q : Bool) → 0 < (if q then 1 else 2 ^ (floor_log2 (n - 1) + 1))
    by true = omega arith
    by false = pow_pos (floor_log2 (n - 1) + 1)

-- only what is counted changes shards
abbrev counts : Effect → Bool
counts (effect.Counted s) = true
counts _ = false

-- the effect leaves a call's account
abbrev keeps : Effect → Bool
keeps (effect.Stored n s) = false
keeps (effect.Replaced p) = false
keeps (effect.Removed p) = false
keeps (effect.Counted s) = false
keeps _ = true

gain_even : (o : Option ℕ) → gain o + once_if (is_some o) ≡ 1
gain_even None = refl
gain_even (Some p) = refl

module _ {K V : Type 0} where
  -- what a call has to count, and to replace, after an effect

  abbrev pub gained_by : Effect → UnderWay K V → ℕ
  gained_by (effect.Stored n s) c = c.gained + gain c.replacing
  gained_by (effect.Counted s) c = 0
  gained_by _ c = c.gained

  abbrev pub lost_by : Effect → UnderWay K V → ℕ
  lost_by (effect.Removed p) c = c.lost + 1
  lost_by (effect.Counted s) c = 0
  lost_by _ c = c.lost

  abbrev pub replacing_by : Effect → UnderWay K V → Option ℕ
  replacing_by (effect.Stored n s) c = None
  replacing_by (effect.Replaced p) c = Some p
  replacing_by _ c = c.replacing

  due_worth : (its : Call K V) (c : UnderWay K V) (old : Option ℕ) (new : ℕ) → IsWorth (due_for its c old new) c.map c.gained c.lost c.replacing
  due_worth (call.On one) c old new = record { map = refl; gained = refl; lost = refl; replacing = refl }
  due_worth (call.Reserve more) c old new = record { map = refl; gained = refl; lost = refl; replacing = refl }
  due_worth call.Clear c old new = record { map = refl; gained = refl; lost = refl; replacing = refl }
  due_worth call.Retain c old new = record { map = refl; gained = refl; lost = refl; replacing = refl }
  due_worth call.Len c old new = record { map = refl; gained = refl; lost = refl; replacing = refl }
  due_worth call.Walk c old new = record { map = refl; gained = refl; lost = refl; replacing = refl }

  pub worth : (m : Moment K V) (f : Effect) (c : UnderWay K V) → IsWorth (call_by m f c) c.map (gained_by f c) (lost_by f c) (replacing_by f c)
  worth m (effect.Stored n s) c = let due = due_worth c.call c c.replacing n in record { map = due.map; gained = refl; lost = due.lost; replacing = refl }
  worth m (effect.Removed p) c = let due = due_worth c.call c (Some p) _ in record { map = due.map; gained = due.gained; lost = refl; replacing = due.replacing }
  worth m (effect.Asked growth) c = record { map = refl; gained = refl; lost = refl; replacing = refl }
  worth m effect.PairMade c = record { map = refl; gained = refl; lost = refl; replacing = refl }
  worth m effect.PairGivenUp c = record { map = refl; gained = refl; lost = refl; replacing = refl }
  worth m (effect.TableMade t) c = record { map = refl; gained = refl; lost = refl; replacing = refl }
  worth m (effect.TableGivenUp t) c = record { map = refl; gained = refl; lost = refl; replacing = refl }
  worth m (effect.Linked t shape) c = record { map = refl; gained = refl; lost = refl; replacing = refl }
  worth m (effect.Promoted t) c = record { map = refl; gained = refl; lost = refl; replacing = refl }
  worth m (effect.Copied n s) c = record { map = refl; gained = refl; lost = refl; replacing = refl }
  worth m (effect.Replaced p) c = record { map = refl; gained = refl; lost = refl; replacing = refl }
  worth m (effect.Counted s) c = record { map = refl; gained = refl; lost = refl; replacing = refl }
  worth m (effect.Deferred n t) c = record { map = refl; gained = refl; lost = refl; replacing = refl }
  worth m (effect.Retired x) c = record { map = refl; gained = refl; lost = refl; replacing = refl }
  worth m (effect.Reclaimed x) c = record { map = refl; gained = refl; lost = refl; replacing = refl }
  worth m (effect.Ended n) c = record { map = refl; gained = refl; lost = refl; replacing = refl }
  worth m (effect.Taken t) c = record { map = refl; gained = refl; lost = refl; replacing = refl }

  shards_same : (o : Option (UnderWay K V)) (f : Effect) (shards : ℕ → ℕ → ℕ) → counts f ≡ false → shards_by o f shards ≡ shards
  shards_same None f shards e = refl
  shards_same (Some c) (effect.Counted s) shards e = absurd (cc e)
  shards_same (Some c) _ shards e = refl

  -- What an effect does to a call's account: of a pair that is replaced there is none before, and one that is stored takes its place; but for multiples of 2 ^ 64, where it is counted.
  -- q says whether the call is on the map.
  abbrev Even : Bool → Effect → UnderWay K V → (was now brought taken : ℕ) → Type 0
  Even q f c was now brought taken =
      (a : ℕ) × (b : ℕ)
      × (now + (if q then gained_by f c else 0) + (if q then c.lost + once_if (is_some c.replacing) else 0) + taken + 2 ^ 64 * a
      ≡ was + (if q then c.gained else 0) + (if q then lost_by f c + once_if (is_some (replacing_by f c)) else 0) + brought + 2 ^ 64 * b)

  stored_even : (q : Bool) (n : ℕ) (s : Spot) (c : UnderWay K V) → Even q (effect.Stored n s) c 0 0 (once_if q) 0
  stored_even true n s c = (0, 0, (let one = gain_even c.replacing in omega (arith, one)))
  stored_even false n s c = (0, 0, omega arith)

  replaced_even : (q : Bool) (p : ℕ) (c : UnderWay K V) → c.replacing ≡ None → Even q (effect.Replaced p) c 0 0 0 (once_if q)
  replaced_even true p c first = (0, 0, (let none : once_if (is_some c.replacing) ≡ 0 = ap (λ (o : Option ℕ). once_if (is_some o)) first in omega (arith, none)))
  replaced_even false p c first = (0, 0, omega arith)

  removed_even : (q : Bool) (p : ℕ) (c : UnderWay K V) → Even q (effect.Removed p) c 0 0 0 (once_if q)
  removed_even true p c = (0, 0, omega arith)
  removed_even false p c = (0, 0, omega arith)

  counted_even : (s word : ℕ) (c : UnderWay K V) → Even true (effect.Counted s) c word (word_with c word) 0 0
  counted_even s word c = let it = word_even word c.gained c.lost in (it.0, it.1, (let e = it.2 in omega (arith, e)))

  kept_even : (q : Bool) (f : Effect) (c : UnderWay K V) → keeps f ≡ true → Even q f c 0 0 0 0
  kept_even q (effect.Stored n s) c e = absurd (cc e)
  kept_even q (effect.Replaced p) c e = absurd (cc e)
  kept_even q (effect.Removed p) c e = absurd (cc e)
  kept_even q (effect.Counted s) c e = absurd (cc e)
  kept_even q _ c e = (0, 0, omega arith)

-- what one effect does
module _ {K V : Type 0} (terms : Terms) (k : ℕ) (m : Moment K V) where
  abbrev shards : ℕ
  shards = shards_of terms

  module _ (moments : List (Moment K V)) (h : AllIsInOrder m) (own : List ℕ) (c : UnderWay K V) (c_is : call_of own m ≡ Some c) where
    abbrev acted : Option ℕ
    acted = Some c.map

    abbrev q : Bool
    q = k == c.map

    abbrev then_at : Effect → Moment K V
    then_at f = with_effect (Some own) acted f m

    -- all sums go as the call's own part does
    goes : (f : Effect) (was now brought taken : ℕ) → sum_below shards ((then_at f).shards k) + was ≡ sum_below shards (m.shards k) + now → size_of k (then_at f) + taken ≡ size_of k m + brought
        → Even q f c was now brought taken → Moves shards k m (then_at f)
    goes f was now brought taken words sizes (a, b, even) =
        let d = call_by m f c in
        let its = worth m f c in
        let plus = its_weight (plus_of k) own (call_by m f) m.calls h.waits.placed.apart c c_is in
        let minus = its_weight (minus_of k) own (call_by m f) m.calls h.waits.placed.apart c c_is in
        let plus_then = plus_is k d c.map (gained_by f c) (lost_by f c) (replacing_by f c) its in
        let minus_then = minus_is k d c.map (gained_by f c) (lost_by f c) (replacing_by f c) its in (
          a,
          b,
          joined (sum_below shards (m.shards k)) (sum_below shards ((then_at f).shards k)) (sum_by (plus_of k) m.calls) (sum_by (plus_of k) (then_at f).calls) (size_of k m) (size_of k (then_at f))
              (sum_by (minus_of k) m.calls) (sum_by (minus_of k) (then_at f).calls) was now (plus_of k c) (plus_of k d) (minus_of k c) (minus_of k d) brought taken (2 ^ 64 * a) (2 ^ 64 * b) words plus sizes minus (
              omega (arith, even, plus_then, minus_then)
              ),
        )
      where
        joined : (s0 s1 g0 g1 z0 z1 l0 l1 x y pc pd mc md o t a b : ℕ) → s1 + x ≡ s0 + y → g1 + pc ≡ g0 + pd → z1 + t ≡ z0 + o → l1 + mc ≡ l0 + md → y + pd + mc + t + a ≡ x + pc + md + o + b
            → (s1 + g1) + (z0 + l0) + a ≡ (s0 + g0) + (z1 + l1) + b
        joined s0 s1 g0 g1 z0 z1 l0 l1 x y pc pd mc md o t a b e1 e2 e3 e4 e5 = omega (arith, e1, e2, e3, e4, e5)

    -- an effect that counts nothing leaves the shards,
    words_same : (f : Effect) → counts f ≡ false → sum_below shards ((then_at f).shards k) + 0 ≡ sum_below shards (m.shards k) + 0
    words_same f e = ap (λ (g : ℕ → ℕ → ℕ). sum_below shards (g k) + 0) (shards_same (call_of own m) f m.shards e)

    -- and one that counts changes one of its map's
    counted : (s : ℕ) → s < shards → size_of k (then_at (effect.Counted s)) + 0 ≡ size_of k m + 0 → Moves shards k m (then_at (effect.Counted s))
    counted s less sizes = by (cases_eq k c.map)
      where
        f : Effect
        f = effect.Counted s

        words : (then_at f).shards k ≡ put c.map (put s (word_with c (m.shards c.map s)) (m.shards c.map)) m.shards k
        words = ap (λ (o : Option (UnderWay K V)). shards_by o f m.shards k) c_is

        by : (k ≡ c.map) ⊎ (k ≢ c.map) → Moves shards k m (then_at f)
        by (inl e) =
            goes f (m.shards k s) (word_with c (m.shards k s)) 0 0
            (ap (λ (g : ℕ → ℕ). sum_below shards g + m.shards k s) (words ∙ put_here c.map _ m.shards k e ∙ ap (λ (i : ℕ). put s (word_with c (m.shards i s)) (m.shards i)) (sym e))
            ∙ below_put shards s (word_with c (m.shards k s)) (m.shards k) less) sizes
            (subst (λ (z : Bool). Even z f c (m.shards k s) (word_with c (m.shards k s)) 0 0) (sym (eq-eqb k c.map e)) (counted_even s (m.shards k s) c))
        by (inr ne) =
            goes f 0 0 0 0 (ap (λ (g : ℕ → ℕ). sum_below shards g + 0) (words ∙ put_elsewhere c.map _ m.shards k ne)) sizes
            (subst (λ (z : Bool). Even z f c 0 0 0 0) (sym (ne_eqb k c.map ne)) (0, 0, omega arith))

    takes_from : (f : Effect) → CallFinds terms moments m f c → TakesFromOne k (Some own) acted m h f
    takes_from (effect.Replaced p) finds = (c.map, finds)
    takes_from (effect.Removed p) finds = (c.map, finds)
    takes_from _ finds = tt

    ends_none : (f : Effect) → CallFinds terms moments m f c → EndsNoneOf k m.place f
    ends_none (effect.Ended n) finds = absurd finds
    ends_none _ finds = tt

    own_moves : (f : Effect) → CallFinds terms moments m f c → FindsPlaced (Some own) m f → ReplacesFirst (Some own) m f → Moves shards k m (then_at f)
    own_moves f finds placed first = by f finds first (size_goes k (Some own) acted m h f placed (takes_from f finds) (ends_none f finds))
      where
        by : (f : Effect) → CallFinds terms moments m f c → ReplacesFirst (Some own) m f → size_of k (then_at f) + takes k m.place f ≡ size_of k m + brings k acted f → Moves shards k m (then_at f)
        by (effect.Stored n s) finds first sizes = goes (effect.Stored n s) 0 0 (once_if q) 0 (words_same (effect.Stored n s) refl) sizes (stored_even q n s c)
        by (effect.Replaced p) finds first sizes =
            goes (effect.Replaced p) 0 0 0 (once_if q) (words_same (effect.Replaced p) refl) (subst (λ (place : Place). size_of k (then_at (effect.Replaced p)) + once_if (is_in_map k place) ≡ size_of k m + 0) finds sizes)
            (replaced_even q p c (subst (ByCall (λ d. d.replacing ≡ None)) c_is first))
        by (effect.Removed p) finds first sizes =
            goes (effect.Removed p) 0 0 0 (once_if q) (words_same (effect.Removed p) refl) (subst (λ (place : Place). size_of k (then_at (effect.Removed p)) + once_if (is_in_map k place) ≡ size_of k m + 0) finds sizes)
            (removed_even q p c)
        by (effect.Counted s) finds first sizes = counted s (subst (λ (i : ℕ). i < shards) (sym finds.1) (mod-lt _ (shards_some terms.processors))) sizes
        by (effect.Retired (APair n)) finds first sizes = goes (effect.Retired (APair n)) 0 0 0 0 (words_same (effect.Retired (APair n)) refl) sizes (kept_even q (effect.Retired (APair n)) c refl)
        by (effect.Retired (ATable t)) finds first sizes = goes (effect.Retired (ATable t)) 0 0 0 0 (words_same (effect.Retired (ATable t)) refl) sizes (kept_even q (effect.Retired (ATable t)) c refl)
        by (effect.Reclaimed x) finds first sizes = absurd finds
        by (effect.Ended n) finds first sizes = absurd finds
        by (effect.Taken t) finds first sizes = absurd finds
        by f finds first sizes = goes f 0 0 0 0 (words_same f refl) sizes (kept_even q f c refl)

  -- one of no call changes no call, and no shard
  none_moves : (acted : Option ℕ) (everything : Bool) (h : AllIsInOrder m) (f : Effect) → EventFinds acted everything m f → FindsPlaced None m f → EndsNoneOf k m.place f → Moves shards k m (with_effect None acted f m)
  none_moves acted everything h f finds placed ends = moves_none shards k m (with_effect None acted f m) refl (ap (λ (n : ℕ). n + sum_by (minus_of k) m.calls) (by f (takes_none acted f finds) (brings_none acted f finds)))
    where
      takes_none : (o : Option ℕ) (f : Effect) → EventFinds o everything m f → takes k m.place f ≡ 0
      takes_none None (effect.Replaced p) its = absurd its
      takes_none (Some map) (effect.Replaced p) its = absurd its
      takes_none None (effect.Removed p) its = absurd its
      takes_none (Some map) (effect.Removed p) its = absurd its
      takes_none o _ its = refl

      brings_none : (o : Option ℕ) (f : Effect) → EventFinds o everything m f → brings k acted f ≡ 0
      brings_none None (effect.Stored n s) its = absurd its
      brings_none (Some map) (effect.Stored n s) its = absurd its
      brings_none o _ its = refl

      from_none : (o : Option ℕ) (f : Effect) → EventFinds o everything m f → TakesFromOne k None acted m h f
      from_none None (effect.Replaced p) its = absurd its
      from_none (Some map) (effect.Replaced p) its = absurd its
      from_none None (effect.Removed p) its = absurd its
      from_none (Some map) (effect.Removed p) its = absurd its
      from_none o _ its = tt

      by : (g : Effect) → takes k m.place f ≡ 0 → brings k acted f ≡ 0 → size_of k (with_effect None acted f m) ≡ size_of k m
      by g none also = let it = size_goes k None acted m h f placed (from_none acted f finds) ends in omega (arith, it, none, also)

  -- whoever's effect it is
  pub one_moves : (caller : Option (List ℕ)) (acted : Option ℕ) (everything : Bool) (moments : List (Moment K V)) → AllIsInOrder m → ActsOn caller acted m → (f : Effect)
      → Finds terms caller acted everything moments m f → StoresOne caller m f → ReplacesFirst caller m f → EndsNoneOf k m.place f → Moves (shards_of terms) k m (with_effect caller acted f m)
  one_moves None acted everything moments h on f finds stores first ends = none_moves acted everything h f finds (life_finds_placed K V terms None acted everything moments m f finds stores) ends
  one_moves (Some own) acted everything moments h on f finds stores first ends = by (call_of own m) refl finds
    where
      by : (o : Option (UnderWay K V)) → call_of own m ≡ o → ByCall (λ (c : UnderWay K V). (only_looks c.call ≡ false) × CallFinds terms moments m f c) o → Moves (shards_of terms) k m (with_effect (Some own) acted f m)
      by None is none = absurd none
      by (Some c) is all =
          subst (λ (o : Option ℕ). Moves (shards_of terms) k m (with_effect (Some own) o f m)) (sym (on own c refl is))
          (own_moves moments h own c is f all.1 (life_finds_placed K V terms (Some own) acted everything moments m f finds stores) first)
