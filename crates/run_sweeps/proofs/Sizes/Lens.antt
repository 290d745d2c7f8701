-- A `len` tells how many pairs its map has, where that stays so: an event after which the map has as many, all counted, leaves each of its words.
use Rattle.std.specs.Prelude.{◌≡◌, ◌≢◌, ℕ, zero, suc, ◌+◌, ◌*◌, ◌%◌, ◌^◌, ◌<◌, ◌==◌, nat_lt, Bool, true, false, ◌⊎◌, List, [], ◌∷◌, length, sum_by, Option, Some, None, if◌then◌else◌}
use Rattle.std.specs.List.{AllByRecursion}
use Rattle.std.proofs.Common.{refl, ap, sym, subst, ◌∙◌, arith, inl, inr}
use Rattle.std.proofs.lemmas.Bool.{cases_eq}
use Rattle.std.proofs.Math.Nat.{mod-lt}
use Rattle.run_finds.specs.Given.TablesCounts.{count_in}
use Rattle.run_finds.specs.Given.RunsPresent.{slot_of_guard}
use Rattle.run_finds.specs.Given.RunsSame.{is_same}
use Rattle.run_finds.specs.Given.RunsDeclared.call.Response.TheVariants as answer
use Rattle.run_finds.specs.Given.RunsDeclared.call.Call.{Call}
use Rattle.run_finds.specs.Given.RunsDeclared.call.Call.TheVariants as call
use Rattle.run_finds.specs.Given.RunsDeclared.effect.Effect.{Effect}
use Rattle.run_finds.specs.Given.RunsDeclared.outcome.Outcome.{Outcome}
use Rattle.run_finds.specs.Given.RunsDeclared.outcome.Outcome.TheVariants as outcome
use Rattle.run_finds.specs.Given.SchedulesAfter.{after, moment, moments_from}
use Rattle.run_finds.specs.Given.SchedulesCounts.{AddsUp, Counts}
use Rattle.run_finds.specs.Given.SchedulesBeginning.{at_work}
use Rattle.run_finds.specs.Given.SchedulesEffects.{AtEachEffect, with_effect, with_effects, worked}
use Rattle.run_finds.specs.Given.SchedulesEntry.{ByCall, Entry, IfCall, acted_on, acting, caller_of}
use Rattle.run_finds.specs.Given.SchedulesGrowing.{only_looks}
use Rattle.run_finds.specs.Given.SchedulesHanding.{gives_all, moments_of}
use Rattle.run_finds.specs.Given.SchedulesLists.{OneOf, put}
use Rattle.run_finds.specs.Given.SchedulesLives.{CallFinds, Finds}
use Rattle.run_finds.specs.Given.SchedulesMoment.{MapThere, UnderWay, Moment}
use Rattle.run_finds.specs.Given.SchedulesRuns.{IsLegal, IsLegalLog}
use Rattle.run_finds.specs.Given.SchedulesSweeps.{Sweeps}
use Rattle.run_finds.specs.Given.SchedulesTerms.{Terms, shards_of}
use Rattle.run_finds.specs.Given.SchedulesViews.{call_of, size_of}
use Rattle.run_finds.proofs.Given.FollowsAlike.{put_here, put_elsewhere}
use Rattle.run_finds.specs.Within.{HasItsMap}
use Rattle.run_finds.proofs.Grown.{found_of}
use Rattle.run_finds.proofs.Lists.{all_so, one_of_them}
use Rattle.run_sweeps.specs.Sizes.Sizes.{LensTellSize, StaysCounted, gained_on, lost_on, sum_below}
use Rattle.run_sweeps.proofs.Sizes.Balance.{minus_of}
use Rattle.run_sweeps.proofs.Sizes.Beginning.{Counted, begun_same}
use Rattle.run_sweeps.proofs.Sizes.Counting.{shards_some}
use Rattle.run_sweeps.proofs.Sizes.Ending.{calls_spare}
use Rattle.run_sweeps.proofs.Sizes.Events.{IsSo, counted_before, event_moves, order_w, then_so}
use Rattle.run_sweeps.proofs.Sizes.Sizes.{all_so_far, minus_is_lost}
use Rattle.run_sweeps.proofs.Sizes.Sums.{below_put, below_same}
use Rattle.run_sweeps.proofs.Sizes.Words.{all_shard, begun_shards}
use Rattle.run_finds.proofs.Given.General.{equal_so as number_is}

-- words that differ at one place at most add up by as much as these two
below_one : (n s : ℕ) (f g : ℕ → ℕ) → s < n → ((j : ℕ) → j ≢ s → f j ≡ g j) → sum_below n f + g s ≡ sum_below n g + f s
below_one n s f g less same =
    let as_put = below_same n f (put s (f s) g) (λ j l. by j (cases_eq j s)) in
    let moved = below_put n s (f s) g less in
    omega (arith, as_put, moved)
  where
    by : (j : ℕ) → (j ≡ s) ⊎ (j ≢ s) → f j ≡ put s (f s) g j
    by j (inl e) = ap f e ∙ sym (put_here s (f s) g j e)
    by j (inr ne) = same j ne ∙ sym (put_elsewhere s (f s) g j ne)

-- so where they add up to the same, modulo 2 ^ 64, and all are below that, they are the same
one_same : (n s : ℕ) (f g : ℕ → ℕ) (a b : ℕ) → s < n → ((j : ℕ) → j ≢ s → f j ≡ g j) → f s < 2 ^ 64 → g s < 2 ^ 64 → sum_below n f + 2 ^ 64 * a ≡ sum_below n g + 2 ^ 64 * b → (j : ℕ) → f j ≡ g j
one_same n s f g a b less same small_f small_g sums j = by (cases_eq j s)
  where
    both : f s ≡ g s
    both = of (sum_below n f) (sum_below n g) (f s) (g s) small_f small_g sums (below_one n s f g less same)
      where
        of : (x y v w : ℕ) → v < 2 ^ 64 → w < 2 ^ 64 → x + 2 ^ 64 * a ≡ y + 2 ^ 64 * b → x + w ≡ y + v → v ≡ w
        of x y v w l u e one = omega (arith, l, u, e, one)

    by : (j ≡ s) ⊎ (j ≢ s) → f j ≡ g j
    by (inl e) = ap f e ∙ both ∙ ap g (sym e)
    by (inr ne) = same j ne

-- no moments give no sum of a shard
none_adds : (K V : Type 0) (k n sum : ℕ) → 0 < n → AddsUp {K = K} {V = V} k [] n sum → ⊥
none_adds K V k zero sum some adds = omega (arith, some)
none_adds K V k (suc n) sum some adds = adds

module _ {X : Type 0} (P Q : X → Type 0) (G : Type 0) (so : (x : X) → P x → Q x → G) where
  from_one : (xs : List X) → OneOf P xs → AllByRecursion Q xs → G
  from_one [] none all = absurd none
  from_one (x ∷ xs) (inl it) all = so x it all.0
  from_one (x ∷ xs) (inr later) all = from_one xs later all.1

module _ {K V : Type 0} where
  -- the words of a map are these at each of some moments
  abbrev Steady : ℕ → (ℕ → ℕ) → List (Moment K V) → Type 0
  Steady k words moments = AllByRecursion (λ (m : Moment K V). (j : ℕ) → m.shards k j ≡ words j) moments

  -- so they add up to their sum
  adds_so : (k : ℕ) (words : ℕ → ℕ) (moments : List (Moment K V)) → Steady k words moments → (n sum : ℕ) → AddsUp k moments n sum → sum ≡ sum_below n words
  adds_so k words moments steady zero sum adds = adds
  adds_so k words moments steady (suc n) sum adds =
      from_one (λ (m : Moment K V). (rest : ℕ) × AddsUp k moments n rest × (sum ≡ rest + m.shards k n)) (λ (m : Moment K V). (j : ℕ) → m.shards k j ≡ words j) (sum ≡ sum_below (suc n) words)
      (λ m it same. (let others = adds_so k words moments steady n it.0 it.1 in let all = it.2 in let here = same n in omega (arith, others, all, here))) moments adds steady

  -- the newest of the moments is that of the log
  headed : (begun : ℕ) (log : List (Entry K V)) → (moments_from begun log ≡ []) ⊎ ((rest : List (Moment K V)) × (moments_from begun log ≡ moment log ∷ rest))
  headed begun [] = by (begun == 0)
    where
      by : (q : Bool) → ((if q then moment {K = K} {V = V} [] ∷ [] else []) ≡ []) ⊎ ((rest : List (Moment K V)) × ((if q then moment {K = K} {V = V} [] ∷ [] else []) ≡ moment {K = K} {V = V} [] ∷ rest))
      by true = inr ([], refl)
      by false = inl refl
  headed begun (e ∷ log) = by (nat_lt (length (e ∷ log)) begun)
    where
      by : (q : Bool) → ((if q then [] else moment (e ∷ log) ∷ moments_from begun log) ≡ []) ⊎ ((rest : List (Moment K V)) × ((if q then [] else moment (e ∷ log) ∷ moments_from begun log) ≡ moment (e ∷ log) ∷ rest))
      by true = inl refl
      by false = inr (moments_from begun log, refl)

  abbrev IsStill : ℕ → ℕ → Moment K V → Type 0
  IsStill k size m = (gained_on k m.calls ≡ lost_on k m.calls) × (size_of k m ≡ size)

  module _ (eq : K → K → Bool) (terms : Terms) (k size : ℕ) where
    -- an event from one such moment to another leaves the map's words
    words_stay : (log : List (Entry K V)) (e : Entry K V) → IsLegal eq terms log e → IsSo (shards_of terms) (moment log) → IsStill k size (moment log) → IsStill k size (after e (moment log))
        → (j : ℕ) → (after e (moment log)).shards k j ≡ (moment log).shards k j
    words_stay log e legal so before still = by (caller_of e.event) refl
      where
        m : Moment K V
        m = moment log

        v : Moment K V
        v = after e m

        b : Moment K V
        b = at_work e m

        caller : Option (List ℕ)
        caller = caller_of e.event

        acted : Option ℕ
        acted = acted_on e.event b

        no_shards : (effects : List Effect) (x : Moment K V) → (with_effects None acted effects x).shards ≡ x.shards
        no_shards [] x = refl
        no_shards (f ∷ effects) x = no_shards effects (with_effect None acted f x)

        moments : List (Moment K V)
        moments = moments_of terms log (acting caller b)

        -- of the words of the call's map one is changed at most
        one_changes : (own : List ℕ) → AtEachEffect (Finds terms (Some own) acted (gives_all e.event) moments) (Some own) acted e.effects b
            → (s : ℕ) × (s < shards_of terms) × ((j : ℕ) → j ≢ s → (with_effects (Some own) acted e.effects b).shards k j ≡ b.shards k j)
        one_changes own finds = of (call_of own b) refl e.effects finds
          where
            of : (o : Option (UnderWay K V)) → call_of own b ≡ o → (effects : List Effect) → AtEachEffect (Finds terms (Some own) acted (gives_all e.event) moments) (Some own) acted effects b
                → (s : ℕ) × (s < shards_of terms) × ((j : ℕ) → j ≢ s → (with_effects (Some own) acted effects b).shards k j ≡ b.shards k j)
            of None is [] its = (0, shards_some terms.processors, λ j ne. refl)
            of None is (f ∷ effects) its = absurd (subst (ByCall (λ (c : UnderWay K V). (only_looks c.call ≡ false) × CallFinds terms moments b f c)) is its.0)
            of (Some c) is effects its =
                let s = slot_of_guard c.guard b.there % shards_of terms in
                (s, mod-lt (slot_of_guard c.guard b.there) (shards_some terms.processors), all_shard terms (gives_all e.event) moments own acted c.guard s effects b c is refl refl its k)

        -- and the sums are the same
        same_sums : (own : List ℕ) → caller ≡ Some own → (x : ℕ) × (y : ℕ) × (sum_below (shards_of terms) (v.shards k) + 2 ^ 64 * x ≡ sum_below (shards_of terms) (m.shards k) + 2 ^ 64 * y)
        same_sums own is =
            let moves = event_moves eq terms log e legal so k (calls_spare terms log k acted e.event own is e.effects legal.life.may) in
            let lost_before = minus_is_lost k m so.settled in
            let lost_after = minus_is_lost k v (then_so eq terms log e legal so).settled in (
              moves.0,
              moves.1,
              evened (sum_below (shards_of terms) (v.shards k)) (sum_below (shards_of terms) (m.shards k)) (gained_on k v.calls) (gained_on k m.calls) (size_of k v) (size_of k m)
                  (sum_by (minus_of k) v.calls) (sum_by (minus_of k) m.calls) moves.0 moves.1 moves.2 (before.0 ∙ sym lost_before) (still.0 ∙ sym lost_after) (still.1 ∙ sym before.1),
            )
          where
            evened : (sv sm gv gm zv zm lv lm x y : ℕ) → (sv + gv) + (zm + lm) + 2 ^ 64 * x ≡ (sm + gm) + (zv + lv) + 2 ^ 64 * y → gm ≡ lm → gv ≡ lv → zv ≡ zm → sv + 2 ^ 64 * x ≡ sm + 2 ^ 64 * y
            evened sv sm gv gm zv zm lv lm x y moves counted_before counted_after sizes = omega (arith, moves, counted_before, counted_after, sizes)

        by : (who : Option (List ℕ)) → caller ≡ who → (j : ℕ) → v.shards k j ≡ m.shards k j
        by None is j =
            ap (λ (o : Option (List ℕ)). (with_effects o acted e.effects b).shards k j) is ∙ ap (λ (g : ℕ → ℕ → ℕ). g k j) (no_shards e.effects b) ∙ ap (λ (g : ℕ → ℕ → ℕ). g k j) (begun_shards e.event e.outcome m)
        by (Some own) is j =
            let one = one_changes own (subst (λ (o : Option (List ℕ)). AtEachEffect (Finds terms o acted (gives_all e.event) moments) o acted e.effects b) is legal.life.finds) in
            let sums = same_sums own is in
            one_same (shards_of terms) one.0 (v.shards k) (m.shards k) sums.0 sums.1 one.1
            (λ i ne. ap (λ (o : Option (List ℕ)). (with_effects o acted e.effects b).shards k i) is ∙ one.2 i ne ∙ ap (λ (g : ℕ → ℕ → ℕ). g k i) (begun_shards e.event e.outcome m))
            ((then_so eq terms log e legal so).words.small k one.0) (so.words.small k one.0) sums.2 j

    -- so its words are the same at all moments of a call
    steady : (begun : ℕ) (log : List (Entry K V)) → IsLegalLog eq terms log → StaysCounted k size (moments_from begun log) → Steady k ((moment log).shards k) (moments_from begun log)
    steady begun [] legal stays = by (begun == 0)
      where
        by : (q : Bool) → Steady k ((moment {K = K} {V = V} []).shards k) (if q then moment {K = K} {V = V} [] ∷ [] else [])
        by true = ((λ j. refl), tt)
        by false = tt
    steady begun (e ∷ log) legal stays = by (nat_lt (length (e ∷ log)) begun) stays (steady begun log legal.1)
      where
        Older : Type 0
        Older = StaysCounted k size (moments_from begun log) → Steady k ((moment log).shards k) (moments_from begun log)

        older : Older → IsStill k size (moment (e ∷ log)) → StaysCounted k size (moments_from begun log) → Steady k ((moment (e ∷ log)).shards k) (moments_from begun log)
        older rest still stayed = of (headed begun log)
          where
            of : (moments_from begun log ≡ []) ⊎ ((ms : List (Moment K V)) × (moments_from begun log ≡ moment log ∷ ms)) → Steady k ((moment (e ∷ log)).shards k) (moments_from begun log)
            of (inl none) = subst (Steady k ((moment (e ∷ log)).shards k)) (sym none) tt
            of (inr some) =
                let before = (subst (StaysCounted k size) some.1 stayed).0 in
                let same = words_stay log e legal.0 (all_so_far eq terms log legal.1) before still in
                all_so (λ (m : Moment K V). (j : ℕ) → m.shards k j ≡ (moment log).shards k j) (λ (m : Moment K V). (j : ℕ) → m.shards k j ≡ (moment (e ∷ log)).shards k j) (λ m its j. its j ∙ sym (same j))
                (moments_from begun log) (rest stayed)

        by : (q : Bool) → StaysCounted k size (if q then [] else moment (e ∷ log) ∷ moments_from begun log) → Older → Steady k ((moment (e ∷ log)).shards k) (if q then [] else moment (e ∷ log) ∷ moments_from begun log)
        by true stayed rest = tt
        by false stayed rest = ((λ j. refl), older rest stayed.0 stayed.1)

  module _ (eq : K → K → Bool) (terms : Terms) (log : List (Entry K V)) (e : Entry K V) (legal : IsLegalLog eq terms (e ∷ log)) (c : UnderWay K V) (c_is : acting (caller_of e.event) (worked e (moment log)) ≡ Some c) where
    abbrev m : Moment K V
    m = moment log

    abbrev w : Moment K V
    w = worked e m

    so : IsSo (shards_of terms) m
    so = all_so_far eq terms log legal.1

    -- the call's map is counted
    is_counted : Counted (shards_of terms) m c.map
    is_counted = by (caller_of e.event) c_is
      where
        by : (who : Option (List ℕ)) → acting who w ≡ Some c → Counted (shards_of terms) m c.map
        by None is = absurd (cc is)
        by (Some own) is =
            let its = (found_of (λ (d : UnderWay K V). is_same d.caller own) (HasItsMap w) w.calls c (order_w eq terms log e legal.0 so).within.calls is).1 in
            let f = one_of_them (λ (f : MapThere). f.number == c.map) (λ (f : MapThere). Counted (shards_of terms) (at_work e m) f.number) w.maps its.there (counted_before eq terms log e legal.0 so) in
            let counted = subst (Counted (shards_of terms) (at_work e m)) (number_is f.0.number c.map f.1) f.2 in
            let same = begun_same (shards_of terms) c.map e.event e.outcome m in
            sym (ap (λ (n : ℕ). n % 2 ^ 64) same.0) ∙ counted ∙ ap (λ (n : ℕ). n % 2 ^ 64) same.1

    counts_it : c.call ≡ call.Len → (n : ℕ) → e.outcome ≡ outcome.Answered (answer.Counted n) → Counts (shards_of terms) c.map (moments_from c.begun log) n
    counts_it len n came =
        subst (λ (o : Outcome V). Sweeps eq terms call.Len c (moments_from c.begun log) w o) came
        (subst (λ (its : Call K V). Sweeps eq terms its c (moments_from c.begun log) w e.outcome) len
        (subst (IfCall (λ (d : UnderWay K V). Sweeps eq terms d.call d (moments_from d.begun log) w e.outcome)) c_is legal.0.swept))

    tells : (n size : ℕ) → StaysCounted c.map size (moments_from c.begun log) → Counts (shards_of terms) c.map (moments_from c.begun log) n → n ≡ count_in (size % 2 ^ 64)
    tells n size stays (sum, adds, is) = by (headed c.begun log)
      where
        by : (moments_from c.begun log ≡ []) ⊎ ((rest : List (Moment K V)) × (moments_from c.begun log ≡ m ∷ rest)) → n ≡ count_in (size % 2 ^ 64)
        by (inl none) = absurd (none_adds K V c.map (shards_of terms) sum (shards_some terms.processors) (subst (λ (ms : List (Moment K V)). AddsUp c.map ms (shards_of terms) sum) none adds))
        by (inr some) =
            let still = (subst (StaysCounted c.map size) some.1 stays).0 in
            let all = adds_so c.map (m.shards c.map) (moments_from c.begun log) (steady eq terms c.map size c.begun log legal.1 stays) (shards_of terms) sum adds in
            is ∙ ap count_in (ends sum (sum_below (shards_of terms) (m.shards c.map)) (gained_on c.map m.calls) (size_of c.map m) (sum_by (minus_of c.map) m.calls) all is_counted
            (still.0 ∙ sym (minus_is_lost c.map m so.settled)) still.1)
          where
            ends : (sum s g z l : ℕ) → sum ≡ s → (s + g) % 2 ^ 64 ≡ (z + l) % 2 ^ 64 → g ≡ l → z ≡ size → sum % 2 ^ 64 ≡ size % 2 ^ 64
            ends sum s g z l all counted same sizes = omega (arith, all, counted, same, sizes)

pub lens_tell_size : (K V : Type 0) → LensTellSize K V
lens_tell_size K V eq terms log e legal c c_is len n came size stays = tells eq terms log e legal c c_is n size stays (counts_it eq terms log e legal c c_is len n came)
