-- That an act may be made, or a step of who reclaims all, is known in one way alone, so a course leads by a list to one stage.
use Rattle.std.specs.Prelude.{◌≡◌, ◌⊎◌, ℕ, ◌<◌, ◌^◌, Bool, true, List, [], ◌∷◌}
use Rattle.std.specs.Int.{IsPowerOfTwo}
use Rattle.std.specs.Coded.{Coded-set, coded_bool, coded_ℕ, le_prop}
use Rattle.std.proofs.Common.{inl, inr, refl, sym, ap, subst, arith, ◌∙◌}
use Rattle.std.proofs.Math.Pow.{pow-lt}
use Rattle.std.proofs.lemmas.Bool.{cases_order}
use Rattle.run_shows.specs.Given.SeizeWorld.{Request, Register', Enter', Leave', LeaveOwned, Refresh, Unregister', Retire, Flush, Defer'}
use Rattle.owner_facts.specs.Given.CallersTogether.{UnderWay, OnKey, ForRoom, Counting, OverAll, UnlessCounts, IsOfSlots, Closes}
use Rattle.many_acts.specs.Acts.Acts.{Wanted, Get, Remove, Insert, TryToInsert, Compute, Update, UpdateOrInsert, TryToInsertWith, RemoveIf, GetKeyValue, ContainsKey, GetOrInsert, GetOrInsertWith, RemoveEntry, MakeRoom, Count, GoOver, UnlessToCount, Act, BeginsCall, StepsCall, TellsCall, AsksCall, StopsCall, BeginsMaking, StepsMaking, BeginsEnding, StepsEnding, BeginsRow, StepsRow}
use Rattle.many_acts.specs.Acts.Doings.{Doing, Does, BeginsReclaiming, BeginsClearing, StepsReclaiming, Chooses, AllAreFree, SlotsAreFree, Stage, MayDo}
use Rattle.seize_acts.specs.Acts.Acts.{is_within}
use Rattle.many_acts.specs.Acts.Leads.{IsFree, AreFewWith, MayBe}
use Rattle.many_acts.specs.Acts.Lists.{Course, Reached, LedOn, nothing_done, on_by, IsDetermined}
use Rattle.run_shows.specs.Scenes.Scene.{Scene}

bool_set : IsSet Bool
bool_set = Coded-set coded_bool

-- a number is a power of two in one way
same_power : (j k : ℕ) → 2 ^ j ≡ 2 ^ k → j ≡ k
same_power j k e = by (cases_order j k)
  where
    by : (j ≡ k) ⊎ ((j < k) ⊎ (k < j)) → j ≡ k
    by (inl is) = is
    by (inr (inl less)) = absurd (let far = pow-lt {i = j} {j = k} less in omega (arith, e, far))
    by (inr (inr less)) = absurd (let far = pow-lt {i = k} {j = j} less in omega (arith, e, far))

abbrev power_by : (n k : ℕ) → n ≡ 2 ^ k → IsPowerOfTwo n
power_by n k is = (k, is)

power_prop : (n : ℕ) → IsProp (IsPowerOfTwo n)
power_prop n (j, is) (k, is2) = by k (same_power j k (sym is ∙ is2)) is2
  where
    by : (i : ℕ) → j ≡ i → (e : n ≡ 2 ^ i) → power_by n j is ≡ power_by n i e
    by i one = subst (λ (x : ℕ). (e : n ≡ 2 ^ x) → power_by n j is ≡ power_by n x e) one (λ e. ap (power_by n j) (Coded-set coded_ℕ n (2 ^ j) is e))

of_slots_prop : (request : Request) → IsProp (IsOfSlots request)
of_slots_prop (Retire s b) x y = absurd x
of_slots_prop (Defer' s b t) x y = absurd x
of_slots_prop (Register' enters) x y = refl
of_slots_prop (Enter' s) x y = refl
of_slots_prop (Leave' s) x y = refl
of_slots_prop (LeaveOwned s) x y = refl
of_slots_prop (Refresh s) x y = refl
of_slots_prop (Unregister' s) x y = refl
of_slots_prop (Flush s) x y = refl

unless_prop : {K V Q A : Type 0} → IsProp A → (u : UnderWay K V Q) → IsProp (UnlessCounts u A)
unless_prop same (OnKey u) = same
unless_prop same (ForRoom r) = same
unless_prop same (Counting sum) = λ x y. refl
unless_prop same (OverAll o) = same

never_prop : {A : Type 0} → IsProp (A → ⊥)
never_prop = hlevel bool_set

apart_prop : {K V Q : Type 0} (slot : ℕ → ℕ) (request : Request) (j : ℕ) (u : UnderWay K V Q) → IsProp (UnlessCounts u (Closes request (slot j) → ⊥))
apart_prop slot request j u = unless_prop never_prop u

to_count_prop : {K V A : Type 0} → IsProp A → (wanted : Wanted K V) → IsProp (UnlessToCount wanted A)
to_count_prop same Count = λ x y. refl
to_count_prop same (Get key) = same
to_count_prop same (Remove key) = same
to_count_prop same (Insert key value) = same
to_count_prop same (TryToInsert key value) = same
to_count_prop same (Compute key) = same
to_count_prop same (Update key) = same
to_count_prop same (UpdateOrInsert key absent) = same
to_count_prop same (TryToInsertWith key) = same
to_count_prop same (RemoveIf key) = same
to_count_prop same (GetKeyValue key) = same
to_count_prop same (ContainsKey key) = same
to_count_prop same (GetOrInsert key value) = same
to_count_prop same (GetOrInsertWith key) = same
to_count_prop same (RemoveEntry key) = same
to_count_prop same (MakeRoom additional) = same
to_count_prop same (GoOver purpose) = same

module _ {K V : Type 0} (s : Scene K V) where
  free_prop : (i : ℕ) → IsProp (IsFree s i)
  free_prop i = hlevel bool_set

module _ {K V S : Type 0} (same : K → K → Bool) (hash : S → K → ℕ) (batch_size roots : ℕ) (slot : ℕ → ℕ) where
  few_prop : (s : Scene K V) (i m : ℕ) (wanted : Wanted K V) → IsProp (AreFewWith same hash batch_size roots slot s i m wanted)
  few_prop s i m wanted = hlevel le_prop

  pub may_prop : (act : Act K V S) (s : Scene K V) → IsProp (MayBe same hash batch_size roots slot act s)
  may_prop (BeginsCall i m wanted) s = hlevel (bool_set, free_prop s i, to_count_prop (bool_set (is_within (s.world.uses (slot i))) true) wanted, few_prop s i m wanted)
  may_prop (StepsCall i m g) s = bool_set _ _
  may_prop (TellsCall i m reply) s = bool_set _ _
  may_prop (AsksCall i m) s = bool_set _ _
  may_prop (StopsCall i m) s = bool_set _ _
  may_prop (BeginsMaking i map hasher given places) s = hlevel (bool_set, free_prop s i, Coded-set coded_ℕ, le_prop, power_prop)
  may_prop (StepsMaking i g) s = bool_set _ _
  may_prop (BeginsEnding i m) s = hlevel (bool_set, free_prop s i)
  may_prop (StepsEnding i g) s = bool_set _ _
  may_prop (BeginsRow i request) s = hlevel (bool_set, of_slots_prop request, apart_prop {K = K} {V = V} {Q = K} slot request)
  may_prop (StepsRow i g) s = hlevel bool_set

  free_all_prop : (s : Scene K V) → IsProp (AllAreFree s)
  free_all_prop s = hlevel bool_set

  slots_prop : (s : Scene K V) → IsProp (SlotsAreFree s)
  slots_prop s = hlevel (bool_set, Coded-set coded_ℕ)

  pub may_do_prop : (doing : Doing K V S) (p : Stage V same hash batch_size roots slot) → IsProp (MayDo V same hash batch_size roots slot doing p)
  may_do_prop (Does act) p = hlevel (bool_set, may_prop act p.0)
  may_do_prop (BeginsReclaiming i) p = hlevel (bool_set, le_prop, free_all_prop p.0)
  may_do_prop (BeginsClearing i) p = hlevel (bool_set, le_prop, free_all_prop p.0, slots_prop p.0)
  may_do_prop (StepsReclaiming g) p = hlevel (bool_set, le_prop)
  may_do_prop (Chooses choice) p = bool_set _ _

  module _ (course : Course V same hash batch_size roots slot) where
    led_once : (doings : List (Doing K V S)) (x y z : Reached V same hash batch_size roots slot) → LedOn V same hash batch_size roots slot course doings x y
        → LedOn V same hash batch_size roots slot course doings x z → y ≡ z
    led_once [] x y z led other = led ∙ sym other
    led_once (doing ∷ doings) x y z (may, led) (may2, led2) =
        led_once doings (on_by V same hash batch_size roots slot course x doing may) y z led
        (subst (λ (m : MayDo V same hash batch_size roots slot doing x.0). LedOn V same hash batch_size roots slot course doings (on_by V same hash batch_size roots slot course x doing m) z)
        (may_do_prop doing x.0 may2 may) led2)

    pub is_determined : IsDetermined V same hash batch_size roots slot course
    is_determined doings x y led other = led_once doings (nothing_done V same hash batch_size roots slot course) x y led other
