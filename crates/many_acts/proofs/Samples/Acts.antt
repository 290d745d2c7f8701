-- Acts that may be made at first, and some that may not.
mod Few
mod Untrue
use Rattle.std.specs.Prelude.{◌≡◌, ℕ, zero, suc, ◌+◌, ◌*◌, ◌<◌, ◌≤◌, ◌^◌, Bool, List, [], max, Some, None}
use Rattle.std.specs.Int.{IsPowerOfTwo}
use Rattle.std.proofs.Common.{inl, inr, refl, arith, sym, ◌∙◌}
use Rattle.std.proofs.Math.Nat.{pow-suc}
use Rattle.run_shows.specs.Given.SeizeWorld.{Register', with_at}
use Rattle.run_shows.specs.Given.SeizeDeclared.rows.reclaim_all.ReclaimAll.{ReclaimAll}
use Rattle.seize_acts.specs.Acts.Answers.{Grant}
use Rattle.run_shows.specs.Given.TablesLengths.{IsTableLen}
use Rattle.run_shows.specs.Given.TablesDeclared.setting.Setting.{Setting}
use Rattle.run_shows.specs.Given.ResizeDeclared.new_map.Opening.TheVariants as at
use Rattle.owner_facts.specs.Given.FinishesMakings.{Beginning}
use Rattle.run_shows.specs.Scenes.Making.{making_begun}
use Rattle.many_acts.specs.Acts.Acts.{Act, Wanted, BeginsCall, StepsCall, BeginsMaking, StepsMaking, BeginsRow}
use Rattle.many_acts.specs.Acts.Courses.{AreAlike}
use Rattle.many_acts.specs.Acts.Doings.{Does, BeginsReclaiming, BeginsClearing, StepsReclaiming, IsLeft, Stage, MayDo}
use Rattle.many_acts.specs.Acts.Leads.{AllStand, IsFree, MayBe}
use Rattle.many_acts.specs.Acts.Reclaiming.{IsReclaimingAll}
use Rattle.run_shows.specs.Scenes.Scene.{Scene, at_first}

-- 3 is no power of two
not_three : (k : ℕ) → 3 ≡ 2 ^ k → ⊥
not_three zero e = omega (arith, e)
not_three (suc k) e = let twice : 2 ^ suc k ≡ 2 ^ k * 2 = pow-suc 2 k in omega (arith, e, twice)

module _ {K S : Type 0} (V : Type 0) (same : K → K → Bool) (hash : S → K → ℕ) (batch_size : ℕ) (slot : ℕ → ℕ) where
  abbrev First : Act K V S → Type 0
  First act = MayBe same hash batch_size 1 slot act (at_first 1)

  -- At first any caller may begin to make a map, or take a slot.
  may_make : (i map places : ℕ) (hasher : S) (given : Setting) → IsPowerOfTwo given.initial → (max places 8 ≤ 2 ^ 48 → IsTableLen (max places 8))
      → given.batch_size ≡ batch_size → given.mask + 1 < 2 ^ 64 → First (BeginsMaking i map hasher given places)
  may_make i map places hasher given power sized batches mask =
      (record { no_call = λ m. refl; no_making = refl; no_ending = refl }, refl, (λ j d has e. cc has), batches, mask, omega arith, power, sized)

  -- No map is made whose tables would begin with a length that is no power of two.
  none_of_three : (i map places : ℕ) (hasher : S) (given : Setting) → given.initial ≡ 3 → First (BeginsMaking i map hasher given places) → ⊥
  none_of_three i map places hasher given three may = not_three may.6.0 (sym three ∙ may.6.1)

  may_register : (i : ℕ) (enters : Bool) → First (BeginsRow i (Register' enters))
  may_register i enters = ((λ m. refl), refl, tt, (λ m j u has. absurd (cc has)), refl)

  -- No call begins where no map stands, and none takes a step that is not there.
  no_map_yet : (i m : ℕ) (wanted : Wanted K V) → First (BeginsCall i m wanted) → ⊥
  no_map_yet i m wanted may = cc (may.3)

  no_call_yet : (i m : ℕ) (g : Grant) → First (StepsCall i m g) → ⊥
  no_call_yet i m g may = cc may

  module _ (hasher : S) (given : Setting) where
    -- A map is being made. Its caller has something under way, and may take the next step, which takes the root.
    abbrev b : Beginning K
    b = making_begun (hash hasher) 1 0 given 0

    abbrev Makes : Beginning K → Scene K V
    Makes b = record (at_first 1) { makers = with_at (λ i. None) 0 (Some b) }

    is_busy : IsFree (Makes b) 0 → ⊥
    is_busy free = cc (free.no_making)

    may_go_on : (g : Grant) → MayBe same hash batch_size 1 slot (StepsMaking 0 g) (Makes b)
    may_go_on g = refl

    -- Where it makes its counter, the memory may give that the number 1, or refuse it, and not 0, which is no block's.
    abbrev at_shards : Beginning K
    at_shards = record b { machine = record b.machine { stands = at.Shards } }

    may_choose : MayBe same hash batch_size 1 slot (StepsMaking 0 (Some 1)) (Makes at_shards)
    may_choose = refl

    may_refuse : MayBe same hash batch_size 1 slot (StepsMaking 0 None) (Makes at_shards)
    may_refuse = refl

    not_that : MayBe same hash batch_size 1 slot (StepsMaking 0 (Some 0)) (Makes at_shards) → ⊥
    not_that may = cc may

    -- It is not alike the first one, where no map is made.
    not_alike : AreAlike (Makes b) (at_first 1) → ⊥
    not_alike alike = let same_making = alike.makers 0 in cc same_making

  -- Before anybody reclaims all, no step of it is there, and none begins with slots of which none was ever taken.
  module _ (all : AllStand {V = V} same hash batch_size 1 slot (at_first 1)) (left : IsLeft {K = K} {V = V} 1 (at_first 1) (λ r. [])) where
    abbrev start : Stage V same hash batch_size 1 slot
    start = (at_first 1, all, inl ((λ r. []), left))

    no_step_yet : (g : Grant) → MayDo V same hash batch_size 1 slot (StepsReclaiming g) start → ⊥
    no_step_yet g may = cc (may.1)

    no_slots_yet : (i : ℕ) → MayDo V same hash batch_size 1 slot (BeginsReclaiming i) start → ⊥
    no_slots_yet i may = cc (may.3)

  -- While a caller does, no other act is made, and nobody begins to do so, too.
  module _ (s : Scene K V) (all : AllStand same hash batch_size 1 slot s) (i : ℕ) (lists : ℕ → List ℕ) (c : ReclaimAll) (idle : IsReclaimingAll V same batch_size 1 slot s i lists c) where
    abbrev within : Stage V same hash batch_size 1 slot
    within = (s, all, inr (i, lists, c, idle))

    no_act : (act : Act K V S) → MayDo V same hash batch_size 1 slot (Does act) within → ⊥
    no_act act may = cc (may.0)

    not_twice : (j : ℕ) → MayDo V same hash batch_size 1 slot (BeginsClearing j) within → ⊥
    not_twice j may = cc (may.0)
