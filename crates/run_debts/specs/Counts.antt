-- What a call has stored or removed, and has not counted yet: by where its machine stands, and by what a moment of a run says of it.
use Rattle.std.specs.Prelude.{◌≡◌, ◌<◌, ◌+◌, ℕ, Bool, true, false, bit_and, List, Some}
use Rattle.run_places.specs.Given.TablesDeclared.setting.Setting.{Setting}
use Rattle.run_places.specs.Given.ReservesDeclared.sweep.Sweeping.{Sweeping}
use Rattle.run_places.specs.Given.ReservesDeclared.sweep.Sweeping.TheVariants as sweeping
use Rattle.run_places.specs.Given.RawDeclared.machines.call.Calling.{Calling}
use Rattle.run_places.specs.Given.RawDeclared.machines.call.Calling.TheVariants as calling
use Rattle.run_places.specs.Given.RawDeclared.machines.machine.Machine.{Machine}
use Rattle.run_places.specs.Given.RawDeclared.machines.machine.Machine.TheVariants as kinds
use Rattle.run_places.specs.Given.RunsDeclared.effect.Effect.{Effect}
use Rattle.run_places.specs.Given.RunsDeclared.effect.Effect.TheVariants.{Counted}
use Rattle.run_places.specs.Given.SchedulesEffects.{AtEachEffect}
use Rattle.run_places.specs.Given.SchedulesEntry.{ByCall, acting}
use Rattle.run_places.specs.Given.SchedulesMoment.{UnderWay as CallThere, Moment}
use Rattle.run_places.specs.Given.SchedulesViews.{call_of}
use Rattle.owner_facts.specs.Given.CallersTogether.{UnderWay}
use Rattle.owner_facts.specs.Given.FinishesMachines.{machine_of}
use Rattle.run_places.specs.Given.ScenesScene.{Scene, slot_of}

-- a call on one key is about to count the pair that it has stored or removed
abbrev pub counts_in_calling : Calling → Bool
counts_in_calling (calling.Counts removed) = true
counts_in_calling _ = false

-- a sweep is about to count one that it has removed
abbrev pub counts_in_sweeping : Sweeping → Bool
counts_in_sweeping (sweeping.Counts removed) = true
counts_in_sweeping _ = false

-- nothing else ever is
abbrev pub is_to_count : {K V Q : Type 0} → Machine K V Q → Bool
is_to_count (kinds.Key p) = counts_in_calling p.stands
is_to_count (kinds.Sweep c) = counts_in_sweeping c.stands
is_to_count (kinds.Reserve r) = false
is_to_count (kinds.Count sum) = false

-- so many pairs are to be counted just if this says so
abbrev pub HasToCount : Bool → ℕ → Type 0
HasToCount true n = 0 < n
HasToCount false n = n ≡ 0

-- each call under way has gained or lost a pair that it has not counted, just if its machine is about to count
pub record RefinesCounts {K V : Type 0} (name : ℕ → List ℕ) (m : Moment K V) (s : Scene K V) : Type 0 where
  pub counts : (map i : ℕ) (u : UnderWay K V K) → s.calls map i ≡ Some u → (c : CallThere K V) → call_of (name i) m ≡ Some c → HasToCount (is_to_count (machine_of u)) (c.gained + c.lost)

-- the shard of a map's count in which a caller counts
abbrev pub shard_for : ℕ → Setting → ℕ
shard_for i setting = bit_and (slot_of i) setting.mask

module _ {K V : Type 0} where
  -- a call that counts has something to count, and does so in this shard
  abbrev pub FindsCount : ℕ → Effect → CallThere K V → Type 0
  FindsCount shard (Counted s) c = (0 < c.gained + c.lost) × (s ≡ shard)
  FindsCount shard _ c = Unit {0}

  -- so it is for each of these effects of the call of this name
  abbrev pub FindCounts : ℕ → List ℕ → ℕ → List Effect → Moment K V → Type 0
  FindCounts shard own map effects m = AtEachEffect (λ v f. ByCall (FindsCount shard f) (acting (Some own) v)) (Some own) (Some map) effects m
