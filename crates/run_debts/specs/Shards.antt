-- What is promised of the shard in which a call counts, in the words of schedules: it is that of the slot of its guard, where a moment shows the guard there.
use Rattle.std.specs.Prelude.{◌≡◌, ℕ, ◌+◌, Bool, true, false, List, Some}
use Rattle.run_places.specs.Given.TablesDeclared.setting.Setting.{Setting}
use Rattle.run_places.specs.Given.RunsPresent.{slot_of_guard}
use Rattle.run_places.specs.Given.RunsDeclared.effect.Effect.{Effect}
use Rattle.run_places.specs.Given.RunsDeclared.effect.Effect.TheVariants.{Counted}
use Rattle.run_places.specs.Given.SchedulesEffects.{AtEachEffect}
use Rattle.run_places.specs.Given.SchedulesEntry.{ByCall, acting}
use Rattle.run_places.specs.Given.SchedulesLives.{CallFinds}
use Rattle.run_places.specs.Given.SchedulesMoment.{UnderWay as CallThere, Moment}
use Rattle.run_places.specs.Given.SchedulesTerms.{Terms, shards_of}
use Rattle.run_places.specs.Given.SchedulesViews.{call_of}
use Rattle.run_debts.specs.Counts.{shard_for, FindCounts}
use Rattle.run_places.specs.Given.ScenesScene.{slot_of}

-- an effect that counts
abbrev pub is_counting : Effect → Bool
is_counting (Counted s) = true
is_counting _ = false

-- The promise of a call on a map that was made with as many shards as the terms say: where its guard is on the slot of its caller, each effect that counts finds
-- what it must.
abbrev pub CountsFindShards : Type 0 → Type 0 → Type 0
CountsFindShards K V =
    (terms : Terms) (i : ℕ) (setting : Setting) → setting.mask + 1 ≡ shards_of terms
    → (own : List ℕ) (map : ℕ) (effects : List Effect) (m : Moment K V) (c : CallThere K V) → call_of own m ≡ Some c → slot_of_guard c.guard m.there ≡ slot_of i
    → FindCounts (shard_for i setting) own map effects m
    → (moments : List (Moment K V)) → AtEachEffect (λ v f. is_counting f ≡ true → ByCall (CallFinds terms moments v f) (acting (Some own) v)) (Some own) (Some map) effects m
