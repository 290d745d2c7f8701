-- Calls between their steps, with what they were told: where one begins, is told a reply, or has come to an outcome.
use Rattle.std.specs.Prelude.{◌≡◌, ℕ, Bool, true, List, [], Option, Some, Ok}
use Rattle.run_shows.specs.Given.SeizeWorld.{Rests}
use Rattle.run_shows.specs.Given.RunsSame.{is_same}
use Rattle.run_shows.specs.Given.RawMachine.{machine_replied}
use Rattle.run_shows.specs.Given.RunsDeclared.call.Call.{Call}
use Rattle.run_shows.specs.Given.RunsDeclared.call.Call.TheVariants.{On}
use Rattle.run_shows.specs.Given.RunsDeclared.call.Reply.{Reply}
use Rattle.run_shows.specs.Given.RunsDeclared.outcome.Outcome.{Outcome}
use Rattle.run_shows.specs.Given.RunsDeclared.outcome.Outcome.TheVariants.{Asks}
use Rattle.run_shows.specs.Given.SchedulesBeginning.{with_call}
use Rattle.run_shows.specs.Given.SchedulesEntry.{ends_call}
use Rattle.run_shows.specs.Given.SchedulesMoment.{Asking, UnderWay as CallThere, Moment}
use Rattle.run_shows.specs.Given.SchedulesViews.{call_of}
use Rattle.run_shows.specs.Given.CallersTogether.{UnderWay, OnKey}
use Rattle.run_shows.specs.Given.FinishesMachines.{machine_of, RepliedOfKind}
use Rattle.run_shows.specs.Given.FinishesMaps.{Standing}
use Rattle.run_shows.specs.Given.EffectsKnown.{Known}
use Rattle.run_shows.specs.Follows.Calls.{IsCalled}
use Rattle.run_shows.specs.Follows.Calling.{NoneNamed, told, come_to}
use Rattle.run_places.specs.Hands.Asked.{reply_to_machine, given_by, AsksThere}
use Rattle.run_places.specs.Hands.Shows.{RefinesHeld}
use Rattle.run_shows.specs.Scenes.Held.{Held, IsAt}
use Rattle.run_shows.specs.Scenes.Replying.{scene_with}
use Rattle.run_shows.specs.Scenes.Scene.{Scene, slot_of}

module _ {K V : Type 0} where
  -- a call on one key begins with what was called, and was told nothing
  abbrev pub IsBegunFor : UnderWay K V K → Call K V → Type 0
  IsBegunFor (OnKey u) (On one) = u.pair ≡ given_by one []
  IsBegunFor _ _ = Unit {0}

  -- a call on one key asks just what it is said to ask
  abbrev pub AsksJust : Known → UnderWay K V K → Outcome V → Type 0
  AsksJust known (OnKey u) (Asks question) = AsksThere known u.call.stands question
  AsksJust known _ _ = Unit {0}

module _ (K V : Type 0) (same : K → K → Bool) where
  -- The promises: a call begins by a name that no call under way has, and where its caller has no row under way,
  abbrev pub CallsBeginFor : Type 0
  CallsBeginFor =
      (name : ℕ → List ℕ) (m : Moment K V) (known : Known) (s : Scene K V) → RefinesHeld same name m known s
      → (map i : ℕ) (u : UnderWay K V K) (call : Call K V) (guard : List ℕ) → NoneNamed name (name i) s → IsCalled same u call → IsBegunFor u call → s.world.row i ≡ Rests
      → RefinesHeld same name (with_call (name i) guard call (Some map) m) known (scene_with map i u s)

  -- it comes to an outcome: where it asks, it asks just that, and where it has ended, no call under way has its name any more.
  abbrev pub CallsComeToSo : Type 0
  CallsComeToSo =
      (name : ℕ → List ℕ) (m : Moment K V) (known : Known) (s : Scene K V) → RefinesHeld same name m known s
      → (own : List ℕ) (outcome : Outcome V) (steps : ℕ) → (ends_call outcome ≡ true → NoneNamed name own s)
      → ((map i : ℕ) (u : UnderWay K V K) → s.calls map i ≡ Some u → is_same (name i) own ≡ true → AsksJust known u outcome)
      → RefinesHeld same name (come_to own outcome steps m) known s

module _ (K V : Type 0) (same : K → K → Bool) (hash : ℕ → K → ℕ) where
  -- and one that asks takes what it is told.
  abbrev pub CallsTake : Type 0
  CallsTake =
      (name : ℕ → List ℕ) (m : Moment K V) (known : Known) (s : Scene K V) (e : Held K V) → IsAt same hash e s → RefinesHeld same name m known s
      → (map i : ℕ) (u : UnderWay K V K) → s.calls map i ≡ Some u → (c : CallThere K V) → call_of (name i) m ≡ Some c → (question : Option ℕ) → c.stands ≡ Asking question
      → (standing : Standing K) → s.maps map ≡ Some standing → (is_told : Reply V) (next : UnderWay K V K)
      → machine_of next ≡ (machine_replied (machine_of u) (reply_to_machine is_told)).0 → (machine_replied (machine_of u) (reply_to_machine is_told)).1 ≡ Ok tt
      → RepliedOfKind V same same e.batch_size e.roots slot_of standing i u (reply_to_machine is_told) next
      → RefinesHeld same name (told (name i) is_told m) known (scene_with map i next s)
