-- What a row hands over that begins with a step of a call: it is noted, as a thing that came into a map.
use Rattle.std.specs.Prelude.{◌≡◌, ℕ, ◌≤◌, Bool, true, List, [], ◌∷◌, ◌++◌, flat_map, length, Option, Some}
use Rattle.std.specs.List.{AllByRecursion}
use Rattle.run_grows.specs.Given.SeizeWorld.{World, Request, Begin, Step, Happens}
use Rattle.run_grows.specs.Given.RawDeclared.machines.progress.Progress.{Progress}
use Rattle.run_grows.specs.Given.TablesNodes.{deferred_word}
use Rattle.run_grows.specs.Given.TablesDeclared.node.Node.{Node}
use Rattle.run_grows.specs.Given.RunsDeclared.effect.Thing.{Thing}
use Rattle.run_grows.specs.Given.RunsDeclared.effect.Thing.TheVariants.{APair, ATable}
use Rattle.run_grows.specs.Given.SchedulesAfter.{moment}
use Rattle.run_grows.specs.Given.SchedulesBeginning.{at_work}
use Rattle.run_grows.specs.Given.SchedulesEffects.{with_effects}
use Rattle.run_grows.specs.Given.SchedulesEntry.{Entry}
use Rattle.run_grows.specs.Given.SchedulesHanding.{AllFind}
use Rattle.run_grows.specs.Given.SchedulesLists.{is_in}
use Rattle.run_grows.specs.Given.SchedulesModel.{came, things_in}
use Rattle.run_grows.specs.Given.SchedulesMoment.{Moment, start}
use Rattle.run_grows.specs.Given.SchedulesTerms.{Terms}
use Rattle.run_grows.specs.Given.SchedulesThings.{same_thing}
use Rattle.run_grows.specs.Given.EffectsDeclared.changed.Changed.{Changed}
use Rattle.run_grows.specs.Given.CallersTogether.{UnderWay, HandsOver}
use Rattle.run_grows.specs.Given.EffectsEffects.{effects_of}
use Rattle.run_grows.specs.Given.EffectsKnown.{Known}
use Rattle.run_grows.specs.Given.EffectsDeclared.acting.Acting.TheVariants.{Call}
use Rattle.run_grows.specs.Given.MomentsWhole.{RefinesWhole}
use Rattle.run_grows.specs.Given.KeptKept.{RefinesKept}
use Rattle.run_grows.specs.Given.ModelsCallEvents.{IsNoted}
use Rattle.run_grows.specs.Given.ScenesHeld.{Held, IsAt}
use Rattle.run_grows.specs.Given.ScenesScene.{Scene, slot_of}
use Rattle.run_grows.specs.Given.ScenesStepping.{StepLeads}

-- each pair that was stored, and each table that ever was one of a map, is among these things
pub record HaveCome {K V : Type 0} (things : List Thing) (m : Moment K V) : Type 0 where
  pub pairs : (n : ℕ) → 1 ≤ n → n ≤ length m.stored → is_in same_thing (APair n) things ≡ true
  pub tables : AllByRecursion (λ u. is_in same_thing (ATable u.table) things ≡ true) m.tables

module _ (K V : Type 0) where
  -- The promises: so it is before all events,
  abbrev pub NothingHasCome : Type 0
  NothingHasCome = HaveCome {K = K} {V = V} [] start

  -- after whatever an operation of a call does, where as many pairs are noted as were stored,
  abbrev pub CallsBringThings : Type 0
  CallsBringThings =
      (things : List Thing) (m : Moment K V) → HaveCome things m → (known : Known) → known.stored ≡ length m.stored → (i map : ℕ) (told : Changed) (own : Option (List ℕ)) (of : Option ℕ)
      → (let effects = effects_of (Call i map) known told in HaveCome (things ++ flat_map came effects) (with_effects own of effects m))

  -- and after an event whose effects find what they must: of all things that came into maps by then.
  abbrev pub EventsBringThings : Type 0
  EventsBringThings =
      (terms : Terms) (log : List (Entry K V)) (e : Entry K V) → HaveCome (things_in log) (moment log) → AllFind terms log e (at_work e (moment log))
      → HaveCome (things_in (e ∷ log)) (moment (e ∷ log))

-- And where all that was stored and linked is among these things, what a row hands over that begins with a step of a call is noted as one of them, and it does so under the slot of its caller.
abbrev pub CallsHandNoted : (K V : Type 0) (same : K → K → Bool) (hash : ℕ → K → ℕ) → Type 0
CallsHandNoted K V same hash =
    (name : ℕ → List ℕ) (m : Moment K V) (known : Known) (s : Scene K V) (old new : Held K V) → IsAt same hash old s → RefinesWhole same name m known s → RefinesKept name m known s
    → (map i : ℕ) (u : UnderWay K V K) (here : s.calls map i ≡ Some u) (said : Progress (Node K V)) (leads : StepLeads same hash i said s old new)
    → (things : List Thing) → HaveCome things m
    → (let to = leads map u here in
    (request : Request) (begun : World (Node K V)) → HandsOver to.0.setting i s.world request → Happens deferred_word old.batch_size (Begin i request) s.world begun
    → Happens deferred_word old.batch_size (Step i) begun to.4.w2 → IsNoted things known (slot_of i) request)
