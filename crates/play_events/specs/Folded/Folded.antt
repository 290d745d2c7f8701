-- What calls take out of their maps, and what they hand over: effect by effect, and over all events of a call.
use Rattle.std.specs.Prelude.{◌≡◌, ℕ, nat_lt, true, List, [], ◌∷◌, ◌++◌, flat_map, length, Option, Some, None, if◌then◌else◌}
use Rattle.run_schedules.specs.Runs.Same.{is_same}
use Rattle.run_schedules.specs.declared.effect.Effect.{Effect}
use Rattle.run_schedules.specs.declared.effect.Effect.TheVariants.{Deferred, Retired}
use Rattle.run_schedules.specs.declared.effect.TableId.{TableId}
use Rattle.run_schedules.specs.declared.effect.Thing.{Thing}
use Rattle.run_schedules.specs.declared.effect.Thing.TheVariants.{APair}
use Rattle.run_schedules.specs.Schedules.After.{AtEachEvent, moment}
use Rattle.run_schedules.specs.Schedules.Beginning.{at_work}
use Rattle.run_schedules.specs.Schedules.Effects.{AtEachEffect, out_by, with_effect, with_effects, worked}
use Rattle.run_schedules.specs.Schedules.Entry.{ByCall, Entry, IfCall, acted_on, acting, caller_of}
use Rattle.run_schedules.specs.Schedules.Handing.{MovesOn, is_clear_outcome}
use Rattle.run_schedules.specs.Schedules.Lives.{MayDefer}
use Rattle.run_schedules.specs.Schedules.Moment.{UnderWay as CallThere, Moment}
use Rattle.run_schedules.specs.Schedules.Terms.{Terms}
use Rattle.run_schedules.specs.Schedules.Views.{call_of}

-- what an effect hands over
abbrev pub handed_in : Effect → List Thing
handed_in (Deferred n t) = APair n ∷ []
handed_in (Retired x) = x ∷ []
handed_in _ = []

-- this, if the event is one of the call of this caller
abbrev pub if_its : List ℕ → Option (List ℕ) → List Thing → List Thing
if_its own None things = []
if_its own (Some caller) things = if is_same caller own then things else []

module _ {K V : Type 0} where
  -- what an effect hands over its call owes first
  abbrev pub IsFirstObligation : Effect → CallThere K V → Type 0
  IsFirstObligation f c = (rest : List Thing) × (c.owes ≡ handed_in f ++ rest)

  -- so it is of each of these effects of a caller, if it has a call
  abbrev pub HandInOrder : Option (List ℕ) → Option ℕ → List Effect → Moment K V → Type 0
  HandInOrder caller map effects m = AtEachEffect (λ v f. IfCall (IsFirstObligation f) (acting caller v)) caller map effects m

  -- what effects take out of their map, one after another
  abbrev pub out_in : Option (List ℕ) → Option ℕ → List Effect → Moment K V → List Thing
  out_in caller map [] m = []
  out_in caller map (f ∷ effects) m = out_by m f ++ out_in caller map effects (with_effect caller map f m)

  -- of an event of a run: its effects hand over in order,
  abbrev pub HandsInOrder : List (Entry K V) → Entry K V → Type 0
  HandsInOrder log e = let b = at_work e (moment log) in HandInOrder (caller_of e.event) (acted_on e.event b) e.effects b

  -- this they took out,
  abbrev pub took : Moment K V → Entry K V → List Thing
  took m e = let b = at_work e m in out_in (caller_of e.event) (acted_on e.event b) e.effects b

  -- and this they handed over
  abbrev pub handed : Moment K V → Entry K V → List Thing
  handed m e = flat_map handed_in e.effects

  -- what the events of a caller's call did since so many had come, one after another
  abbrev pub since : (Moment K V → Entry K V → List Thing) → ℕ → List ℕ → List (Entry K V) → List Thing
  since did begun own [] = []
  since did begun own (e ∷ log) = if nat_lt (length log) begun then [] else since did begun own log ++ if_its own (caller_of e.event) (did (moment log) e)

  -- Of an event with which a call ends, or is ready: the call has handed over just what it took out since it began, one thing after another.
  abbrev pub HandsAllOver : List (Entry K V) → Entry K V → Type 0
  HandsAllOver log e =
      is_clear_outcome e.outcome ≡ true → (own : List ℕ) → caller_of e.event ≡ Some own → (c : CallThere K V) → call_of own (worked e (moment log)) ≡ Some c
      → since handed c.begun own (e ∷ log) ≡ since took c.begun own (e ∷ log)

module _ (K V : Type 0) where
  -- The promises: by effects that hand over in order, what a call owed and what they take out is what they hand over, and behind that its obligations then;
  abbrev pub EffectsFold : Type 0
  EffectsFold =
      (own : List ℕ) (map : Option ℕ) (effects : List Effect) (m : Moment K V) (c : CallThere K V) → call_of own m ≡ Some c → HandInOrder (Some own) map effects m
      → (d : CallThere K V) × (call_of own (with_effects (Some own) map effects m) ≡ Some d) × (d.begun ≡ c.begun)
      × (c.owes ++ out_in (Some own) map effects m ≡ flat_map handed_in effects ++ d.owes)

  -- so what a call under way took out since it began is what it has handed over, and behind that its obligations, whatever others did meanwhile;
  abbrev pub CallsFold : Type 0
  CallsFold =
      (log : List (Entry K V)) → AtEachEvent HandsInOrder log → (own : List ℕ) (c : CallThere K V) → call_of own (moment log) ≡ Some c
      → since took c.begun own log ≡ since handed c.begun own log ++ c.owes

  -- and one that has ended, or is ready, and leaves nothing behind, has handed over just what it took out.
  abbrev pub EndedCallsFold : Type 0
  EndedCallsFold = (terms : Terms) (log : List (Entry K V)) (e : Entry K V) → AtEachEvent HandsInOrder (e ∷ log) → MovesOn terms log e → HandsAllOver log e

  -- A pair that it put behind a table was put where it may wait.
  abbrev pub DeferralsAreRight : Type 0
  DeferralsAreRight =
      (terms : Terms) (log : List (Entry K V)) (e : Entry K V) → MovesOn terms log e
      → (let b = at_work e (moment log) in
      AtEachEffect (λ v f. (n : ℕ) (t : TableId) → f ≡ Deferred n t → ByCall (λ c. MayDefer c.map v n t) (acting (caller_of e.event) v)) (caller_of e.event) (acted_on e.event b) e.effects b)
