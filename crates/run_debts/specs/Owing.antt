-- What effects of a call do to its obligations: they take something out of its map, or hand over its obligations first, which they find there.
use Rattle.std.specs.Prelude.{◌≡◌, ℕ, Bool, true, false, MatchBool, List, [], ◌∷◌, ◌++◌, Some}
use Rattle.std.specs.List.{list_any}
use Rattle.run_places.specs.Given.TablesDeclared.node.Node.{Node}
use Rattle.run_places.specs.Given.RawDeclared.machines.progress.Progress.{Progress}
use Rattle.run_places.specs.Given.RunsDeclared.effect.Effect.{Effect}
use Rattle.run_places.specs.Given.RunsDeclared.effect.Effect.TheVariants.{Promoted, Stored, Replaced, Removed, Deferred, Retired}
use Rattle.run_places.specs.Given.RunsDeclared.effect.Spot.{Spot}
use Rattle.run_places.specs.Given.RunsDeclared.effect.TableId.{TableId}
use Rattle.run_places.specs.Given.RunsDeclared.effect.Thing.{Thing}
use Rattle.run_places.specs.Given.RunsDeclared.effect.Thing.TheVariants.{APair, ATable}
use Rattle.run_places.specs.Given.SchedulesEffects.{AtEachEffect, passed, with_effects}
use Rattle.run_places.specs.Given.SchedulesEntry.{ByCall, acting}
use Rattle.run_places.specs.Given.SchedulesLists.{is_in}
use Rattle.run_places.specs.Given.SchedulesLives.{is_first_table}
use Rattle.run_places.specs.Given.SchedulesMoment.{UnderWay as CallThere, Moment}
use Rattle.run_places.specs.Given.SchedulesThings.{same_thing}
use Rattle.run_places.specs.Given.SchedulesViews.{call_of, first_of}
use Rattle.owner_facts.specs.Given.CallersTogether.{UnderWay}
use Rattle.run_places.specs.Given.EffectsEffects.{effects_of}
use Rattle.run_places.specs.Given.EffectsKnown.{Known}
use Rattle.run_places.specs.Given.EffectsDeclared.acting.Acting.TheVariants.{Call}
use Rattle.run_places.specs.Given.FollowsShows.{Refines}
use Rattle.run_places.specs.Given.FollowsSteps.{IsOfNoRow}
use Rattle.run_places.specs.Given.ScenesHeld.{Held, IsAt}
use Rattle.run_places.specs.Given.ScenesScene.{Scene}
use Rattle.run_places.specs.Given.ScenesStepping.{StepLeads}

-- it hands something over
abbrev pub hands_over : Effect → Bool
hands_over (Deferred n t) = true
hands_over (Retired x) = true
hands_over _ = false

-- and this
abbrev pub HandsOver : Effect → Thing → Type 0
HandsOver (Deferred n t) x = x ≡ APair n
HandsOver (Retired y) x = x ≡ y
HandsOver _ x = ⊥

-- it takes nothing out of a map, and hands nothing over
abbrev pub leaves_owed : Effect → Bool
leaves_owed (Promoted t) = false
leaves_owed (Replaced n) = false
leaves_owed (Removed n) = false
leaves_owed (Deferred n t) = false
leaves_owed (Retired x) = false
leaves_owed _ = true

abbrev pub AllLeave : List Effect → Type 0
AllLeave [] = Unit {0}
AllLeave (f ∷ fs) = (leaves_owed f ≡ true) × AllLeave fs

module _ {K V : Type 0} where
  -- a call's obligations go with the effects of a step from this to that
  pub data ObligationsGo (m : Moment K V) (effects : List Effect) (before after : List Thing) : Type 0 where
    KeepsOwed : AllLeave effects → after ≡ before → ObligationsGo m effects before after
    TakesOut : (p : ℕ) → effects ≡ Removed p ∷ [] → after ≡ before ++ APair p ∷ [] → ObligationsGo m effects before after
    PutsOver : (p n : ℕ) (s : Spot) → effects ≡ Replaced p ∷ Stored n s ∷ [] → after ≡ before ++ APair p ∷ [] → ObligationsGo m effects before after
    Passes : (t : TableId) → effects ≡ Promoted t ∷ [] → after ≡ before ++ passed t.map (first_of t.map m) t.turn → ObligationsGo m effects before after
    HandsFirst : (f : Effect) (x : Thing) → effects ≡ f ∷ [] → HandsOver f x → before ≡ x ∷ after → ObligationsGo m effects before after

  -- a call that hands something over owes it; and of tables, where calls come one after another, the first
  abbrev pub FindsObligation : Moment K V → Effect → CallThere K V → Type 0
  FindsObligation m (Retired (APair n)) c = is_in same_thing (APair n) c.owes ≡ true
  FindsObligation m (Retired (ATable t)) c = MatchBool m.is_alone (is_first_table t c.owes ≡ true) (is_in same_thing (ATable t) c.owes ≡ true)
  FindsObligation m (Deferred n t) c = is_in same_thing (APair n) c.owes ≡ true
  FindsObligation m _ c = Unit {0}

-- The promise, of effects of a call's step: where its obligations go so, they find what they hand over, and it owes that after them,
abbrev pub ObligationsFollow : Type 0 → Type 0 → Type 0
ObligationsFollow K V =
    (own : List ℕ) (map : ℕ) (effects : List Effect) (m : Moment K V) (c : CallThere K V) → call_of own m ≡ Some c → (after : List Thing) → ObligationsGo m effects c.owes after
    → AtEachEffect (λ v f. ByCall (FindsObligation v f) (acting (Some own) v)) (Some own) (Some map) effects m
    × (d : CallThere K V) × (call_of own (with_effects (Some own) (Some map) effects m) ≡ Some d) × (d.owes ≡ after)

-- The promise, of a step of a call that is none of a row: it hands nothing over, and what it takes out comes behind what the call owed.
abbrev pub StepsTakeOut : (K V : Type 0) (same : K → K → Bool) (hash : ℕ → K → ℕ) → Type 0
StepsTakeOut K V same hash =
    (name : ℕ → List ℕ) (m : Moment K V) (known : Known) (s : Scene K V) (old new : Held K V) → IsAt same hash old s → Refines same name m known s
    → (map i : ℕ) (u : UnderWay K V K) (here : s.calls map i ≡ Some u) (said : Progress (Node K V)) (leads : StepLeads same hash i said s old new)
    → (let to = leads map u here in
    IsOfNoRow same old.batch_size old.roots s.world s.maps s.calls s.makers s.enders map to.0 i new.memory to.4.w2 to.4.maps2 to.4.next u to.1 said to.4.did
    → (owes : List Thing) → (taken : List Thing) × ObligationsGo m (effects_of (Call i map) known new.changed) owes (owes ++ taken)
    × (list_any hands_over (effects_of (Call i map) known new.changed) ≡ false))
