-- What is left of what effects of calls find is made up by three parts.
use Rattle.std.specs.Prelude.{◌≡◌, ℕ, List, [], ◌∷◌, Option, Some, None}
use Rattle.run_executor.specs.Given.RunsDeclared.effect.Effect.{Effect}
use Rattle.run_executor.specs.Given.RunsDeclared.effect.Effect.TheVariants as effect
use Rattle.run_executor.specs.Given.RunsDeclared.effect.Growth.TheVariants.{ABlock, ABucket}
use Rattle.run_executor.specs.Given.RunsDeclared.effect.Thing.TheVariants.{APair, ATable}
use Rattle.run_executor.specs.Given.SchedulesEffects.{with_effect}
use Rattle.run_executor.specs.Given.SchedulesEntry.{ByCall, acting}
use Rattle.run_executor.specs.Given.SchedulesMoment.{UnderWay as CallThere, Moment}
use Rattle.run_executor.specs.Given.SchedulesTerms.{Terms}
use Rattle.run_finds.specs.Growing.{FindsAsked, FindAsked}
use Rattle.run_finds.specs.Linking.{FindsShape, FindShapes}
use Rattle.run_finds.specs.Parts.{FindsRest, FindRest}
use Rattle.run_finds.specs.Rest.{FindsHanded, FindHanded, RestIsAll}

module _ {K V : Type 0} (terms : Terms) (moments : List (Moment K V)) where
  -- by the kind of effect
  by_kind : (m : Moment K V) (f : Effect) (c : CallThere K V) → FindsAsked terms moments m f c → FindsShape terms moments m f c → FindsHanded m f c → FindsRest terms moments m f c
  by_kind m (effect.Asked ABlock) c asks shape handed = asks
  by_kind m (effect.Asked ABucket) c asks shape handed = tt
  by_kind m (effect.Linked t form) c asks shape handed = shape
  by_kind m (effect.Deferred n t) c asks shape handed = handed
  by_kind m (effect.Retired (APair n)) c asks shape handed = handed
  by_kind m (effect.Retired (ATable t)) c asks shape handed = tt
  by_kind m _ c asks shape handed = tt

  by_call : (m : Moment K V) (f : Effect) (o : Option (CallThere K V)) → ByCall (FindsAsked terms moments m f) o → ByCall (FindsShape terms moments m f) o → ByCall (FindsHanded m f) o
      → ByCall (FindsRest terms moments m f) o
  by_call m f None asks shape handed = asks
  by_call m f (Some c) asks shape handed = by_kind m f c asks shape handed

  all_joined : (own : List ℕ) (map : ℕ) (effects : List Effect) (m : Moment K V) → FindAsked terms moments own map effects m → FindShapes terms moments own map effects m → FindHanded own map effects m
      → FindRest terms moments own map effects m
  all_joined own map [] m asks shape handed = tt
  all_joined own map (f ∷ fs) m asks shape handed =
      (by_call m f (acting (Some own) m) asks.0 shape.0 handed.0, all_joined own map fs (with_effect (Some own) (Some map) f m) asks.1 shape.1 handed.1)

pub rest_is_all : (K V : Type 0) → RestIsAll K V
rest_is_all K V terms moments own map effects m asks shape handed = all_joined terms moments own map effects m asks shape handed
