-- Which events make no steps, and wait for nothing, and which forms an event may have.
use Rattle.std.specs.Prelude.{◌≡◌, ℕ, Bool, false, List, [], Option, Some, None}
use Rattle.std.proofs.Common.{refl, sym, subst, arith}
use Rattle.seize_words.specs.declared.fault.Fault.{Fault}
use Rattle.seize_words.specs.declared.fault.Fault.TheVariants.{Busy}
use Rattle.run_schedules.specs.declared.effect.Effect.{Effect}
use Rattle.run_schedules.specs.declared.event.Event.{Event}
use Rattle.run_schedules.specs.declared.event.Event.TheVariants.{Collector, Hash, Choose, Register, Unregister, Enter, Own, Refresh, Flush, DropGuard, Forget, ReclaimAll, Close, MakeMap, EndMap, ShowShape, Begin, Step, Go, Replied, OneCall, Next, Stop}
use Rattle.run_schedules.specs.declared.outcome.Outcome.{Outcome}
use Rattle.run_schedules.specs.declared.outcome.Outcome.TheVariants.{Refused}
use Rattle.run_schedules.specs.Schedules.After.{moment}
use Rattle.run_schedules.specs.Schedules.Effects.{worked}
use Rattle.run_schedules.specs.Schedules.Entry.{Entry, IfCall, acting, caller_of}
use Rattle.run_schedules.specs.Schedules.InTurn.{IsKeptOut}
use Rattle.run_schedules.specs.Schedules.Moment.{Moment, CallState, UnderWay}
use Rattle.run_schedules.specs.Schedules.Steps.{DoesFew, MakesSteps}
use Rattle.run_schedules.specs.Schedules.Waiting.{WaitsLawfully, WaitsRight}
use Rattle.play_events.proofs.Given.SchedulerRights.{entry}
use Rattle.play_events.specs.Events.Asked.{takes_steps}

-- what does nothing does few
pub does_nothing : (own : Option (List ℕ)) (steps : ℕ) (effects : List Effect) → effects ≡ [] → DoesFew own steps effects
does_nothing None steps effects none = tt
does_nothing (Some caller) steps effects none = subst (λ (l : List Effect). DoesFew (Some caller) steps l) (sym none) (omega arith)

module _ {K V : Type 0} where
  none_made : (form : Event K V) → takes_steps form ≡ false → (stand : CallState) (o : Outcome V) → MakesSteps form stand 0 o
  none_made form so stand (Refused Busy) = refl
  none_made (Collector setup) so stand o = refl
  none_made (Hash by) so stand o = refl
  none_made (Choose choice) so stand o = refl
  none_made (Register r) so stand o = refl
  none_made (Unregister r) so stand o = refl
  none_made (Enter g r) so stand o = refl
  none_made (Own g) so stand o = refl
  none_made (Refresh g) so stand o = refl
  none_made (Flush g) so stand o = refl
  none_made (DropGuard g) so stand o = refl
  none_made (Forget g) so stand o = refl
  none_made ReclaimAll so stand o = refl
  none_made Close so stand o = refl
  none_made (MakeMap n mode c) so stand o = refl
  none_made (EndMap n) so stand o = refl
  none_made (ShowShape n) so stand o = refl
  none_made (Begin c g n call) so stand o = refl
  none_made (Replied c reply) so stand o = refl
  none_made (Stop c) so stand o = refl
  none_made (Step c refuse) so stand o = absurd (cc so)
  none_made (Go c refuse) so stand o = absurd (cc so)
  none_made (OneCall g n call) so stand o = absurd (cc so)
  none_made (Next c) so stand o = absurd (cc so)

  -- an event by which no call takes steps makes none,
  pub makes_none : (form : Event K V) → takes_steps form ≡ false → (stand : CallState) (steps : ℕ) → steps ≡ 0 → (o : Outcome V) → MakesSteps form stand steps o
  makes_none form so stand steps none o = subst (λ (n : ℕ). MakesSteps form stand n o) (sym none) (none_made form so stand o)

  -- it speaks of no call,
  no_caller : (form : Event K V) → takes_steps form ≡ false → caller_of form ≡ None
  no_caller (Step c refuse) so = absurd (cc so)
  no_caller (Go c refuse) so = absurd (cc so)
  no_caller (OneCall g n call) so = absurd (cc so)
  no_caller (Next c) so = absurd (cc so)
  no_caller _ so = refl

  -- and its effects are of none
  pub does_none : (form : Event K V) → takes_steps form ≡ false → (steps : ℕ) (effects : List Effect) → DoesFew (caller_of form) steps effects
  does_none form so steps effects = subst (λ (own : Option (List ℕ)). DoesFew own steps effects) (sym (no_caller form so)) tt

  busy_makes : (form : Event K V) (stand : CallState) (o : Outcome V) → o ≡ Refused Busy → MakesSteps form stand 0 o
  busy_makes form stand o is = subst (λ (x : Outcome V). MakesSteps form stand 0 x) (sym is) refl

  -- nor does one that is kept out
  out_makes : (form : Event K V) (stand : CallState) (o : Outcome V) → IsKeptOut form o → MakesSteps form stand 0 o
  out_makes (MakeMap n mode c) stand o out = none_made (MakeMap n mode c) refl stand o
  out_makes form stand (Refused Busy) out = refl
  out_makes (Collector setup) stand o out = none_made (Collector setup) refl stand o
  out_makes (Hash by) stand o out = none_made (Hash by) refl stand o
  out_makes (Choose choice) stand o out = none_made (Choose choice) refl stand o
  out_makes (Register r) stand o out = none_made (Register r) refl stand o
  out_makes (Unregister r) stand o out = none_made (Unregister r) refl stand o
  out_makes (Enter g r) stand o out = none_made (Enter g r) refl stand o
  out_makes (Own g) stand o out = none_made (Own g) refl stand o
  out_makes (Refresh g) stand o out = none_made (Refresh g) refl stand o
  out_makes (Flush g) stand o out = none_made (Flush g) refl stand o
  out_makes (DropGuard g) stand o out = none_made (DropGuard g) refl stand o
  out_makes (Forget g) stand o out = none_made (Forget g) refl stand o
  out_makes ReclaimAll stand o out = none_made ReclaimAll refl stand o
  out_makes Close stand o out = none_made Close refl stand o
  out_makes (EndMap n) stand o out = none_made (EndMap n) refl stand o
  out_makes (ShowShape n) stand o out = none_made (ShowShape n) refl stand o
  out_makes (Begin c g n call) stand o out = none_made (Begin c g n call) refl stand o
  out_makes (Replied c reply) stand o out = none_made (Replied c reply) refl stand o
  out_makes (Stop c) stand o out = none_made (Stop c) refl stand o
  out_makes (Step c refuse) stand o out = busy_makes (Step c refuse) stand o out
  out_makes (Go c refuse) stand o out = busy_makes (Go c refuse) stand o out
  out_makes (OneCall g n call) stand o out = busy_makes (OneCall g n call) stand o out
  out_makes (Next c) stand o out = busy_makes (Next c) stand o out

  pub makes_out : (form : Event K V) (stand : CallState) (steps : ℕ) → steps ≡ 0 → (o : Outcome V) → IsKeptOut form o → MakesSteps form stand steps o
  makes_out form stand steps none o out = subst (λ (n : ℕ). MakesSteps form stand n o) (sym none) (out_makes form stand o out)

  -- nor does either wait
  module _ (same : K → K → Bool) where
    pub waits_none : (form : Event K V) → takes_steps form ≡ false → (o : Outcome V) (steps : ℕ) (effects : List Effect) (log : List (Entry K V)) → WaitsLawfully same log (entry form o steps effects)
    waits_none form so o steps effects log =
        let w = worked (entry form o steps effects) (moment log) in
        subst (λ (own : Option (List ℕ)). IfCall (λ c. WaitsRight same o c w) (acting own w)) (sym (no_caller form so)) tt

    refused_waits : (fault : Fault) (o : Outcome V) → o ≡ Refused fault → (c : Option (UnderWay K V)) (w : Moment K V) → IfCall (λ c. WaitsRight same o c w) c
    refused_waits fault o is None w = tt
    refused_waits fault o is (Some c) w = subst (λ (x : Outcome V). WaitsRight same x c w) (sym is) tt

    pub waits_out : (form : Event K V) (o : Outcome V) → IsKeptOut form o → (steps : ℕ) (effects : List Effect) (log : List (Entry K V)) → WaitsLawfully same log (entry form o steps effects)
    waits_out (MakeMap n mode c) o out steps effects log = waits_none (MakeMap n mode c) refl o steps effects log
    waits_out form o out steps effects log =
        let w = worked (entry form o steps effects) (moment log) in refused_waits Busy o out (acting (caller_of form) w) w
