-- Nothing is counted on a map of a number that none has had yet, whatever is done.
use Rattle.std.specs.Prelude.{◌≡◌, ◌≢◌, ◌<◌, ◌≤◌, ℕ, Bool, List, [], ◌∷◌, Option, Some}
use Rattle.std.proofs.Common.{refl, ap, ◌∙◌, arith}
use Rattle.run_grows.specs.Given.TablesDeclared.node.Node.{Node}
use Rattle.run_grows.specs.Given.RawDeclared.machines.progress.Progress.{Progress}
use Rattle.run_grows.specs.Given.RunsDeclared.effect.Effect.{Effect}
use Rattle.run_grows.specs.Given.SchedulesEffects.{with_effect, with_effects}
use Rattle.run_grows.specs.Given.SchedulesMoment.{Moment}
use Rattle.run_grows.specs.Given.CallersTogether.{UnderWay}
use Rattle.run_grows.specs.Given.EffectsEffects.{effects_of}
use Rattle.run_grows.specs.Given.EffectsKnown.{Known}
use Rattle.run_grows.specs.Given.EffectsDeclared.acting.Acting.TheVariants as acts
use Rattle.run_grows.specs.Given.MomentsWhole.{RefinesWhole}
use Rattle.run_grows.specs.Given.KeptKept.{RefinesKept}
use Rattle.run_grows.specs.Given.ShardsShardWords.{RefinesCounters}
use Rattle.run_grows.proofs.Given.ShardsShardNumbers.{calls_spare_others}
use Rattle.run_legal.specs.Carried.{NoneCounted}
use Rattle.run_grows.specs.Given.ScenesHeld.{Held, IsAt}
use Rattle.run_grows.specs.Given.ScenesScene.{Scene}
use Rattle.run_grows.specs.Given.ScenesStepping.{StepLeads}

-- no effect makes a map
module _ {K V : Type 0} (caller : Option (List ℕ)) (acted : Option ℕ) where
  made_still : (effects : List Effect) (m : Moment K V) → (with_effects caller acted effects m).made ≡ m.made
  made_still [] m = refl
  made_still (f ∷ effects) m = made_still effects (with_effect caller acted f m)

  -- where no shard is another one, nor is one of such a map
  pub none_counted : (effects : List Effect) (m : Moment K V) → NoneCounted m → (with_effects caller acted effects m).shards ≡ m.shards → NoneCounted (with_effects caller acted effects m)
  none_counted effects m none same of low shard =
      let before : m.made ≤ of = (let made = made_still effects m in omega (arith, made, low)) in ap (λ (f : ℕ → ℕ → ℕ). f of shard) same ∙ none of before shard

-- a step of a call counts on its map alone, which was made
pub calls_leave_uncounted : {K V : Type 0} (same : K → K → Bool) (hash : ℕ → K → ℕ) (name : ℕ → List ℕ) (m : Moment K V) (known : Known) (s : Scene K V) (old new : Held K V) → IsAt same hash old s
    → RefinesWhole same name m known s → RefinesKept name m known s → RefinesCounters name m s → NoneCounted m
    → (map i : ℕ) (u : UnderWay K V K) (here : s.calls map i ≡ Some u) (said : Progress (Node K V)) (leads : StepLeads same hash i said s old new) → map < m.made
    → NoneCounted (with_effects (Some (name i)) (Some map) (effects_of (acts.Call i map) known new.changed) m)
calls_leave_uncounted same hash name m known s old new at whole kept counters none map i u here said leads below of low shard =
    let before : m.made ≤ of =
    (let made = made_still (Some (name i)) (Some map) (effects_of (acts.Call i map) known new.changed) m in omega (arith, made, low)) in
    let other : of ≢ map = (λ e. (let past : map < of = omega (arith, below, before) in absurd (omega (arith, past, e)))) in
    ap (λ (f : ℕ → ℕ). f shard) (calls_spare_others same hash name m known s old new at whole kept.counts counters map i u here said leads of other) ∙ none of before shard
