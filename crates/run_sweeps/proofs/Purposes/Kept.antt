-- After each step of a call the moment says what calls on whole maps have come to, and what they are for.
use Rattle.std.specs.Prelude.{◌≡◌, ℕ, ◌≤◌, Bool, List, Option, Some, ◌⊎◌}
use Rattle.std.proofs.Common.{ap, sym, subst, ◌∙◌, inl, inr}
use Rattle.run_finds.specs.Given.TablesDeclared.node.Node.{Node}
use Rattle.run_finds.specs.Given.RawDeclared.machines.progress.Progress.{Progress}
use Rattle.run_finds.specs.Given.SchedulesMoment.{UnderWay as CallThere, Moment}
use Rattle.run_finds.specs.Given.SchedulesViews.{call_of}
use Rattle.run_finds.specs.Given.CallersTogether.{UnderWay}
use Rattle.run_finds.specs.Given.FinishesMaps.{Standing}
use Rattle.run_finds.specs.Given.EffectsKnown.{Known}
use Rattle.run_finds.proofs.Given.HandsAsking.{which}
use Rattle.run_finds.specs.Given.MomentsWhole.{RefinesWhole}
use Rattle.run_finds.specs.Given.ChangesKept.{ChangesFirst}
use Rattle.run_sweeps.specs.Purposes.Kept.{PairsChangeFirst, CallsPreservePurposes}
use Rattle.run_finds.specs.Purposes.Purposes.{IsFor, HasCome, RefinesPurposes, NumbersLast}
use Rattle.run_sweeps.proofs.Purposes.Steps.{went, on, v2, scene2, same_call, kept_come, own_come, own_for}
use Rattle.run_sweeps.proofs.Purposes.Still.{for_still}
use Rattle.run_finds.specs.Given.ScenesHeld.{Held, IsAt}
use Rattle.run_finds.specs.Given.ScenesScene.{Scene}
use Rattle.run_finds.specs.Given.ScenesStepping.{StepLeads}
use Rattle.run_finds.specs.Given.SchedulesTransition.{Past}
use Rattle.run_sweeps.proofs.Purposes.Stored.{effects_stored, numbers_last}
use Rattle.run_finds.specs.Given.EffectsEffects.{effects_of}
use Rattle.run_finds.specs.Given.EffectsDeclared.acting.Acting.TheVariants as acts

module _ {K V : Type 0} (same : K → K → Bool) (hash : ℕ → K → ℕ) (name : ℕ → List ℕ) (log : Past K V) (m : Moment K V) (known : Known) (s : Scene K V) (old new : Held K V)
    (at : IsAt same hash old s) (whole : RefinesWhole same name m known s) (purposes : RefinesPurposes same name log m known s) (of i : ℕ) (u : UnderWay K V K) (here : s.calls of i ≡ Some u)
    (said : Progress (Node K V)) (leads : StepLeads same hash i said s old new) where
  abbrev pub then_at : Scene K V
  then_at = scene2 same hash name log m known s old new at whole purposes of i u here said leads

  abbrev pub v : Moment K V
  v = v2 same hash name log m known s old new at whole purposes of i u here said leads

  abbrev pub next : Option (UnderWay K V K)
  next = (went same hash name log m known s old new at whole purposes of i u here said leads).4.next

  abbrev pub number2 : ℕ → ℕ → ℕ
  number2 = (on same hash name log m known s old new at whole purposes of i u here said leads).shows.number

  -- of which call it is
  abbrev pub Which : ℕ → ℕ → UnderWay K V K → Type 0
  Which n j x = ((n ≡ of) × (j ≡ i) × (next ≡ Some x)) ⊎ ((n ≡ of → j ≡ i → ⊥) × (s.calls n j ≡ Some x))

  pub which_is : (n j : ℕ) (x : UnderWay K V K) → then_at.calls n j ≡ Some x → Which n j x
  which_is n j x is = which s.calls of i next n j x is

  pub was_there : (n j : ℕ) (x : UnderWay K V K) → Which n j x → (y : UnderWay K V K) × (s.calls n j ≡ Some y)
  was_there n j x (inl its) = (u, ap (λ (k : ℕ). s.calls k j) its.0 ∙ ap (s.calls of) its.1 ∙ here)
  was_there n j x (inr other) = (x, other.1)

  pub lasts_then : NumbersLast log v
  lasts_then = numbers_last log m v (effects_stored (Some (name i)) (Some of) (effects_of (acts.Call i of) known new.changed) m) purposes.lasts

  pub begun_then : (n j : ℕ) (x : UnderWay K V K) (d : CallThere K V) → call_of (name j) v ≡ Some d → Which n j x → d.begun ≤ log.entries
  begun_then n j x d d_is w =
      let y = was_there n j x w in
      let c = purposes.shown.calls n j y.0 y.1 in
      subst (λ (b : ℕ). b ≤ log.entries) (sym (same_call same hash name log m known s old new at whole purposes of i u here said leads j c.0 d c.1 d_is).begun) (purposes.begun n j y.0 y.1 c.0 c.1)

  pub for_then : (n j : ℕ) (x : UnderWay K V K) (d : CallThere K V) → call_of (name j) v ≡ Some d → Which n j x → IsFor x d.call
  for_then n j x d d_is (inl its) =
      let c = purposes.shown.calls of i u here in
      let still = same_call same hash name log m known s old new at whole purposes of i u here said leads i c.0 d c.1 (ap (λ (k : ℕ). call_of (name k) v) (sym its.1) ∙ d_is) in
      let to = went same hash name log m known s old new at whole purposes of i u here said leads in
      for_still c.0 d still x (own_for same hash name log m known s old new at whole purposes of i u here said leads c.0.call u (purposes.is_for of i u here c.0 c.1) to.3 to.4.did x its.2)
  for_then n j x d d_is (inr other) =
      let c = purposes.shown.calls n j x other.1 in
      for_still c.0 d (same_call same hash name log m known s old new at whole purposes of i u here said leads j c.0 d c.1 d_is) x (purposes.is_for n j x other.1 c.0 c.1)

  module _ (changes : PairsChangeFirst log m of v) (class_first : ChangesFirst log m same of v) where
    pub other_come : (n j : ℕ) (x : UnderWay K V K) → s.calls n j ≡ Some x → (st : Standing K) → then_at.maps n ≡ Some st → (d : CallThere K V) → call_of (name j) v ≡ Some d
        → HasCome same n st (number2 n) log v x d
    other_come n j x is st there d d_is =
        let c = purposes.shown.calls n j x is in
        kept_come same hash name log m known s old new at whole purposes of i u here said leads changes n j x is st there c.0 d c.1 d_is class_first

    come_then : ((x : UnderWay K V K) → next ≡ Some x → (st : Standing K) → then_at.maps of ≡ Some st → (d : CallThere K V) → call_of (name i) v ≡ Some d → HasCome same of st (number2 of) log v x d)
        → (n j : ℕ) (x : UnderWay K V K) (st : Standing K) → then_at.maps n ≡ Some st → (d : CallThere K V) → call_of (name j) v ≡ Some d → Which n j x → HasCome same n st (number2 n) log v x d
    come_then own n j x st there d d_is (inl its) =
        subst (λ (k : ℕ). HasCome same k st (number2 k) log v x d) (sym its.0)
        (own x its.2 st (ap then_at.maps (sym its.0) ∙ there) d (ap (λ (k : ℕ). call_of (name k) v) (sym its.1) ∙ d_is))
    come_then own n j x st there d d_is (inr other) = other_come n j x other.1 st there d d_is

pub calls_keep_purposes : (K V : Type 0) (same : K → K → Bool) (hash : ℕ → K → ℕ) → CallsPreservePurposes K V same hash
calls_keep_purposes K V same hash name log m known s old new at whole purposes of i u here said leads changes class_first reads none =
    record {
      past = purposes.past;
      lasts = lasts_then same hash name log m known s old new at whole purposes of i u here said leads;
      shown = (on same hash name log m known s old new at whole purposes of i u here said leads).shows;
      begun = λ n j x is d d_is. begun_then same hash name log m known s old new at whole purposes of i u here said leads n j x d d_is
          (which_is same hash name log m known s old new at whole purposes of i u here said leads n j x is);
      is_for = λ n j x is d d_is. for_then same hash name log m known s old new at whole purposes of i u here said leads n j x d d_is
          (which_is same hash name log m known s old new at whole purposes of i u here said leads n j x is);
      come = λ n j x is st there d d_is. come_then same hash name log m known s old new at whole purposes of i u here said leads changes class_first own n j x st there d d_is
          (which_is same hash name log m known s old new at whole purposes of i u here said leads n j x is);
    }
  where
    own : (x : UnderWay K V K) → next same hash name log m known s old new at whole purposes of i u here said leads ≡ Some x → (st : Standing K)
        → (then_at same hash name log m known s old new at whole purposes of i u here said leads).maps of ≡ Some st
        → (d : CallThere K V) → call_of (name i) (v same hash name log m known s old new at whole purposes of i u here said leads) ≡ Some d
        → HasCome same of st (number2 same hash name log m known s old new at whole purposes of i u here said leads of) log (v same hash name log m known s old new at whole purposes of i u here said leads) x d
    own x e st there d d_is =
        let c = purposes.shown.calls of i u here in
        let to = went same hash name log m known s old new at whole purposes of i u here said leads in
        own_come same hash name log m known s old new at whole purposes of i u here said leads changes class_first none u here reads to.3 to.4.did x e st there c.0 d c.1 d_is
