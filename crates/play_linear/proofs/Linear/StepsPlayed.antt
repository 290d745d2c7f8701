-- The step of a call, as it is played, is an entry that is linearizable, and what the moment shows of calls and of what they were told it shows then.
use Rattle.std.specs.Prelude.{◌≡◌, ◌⊎◌, ◌+◌, ℕ, Bool, true, false, List, Option, Some, None, option_map, if◌then◌else◌}
use Rattle.std.proofs.Common.{refl, ap, sym, subst, ◌∙◌, inl, inr}
use Rattle.run_schedules.specs.Given.SeizeWordsMem.{Mem}
use Rattle.play_lists.specs.Given.TablesDeclared.node.Node.{Node}
use Rattle.run_logged.specs.Given.RawDeclared.machines.machine.Machine.{Machine}
use Rattle.run_logged.specs.Given.RawDeclared.machines.progress.Progress.{Progress}
use Rattle.run_logged.specs.Given.RawDeclared.machines.progress.Progress.TheVariants as progress
use Rattle.run_logged.specs.Given.CallersTogether.{UnderWay}
use Rattle.play_lists.specs.Given.FinishesMachines.{machine_of}
use Rattle.run_schedules.specs.declared.call.Call.{Call}
use Rattle.run_schedules.specs.declared.call.Reply.{Reply}
use Rattle.run_schedules.specs.declared.outcome.Outcome.{Outcome}
use Rattle.run_schedules.specs.Schedules.After.{with_outcome}
use Rattle.run_schedules.specs.Schedules.Entry.{ends_call}
use Rattle.run_schedules.specs.Schedules.Moment.{Asking, UnderWay as CallThere}
use Rattle.run_schedules.specs.Schedules.Views.{call_of}
use Rattle.play_lists.specs.Given.FollowsCalling.{NoneNamed}
use Rattle.play_lists.specs.Given.EffectsEffects.{effects_of, known_after}
use Rattle.play_lists.specs.Given.EffectsKnown.{Known}
use Rattle.play_lists.specs.Given.EffectsDeclared.acting.Acting.TheVariants as acts
use Rattle.play_lists.specs.Given.ScenesHeld.{Held, IsAt}
use Rattle.play_lists.specs.Given.ScenesScene.{Scene}
use Rattle.play_lists.proofs.Given.ScenesGoes.{goes_as}
use Rattle.play_lists.specs.Given.ScenesStepping.{StepLeads, has_ended, scene_after}
use Rattle.run_logged.specs.Given.NamedSeen.{kind_of}
use Rattle.run_logged.specs.Given.NamedTelling.{number_by}
use Rattle.run_logged.specs.Given.ExecutorDeclared.kind.CallKind.{CallKind}
use Rattle.play_lists.specs.Given.HistoriesInEvent.{HasOutcomeSo}
use Rattle.play_lists.specs.Given.ValuesValues.{KeepsValue, kept_after}
use Rattle.play_lists.proofs.Given.ValuesValues.{values_go_on}
use Rattle.run_schedules.specs.Deeds.Deeds.{Steps, acted_on, map_of_call, moment, named}
use Rattle.run_schedules.specs.Deeds.History.{IsLinearizable, past}
use Rattle.play_lists.specs.Played.Play.{Calling, State, call_stepped, going, is_refusal, keeps, outcome_of}
use Rattle.play_lists.proofs.Played.Alike.{its_call}
use Rattle.play_lists.proofs.Played.Noted.{CallsAreNoted, not_over}
use Rattle.play_linear.specs.Linear.Shown.{RefinesAnswers}
use Rattle.play_linear.proofs.Linear.CallSteps.{ended, steps_answer, steps_are_linearizable, there_is as call_there}
use Rattle.play_linear.proofs.Linear.Comes.{steps_come_so}
use Rattle.play_linear.proofs.Linear.Heard.{IsHeard, IsSaid, come_asks, come_said, steps_aside, steps_itself}
use Rattle.play_linear.proofs.Linear.HeardAll.{AreHeard, none_other, one_heard}
use Rattle.play_linear.proofs.Linear.TakesReply.{TakesNone, steps_take_none}
use Rattle.run_schedules.proofs.Given.General.{same_some}

-- what is told alike of both is there alike
pub there_alike : {A B C : Type 0} (f : A → C) (g : B → C) (o : Option A) (p : Option B) → option_map f o ≡ option_map g p → (a : A) → o ≡ Some a → (b : B) × (p ≡ Some b) × (f a ≡ g b)
there_alike f g o None is a here = absurd (let both : Some (f a) ≡ None = sym (ap (option_map f) here) ∙ is in cc both)
there_alike f g o (Some b) is a here = (b, refl, same_some (f a) (g b) (sym (ap (option_map f) here) ∙ is))

module _ {K V : Type 0} where
  -- a step by which the call ends says so
  over_so : (known : Known) (kind : CallKind) (value : Option V) (said : Progress (Node K V)) → ends_call (outcome_of known kind value said) ≡ true → has_ended said ≡ true
  over_so known kind value (progress.Done answer) e = refl
  over_so known kind value (progress.Refused fault) e = refl
  over_so known kind value progress.Goes e = absurd (cc e)
  over_so known kind value (progress.Gave node) e = absurd (cc e)
  over_so known kind value (progress.Unstored node) e = absurd (cc e)
  over_so known kind value progress.Waits e = absurd (cc e)
  over_so known kind value (progress.Asks word) e = absurd (cc e)
  over_so known kind value progress.Ready e = absurd (cc e)
  over_so known kind value (progress.Pair word) e = absurd (cc e)

  -- what its caller keeps is what it keeps as it is played
  kept_alike : (kind : CallKind) (said : Progress (Node K V)) (value : Option V) → kept_after kind said value ≡ keeps kind said value
  kept_alike kind (progress.Unstored node) value = refl
  kept_alike kind progress.Goes value = refl
  kept_alike kind progress.Waits value = refl
  kept_alike kind (progress.Gave node) value = refl
  kept_alike kind (progress.Asks word) value = refl
  kept_alike kind progress.Ready value = refl
  kept_alike kind (progress.Pair word) value = refl
  kept_alike kind (progress.Done answer) value = refl
  kept_alike kind (progress.Refused fault) value = refl

  -- it takes no reply, or asks
  asks_or_not : (known : Known) (kind : CallKind) (value : Option V) (said t : Progress (Node K V)) → said ≡ t → (e : CallThere K V) (machine : Machine K V K)
      → (((about : Option ℕ) → said ≡ progress.Asks about → ⊥) → TakesNone machine) → TakesNone machine ⊎ ((question : Option ℕ) × ((with_outcome (outcome_of known kind value t) e).stands ≡ Asking question))
  asks_or_not known kind value said (progress.Asks about) is e machine none = inr (come_asks (option_map (number_by known) about) e)
  asks_or_not known kind value said _ is e machine none = inl (none (λ about asks. absurd (cc (is, asks))))

module _ {K V S : Type 0} (same : K → K → Bool) (hash : ℕ → K → ℕ) (x : State K V S) (s : Scene K V) (old new : Held K V) (at : IsAt same hash old s)
    (all : RefinesAnswers same (past x.history) (moment x.history) x.known s) (noted : CallsAreNoted x) (heard : AreHeard x) (i m : ℕ) (c : Calling K V) (here : x.now.calls m i ≡ Some c)
    (u : UnderWay K V K) (under : s.calls m i ≡ Some u) (its : c.machine ≡ machine_of u) (said : Progress (Node K V)) (leads : StepLeads same hash i said s old new)
    (memory : Mem (Node K V)) (machine : Machine K V K) where
  abbrev it : IsHeard (moment x.history) i c.call c.machine c.value
  it = heard m i c here

  abbrev d : CallThere K V
  d = it.there

  abbrev known_then : Known
  known_then = known_after (acts.Call i m) new.changed x.known

  abbrev o : Outcome V
  o = outcome_of known_then (kind_of c.call) c.value said

  pub on_map : d.map ≡ m
  on_map = let n = noted m i c here in let one : n.0 ≡ d = same_some n.0 d (sym n.1 ∙ it.is) in ap (λ (z : CallThere K V). z.map) (sym one) ∙ n.2

  -- where it is under way
  abbrev pub there_is : s.calls m i ≡ Some u
  there_is = call_there same hash x.history x.known s old new at all m i u under said leads d it.is on_map o

  abbrev pub led : Scene K V
  led = let to = leads m u there_is in scene_after same s old new m i to.0 u to.1 said to.4

  abbrev pub then_at : State K V S
  then_at = call_stepped i m c new.changed x (memory, (machine, said))

  keeps_now : KeepsValue d.call d.replies (machine_of u) c.value
  keeps_now = subst (λ (z : Machine K V K). KeepsValue d.call d.replies z c.value) its it.keeps

  comes_so_then : HasOutcomeSo known_then d.call d.replies said o
  comes_so_then =
      subst (λ (z : Call K V). HasOutcomeSo known_then d.call d.replies said (outcome_of known_then (kind_of z) c.value said)) it.called
      (steps_come_so same hash x.history x.known s old new at all m i u under said leads d it.is c.value keeps_now)

  pub played_steps_are_linearizable : IsLinearizable same x.history (record { deed = Steps i; outcome = o; effects = effects_of (acts.Call i m) x.known new.changed; refused = is_refusal new.changed })
  played_steps_are_linearizable = steps_are_linearizable same hash x.history x.known s old new at all m i u under said leads d it.is on_map o comes_so_then (is_refusal new.changed)

  pub played_steps_answer : RefinesAnswers same (past then_at.history) (moment then_at.history) then_at.known led
  played_steps_answer =
      steps_answer same hash x.history x.known s old new at all m i u under said leads d it.is on_map o comes_so_then (is_refusal new.changed) (over_so known_then (kind_of c.call) c.value said)

  -- none that is under way then has its name, if it has ended
  pub played_ended : ends_call o ≡ true → NoneNamed named (named i) led
  played_ended =
      ended same hash x.history x.known s old new at all m i u under said leads d it.is on_map o comes_so_then (is_refusal new.changed) (over_so known_then (kind_of c.call) c.value said)

  acted : acted_on {K = K} {V = V} (Steps i) (moment x.history) ≡ Some m
  acted = ap map_of_call it.is ∙ ap Some on_map

  module _ (machines : option_map (λ (z : Calling K V). z.machine) (then_at.now.calls m i) ≡ option_map machine_of (led.calls m i)) where
    -- what goes on is heard so
    itself : (d2 : Calling K V) → then_at.now.calls m i ≡ Some d2 → IsHeard (moment then_at.history) i d2.call d2.machine d2.value
    itself d2 has = by (has_ended said) refl (sym (its_call x.now.calls m i (going c machine said)) ∙ has)
      where
        by : (b : Bool) → has_ended said ≡ b → (if b then None else Some (record c { machine = machine; value = keeps (kind_of c.call) said c.value })) ≡ Some d2
            → IsHeard (moment then_at.history) i d2.call d2.machine d2.value
        by true ended none = absurd (let both : None ≡ Some d2 = none in cc both)
        by false goes is = record {
          there = with_outcome o (record itself_then.0 { steps = itself_then.0.steps + 1 });
          is = itself_then.2;
          called = e_is.0 ∙ itself_then.1.0 ∙ it.called ∙ ap (λ (z : Calling K V). z.call) one;
          keeps = subst (λ (z : Call K V). KeepsValue z (with_outcome o (record itself_then.0 { steps = itself_then.0.steps + 1 })).replies d2.machine d2.value) (sym (e_is.0 ∙ itself_then.1.0))
              (subst (λ (z : List (Option ℕ × Reply V)). KeepsValue d.call z d2.machine d2.value) (sym (e_is.1 ∙ itself_then.1.1)) keeps_then);
          asks = asks_or_not known_then (kind_of c.call) c.value said said refl (record itself_then.0 { steps = itself_then.0.steps + 1 }) d2.machine none_then;
        }
          where
            one : record c { machine = machine; value = keeps (kind_of c.call) said c.value } ≡ d2
            one = same_some (record c { machine = machine; value = keeps (kind_of c.call) said c.value }) d2 is

            itself_then : (z : CallThere K V) × IsSaid d z × (call_of (named i) (moment then_at.history) ≡ Some (with_outcome o (record z { steps = z.steps + 1 })))
            itself_then =
                steps_itself i m o (effects_of (acts.Call i m) x.known new.changed) (is_refusal new.changed) (moment x.history) acted (not_over known_then (kind_of c.call) c.value said goes) d it.is

            e_is : (let e = with_outcome o (record itself_then.0 { steps = itself_then.0.steps + 1 }) in (e.call ≡ itself_then.0.call) × (e.replies ≡ itself_then.0.replies))
            e_is = come_said o (record itself_then.0 { steps = itself_then.0.steps + 1 })

            next : (u2 : UnderWay K V K) × (led.calls m i ≡ Some u2) × (d2.machine ≡ machine_of u2)
            next = there_alike (λ (z : Calling K V). z.machine) machine_of (then_at.now.calls m i) (led.calls m i) machines d2 has

            next_is : (leads m u there_is).4.next ≡ Some next.0
            next_is = sym (its_call s.calls m i (leads m u there_is).4.next) ∙ next.1

            went_as : machine_of next.0 ≡ (leads m u there_is).1
            went_as =
                same_some (machine_of next.0) (leads m u there_is).1
                (sym (ap (option_map machine_of) next_is) ∙ goes_as (leads m u there_is).1 said (leads m u there_is).4.next (leads m u there_is).4.goes_on
                ∙ ap (λ (q : Bool). if q then None else Some (leads m u there_is).1) goes)

            value_is : kept_after (kind_of d.call) said c.value ≡ d2.value
            value_is = ap (λ (z : Call K V). kept_after (kind_of z) said c.value) it.called ∙ kept_alike (kind_of c.call) said c.value ∙ ap (λ (z : Calling K V). z.value) one

            keeps_then : KeepsValue d.call d.replies d2.machine d2.value
            keeps_then =
                subst (KeepsValue d.call d.replies d2.machine) value_is
                (subst (λ (z : Machine K V K). KeepsValue d.call d.replies z (kept_after (kind_of d.call) said c.value)) (sym next.2)
                (values_go_on K V same hash named (moment x.history) x.known s old new at all.whole m i u there_is said leads d it.is c.value keeps_now next.0 next_is))

            none_then : ((about : Option ℕ) → said ≡ progress.Asks about → ⊥) → TakesNone d2.machine
            none_then never =
                subst TakesNone (sym (next.2 ∙ went_as))
                (steps_take_none same (leads m u there_is).0.hash old new (leads m u there_is).1 said (machine_of u) (leads m u there_is).3 never)

    -- So are all calls then.
    pub played_steps_are_heard : AreHeard then_at
    played_steps_are_heard =
        one_heard x heard i m (going c machine said) (moment then_at.history)
        (steps_aside i m o (effects_of (acts.Call i m) x.known new.changed) (is_refusal new.changed) (moment x.history) acted)
        (λ d2 is. itself d2 (its_call x.now.calls m i (going c machine said) ∙ is)) (none_other x noted i m c here)
