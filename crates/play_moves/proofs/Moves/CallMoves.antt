-- The step of a call, as it is played, does what a call may do, and leaves nothing behind once it is over.
use Rattle.std.specs.Prelude.{◌≡◌, ◌⊎◌, ℕ, Bool, true, Option, Some}
use Rattle.std.proofs.Common.{refl, ap, sym, subst, ◌∙◌, inl, inr}
use Rattle.run_schedules.specs.Given.SeizeWordsDeclared.fault.Fault.TheVariants.{Memory}
use Rattle.run_legal.specs.Given.TablesDeclared.node.Node.{Node}
use Rattle.run_schedules.specs.Given.RawDeclared.machines.progress.Progress.{Progress}
use Rattle.run_schedules.specs.Given.RawDeclared.machines.progress.Progress.TheVariants as progress
use Rattle.run_schedules.specs.declared.outcome.Outcome.{Outcome}
use Rattle.run_schedules.specs.declared.outcome.Outcome.TheVariants as outcome
use Rattle.run_schedules.specs.Schedules.Effects.{with_effects}
use Rattle.run_schedules.specs.Schedules.Entry.{IfCall}
use Rattle.run_schedules.specs.Schedules.Handing.{LeavesOf, is_clear_outcome, is_call_effect}
use Rattle.run_schedules.specs.Schedules.Views.{call_of}
use Rattle.run_legal.specs.Given.CallersTogether.{UnderWay}
use Rattle.run_legal.specs.Given.EffectsEffects.{effects_of, known_after}
use Rattle.run_legal.specs.Given.EffectsKnown.{Known}
use Rattle.run_legal.specs.Given.EffectsDeclared.acting.Acting.TheVariants as acts
use Rattle.run_legal.specs.Given.ScenesHeld.{Held, IsAt}
use Rattle.run_legal.specs.Given.ScenesScene.{Scene}
use Rattle.run_legal.specs.Given.ScenesStepping.{StepLeads, has_ended}
use Rattle.run_legal.specs.Given.NamedSeen.{kind_of}
use Rattle.run_legal.specs.Given.ExecutorDeclared.kind.CallKind.{CallKind}
use Rattle.run_legal.proofs.Given.FindsSteps.{steps_do_theirs}
use Rattle.run_schedules.specs.Deeds.Deeds.{Entry, Steps, acted_on, map_of_call, moment, named}
use Rattle.run_schedules.specs.Deeds.History.{may_do, past}
use Rattle.play_linear.specs.Given.PlayedPlay.{Calling, State, is_refusal, outcome_of}
use Rattle.play_linear.proofs.Given.PlayedNoted.{CallsAreNoted}
use Rattle.play_linear.specs.Linear.Shown.{RefinesAnswers}
use Rattle.play_moves.specs.EachMoves.Parts.{DoesIts}
use Rattle.play_moves.proofs.EachMoves.Leaves.{leaves_nothing}
use Rattle.play_moves.proofs.EachMoves.Parts.{all_also, granted_so}
use Rattle.play_linear.proofs.Given.AgreesGrants.{refusals_so as refuses_so}

module _ {K V : Type 0} (known : Known) (kind : CallKind) (value : Option V) where
  -- a call is over, or ready, where its step says so
  clear_so : (said : Progress (Node K V)) → is_clear_outcome (outcome_of known kind value said) ≡ true → (has_ended said ≡ true) ⊎ (said ≡ progress.Ready)
  clear_so (progress.Done answer) e = inl refl
  clear_so (progress.Refused fault) e = inl refl
  clear_so progress.Ready e = inr refl
  clear_so progress.Goes e = absurd (cc e)
  clear_so (progress.Gave node) e = absurd (cc e)
  clear_so (progress.Unstored node) e = absurd (cc e)
  clear_so progress.Waits e = absurd (cc e)
  clear_so (progress.Asks word) e = absurd (cc e)
  clear_so (progress.Pair word) e = absurd (cc e)

  refused_so : (said : Progress (Node K V)) → said ≡ progress.Refused Memory → outcome_of known kind value said ≡ outcome.Refused Memory
  refused_so said is = ap (outcome_of known kind value) is

module _ {K V S : Type 0} (same : K → K → Bool) (hash : ℕ → K → ℕ) (x : State K V S) (s : Scene K V) (old new : Held K V) (at : IsAt same hash old s)
    (all : RefinesAnswers same (past x.history) (moment x.history) x.known s) (noted : CallsAreNoted x) (i m : ℕ) (c : Calling K V) (here : x.now.calls m i ≡ Some c) (u : UnderWay K V K)
    (under : s.calls m i ≡ Some u) (said : Progress (Node K V)) (leads : StepLeads same hash i said s old new) where
  abbrev o : Outcome V
  o = outcome_of (known_after (acts.Call i m) new.changed x.known) (kind_of c.call) c.value said

  abbrev entry : Entry K V
  entry = record { deed = Steps i; outcome = o; effects = effects_of (acts.Call i m) x.known new.changed; refused = is_refusal new.changed }

  -- it acts on its map
  pub acted : acted_on {K = K} {V = V} (Steps i) (moment x.history) ≡ Some m
  acted = let its = noted m i c here in ap map_of_call its.1 ∙ ap Some its.2

  pub steps_move : DoesIts x.history entry
  steps_move = record {
    may = all_also is_call_effect (may_do {K = K} {V = V} (Steps i)) (λ f is. is) entry.effects
        (steps_do_theirs K V same hash named (moment x.history) x.known s old new at all.whole m i u under said leads);
    granted = granted_so (acts.Call i m) x.known new.changed;
    refuses = refuses_so (acts.Call i m) x.known new.changed;
    whole = tt;
    leaves = subst (λ (on : Option ℕ). IfCall (LeavesOf (is_clear_outcome o) o) (call_of (named i) (with_effects (Some (named i)) on entry.effects (moment x.history)))) (sym acted)
        (leaves_nothing same hash named (moment x.history) x.known s old new at all.whole all.kept m i u under said leads o
        (refused_so (known_after (acts.Call i m) new.changed x.known) (kind_of c.call) c.value said)
        (clear_so (known_after (acts.Call i m) new.changed x.known) (kind_of c.call) c.value said));
  }
