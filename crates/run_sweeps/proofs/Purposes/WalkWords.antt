-- What a step of a walk says: what it shows is a pair of the run, and it answers only that its sweep is over.
use Rattle.std.specs.Prelude.{◌≡◌, ℕ, Bool, List, Some}
use Rattle.std.proofs.Common.{sym, subst, ◌∙◌, inl, inr}
use Rattle.run_finds.specs.Given.SeizeWorld.{with_at}
use Rattle.run_finds.specs.Given.TablesDeclared.node.Node.{Node}
use Rattle.run_finds.specs.Given.ReservesDeclared.sweep.Sweep.{Sweep}
use Rattle.run_finds.specs.Given.ReservesDeclared.sweep.Swept.{Swept}
use Rattle.run_finds.specs.Given.ReservesDeclared.sweep.Swept.TheVariants as swept
use Rattle.run_finds.specs.Given.RawProgress.{of_swept}
use Rattle.run_finds.specs.Given.RawDeclared.machines.progress.Answer.{Answer}
use Rattle.run_finds.specs.Given.RawDeclared.machines.progress.Answer.TheVariants as answers
use Rattle.run_finds.specs.Given.RawDeclared.machines.progress.Progress.{Progress}
use Rattle.run_finds.specs.Given.RawDeclared.machines.progress.Progress.TheVariants as progress
use Rattle.run_finds.specs.Given.RunsDeclared.call.Call.{Call}
use Rattle.run_finds.specs.Given.RunsDeclared.call.Call.TheVariants as call
use Rattle.run_finds.specs.Given.SchedulesMoment.{Moment}
use Rattle.run_finds.specs.Given.LateCoversSweeps.{Adds, DoneAt}
use Rattle.run_finds.specs.Given.LateToldSweeps.{OutcomeAgrees}
use Rattle.run_finds.specs.Given.CallersOverAll.{CallOverAll}
use Rattle.run_finds.specs.Given.CallersTogether.{UnderWay, OnKey, ForRoom, Counting, OverAll}
use Rattle.run_finds.specs.Given.EffectsKnown.{Known}
use Rattle.run_finds.specs.Given.FinishesMaps.{Standing}
use Rattle.run_finds.specs.Given.FinishesSweeps.{SweepStepsWithEndings}
use Rattle.run_finds.specs.Given.HistoriesAnswers.{NamesPair}
use Rattle.run_finds.specs.Given.MomentsWhole.{RefinesWhole}
use Rattle.run_finds.specs.Purposes.Purposes.{IsFor, RefinesPurposes}
use Rattle.run_sweeps.specs.Purposes.Swept.{SaysAsWalk, WalksHaveWords}
use Rattle.run_sweeps.proofs.Purposes.Named.{pair_named}
use Rattle.run_sweeps.proofs.Purposes.Pairs.{pair_swept}
use Rattle.run_sweeps.proofs.Purposes.Steps.{Did, known2, on, went}
use Rattle.run_sweeps.proofs.Purposes.Walks.{adds_one}
use Rattle.run_finds.specs.Given.ScenesHeld.{Held, IsAt}
use Rattle.run_finds.specs.Given.ScenesScene.{Scene, slot_of}
use Rattle.run_finds.specs.Given.ScenesStepping.{StepLeads}
use Rattle.run_finds.specs.Given.SchedulesTransition.{Past}

-- a sweep answers that it is over
over_swept : {T : Type 0} (end : Swept T) (answer : Answer) → of_swept end ≡ progress.Done answer → answer ≡ answers.Swept
over_swept swept.Goes answer e = absurd (cc e)
over_swept swept.Waits answer e = absurd (cc e)
over_swept (swept.Gave value) answer e = absurd (cc e)
over_swept swept.Ready answer e = absurd (cc e)
over_swept (swept.Pair word) answer e = absurd (cc e)
over_swept (swept.Asks word) answer e = absurd (cc e)
over_swept swept.Done answer e = let its : answers.Swept ≡ answer = cc e in sym its
over_swept (swept.Refused fault) answer e = absurd (cc e)

module _ {K V : Type 0} (same : K → K → Bool) (hash : ℕ → K → ℕ) (name : ℕ → List ℕ) (log : Past K V) (m : Moment K V) (known : Known) (s : Scene K V) (old new : Held K V)
    (at : IsAt same hash old s) (whole : RefinesWhole same name m known s) (purposes : RefinesPurposes same name log m known s) (of i : ℕ) (u : UnderWay K V K) (here : s.calls of i ≡ Some u)
    (said : Progress (Node K V)) (leads : StepLeads same hash i said s old new) where
  abbrev its : Standing K
  its = (went same hash name log m known s old new at whole purposes of i u here said leads).0

  abbrev then_known : Known
  then_known = known2 same hash name log m known s old new at whole purposes of i u here said leads

  module _ (o : CallOverAll) (p2 : Sweep) (end : Swept (Node K V))
      (step : SweepStepsWithEndings V same same old.batch_size old.roots slot_of s.world s.maps s.calls s.makers s.enders of its i o new.memory p2 end)
      (moved : (went same hash name log m known s old new at whole purposes of i u here said leads).4.maps2
      ≡ with_at s.maps of (Some (record its { chart = step.step.went.c2; blocks = step.step.blocks2; sights = step.step.sights2 }))) where
    -- the pair that it shows is noted by its number
    named : (word : ℕ) → end ≡ swept.Pair word → (q : ℕ) × NamesPair then_known word q
    named word is = (
      (on same hash name log m known s old new at whole purposes of i u here said leads).shows.number of added.1.0,
      pair_named same hash name log m known s old new at whole purposes of i u here said leads o p2 end step moved word added.1.0 added.1.1,
    )
      where
        added : (step.step.entered2 ≡ o.entered) × Adds its.hash step.step.went.c2 step.step.went.blocks2 o.done step.step.done2 word
        added = adds_one its.hash step.step.went.c2 step.step.went.blocks2 o.done step.step.done2 o.entered step.step.entered2 word (Node K V) o.sweep.stands p2.stands
            (subst (OutcomeAgrees o.sweep.stands p2.stands) is step.step.went.told.stands.tells)
            (subst (λ (x : Swept (Node K V)). DoneAt its.hash step.step.went.c2 step.step.went.blocks2 o.done step.step.done2 o.entered step.step.entered2 x o.sweep.stands) is step.step.done)

  as_walk : (x : UnderWay K V K) → IsFor {K = K} {V = V} x call.Walk → Did same hash name log m known s old new at whole purposes of i u here said leads x → SaysAsWalk then_known said
  as_walk (OnKey x) is did = absurd is
  as_walk (ForRoom r) is did = absurd is
  as_walk (Counting sum) is did = absurd is
  as_walk (OverAll o) is (p2, end, machine_is, told_is, inl (step, moved)) = record {
    pairs = λ word e. named o p2 end step moved.1 word (pair_swept word end (sym told_is ∙ e));
    over = λ answer e. over_swept end answer (sym told_is ∙ e);
  }
  as_walk (OverAll o) is (p2, end, machine_is, told_is, inr (row, stayed)) = record {
    pairs = λ word e. absurd (let silent = row.step.silent in let pair = pair_swept word end (sym told_is ∙ e) in cc (silent, pair));
    over = λ answer e. over_swept end answer (sym told_is ∙ e);
  }

pub walks_have_words : (K V : Type 0) (same : K → K → Bool) (hash : ℕ → K → ℕ) → WalksHaveWords K V same hash
walks_have_words K V same hash name log m known s old new at whole purposes of i u here said leads c c_is walk =
    as_walk same hash name log m known s old new at whole purposes of i u here said leads u (subst (λ (x : Call K V). IsFor u x) walk (purposes.is_for of i u here c c_is))
    (went same hash name log m known s old new at whole purposes of i u here said leads).4.did
