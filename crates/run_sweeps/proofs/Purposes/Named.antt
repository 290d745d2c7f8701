-- The word that a sweep names after its step names the pair of the number that the moment has for it.
use Rattle.std.specs.Prelude.{◌≡◌, ℕ, ◌<◌, Bool, true, List, Option, Some}
use Rattle.std.proofs.Common.{refl, ap, sym, ◌∙◌, inl, inr}
use Rattle.std.proofs.lemmas.Bool.{cases_lt}
use Rattle.run_finds.specs.Given.SeizeWorld.{with_at, IsInside}
use Rattle.run_finds.specs.Given.TablesDeclared.node.Node.{Node}
use Rattle.run_finds.specs.Given.ReservesDeclared.sweep.Sweep.{Sweep}
use Rattle.run_finds.specs.Given.ReservesDeclared.sweep.Swept.{Swept}
use Rattle.run_finds.specs.Given.RawDeclared.machines.progress.Progress.{Progress}
use Rattle.run_finds.specs.Given.SchedulesMoment.{Moment}
use Rattle.run_finds.specs.Given.LateCovers.{NamesPair}
use Rattle.run_finds.specs.Given.CallersOverAll.{CallOverAll}
use Rattle.run_finds.specs.Given.CallersSights.{Visible, IsVisibility}
use Rattle.run_finds.specs.Given.CallersTogether.{UnderWay}
use Rattle.run_finds.proofs.Given.CallersTogether.At.{at_same}
use Rattle.run_finds.specs.Given.EffectsKnown.{Known}
use Rattle.run_finds.specs.Given.EffectsDeclared.role.Role.TheVariants as role
use Rattle.run_finds.specs.Given.FinishesSweeps.{SweepStepsWithEndings}
use Rattle.run_finds.specs.Given.FinishesMaps.{Standing}
use Rattle.run_finds.proofs.Given.FollowsSteps.{made_so, is_sight}
use Rattle.run_finds.specs.Given.HistoriesAnswers.{NamesPair as NamesNumber}
use Rattle.run_finds.proofs.Given.HistoriesRoles.{named_by}
use Rattle.run_finds.specs.Given.MomentsWhole.{RefinesWhole}
use Rattle.run_finds.specs.Purposes.Purposes.{RefinesPurposes}
use Rattle.run_sweeps.proofs.Purposes.Steps.{went, on, known2}
use Rattle.run_finds.specs.Given.ScenesHeld.{Held, IsAt}
use Rattle.run_finds.specs.Given.ScenesScene.{Scene, slot_of}
use Rattle.run_finds.specs.Given.ScenesStepping.{StepLeads}
use Rattle.run_finds.specs.Given.SchedulesTransition.{Past}

module _ {K V : Type 0} (same : K → K → Bool) (hash : ℕ → K → ℕ) (name : ℕ → List ℕ) (log : Past K V) (m : Moment K V) (known : Known) (s : Scene K V) (old new : Held K V)
    (at : IsAt same hash old s) (whole : RefinesWhole same name m known s) (purposes : RefinesPurposes same name log m known s) (of i : ℕ) (u : UnderWay K V K) (here : s.calls of i ≡ Some u)
    (said : Progress (Node K V)) (leads : StepLeads same hash i said s old new) where
  abbrev st : Standing K
  st = (went same hash name log m known s old new at whole purposes of i u here said leads).0

  st_is : s.maps of ≡ Some st
  st_is = (went same hash name log m known s old new at whole purposes of i u here said leads).2

  abbrev sight : Visible
  sight = st.sights (slot_of i)

  its_sight : IsInside (s.world.uses (slot_of i)) → IsVisibility st.chart st.blocks sight
  its_sight =
      is_sight same hash m known s old new at name purposes.shown of i st st_is (name i) (made_so same hash name m known s old new at purposes.shown of i u here said leads)

  abbrev number2 : ℕ → ℕ
  number2 = (on same hash name log m known s old new at whole purposes of i u here said leads).shows.number of

  module _ (o : CallOverAll) (p2 : Sweep) (end : Swept (Node K V))
      (step : SweepStepsWithEndings V same same old.batch_size old.roots slot_of s.world s.maps s.calls s.makers s.enders of st i o new.memory p2 end)
      (moved : (went same hash name log m known s old new at whole purposes of i u here said leads).4.maps2
      ≡ with_at s.maps of (Some (record st { chart = step.step.went.c2; blocks = step.step.blocks2; sights = step.step.sights2 }))) where
    abbrev pub stands_then : Standing K
    stands_then = record st { chart = step.step.went.c2; blocks = step.step.blocks2; sights = step.step.sights2 }

    pub stands_is : (went same hash name log m known s old new at whole purposes of i u here said leads).4.maps2 of ≡ Some stands_then
    stands_is = ap (λ (f : ℕ → Option (Standing K)). f of) moved ∙ at_same s.maps of (Some stands_then) of refl

    roles_then : (n : ℕ) → n < step.step.went.c2.stored → step.step.went.blocks2.pair_known n ≡ true
        → (known2 same hash name log m known s old new at whole purposes of i u here said leads).roles (step.step.went.blocks2.pair n) ≡ role.Pair (number2 n)
    roles_then n l known_too = elim (cases_lt n st.chart.stored) as (λ _. (known2 same hash name log m known s old new at whole purposes of i u here said leads).roles (step.step.went.blocks2.pair n) ≡ role.Pair (number2 n)) [
      | inl before ↦
          let was = step.step.went.blocks_same.pairs_back n before known_too in
          let grown = step.step.grown.pairs n before in
          ap (known2 same hash name log m known s old new at whole purposes of i u here said leads).roles ((step.step.went.blocks_same.pairs n before was).0 ∙ sym grown.0)
          ∙ ((on same hash name log m known s old new at whole purposes of i u here said leads).shows.maps of stands_then stands_is).pairs.roles n l (grown.1 ∙ (its_sight step.step.inside).pairs n before was)
      | inr fresh ↦
          let grown = step.step.grown.new_pairs n fresh in
          ap (known2 same hash name log m known s old new at whole purposes of i u here said leads).roles (sym grown.0)
          ∙ ((on same hash name log m known s old new at whole purposes of i u here said leads).shows.maps of stands_then stands_is).pairs.roles n l (grown.1 ∙ known_too)
    ]

    -- so a pair that is named is noted by its number,
    pub pair_named : (word n : ℕ) → NamesPair st.hash step.step.went.c2 step.step.went.blocks2 word n
        → NamesNumber (known2 same hash name log m known s old new at whole purposes of i u here said leads) word (number2 n)
    pair_named word n (l, known_too, phase, borrowed, word_is) =
        ap (known2 same hash name log m known s old new at whole purposes of i u here said leads).roles
        (named_by same st.hash (at.together.makings.standing.fit of st st_is).0 step.step.went.c2 step.step.went.blocks2 word n phase borrowed word_is) ∙ roles_then n l known_too

    -- and that is the one that is told
    pub number_told : (word n q : ℕ) → NamesPair st.hash step.step.went.c2 step.step.went.blocks2 word n
        → NamesNumber (known2 same hash name log m known s old new at whole purposes of i u here said leads) word q → q ≡ number2 n
    number_told word n q named names = let one : role.Pair q ≡ role.Pair (number2 n) = sym names ∙ pair_named word n named in cc one
