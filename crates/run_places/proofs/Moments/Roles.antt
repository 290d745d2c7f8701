-- What a block is after a step of a call on one key that is none of a row: the pairs that the call looks at then are those of their numbers.
use Rattle.std.specs.Prelude.{◌≡◌, ◌<◌, ℕ, Bool, true, List, Option, Some}
use Rattle.std.proofs.Common.{refl, ap, sym, ◌∙◌, inl, inr}
use Rattle.std.proofs.lemmas.Bool.{cases_lt}
use Rattle.run_shows.specs.Given.SeizeWordsMem.{Mem}
use Rattle.run_shows.specs.Given.SeizeWorld.{with_at}
use Rattle.run_shows.specs.Given.TablesDeclared.node.Node.{Node}
use Rattle.run_shows.specs.Given.RawDeclared.machines.answer.Called.{Called}
use Rattle.run_shows.specs.Given.RawDeclared.machines.call.KeyCall.{KeyCall}
use Rattle.run_shows.specs.Given.SchedulesMoment.{Moment}
use Rattle.run_shows.specs.Given.CallersSights.{IsVisibility}
use Rattle.run_shows.specs.Given.CallersTogether.{CallOnKey}
use Rattle.run_shows.proofs.Given.CallersTogether.At.{at_same}
use Rattle.run_shows.specs.Given.EffectsKnown.{Known}
use Rattle.run_shows.specs.Given.EffectsDeclared.role.Role.TheVariants as role
use Rattle.run_shows.specs.Given.FinishesEndings.{StepsWithEndings}
use Rattle.run_shows.specs.Given.FinishesMaps.{Standing}
use Rattle.run_shows.specs.Follows.Shows.{Refines}
use Rattle.run_shows.specs.Scenes.Scene.{Scene, slot_of}

module _ {K V : Type 0} (same : K → K → Bool) (batch_size roots : ℕ) (s : Scene K V) (map i : ℕ) (st : Standing K) (sight : IsVisibility st.chart st.blocks (st.sights (slot_of i))) (x : CallOnKey K V K)
    (m2 : Mem (Node K V)) (p2 : KeyCall K V K) (end : Called (Node K V))
    (step : StepsWithEndings V same same batch_size roots slot_of s.world s.maps s.calls s.makers s.enders map st i x m2 p2 end) where
  -- how the map stands then
  abbrev pub standing_then : Standing K
  standing_then = record st { chart = step.step.went.c2; blocks = step.step.blocks2; sights = step.step.sights2 }

  -- where a moment shows it so
  module _ {name : ℕ → List ℕ} {v : Moment K V} {known : Known} {led : Scene K V} (shows : Refines same name v known led) (moved : led.maps ≡ with_at s.maps map (Some standing_then)) where
    there : led.maps map ≡ Some standing_then
    there = ap (λ (f : ℕ → Option (Standing K)). f map) moved ∙ at_same s.maps map (Some standing_then) map refl

    pub roles_then : (n : ℕ) → n < step.step.went.c2.stored → step.step.went.blocks2.pair_known n ≡ true → known.roles (step.step.went.blocks2.pair n) ≡ role.Pair (shows.number map n)
    roles_then n l known_too = elim (cases_lt n st.chart.stored) as (λ _. known.roles (step.step.went.blocks2.pair n) ≡ role.Pair (shows.number map n)) [
      | inl before ↦
          let was = step.step.went.blocks_same.pairs_back n before known_too in
          let grown = step.step.grown.pairs n before in
          ap known.roles ((step.step.went.blocks_same.pairs n before was).0 ∙ sym grown.0) ∙ (shows.maps map standing_then there).pairs.roles n l (grown.1 ∙ sight.pairs n before was)
      | inr fresh ↦
          let grown = step.step.grown.new_pairs n fresh in ap known.roles (sym grown.0) ∙ (shows.maps map standing_then there).pairs.roles n l (grown.1 ∙ known_too)
    ]
