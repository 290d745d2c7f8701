-- What a block is after a step of a call on one key: the pairs that the call looked at are those of their numbers.
use Rattle.std.specs.Prelude.{◌≡◌, ℕ, ◌<◌, Bool, true, List, Option, Some}
use Rattle.std.proofs.Common.{refl, ap, sym, subst, ◌∙◌}
use Rattle.run_places.specs.Given.SeizeWordsWord.{block_in}
use Rattle.run_places.specs.Given.SeizeWorld.{World, with_at}
use Rattle.run_places.specs.Given.TablesDeclared.setting.Setting.{Setting}
use Rattle.run_places.specs.Given.RawDeclared.machines.answer.KeyAnswer.{KeyAnswer}
use Rattle.run_places.specs.Given.RawDeclared.machines.answer.KeyAnswer.TheVariants as answers
use Rattle.run_places.specs.Given.RunsDeclared.call.Response.{Response}
use Rattle.run_places.specs.Given.RunsDeclared.call.OneKey.{OneKey}
use Rattle.run_places.specs.Given.RunsDeclared.call.Reply.{Reply}
use Rattle.run_places.specs.Given.PointsFactsCalls.{Change, Unchanged, Stored, Replaced, Removed, AnswersChange}
use Rattle.run_places.specs.Given.TablesDeclared.node.Node.{Node}
use Rattle.run_places.specs.Given.RawDeclared.machines.answer.Called.{Called}
use Rattle.run_places.specs.Given.RawDeclared.machines.call.KeyCall.{KeyCall}
use Rattle.run_places.specs.Given.RawDeclared.machines.progress.Progress.{Progress}
use Rattle.run_places.specs.Given.SchedulesMoment.{Moment}
use Rattle.run_places.specs.Given.RuleChart.{Phase, Holds, Chart}
use Rattle.run_places.specs.Given.RuleWords.{Blocks, byte_of, place_word}
use Rattle.run_places.proofs.Given.RuleLaws.{words_name_pairs, bytes_are_few}
use Rattle.run_places.specs.Given.PointsSteps.{AreLawful}
use Rattle.run_places.specs.Given.CallersSights.{Visible, IsVisibility}
use Rattle.run_places.specs.Given.CallersTogether.{CallOnKey, OnKey}
use Rattle.run_places.proofs.Given.CallersTogether.At.{at_same}
use Rattle.run_places.specs.Given.FinishesEndings.{StepsWithEndings}
use Rattle.run_places.specs.Given.FinishesMaps.{Standing}
use Rattle.run_places.specs.Given.EffectsKnown.{Known}
use Rattle.run_places.specs.Given.EffectsDeclared.role.Role.TheVariants as role
use Rattle.run_places.specs.Given.FollowsShows.{Refines}
use Rattle.run_places.proofs.Given.FollowsOnward.{IsLasting}
use Rattle.run_places.proofs.Given.FollowsSteps.{WentTo, made_so, is_inside, is_sight, LeadsThere}
use Rattle.run_places.specs.Moments.Whole.{RefinesWhole}
use Rattle.run_places.proofs.Moments.Roles.{roles_then}
use Rattle.run_histories.specs.Histories.Answers.{IsAnsweredAs}
use Rattle.run_places.proofs.Changes.Steps.{to, led_on, after}
use Rattle.run_places.specs.Given.ScenesHeld.{Held, IsAt}
use Rattle.run_places.specs.Given.ScenesScene.{Scene, slot_of}
use Rattle.run_places.specs.Given.ScenesStepping.{StepLeads}

-- a word that names a pair names its block
pub named_by : {K : Type 0} (same : K → K → Bool) (hash : K → ℕ) → AreLawful same hash → (c : Chart K) (blocks : Blocks) (word n : ℕ) (phase : Phase) (borrowed : Bool) → word ≡ place_word hash c blocks (Holds n phase borrowed)
    → block_in word ≡ blocks.pair n
named_by same hash lawful c blocks word n phase borrowed is =
    ap block_in is ∙ words_name_pairs blocks.pair (λ z. byte_of hash (c.key z)) n phase borrowed (bytes_are_few hash lawful.fits (c.key n))

-- an answer that tells a change is not told as one without
module _ {K V Q : Type 0} (same : K → K → Bool) (hash : K → ℕ) (asks : Q → K → Bool) (w : World (Node K V)) (i : ℕ) (setting : Setting) (c : Chart K) (seen : Blocks) (keys : K → Bool) (known : Change)
    (noted : Known) (one : OneKey K V) (replies : List (Option ℕ × Reply V)) (a : Response V) where
  pub no_change : (change : Change) (an : KeyAnswer) → AnswersChange same hash asks w i setting c seen keys known change an → IsAnsweredAs noted one replies an a → ⊥
  no_change Unchanged an tells told = tells
  no_change (Stored n) (answers.Found word) tells told = tells
  no_change (Stored n) answers.Absent tells told = tells
  no_change (Stored n) (answers.Stored word) tells told = told
  no_change (Stored n) (answers.Replaced before then_there) tells told = told
  no_change (Stored n) (answers.Removed word) tells told = told
  no_change (Replaced o n) (answers.Found word) tells told = tells
  no_change (Replaced o n) answers.Absent tells told = tells
  no_change (Replaced o n) (answers.Stored word) tells told = told
  no_change (Replaced o n) (answers.Replaced before then_there) tells told = told
  no_change (Replaced o n) (answers.Removed word) tells told = told
  no_change (Removed n) (answers.Found word) tells told = tells
  no_change (Removed n) answers.Absent tells told = tells
  no_change (Removed n) (answers.Stored word) tells told = told
  no_change (Removed n) (answers.Replaced before then_there) tells told = told
  no_change (Removed n) (answers.Removed word) tells told = told

module _ {K V : Type 0} (same : K → K → Bool) (hash : ℕ → K → ℕ) (name : ℕ → List ℕ) (m : Moment K V) (known : Known) (s : Scene K V) (old new : Held K V) (at : IsAt same hash old s)
    (whole : RefinesWhole same name m known s) (shown : Refines same name m known s) (map i : ℕ) (x : CallOnKey K V K) (here : s.calls map i ≡ Some (OnKey x)) (said : Progress (Node K V))
    (leads : StepLeads same hash i said s old new) where
  abbrev went : WentTo same hash name m known s old new at shown map i (OnKey x) here said leads
  went = to same hash name m known s old new at whole shown map i (OnKey x) here said leads

  abbrev st : Standing K
  st = went.0

  abbrev on : LeadsThere same hash name m known s old new at shown map i (OnKey x) here said leads
  on = led_on same hash name m known s old new at whole shown map i (OnKey x) here said leads

  abbrev known2 : Known
  known2 = after same hash name m known s old new at whole shown map i (OnKey x) here said leads

  abbrev sight : Visible
  sight = st.sights (slot_of i)

  its_sight : IsVisibility st.chart st.blocks sight
  its_sight = is_sight same hash m known s old new at name shown map i st went.2 (name i) (made_so same hash name m known s old new at shown map i (OnKey x) here said leads)
      (is_inside same hash name m known s old new at shown map i (OnKey x) here said leads)

  -- of what it looked at before its step
  pub roles_before : (n : ℕ) → n < st.chart.stored → sight.pairs n ≡ true → known2.roles (st.blocks.pair n) ≡ role.Pair (on.shows.number map n)
  roles_before n l seen =
      let is = (shown.maps map st went.2).pairs.roles n l (its_sight.pairs n l seen) in
      on.keeps (st.blocks.pair n) (subst IsLasting (sym is) tt) ∙ is ∙ ap role.Pair (sym (on.numbers map st went.2 n l))

  -- and of what it looks at after one that is none of a row
  module _ (p2 : KeyCall K V K) (end : Called (Node K V)) (step : StepsWithEndings V same same old.batch_size old.roots slot_of s.world s.maps s.calls s.makers s.enders map st i x new.memory p2 end)
      (moved : went.4.maps2 ≡ with_at s.maps map (Some (record st { chart = step.step.went.c2; blocks = step.step.blocks2; sights = step.step.sights2 }))) where
    abbrev pub stands_then : Standing K
    stands_then = record st { chart = step.step.went.c2; blocks = step.step.blocks2; sights = step.step.sights2 }

    pub stands_is : went.4.maps2 map ≡ Some stands_then
    stands_is = ap (λ (f : ℕ → Option (Standing K)). f map) moved ∙ at_same s.maps map (Some stands_then) map refl

    pub roles_after : (n : ℕ) → n < step.step.went.c2.stored → step.step.went.blocks2.pair_known n ≡ true → known2.roles (step.step.went.blocks2.pair n) ≡ role.Pair (on.shows.number map n)
    roles_after n l known_too =
        roles_then same old.batch_size old.roots s map i st its_sight x new.memory p2 end step on.shows moved n l known_too
