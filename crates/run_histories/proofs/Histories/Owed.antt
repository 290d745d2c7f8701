-- An answer that tells a change is the one that the call owes.
use Rattle.std.specs.Prelude.{◌≡◌, ℕ, ◌<◌, Bool, true, false, List, Option, Some, None}
use Rattle.std.proofs.Common.{refl, ap, sym, subst, ◌∙◌, inl, inr}
use Rattle.run_places.specs.Given.SeizeWordsWord.{block_in}
use Rattle.run_places.specs.Given.SeizeWorld.{World}
use Rattle.run_places.specs.Given.TablesDeclared.node.Node.{Node}
use Rattle.run_places.specs.Given.RawDeclared.machines.answer.KeyAnswer.{KeyAnswer}
use Rattle.run_places.specs.Given.RawDeclared.machines.answer.KeyAnswer.TheVariants as answers
use Rattle.run_places.specs.Given.RawDeclared.machines.progress.Answer.TheVariants.{Key}
use Rattle.run_places.specs.Given.RawDeclared.machines.progress.Progress.{Progress}
use Rattle.run_places.specs.Given.RawDeclared.machines.progress.Progress.TheVariants.{Done}
use Rattle.run_places.specs.Given.RunsDeclared.call.Response.{Response}
use Rattle.run_places.specs.Given.RunsDeclared.call.Call.TheVariants.{On}
use Rattle.run_places.specs.Given.RunsDeclared.call.OneKey.{OneKey}
use Rattle.run_places.specs.Given.RunsDeclared.call.Reply.{Reply}
use Rattle.run_places.specs.Given.SchedulesMoment.{UnderWay as CallThere, Moment}
use Rattle.run_places.specs.Given.SchedulesSequential.{Answers, Deed, Puts, Takes, means}
use Rattle.run_places.specs.Given.SchedulesViews.{call_of, reply_to}
use Rattle.run_places.specs.Given.RuleChart.{Still, Holds, Chart}
use Rattle.run_places.specs.Given.RuleWords.{Blocks, place_word}
use Rattle.run_places.specs.Given.PointsFactsCalls.{Change, Unchanged, Stored, Replaced, Removed, AnswersChange}
use Rattle.run_places.specs.Given.CallersSights.{seen_by}
use Rattle.run_places.specs.Given.CallersSince.{SoSince}
use Rattle.run_places.specs.Given.CallersTogether.{CallOnKey, OnKey, AnswersOnce, change_observed, in_slot}
use Rattle.run_places.specs.Given.FinishesMaps.{Standing}
use Rattle.run_places.specs.Given.EffectsKnown.{Known}
use Rattle.run_places.specs.Given.EffectsDeclared.role.Role.TheVariants as role
use Rattle.run_places.specs.Given.FollowsShows.{Refines}
use Rattle.run_places.proofs.Given.FollowsSteps.{WentTo, LeadsThere, DidSo}
use Rattle.run_places.specs.Moments.Whole.{RefinesWhole}
use Rattle.run_histories.specs.Histories.Answers.{IsAnsweredAs, IsAnsweredDone, AnswersArePending}
use Rattle.run_histories.specs.Histories.Due.{HasPendingAnswer, RefinesPendingAnswers}
use Rattle.run_histories.proofs.Histories.Answers.{ended}
use Rattle.run_histories.proofs.Histories.Due.{change_by, owes_then_by, was_there}
use Rattle.run_histories.proofs.Histories.Roles.{named_by, no_change, roles_before, roles_after}
use Rattle.run_places.proofs.Changes.Steps.{to, led_on, v, after}
use Rattle.run_places.specs.Given.ScenesHeld.{Held, IsAt}
use Rattle.run_places.specs.Given.ScenesScene.{Scene, slot_of}
use Rattle.run_places.specs.Given.ScenesStepping.{StepLeads}
use Rattle.run_places.specs.Given.SchedulesTransition.{Past}

module _ {K V : Type 0} (same : K → K → Bool) (hash : ℕ → K → ℕ) (name : ℕ → List ℕ) (log : Past K V) (m : Moment K V) (known : Known) (s : Scene K V) (old new : Held K V)
    (at : IsAt same hash old s) (whole : RefinesWhole same name m known s) (dues : RefinesPendingAnswers same name log m known s) (map i : ℕ) (z : CallOnKey K V K) (here : s.calls map i ≡ Some (OnKey z))
    (answer : KeyAnswer) (leads : StepLeads same hash i (Done (Key answer)) s old new) (c : CallThere K V) (c_is : call_of (name i) m ≡ Some c) (one : OneKey K V) (one_is : c.call ≡ On one) where
  abbrev said : Progress (Node K V)
  said = Done (Key answer)

  abbrev shown : Refines same name m known s
  shown = dues.history.shown

  abbrev went : WentTo same hash name m known s old new at shown map i (OnKey z) here said leads
  went = to same hash name m known s old new at whole shown map i (OnKey z) here said leads

  abbrev st : Standing K
  st = went.0

  abbrev on : LeadsThere same hash name m known s old new at shown map i (OnKey z) here said leads
  on = led_on same hash name m known s old new at whole shown map i (OnKey z) here said leads

  abbrev number : ℕ → ℕ
  number = on.shows.number map

  abbrev known2 : Known
  known2 = after same hash name m known s old new at whole shown map i (OnKey z) here said leads

  -- the map after its step
  abbrev st2 : Standing K
  st2 = record st { chart = went.4.its_map.0; blocks = went.4.its_map.1; sights = went.4.its_map.2 }

  module _ (d : CallThere K V) (d_is : call_of (name i) (v same hash name m known s old new at whole shown map i (OnKey z) here said leads) ≡ Some d) (a : Response V) where
    replies_are : d.replies ≡ c.replies
    replies_are = (was_there same hash name log m known s old new at whole dues map i (OnKey z) here said leads i c d c_is d_is).1

    module _ (c2 : Chart K) (seen : Blocks) (roles : (n : ℕ) → n < c2.stored → seen.pair_known n ≡ true → known2.roles (seen.pair n) ≡ role.Pair (number n)) where
      names_it : (word n : ℕ) (borrowed : Bool) → (n < c2.stored) × (seen.pair_known n ≡ true) → word ≡ place_word st.hash c2 seen (Holds n Still borrowed) → (q : ℕ) → known2.roles (block_in word) ≡ role.Pair q → q ≡ number n
      names_it word n borrowed there word_is q names =
          let pairs : role.Pair q ≡ role.Pair (number n) =
          sym names ∙ ap known2.roles (named_by same st.hash (at.together.makings.standing.fit map st went.2).0 c2 seen word n Still borrowed word_is) ∙ roles n there.0 there.1 in cc pairs

      -- of one meaning there is one answer
      one_answer : (o p : Option ℕ) (n q : ℕ) (b : Response V) (e f : Deed V) → p ≡ o → q ≡ n → means one (reply_to o d.replies) o n ≡ Answers b e → means one (reply_to p c.replies) p q ≡ Answers a f → b ≡ a
      one_answer o p n q b e f same_old same_new owed told =
          let both : Answers b e ≡ Answers a f = sym owed ∙ ap (λ (r : List (Option ℕ × Reply V)). means one (reply_to o r) o n) replies_are
          ∙ ap (λ (x : Option ℕ). means one (reply_to x c.replies) x n) (sym same_old) ∙ ap (λ (x : ℕ). means one (reply_to p c.replies) p x) (sym same_new) ∙ told in cc both

      owed_by : (w : World (Node K V)) (stored : ℕ) (change : Change) (an : KeyAnswer) → AnswersChange same st.hash same w i (in_slot st.setting (slot_of i)) c2 seen z.keys change change an → HasPendingAnswer number stored one d change
          → IsAnsweredDone known2 one c.replies an a → d.due ≡ Some a
      owed_by w stored Unchanged an tells owes told = absurd tells
      owed_by w stored (Stored n) (answers.Stored word) (there, word_is) (l, b, value, owed, due) (q, names, other, told_so) =
          due ∙ ap Some (one_answer None None (number n) q b (Puts value) (Puts other) refl (names_it word n false there word_is q names) owed told_so)
      owed_by w stored (Stored n) (answers.Found word) tells owes told = absurd tells
      owed_by w stored (Stored n) answers.Absent tells owes told = absurd tells
      owed_by w stored (Stored n) (answers.Replaced before then_there) tells owes told = absurd tells
      owed_by w stored (Stored n) (answers.Removed word) tells owes told = absurd tells
      owed_by w stored (Replaced o n) (answers.Replaced before then_there) (old_there, new_there, borrowed, old_is, new_is) (l, l2, b, value, owed, due) (p, q, old_names, new_names, other, told_so) =
          due ∙ ap Some (one_answer (Some (number o)) (Some p) (number n) q b (Puts value) (Puts other) (ap Some (names_it before o borrowed old_there old_is p old_names))
          (names_it then_there n false new_there new_is q new_names) owed told_so)
      owed_by w stored (Replaced o n) (answers.Found word) tells owes told = absurd tells
      owed_by w stored (Replaced o n) answers.Absent tells owes told = absurd tells
      owed_by w stored (Replaced o n) (answers.Stored word) tells owes told = absurd tells
      owed_by w stored (Replaced o n) (answers.Removed word) tells owes told = absurd tells
      owed_by w stored (Removed o) (answers.Removed word) (there, borrowed, word_is) (l, b, fresh, owed, due) (p, names, told_so) =
          due ∙ ap Some (one_answer (Some (number o)) (Some p) fresh fresh b Takes Takes (ap Some (names_it word o borrowed there word_is p names)) refl owed (told_so fresh))
      owed_by w stored (Removed o) (answers.Found word) tells owes told = absurd tells
      owed_by w stored (Removed o) answers.Absent tells owes told = absurd tells
      owed_by w stored (Removed o) (answers.Stored word) tells owes told = absurd tells
      owed_by w stored (Removed o) (answers.Replaced before then_there) tells owes told = absurd tells

      -- an answer without a change tells none
      no_look : (an : KeyAnswer) → SoSince st.hash c2 seen z.keys z.began an → IsAnsweredDone known2 one c.replies an a → ⊥
      no_look (answers.Found word) so told = told
      no_look answers.Absent so told = told
      no_look (answers.Stored word) (time, from, until, never) told = never
      no_look (answers.Replaced before then_there) (time, from, until, never) told = never
      no_look (answers.Removed word) (time, from, until, never) told = never

      owed_once : (w : World (Node K V)) (stored : ℕ) (change : Change) → AnswersOnce V same st.hash same st.setting slot_of w c2 seen i z change answer → HasPendingAnswer number stored one d change
          → IsAnsweredDone known2 one c.replies answer a → d.due ≡ Some a
      owed_once w stored change (fits, inl (none, so, leaves)) owes told = absurd (no_look answer so told)
      owed_once w stored change (fits, inr (changed, tells, stores)) owes told = owed_by w stored change answer tells owes told

      unchanged : (w : World (Node K V)) (change : Change) → AnswersOnce V same st.hash same st.setting slot_of w c2 seen i z change answer → IsAnsweredAs known2 one c.replies answer a → change ≡ Unchanged
      unchanged w change (fits, inl (none, so, leaves)) told = none
      unchanged w change (fits, inr (changed, tells, stores)) told =
          absurd (no_change same st.hash same w i (in_slot st.setting (slot_of i)) c2 seen z.keys change known2 one c.replies a change answer tells told)

      -- and where none is told, it owes none
      none_owed : (w : World (Node K V)) (stored : ℕ) (change : Change) → AnswersOnce V same st.hash same st.setting slot_of w c2 seen i z change answer → HasPendingAnswer number stored one d change
          → IsAnsweredAs known2 one c.replies answer a → d.due ≡ None
      none_owed w stored change once owes told = subst (λ (x : Change). HasPendingAnswer number stored one d x) (unchanged w change once told) owes

    by : (did : DidSo same hash name m known s old new at shown map i (OnKey z) here said leads (OnKey z))
        → HasPendingAnswer number st2.chart.stored one d (change_by same hash name log m known s old new at whole dues map i z here said leads c c_is one one_is st2 went.4.its_map.4 d d_is did)
        → IsAnsweredDone known2 one c.replies answer a → d.due ≡ Some a
    by (p2, end, machine_is, told_is, inl (step, moved)) owes told =
        owed_once step.step.went.c2 step.step.went.blocks2 (roles_after same hash name m known s old new at whole shown map i z here said leads p2 end step moved.1) step.step.went.w2 st2.chart.stored
        (change_observed V same st.hash same st.setting slot_of step.step.went.told) (step.step.answers answer (ended end answer told_is)) owes told
    by (p2, end, machine_is, told_is, inr (row, stayed)) owes told =
        owed_once st.chart (seen_by st.blocks (st.sights (slot_of i))) (roles_before same hash name m known s old new at whole shown map i z here said leads) row.step.w2 st2.chart.stored
        z.change (row.step.answers answer (ended end answer told_is)) owes told

    pub owed : IsAnsweredDone known2 one c.replies answer a → d.due ≡ Some a
    owed told = by went.4.did (owes_then_by same hash name log m known s old new at whole dues map i z here said leads c c_is one one_is st2 went.4.its_map.4 d d_is) told

    none_by : (did : DidSo same hash name m known s old new at shown map i (OnKey z) here said leads (OnKey z))
        → HasPendingAnswer number st2.chart.stored one d (change_by same hash name log m known s old new at whole dues map i z here said leads c c_is one one_is st2 went.4.its_map.4 d d_is did)
        → IsAnsweredAs known2 one c.replies answer a → d.due ≡ None
    none_by (p2, end, machine_is, told_is, inl (step, moved)) owes told =
        none_owed step.step.went.c2 step.step.went.blocks2 (roles_after same hash name m known s old new at whole shown map i z here said leads p2 end step moved.1) step.step.went.w2 st2.chart.stored
        (change_observed V same st.hash same st.setting slot_of step.step.went.told) (step.step.answers answer (ended end answer told_is)) owes told
    none_by (p2, end, machine_is, told_is, inr (row, stayed)) owes told =
        none_owed st.chart (seen_by st.blocks (st.sights (slot_of i))) (roles_before same hash name m known s old new at whole shown map i z here said leads) row.step.w2 st2.chart.stored
        z.change (row.step.answers answer (ended end answer told_is)) owes told

    -- the call has changed nothing then
    unchanged_by : (did : DidSo same hash name m known s old new at shown map i (OnKey z) here said leads (OnKey z)) → IsAnsweredAs known2 one c.replies answer a
        → change_by same hash name log m known s old new at whole dues map i z here said leads c c_is one one_is st2 went.4.its_map.4 d d_is did ≡ Unchanged
    unchanged_by (p2, end, machine_is, told_is, inl (step, moved)) told =
        unchanged step.step.went.c2 step.step.went.blocks2 (roles_after same hash name m known s old new at whole shown map i z here said leads p2 end step moved.1) step.step.went.w2
        (change_observed V same st.hash same st.setting slot_of step.step.went.told) (step.step.answers answer (ended end answer told_is)) told
    unchanged_by (p2, end, machine_is, told_is, inr (row, stayed)) told =
        unchanged st.chart (seen_by st.blocks (st.sights (slot_of i))) (roles_before same hash name m known s old new at whole shown map i z here said leads) row.step.w2
        z.change (row.step.answers answer (ended end answer told_is)) told

    pub change_none : IsAnsweredAs known2 one c.replies answer a → change_by same hash name log m known s old new at whole dues map i z here said leads c c_is one one_is st2 went.4.its_map.4 d d_is went.4.did ≡ Unchanged
    change_none told = unchanged_by went.4.did told

    pub due_none : IsAnsweredAs known2 one c.replies answer a → d.due ≡ None
    due_none told = none_by went.4.did (owes_then_by same hash name log m known s old new at whole dues map i z here said leads c c_is one one_is st2 went.4.its_map.4 d d_is) told

pub answers_are_owed : (K V : Type 0) (same : K → K → Bool) (hash : ℕ → K → ℕ) → AnswersArePending K V same hash
answers_are_owed K V same hash name log m known s old new at whole dues map i u here answer leads c c_is one one_is d d_is a told =
    owed same hash name log m known s old new at whole dues map i u here answer leads c c_is one one_is d d_is a told
