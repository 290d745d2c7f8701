-- An answer without a change is what the call means at a moment of the run since it began.
use Rattle.std.specs.Prelude.{◌≡◌, ℕ, ◌+◌, ◌<◌, ◌≤◌, Bool, true, false, List, ◌∷◌, length, Option, Some, None}
use Rattle.std.proofs.Common.{refl, ap, sym, subst, ◌∙◌, inl, inr}
use Rattle.run_places.specs.Given.SeizeWorld.{World}
use Rattle.run_places.specs.Given.TablesChunks.{is_incremental}
use Rattle.run_places.specs.Given.TablesDeclared.node.Node.{Node}
use Rattle.run_places.specs.Given.RawProgress.{of_called}
use Rattle.run_places.specs.Given.RawDeclared.machines.answer.Called.{Called}
use Rattle.run_places.specs.Given.RawDeclared.machines.answer.Called.TheVariants as called
use Rattle.run_places.specs.Given.RawDeclared.machines.answer.KeyAnswer.{KeyAnswer}
use Rattle.run_places.specs.Given.RawDeclared.machines.answer.KeyAnswer.TheVariants as answers
use Rattle.run_places.specs.Given.RawDeclared.machines.call.KeyCall.{KeyCall}
use Rattle.run_places.specs.Given.RawDeclared.machines.progress.Answer.TheVariants.{Key}
use Rattle.run_places.specs.Given.RawDeclared.machines.progress.Progress.{Progress}
use Rattle.run_places.specs.Given.RawDeclared.machines.progress.Progress.TheVariants.{Done}
use Rattle.run_places.specs.Given.RunsDeclared.call.Response.{Response}
use Rattle.run_places.specs.Given.RunsDeclared.call.Call.TheVariants.{On}
use Rattle.run_places.specs.Given.RunsDeclared.call.OneKey.{OneKey}
use Rattle.run_places.specs.Given.SchedulesLinearizable.{meaning_at}
use Rattle.run_places.specs.Given.SchedulesLists.{OneOf}
use Rattle.run_places.specs.Given.SchedulesMoment.{UnderWay as CallThere, Moment}
use Rattle.run_places.specs.Given.SchedulesSequential.{Meaning, Answers, Leaves, means, key_of}
use Rattle.run_places.specs.Given.SchedulesViews.{call_of, finite_map, reply_to}
use Rattle.run_places.specs.Given.RuleChart.{Chart}
use Rattle.run_places.specs.Given.RuleWords.{Blocks}
use Rattle.run_places.specs.Given.PointsFactsCalls.{Change, Unchanged, Changes}
use Rattle.run_places.specs.Given.CallersSights.{seen_by}
use Rattle.run_places.specs.Given.CallersSince.{SoSince}
use Rattle.run_places.specs.Given.CallersTogether.{CallOnKey, OnKey, StepOutcome, Fresh, Late, change_observed, AnswersOnce, in_slot}
use Rattle.run_places.specs.Given.FinishesMaps.{Standing, IsSameMap}
use Rattle.run_places.specs.Given.EffectsKnown.{Known}
use Rattle.run_places.specs.Given.EffectsDeclared.role.Role.TheVariants as role
use Rattle.run_places.specs.Given.FollowsShows.{Refines}
use Rattle.run_places.proofs.Given.FollowsSteps.{WentTo, DidSo, LeadsThere}
use Rattle.run_places.specs.Moments.Whole.{RefinesWhole}
use Rattle.run_histories.specs.Histories.Answers.{NamesPair, IsAnsweredAs, AnswersWereSo}
use Rattle.run_places.specs.Changes.Had.{HadThen}
use Rattle.run_places.specs.Changes.Histories.{IsWithin, RefinesHistory}
use Rattle.run_places.proofs.Changes.Had.{had_none, had_pair}
use Rattle.run_places.proofs.Changes.Keys.{its_call}
use Rattle.run_places.proofs.Changes.Later.{IsLater}
use Rattle.run_places.proofs.Changes.Logs.{each_of, now_there}
use Rattle.run_histories.proofs.Histories.Roles.{named_by, no_change, stands_then, stands_is, roles_before, roles_after}
use Rattle.run_places.proofs.Changes.Steps.{to, led_on, v, after, maps_later, now_then, same_pairs}
use Rattle.run_places.proofs.Changes.Within.{within_on}
use Rattle.run_places.specs.Given.ScenesHeld.{Held, IsAt}
use Rattle.run_places.specs.Given.ScenesScene.{Scene, slot_of}
use Rattle.run_places.specs.Given.ScenesStepping.{StepLeads}
use Rattle.run_places.specs.Given.SchedulesTransition.{Past}
use Rattle.run_places.proofs.Given.General.{same_some as one_of}

pub ended : {T : Type 0} (end : Called T) (answer : KeyAnswer) → Done (Key answer) ≡ of_called end → end ≡ called.Done answer
ended called.Goes answer e = absurd (cc e)
ended called.Waits answer e = absurd (cc e)
ended (called.Gave value) answer e = absurd (cc e)
ended (called.Unstored value) answer e = absurd (cc e)
ended (called.Asks about) answer e = absurd (cc e)
ended (called.Done other) answer e = let one : other ≡ answer = cc e in ap called.Done one
ended (called.Refused fault) answer e = absurd (cc e)

module _ {K V : Type 0} (same : K → K → Bool) (hash : ℕ → K → ℕ) (name : ℕ → List ℕ) (log : Past K V) (m : Moment K V) (known : Known) (s : Scene K V) (old new : Held K V)
    (at : IsAt same hash old s) (whole : RefinesWhole same name m known s) (history : RefinesHistory same name log m known s) (map i : ℕ) (x : CallOnKey K V K)
    (here : s.calls map i ≡ Some (OnKey x)) (said : Progress (Node K V)) (leads : StepLeads same hash i said s old new)
    (c : CallThere K V) (c_is : call_of (name i) m ≡ Some c) (one : OneKey K V) (one_is : c.call ≡ On one)
    (still : finite_map same map m (key_of one) ≡ finite_map same map log.now (key_of one)) (mean : Meaning V) where
  abbrev shown : Refines same name m known s
  shown = history.shown

  abbrev went : WentTo same hash name m known s old new at shown map i (OnKey x) here said leads
  went = to same hash name m known s old new at whole shown map i (OnKey x) here said leads

  abbrev st : Standing K
  st = went.0

  abbrev on : LeadsThere same hash name m known s old new at shown map i (OnKey x) here said leads
  on = led_on same hash name m known s old new at whole shown map i (OnKey x) here said leads

  abbrev v2 : Moment K V
  v2 = v same hash name m known s old new at whole shown map i (OnKey x) here said leads

  abbrev known2 : Known
  known2 = after same hash name m known s old new at whole shown map i (OnKey x) here said leads

  abbrev k : K
  k = key_of one

  abbrev Means : Moment K V → Type 0
  Means y = meaning_at same one c y ≡ mean

  abbrev Goal : Type 0
  Goal = OneOf Means (log.since c.begun)

  its : (c.map ≡ map) × (x.keys ≡ same k)
  its = its_call same name m known s shown map i x here c c_is one one_is

  begun : c.begun ≤ log.entries
  begun = history.begun map i (OnKey x) here c c_is

  module _ (st2 : Standing K) (st2_is : went.4.maps2 map ≡ Some st2) (kept : st2.chart.current ≡ st.chart.current) where
    abbrev number2 : ℕ → ℕ
    number2 = on.shows.number map

    later : IsLater st.chart st2.chart
    later =
        let it = maps_later same hash name m known s old new at whole shown map i (OnKey x) here said leads map st2 st2_is in
        subst (λ (z : Standing K). IsLater z.chart st2.chart) (one_of it.0 st (sym it.1 ∙ went.2)) it.2

    now2 : (key : K) → HadThen same st2 number2 st2.chart.now key (finite_map same map v2 key)
    now2 key = now_then same hash name m known s old new at whole shown map i (OnKey x) here said leads map st2 st2_is key

    -- no class has another pair then
    same_then : (key : K) → finite_map same map v2 key ≡ finite_map same map m key
    same_then key = same_pairs same hash name m known s old new at whole shown map i (OnKey x) here said leads map st2 st2_is st went.2 kept key

    within2 : IsWithin same map st2 number2 (v2 ∷ log.since c.begun) x.began
    within2 = within_on same map st st2 (shown.number map) number2 later (on.numbers map st went.2) log history.past m v2 c.begun begun (λ key. inl (same_then key)) now2 x.began
        (history.within map i (OnKey x) here st went.2 c c_is x.began refl)

    -- what the class had at a moment of the map since the call began, it had at one between two events
    means_then : (o : Option ℕ) → ((n : ℕ) → means one (reply_to o c.replies) o n ≡ mean) → (time : ℕ) → x.began ≤ time → time ≤ st2.chart.now
        → ((p : Option ℕ) → HadThen same st2 number2 time k p → p ≡ o) → Goal
    means_then o meaning time from to is = by (within2 time from to k)
      where
        so : (y : Moment K V) → finite_map same map y k ≡ o → Means y
        so y e =
            ap (λ (z : Option ℕ). means one (reply_to z c.replies) z (length y.stored + 1)) (ap (λ (z : ℕ). finite_map same z y k) its.0 ∙ e) ∙ meaning (length y.stored + 1)

        by : OneOf (λ (y : Moment K V). HadThen same st2 number2 time k (finite_map same map y k)) (v2 ∷ log.since c.begun) → Goal
        by (inl had) = now_there log history.past Means c.begun begun (so log.now (sym still ∙ sym (same_then k) ∙ is (finite_map same map v2 k) had))
        by (inr had) =
            each_of (λ (y : Moment K V). HadThen same st2 number2 time k (finite_map same map y k)) Means (log.since c.begun) (λ y h. so y (is (finite_map same map y k) h)) had

    module _ (seen : Blocks) (roles : (n : ℕ) → n < st2.chart.stored → seen.pair_known n ≡ true → known2.roles (seen.pair n) ≡ role.Pair (number2 n)) where
      -- where its key's class had the pair that was found
      pub found_then : (word : ℕ) → SoSince st2.hash st2.chart seen x.keys x.began (answers.Found word) → (q : ℕ) → NamesPair known2 word q
          → ((n : ℕ) → means one (reply_to (Some q) c.replies) (Some q) n ≡ mean) → Goal
      found_then word (time, from, until, (n, had, known_too, phase, borrowed, word_is)) q names meaning =
          let named = named_by same st2.hash (went.5.together.makings.standing.fit map st2 st2_is).0 st2.chart seen word n phase borrowed word_is in
          let pairs : role.Pair q ≡ role.Pair (number2 n) = sym names ∙ ap known2.roles named ∙ roles n had.0 known_too in
          let q_is : q ≡ number2 n = cc pairs in
          means_then (Some q) meaning time from until
          (λ p h. had_pair same st2 number2 time k p h n (had.0, had.1, had.2, had.3, ap (λ (f : K → Bool). f had.2) (sym its.1) ∙ had.4) ∙ ap Some (sym q_is))

      -- or none
      pub absent_then : SoSince st2.hash st2.chart seen x.keys x.began answers.Absent → ((n : ℕ) → means one (reply_to None c.replies) None n ≡ mean) → Goal
      absent_then (time, from, until, none) meaning = means_then None meaning time from until
          (λ p h. had_none same st2 number2 time k p h (λ n had.
          let no : same k had.2 ≡ false = ap (λ (f : K → Bool). f had.2) (sym its.1) ∙ none.1 n had.2 had.0 had.1 had.3 in let yes = had.4 in cc (no, yes)))

  -- a step by which the call has changed nothing has moved no pair
  pub kept_by : {p2 : KeyCall K V K} {end : Called (Node K V)} {w2 : World (Node K V)} {c2 : Chart K} {blocks2 : Blocks} → (it : StepOutcome V same st.hash same st.setting slot_of st.chart i x p2 end w2 c2 blocks2)
      → change_observed V same st.hash same st.setting slot_of it ≡ Unchanged → c2.current ≡ st.chart.current
  kept_by {c2 = c2} (Fresh told) none = elim told.changes as (λ _. c2.current ≡ st.chart.current) [
    | inl kept ↦ kept.1
    | inr changed ↦ subst (λ (z : Change). Changes same st.hash (is_incremental st.setting.mode) x.keys st.chart c2 z) none changed.1
  ]
  kept_by (Late blocking none told) e = told.same_pairs

  -- the map after a step of a row
  module _ (stayed : IsSameMap (s.maps map) (went.4.maps2 map)) where
    pub same_map : IsSameMap (Some st) (went.4.maps2 map)
    same_map = subst (λ (o : Option (Standing K)). IsSameMap o (went.4.maps2 map)) went.2 stayed

    abbrev pub stands_on : Standing K
    stands_on = record st { blocks = same_map.0; sights = same_map.1 }

    pub stands_on_is : went.4.maps2 map ≡ Some stands_on
    stands_on_is = same_map.2

module _ {K V : Type 0} (same : K → K → Bool) (hash : ℕ → K → ℕ) (name : ℕ → List ℕ) (log : Past K V) (m : Moment K V) (known : Known) (s : Scene K V) (old new : Held K V)
    (at : IsAt same hash old s) (whole : RefinesWhole same name m known s) (history : RefinesHistory same name log m known s) (map i : ℕ) (x : CallOnKey K V K)
    (here : s.calls map i ≡ Some (OnKey x)) (answer : KeyAnswer) (leads : StepLeads same hash i (Done (Key answer)) s old new)
    (c : CallThere K V) (c_is : call_of (name i) m ≡ Some c) (one : OneKey K V) (one_is : c.call ≡ On one)
    (still : finite_map same map m (key_of one) ≡ finite_map same map log.now (key_of one)) (a : Response V) where
  abbrev said : Progress (Node K V)
  said = Done (Key answer)

  abbrev its_shown : Refines same name m known s
  its_shown = history.shown

  abbrev its_step : WentTo same hash name m known s old new at its_shown map i (OnKey x) here said leads
  its_step = to same hash name m known s old new at whole its_shown map i (OnKey x) here said leads

  abbrev stood : Standing K
  stood = its_step.0

  abbrev noted : Known
  noted = after same hash name m known s old new at whole its_shown map i (OnKey x) here said leads

  abbrev Answered : Type 0
  Answered = OneOf (λ (y : Moment K V). meaning_at same one c y ≡ Answers a Leaves) (log.since c.begun)

  module _ (st2 : Standing K) (st2_is : its_step.4.maps2 map ≡ Some st2) (kept : st2.chart.current ≡ stood.chart.current) (seen : Blocks)
      (roles : (n : ℕ) → n < st2.chart.stored → seen.pair_known n ≡ true → noted.roles (seen.pair n) ≡ role.Pair ((led_on same hash name m known s old new at whole its_shown map i (OnKey x) here said leads).shows.number map n)) where
    was_so : (an : KeyAnswer) → SoSince st2.hash st2.chart seen x.keys x.began an → IsAnsweredAs noted one c.replies an a → Answered
    was_so (answers.Found word) so told =
        found_then same hash name log m known s old new at whole history map i x here said leads c c_is one one_is still (Answers a Leaves) st2 st2_is kept seen roles word so told.0 told.1 told.2
    was_so answers.Absent so told = absent_then same hash name log m known s old new at whole history map i x here said leads c c_is one one_is still (Answers a Leaves) st2 st2_is kept seen roles so told
    was_so (answers.Stored word) (time, from, until, never) told = absurd never
    was_so (answers.Replaced before then_there) (time, from, until, never) told = absurd never
    was_so (answers.Removed word) (time, from, until, never) told = absurd never

  module _ (w : World (Node K V)) (c2 : Chart K) (seen : Blocks) where
    once : (change : Change) → AnswersOnce V same stood.hash same stood.setting slot_of w c2 seen i x change answer → IsAnsweredAs noted one c.replies answer a
        → (change ≡ Unchanged) × SoSince stood.hash c2 seen x.keys x.began answer
    once change (fits, inl so) told = (so.0, so.1)
    once change (fits, inr (changed, tells, stores)) told = absurd (no_change same stood.hash same w i (in_slot stood.setting (slot_of i)) c2 seen x.keys change noted one c.replies a change answer tells told)

  by : (told : IsAnsweredAs noted one c.replies answer a) → DidSo same hash name m known s old new at its_shown map i (OnKey x) here said leads (OnKey x) → Answered
  by told (p2, end, machine_is, told_is, inl (step, moved)) =
      let it = once step.step.went.w2 step.step.went.c2 step.step.went.blocks2 (change_observed V same stood.hash same stood.setting slot_of step.step.went.told) (step.step.answers answer (ended end answer told_is)) told in
      was_so (stands_then same hash name m known s old new at whole its_shown map i x here said leads p2 end step moved.1) (stands_is same hash name m known s old new at whole its_shown map i x here said leads p2 end step moved.1)
      (kept_by same hash name log m known s old new at whole history map i x here said leads c c_is one one_is still (Answers a Leaves) step.step.went.told it.0) step.step.went.blocks2 (roles_after same hash name m known s old new at whole its_shown map i x here said leads p2 end step moved.1) answer it.1 told
  by told (p2, end, machine_is, told_is, inr (row, stayed)) =
      let it = once row.step.w2 stood.chart (seen_by stood.blocks (stood.sights (slot_of i))) x.change (row.step.answers answer (ended end answer told_is)) told in
      was_so (stands_on same hash name log m known s old new at whole history map i x here said leads c c_is one one_is still (Answers a Leaves) (stayed.1 map)) (stands_on_is same hash name log m known s old new at whole history map i x here said leads c c_is one one_is still (Answers a Leaves) (stayed.1 map)) refl (seen_by stood.blocks (stood.sights (slot_of i)))
      (roles_before same hash name m known s old new at whole its_shown map i x here said leads) answer it.1 told

pub answers_were_so : (K V : Type 0) (same : K → K → Bool) (hash : ℕ → K → ℕ) → AnswersWereSo K V same hash
answers_were_so K V same hash name log m known s old new at whole history map i u here answer leads c c_is one one_is still a told =
    by same hash name log m known s old new at whole history map i u here answer leads c c_is one one_is still a told (leads map (OnKey u) here).4.did
