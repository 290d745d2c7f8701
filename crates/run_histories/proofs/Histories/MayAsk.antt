-- What a call stands at to ask, and has not asked yet, it may ask.
use Rattle.std.specs.Prelude.{◌≡◌, ℕ, ◌+◌, ◌<◌, ◌≤◌, Bool, true, false, List, [], ◌∷◌, ◌++◌, length, Option, Some, None, ◌⊎◌}
use Rattle.std.proofs.Common.{refl, ap, sym, subst, ◌∙◌, inl, inr}
use Rattle.run_places.specs.Given.SeizeWordsWord.{block_in}
use Rattle.run_places.specs.Given.RawDeclared.machines.answer.KeyAnswer.{KeyAnswer}
use Rattle.run_places.specs.Given.RawDeclared.machines.answer.KeyAnswer.TheVariants as answers
use Rattle.run_places.specs.Given.RawDeclared.machines.asking.Asking.{Asking as AskingAt}
use Rattle.run_places.specs.Given.RawDeclared.machines.asking.Asking.TheVariants as asking
use Rattle.run_places.specs.Given.RawDeclared.machines.asking.Gap.{Gap}
use Rattle.run_places.specs.Given.RawDeclared.machines.call.Calling.{Calling}
use Rattle.run_places.specs.Given.RawDeclared.machines.call.Calling.TheVariants as at
use Rattle.run_places.specs.Given.RunsDeclared.call.Call.{Call}
use Rattle.run_places.specs.Given.RunsDeclared.call.Call.TheVariants.{On}
use Rattle.run_places.specs.Given.RunsDeclared.call.OneKey.{OneKey}
use Rattle.run_places.specs.Given.SchedulesLinearizable.{there_for, MayAsk}
use Rattle.run_places.specs.Given.SchedulesLists.{OneOf, is_in}
use Rattle.run_places.specs.Given.SchedulesMoment.{UnderWay as CallThere, Moment}
use Rattle.run_places.specs.Given.SchedulesSequential.{Wants, means, key_of, asks_again}
use Rattle.run_places.specs.Given.SchedulesThings.{same_question}
use Rattle.run_places.specs.Given.SchedulesViews.{call_of, finite_map}
use Rattle.run_places.specs.Given.RuleChart.{Phase, Holds, Still}
use Rattle.run_places.specs.Given.RuleWords.{Blocks, place_word}
use Rattle.run_places.specs.Given.PointsFactsCalls.{Change, Unchanged, Seeks}
use Rattle.run_places.specs.Given.PointsSteps.{AreLawful}
use Rattle.run_places.specs.Given.PointsTold.{IsRowOfCall, HasAnswered}
use Rattle.run_places.specs.Given.LateKinds.{FitsAsking}
use Rattle.run_places.specs.Given.CallersAsked.{last_reply}
use Rattle.run_places.specs.Given.CallersPairs.{Given, kind_of, KeepsGiven}
use Rattle.run_places.specs.Given.CallersSights.{seen_by}
use Rattle.run_places.specs.Given.CallersSince.{SoSince}
use Rattle.run_places.specs.Given.CallersTogether.{CallOnKey, OnKey, Knows, Together, in_slot}
use Rattle.run_places.specs.Given.FinishesMaps.{Standing}
use Rattle.run_places.specs.Given.EffectsKnown.{Known}
use Rattle.run_places.specs.Given.EffectsDeclared.role.Role.TheVariants as role
use Rattle.run_places.specs.Hands.Asked.{given_by, KnowsFirst, IsSameQuestion, IsQuestion, IsAskedOn, IsAskedAs, AsksThere}
use Rattle.run_places.proofs.Hands.Replies.{told_as}
use Rattle.run_places.proofs.Hands.Steps.{numbers_apart}
use Rattle.run_places.proofs.Hands.Takes.{not_first}
use Rattle.run_histories.specs.Histories.Due.{HasPendingAnswer, RefinesPendingAnswers}
use Rattle.run_places.specs.Changes.Had.{HadThen}
use Rattle.run_histories.specs.Histories.Questions.{unanswered, replied_to, AllHaveAskedJust}
use Rattle.run_places.proofs.Changes.Had.{had_none, had_pair}
use Rattle.run_places.proofs.Changes.Keys.{its_call}
use Rattle.run_places.proofs.Changes.Logs.{each_of, now_there}
use Rattle.run_histories.proofs.Histories.Roles.{named_by}
use Rattle.run_histories.proofs.Histories.Several.{stands}
use Rattle.run_histories.proofs.Histories.Untold.{never_asked, wants_none, wants_pair, fits_it, untold_none, untold_pair}
use Rattle.run_places.specs.Given.ScenesHeld.{Held, IsAt}
use Rattle.run_places.specs.Given.ScenesScene.{Scene, slot_of}
use Rattle.run_places.specs.Given.SchedulesTransition.{Past}

module _ {K V : Type 0} (same : K → K → Bool) (hash : ℕ → K → ℕ) (name : ℕ → List ℕ) (log : Past K V) (m : Moment K V) (known : Known) (s : Scene K V) (e : Held K V)
    (at_e : IsAt same hash e s) (dues : RefinesPendingAnswers same name log m known s) (map i : ℕ) (u : CallOnKey K V K) (here : s.calls map i ≡ Some (OnKey u))
    (c : CallThere K V) (c_is : call_of (name i) m ≡ Some c) (one : OneKey K V) (one_is : c.call ≡ On one) where
  abbrev st : Standing K
  st = (stands same hash s e at_e map i (OnKey u) here).0

  st_is : s.maps map ≡ Some st
  st_is = (stands same hash s e at_e map i (OnKey u) here).1

  each : Together V same st.hash same st.setting slot_of s.world st.chart st.blocks st.sights (s.calls map)
  each = at_e.together.makings.standing.each map st st_is

  lawful : AreLawful same st.hash
  lawful = (at_e.together.makings.standing.fit map st st_is).0

  abbrev seen : Blocks
  seen = seen_by st.blocks (st.sights (slot_of i))

  abbrev number : ℕ → ℕ
  number = dues.history.shown.number map

  abbrev k : K
  k = key_of one

  its : (c.map ≡ map) × (u.keys ≡ same k)
  its = its_call same name m known s dues.history.shown map i u here c c_is one one_is

  asked : IsAskedOn number st.chart.stored known u one c
  asked = subst (λ (z : Call K V). IsAskedAs number st.chart.stored known u z c) one_is (dues.history.asked.each map i (OnKey u) here st st_is c c_is)

  -- a pair that the call may look at has its number in the run
  roles : (n : ℕ) → n < st.chart.stored → seen.pair_known n ≡ true → known.roles (seen.pair n) ≡ role.Pair (number n)
  roles n l known_too =
      (dues.history.shown.maps map st st_is).pairs.roles n l ((each.ground.sight (slot_of i) (each.inside i (OnKey u) here)).0.pairs n l known_too)

  -- a word that names a pair of the map names that of its number
  names_it : (word n : ℕ) (phase : Phase) (borrowed : Bool) → n < st.chart.stored → seen.pair_known n ≡ true → word ≡ place_word st.hash st.chart seen (Holds n phase borrowed)
      → (q : ℕ) → known.roles (block_in word) ≡ role.Pair q → q ≡ number n
  names_it word n phase borrowed l known_too word_is q names =
      let pairs : role.Pair q ≡ role.Pair (number n) = sym names ∙ ap known.roles (named_by same st.hash lawful st.chart seen word n phase borrowed word_is) ∙ roles n l known_too in cc pairs

  -- where it asks
  module _ (it : AskingAt) (stands_at : u.call.stands ≡ at.Asks it) where
    knows : Knows V same st.hash same st.setting slot_of s.world st.chart seen i u u.call
    knows = elim (each.stand i (OnKey u) here) as (λ _. Knows V same st.hash same st.setting slot_of s.world st.chart seen i u u.call) [
      | inl k ↦ k.1
      | inr k ↦ absurd (subst IsRowOfCall stands_at k.1)
    ]

    -- it has changed nothing, and owes nothing
    unchanged : u.change ≡ Unchanged
    unchanged = elim knows.facts as (λ _. u.change ≡ Unchanged) [
      | inl fresh ↦ fresh.unchanged (subst (Seeks same st.hash same s.world i (in_slot st.setting (slot_of i)) st.chart seen u.keys u.change) (sym stands_at) tt)
      | inr late ↦ late.0
    ]

    owes_none : c.due ≡ None
    owes_none = subst (λ (z : Change). HasPendingAnswer number st.chart.stored one c z) unchanged (dues.owes map i u here st st_is c c_is one one_is)

    -- what it would answer if nothing is to change was so since it began
    so_since : (answer : KeyAnswer) → HasAnswered answer (at.Asks it) → SoSince st.hash st.chart seen u.keys u.began answer
    so_since answer has = knows.since.answered unchanged answer (subst (λ (z : Calling). HasAnswered answer z) (sym stands_at) has)

    keeps : KeepsGiven st.hash s.world.memory st.chart seen u.keys (given_by one asked.asked) u.change u.call (at.Asks it)
    keeps = subst (λ (g : Given K V). KeepsGiven st.hash s.world.memory st.chart seen u.keys g u.change u.call (at.Asks it)) asked.given
        (subst (KeepsGiven st.hash s.world.memory st.chart seen u.keys u.pair u.change u.call) stands_at knows.pair)

    fits : FitsAsking (kind_of (given_by one asked.asked)).present (kind_of (given_by one asked.asked)).absent (kind_of (given_by one asked.asked)).takes it
    fits = fits_it st.hash s.world.memory st.chart seen u.keys u.change u.call (given_by one asked.asked) it keeps

  module _ (questions : AllHaveAskedJust m) (still : finite_map same map m k ≡ finite_map same map log.now k) (first : unanswered c.stands ≡ []) where
    abbrev Wanted : Option ℕ → Moment K V → Type 0
    Wanted question y = (there_for same one c y ≡ question) × (means one None question (length y.stored + 1) ≡ Wants)

    abbrev May : Option ℕ → Type 0
    May question = MayAsk same (On one) c (log.since c.begun) question

    -- what the class had at a moment of the map since the call began, it had at one between two events, and the call wants a reply for that
    wanted_then : (o : Option ℕ) → ((n : ℕ) → means one None o n ≡ Wants) → (time : ℕ) → u.began ≤ time → time ≤ st.chart.now
        → ((p : Option ℕ) → HadThen same st number time k p → p ≡ o) → OneOf (Wanted o) (log.since c.begun)
    wanted_then o wants time from to is = by (dues.history.within map i (OnKey u) here st st_is c c_is u.began refl time from to k)
      where
        so : (y : Moment K V) → finite_map same map y k ≡ o → Wanted o y
        so y e = (ap (λ (z : ℕ). finite_map same z y k) its.0 ∙ e, wants (length y.stored + 1))

        by : OneOf (λ (y : Moment K V). HadThen same st number time k (finite_map same map y k)) (m ∷ log.since c.begun) → OneOf (Wanted o) (log.since c.begun)
        by (inl had) = now_there log dues.history.past (Wanted o) c.begun (dues.history.begun map i (OnKey u) here c c_is) (so log.now (sym still ∙ is (finite_map same map m k) had))
        by (inr had) =
            each_of (λ (y : Moment K V). HadThen same st number time k (finite_map same map y k)) (Wanted o) (log.since c.begun) (λ y h. so y (is (finite_map same map y k) h)) had

    -- what it was told nothing of it has not asked
    new_question : (about question : Option ℕ) → IsSameQuestion number st.chart.stored about question → last_reply about asked.asked ≡ None → is_in same_question question c.asked ≡ false
    new_question about question alike none =
        ap (is_in same_question question) (questions (name i) c c_is ∙ ap (λ (l : List (Option ℕ)). l ++ replied_to c.replies) first)
        ∙ never_asked question c.replies
        (sym (told_as number st.chart.stored (numbers_apart map number st m known (dues.history.shown.maps map st st_is).pairs) about question alike asked.asked c.replies asked.replies) ∙ none)

    -- where its key is missing
    may_none : (gap : Gap) → u.call.stands ≡ at.Asks (asking.Absent gap) → May None
    may_none gap stands_at = (
      owes_none (asking.Absent gap) stands_at,
      was (so_since (asking.Absent gap) stands_at answers.Absent refl),
      inr (new_question None None tt (untold_none st.hash s.world.memory st.chart seen u.keys u.change u.call asked.asked gap one (keeps (asking.Absent gap) stands_at) (fits (asking.Absent gap) stands_at) unknown)),
    )
      where
        unknown : KnowsFirst one → ⊥
        unknown knows_it = not_first same st s.world i u (asking.Absent gap) stands_at (each.stand i (OnKey u) here) gap refl one asked.asked asked.given knows_it (asked.first knows_it)

        was : SoSince st.hash st.chart seen u.keys u.began answers.Absent → OneOf (Wanted None) (log.since c.begun)
        was (time, from, until, none) =
            wanted_then None (wants_none asked.asked one (fits (asking.Absent gap) stands_at) unknown) time from until
            (λ p h. had_none same st number time k p h
            (λ n had. let no : same k had.2 ≡ false = ap (λ (f : K → Bool). f had.2) (sym its.1) ∙ none.1 n had.2 had.0 had.1 had.3 in let yes = had.4 in cc (no, yes)))

    -- where it is there, with the pair of a word
    may_pair : (word : ℕ) → u.call.stands ≡ at.Asks (asking.Present word) → (q : ℕ) → known.roles (block_in word) ≡ role.Pair q → May (Some q)
    may_pair word stands_at q names = (
      owes_none (asking.Present word) stands_at,
      was (so_since (asking.Present word) stands_at (answers.Found word) refl),
      once (asks_again one) refl,
    )
      where
        asks_there : FitsAsking (kind_of (given_by one asked.asked)).present (kind_of (given_by one asked.asked)).absent (kind_of (given_by one asked.asked)).takes (asking.Present word)
        asks_there = fits (asking.Present word) stands_at

        was : SoSince st.hash st.chart seen u.keys u.began (answers.Found word) → OneOf (Wanted (Some q)) (log.since c.begun)
        was (time, from, until, (n, had, known_too, phase, borrowed, word_is)) =
            wanted_then (Some q) (wants_pair asked.asked one asks_there.0 q) time from until
            (λ p h. had_pair same st number time k p h n (had.0, had.1, had.2, had.3, ap (λ (f : K → Bool). f had.2) (sym its.1) ∙ had.4)
            ∙ ap Some (sym (names_it word n phase borrowed had.0 known_too word_is q names)))

        once : (b : Bool) → asks_again one ≡ b → (asks_again one ≡ true) ⊎ (is_in same_question (Some q) c.asked ≡ false)
        once true again = inl again
        once false only =
            let it = untold_pair st.hash s.world.memory st.chart seen u.keys u.change u.call asked.asked word one (keeps (asking.Present word) stands_at) asks_there.0 only in
            inr (new_question (Some it.0) (Some q) (it.1, sym (names_it word it.0 Still it.3 it.1 it.2 it.4 q names)) it.5)

    pub may_ask : (question : Option ℕ) → AsksThere known u.call.stands question → May question
    may_ask question (it, stands_at, is) = by it question stands_at is
      where
        by : (x : AskingAt) (q : Option ℕ) → u.call.stands ≡ at.Asks x → IsQuestion known x q → May q
        by (asking.Absent gap) None there just = may_none gap there
        by (asking.Absent gap) (Some n) there just = absurd just
        by (asking.Present word) None there just = absurd just
        by (asking.Present word) (Some n) there just = may_pair word there n just
        by (asking.Fills word) None there just = absurd just
        by (asking.Fills word) (Some n) there just = absurd just
        by (asking.GivesUp word) None there just = absurd just
        by (asking.GivesUp word) (Some n) there just = absurd just

  -- one that asks has changed nothing
  pub asks_unchanged : (question : Option ℕ) → AsksThere known u.call.stands question → u.change ≡ Unchanged
  asks_unchanged question asks = unchanged asks.0 asks.1
