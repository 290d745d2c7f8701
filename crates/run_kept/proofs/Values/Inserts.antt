-- A call that tries to insert a pair, at any moment: it takes no reply, has a block of its own at each try, and answers that its key is there only where it is over.
use Rattle.std.specs.Prelude.{◌≡◌, ℕ, ◌<◌, ◌^◌, Bool, List, Some}
use Rattle.std.proofs.Common.{refl, ap, sym, subst, ◌∙◌, arith, inl, inr}
use Rattle.papaya_raw.specs.Given.TablesDeclared.node.Node.TheVariants as node
use Rattle.papaya_raw.specs.Given.TablesDeclared.setting.Setting.{Setting}
use Rattle.run_blocks.specs.Given.ResizeDeclared.dispose.Dispose.{Dispose}
use Rattle.run_blocks.specs.Given.ResizeDeclared.lookup.Lookup.{Lookup}
use Rattle.run_executor.specs.Given.RuleWords.{Blocks}
use Rattle.papaya_raw.specs.CallPoints.{word_to}
use Rattle.papaya_raw.specs.declared.machines.answer.End.TheVariants as ends
use Rattle.papaya_raw.specs.declared.machines.answer.KeyAnswer.{KeyAnswer}
use Rattle.papaya_raw.specs.declared.machines.answer.KeyAnswer.TheVariants as answers
use Rattle.papaya_raw.specs.declared.machines.answer.Missing.TheVariants as missing
use Rattle.papaya_raw.specs.declared.machines.asking.Takes.{Takes}
use Rattle.papaya_raw.specs.declared.machines.asking.Takes.TheVariants as takes
use Rattle.papaya_raw.specs.declared.machines.call.Calling.{Calling}
use Rattle.papaya_raw.specs.declared.machines.call.Calling.TheVariants as at
use Rattle.papaya_raw.specs.declared.machines.call.KeyCall.{KeyCall}
use Rattle.run_schedules.specs.declared.call.Call.{Call}
use Rattle.run_schedules.specs.declared.call.Call.TheVariants.{On}
use Rattle.run_schedules.specs.declared.call.OneKey.{OneKey}
use Rattle.run_schedules.specs.declared.call.OneKey.TheVariants.{TryInsert}
use Rattle.run_schedules.specs.Schedules.Moment.{UnderWay as CallThere, Moment}
use Rattle.run_schedules.specs.Schedules.Views.{call_of}
use Rattle.run_executor.specs.Given.PointsFactsCalls.{Change, Stored, Replaced, Removed, Unchanged, Holding, InBlock, CallingFacts, HasIts, HasOwn, AnswersChange, holding}
use Rattle.run_executor.specs.Given.PointsTold.{IsRowOfCall}
use Rattle.run_executor.specs.Given.LateKinds.{FitsAt}
use Rattle.run_executor.specs.Given.LateLateCalls.{SupersededCalling}
use Rattle.run_executor.specs.Given.CallersKind.{tries_to_insert}
use Rattle.run_executor.specs.Given.CallersPairs.{Begun, Given, KeepsGiven}
use Rattle.run_executor.specs.Given.CallersRows.{once_over, past_row}
use Rattle.run_executor.specs.Given.CallersSights.{seen_by}
use Rattle.run_executor.specs.Given.CallersTogether.{CallOnKey, UnderWay, OnKey, Knows, IsAtPoint, in_slot}
use Rattle.run_executor.specs.Given.EffectsKnown.{Known}
use Rattle.run_executor.specs.Given.FinishesMaps.{Standing}
use Rattle.run_executor.specs.Given.FollowsCalls.{IsCalled}
use Rattle.run_executor.specs.Given.HandsAsked.{IsAsked, IsAskedAs, IsAskedOn}
use Rattle.run_executor.specs.Given.MomentsWhole.{RefinesWhole}
use Rattle.run_kept.proofs.Values.KeyEnds.{MayFind}
use Rattle.run_executor.specs.Given.ScenesHeld.{Held, IsAt}
use Rattle.run_executor.specs.Given.ScenesScene.{Scene, slot_of}
use Rattle.run_executor.proofs.Given.General.{same_some as same_call}

-- the word of a block is not that of none
word_some : (block code : ℕ) → 0 < block → block < 2 ^ 53 → code < 2 ^ 64 → word_to block code ≡ 0 → ⊥
word_some block code some small few none = absurd (omega (arith, some, small, few, none))

module _ {K V : Type 0} (same : K → K → Bool) (hash : ℕ → K → ℕ) (name : ℕ → List ℕ) (m : Moment K V) (known : Known) (s : Scene K V) (e : Held K V) (at_e : IsAt same hash e s)
    (whole : RefinesWhole same name m known s) (map i : ℕ) (st : Standing K) (stands_there : s.maps map ≡ Some st) (c : CallThere K V) (c_is : call_of (name i) m ≡ Some c) where
  pub called_so : (u : UnderWay K V K) → s.calls map i ≡ Some u → IsCalled same u c.call
  called_so u here =
      let there = whole.all.shown.calls map i u here in
      subst (λ (x : CallThere K V). IsCalled same u x.call) (same_call there.0 c (sym there.1 ∙ c_is)) there.3

  -- a call on one key
  module _ (x : CallOnKey K V K) (here : s.calls map i ≡ Some (OnKey x)) where
    abbrev its_asked : IsAsked (whole.all.shown.number map) st.chart.stored known (OnKey x) c
    its_asked = whole.all.asked.each map i (OnKey x) here st stands_there c c_is

    pub asked_on : (one : OneKey K V) → c.call ≡ On one → IsAskedOn (whole.all.shown.number map) st.chart.stored known x one c
    asked_on one is = subst (λ (call : Call K V). IsAskedAs (whole.all.shown.number map) st.chart.stored known x call c) is its_asked

    abbrev StandsSo : Type 0
    StandsSo = IsAtPoint V same st.hash same st.setting slot_of s.world st.chart (seen_by st.blocks (st.sights (slot_of i))) i (OnKey x)

    stands : StandsSo
    stands = (at_e.together.makings.standing.each map st stands_there).stand i (OnKey x) here

    -- `try_insert` takes no reply, and stores its own pair
    module _ (k : K) (v : V) (is : c.call ≡ On (TryInsert k v)) where
      pub its_pair : x.pair ≡ Begun tries_to_insert (Some (node.Pair k v))
      its_pair = (asked_on (TryInsert k v) is).given

      abbrev Keeps : KeyCall K V K → Type 0
      Keeps p = KeepsGiven st.hash s.world.memory st.chart (seen_by st.blocks (st.sights (slot_of i))) x.keys (Begun tries_to_insert (Some (node.Pair k v))) x.change p p.stands

      keeps_of : (p : KeyCall K V K) → Knows V same st.hash same st.setting slot_of s.world st.chart (seen_by st.blocks (st.sights (slot_of i))) i x p → Keeps p
      keeps_of p knows =
          subst (λ (g : Given K V). KeepsGiven st.hash s.world.memory st.chart (seen_by st.blocks (st.sights (slot_of i))) x.keys g x.change p p.stands) its_pair knows.pair

      pub takes_nothing : x.call.replies.takes ≡ takes.Nothing
      takes_nothing = by stands
        where
          by : StandsSo → x.call.replies.takes ≡ takes.Nothing
          by (inl (rests, knows)) = (keeps_of x.call knows).0
          by (inr (row, is_row, knows)) = (keeps_of (once_over x.call) knows).0

      -- it stores where its key is missing
      puts : x.call.missing ≡ missing.Puts
      puts = by stands
        where
          by : StandsSo → x.call.missing ≡ missing.Puts
          by (inl (rests, knows)) = (keeps_of x.call knows).2.1
          by (inr (row, is_row, knows)) = (keeps_of (once_over x.call) knows).2.1

      abbrev seen : Blocks
      seen = seen_by st.blocks (st.sights (slot_of i))

      abbrev its : Setting
      its = in_slot st.setting (slot_of i)

      -- at a try it has its pair in a block of its own
      block_there : (change : Change) → HasIts same st.hash same s.world i its st.chart seen x.keys change x.call → x.call.hash < 2 ^ 64 → x.call.own ≡ 0 → ⊥
      block_there change has code none =
          let held : holding x.call.replies.takes x.call.missing ≡ InBlock = ap (λ (t : Takes). holding t x.call.missing) takes_nothing ∙ ap (holding takes.Nothing) puts in
          let own = (subst (λ (h : Holding). HasOwn same st.hash same s.world i its st.chart seen x.keys change h x.call.asked x.call.replies.key x.call.own x.call.hash) held has).2 in
          word_some own.block x.call.hash own.number.0 own.number.1 code (sym own.word_is ∙ none)

      abbrev IsTry : Calling → Type 0
      IsTry at.Probes = Unit {0}
      IsTry (at.Tries old new) = Unit {0}
      IsTry _ = ⊥

      tries_own : (p : Calling) → x.call.stands ≡ p → IsTry p → x.call.own ≡ 0 → ⊥
      tries_own p is try none = by stands
        where
          of_facts : (p : Calling) → IsTry p → CallingFacts same st.hash same s.world i its st.chart seen x.keys x.change x.call p → HasIts same st.hash same s.world i its st.chart seen x.keys x.change x.call
          of_facts at.Probes try point = point.0
          of_facts (at.Tries old new) try point = point.0
          of_facts _ try point = absurd try

          of_late : (p : Calling) → IsTry p → SupersededCalling same st.hash same s.world i its st.chart seen x.keys x.began x.call p → HasIts same st.hash same s.world i its st.chart seen x.keys Unchanged x.call
          of_late at.Probes try point = point.0
          of_late (at.Tries old new) try point = point.0
          of_late _ try point = absurd try

          no_row : (p : Calling) → IsTry p → IsRowOfCall p → ⊥
          no_row at.Probes try row = row
          no_row (at.Tries old new) try row = row
          no_row _ try row = try

          by : StandsSo → ⊥
          by (inl (rests, knows)) = elim (knows.facts) as (λ _. ⊥) [
            | inl facts ↦
                block_there x.change (of_facts p try (subst (λ (q : Calling). CallingFacts same st.hash same s.world i its st.chart seen x.keys x.change x.call q) is facts.point)) facts.code none
            | inr late ↦
                block_there Unchanged (of_late p try (subst (λ (q : Calling). SupersededCalling same st.hash same s.world i its st.chart seen x.keys x.began x.call q) is late.1.point)) late.1.code none
          ]
          by (inr (row, is_row, knows)) = no_row p try (subst IsRowOfCall is is_row)

      -- a disposal answers no such thing
      tells_none : (change : Change) (word : ℕ) → AnswersChange same st.hash same s.world i its st.chart seen x.keys x.change change (answers.Found word) → ⊥
      tells_none Unchanged word tells = tells
      tells_none (Stored n) word tells = tells
      tells_none (Replaced o n) word tells = tells
      tells_none (Removed o) word tells = tells

      disposes_none : (dispose : Dispose) (answer : KeyAnswer) → x.call.stands ≡ at.Disposes dispose answer → (word : ℕ) → answer ≡ answers.Found word → ⊥
      disposes_none dispose answer is word found = by stands
        where
          told : AnswersChange same st.hash same s.world i its st.chart seen x.keys x.change x.change answer → ⊥
          told tells = tells_none x.change word (subst (λ (a : KeyAnswer). AnswersChange same st.hash same s.world i its st.chart seen x.keys x.change x.change a) found tells)

          by : StandsSo → ⊥
          by (inl (rests, knows)) = elim (knows.facts) as (λ _. ⊥) [
            | inl facts ↦ told (subst (λ (q : Calling). CallingFacts same st.hash same s.world i its st.chart seen x.keys x.change x.call q) is facts.point).1
            | inr late ↦ subst (λ (q : Calling). SupersededCalling same st.hash same s.world i its st.chart seen x.keys x.began x.call q) is late.1.point
          ]
          by (inr (row, is_row, knows)) = elim (knows.facts) as (λ _. ⊥) [
            | inl facts ↦ told (subst (λ (q : Calling). CallingFacts same st.hash same s.world i its st.chart seen x.keys x.change (once_over x.call) (past_row q)) is facts.point).1
            | inr late ↦ subst (λ (q : Calling). SupersededCalling same st.hash same s.world i its st.chart seen x.keys x.began (once_over x.call) (past_row q)) is late.1.point
          ]

      -- nor is it a lookup
      looks_none : (lookup : Lookup) → x.call.stands ≡ at.Looks lookup → ⊥
      looks_none lookup is = by stands
        where
          by : StandsSo → ⊥
          by (inl (rests, knows)) =
              let fits = subst (λ (q : Calling). FitsAt tries_to_insert.present tries_to_insert.absent tries_to_insert.takes q) is (keeps_of x.call knows).2.4 in
              let never : missing.Puts ≡ missing.Answers = fits.1 in
              cc never
          by (inr (row, is_row, knows)) = subst IsRowOfCall is is_row

      -- so it answers that its key is there only where it is over
      abbrev pub FoundOver : ℕ → Type 0
      FoundOver word = x.call.stands ≡ at.Over (ends.Answered (answers.Found word))

      pub may_find : MayFind FoundOver x.call x.call.stands
      may_find = by x.call.stands refl
        where
          by : (p : Calling) → x.call.stands ≡ p → MayFind FoundOver x.call p
          by at.Probes is = λ none word. absurd (tries_own at.Probes is tt none)
          by (at.Tries old new) is = λ none word. absurd (tries_own (at.Tries old new) is tt none)
          by (at.Looks lookup) is = λ word. absurd (looks_none lookup is)
          by (at.Disposes dispose answer) is = λ word found. absurd (disposes_none dispose answer is word found)
          by (at.Over end) is = λ word found. is ∙ ap at.Over found
          by _ is = tt
