-- A pair with which a call on one key has answered is in the memory, with its value; and the section of its slot held it before that step, or it is in use then.
use Rattle.std.specs.Prelude.{Some}
use Rattle.std.proofs.Common.{◌≡◌, ℕ, ◌<◌, ◌^◌, Bool, true, false, ◌⊎◌, inl, inr, refl, sym, subst, ap, ◌∙◌}
use Rattle.std.proofs.lemmas.Bool.{cases_lt}
use Rattle.seize_words.specs.OneMemory.Mem.{Mem, value_at}
use Rattle.seize_words.specs.OneMemory.Word.{block_in}
use Rattle.seize.specs.Law.{holds, owner_of}
use Rattle.seize.specs.World.{World, InUse}
use Rattle.seize.specs.declared.advance.Advance.{Advance as Counting}
use Rattle.seize.specs.declared.advance.Advance.TheVariants as counting
use Rattle.map_tables.specs.declared.node.Node.{Node}
use Rattle.map_tables.specs.declared.node.Node.TheVariants.{Pair}
use Rattle.map_machines.specs.declared.yielding.Yielding.{Yielding}
use Rattle.map_machines.specs.declared.yielding.Yielding.TheVariants as outcome
use Rattle.papaya_raw.specs.Progress.{of_called, of_outcome, of_swept, of_counting}
use Rattle.papaya_raw.specs.Given.ReservesDeclared.sweep.Swept.{Swept}
use Rattle.papaya_raw.specs.Given.ReservesDeclared.sweep.Swept.TheVariants as swept
use Rattle.papaya_raw.specs.declared.machines.answer.Called.{Called}
use Rattle.papaya_raw.specs.declared.machines.answer.Called.TheVariants as called
use Rattle.papaya_raw.specs.declared.machines.answer.KeyAnswer.{KeyAnswer}
use Rattle.papaya_raw.specs.declared.machines.answer.KeyAnswer.TheVariants as answers
use Rattle.papaya_raw.specs.declared.machines.call.KeyCall.{KeyCall}
use Rattle.papaya_raw.specs.declared.machines.machine.Machine.{Machine}
use Rattle.papaya_raw.specs.declared.machines.progress.Progress.{Progress}
use Rattle.many_acts.specs.Given.CallersSights.{seen_by}
use Rattle.many_acts.specs.Given.CallersTogether.{UnderWay, CallOnKey, OnKey, ForRoom, Counting as Counts, OverAll, AnswersOnce, in_slot}
use Rattle.many_acts.specs.Given.FinishesEndings.{EndingsTogether, StepsWithEndings, RowStepsWithEndings}
use Rattle.many_acts.specs.Given.FinishesMachines.{DidOfKind, MachineStepsWithEndings}
use Rattle.many_acts.specs.Given.FinishesMaps.{Standing}
use Rattle.many_acts.specs.Given.PointsFactsCalls.{Change, Unchanged, Stored, Replaced, Removed, AnswersChange}
use Rattle.many_acts.specs.Given.ScenesScene.{Scene, slot_of}
use Rattle.many_acts.proofs.Given.CallersRows.Known.{known_since}
use Rattle.map_straight.specs.Given.RuleChart.{Chart, Phase, Still, Holds}
use Rattle.map_straight.specs.Given.RuleInWorld.{KnownSince}
use Rattle.map_straight.specs.Given.RuleWords.{Blocks, byte_of, place_word}
use Rattle.map_straight.proofs.Given.RuleWords.PlaceWords.{pair_block}
use Rattle.map_straight.proofs.Given.RuleWords.PlacesShown.{byte_of-few}
use Rattle.threads_kinds.specs.CallKinds.Shows.{AnswerNames, AnswersWith}

-- only a call on one key answers with pairs
room_none : {T : Type 0} (end : Yielding T Unit) (word : ℕ) → AnswersWith (of_outcome end) word → ⊥
room_none outcome.Goes word is = is
room_none outcome.Waits word is = is
room_none (outcome.Gave value) word is = is
room_none (outcome.Done done) word is = is
room_none (outcome.Refused fault) word is = is

sweep_none : {T : Type 0} (end : Swept T) (word : ℕ) → AnswersWith (of_swept end) word → ⊥
sweep_none swept.Goes word is = is
sweep_none swept.Waits word is = is
sweep_none (swept.Gave value) word is = is
sweep_none swept.Ready word is = is
sweep_none (swept.Pair pair) word is = is
sweep_none (swept.Asks pair) word is = is
sweep_none swept.Done word is = is
sweep_none (swept.Refused fault) word is = is

counting_none : (T : Type 0) (end : Counting ℕ) (word : ℕ) → AnswersWith {T = T} (of_counting end) word → ⊥
counting_none T counting.Goes word is = is
counting_none T counting.Waits word is = is
counting_none T (counting.Done count) word is = is
counting_none T (counting.Refused fault) word is = is

module _ {K V : Type 0} (same : K → K → Bool) (batch_size roots : ℕ) (s : Scene K V)
    (all : EndingsTogether V same same batch_size roots slot_of s.world s.maps s.calls s.makers s.enders) (m : ℕ) (it : Standing K) (here : s.maps m ≡ Some it) (i : ℕ) (u : UnderWay K V K)
    (has : s.calls m i ≡ Some u) (m2 : Mem (Node K V)) (machine : Machine K V K) (told : Progress (Node K V))
    (did : MachineStepsWithEndings V same same batch_size roots slot_of s.world s.maps s.calls s.makers s.enders m it i m2 u machine told) where
  abbrev Did : UnderWay K V K → Type 0
  Did x = DidOfKind V same same batch_size roots slot_of s.world s.maps s.calls s.makers s.enders m it i m2 did.w2 did.maps2 did.next x machine told

  -- a block is there with a pair, and was held, or is in use, and is of the map
  abbrev pub HasPair : ℕ → Type 0
  HasPair b =
      (key : K) × (value : V) × (value_at m2 b ≡ Some (Pair key value))
      × ((holds (slot_of i) b s.world.log ≡ true) ⊎ ((o : ℕ) × (did.w2.hand b ≡ InUse o))) × (owner_of b did.w2.log ≡ it.setting.counter)

  fits : (k : K) → it.hash k < 2 ^ 64
  fits = (all.makings.standing.fit m it here).0.fits

  abbrev seen : Blocks
  seen = seen_by it.blocks (it.sights (slot_of i))

  -- the section of its slot holds what may be looked at
  held : (x : CallOnKey K V K) → s.calls m i ≡ Some (OnKey x) → (n : ℕ) → n < it.chart.stored → seen.pair_known n ≡ true → holds (slot_of i) (seen.pair n) s.world.log ≡ true
  held x at_i = let together = all.makings.standing.each m it here in (together.ground.sight (slot_of i) (together.inside i (OnKey x) at_i)).1.pairs

  -- where each pair that may be looked at is there, those of an answer are
  module _ (c : Chart K) (blocks : Blocks) (are : (n : ℕ) → n < c.stored → blocks.pair_known n ≡ true → HasPair (blocks.pair n)) where
    named : (word n : ℕ) (phase : Phase) (borrowed : Bool) → n < c.stored → blocks.pair_known n ≡ true → word ≡ place_word it.hash c blocks (Holds n phase borrowed) → HasPair (block_in word)
    named word n phase borrowed was known is =
        subst HasPair (sym (ap block_in is ∙ pair_block blocks.pair (λ k. byte_of it.hash (c.key k)) n phase borrowed (byte_of-few it.hash fits (c.key n)))) (are n was known)

    by_word : (given word : ℕ) → given ≡ word → HasPair (block_in given) → HasPair (block_in word)
    by_word given word is there = subst (λ (x : ℕ). HasPair (block_in x)) is there

    -- one that tells a change
    changed : (w : World (Node K V)) (keys : K → Bool) (x change : Change) (answer : KeyAnswer) → AnswersChange same it.hash same w i (in_slot it.setting (slot_of i)) c blocks keys x change answer
        → (word : ℕ) → AnswerNames answer word → HasPair (block_in word)
    changed w keys x (Stored n) (answers.Stored new) (its, is) word names = by_word new word names (named new n Still false its.0 its.1 is)
    changed w keys x (Replaced o n) (answers.Replaced old new) (before, its, borrowed, was, is) word (inl names) = by_word old word names (named old o Still borrowed before.0 before.1 was)
    changed w keys x (Replaced o n) (answers.Replaced old new) (before, its, borrowed, was, is) word (inr names) = by_word new word names (named new n Still false its.0 its.1 is)
    changed w keys x (Removed n) (answers.Removed old) (its, borrowed, is) word names = by_word old word names (named old n Still borrowed its.0 its.1 is)
    changed w keys x Unchanged answers.Absent tells word names = absurd names
    changed w keys x Unchanged (answers.Found found) tells word names = absurd tells
    changed w keys x Unchanged (answers.Stored new) tells word names = absurd tells
    changed w keys x Unchanged (answers.Replaced old new) tells word names = absurd tells
    changed w keys x Unchanged (answers.Removed old) tells word names = absurd tells
    changed w keys x (Stored n) answers.Absent tells word names = absurd names
    changed w keys x (Stored n) (answers.Found found) tells word names = absurd tells
    changed w keys x (Stored n) (answers.Replaced old new) tells word names = absurd tells
    changed w keys x (Stored n) (answers.Removed old) tells word names = absurd tells
    changed w keys x (Replaced o n) answers.Absent tells word names = absurd names
    changed w keys x (Replaced o n) (answers.Found found) tells word names = absurd tells
    changed w keys x (Replaced o n) (answers.Stored new) tells word names = absurd tells
    changed w keys x (Replaced o n) (answers.Removed old) tells word names = absurd tells
    changed w keys x (Removed n) answers.Absent tells word names = absurd names
    changed w keys x (Removed n) (answers.Found found) tells word names = absurd tells
    changed w keys x (Removed n) (answers.Stored new) tells word names = absurd tells
    changed w keys x (Removed n) (answers.Replaced old new) tells word names = absurd tells

    -- or one that tells what was so
    by_answer : (w : World (Node K V)) (x : CallOnKey K V K) (change : Change) (answer : KeyAnswer) → AnswersOnce V same it.hash same it.setting slot_of w c blocks i x change answer
        → (word : ℕ) → AnswerNames answer word → HasPair (block_in word)
    by_answer w x change (answers.Found found) (kind, inl (none, so, leaves)) word names =
        let was = so.3 in by_word found word names (named found was.0 was.3 was.4 was.1.0 was.2 was.5)
    by_answer w x change answers.Absent (kind, inl (none, so, leaves)) word names = absurd names
    by_answer w x change (answers.Stored new) (kind, inl (none, so, leaves)) word names = absurd so.3
    by_answer w x change (answers.Replaced old new) (kind, inl (none, so, leaves)) word names = absurd so.3
    by_answer w x change (answers.Removed old) (kind, inl (none, so, leaves)) word names = absurd so.3
    by_answer w x change answer (kind, inr (since, tells, stores)) word names = changed w x.keys change change answer tells word names

  -- so they are after a step of a call that is none of a row,
  in_step : (x : CallOnKey K V K) → s.calls m i ≡ Some (OnKey x) → (p2 : KeyCall K V K) (end : Called (Node K V))
      → (to : StepsWithEndings V same same batch_size roots slot_of s.world s.maps s.calls s.makers s.enders m it i x m2 p2 end) → did.w2 ≡ to.step.went.w2
      → (n : ℕ) → n < to.step.went.c2.stored → to.step.went.blocks2.pair_known n ≡ true → HasPair (to.step.went.blocks2.pair n)
  in_step x at_i p2 end to moved n was known = (
    value.0,
    value.1,
    ap (λ (y : Mem (Node K V)). value_at y (to.step.went.blocks2.pair n)) (sym to.step.went.memory) ∙ value.2,
    why (since.pairs n was known),
    ap (λ (y : World (Node K V)). owner_of (to.step.went.blocks2.pair n) y.log) moved ∙ its_own,
  )
    where
      value : (k : K) × (v : V) × (value_at to.step.went.w2.memory (to.step.went.blocks2.pair n) ≡ Some (Pair k v)) × (to.step.went.c2.key n ≡ Some k)
      value = to.step.went.map.map.shows.pairs n was known

      since : KnownSince it.chart seen to.step.went.c2 to.step.went.blocks2
      since =
          known_since same it.hash it.setting.mode it.chart to.step.went.c2 (all.makings.standing.each m it here).ground.map.map.rule {caller = i} to.step.went.moved seen to.step.went.blocks2
          to.step.went.blocks_same

      -- what may be looked at then is the map's
      its_own : owner_of (to.step.went.blocks2.pair n) to.step.went.w2.log ≡ it.setting.counter
      its_own = elim (cases_lt n it.chart.stored) as (λ _. owner_of (to.step.went.blocks2.pair n) to.step.went.w2.log ≡ it.setting.counter) [
        | inl less ↦
            let back = to.step.went.blocks_same.pairs_back n less known in
            let visible = ((all.makings.standing.each m it here).ground.sight (slot_of i) ((all.makings.standing.each m it here).inside i (OnKey x) at_i)).0.pairs n less back in
            let same_block = (to.step.went.blocks_same.pairs n less back).0 in
            let grown = to.step.grown.pairs n less in
            ap (λ (b : ℕ). owner_of b to.step.went.w2.log) (same_block ∙ sym grown.0) ∙ to.step.together.ground.owned.pairs n was (grown.1 ∙ visible)
        | inr new ↦
            let grown = to.step.grown.new_pairs n new in
            ap (λ (b : ℕ). owner_of b to.step.went.w2.log) (sym grown.0) ∙ to.step.together.ground.owned.pairs n was (grown.1 ∙ known)
      ]

      why : ((n < it.chart.stored) × (seen.pair_known n ≡ true) × (to.step.went.blocks2.pair n ≡ seen.pair n)) ⊎ (to.step.went.c2.current n ≡ true)
          → (holds (slot_of i) (to.step.went.blocks2.pair n) s.world.log ≡ true) ⊎ ((o : ℕ) × (did.w2.hand (to.step.went.blocks2.pair n) ≡ InUse o))
      why (inl old) = inl (subst (λ (b : ℕ). holds (slot_of i) b s.world.log ≡ true) (sym old.2) (held x at_i n old.0 old.1))
      why (inr current) = inr (it.setting.counter, ap (λ (y : World (Node K V)). y.hand (to.step.went.blocks2.pair n)) moved ∙ to.step.went.map.pairs n current)

  -- and after one of a row
  in_row : (x : CallOnKey K V K) → s.calls m i ≡ Some (OnKey x) → (p2 : KeyCall K V K) (end : Called (Node K V))
      → (to : RowStepsWithEndings V same same batch_size roots slot_of s.world s.maps s.calls s.makers s.enders m it i x m2 p2 end)
      → did.w2 ≡ to.step.w2 → (n : ℕ) → n < it.chart.stored → seen.pair_known n ≡ true → HasPair (seen.pair n)
  in_row x at_i p2 end to stayed n was known =
      let together = all.makings.standing.each m it here in
      let visible = (together.ground.sight (slot_of i) (together.inside i (OnKey x) at_i)).0.pairs n was known in
      let value = to.step.together.ground.map.map.shows.pairs n was visible in (
        value.0,
        value.1,
        ap (λ (y : Mem (Node K V)). value_at y (it.blocks.pair n)) (sym to.step.memory) ∙ value.2,
        inl (held x at_i n was known),
        ap (λ (y : World (Node K V)). owner_of (it.blocks.pair n) y.log) stayed ∙ to.step.together.ground.owned.pairs n was visible,
      )

  pub answered_there : (word : ℕ) → AnswersWith told word → HasPair (block_in word)
  answered_there word its = by u has did.did
    where
      as_told : (other : Progress (Node K V)) → told ≡ other → AnswersWith other word
      as_told other is = subst (λ (p : Progress (Node K V)). AnswersWith p word) is its

      by : (x : UnderWay K V K) → s.calls m i ≡ Some x → Did x → HasPair (block_in word)
      by (OnKey c) at_i (p2, called.Done answer, e, f, inl (to, moved)) =
          by_answer to.step.went.c2 to.step.went.blocks2 (in_step c at_i p2 (called.Done answer) to moved.0) to.step.went.w2 c _ answer (to.step.answers answer refl) word
          (as_told (of_called (called.Done answer)) f)
      by (OnKey c) at_i (p2, called.Done answer, e, f, inr (to, stayed)) =
          by_answer it.chart seen (in_row c at_i p2 (called.Done answer) to stayed.0) to.step.w2 c c.change answer (to.step.answers answer refl) word (as_told (of_called (called.Done answer)) f)
      by (OnKey c) at_i (p2, called.Goes, e, f, step) = absurd (as_told (of_called called.Goes) f)
      by (OnKey c) at_i (p2, called.Waits, e, f, step) = absurd (as_told (of_called called.Waits) f)
      by (OnKey c) at_i (p2, called.Gave value, e, f, step) = absurd (as_told (of_called (called.Gave value)) f)
      by (OnKey c) at_i (p2, called.Unstored value, e, f, step) = absurd (as_told (of_called (called.Unstored value)) f)
      by (OnKey c) at_i (p2, called.Asks pair, e, f, step) = absurd (as_told (of_called (called.Asks pair)) f)
      by (OnKey c) at_i (p2, called.Refused fault, e, f, step) = absurd (as_told (of_called (called.Refused fault)) f)
      by (ForRoom r) at_i (p2, end, e, f, step) = absurd (room_none end word (as_told (of_outcome end) f))
      by (Counts sum) at_i (sum2, end, e, f, memory, step) = absurd (counting_none (Node K V) end word (as_told (of_counting end) f))
      by (OverAll o) at_i (p2, end, e, f, step) = absurd (sweep_none end word (as_told (of_swept end) f))
