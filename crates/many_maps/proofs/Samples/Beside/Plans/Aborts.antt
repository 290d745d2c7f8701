-- A call that asked about a pair was told to abort. It removes the pair all the same, or answers that there is none: the laws refuse both.
use Rattle.std.specs.Prelude.{◌≡◌, ℕ, ◌+◌, ◌<◌, ◌≤◌, Bool, true, false, Some, Option}
use Rattle.std.proofs.Common.{refl, ap, sym, subst, ◌∙◌, arith, inl, inr, ◌⊎◌}
use Rattle.many_calls.specs.Given.SeizeWordsDeclared.at.At.TheVariants.{Word}
use Rattle.many_calls.specs.Given.SeizeWordsMem.{Mem, Took, value_at, word_at, with_word}
use Rattle.many_calls.specs.Given.SeizeWordsOp.{Exchange}
use Rattle.many_calls.specs.Given.SeizeWordsPlan.{Plan, Do, Now, Steps}
use Rattle.many_calls.proofs.Given.SeizeWordsOneOwner.Operations.{exchanged}
use Rattle.many_calls.specs.Given.SeizeWorld.{World}
use Rattle.many_calls.specs.Given.TablesChunks.{is_incremental}
use Rattle.many_calls.specs.Given.TablesTrials.{place_tried}
use Rattle.many_calls.specs.Given.TablesDeclared.marks.TheConstants.{TOMBSTONE}
use Rattle.many_calls.specs.Given.TablesDeclared.node.Node.{Node}
use Rattle.many_calls.specs.Given.TablesDeclared.resize_mode.ResizeMode.{ResizeMode}
use Rattle.many_calls.specs.Given.TablesDeclared.setting.Setting.{Setting}
use Rattle.many_calls.specs.Given.TablesDeclared.table_words.TheConstants.{PLACES}
use Rattle.many_calls.specs.Given.RawCallPoints.{answered_with}
use Rattle.many_calls.specs.Given.RawDeclared.machines.answer.Called.{Called}
use Rattle.many_calls.specs.Given.RawDeclared.machines.answer.End.TheVariants as ends
use Rattle.many_calls.specs.Given.RawDeclared.machines.answer.KeyAnswer.TheVariants as answers
use Rattle.many_calls.specs.Given.RawDeclared.machines.call.Calling.TheVariants as at
use Rattle.many_calls.specs.Given.RawDeclared.machines.call.KeyCall.{KeyCall}
use Rattle.many_calls.specs.Given.RuleChart.{Still, Place, Tombstone, Holds, Chart, put_in}
use Rattle.many_calls.specs.Given.RuleLasts.{Lasts}
use Rattle.many_calls.specs.Given.RuleInWorld.{IsMapIn}
use Rattle.many_calls.specs.Given.RuleMaps.{spot_of, IsTable}
use Rattle.many_calls.specs.Given.RuleMoments.{Moments}
use Rattle.many_calls.specs.Given.RuleMoves.{Move, Links, Stores, Replaces, Removes, Marks, MarksBlocking, Skips, Unmarks, Puts, Covers, PutsLate, Claims, Reclaims, Counts, GivesUp, Aborts, Promotes, Announces, after, without, with_pair}
use Rattle.many_calls.specs.Given.RuleRule.{Rule}
use Rattle.many_calls.specs.Given.RuleWords.{Blocks, place_word}
use Rattle.many_calls.proofs.Given.RuleMoves.Writes.{put_here, put_in_cases}
use Rattle.many_calls.proofs.Given.RuleWords.TablesSeen.{place_stands, place_there}
use Rattle.many_calls.specs.Given.PointsFactsCalls.{Change, Unchanged, Stored, Replaced, Removed, IsCopying, Changes, AnswersChange}
use Rattle.many_calls.specs.Given.PointsSteps.{AreLawful}
use Rattle.many_calls.specs.Given.PointsTold.{HasAnswered, IsBesideCopying, IsRowOfCall, MovedBesideCopying}
use Rattle.many_calls.proofs.Given.LateKnown.Steps.{lasts_went}
use Rattle.many_calls.specs.Sights.{Visible, seen_by}
use Rattle.many_calls.specs.Together.{OnKey, CallOnKey, UnderWay, in_slot, IsAtPoint, Together, StepOutcome, Fresh, Late, StepsTogether}
use Rattle.many_calls.proofs.Given.LateSamples.Plans.{written, there}

module _ {K V Q : Type 0} where
  -- It answers that it has found the pair of this word, as it is to, and removes it in that step.
  abbrev pub removes_all_the_same : KeyCall K V Q → ℕ → Plan (Node K V) (KeyCall K V Q × Called (Node K V))
  removes_all_the_same p word = Do (Exchange (place_tried p.trial) word TOMBSTONE) (λ out. Now (answered_with p (answers.Found word)))

-- A pair of the map, at its place in a table, where such a step leaves the map with the pairs that it had.
module _ {K : Type 0} (same : K → K → Bool) (hash : K → ℕ) (incremental : Bool) (c : Chart K) (rule : Rule same (spot_of hash) incremental c)
    (t i n : ℕ) (borrowed : Bool) (stands : c.place t i ≡ Holds n Still borrowed) (current : c.current n ≡ true) where
  -- no pair that was not stored yet is in the map
  none_to_come : c.current c.stored ≡ true → ⊥
  none_to_come is =
      let s = rule.common.stands c.stored is in
      let stored = (rule.common.keyed s.0 s.1 c.stored s.2 s.3 s.4).0 in omega (arith, stored)

  -- so none has come
  new_pair : (u place : ℕ) (k : K) → (with_pair (spot_of hash) incremental c u place k).current ≡ c.current → ⊥
  new_pair u place k pairs =
      none_to_come (ap (λ (f : ℕ → Bool). f c.stored) (sym pairs) ∙ put_here (without (spot_of hash) incremental (c.place u place) c.current) c.stored true)

  -- and this one was not removed
  not_removed : (u place : ℕ) → without (spot_of hash) incremental (c.place u place) c.current ≡ c.current → t ≡ u → i ≡ place → ⊥
  not_removed u place pairs same_turn same_place =
      let here : c.place u place ≡ Holds n Still borrowed = ap (λ (x : ℕ). c.place x place) (sym same_turn) ∙ ap (c.place t) (sym same_place) ∙ stands in
      let gone : c.current n ≡ false = ap (λ (f : ℕ → Bool). f n) (sym pairs) ∙ ap (λ (x : Place). without (spot_of hash) incremental x c.current n) here ∙ put_here c.current n false in
      cc (gone, current)

  stays : (move : Move K) → IsBesideCopying move → (after (spot_of hash) incremental move c).current ≡ c.current → (after (spot_of hash) incremental move c).place t i ≡ Holds n Still borrowed
  stays (Links len limit) beside pairs = stands
  stays (Stores u k j) beside pairs = absurd (new_pair u (spot_of hash (c.len u) k j) k pairs)
  stays (Replaces u place k) beside pairs = absurd (new_pair u place k pairs)
  stays (Removes u place) beside pairs = elim (put_in_cases c.place u place (Tombstone false) t i) as (λ _. put_in c.place u place (Tombstone false) t i ≡ Holds n Still borrowed) [
    | inl its ↦ absurd (not_removed u place pairs its.0 its.1)
    | inr other ↦ other ∙ stands
  ]
  stays (Marks o place) beside pairs = absurd beside
  stays (MarksBlocking place) beside pairs = absurd beside
  stays (Skips o u place) beside pairs = absurd beside
  stays (Unmarks o place) beside pairs = absurd beside
  stays (Puts o place u k j) beside pairs = absurd beside
  stays (Covers o place) beside pairs = absurd beside
  stays (PutsLate u place m) beside pairs = absurd beside
  stays (Claims o u chunk) beside pairs = absurd beside
  stays (Reclaims u claim) beside pairs = absurd beside
  stays (Counts o u number) beside pairs = absurd beside
  stays (GivesUp o u) beside pairs = absurd beside
  stays (Aborts u) beside pairs = absurd beside
  stays (Promotes u) beside pairs = absurd beside
  stays (Announces u) beside pairs = absurd beside

  pub still_stands : (mode : ResizeMode) → is_incremental mode ≡ incremental → (c2 : Chart K) → MovedBesideCopying hash mode c c2 → c2.current ≡ c.current → c2.place t i ≡ Holds n Still borrowed
  still_stands mode bit c2 (inl e) pairs = ap (λ (x : Chart K). x.place t i) e ∙ stands
  still_stands mode bit c2 (inr (move, beside, e)) pairs =
      let is : c2 ≡ after (spot_of hash) incremental move c = subst (λ (b : Bool). c2 ≡ after (spot_of hash) b move c) bit e in
      ap (λ (x : Chart K). x.place t i) is ∙ stays move beside (ap (λ (x : Chart K). x.current) (sym is) ∙ pairs)

module _ {K V Q : Type 0} (same : K → K → Bool) (hash : K → ℕ) (asks : Q → K → Bool) (setting : Setting) (slot : ℕ → ℕ) (lawful : AreLawful same hash)
    (w : World (Node K V)) (c : Chart K) (blocks : Blocks) (sights : ℕ → Visible) (calls : ℕ → Option (UnderWay K V Q)) (i : ℕ) (u : CallOnKey K V Q) (unchanged : u.change ≡ Unchanged) where
  -- An answer tells that nothing was changed, or a change: of a pair that was found, the former.
  found_alone : (v : World (Node K V)) (c2 : Chart K) (blocks2 : Blocks) (word : ℕ) (change : Change) → (change ≡ Unchanged) ⊎ AnswersChange same hash asks v i (in_slot setting (slot i)) c2 blocks2 u.keys change change (answers.Found word) → change ≡ Unchanged
  found_alone v c2 blocks2 word Unchanged tells = refl
  found_alone v c2 blocks2 word (Stored n) (inl e) = e
  found_alone v c2 blocks2 word (Stored n) (inr tells) = absurd tells
  found_alone v c2 blocks2 word (Replaced o n) (inl e) = e
  found_alone v c2 blocks2 word (Replaced o n) (inr tells) = absurd tells
  found_alone v c2 blocks2 word (Removed n) (inl e) = e
  found_alone v c2 blocks2 word (Removed n) (inr tells) = absurd tells

  -- so the map has the pairs that it had,
  same_pairs : (word : ℕ) (v : World (Node K V)) (c2 : Chart K) (blocks2 : Blocks)
      → StepOutcome V same hash asks setting slot c i u (answered_with u.call (answers.Found word)).0 (answered_with u.call (answers.Found word)).1 v c2 blocks2 → c2.current ≡ c.current
  same_pairs word v c2 blocks2 (Late blocking none told) = told.same_pairs
  same_pairs word v c2 blocks2 (Fresh told) = by (found_alone v c2 blocks2 word told.change2 told.facts.2) told.changes
    where
      by : told.change2 ≡ Unchanged → ((told.change2 ≡ u.change) × (c2.current ≡ c.current)) ⊎ ((u.change ≡ Unchanged) × Changes same hash (is_incremental setting.mode) u.keys c c2 told.change2) → c2.current ≡ c.current
      by e (inl kept) = kept.1
      by e (inr changed) = subst (Changes same hash (is_incremental setting.mode) u.keys c c2) e changed.1

  -- and one move at most was made, which is none of a copying
  moved : (word : ℕ) → u.call.stands ≡ at.Over (ends.Answered (answers.Found word)) → (v : World (Node K V)) (c2 : Chart K) (blocks2 : Blocks)
      → StepOutcome V same hash asks setting slot c i u (answered_with u.call (answers.Found word)).0 (answered_with u.call (answers.Found word)).1 v c2 blocks2 → MovedBesideCopying hash setting.mode c c2
  moved word over v c2 blocks2 (Fresh told) = told.beside (λ copying. subst IsCopying over copying)
  moved word over v c2 blocks2 (Late blocking none told) = told.beside (λ copying. subst IsCopying over copying)

  -- The pair of the word stands at the place of its try. No law holds of where the step leads: that place names no pair then.
  module _ (map : IsMapIn same hash (in_slot setting (slot i)) w c (seen_by blocks (sights (slot i)))) (moments : Moments (is_incremental setting.mode) c)
      (t n : ℕ) (borrowed : Bool) (table : IsTable c (seen_by blocks (sights (slot i))) u.call.trial.table t) (inside : u.call.trial.probe.i < c.len t)
      (stands : c.place t u.call.trial.probe.i ≡ Holds n Still borrowed) (current : c.current n ≡ true)
      (word : ℕ) (word_is : word ≡ place_word hash c (seen_by blocks (sights (slot i))) (Holds n Still borrowed)) (over : u.call.stands ≡ at.Over (ends.Answered (answers.Found word)))
      (m2 : Mem (Node K V)) where
    abbrev seen : Blocks
    seen = seen_by blocks (sights (slot i))

    found : word_at w.memory (place_tried u.call.trial) ≡ Some word
    found = place_there hash w.memory c seen setting.root map.map.shows u.call.trial.table t table u.call.trial.probe.i inside
        ∙ ap (λ (x : Place). Some (place_word hash c seen x)) stands ∙ ap Some (sym word_is)

    no_more : m2 ≡ with_word w.memory (place_tried u.call.trial) TOMBSTONE
        → StepsTogether V same hash asks setting slot w c blocks sights calls i u m2 (answered_with u.call (answers.Found word)).0 (answered_with u.call (answers.Found word)).1 → ⊥
    no_more is leads = names_none
      where
        lasts : Lasts same (spot_of hash) (is_incremental setting.mode) c leads.went.c2
        lasts = lasts_went same hash (in_slot setting (slot i)) lawful i w c seen map moments m2 _ leads.went

        past : t < leads.went.c2.past
        past = let l = lasts.past in let made = table.made in omega (arith, l, made)

        known : leads.went.blocks2.table_known t ≡ true
        known = (leads.went.blocks_same.tables t table.made table.known).1

        within : u.call.trial.probe.i < leads.went.c2.len t
        within = let l = (lasts.lens t table.made).0 in let inn = inside in omega (arith, l, inn)

        still : leads.went.c2.place t u.call.trial.probe.i ≡ Holds n Still borrowed
        still = still_stands same hash (is_incremental setting.mode) c map.map.rule t u.call.trial.probe.i n borrowed stands current setting.mode refl leads.went.c2
            (moved word over leads.went.w2 leads.went.c2 leads.went.blocks2 leads.went.told) (same_pairs word leads.went.w2 leads.went.c2 leads.went.blocks2 leads.went.told)

        number : 0 < leads.went.blocks2.pair n
        number =
            (leads.went.map.map.shows.pair_numbers n (leads.went.map.map.rule.common.keyed t u.call.trial.probe.i n Still borrowed still).0
            (leads.went.map.map.shows.named t u.call.trial.probe.i n Still borrowed past known still)).0

        at_word : place_tried u.call.trial ≡ Word (leads.went.blocks2.table t) (u.call.trial.probe.i + PLACES)
        at_word = place_stands hash w.memory c seen setting.root map.map.shows u.call.trial.table t table u.call.trial.probe.i inside
            ∙ ap (λ (b : ℕ). Word b (u.call.trial.probe.i + PLACES)) (sym (leads.went.blocks_same.tables t table.made table.known).0)

        shown : word_at leads.went.w2.memory (place_tried u.call.trial) ≡ Some (place_word hash leads.went.c2 leads.went.blocks2 (Holds n Still borrowed))
        shown = ap (word_at leads.went.w2.memory) at_word ∙ (leads.went.map.map.shows.tables t past known).places u.call.trial.probe.i within
            ∙ ap (λ (x : Place). Some (place_word hash leads.went.c2 leads.went.blocks2 x)) still

        buried : word_at leads.went.w2.memory (place_tried u.call.trial) ≡ Some TOMBSTONE
        buried = ap (λ (m : Mem (Node K V)). word_at m (place_tried u.call.trial)) (leads.went.memory ∙ is)
            ∙ written w.memory (place_tried u.call.trial) TOMBSTONE (there w.memory (place_tried u.call.trial) word found)

        names_none : ⊥
        names_none = let e : place_word hash leads.went.c2 leads.went.blocks2 (Holds n Still borrowed) ≡ TOMBSTONE = some_is (sym shown ∙ buried) in let some = number in omega (arith, e, some)
          where
            some_is : {a b : ℕ} → Some a ≡ Some b → a ≡ b
            some_is e = cc e

    pub removes_though_told_to_abort : (end : KeyCall K V Q × Called (Node K V)) → Steps Took value_at w.memory (removes_all_the_same u.call word) m2 end
        → StepsTogether V same hash asks setting slot w c blocks sights calls i u m2 end.0 end.1 → ⊥
    removes_though_told_to_abort end steps leads =
        elim (exchanged w.memory (λ out. Now (answered_with u.call (answers.Found word))) (place_tried u.call.trial) word TOMBSTONE m2 end steps) as (λ _. ⊥) [
          | inl d ↦ no_more d.2 (subst (λ (x : KeyCall K V Q × Called (Node K V)). StepsTogether V same hash asks setting slot w c blocks sights calls i u m2 x.0 x.1) d.3 leads)
          | inr d ↦ d.1.1 (some_is (sym d.1.0 ∙ found))
        ]
      where
        some_is : {a b : ℕ} → Some a ≡ Some b → a ≡ b
        some_is e = cc e

  -- It answers that there is none, though a pair of its keys was in the map since it began. No law holds of where it stands then.
  pub denies_its_pair : u.call.stands ≡ at.Over (ends.Answered answers.Absent) → (n : ℕ) (k : K) → n < c.stored → c.key n ≡ Some k → u.keys k ≡ true
      → ((m : ℕ) → u.began ≤ m → m ≤ c.now → c.was m n ≡ true) → calls i ≡ Some (OnKey u) → Together V same hash asks setting slot w c blocks sights calls → ⊥
  denies_its_pair over n k stored key asked was has all = by (all.stand i (OnKey u) has)
    where
      by : IsAtPoint V same hash asks setting slot w c (seen_by blocks (sights (slot i))) i (OnKey u) → ⊥
      by (inl (rests, knows)) =
          let so = knows.since.answered unchanged answers.Absent (subst (HasAnswered answers.Absent) (sym over) refl) in
          let none = so.3.1 n k stored (was so.0 so.1 so.2) key in cc (none, asked)
      by (inr (row, is_row, knows)) = subst IsRowOfCall over is_row
