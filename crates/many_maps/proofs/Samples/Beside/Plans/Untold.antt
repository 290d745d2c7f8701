-- A call that computes goes against what it was told: it leaves what it was told to store, or removes what it was told to leave. The laws refuse each.
use Rattle.std.specs.Prelude.{◌≡◌, ℕ, Bool, List, Option, Some, None}
use Rattle.std.proofs.Common.{refl, ap, sym, subst, inl, inr}
use Rattle.many_calls.specs.Given.SeizeWordsDeclared.fault.Fault.TheVariants.{RemoveNothing}
use Rattle.many_calls.specs.Given.SeizeWordsMem.{Mem, Took, value_at}
use Rattle.many_calls.specs.Given.SeizeWordsOp.{Exchange}
use Rattle.many_calls.specs.Given.SeizeWordsPlan.{Plan, Turn, Do, Now, Steps}
use Rattle.many_calls.proofs.Given.SeizeWordsOneOwner.Operations.{exchanged}
use Rattle.many_calls.specs.Given.SeizeWorld.{World}
use Rattle.many_calls.specs.Given.TablesChunks.{is_incremental}
use Rattle.many_calls.specs.Given.TablesTrials.{place_tried}
use Rattle.many_calls.specs.Given.TablesDeclared.marks.TheConstants.{TOMBSTONE}
use Rattle.many_calls.specs.Given.TablesDeclared.node.Node.{Node}
use Rattle.many_calls.specs.Given.TablesDeclared.setting.Setting.{Setting}
use Rattle.many_calls.specs.Given.RawCallPoints.{over, answered_with}
use Rattle.many_calls.specs.Given.RawDeclared.machines.answer.Called.{Called}
use Rattle.many_calls.specs.Given.RawDeclared.machines.answer.End.TheVariants as ends
use Rattle.many_calls.specs.Given.RawDeclared.machines.answer.KeyAnswer.{KeyAnswer}
use Rattle.many_calls.specs.Given.RawDeclared.machines.answer.KeyAnswer.TheVariants as answers
use Rattle.many_calls.specs.Given.RawDeclared.machines.asking.MachineReply.{MachineReply}
use Rattle.many_calls.specs.Given.RawDeclared.machines.asking.MachineReply.TheVariants as reply
use Rattle.many_calls.specs.Given.RawDeclared.machines.call.KeyCall.{KeyCall}
use Rattle.many_calls.specs.Given.RuleChart.{Still, Chart}
use Rattle.many_calls.specs.Given.RuleInWorld.{IsFramed, IsMapIn}
use Rattle.many_calls.specs.Given.RuleMoments.{Moments}
use Rattle.many_calls.specs.Given.RuleWords.{Blocks}
use Rattle.many_calls.specs.Given.PointsFactsCalls.{Change, Unchanged, Stored, Replaced, Removed, AnswersChange}
use Rattle.many_calls.specs.Given.PointsSteps.{AreLawful}
use Rattle.many_calls.proofs.Given.LateKnown.Steps.{lasts_went}
use Rattle.many_calls.proofs.Given.PointsValues.Sought.{IsLook}
use Rattle.many_calls.specs.Asked.{Asked, last_reply, IsToRemove, IsWordOf}
use Rattle.many_calls.specs.Kind.{computes}
use Rattle.many_calls.specs.Pairs.{Given, IsTold, RemovesNone, StoresGiven, LeavesGiven}
use Rattle.many_calls.specs.Sights.{Visible, seen_by}
use Rattle.many_calls.specs.Together.{CallOnKey, UnderWay, in_slot, change_observed, AnswersOnce, StepsTogether}
use Rattle.many_calls.proofs.Asked.By.{block_of_word, one_pair}
use Rattle.many_calls.proofs.Asked.On.{step_stays}
use Rattle.many_calls.proofs.Asked.Stays.{Stays, word_on}

module _ {K V Q : Type 0} where
  -- it answers at once, whatever it was told
  abbrev pub tells_at_once : KeyCall K V Q → KeyAnswer → Plan (Node K V) (KeyCall K V Q × Called (Node K V))
  tells_at_once p answer = Turn (Now (answered_with p answer))

  -- it is refused as one that was told to remove what is not there
  abbrev pub refuses_at_once : KeyCall K V Q → Plan (Node K V) (KeyCall K V Q × Called (Node K V))
  refuses_at_once p = Turn (Now (over p (ends.Refused RemoveNothing)))

  -- it removes the pair of this word, and tells so
  abbrev pub removes_and_tells : KeyCall K V Q → ℕ → Plan (Node K V) (KeyCall K V Q × Called (Node K V))
  removes_and_tells p word = Do (Exchange (place_tried p.trial) word TOMBSTONE) (λ out. Now (answered_with p (answers.Removed word)))

module _ {K V Q : Type 0} (same : K → K → Bool) (hash : K → ℕ) (asks : Q → K → Bool) (setting : Setting) (slot : ℕ → ℕ) (lawful : AreLawful same hash)
    (w : World (Node K V)) (c : Chart K) (blocks : Blocks) (sights : ℕ → Visible) (calls : ℕ → Option (UnderWay K V Q)) (i : ℕ) (u : CallOnKey K V Q)
    (its : Option K) (asked : List (Asked V)) (is_told : u.pair ≡ IsTold computes its asked) (m2 : Mem (Node K V)) where
  abbrev Leads : KeyCall K V Q × Called (Node K V) → Type 0
  Leads end = StepsTogether V same hash asks setting slot w c blocks sights calls i u m2 end.0 end.1

  -- no change is told by what a lookup may answer
  no_change : (v : World (Node K V)) (c2 : Chart K) (blocks2 : Blocks) (change : Change) (answer : KeyAnswer) → IsLook answer
      → AnswersChange same hash asks v i (in_slot setting (slot i)) c2 blocks2 u.keys change change answer → ⊥
  no_change v c2 blocks2 Unchanged answer look tells = tells
  no_change v c2 blocks2 (Stored n) (answers.Found word) look tells = tells
  no_change v c2 blocks2 (Stored n) answers.Absent look tells = tells
  no_change v c2 blocks2 (Stored n) (answers.Stored word) look tells = look
  no_change v c2 blocks2 (Stored n) (answers.Replaced old new) look tells = look
  no_change v c2 blocks2 (Stored n) (answers.Removed word) look tells = look
  no_change v c2 blocks2 (Replaced o n) (answers.Found word) look tells = tells
  no_change v c2 blocks2 (Replaced o n) answers.Absent look tells = tells
  no_change v c2 blocks2 (Replaced o n) (answers.Stored word) look tells = look
  no_change v c2 blocks2 (Replaced o n) (answers.Replaced old new) look tells = look
  no_change v c2 blocks2 (Replaced o n) (answers.Removed word) look tells = look
  no_change v c2 blocks2 (Removed o) (answers.Found word) look tells = tells
  no_change v c2 blocks2 (Removed o) answers.Absent look tells = tells
  no_change v c2 blocks2 (Removed o) (answers.Stored word) look tells = look
  no_change v c2 blocks2 (Removed o) (answers.Replaced old new) look tells = look
  no_change v c2 blocks2 (Removed o) (answers.Removed word) look tells = look

  -- what it leaves so it was told to leave so
  leaves : (answer : KeyAnswer) → IsLook answer → (l : Leads (answered_with u.call answer))
      → LeavesGiven hash l.went.w2.memory l.went.c2 l.went.blocks2 (IsTold computes its asked) answer
  leaves answer look l = by (l.answers answer refl)
    where
      by : AnswersOnce V same hash asks setting slot l.went.w2 l.went.c2 l.went.blocks2 i u (change_observed V same hash asks setting slot l.went.told) answer
          → LeavesGiven hash l.went.w2.memory l.went.c2 l.went.blocks2 (IsTold computes its asked) answer
      by (fits, inl (none, so, left)) = subst (λ (g : Given K V). LeavesGiven hash l.went.w2.memory l.went.c2 l.went.blocks2 g answer) is_told left
      by (fits, inr (made, tells, stores)) =
          absurd (no_change l.went.w2 l.went.c2 l.went.blocks2 (change_observed V same hash asks setting slot l.went.told) answer look tells)

  -- It was told a value where its key is missing, and answers that it is missing.
  pub denies_what_it_is_to_store : (value : V) → last_reply None asked ≡ Some (reply.Insert value) → (end : KeyCall K V Q × Called (Node K V))
      → Steps Took value_at w.memory (tells_at_once u.call answers.Absent) m2 end → Leads end → ⊥
  denies_what_it_is_to_store value told end steps l = let abort = leaves answers.Absent tt (subst Leads steps.1 l) in cc (told, abort)

  -- It was not told last to remove what is not there, and is refused so.
  pub is_refused_untold : (told : MachineReply V) → last_reply None asked ≡ Some told → (told ≡ reply.Remove → ⊥) → (end : KeyCall K V Q × Called (Node K V))
      → Steps Took value_at w.memory (refuses_at_once u.call) m2 end → Leads end → ⊥
  is_refused_untold told is other end steps l =
      let so = ((subst Leads steps.1 l).refuses RemoveNothing refl).2 refl in
      let removes : last_reply None asked ≡ Some reply.Remove = subst (λ (g : Given K V). RemovesNone g) is_told so.0 in other (cc (is, removes))

  -- with the pair of this word
  module _ (map : IsMapIn same hash (in_slot setting (slot i)) w c (seen_by blocks (sights (slot i)))) (moments : Moments (is_incremental setting.mode) c)
      (word n : ℕ) (names : IsWordOf hash w.memory c (seen_by blocks (sights (slot i))) its asked word (Some n)) where
    -- the word is that of this pair after the step
    names_then : (end : KeyCall K V Q × Called (Node K V)) (l : Leads end) → IsWordOf hash l.went.w2.memory l.went.c2 l.went.blocks2 its asked word (Some n)
    names_then end l =
        let seen = seen_by blocks (sights (slot i)) in
        let lasts = lasts_went same hash (in_slot setting (slot i)) lawful i w c seen map moments m2 _ l.went in
        let stays : Stays w.memory l.went.w2.memory c l.went.c2 seen l.went.blocks2 =
        step_stays same hash (in_slot setting (slot i)) i w l.went.w2 c l.went.c2 seen l.went.blocks2 map l.went.blocks_same lasts.stored lasts.keys
        (subst (IsFramed (in_slot setting (slot i)) i w c seen) (sym l.went.memory) l.went.frame) in
        word_on hash w.memory l.went.w2.memory c l.went.c2 seen l.went.blocks2 its asked stays word (Some n) names

    -- It was told a value for this very pair, and answers that it has found it.
    pub keeps_what_it_is_to_replace : (value : V) → last_reply (Some n) asked ≡ Some (reply.Insert value) → (end : KeyCall K V Q × Called (Node K V))
        → Steps Took value_at w.memory (tells_at_once u.call (answers.Found word)) m2 end → Leads end → ⊥
    keeps_what_it_is_to_replace value told end steps l =
        let l2 = subst Leads steps.1 l in
        let d = names_then (answered_with u.call (answers.Found word)) l2 in
        let abort = leaves (answers.Found word) tt l2 n d.0 Still d.1 d.2 in cc (told, abort)

    -- It was told to leave this pair, and removes it, and tells so.
    pub removes_what_it_is_to_leave : last_reply (Some n) asked ≡ Some reply.Abort → (end : KeyCall K V Q × Called (Node K V))
        → Steps Took value_at w.memory (removes_and_tells u.call word) m2 end → Leads end → ⊥
    removes_what_it_is_to_leave told end steps l =
        elim (exchanged w.memory (λ out. Now (answered_with u.call (answers.Removed word))) (place_tried u.call.trial) word TOMBSTONE m2 end steps) as (λ _. ⊥) [
          | inl d ↦ no_more (subst Leads d.3 l)
          | inr d ↦ no_more (subst Leads d.3 l)
        ]
      where
        no_more : Leads (answered_with u.call (answers.Removed word)) → ⊥
        no_more l = by (change_observed V same hash asks setting slot l.went.told) (l.answers (answers.Removed word) refl)
          where
            told_so : (o : ℕ) → IsToRemove hash l.went.w2.memory l.went.c2 l.went.blocks2 its asked o → o ≡ n → ⊥
            told_so o (inl removes) e = let its_told = ap (λ (x : ℕ). last_reply (Some x) asked) e in cc (its_told, told, removes)
            told_so o (inr chosen) e = let its_told = ap (λ (x : ℕ). last_reply (Some x) asked) e in cc (its_told, told, chosen)

            by : (change : Change) → AnswersOnce V same hash asks setting slot l.went.w2 l.went.c2 l.went.blocks2 i u change (answers.Removed word) → ⊥
            by change (fits, inl (none, so, left)) = so.3
            by Unchanged (fits, inr (made, tells, stores)) = tells
            by (Stored o) (fits, inr (made, tells, stores)) = tells
            by (Replaced o x) (fits, inr (made, tells, stores)) = tells
            by (Removed o) (fits, inr (made, (known, borrowed, is), stores)) =
                let d = names_then (answered_with u.call (answers.Removed word)) l in
                let m = l.went.w2.memory in
                let shows = l.went.map.map.shows in
                told_so o (subst (λ (g : Given K V). StoresGiven hash m l.went.c2 l.went.blocks2 g (Removed o)) is_told stores)
                (one_pair hash lawful.fits m l.went.c2 l.went.blocks2 its asked setting.root shows word o n known d.0
                (block_of_word hash lawful.fits m l.went.c2 l.went.blocks2 its asked setting.root shows word o Still borrowed is)
                (block_of_word hash lawful.fits m l.went.c2 l.went.blocks2 its asked setting.root shows word n Still d.1 d.2))
