-- What a step of a call tells, in its table or in one that the root has left: what the call knows then, what was so since it began, and its answer.
use Rattle.std.specs.Prelude.{◌≡◌, ℕ, ◌<◌, ◌≤◌, ◌^◌, ◌⊎◌, Bool, false, cond}
use Rattle.std.proofs.Common.{refl, sym, subst, inl, inr, arith}
use Rattle.seize_model.specs.Given.SeizeWordsDeclared.fault.Fault.{Fault}
use Rattle.seize_model.specs.Given.SeizeWorld.{World}
use Rattle.map_facts_late.specs.Given.TablesChunks.{is_incremental}
use Rattle.map_facts_late.specs.Given.TablesDeclared.node.Node.{Node}
use Rattle.map_facts_late.specs.Given.TablesDeclared.setting.Setting.{Setting}
use Rattle.map_facts_late.specs.Given.RawDeclared.machines.answer.KeyAnswer.{KeyAnswer}
use Rattle.map_facts_late.specs.Given.RawDeclared.machines.answer.KeyAnswer.TheVariants as answers
use Rattle.map_facts_late.specs.Given.RawDeclared.machines.answer.Called.{Called}
use Rattle.map_facts_late.specs.Given.RawDeclared.machines.answer.Called.TheVariants as called
use Rattle.map_facts_late.specs.Given.RawDeclared.machines.call.KeyCall.{KeyCall}
use Rattle.map_facts_late.specs.Given.RuleChart.{Chart}
use Rattle.map_facts_late.specs.Given.RuleWords.{Blocks}
use Rattle.map_facts_late.specs.Given.RuleMaps.{spot_of}
use Rattle.map_facts_late.specs.Given.RuleInWorld.{IsMapIn, Moved, SameBlocks}
use Rattle.map_facts_late.specs.Given.RuleLasts.{Lasts}
use Rattle.map_facts_late.specs.Given.RuleMoments.{Moments, Remembers}
use Rattle.map_facts_late.specs.Given.PointsFactsCalls.{IsCopying, Change, Unchanged, AnswersChange, CallFacts}
use Rattle.map_facts_late.specs.Given.PointsFactsCopies.{HasDone, ClaimsNone}
use Rattle.map_facts_late.specs.Given.PointsFactsCopiesBlocking.{HasNoShares}
use Rattle.map_facts_late.specs.Given.PointsFactsIdle.{IsIdle}
use Rattle.map_facts_late.specs.Given.PointsTold.{HasAnswered, CallFactsAfter, MovedBesideCopying}
use Rattle.map_facts_late.specs.LateCalls.{SupersededCallFacts}
use Rattle.map_facts_late.specs.LateTold.{SupersededCallAfter, SupersededCallOutcome}
use Rattle.many_calls.specs.Pairs.{RemovesNone}
use Rattle.many_calls.specs.Since.{WasChanged, SoSince, Since}
use Rattle.many_calls.specs.Together.{CallOnKey, in_slot, StepOutcome, Fresh, Late, change_observed, AnswersOnce, RefusesOnce}
use Rattle.many_calls.proofs.Since.Given.{GivenTo, answers_stored, answers_left}
use Rattle.many_calls.proofs.Since.PairsOn.{looks_so}
use Rattle.many_calls.proofs.Since.Began.{has_answered, so_since_on}
use Rattle.many_calls.proofs.Since.Step.{since_step, answers_step}
use Rattle.many_calls.proofs.Together.FactsOn.{KnowsOfCall}

module _ {K V Q : Type 0} (same : K → K → Bool) (hash : K → ℕ) (asks : Q → K → Bool) (setting : Setting) (slot : ℕ → ℕ) where
  -- in blocking mode, a caller without a share has no part in a copying
  pub idle_blocking : (w : World (Node K V)) (i : ℕ) (c : Chart K) (blocks : Blocks) (a : ℕ) → is_incremental setting.mode ≡ false → HasNoShares same hash w i (in_slot setting a) c blocks
      → IsIdle same hash w i (in_slot setting a) c blocks
  idle_blocking w i c blocks a blocking none =
      subst (λ (z : Bool). cond z (HasDone same hash w i (in_slot setting a) c blocks 0 × ClaimsNone same hash w i (in_slot setting a) c blocks) (HasNoShares same hash w i (in_slot setting a) c blocks)) (sym blocking) none

  -- what it knows after its step, or has as it ends
  abbrev pub KnowsAfter : World (Node K V) → Chart K → Blocks → ℕ → CallOnKey K V Q → Change → KeyCall K V Q → Called (Node K V) → Type 0
  KnowsAfter w c blocks i u change p (called.Gave value) = ⊥
  KnowsAfter w c blocks i u change p (called.Done answer) = IsIdle same hash w i (in_slot setting (slot i)) c blocks
  KnowsAfter w c blocks i u change p (called.Refused fault) = IsIdle same hash w i (in_slot setting (slot i)) c blocks
  KnowsAfter w c blocks i u change p _ = KnowsOfCall same hash asks (in_slot setting (slot i)) i w c blocks u.keys u.began change p

  module _ (i : ℕ) (u : CallOnKey K V Q) (w w2 : World (Node K V)) (c c2 : Chart K) (blocks blocks2 : Blocks) (p2 : KeyCall K V Q) (progress : Called (Node K V)) where
    abbrev Told : Type 0
    Told = StepOutcome V same hash asks setting slot c i u p2 progress w2 c2 blocks2

    abbrev changed_to : Told → Change
    changed_to told = change_observed V same hash asks setting slot told

    fresh_after : (change : Change) (it : Called (Node K V)) → CallFactsAfter same hash asks i (in_slot setting (slot i)) u.keys w2 c2 blocks2 change p2 it → KnowsAfter w2 c2 blocks2 i u change p2 it
    fresh_after change called.Goes facts = inl facts
    fresh_after change called.Waits facts = inl facts
    fresh_after change (called.Gave value) facts = facts
    fresh_after change (called.Unstored value) facts = inl facts
    fresh_after change (called.Asks asked) facts = inl facts
    fresh_after change (called.Done answer) facts = facts.1
    fresh_after change (called.Refused fault) facts = facts.0

    known : CallFacts same hash asks w2 i (in_slot setting (slot i)) c2 blocks2 u.keys Unchanged p2 ⊎ SupersededCallFacts same hash asks w2 i (in_slot setting (slot i)) c2 blocks2 u.keys u.began p2
        → KnowsOfCall same hash asks (in_slot setting (slot i)) i w2 c2 blocks2 u.keys u.began Unchanged p2
    known (inl fresh) = inl fresh
    known (inr late) = inr (refl, late)

    late_after : is_incremental setting.mode ≡ false → (it : Called (Node K V)) → SupersededCallAfter same hash asks i (in_slot setting (slot i)) u.keys u.began w2 c2 blocks2 p2 it → KnowsAfter w2 c2 blocks2 i u Unchanged p2 it
    late_after blocking called.Goes facts = known facts
    late_after blocking called.Waits facts = known facts
    late_after blocking (called.Gave value) facts = facts
    late_after blocking (called.Unstored value) facts = known facts
    late_after blocking (called.Asks asked) facts = known facts
    late_after blocking (called.Done answer) facts = idle_blocking w2 i c2 blocks2 (slot i) blocking facts.1
    late_after blocking (called.Refused fault) facts = idle_blocking w2 i c2 blocks2 (slot i) blocking facts

    module _ (map : IsMapIn same hash (in_slot setting (slot i)) w c blocks) (map2 : IsMapIn same hash (in_slot setting (slot i)) w2 c2 blocks2) (moments : Moments (is_incremental setting.mode) c)
        (moments2 : Moments (is_incremental setting.mode) c2) (lasts : Lasts same (spot_of hash) (is_incremental setting.mode) c c2) (remembers : Remembers (is_incremental setting.mode) c c2)
        (blocks_same : SameBlocks c blocks blocks2) (moved : Moved same hash setting.mode i c c2) (since : Since hash c blocks u.keys u.began u.change u.call.stands) where
      -- in a table that the root has left
      late_so : u.change ≡ Unchanged → SupersededCallOutcome same hash asks i (in_slot setting (slot i)) u.keys u.began c u.call w2 c2 blocks2 p2 progress → (answer : KeyAnswer) → HasAnswered answer p2.stands
          → SoSince hash c2 blocks2 u.keys u.began answer
      late_so none told answer has = elim (has_answered answer u.call.stands) [
        | inl before ↦ so_since_on hash (is_incremental setting.mode) c c2 blocks blocks2 remembers lasts.stored lasts.keys blocks_same.pairs u.keys u.began answer (since.answered none answer before)
        | inr fresh ↦ told.answers answer has fresh
      ]

      -- what was so since the call began
      pub since_told : (told : Told) → Since hash c2 blocks2 u.keys u.began (changed_to told) p2.stands
      since_told (Fresh told) =
          since_step same hash (in_slot setting (slot i)) w w2 c c2 blocks blocks2 map map2 moments moments2 lasts remembers blocks_same asks i u.keys u.change u.call p2 progress moved told u.began since
      since_told (Late blocking none told) = record {
        began_before = (let b = since.began_before in let n = remembers.now in omega (arith, b, n));
        changed = inl refl;
        answered = λ same answer has. late_so none told answer has;
      }

      -- its answer tells the one change, and then its own pair was stored, or what it was told; or what was so, and was to be left so
      module _ (fits : (k : K) → hash k < 2 ^ 64) (change : Change) (answer : KeyAnswer) (pair : GivenTo hash u.keys w2.memory c2 blocks2 u.pair change p2 (called.Done answer)) where
        by_answer : ((change ≡ Unchanged) × SoSince hash c2 blocks2 u.keys u.began answer)
            ⊎ (((m : ℕ) × (u.began ≤ m) × (m < c2.now) × WasChanged hash c2 blocks2 u.keys m change)
            × AnswersChange same hash asks w2 i (in_slot setting (slot i)) c2 blocks2 u.keys change change answer)
            → AnswersOnce V same hash asks setting slot w2 c2 blocks2 i u change answer
        by_answer (inl (none, so)) =
            (pair.0, inl (none, so, answers_left hash fits w2.memory c2 blocks2 setting.root map2.map.shows u.pair change none answer (looks_so hash c2 blocks2 u.keys u.began answer so) pair.1))
        by_answer (inr (made, tells)) = (pair.0, inr (made, tells, answers_stored hash w2.memory c2 blocks2 u.pair change answer pair.1))

      pub answers_told : (fits : (k : K) → hash k < 2 ^ 64) (told : Told) (answer : KeyAnswer) → progress ≡ called.Done answer → GivenTo hash u.keys w2.memory c2 blocks2 u.pair (changed_to told) p2 progress
          → AnswersOnce V same hash asks setting slot w2 c2 blocks2 i u (changed_to told) answer
      answers_told fits (Fresh told) answer done pair =
          by_answer fits told.change2 answer (subst (GivenTo hash u.keys w2.memory c2 blocks2 u.pair told.change2 p2) done pair)
          (answers_step same hash (in_slot setting (slot i)) w w2 c c2 blocks blocks2 map map2 moments moments2 lasts remembers blocks_same asks i u.keys u.change u.call p2 progress moved told u.began since answer done)
      answers_told fits (Late blocking none told) answer done pair =
          by_answer fits Unchanged answer (subst (GivenTo hash u.keys w2.memory c2 blocks2 u.pair Unchanged p2) done pair)
          (inl (refl, late_so none told answer (subst (λ (x : Called (Node K V)). SupersededCallAfter same hash asks i (in_slot setting (slot i)) u.keys u.began w2 c2 blocks2 p2 x) done told.facts).0))

    -- where it is refused it has changed nothing
    refused_unchanged : (told : Told) (fault : Fault) → progress ≡ called.Refused fault → changed_to told ≡ Unchanged
    refused_unchanged (Fresh told) fault refused =
        (subst (λ (x : Called (Node K V)). CallFactsAfter same hash asks i (in_slot setting (slot i)) u.keys w2 c2 blocks2 told.change2 p2 x) refused told.facts).1
    refused_unchanged (Late blocking none told) fault refused = refl

    pub refuses_told : (told : Told) (fault : Fault) → progress ≡ called.Refused fault → GivenTo hash u.keys w2.memory c2 blocks2 u.pair (changed_to told) p2 progress
        → (RemovesNone u.pair → SoSince hash c2 blocks2 u.keys u.began answers.Absent) → RefusesOnce V same hash asks setting slot c2 blocks2 u (changed_to told) fault
    refuses_told told fault refused pair none =
        let given = subst (GivenTo hash u.keys w2.memory c2 blocks2 u.pair (changed_to told) p2) refused pair in
        (refused_unchanged told fault refused, given.0, λ removes. let so = given.1 removes in (so, none so))

    -- what it knows after the step
    pub after_told : (told : Told) → KnowsAfter w2 c2 blocks2 i u (changed_to told) p2 progress
    after_told (Fresh told) = fresh_after told.change2 progress told.facts
    after_told (Late blocking none told) = late_after blocking progress told.facts

    -- beside its copying it links a table, or changes the map
    pub beside_told : Told → (IsCopying u.call.stands → ⊥) → MovedBesideCopying hash setting.mode c c2
    beside_told (Fresh told) = told.beside
    beside_told (Late blocking none told) = told.beside
