-- How a call goes on from a table that the root has left: what it knows where it comes to.
use Rattle.std.specs.Prelude.{◌≡◌, ℕ, ◌==◌, Bool, true, false, cond, Option, if◌then◌else◌}
use Rattle.std.proofs.Common.{refl, sym, subst, inl, inr}
use Rattle.map_facts.specs.Given.SeizeWordsMem.{Mem}
use Rattle.map_facts.specs.Given.SeizeWorld.{World}
use Rattle.map_facts.specs.Given.SeizeWordsDeclared.fault.Fault.{Fault}
use Rattle.map_facts.specs.Given.RawAnswers.{ended}
use Rattle.map_facts.specs.Given.RawCallPoints.{standing, going, over, answered_with, ending, answering}
use Rattle.map_facts.specs.Given.TablesChunks.{is_incremental}
use Rattle.map_facts.specs.Given.TablesDeclared.node.Node.{Node}
use Rattle.map_facts.specs.Given.TablesDeclared.setting.Setting.{Setting}
use Rattle.map_facts.specs.Given.TablesDeclared.trial.Trial.{Trial}
use Rattle.map_facts.specs.Given.RawDeclared.machines.answer.KeyAnswer.{KeyAnswer}
use Rattle.map_facts.specs.Given.RawDeclared.machines.answer.End.{End}
use Rattle.map_facts.specs.Given.RawDeclared.machines.answer.End.TheVariants as ends
use Rattle.map_facts.specs.Given.RawDeclared.machines.answer.Called.{Called}
use Rattle.map_facts.specs.Given.RawDeclared.machines.answer.Called.TheVariants.{Asks}
use Rattle.map_facts.specs.Given.RawDeclared.machines.asking.Asking.{Asking}
use Rattle.map_facts.specs.Given.RawDeclared.machines.call.KeyCall.{KeyCall}
use Rattle.map_facts.specs.Given.RawDeclared.machines.call.Calling.{Calling}
use Rattle.map_facts.specs.Given.RawDeclared.machines.call.Calling.TheVariants as at
use Rattle.map_facts.specs.Given.RuleChart.{Chart}
use Rattle.map_facts.specs.Given.RuleWords.{Blocks}
use Rattle.map_facts.specs.Given.RuleInWorld.{IsMapIn, StepSpec}
use Rattle.map_facts.proofs.Given.RuleWorld.WentStill.{went_still}
use Rattle.map_facts.specs.FactsCalls.{IsCopying, holding}
use Rattle.map_facts.specs.FactsCopies.{HasDone, ClaimsNone}
use Rattle.map_facts.specs.FactsCopiesBlocking.{HasNoShares}
use Rattle.map_facts.specs.Told.{HasAnswered, MovedBesideCopying}
use Rattle.map_facts.proofs.Calls.CallsOn.{Seeking, facts_at, own_pair, answered_same}
use Rattle.map_facts.proofs.MovedLasts.{idle_in}
use Rattle.map_facts_late.specs.Was.{SoSince}
use Rattle.map_facts_late.specs.LateCalls.{Its, SupersededAsking, SupersededCalling, SupersededCallFacts}
use Rattle.map_facts_late.specs.LateTold.{SupersededCallAfter, SupersededCallOutcome}

module _ {K V Q : Type 0} (same : K → K → Bool) (hash : K → ℕ) (asks : Q → K → Bool) (caller : ℕ) (setting : Setting) (alone : is_incremental setting.mode ≡ false) (keys : K → Bool) (began : ℕ)
    (w : World (Node K V)) (c : Chart K) (blocks : Blocks) where
  -- what it knows where it comes to, and what it answers was so since it began
  abbrev pub LateComes : KeyCall K V Q × Called (Node K V) → Type 0
  LateComes end =
      SupersededCallAfter same hash asks caller setting keys began w c blocks end.0 end.1
      × ((answer : KeyAnswer) → HasAnswered answer end.0.stands → SoSince hash c blocks keys began answer)

  -- it tells that
  pub told_late : (c0 : Chart K) (p : KeyCall K V Q) (end : KeyCall K V Q × Called (Node K V)) → c.current ≡ c0.current → ((IsCopying p.stands → ⊥) → MovedBesideCopying hash setting.mode c0 c) → LateComes end
      → SupersededCallOutcome same hash asks caller setting keys began c0 p w c blocks end.0 end.1
  told_late c0 p end current beside comes = record { facts = comes.0; same_pairs = current; beside = beside; answers = λ answer answered fresh. comes.1 answer answered }

  -- what it knows of its own
  pub seeking_late : (p : KeyCall K V Q) → SupersededCallFacts same hash asks w caller setting c blocks keys began p → Its same hash asks w caller setting c blocks keys began p
      → Seeking same hash asks caller setting keys w c blocks p
  seeking_late p f own = record {
    setting_is = f.setting_is;
    may = f.may;
    code = f.code;
    class = f.class;
    idle = idle_in same hash w caller setting c blocks false alone f.idle;
    own = own;
  }

  module _ (p : KeyCall K V Q) (s : Seeking same hash asks caller setting keys w c blocks p) where
    -- it has no part in a copying
    pub none_shared : HasNoShares same hash w caller setting c blocks
    none_shared =
        subst (λ (x : Bool). cond x (HasDone same hash w caller setting c blocks 0 × ClaimsNone same hash w caller setting c blocks) (HasNoShares same hash w caller setting c blocks)) alone s.idle

    -- further steps are needed there
    pub goes_late : (trial : Trial) (stands : Calling) → ((answer : KeyAnswer) → HasAnswered answer stands → ⊥)
        → SupersededCalling same hash asks w caller setting c blocks keys began (record p { trial = trial; stands = stands }) stands → LateComes (going (record p { trial = trial }) stands)
    goes_late trial stands none point = (
      inr record { blocking = alone; setting_is = s.setting_is; may = s.may; code = s.code; class = s.class; idle = none_shared; point = point },
      λ answer answered. absurd (none answer answered),
    )

    -- it asks
    pub asks_late : (asks_at : Asking) (pair : Option ℕ) (says : KeyAnswer) → ((answer : KeyAnswer) → HasAnswered answer (at.Asks asks_at) → answer ≡ says)
        → SupersededAsking same hash asks w caller setting c blocks keys began (record p { stands = at.Asks asks_at }) asks_at → SoSince hash c blocks keys began says
        → LateComes (standing p (at.Asks asks_at), Asks pair)
    asks_late asks_at pair says only point is = (
      inr record { blocking = alone; setting_is = s.setting_is; may = s.may; code = s.code; class = s.class; idle = none_shared; point = point },
      λ answer answered. subst (λ (a : KeyAnswer). SoSince hash c blocks keys began a) (sym (only answer answered)) is,
    )

    -- it ends
    ends_late : (end : End) → ((answer : KeyAnswer) → end ≡ ends.Answered answer → SoSince hash c blocks keys began answer)
        → SupersededCallAfter same hash asks caller setting keys began w c blocks (standing p (at.Over end)) (ended end) → LateComes (ending p end)
    ends_late end so told = by_own (p.own == 0) refl
      where
        by_own : (b : Bool) → (p.own == 0) ≡ b → LateComes (if b then over p end else going p (at.Drops end))
        by_own true e = (told, so)
        by_own false e = (
          inl (facts_at same hash asks caller setting keys w c blocks p s p.trial p.helped (at.Drops end) (refl, own_pair same hash asks caller setting keys w c blocks p s (holding p.replies.takes p.missing) p.asked p.replies.key s.own e)),
          so,
        )

    -- with an answer
    pub answers_late : (answer : KeyAnswer) → SoSince hash c blocks keys began answer → LateComes (answering p answer)
    answers_late answer is = ends_late (ends.Answered answer) (λ other e. subst (λ (a : KeyAnswer). SoSince hash c blocks keys began a) (answered_same answer other e) is) (refl, none_shared)

    -- with one at once
    pub answers_at_once : (answer : KeyAnswer) → SoSince hash c blocks keys began answer → LateComes (answered_with p answer)
    answers_at_once answer is = ((refl, none_shared), λ other e. subst (λ (a : KeyAnswer). SoSince hash c blocks keys began a) (answered_same answer other e) is)

    -- without one
    pub refuses_late : (fault : Fault) → LateComes (ending p (ends.Refused fault))
    refuses_late fault = ends_late (ends.Refused fault) (λ other e. absurd (cc)) none_shared

module _ {K V Q : Type 0} (same : K → K → Bool) (hash : K → ℕ) (asks : Q → K → Bool) (caller : ℕ) (setting : Setting) (alone : is_incremental setting.mode ≡ false) (keys : K → Bool) (began : ℕ)
    (w : World (Node K V)) (c : Chart K) (blocks : Blocks) (p : KeyCall K V Q) (m2 : Mem (Node K V)) (end : KeyCall K V Q × Called (Node K V)) where
  -- where its step leads, and what it tells
  abbrev pub LateWent : Type 0
  LateWent = StepSpec same hash setting caller w c blocks m2 (λ w2 c2 blocks2. SupersededCallOutcome same hash asks caller setting keys began c p w2 c2 blocks2 end.0 end.1)

  -- nothing changed
  pub still_late : IsMapIn same hash setting w c blocks → (m2 ≡ w.memory) × LateComes same hash asks caller setting alone keys began w c blocks end → LateWent
  still_late map told =
      went_still same hash setting caller w c blocks map m2 told.0 (λ w2 c2 blocks2. SupersededCallOutcome same hash asks caller setting keys began c p w2 c2 blocks2 end.0 end.1)
      (told_late same hash asks caller setting alone keys began w c blocks c p end refl (λ other. inl refl) told.1)
