-- How a call goes on that has changed nothing: what it knows where it comes to.
use Rattle.std.specs.Prelude.{◌≡◌, ℕ, ◌^◌, ◌<◌, ◌==◌, Bool, true, false, Option, if◌then◌else◌}
use Rattle.std.proofs.Common.{refl, sym, subst, inl, inr}
use Rattle.std.proofs.lemmas.Bool.{eqb-false}
use Rattle.papaya_raw.specs.Given.SeizeWorld.{World}
use Rattle.papaya_raw.specs.Answers.{ended}
use Rattle.papaya_raw.specs.CallPoints.{standing, going, over, ending, answering}
use Rattle.papaya_raw.specs.Given.TablesDeclared.node.Node.{Node}
use Rattle.papaya_raw.specs.Given.TablesDeclared.setting.Setting.{Setting}
use Rattle.papaya_raw.specs.Given.TablesDeclared.trial.Trial.{Trial}
use Rattle.papaya_raw.specs.declared.machines.answer.KeyAnswer.{KeyAnswer}
use Rattle.papaya_raw.specs.declared.machines.answer.End.{End}
use Rattle.papaya_raw.specs.declared.machines.answer.End.TheVariants as ends
use Rattle.papaya_raw.specs.declared.machines.answer.Called.{Called}
use Rattle.papaya_raw.specs.declared.machines.answer.Called.TheVariants.{Waits, Asks}
use Rattle.papaya_raw.specs.declared.machines.asking.Asking.{Asking}
use Rattle.papaya_raw.specs.declared.machines.call.KeyCall.{KeyCall}
use Rattle.papaya_raw.specs.declared.machines.call.Calling.{Calling}
use Rattle.papaya_raw.specs.declared.machines.call.Calling.TheVariants as at
use Rattle.map_rule.specs.Given.SeizeWordsDeclared.fault.Fault.{Fault}
use Rattle.map_rule.specs.Chart.{Chart}
use Rattle.map_rule.specs.Words.{Blocks}
use Rattle.map_rule.specs.Maps.{IsClass}
use Rattle.map_facts.specs.FactsCalls.{Change, Unchanged, Holding, Apart, InBlock, ByReply, holding, MayAsk, IsOwnPair, HasOwn, HasIts, AnswersOf, IsCopying, CallingFacts, CallFacts}
use Rattle.map_facts.specs.Told.{HasAnswered, CallFactsAfter, MovedBesideCopying, CallOutcome}
use Rattle.map_facts.specs.FactsIdle.{IsIdle}

-- an end has one answer
pub answered_same : (answer other : KeyAnswer) → ends.Answered answer ≡ ends.Answered other → answer ≡ other
answered_same answer other e = cc

module _ {K V Q : Type 0} (same : K → K → Bool) (hash : K → ℕ) (asks : Q → K → Bool) (caller : ℕ) (setting : Setting) (keys : K → Bool) where
  module _ (w : World (Node K V)) (c : Chart K) (blocks : Blocks) where
    -- what a call knows wherever it stands before its change
    pub record Seeking (p : KeyCall K V Q) : Type 0 where
      pub setting_is : p.setting ≡ setting
      pub may : MayAsk p
      pub code : p.hash < 2 ^ 64
      pub class : IsClass same hash keys p.hash
      pub idle : IsIdle same hash w caller setting c blocks
      pub own : HasIts same hash asks w caller setting c blocks keys Unchanged p

    -- it has changed nothing, and what it answers, or asks, is so
    abbrev pub Comes : KeyCall K V Q × Called (Node K V) → Type 0
    Comes end =
        CallFactsAfter same hash asks caller setting keys w c blocks Unchanged end.0 end.1
        × ((answer : KeyAnswer) → HasAnswered answer end.0.stands → AnswersOf same hash asks w caller setting c blocks keys Unchanged answer)

    -- it tells that
    pub told_unchanged : (c0 : Chart K) (change : Change) (p : KeyCall K V Q) (end : KeyCall K V Q × Called (Node K V)) → change ≡ Unchanged → c.current ≡ c0.current
        → ((IsCopying p.stands → ⊥) → MovedBesideCopying hash setting.mode c0 c) → Comes end
        → CallOutcome same hash asks caller setting keys c0 change p w c blocks end.0 end.1
    told_unchanged c0 change p end none current beside comes = record {
      change2 = Unchanged;
      facts = comes.0;
      changes = inl (sym none, current);
      beside = beside;
      answers = λ answer answered fresh unchanged. comes.1 answer answered;
      tells = λ answer answered fresh changed. absurd (changed refl);
    }

    module _ (p : KeyCall K V Q) (s : Seeking p) where
      -- at any try
      pub seeking_at : (trial : Trial) → Seeking (record p { trial = trial })
      seeking_at trial = record { setting_is = s.setting_is; may = s.may; code = s.code; class = s.class; idle = s.idle; own = s.own }

      pub facts_at : (trial : Trial) (helped : Bool) (stands : Calling)
          → CallingFacts same hash asks w caller setting c blocks keys Unchanged (record p { trial = trial; helped = helped; stands = stands }) stands
          → CallFacts same hash asks w caller setting c blocks keys Unchanged (record p { trial = trial; helped = helped; stands = stands })
      facts_at trial helped stands point = record {
        setting_is = s.setting_is;
        may = s.may;
        code = s.code;
        class = s.class;
        unchanged = λ seeks. refl;
        idle = λ rests. s.idle;
        point = point;
      }

      -- further steps are needed
      pub goes : (trial : Trial) (helped : Bool) (stands : Calling) → ((answer : KeyAnswer) → HasAnswered answer stands → ⊥)
          → CallingFacts same hash asks w caller setting c blocks keys Unchanged (record p { trial = trial; helped = helped; stands = stands }) stands
          → Comes (going (record p { trial = trial; helped = helped }) stands)
      goes trial helped stands none point = (facts_at trial helped stands point, λ answer answered. absurd (none answer answered))

      pub waits : (stands : Calling) → ((answer : KeyAnswer) → HasAnswered answer stands → ⊥)
          → CallingFacts same hash asks w caller setting c blocks keys Unchanged (record p { stands = stands }) stands
          → Comes (record p { stands = stands }, Waits)
      waits stands none point = (facts_at p.trial p.helped stands point, λ answer answered. absurd (none answer answered))

      -- it asks
      pub asks_so : (asking : Asking) (pair : Option ℕ) (says : KeyAnswer) → ((answer : KeyAnswer) → HasAnswered answer (at.Asks asking) → answer ≡ says)
          → CallingFacts same hash asks w caller setting c blocks keys Unchanged (record p { stands = at.Asks asking }) (at.Asks asking)
          → AnswersOf same hash asks w caller setting c blocks keys Unchanged says → Comes (standing p (at.Asks asking), Asks pair)
      asks_so asking pair says only point is = (
        facts_at p.trial p.helped (at.Asks asking) point,
        λ answer answered. subst (λ (x : KeyAnswer). AnswersOf same hash asks w caller setting c blocks keys Unchanged x) (sym (only answer answered)) is,
      )

      pub own_pair : (h : Holding) (asked : Option Q) (key : Option K) → HasOwn same hash asks w caller setting c blocks keys Unchanged h asked key p.own p.hash → (p.own == 0) ≡ false
          → IsOwnPair same hash asks w caller setting c blocks keys Unchanged p.own p.hash
      own_pair InBlock asked key h some = h.2
      own_pair Apart asked key h some = absurd (eqb-false p.own 0 some h.0)
      own_pair ByReply asked key (none, inl h) some = absurd (eqb-false p.own 0 some h.0)
      own_pair ByReply asked key (none, inr h) some = h.1

      -- it ends
      pub ends_so : (end : End) → ((answer : KeyAnswer) → end ≡ ends.Answered answer → AnswersOf same hash asks w caller setting c blocks keys Unchanged answer)
          → CallFactsAfter same hash asks caller setting keys w c blocks Unchanged (standing p (at.Over end)) (ended end)
          → Comes (ending p end)
      ends_so end so told = by_own (p.own == 0) refl
        where
          by_own : (b : Bool) → (p.own == 0) ≡ b → Comes (if b then over p end else going p (at.Drops end))
          by_own true e = (told, so)
          by_own false e = (facts_at p.trial p.helped (at.Drops end) (refl, own_pair (holding p.replies.takes p.missing) p.asked p.replies.key s.own e), so)

      -- with an answer
      pub answers_so : (answer : KeyAnswer) → AnswersOf same hash asks w caller setting c blocks keys Unchanged answer → Comes (answering p answer)
      answers_so answer is = ends_so (ends.Answered answer) (λ other e. subst (λ (a : KeyAnswer). AnswersOf same hash asks w caller setting c blocks keys Unchanged a) (cc) is) (refl, s.idle, inl refl)

      -- without one
      pub refuses : (fault : Fault) → Comes (ending p (ends.Refused fault))
      refuses fault = ends_so (ends.Refused fault) (λ other e. absurd (cc)) (s.idle, refl)
