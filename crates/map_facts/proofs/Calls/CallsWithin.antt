-- A call whose inner machine takes a step: what it knows of its own lasts.
use Rattle.std.specs.Prelude.{◌≡◌, ℕ, Bool, Option, Some, None}
use Rattle.std.proofs.Common.{refl, subst, ◌∙◌, inl, inr}
use Rattle.map_rule.specs.Given.SeizeWordsMem.{Mem, value_at, Took}
use Rattle.map_rule.specs.Given.SeizeWordsPlan.{Steps}
use Rattle.map_rule.proofs.Given.SeizeRuleRows.Leaving.{steps_back}
use Rattle.papaya_raw.specs.Given.SeizeWorld.{World}
use Rattle.papaya_raw.specs.Given.SeizeDeclared.advance.Advance.{Advance}
use Rattle.papaya_raw.specs.Given.SeizeDeclared.advance.Advance.TheVariants as progress
use Rattle.papaya_raw.specs.Call.{looks_for, looked, looks}
use Rattle.papaya_raw.specs.CallPoints.{answered_with}
use Rattle.map_rule.specs.Given.ResizeLookup.{lookup_plan}
use Rattle.papaya_raw.specs.Given.TablesDeclared.node.Node.{Node}
use Rattle.papaya_raw.specs.Given.TablesDeclared.setting.Setting.{Setting}
use Rattle.papaya_raw.specs.declared.machines.answer.KeyAnswer.{KeyAnswer}
use Rattle.papaya_raw.specs.declared.machines.answer.KeyAnswer.TheVariants as answers
use Rattle.papaya_raw.specs.declared.machines.answer.Called.{Called}
use Rattle.papaya_raw.specs.declared.machines.call.KeyCall.{KeyCall}
use Rattle.papaya_raw.specs.declared.machines.call.Calling.TheVariants as at
use Rattle.map_rule.specs.Given.ResizeDeclared.lookup.Lookup.{Lookup}
use Rattle.map_rule.specs.Chart.{Chart}
use Rattle.map_rule.specs.Words.{Blocks}
use Rattle.map_rule.specs.InWorld.{IsMapIn, SparesPairs}
use Rattle.map_facts.specs.FactsCalls.{Change, Unchanged, Holding, Apart, InBlock, ByReply, holding, IsOwnPair, HasOwn, HasIts, AnswersOf, CallingFacts, CallFacts}
use Rattle.map_facts.specs.Told.{LookupOutcome}
use Rattle.map_facts.specs.FactsIdle.{IsIdle}
use Rattle.map_facts.proofs.Calls.CallsOn.{Seeking, Comes, goes}
use Rattle.map_facts.proofs.Calls.Makes.{CallWent, by_end, still}

module _ {K V Q : Type 0} (same : K → K → Bool) (hash : K → ℕ) (asks : Q → K → Bool) (caller : ℕ) (setting : Setting) (keys : K → Bool) where
  -- a call's own pair lasts where those that are not linked are spared
  pub pair_lasts : (w w2 : World (Node K V)) (c c2 : Chart K) (blocks blocks2 : Blocks) → SparesPairs w w2 → (own code : ℕ)
      → IsOwnPair same hash asks w caller setting c blocks keys Unchanged own code → IsOwnPair same hash asks w2 caller setting c2 blocks2 keys Unchanged own code
  pair_lasts w w2 c c2 blocks blocks2 spares own code h =
      let kept = spares h.block caller h.key h.value h.hand h.there in
      record {
        block = h.block;
        key = h.key;
        value = h.value;
        number = h.number;
        word_is = h.word_is;
        hand = kept.0;
        there = kept.1 ∙ h.there;
        keys_are = h.keys_are;
        code_is = h.code_is;
      }

  pub own_lasts : (w w2 : World (Node K V)) (c c2 : Chart K) (blocks blocks2 : Blocks) → SparesPairs w w2 → (x : Holding) (asked : Option Q) (key : Option K) (own code : ℕ)
      → HasOwn same hash asks w caller setting c blocks keys Unchanged x asked key own code → HasOwn same hash asks w2 caller setting c2 blocks2 keys Unchanged x asked key own code
  own_lasts w w2 c c2 blocks blocks2 spares InBlock asked key own code h = (h.0, h.1, pair_lasts w w2 c c2 blocks blocks2 spares own code h.2)
  own_lasts w w2 c c2 blocks blocks2 spares Apart asked key own code h = h
  own_lasts w w2 c c2 blocks blocks2 spares ByReply asked key own code (none, inl (out, h)) =
      (none, inl (out, record { key = h.key; key_is = h.key_is; keys_are = h.keys_are; code_is = h.code_is }))
  own_lasts w w2 c c2 blocks blocks2 spares ByReply asked key own code (none, inr (out, h)) = (none, inr (out, pair_lasts w w2 c c2 blocks blocks2 spares own code h))

  pub its_last : (w w2 : World (Node K V)) (c c2 : Chart K) (blocks blocks2 : Blocks) → SparesPairs w w2 → (p : KeyCall K V Q)
      → HasIts same hash asks w caller setting c blocks keys Unchanged p → HasIts same hash asks w2 caller setting c2 blocks2 keys Unchanged p
  its_last w w2 c c2 blocks blocks2 spares p = own_lasts w w2 c c2 blocks blocks2 spares (holding p.replies.takes p.missing) p.asked p.replies.key p.own p.hash

  pub seeking_lasts : (w w2 : World (Node K V)) (c c2 : Chart K) (blocks blocks2 : Blocks) → SparesPairs w w2 → (p : KeyCall K V Q)
      → IsIdle same hash w2 caller setting c2 blocks2 → Seeking same hash asks caller setting keys w c blocks p
      → Seeking same hash asks caller setting keys w2 c2 blocks2 p
  seeking_lasts w w2 c c2 blocks blocks2 spares p idle s = record {
    setting_is = s.setting_is;
    may = s.may;
    code = s.code;
    class = s.class;
    idle = idle;
    own = its_last w w2 c c2 blocks blocks2 spares p s.own;
  }

  module _ (w : World (Node K V)) (c : Chart K) (blocks : Blocks) (map : IsMapIn same hash setting w c blocks) (p : KeyCall K V Q)
      (s : Seeking same hash asks caller setting keys w c blocks p) (l : Lookup)
      (point : CallingFacts same hash asks w caller setting c blocks keys Unchanged p (at.Looks l)) where
    answered : (answer : KeyAnswer) → AnswersOf same hash asks w caller setting c blocks keys Unchanged answer → Comes same hash asks caller setting keys w c blocks (answered_with p answer)
    answered answer is = ((refl, s.idle, inl refl), λ other e. subst (λ (a : KeyAnswer). AnswersOf same hash asks w caller setting c blocks keys Unchanged a) (cc) is)

    -- a step of its lookup
    pub looked_comes : (end : Lookup × Advance (Option ℕ)) → LookupOutcome same hash setting.mode setting.root keys p.hash c blocks end
        → Comes same hash asks caller setting keys w c blocks (looked p end)
    looked_comes (next, progress.Goes) told =
        goes same hash asks caller setting keys w c blocks p s p.trial p.helped (at.Looks next) (λ answer h. h)
        (point.0, point.1, point.2, point.3, point.4, point.5, told)
    looked_comes (next, progress.Waits) told = absurd told
    looked_comes (next, progress.Done (Some found)) told = answered (answers.Found found) told
    looked_comes (next, progress.Done None) told = answered answers.Absent told
    looked_comes (next, progress.Refused fault) told = absurd told

    pub went_looks : (change : Change) (f : CallFacts same hash asks w caller setting c blocks keys change p) → change ≡ Unchanged
        → ((m2 : Mem (Node K V)) (end : Lookup × Advance (Option ℕ)) → Steps Took value_at w.memory (lookup_plan (asks point.3) l) m2 end
        → (m2 ≡ w.memory) × LookupOutcome same hash setting.mode setting.root keys p.hash c blocks end)
        → (m2 : Mem (Node K V)) (end : KeyCall K V Q × Called (Node K V)) → Steps Took value_at w.memory (looks asks p l) m2 end
        → CallWent same hash asks caller setting keys w c blocks map change p f m2 end
    went_looks change f unchanged inner m2 end steps =
        let these : Steps Took value_at w.memory (looks_for asks p l (Some point.3)) m2 end = subst (λ (a : Option Q). Steps Took value_at w.memory (looks_for asks p l a) m2 end) point.4 steps in
        let d = steps_back (looked p) w.memory m2 (lookup_plan (asks point.3) l) end these in
        let told = inner m2 d.0 d.1 in
        by_end same hash asks caller setting keys w c blocks map change p f m2 end (looked p d.0) d.2
        (still same hash asks caller setting keys w c blocks map change p f m2 told.0 (looked p d.0) unchanged (looked_comes d.0 told.1))
