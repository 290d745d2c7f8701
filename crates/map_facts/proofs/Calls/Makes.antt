-- A call makes its own block, takes it away where it has not stored it, and has ended.
use Rattle.std.specs.Prelude.{◌≡◌, ℕ, ◌/◌, ◌^◌, ◌<◌, Bool, Some, None, if◌then◌else◌}
use Rattle.std.proofs.Common.{refl, ap, sym, subst, ◌∙◌, inl, inr, arith}
use Rattle.std.proofs.lemmas.Bool.{eq-eqb}
use Rattle.map_rule.specs.Given.SeizeWordsMem.{Mem, block_of, value_in, value_at, IsFreeNumber, fresh, Can, Took}
use Rattle.map_rule.specs.Given.SeizeWordsPlan.{Turn, Do, Now, May, Steps}
use Rattle.map_rule.specs.Given.SeizeWordsOp.{Make}
use Rattle.map_rule.proofs.Given.SeizeWordsOneOwner.AfterWrites.{block_of-made}
use Rattle.map_rule.proofs.Given.SeizeWordsOneOwner.Operations.{may_make, made as made_by_step, may_take, taken}
use Rattle.papaya_raw.specs.Given.SeizeWorld.{World, Making}
use Rattle.papaya_raw.specs.Answers.{ended}
use Rattle.papaya_raw.specs.CallPoints.{word_to, standing, going}
use Rattle.papaya_raw.specs.Call.{makes_of, makes, made, drops, dropped}
use Rattle.papaya_raw.specs.Given.TablesDeclared.node.Node.{Node}
use Rattle.papaya_raw.specs.Given.TablesDeclared.node.Node.TheVariants as node
use Rattle.papaya_raw.specs.Given.TablesDeclared.setting.Setting.{Setting}
use Rattle.papaya_raw.specs.declared.machines.answer.Missing.{Missing}
use Rattle.papaya_raw.specs.declared.machines.answer.End.{End}
use Rattle.papaya_raw.specs.declared.machines.answer.End.TheVariants as ends
use Rattle.papaya_raw.specs.declared.machines.asking.Takes.{Takes}
use Rattle.papaya_raw.specs.declared.machines.asking.Takes.TheVariants as takes
use Rattle.papaya_raw.specs.declared.machines.answer.Called.{Called}
use Rattle.papaya_raw.specs.declared.machines.answer.Called.TheVariants.{Unstored}
use Rattle.papaya_raw.specs.declared.machines.call.KeyCall.{KeyCall}
use Rattle.papaya_raw.specs.declared.machines.call.Calling.TheVariants as at
use Rattle.map_rule.specs.Given.SeizeWordsDeclared.fault.Fault.TheVariants.{Memory}
use Rattle.map_rule.specs.Chart.{Chart}
use Rattle.map_rule.specs.Words.{Blocks}
use Rattle.map_rule.specs.InWorld.{IsMapIn, StepSpec}
use Rattle.map_facts.specs.FactsCalls.{Change, Unchanged, Holding, holding, IsCopying, IsOwnPair, HasOwn, CallingFacts, CallFacts}
use Rattle.map_facts.specs.Told.{HasAnswered, CallFactsAfter, CallOutcome}
use Rattle.map_facts.specs.FactsIdle.{IsIdle}
use Rattle.map_rule.proofs.World.WentStill.{went_still}
use Rattle.map_rule.proofs.World.WentMade.{world_made, went_made, went_dropped}
use Rattle.map_facts.proofs.Calls.CallsOn.{Seeking, Comes, told_unchanged, goes}
use Rattle.map_rule.proofs.Given.General.{some_is as is_some_of}

module _ {K V Q : Type 0} (same : K → K → Bool) (hash : K → ℕ) (asks : Q → K → Bool) (caller : ℕ) (setting : Setting) (keys : K → Bool)
    (w : World (Node K V)) (c : Chart K) (blocks : Blocks) (map : IsMapIn same hash setting w c blocks) (change : Change) (p : KeyCall K V Q)
    (f : CallFacts same hash asks w caller setting c blocks keys change p) where
  -- a step of the call came to this memory and this outcome
  abbrev pub CallWent : Mem (Node K V) → KeyCall K V Q × Called (Node K V) → Type 0
  CallWent m2 end = StepSpec same hash setting caller w c blocks m2 (λ w2 c2 blocks2. CallOutcome same hash asks caller setting keys c change p w2 c2 blocks2 end.0 end.1)

  pub by_end : (m2 : Mem (Node K V)) (end other : KeyCall K V Q × Called (Node K V)) → end ≡ other → CallWent m2 other → CallWent m2 end
  by_end m2 end other is went = subst (λ (e : KeyCall K V Q × Called (Node K V)). CallWent m2 e) (sym is) went

  -- a step that changed nothing
  pub still : (m2 : Mem (Node K V)) → m2 ≡ w.memory → (end : KeyCall K V Q × Called (Node K V)) → change ≡ Unchanged
      → Comes same hash asks caller setting keys w c blocks end → CallWent m2 end
  still m2 is end none comes =
      went_still same hash setting caller w c blocks map m2 is (λ w2 c2 blocks2. CallOutcome same hash asks caller setting keys c change p w2 c2 blocks2 end.0 end.1)
      (told_unchanged same hash asks caller setting keys w c blocks c change p end none refl (λ other. inl refl) comes)

  module _ (point : CallingFacts same hash asks w caller setting c blocks keys change p at.Makes) (none : change ≡ Unchanged)
      (idle : IsIdle same hash w caller setting c blocks) where
    makes_this : makes p ≡ Do (Make (node.Pair point.3 point.4) 0) (made p)
    makes_this = ap (makes_of p) point.5

    pub may_makes : May Can Took value_at w.memory (makes p)
    may_makes = subst (λ plan. May Can Took value_at w.memory plan) (sym makes_this)
        (may_make w.memory (made p) (node.Pair point.3 point.4) 0 (λ b is. tt) (λ back is. tt))

    abbrev begun : ℕ → KeyCall K V Q
    begun b = record p { unmade = None; own = word_to b p.hash }

    seeks : (b : ℕ) → IsFreeNumber w.memory b × (b < 2 ^ 53)
        → Seeking same hash asks caller setting keys (world_made same hash setting w c blocks map caller (node.Pair point.3 point.4) 0 b) c blocks (begun b)
    seeks b is = record {
      setting_is = f.setting_is;
      may = f.may;
      code = f.code;
      class = f.class;
      idle = idle;
      own = subst (λ (x : Holding). HasOwn same hash asks (world_made same hash setting w c blocks map caller (node.Pair point.3 point.4) 0 b) caller setting c blocks keys Unchanged x p.asked p.replies.key (word_to b p.hash) p.hash)
          (sym (ap (λ (x : Takes). holding x p.missing) point.8 ∙ ap (λ (x : Missing). holding takes.Nothing x) point.1)) (point.2, point.9, own_pair);
    }
      where
        own_pair : IsOwnPair same hash asks (world_made same hash setting w c blocks map caller (node.Pair point.3 point.4) 0 b) caller setting c blocks keys Unchanged (word_to b p.hash) p.hash
        own_pair = record {
          block = b;
          key = point.3;
          value = point.4;
          number = (is.0.1, is.1);
          word_is = refl;
          hand = ap (λ q. if q then Making caller else w.hand b) (eq-eqb b b refl);
          there = ap value_in (block_of-made w.memory (node.Pair point.3 point.4) 0 b b is.0) ∙ ap (λ q. value_in (if q then Some (fresh (node.Pair point.3 point.4) 0) else block_of w.memory b)) (eq-eqb b b refl);
          keys_are = point.6;
          code_is = point.7;
        }

    pub went_makes : (m2 : Mem (Node K V)) (end : KeyCall K V Q × Called (Node K V)) → Steps Took value_at w.memory (makes p) m2 end → CallWent m2 end
    went_makes m2 end s =
        elim (made_by_step w.memory (made p) (node.Pair point.3 point.4) 0 m2 end (subst (λ plan. Steps Took value_at w.memory plan m2 end) makes_this s)) as (λ _. CallWent m2 end) [
          | inl (b, is, after, e) ↦ by_end m2 end (going (begun b) at.Roots) e
              (went_made same hash setting w c blocks map caller (node.Pair point.3 point.4) 0 b tt is m2 after
              (λ w2 c2 blocks2. CallOutcome same hash asks caller setting keys c change p w2 c2 blocks2 (going (begun b) at.Roots).0 (going (begun b) at.Roots).1)
              (told_unchanged same hash asks caller setting keys (world_made same hash setting w c blocks map caller (node.Pair point.3 point.4) 0 b) c blocks c change p (going (begun b) at.Roots) none refl (λ other. inl refl)
              (goes same hash asks caller setting keys (world_made same hash setting w c blocks map caller (node.Pair point.3 point.4) 0 b) c blocks (begun b) (seeks b is) p.trial p.helped at.Roots (λ answer h. h) (seeks b is).own)))
          | inr (back, is, after, e) ↦ by_end m2 end (standing (record p { unmade = None }) (at.Over (ends.Refused Memory)), Unstored back) e
              (still m2 after (standing (record p { unmade = None }) (at.Over (ends.Refused Memory)), Unstored back) none (
                record { setting_is = f.setting_is; may = f.may; code = f.code; class = f.class; unchanged = λ h. absurd h; idle = λ h. idle; point = refl },
                λ answer h. absurd (cc),
              ))
        ]

  -- it has ended
  pub went_over : (over : End) → p.stands ≡ at.Over over → (m2 : Mem (Node K V)) (end : KeyCall K V Q × Called (Node K V))
      → Steps Took value_at w.memory (Turn (Now (p, ended over))) m2 end → CallWent m2 end
  went_over over stands m2 end s =
      by_end m2 end (p, ended over) s.1
      (went_still same hash setting caller w c blocks map m2 s.0 (λ w2 c2 blocks2. CallOutcome same hash asks caller setting keys c change p w2 c2 blocks2 p (ended over)) (record {
        change2 = change;
        facts = told over stands;
        changes = inl (refl, refl);
        beside = λ other. inl refl;
        answers = λ answer answered fresh. absurd (fresh answered);
        tells = λ answer answered fresh. absurd (fresh answered);
      }))
    where
      idle : IsIdle same hash w caller setting c blocks
      idle = f.idle (λ copying. subst IsCopying stands copying)

      none : change ≡ Unchanged
      none = subst (CallingFacts same hash asks w caller setting c blocks keys change p) stands f.point

      told : (end : End) → p.stands ≡ at.Over end → CallFactsAfter same hash asks caller setting keys w c blocks change p (ended end)
      told (ends.Answered answer) e = (subst (HasAnswered answer) (sym e) refl, idle, inl none)
      told (ends.Refused fault) e = (idle, none)

  module _ (end : End) (stands : p.stands ≡ at.Drops end) (point : CallingFacts same hash asks w caller setting c blocks keys change p (at.Drops end))
      (idle : IsIdle same hash w caller setting c blocks) where
    abbrev own : IsOwnPair same hash asks w caller setting c blocks keys change p.own p.hash
    own = point.1

    block_is : p.own / 2048 ≡ point.1.block
    block_is = let is = own.word_is in let few = f.code in let small = own.number in omega (arith, small.1)

    there : value_at w.memory (p.own / 2048) ≡ Some (node.Pair point.1.key point.1.value)
    there = ap (value_at w.memory) block_is ∙ own.there

    pub may_drops : May Can Took value_at w.memory (drops p end)
    may_drops = may_take w.memory (dropped p end) (p.own / 2048) (is_some_of _ _ there) (λ value is. tt)

    pub went_drops : (m2 : Mem (Node K V)) (over : KeyCall K V Q × Called (Node K V)) → Steps Took value_at w.memory (drops p end) m2 over → CallWent m2 over
    went_drops m2 over s =
        let d = taken w.memory (dropped p end) (p.own / 2048) m2 over s in
        by_end m2 over (standing (record p { own = 0 }) (at.Over end), Unstored d.0) d.3
        (went_dropped same hash setting w c blocks map (p.own / 2048) caller d.0 (ap w.hand block_is ∙ own.hand) d.1 (λ shards. cc (there, d.1)) m2 d.2
        (λ w2 c2 blocks2. CallOutcome same hash asks caller setting keys c change p w2 c2 blocks2 (standing (record p { own = 0 }) (at.Over end)) (Unstored d.0))
        (record {
          change2 = change;
          facts = record { setting_is = f.setting_is; may = f.may; code = f.code; class = f.class; unchanged = λ h. absurd h; idle = λ h. idle; point = point.0 };
          changes = inl (refl, refl);
          beside = λ other. inl refl;
          answers = λ answer answered fresh. absurd (fresh (subst (HasAnswered answer) (sym stands) answered));
          tells = λ answer answered fresh. absurd (fresh (subst (HasAnswered answer) (sym stands) answered));
        }))
