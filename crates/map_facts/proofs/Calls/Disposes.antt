-- A call disposes of the pair that was there.
use Rattle.std.specs.Prelude.{◌≡◌, ℕ, ◌<◌, Bool, true, false}
use Rattle.std.proofs.Common.{refl, ap, sym, subst, ◌∙◌, inl, inr}
use Rattle.map_rule.specs.Given.SeizeWordsWord.{link_word}
use Rattle.map_rule.specs.Given.SeizeWordsMem.{Mem, value_at, Took}
use Rattle.map_rule.specs.Given.SeizeWordsPlan.{Steps}
use Rattle.map_rule.proofs.Given.SeizeRuleRows.Leaving.{steps_back}
use Rattle.papaya_raw.specs.Given.SeizeWorld.{World}
use Rattle.papaya_raw.specs.Given.SeizeDeclared.rows.settle.Settled.{Settled}
use Rattle.papaya_raw.specs.Given.SeizeDeclared.rows.settle.Settled.TheVariants as settled
use Rattle.papaya_raw.specs.Call.{disposed, disposes}
use Rattle.map_rule.specs.Given.ResizeDispose.{dispose_plan}
use Rattle.papaya_raw.specs.Given.TablesDeclared.node.Node.{Node}
use Rattle.papaya_raw.specs.Given.TablesDeclared.setting.Setting.{Setting}
use Rattle.papaya_raw.specs.declared.machines.answer.KeyAnswer.{KeyAnswer}
use Rattle.papaya_raw.specs.declared.machines.answer.KeyAnswer.TheVariants as answers
use Rattle.papaya_raw.specs.declared.machines.answer.Called.{Called}
use Rattle.papaya_raw.specs.declared.machines.call.KeyCall.{KeyCall}
use Rattle.map_rule.specs.Given.ResizeDeclared.dispose.Dispose.{Dispose}
use Rattle.map_rule.specs.Chart.{Phase, Still, Holds, Chart}
use Rattle.map_rule.specs.Words.{Blocks, mark_bits, byte_of, place_word}
use Rattle.map_rule.specs.InWorld.{IsMapIn, SameBlocks, StepSpec, SparesPairs}
use Rattle.map_facts.specs.FactsCalls.{Change, Unchanged, Stored, Replaced, Removed, AnswersChange, CallFacts}
use Rattle.map_facts.specs.Told.{DisposeOutcome, CallOutcome}
use Rattle.map_facts.specs.FactsIdle.{IsIdle}
use Rattle.map_facts.proofs.Calls.CallsOn.{answered_same}
use Rattle.map_facts.proofs.Calls.Makes.{CallWent, by_end}
use Rattle.map_rule.proofs.World.WentTold.{went_as}

module _ {K V Q : Type 0} (same : K → K → Bool) (hash : K → ℕ) (asks : Q → K → Bool) (caller : ℕ) (setting : Setting) (keys : K → Bool)
    (w w2 : World (Node K V)) (c : Chart K) (blocks blocks2 : Blocks) (same_blocks : SameBlocks c blocks blocks2) where
  known_lasts : (n : ℕ) → (n < c.stored) × (blocks.pair_known n ≡ true) → (n < c.stored) × (blocks2.pair_known n ≡ true)
  known_lasts n h = (h.0, (same_blocks.pairs n h.0 h.1).1)

  word_lasts : (n : ℕ) (phase : Phase) (borrowed : Bool) → (n < c.stored) × (blocks.pair_known n ≡ true)
      → place_word hash c blocks (Holds n phase borrowed) ≡ place_word hash c blocks2 (Holds n phase borrowed)
  word_lasts n phase borrowed h = ap (λ (x : ℕ). link_word x (byte_of hash (c.key n)) (mark_bits phase borrowed)) (sym (same_blocks.pairs n h.0 h.1).0)

  -- the pairs that an answer tells of keep their words
  tells_lasts : (change change2 : Change) (change3 : Change) (answer : KeyAnswer) → AnswersChange same hash asks w caller setting c blocks keys change2 change answer
      → AnswersChange same hash asks w2 caller setting c blocks2 keys change3 change answer
  tells_lasts (Stored n) x y (answers.Stored word) h = (known_lasts n h.0, h.1 ∙ word_lasts n Still false h.0)
  tells_lasts (Replaced o n) x y (answers.Replaced old new) h = (
    known_lasts o h.0,
    known_lasts n h.1,
    h.2,
    h.3 ∙ word_lasts o Still h.2 h.0,
    h.4 ∙ word_lasts n Still false h.1,
  )
  tells_lasts (Removed n) x y (answers.Removed word) h = (known_lasts n h.0, h.1, h.2 ∙ word_lasts n Still h.1 h.0)
  tells_lasts Unchanged x y answer h = absurd h
  tells_lasts (Stored n) x y answers.Absent h = absurd h
  tells_lasts (Stored n) x y (answers.Found word) h = absurd h
  tells_lasts (Stored n) x y (answers.Replaced old new) h = absurd h
  tells_lasts (Stored n) x y (answers.Removed word) h = absurd h
  tells_lasts (Replaced o n) x y answers.Absent h = absurd h
  tells_lasts (Replaced o n) x y (answers.Found word) h = absurd h
  tells_lasts (Replaced o n) x y (answers.Stored word) h = absurd h
  tells_lasts (Replaced o n) x y (answers.Removed word) h = absurd h
  tells_lasts (Removed n) x y answers.Absent h = absurd h
  tells_lasts (Removed n) x y (answers.Found word) h = absurd h
  tells_lasts (Removed n) x y (answers.Stored word) h = absurd h
  tells_lasts (Removed n) x y (answers.Replaced old new) h = absurd h

module _ {K V Q : Type 0} (same : K → K → Bool) (hash : K → ℕ) (asks : Q → K → Bool) (caller : ℕ) (setting : Setting) (keys : K → Bool)
    (w : World (Node K V)) (c : Chart K) (blocks : Blocks) (map : IsMapIn same hash setting w c blocks)
    (change : Change) (p : KeyCall K V Q) (f : CallFacts same hash asks w caller setting c blocks keys change p) (idle : IsIdle same hash w caller setting c blocks)
    (dispose : Dispose) (answer : KeyAnswer) (tells : AnswersChange same hash asks w caller setting c blocks keys change change answer) where
  disposed_told : (w2 : World (Node K V)) (blocks2 : Blocks) → SameBlocks c blocks blocks2 → (end : Dispose × Settled (Node K V)) → DisposeOutcome w2 caller setting c blocks2 end
      → CallOutcome same hash asks caller setting keys c change p w2 c blocks2 (disposed p answer end).0 (disposed p answer end).1
  disposed_told w2 blocks2 same_blocks (next, settled.Goes) told = record {
    change2 = change;
    facts = record {
      setting_is = f.setting_is;
      may = f.may;
      code = f.code;
      class = f.class;
      unchanged = λ h. absurd h;
      idle = λ h. idle;
      point = (told, tells_lasts same hash asks caller setting keys w w2 c blocks blocks2 same_blocks change change change answer tells);
    };
    changes = inl (refl, refl);
    beside = λ other. inl refl;
    answers = λ other answered fresh stays. absurd answered;
    tells = λ other answered fresh changed. absurd answered;
  }
  disposed_told w2 blocks2 same_blocks (next, settled.Waits) told = absurd told
  disposed_told w2 blocks2 same_blocks (next, settled.Gave value) told = absurd told
  disposed_told w2 blocks2 same_blocks (next, settled.Done) told = record {
    change2 = change;
    facts = (refl, idle, inr (tells_lasts same hash asks caller setting keys w w2 c blocks blocks2 same_blocks change change change answer tells));
    changes = inl (refl, refl);
    beside = λ other. inl refl;
    answers = λ other answered fresh stays. absurd (subst (λ (x : Change). AnswersChange same hash asks w caller setting c blocks keys change x answer) stays tells);
    tells = λ other answered fresh changed.
        subst (λ (a : KeyAnswer). AnswersChange same hash asks w2 caller setting c blocks2 keys change change a) (answered_same answer other answered)
        (tells_lasts same hash asks caller setting keys w w2 c blocks blocks2 same_blocks change change change answer tells);
  }

  -- what a step of its disposal, which makes no move, tells of the call
  pub dispose_told : (w2 : World (Node K V)) (c2 : Chart K) (blocks2 : Blocks) → SameBlocks c blocks blocks2 → (end : Dispose × Settled (Node K V))
      → SparesPairs w w2 × (c2 ≡ c) × DisposeOutcome w2 caller setting c2 blocks2 end
      → CallOutcome same hash asks caller setting keys c change p w2 c2 blocks2 (disposed p answer end).0 (disposed p answer end).1
  dispose_told w2 c2 blocks2 same_blocks end told =
      subst (λ (x : Chart K). CallOutcome same hash asks caller setting keys c change p w2 x blocks2 (disposed p answer end).0 (disposed p answer end).1) (sym told.1)
      (disposed_told w2 blocks2 same_blocks end (subst (λ (x : Chart K). DisposeOutcome w2 caller setting x blocks2 end) told.1 told.2))

  pub went_disposes : ((m2 : Mem (Node K V)) (end : Dispose × Settled (Node K V)) → Steps Took value_at w.memory (dispose_plan dispose) m2 end
      → StepSpec same hash setting caller w c blocks m2 (λ w2 c2 blocks2. SparesPairs w w2 × (c2 ≡ c) × DisposeOutcome w2 caller setting c2 blocks2 end))
      → (m2 : Mem (Node K V)) (end : KeyCall K V Q × Called (Node K V)) → Steps Took value_at w.memory (disposes p dispose answer) m2 end
      → CallWent same hash asks caller setting keys w c blocks map change p f m2 end
  went_disposes inner m2 end steps =
      let d = steps_back (disposed p answer) w.memory m2 (dispose_plan dispose) end steps in
      by_end same hash asks caller setting keys w c blocks map change p f m2 end (disposed p answer d.0) d.2
      (went_as same hash setting caller w c blocks m2
      (λ w2 c2 blocks2. SparesPairs w w2 × (c2 ≡ c) × DisposeOutcome w2 caller setting c2 blocks2 d.0)
      (λ w2 c2 blocks2. CallOutcome same hash asks caller setting keys c change p w2 c2 blocks2 (disposed p answer d.0).0 (disposed p answer d.0).1)
      (λ w2 c2 blocks2 map2 moved same_blocks told. dispose_told w2 c2 blocks2 same_blocks d.0 told)
      (inner m2 d.0 d.1))
