-- A call counts its change.
use Rattle.std.specs.Prelude.{◌≡◌, ◌≢◌, ℕ, ◌^◌, ◌<◌, Bool, bit_and, if◌then◌else◌}
use Rattle.std.proofs.Common.{false, refl, ap, sym, subst, ◌∙◌, inl, inr, arith}
use Rattle.std.proofs.lemmas.Bool.{eq-eqb, ne_eqb}
use Rattle.map_rule.specs.Given.SeizeWordsDeclared.at.At.TheVariants.{Word}
use Rattle.map_rule.specs.Given.SeizeWordsMem.{Mem, value_at, Can, Took}
use Rattle.map_rule.specs.Given.SeizeWordsPlan.{Now, May, Steps}
use Rattle.map_rule.proofs.Given.SeizeWordsOneOwner.Operations.{may_add, added}
use Rattle.papaya_raw.specs.Given.SeizeWorld.{World}
use Rattle.papaya_raw.specs.Given.TablesCounts.{count_change}
use Rattle.papaya_raw.specs.Call.{counts}
use Rattle.papaya_raw.specs.CallPoints.{going, over, counted}
use Rattle.map_rule.specs.Given.ResizeDispose.{disposing}
use Rattle.papaya_raw.specs.Given.TablesDeclared.node.Node.{Node}
use Rattle.papaya_raw.specs.Given.TablesDeclared.setting.Setting.{Setting}
use Rattle.papaya_raw.specs.declared.machines.answer.KeyAnswer.{KeyAnswer}
use Rattle.papaya_raw.specs.declared.machines.answer.KeyAnswer.TheVariants as answers
use Rattle.papaya_raw.specs.declared.machines.answer.Called.{Called}
use Rattle.papaya_raw.specs.declared.machines.answer.End.TheVariants as ends
use Rattle.papaya_raw.specs.declared.machines.call.KeyCall.{KeyCall}
use Rattle.papaya_raw.specs.declared.machines.call.Calling.TheVariants as at
use Rattle.map_rule.specs.Chart.{Still, Chart, Holds}
use Rattle.map_rule.specs.Words.{Blocks, byte_of, place_word}
use Rattle.map_rule.specs.InWorld.{IsMapIn}
use Rattle.map_facts.specs.FactsCalls.{Change, Stored, IsKnown, AnswersChange, CallingFacts, CallFacts}
use Rattle.map_facts.proofs.Calls.CallsOn.{answered_same}
use Rattle.map_facts.specs.Told.{CallOutcome}
use Rattle.map_facts.specs.FactsIdle.{IsIdle}
use Rattle.map_rule.proofs.Words.PlaceWordsRead.{pair_word-large}
use Rattle.map_facts.proofs.Disposals.DisposesBegin.{dispose_begins}
use Rattle.map_facts.proofs.Calls.Makes.{CallWent, by_end}
use Rattle.map_facts.proofs.Steps.CountsShards.{shard_some, went_counted}

module _ {K V Q : Type 0} (same : K → K → Bool) (hash : K → ℕ) (asks : Q → K → Bool) (caller : ℕ) (setting : Setting) (keys : K → Bool) (fits : (k : K) → hash k < 2 ^ 64)
    (w : World (Node K V)) (c : Chart K) (blocks : Blocks) (map : IsMapIn same hash setting w c blocks) (change : Change) (p : KeyCall K V Q)
    (f : CallFacts same hash asks w caller setting c blocks keys change p) (idle : IsIdle same hash w caller setting c blocks) (removed : ℕ) where
  pub may_counts : May Can Took value_at w.memory (counts p removed)
  may_counts =
      may_add w.memory (λ out. Now (counted p removed)) (Word p.setting.counter (bit_and p.setting.slot p.setting.mask)) (count_change removed)
      (shard_some same hash caller setting p.setting f.setting_is w c blocks map) (λ found is. tt)

  module _ (point : CallingFacts same hash asks w caller setting c blocks keys change p (at.Counts removed)) where
    told : (m : Mem (Node K V)) → CallOutcome same hash asks caller setting keys c change p (record w { memory = m }) c blocks (counted p removed).0 (counted p removed).1
    told m = by point
      where
        stored : CallOutcome same hash asks caller setting keys c change p (record w { memory = m }) c blocks (over p (ends.Answered (answers.Stored p.own))).0 (over p (ends.Answered (answers.Stored p.own))).1
            → removed ≡ 0 → CallOutcome same hash asks caller setting keys c change p (record w { memory = m }) c blocks (counted p removed).0 (counted p removed).1
        stored told none =
            subst (λ (end : KeyCall K V Q × Called (Node K V)). CallOutcome same hash asks caller setting keys c change p (record w { memory = m }) c blocks end.0 end.1)
            (ap (λ (q : Bool). if q then over p (ends.Answered (answers.Stored p.own)) else going p (at.Disposes (disposing p.setting removed p.trial.table) (answers.Removed removed)))
            (sym (eq-eqb removed 0 none))) told

        disposes : CallOutcome same hash asks caller setting keys c change p (record w { memory = m }) c blocks
            (going p (at.Disposes (disposing setting removed p.trial.table) (answers.Removed removed))).0 (going p (at.Disposes (disposing setting removed p.trial.table) (answers.Removed removed))).1
            → removed ≢ 0 → CallOutcome same hash asks caller setting keys c change p (record w { memory = m }) c blocks (counted p removed).0 (counted p removed).1
        disposes told some =
            subst (λ (end : KeyCall K V Q × Called (Node K V)). CallOutcome same hash asks caller setting keys c change p (record w { memory = m }) c blocks end.0 end.1)
            (ap (λ (x : Setting). going p (at.Disposes (disposing x removed p.trial.table) (answers.Removed removed))) (sym f.setting_is)
            ∙ ap (λ (q : Bool). if q then over p (ends.Answered (answers.Stored p.own)) else going p (at.Disposes (disposing p.setting removed p.trial.table) (answers.Removed removed)))
            (sym (ne_eqb removed 0 some))) told

        stored_tells : (n : ℕ) → change ≡ Stored n → IsKnown same hash asks w caller setting c blocks keys change n → p.own ≡ place_word hash c blocks (Holds n Still false) → (answer : KeyAnswer) → answers.Stored p.own ≡ answer
            → AnswersChange same hash asks (record w { memory = m }) caller setting c blocks keys change change answer
        stored_tells n stored_is known own_is answer is =
            subst (λ (a : KeyAnswer). AnswersChange same hash asks (record w { memory = m }) caller setting c blocks keys change change a) is
            (subst (λ (x : Change). AnswersChange same hash asks (record w { memory = m }) caller setting c blocks keys change x (answers.Stored p.own)) (sym stored_is) (known, own_is))

        by : CallingFacts same hash asks w caller setting c blocks keys change p (at.Counts removed)
            → CallOutcome same hash asks caller setting keys c change p (record w { memory = m }) c blocks (counted p removed).0 (counted p removed).1
        by (inl (none, n, stored_is, known, own_is)) =
            stored (record {
              change2 = change;
              facts = (
                refl,
                idle,
                inr (subst (λ (x : Change). AnswersChange same hash asks (record w { memory = m }) caller setting c blocks keys change x (answers.Stored p.own)) (sym stored_is) (known, own_is)),
              );
              changes = inl (refl, refl);
              beside = λ other. inl refl;
              answers = λ answer answered fresh stays. absurd (cc (stored_is, stays));
              tells = λ answer answered fresh changed. stored_tells n stored_is known own_is answer (answered_same (answers.Stored p.own) answer answered);
            }) none
        by (inr (n, t, borrowed, removed_is, left, word_is, entered, out)) =
            disposes (record {
              change2 = change;
              facts = record {
                setting_is = f.setting_is;
                may = f.may;
                code = f.code;
                class = f.class;
                unchanged = λ h. absurd h;
                idle = λ h. idle;
                point = (
                  dispose_begins hash fits (record w { memory = m }) caller setting c blocks n t removed borrowed word_is p.trial.table entered left out,
                  subst (λ (x : Change). AnswersChange same hash asks (record w { memory = m }) caller setting c blocks keys change x (answers.Removed removed)) (sym removed_is)
                      ((left.0, left.1), borrowed, word_is),
                );
              };
              changes = inl (refl, refl);
              beside = λ other. inl refl;
              answers = λ answer answered fresh stays. absurd answered;
              tells = λ answer answered fresh changed. absurd answered;
            })
            (let large = pair_word-large blocks.pair (λ o. byte_of hash (c.key o)) n Still borrowed (map.map.shows.pair_numbers n left.0 left.1).0 in omega (arith, word_is, large))

    pub went_counts : (m2 : Mem (Node K V)) (end : KeyCall K V Q × Called (Node K V)) → Steps Took value_at w.memory (counts p removed) m2 end
        → CallWent same hash asks caller setting keys w c blocks map change p f m2 end
    went_counts m2 end steps =
        let d = added w.memory (λ out. Now (counted p removed)) (Word p.setting.counter (bit_and p.setting.slot p.setting.mask)) (count_change removed) m2 end steps in
        by_end same hash asks caller setting keys w c blocks map change p f m2 end (counted p removed) d.3
        (went_counted same hash caller setting p.setting f.setting_is w c blocks map (count_change removed) d.0 d.1 m2 d.2
        (λ w2 c2 blocks2. CallOutcome same hash asks caller setting keys c change p w2 c2 blocks2 (counted p removed).0 (counted p removed).1) told)
