-- What a call has of its own, and the pairs that its words name, last over steps of others, in either mode.
use Rattle.std.specs.Prelude.{ℕ, Bool, false, Option}
use Rattle.std.proofs.Common.{refl, sym, subst, ◌∙◌, inl, inr}
use Rattle.map_facts.specs.Given.SeizeWorld.{World}
use Rattle.map_facts.specs.Given.TablesDeclared.node.Node.{Node}
use Rattle.map_facts.specs.Given.TablesDeclared.setting.Setting.{Setting}
use Rattle.map_facts.specs.Given.TablesDeclared.table.Table.{Table}
use Rattle.map_facts.specs.Given.RawDeclared.machines.answer.KeyAnswer.{KeyAnswer}
use Rattle.map_facts.specs.Given.RawDeclared.machines.answer.KeyAnswer.TheVariants as answers
use Rattle.map_facts.specs.Given.RawDeclared.machines.call.KeyCall.{KeyCall}
use Rattle.map_facts.specs.Given.RuleChart.{Chart}
use Rattle.map_facts.specs.Given.RuleWords.{Blocks}
use Rattle.map_facts.specs.Given.RuleMaps.{IsTable}
use Rattle.map_facts.specs.Given.RuleInWorld.{IsHeldBy, IsMapIn}
use Rattle.map_facts.specs.FactsCalls.{Change, Unchanged, Stored, Replaced, Removed, Holding, Apart, InBlock, ByReply, holding, IsOwnPair, IsVacant, HasKey, HasOwn, HasIts, IsToFill, NamesPair, MayReplace, MayTry, IsKnown, AnswersChange}
use Rattle.map_facts.specs.Others.{OthersStep}
use Rattle.map_facts_late.proofs.Known.Pairs.{word_here}
use Rattle.map_facts_late.proofs.Known.Tables.{stored_on, key_on, table_on}

module _ {K V Q : Type 0} (same : K → K → Bool) (hash : K → ℕ) (asks : Q → K → Bool) (setting : Setting) (caller : ℕ) (w w2 : World (Node K V)) (c c2 : Chart K)
    (blocks blocks2 : Blocks) (map : IsMapIn same hash setting w c blocks) (others : OthersStep same hash setting caller w c blocks w2 c2 blocks2)
    (keys : K → Bool) (change : Change) where
  pub table_here : (table : Table) (t : ℕ) → IsTable c blocks table t → IsTable c2 blocks2 table t
  table_here = table_on same hash setting caller w w2 c c2 blocks blocks2 others

  -- its own pair
  pub own_here : (own code : ℕ) → IsOwnPair same hash asks w caller setting c blocks keys change own code → IsOwnPair same hash asks w2 caller setting c2 blocks2 keys change own code
  own_here own code h =
      let kept = others.own.blocks h.block _ h.there (λ e. absurd (cc e)) (subst (IsHeldBy caller) (sym h.hand) refl) in
      record {
        block = h.block;
        key = h.key;
        value = h.value;
        number = h.number;
        word_is = h.word_is;
        hand = kept.0 ∙ h.hand;
        there = kept.1;
        keys_are = h.keys_are;
        code_is = h.code_is;
      }

  -- its block, which its pair is out of
  pub vacant_here : (own code : ℕ) → IsVacant same hash asks w caller setting c blocks keys change own code → IsVacant same hash asks w2 caller setting c2 blocks2 keys change own code
  vacant_here own code h =
      let kept = others.own.blocks h.block _ h.there (λ e. absurd (cc e)) (subst (IsHeldBy caller) (sym h.hand) refl) in
      record { block = h.block; number = h.number; word_is = h.word_is; hand = kept.0 ∙ h.hand; there = kept.1 }

  key_here : (out : Option K) (code : ℕ) → HasKey same hash asks w caller setting c blocks keys change out code → HasKey same hash asks w2 caller setting c2 blocks2 keys change out code
  key_here out code h = record { key = h.key; key_is = h.key_is; keys_are = h.keys_are; code_is = h.code_is }

  has_own_here : (x : Holding) (asked : Option Q) (key : Option K) (own code : ℕ) → HasOwn same hash asks w caller setting c blocks keys change x asked key own code
      → HasOwn same hash asks w2 caller setting c2 blocks2 keys change x asked key own code
  has_own_here InBlock asked key own code h = (h.0, h.1, own_here own code h.2)
  has_own_here Apart asked key own code h = h
  has_own_here ByReply asked key own code (none, inl h) = (none, inl (h.0, key_here key code h.1))
  has_own_here ByReply asked key own code (none, inr h) = (none, inr (h.0, own_here own code h.1))

  pub its_here : (p : KeyCall K V Q) → HasIts same hash asks w caller setting c blocks keys change p → HasIts same hash asks w2 caller setting c2 blocks2 keys change p
  its_here p = has_own_here (holding p.replies.takes p.missing) p.asked p.replies.key p.own p.hash

  pub to_fill_here : (p : KeyCall K V Q) → IsToFill same hash asks w caller setting c blocks keys change p → IsToFill same hash asks w2 caller setting c2 blocks2 keys change p
  to_fill_here p (inl its) = inl (its_here p its)
  to_fill_here p (inr h) = inr (h.0, vacant_here p.own p.hash h.1, key_here p.replies.key p.hash h.2)

  -- a pair that a word names
  pub names_here : (word : ℕ) → NamesPair same hash asks w caller setting c blocks keys change word → NamesPair same hash asks w2 caller setting c2 blocks2 keys change word
  names_here word h = (
    h.0,
    h.1,
    h.2,
    stored_on same hash setting caller w w2 c c2 blocks blocks2 others h.0 h.3,
    (others.pairs h.0 h.3 h.4).1,
    key_on same hash setting caller w w2 c c2 blocks blocks2 others h.0 h.3 ∙ h.5,
    h.6,
    word_here same hash setting caller w w2 c c2 blocks blocks2 map others h.0 h.3 h.4 h.2 word h.7,
  )

  pub replaces_here : (word : ℕ) → MayReplace same hash asks w caller setting c blocks keys change word → MayReplace same hash asks w2 caller setting c2 blocks2 keys change word
  replaces_here word (inl empty) = inl empty
  replaces_here word (inr names) = inr (names_here word names)

  pub may_try_here : (p : KeyCall K V Q) (word new : ℕ) → MayTry same hash asks w caller setting c blocks keys change p word new → MayTry same hash asks w2 caller setting c2 blocks2 keys change p word new
  may_try_here p word new (inl h) = inl (h.0, own_here p.own p.hash h.1, replaces_here word h.2)
  may_try_here p word new (inr h) = inr (h.0, h.1, names_here word h.2)

  pub known_here : (n : ℕ) → IsKnown same hash asks w caller setting c blocks keys change n → IsKnown same hash asks w2 caller setting c2 blocks2 keys change n
  known_here n h = (stored_on same hash setting caller w w2 c c2 blocks blocks2 others n h.0, (others.pairs n h.0 h.1).1)

  pub tells_here : (it : Change) (answer : KeyAnswer) → AnswersChange same hash asks w caller setting c blocks keys change it answer → AnswersChange same hash asks w2 caller setting c2 blocks2 keys change it answer
  tells_here (Stored n) (answers.Stored word) h = (known_here n h.0, word_here same hash setting caller w w2 c c2 blocks blocks2 map others n h.0.0 h.0.1 false word h.1)
  tells_here (Replaced o n) (answers.Replaced old new) h =
      (known_here o h.0, known_here n h.1, h.2, word_here same hash setting caller w w2 c c2 blocks blocks2 map others o h.0.0 h.0.1 h.2 old h.3, word_here same hash setting caller w w2 c c2 blocks blocks2 map others n h.1.0 h.1.1 false new h.4)
  tells_here (Removed n) (answers.Removed word) h = (known_here n h.0, h.1, word_here same hash setting caller w w2 c c2 blocks blocks2 map others n h.0.0 h.0.1 h.1 word h.2)
  tells_here (Stored n) answers.Absent h = absurd h
  tells_here (Stored n) (answers.Found word) h = absurd h
  tells_here (Stored n) (answers.Replaced old new) h = absurd h
  tells_here (Stored n) (answers.Removed word) h = absurd h
  tells_here (Replaced o n) answers.Absent h = absurd h
  tells_here (Replaced o n) (answers.Found word) h = absurd h
  tells_here (Replaced o n) (answers.Stored word) h = absurd h
  tells_here (Replaced o n) (answers.Removed word) h = absurd h
  tells_here (Removed n) answers.Absent h = absurd h
  tells_here (Removed n) (answers.Found word) h = absurd h
  tells_here (Removed n) (answers.Stored word) h = absurd h
  tells_here (Removed n) (answers.Replaced old new) h = absurd h
  tells_here Unchanged answer h = absurd h
