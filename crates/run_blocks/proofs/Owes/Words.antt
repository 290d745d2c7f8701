-- What a step of a machine does to the word of its own block for a pair.
use Rattle.std.specs.Prelude.{◌≡◌, ◌≢◌, ◌≤◌, ℕ, Bool, Option, Some, if◌then◌else◌}
use Rattle.std.proofs.Common.{ap, sym, subst, ◌∙◌, arith, inl, inr}
use Rattle.std.proofs.lemmas.Bool.{ne_eqb}
use Rattle.run_debts.specs.Given.SeizeWordsMem.{Mem}
use Rattle.run_debts.specs.Given.SeizeWordsWord.{block_in}
use Rattle.run_debts.specs.Given.TablesDeclared.node.Node.{Node}
use Rattle.run_debts.specs.Given.TablesDeclared.node.Node.TheVariants as node
use Rattle.owner_calls.specs.Given.ResizeDeclared.new_table.NewTable.{NewTable}
use Rattle.owner_calls.specs.Given.RawCall.{call_plan}
use Rattle.run_debts.specs.Given.RawDeclared.machines.answer.Called.{Called}
use Rattle.run_debts.specs.Given.RawDeclared.machines.call.KeyCall.{KeyCall}
use Rattle.run_debts.specs.Given.TellerChanged.{kind_of}
use Rattle.run_debts.specs.Given.TellerTells.{StepsObserved}
use Rattle.run_debts.specs.Given.EffectsDeclared.changed.Changed.{Changed}
use Rattle.run_debts.specs.Given.EffectsDeclared.changed.Changed.TheVariants as changed
use Rattle.run_debts.specs.Given.EffectsDeclared.changed.Kind.{Kind}
use Rattle.run_debts.specs.Given.EffectsDeclared.changed.Kind.TheVariants as kind
use Rattle.owner_calls.specs.Holds.Came.{Owns}
use Rattle.run_blocks.specs.Owes.Making.{making_in_calling}
use Rattle.run_blocks.proofs.Owes.Own.{NoneMade, OwnGoes, HasIt, MadeIt, TookIt, own_goes}
use Rattle.run_blocks.proofs.Owes.Planned.{HasPlaces}
use Rattle.run_blocks.proofs.Owes.Walks.{IsToMake, plan_made, call_makes}

module _ (told : Changed) where
  -- no block for a pair was made
  abbrev pub NoPairMade : Type 0
  NoPairMade = (b : ℕ) → told ≡ changed.Made kind.Pair b → ⊥

  -- The word is as it was, and no block for a pair was made; or it names a block now that was made; or its block was taken away.
  pub data WordGoes (word word2 : ℕ) : Type 0 where
    KeepsWord : word2 ≡ word → NoPairMade → WordGoes word word2
    NewWord : (k : Kind) (b : ℕ) → told ≡ changed.Made k b → word ≡ 0 → word2 ≢ 0 → block_in word2 ≡ b → WordGoes word word2
    LosesWord : told ≡ changed.Took (block_in word) → WordGoes word word2

-- a table that has places is none for a pair
places_kind : (K V : Type 0) (len limit turn : ℕ) → 8 ≤ len → kind_of {K = K} {V = V} (node.Table len limit turn) ≡ kind.Pair → ⊥
places_kind K V len limit turn has is =
    absurd (let table : kind_of {K = K} {V = V} (node.Table len limit turn) ≡ kind.Table len limit turn =
    ap (λ (q : Bool). if q then kind.Pair else kind.Table len limit turn) (ne_eqb len 0 (λ z. omega (arith, has, z))) in cc (table, is))

module _ {K V : Type 0} where
  pub none_for_pair : (o : Option NewTable) (value : Node K V) → IsToMake o value → ((n : NewTable) → o ≡ Some n → HasPlaces n.stands) → kind_of value ≡ kind.Pair → ⊥
  none_for_pair o value (n, table, o_is, stands, value_is) has is =
      places_kind K V table.len table.limit table.turn (subst HasPlaces stands (has n o_is)) (ap kind_of (sym value_is) ∙ is)

  module _ (asks : K → K → Bool) (same : K → K → Bool) (hash : K → ℕ) (p : KeyCall K V K) (o : Owns p) (m m2 : Mem (Node K V)) (told : Changed) (e : KeyCall K V K × Called (Node K V))
      (has : (n : NewTable) → making_in_calling p.stands ≡ Some n → HasPlaces n.stands) where
    pub call_word : StepsObserved K V (KeyCall K V K × Called (Node K V)) m changed.Nothing (call_plan asks same hash p) m2 told e → WordGoes told p.own e.0.own
    call_word s = by (own_goes p o m m2 told asks same hash e s)
      where
        by : OwnGoes p o m m2 told e.0 → WordGoes told p.own e.0.own
        by (HasIt is none) = KeepsWord is (λ b made. elim (call_makes asks same hash p) as (λ _. ⊥) [
          | inl its ↦ subst NoneMade made (none its)
          | inr so ↦ (let it = plan_made (making_in_calling p.stands) m m2 told (call_plan asks same hash p) e s so kind.Pair b made in none_for_pair (making_in_calling p.stands) it.0 it.1 has it.2)
        ])
        by (MadeIt k b is none some names) = NewWord k b is none some names
        by (TookIt is) = LosesWord is
