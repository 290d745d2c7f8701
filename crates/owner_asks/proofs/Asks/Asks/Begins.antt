-- Calls that ask, as one owner begins them.
use Rattle.std.specs.Prelude.{◌≡◌, ◌≢◌, ℕ, ◌<◌, ◌^◌, Bool, true, [], Option, Some, None}
use Rattle.std.proofs.Common.{refl, sym, ◌∙◌, ap, subst, inl, inr}
use Rattle.seize_words.specs.OneMemory.Mem.{Mem}
use Rattle.map_tables.specs.declared.node.Node.{Node}
use Rattle.map_tables.specs.declared.setting.Setting.{Setting}
use Rattle.papaya_raw.specs.CallAsks.{computing, updating, updating_or_inserting, trying_to_insert_with, removing_if}
use Rattle.papaya_raw.specs.declared.machines.asking.Takes.TheVariants as takes
use Rattle.papaya_raw.specs.declared.machines.asking.Told.TheVariants as tells
use Rattle.papaya_raw.specs.declared.machines.call.KeyCall.{KeyCall}
use Rattle.owner_calls.specs.Given.RuleMaps.{IsClass}
use Rattle.owner_calls.specs.Given.PointsSteps.{AreLawful}
use Rattle.owner_calls.specs.Given.AloneCounted.{counted_at}
use Rattle.owner_calls.specs.Given.LateKinds.{MayPut, IsFit}
use Rattle.owner_calls.specs.Given.CallersKind.{Kind, computes, updates, updates_or_inserts, tries_to_insert_with, removes_if}
use Rattle.owner_calls.specs.Given.CallersPairs.{Given, Begun, IsTold}
use Rattle.owner_calls.specs.Given.CallersTogether.{IsBegun, Gets, Removes, Inserts, TriesToInsert, Computes, Updates, UpdatesOrInserts, TriesToInsertWith, RemovesIf}
use Rattle.owner_asks.proofs.Asks.Asks.Undisturbed.{Undisturbed}

module _ {K V Q : Type 0} (same : K → K → Bool) (hash : K → ℕ) (asks : Q → K → Bool) (setting : Setting) (slot : ℕ → ℕ) (lawful : AreLawful same hash) where
  -- what is so of a call that asks, as it begins
  pub record BeginsSo (kind : Kind) (its : Option K) (keys : K → Bool) (call : KeyCall K V Q) : Type 0 where
    pub counted : counted_at call.stands ≡ 0
    pub fit : IsFit kind.present kind.absent kind.takes call
    pub undisturbed : (m : Mem (Node K V)) → Undisturbed its None None true m call
    pub one : (i j : K) → keys i ≡ true → keys j ≡ same i j
    pub named : MayPut kind.present kind.absent kind.takes → (k : K) × ((j : K) → keys j ≡ same k j)
    pub has_key : kind.takes ≢ takes.Choices → (k : K) × (its ≡ Some k)

  abbrev BeginsWith : (K → Bool) → Given K V → KeyCall K V Q → Type 0
  BeginsWith keys (Begun kind pair) call = Unit {0}
  BeginsWith keys (IsTold kind its asked) call = asked ≡ [] → BeginsSo kind its keys call

  begins_with : (keys : K → Bool) (given : Given K V) (call : KeyCall K V Q) → IsBegun V same hash asks setting slot 0 keys given call → BeginsWith keys given call
  begins_with _ _ _ (Gets q code fits class) = tt
  begins_with _ _ _ (Removes q code fits class) = tt
  begins_with _ _ _ (Inserts key value) = tt
  begins_with _ _ _ (TriesToInsert key value) = tt
  begins_with _ _ _ (Computes key) = λ e. record {
    counted = refl;
    fit = (refl, refl, record { takes_is = refl; removes = λ e. absurd (cc e); choices = λ e. absurd (cc e) }, (λ e. absurd (cc e)), (λ present absent. cc present));
    undisturbed = λ m. record { present = tt; absent = tt; point = (refl, (refl, refl, refl, refl)) };
    one = λ i j is. lawful.lawful.classes.congr key i j is;
    named = λ may. (key, λ j. refl);
    has_key = λ other. (key, refl);
  }
  begins_with _ _ _ (Updates key) = λ e. record {
    counted = refl;
    fit = (refl, refl, record { takes_is = refl; removes = λ e. absurd (cc e); choices = λ e. absurd (cc e) }, (λ e. absurd (cc e)), (λ present absent. cc present));
    undisturbed = λ m. record { present = tt; absent = tt; point = (refl, (refl, refl, refl, refl)) };
    one = λ i j is. lawful.lawful.classes.congr key i j is;
    named = λ may. (key, λ j. refl);
    has_key = λ other. (key, refl);
  }
  begins_with _ _ _ (UpdatesOrInserts key None) = λ e. record {
    counted = refl;
    fit = (refl, refl, record { takes_is = refl; removes = λ e. absurd (cc e); choices = λ e. absurd (cc e) }, (λ e. absurd (cc e)), (λ present absent. cc present));
    undisturbed = λ m. record { present = tt; absent = tt; point = (refl, (refl, refl, refl, refl)) };
    one = λ i j is. lawful.lawful.classes.congr key i j is;
    named = λ may. (key, λ j. refl);
    has_key = λ other. (key, refl);
  }
  begins_with _ _ _ (UpdatesOrInserts key (Some value)) = λ e. absurd (cc e)
  begins_with _ _ _ (TriesToInsertWith key) = λ e. record {
    counted = refl;
    fit = (refl, refl, record { takes_is = refl; removes = λ e. absurd (cc e); choices = λ e. absurd (cc e) }, (λ e. absurd (cc e)), (λ present absent. cc absent));
    undisturbed = λ m. record { present = tt; absent = tt; point = (refl, (refl, refl, refl, refl)) };
    one = λ i j is. lawful.lawful.classes.congr key i j is;
    named = λ may. (key, λ j. refl);
    has_key = λ other. (key, refl);
  }
  begins_with _ _ _ (RemovesIf q code fits class) = λ e. record {
    counted = refl;
    fit = (refl, refl, record { takes_is = refl; removes = λ e. absurd (cc e); choices = λ e. refl }, (λ e. absurd (cc e)), (λ present absent. cc present));
    undisturbed = λ m. record { present = tt; absent = tt; point = (refl, (refl, refl, refl, refl)) };
    one = class.one;
    named = λ may. absurd (elim may as (λ _. ⊥) [ inl p ↦ cc p | inr p ↦ cc p ]);
    has_key = λ other. absurd (other refl);
  }

  pub begins_so : (kind : Kind) (its : Option K) (keys : K → Bool) (call : KeyCall K V Q) → IsBegun V same hash asks setting slot 0 keys (IsTold kind its []) call → BeginsSo kind its keys call
  begins_so kind its keys call begun = begins_with keys (IsTold kind its []) call begun refl

-- the calls that are begun with a key
module _ {K V : Type 0} (same : K → K → Bool) (hash : K → ℕ) (setting : Setting) (key : K) (code : ℕ) (is : code ≡ hash key) (call : KeyCall K V K) where
  abbrev BeginsAs : Kind → Type 0
  BeginsAs kind = IsBegun V same hash same setting (λ i. setting.slot) 0 (same key) (IsTold kind (Some key) []) call

  pub computes_so : call ≡ computing setting code key → BeginsAs computes
  computes_so e = subst (IsBegun V same hash same setting (λ i. setting.slot) 0 (same key) (IsTold computes (Some key) [])) (sym (e ∙ ap (λ n. computing setting n key) is)) (Computes key)

  pub updates_so : call ≡ updating setting code key → BeginsAs updates
  updates_so e = subst (IsBegun V same hash same setting (λ i. setting.slot) 0 (same key) (IsTold updates (Some key) [])) (sym (e ∙ ap (λ n. updating setting n key) is)) (Updates key)

  pub updates_or_inserts_so : call ≡ updating_or_inserting setting code key tells.Nothing → BeginsAs updates_or_inserts
  updates_or_inserts_so e =
      subst (IsBegun V same hash same setting (λ i. setting.slot) 0 (same key) (IsTold updates_or_inserts (Some key) [])) (sym (e ∙ ap (λ n. updating_or_inserting setting n key tells.Nothing) is))
      (UpdatesOrInserts key None)

  pub inserts_with_so : call ≡ trying_to_insert_with setting code key → BeginsAs tries_to_insert_with
  inserts_with_so e =
      subst (IsBegun V same hash same setting (λ i. setting.slot) 0 (same key) (IsTold tries_to_insert_with (Some key) [])) (sym (e ∙ ap (λ n. trying_to_insert_with setting n key) is)) (TriesToInsertWith key)

-- and with what stands for keys
pub removes_if_so : {K V Q : Type 0} (same : K → K → Bool) (hash : K → ℕ) (asks : Q → K → Bool) (setting : Setting) (q : Q) (code : ℕ) → code < 2 ^ 64 → IsClass same hash (asks q) code
    → (call : KeyCall K V Q) → call ≡ removing_if setting code q → IsBegun V same hash asks setting (λ i. setting.slot) 0 (asks q) (IsTold removes_if None []) call
removes_if_so {K} {V} same hash asks setting q code fits class call e =
    subst (IsBegun V same hash asks setting (λ i. setting.slot) 0 (asks q) (IsTold removes_if None [])) (sym e) (RemovesIf q code fits class)
