-- What is promised of each step of a call, and of its first one.
use Rattle.std.specs.Prelude.{◌≡◌, ◌≢◌, ℕ, ◌^◌, ◌<◌, Bool, true, Option, Some, None}
use Rattle.std.proofs.Common.{refl, sym, subst, inl, arith}
use Rattle.papaya_raw.specs.CallPoints.{getting, removing, inserting, trying_to_insert}
use Rattle.map_rule.specs.Maps.{IsClass}
use Rattle.papaya_raw.specs.CallAsks.{computing, updating, updating_or_inserting, trying_to_insert_with}
use Rattle.papaya_raw.specs.Replies.{untold, silent}
use Rattle.papaya_raw.specs.declared.machines.asking.Takes.{Takes}
use Rattle.papaya_raw.specs.declared.machines.asking.Takes.TheVariants as takes
use Rattle.papaya_raw.specs.declared.machines.asking.Told.{Told}
use Rattle.papaya_raw.specs.declared.machines.asking.Told.TheVariants as tells
use Rattle.papaya_raw.specs.declared.machines.call.KeyCall.{KeyCall}
use Rattle.papaya_raw.specs.declared.machines.call.Calling.{Calling}
use Rattle.papaya_raw.specs.declared.machines.call.Calling.TheVariants as at
use Rattle.map_facts.specs.FactsCalls.{Unchanged, MayAsk, RepliesFit, HasKey, HasIts, CallingFacts}
use Rattle.map_facts.specs.Steps.{AreLawful, LookupsBegin, LookupsTell, CallsPreserveTheMap, Begins, CallsBegin, AskingCallsBegin, first_reply}
use Rattle.map_facts.proofs.Calls.Points.{may_call, went_call}
use Rattle.map_facts.proofs.Lookups.Points.{may_lookup, went_lookup}

module _ {K : Type 0} (same : K → K → Bool) (hash : K → ℕ) where
  pub lookups_begin : LookupsBegin same hash
  lookups_begin mode root keys code c blocks = record { root_is = refl; mode_is = refl; hash_is = refl; point = tt }

  -- keys of one class have one hash
  hash_same : AreLawful same hash → (k other : K) → same k other ≡ true → hash k ≡ hash other
  hash_same are k other e =
      let spots = are.lawful.respects (2 ^ 64) 0 k other e in
      let one = are.fits k in
      let two = are.fits other in
      omega (arith, spots, one, two)

  class_of : AreLawful same hash → (key : K) → IsClass same hash (same key) (hash key)
  class_of are key = record {
    hashes = λ k e. sym (hash_same are key k e);
    one = λ k other e. are.lawful.classes.congr key k other e;
  }

module _ {K : Type 0} (V : Type 0) (same : K → K → Bool) (hash : K → ℕ) where
  pub lookups_tell : LookupsTell V same hash
  lookups_tell are mode root keys code m c blocks l class map facts = (
    may_lookup same hash are.lawful are.fits mode root keys code class m c blocks map l facts,
    λ m2 end s. went_lookup same hash are.lawful are.fits mode root keys code class m c blocks map l facts m2 end s,
  )

-- a call that never asks was told nothing
pub silent_fits : {K V : Type 0} → RepliesFit (silent {K = K} {V = V})
silent_fits = record { absent_own = λ own. absurd (cc own); present_own = λ own. absurd (cc own); one_own = λ own. absurd (cc own); absent_stays = λ removes. cc removes; choices_stay = λ choices. refl }

-- one that asks knows at most what is to be stored where its key is missing
untold_fits : {K V : Type 0} (absent : Told V) (kind : Takes) (key : Option K) → absent ≢ tells.Own → absent ≢ tells.Removes → RepliesFit (untold kind key absent)
untold_fits absent kind key own removes = record { absent_own = λ e. absurd (own e); present_own = λ e. absurd (cc e); one_own = λ e. absurd (own e); absent_stays = removes; choices_stay = λ choices. refl }

first_own : {V : Type 0} (absent : Option V) → first_reply absent ≢ tells.Own
first_own None e = cc e
first_own (Some value) e = cc e

first_removes : {V : Type 0} (absent : Option V) → first_reply absent ≢ tells.Removes
first_removes None e = cc e
first_removes (Some value) e = cc e

module _ {K Q : Type 0} (V : Type 0) (same : K → K → Bool) (hash : K → ℕ) (asks : Q → K → Bool) where
  pub calls_begin : CallsBegin V same hash asks
  calls_begin are setting w caller c blocks idle = (asked, stored)
    where
      asked : (q : Q) (code : ℕ) → code < 2 ^ 64 → IsClass same hash (asks q) code
          → Begins V same hash asks setting w caller c blocks (asks q) (getting setting code q) × Begins V same hash asks setting w caller c blocks (asks q) (removing setting code q)
      asked q code few class = (
        record {
          setting_is = refl;
          may = (tt, silent_fits);
          code = few;
          class = class;
          unchanged = λ h. refl;
          idle = λ h. idle;
          point = (refl, refl, refl, q, refl, λ k. refl, lookups_begin same hash setting.mode setting.root (asks q) code c blocks);
        },
        record { setting_is = refl; may = (tt, silent_fits); code = few; class = class; unchanged = λ h. refl; idle = λ h. idle; point = (refl, q, refl, λ k. refl) },
      )

      stored : (key : K) (value : V)
          → Begins V same hash asks setting w caller c blocks (same key) (inserting setting (hash key) key value)
          × Begins V same hash asks setting w caller c blocks (same key) (trying_to_insert setting (hash key) key value)
      stored key value = (
        record {
          setting_is = refl;
          may = (tt, silent_fits);
          code = are.fits key;
          class = class_of same hash are key;
          unchanged = λ h. refl;
          idle = λ h. idle;
          point = (refl, refl, refl, key, value, refl, λ k. refl, refl, refl, refl);
        },
        record {
          setting_is = refl;
          may = (tt, silent_fits);
          code = are.fits key;
          class = class_of same hash are key;
          unchanged = λ h. refl;
          idle = λ h. idle;
          point = (refl, refl, refl, key, value, refl, λ k. refl, refl, refl, refl);
        },
      )

  pub asking_calls_begin : AskingCallsBegin V same hash asks
  asking_calls_begin are setting w caller c blocks idle = (
    (λ q code few class. record {
      setting_is = refl;
      may = (tt, untold_fits tells.Nothing takes.Choices None (λ e. cc e) (λ e. cc e));
      code = few;
      class = class;
      unchanged = λ h. refl;
      idle = λ h. idle;
      point = (refl, q, refl, λ k. refl);
    }),
    (λ key absent. (
      begins key (computing setting (hash key) key) refl refl (are.fits key) (class_of same hash are key) (tt, untold_fits tells.Nothing takes.Changes (Some key) (λ e. cc e) (λ e. cc e)) (refl, inl (refl, its_key key)),
      begins key (updating setting (hash key) key) refl refl (are.fits key) (class_of same hash are key) (tt, untold_fits tells.Nothing takes.Values (Some key) (λ e. cc e) (λ e. cc e)) (refl, inl (refl, its_key key)),
      begins key (updating_or_inserting setting (hash key) key (first_reply absent)) refl refl (are.fits key) (class_of same hash are key) (tt, untold_fits (first_reply absent) takes.Values (Some key) (first_own absent) (first_removes absent)) (refl, inl (refl, its_key key)),
      begins key (trying_to_insert_with setting (hash key) key) refl refl (are.fits key) (class_of same hash are key) (tt, untold_fits tells.Nothing takes.Values (Some key) (λ e. cc e) (λ e. cc e)) (refl, inl (refl, its_key key)),
    )),
  )
    where
      its_key : (key : K) → HasKey same hash asks w caller setting c blocks (same key) Unchanged (Some key) (hash key)
      its_key key = record { key = key; key_is = refl; keys_are = λ k. refl; code_is = refl }

      begins : (key : K) (p : KeyCall K V Q) → p.setting ≡ setting → p.stands ≡ at.Roots → p.hash < 2 ^ 64 → IsClass same hash (same key) p.hash → MayAsk p
          → HasIts same hash asks w caller setting c blocks (same key) Unchanged p → Begins V same hash asks setting w caller c blocks (same key) p
      begins key p setting_is here few class may its = record {
        setting_is = setting_is;
        may = may;
        code = few;
        class = class;
        unchanged = λ h. refl;
        idle = λ h. idle;
        point = subst (λ (s : Calling). CallingFacts same hash asks w caller setting c blocks (same key) Unchanged p s) (sym here) its;
      }

  pub calls_keep_the_map : CallsPreserveTheMap V same hash asks
  calls_keep_the_map are setting initial_is w caller c blocks keys change p map facts none = (
    may_call same hash asks are.lawful are.fits setting initial_is w caller c blocks keys map change p facts none,
    λ m2 p2 progress s. went_call same hash asks are.lawful are.fits setting initial_is w caller c blocks keys map change p facts m2 (p2, progress) none s,
  )
