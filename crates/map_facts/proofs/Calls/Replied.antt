-- What a call keeps of what it was told, as a value goes into its own block, and comes out of it.
use Rattle.std.specs.Prelude.{◌≡◌, ◌≢◌, ℕ, ◌==◌, Bool, true, false, Some, None, if◌then◌else◌}
use Rattle.std.proofs.Common.{refl}
use Rattle.papaya_raw.specs.Replies.{value_replied, owned, value_for, as_own, back, back_present, with_back}
use Rattle.papaya_raw.specs.declared.machines.asking.Replies.{Replies}
use Rattle.papaya_raw.specs.declared.machines.asking.Takes.TheVariants as takes
use Rattle.papaya_raw.specs.declared.machines.asking.Told.{Told}
use Rattle.papaya_raw.specs.declared.machines.asking.Told.TheVariants as tells
use Rattle.map_facts.specs.FactsCalls.{RepliesFit}

module _ {V : Type 0} where
  -- a value that was told stands apart from any block
  told_value : (told : Told V) (v : V) → value_replied told ≡ Some v → told ≢ tells.Own
  told_value tells.Nothing v e own = cc own
  told_value (tells.Value x) v e own = cc own
  told_value tells.Own v e own = cc e
  told_value tells.Removes v e own = cc e

  owned_value : (told : Told V) (v : V) → value_replied told ≡ Some v → owned told ≡ tells.Own
  owned_value tells.Nothing v e = absurd (cc e)
  owned_value (tells.Value x) v e = refl
  owned_value tells.Own v e = absurd (cc e)
  owned_value tells.Removes v e = absurd (cc e)

module _ {K V : Type 0} (r : Replies K V) (fit : RepliesFit r) where
  module _ (key : K) (value : V) where
    -- the key and the value of its own block are out of it
    pub record IsBack (x : Replies K V) : Type 0 where
      pub fits : RepliesFit x
      pub key_is : x.key ≡ Some key
      pub takes_is : x.takes ≡ r.takes
      pub told : (word : ℕ) (v : V) → value_for r word ≡ Some v → value_for x word ≡ Some v

    value_by : (b : Bool) (absent present absent2 present2 : Told V) (v : V) → (value_replied absent ≡ Some v → value_replied absent2 ≡ Some v) → (value_replied present ≡ Some v → value_replied present2 ≡ Some v)
        → value_replied (if b then absent else present) ≡ Some v → value_replied (if b then absent2 else present2) ≡ Some v
    value_by true absent present absent2 present2 v f g = f
    value_by false absent present absent2 present2 v f g = g

    none_own : (told : Told V) (v : V) → told ≡ tells.Own → value_replied told ≡ Some v → ⊥
    none_own told v own e = told_value told v e own

    of_present : r.absent ≢ tells.Own → (present : Told V) → r.present ≡ present → IsBack (back_present present (record r { key = Some key }) value)
    of_present other tells.Own e = record {
      fits = record {
        absent_own = λ own. absurd (other own);
        present_own = λ own. absurd (cc own);
        one_own = λ own. absurd (other own);
        absent_stays = fit.absent_stays;
        choices_stay = λ choices. absurd (let none = fit.choices_stay choices in cc (none, e));
      };
      key_is = refl;
      takes_is = refl;
      told = λ word v. value_by (word == 0) r.absent r.present r.absent (tells.Value value) v (λ h. h) (λ h. absurd (none_own r.present v e h));
    }
    of_present other tells.Nothing e = kept other (λ own. cc (own, e))
      where
        kept : r.absent ≢ tells.Own → r.present ≢ tells.Own → IsBack (record r { key = Some key })
        kept a p = record {
          fits = record { absent_own = λ own. absurd (a own); present_own = λ own. absurd (p own); one_own = λ own. absurd (a own); absent_stays = fit.absent_stays; choices_stay = fit.choices_stay };
          key_is = refl;
          takes_is = refl;
          told = λ word v h. h;
        }
    of_present other (tells.Value x) e = record {
      fits = record {
        absent_own = λ own. absurd (other own);
        present_own = λ own. absurd (cc (own, e));
        one_own = λ own. absurd (other own);
        absent_stays = fit.absent_stays;
        choices_stay = fit.choices_stay;
      };
      key_is = refl;
      takes_is = refl;
      told = λ word v h. h;
    }
    of_present other tells.Removes e = record {
      fits = record {
        absent_own = λ own. absurd (other own);
        present_own = λ own. absurd (cc (own, e));
        one_own = λ own. absurd (other own);
        absent_stays = fit.absent_stays;
        choices_stay = fit.choices_stay;
      };
      key_is = refl;
      takes_is = refl;
      told = λ word v h. h;
    }

    of_absent : (absent : Told V) → r.absent ≡ absent → IsBack (back absent (record r { key = Some key }) value)
    of_absent tells.Own e = record {
      fits = record {
        absent_own = λ own. absurd (cc own);
        present_own = λ own. absurd (fit.one_own e own);
        one_own = λ own. absurd (cc own);
        absent_stays = λ removes. cc removes;
        choices_stay = fit.choices_stay;
      };
      key_is = refl;
      takes_is = refl;
      told = λ word v. value_by (word == 0) r.absent r.present (tells.Value value) r.present v (λ h. absurd (none_own r.absent v e h)) (λ h. h);
    }
    of_absent tells.Nothing e = of_present (λ own. cc (own, e)) r.present refl
    of_absent (tells.Value x) e = of_present (λ own. cc (own, e)) r.present refl
    of_absent tells.Removes e = of_present (λ own. cc (own, e)) r.present refl

    pub is_back : IsBack (with_back r key value)
    is_back = of_absent r.absent refl

  -- its own block is to have the value that it was told for a word
  pub owns : (key : K) → r.key ≡ Some key → r.takes ≢ takes.Choices → (word : ℕ) (v : V) → value_for r word ≡ Some v → RepliesFit (record (as_own r word) { key = None }) × ((as_own r word).takes ≡ r.takes)
  owns key out other word v told = by (word == 0) told
    where
      by : (b : Bool) → value_replied (if b then r.absent else r.present) ≡ Some v
          → RepliesFit (record (if b then record r { absent = owned r.absent } else record r { present = owned r.present }) { key = None })
          × ((if b then record r { absent = owned r.absent } else record r { present = owned r.present }).takes ≡ r.takes)
      by true e = (
        record {
          absent_own = λ own. refl;
          present_own = λ own. refl;
          one_own = λ own present. absurd (let none = fit.present_own present in cc (none, out));
          absent_stays = λ removes. (let own = owned_value r.absent v e in cc (own, removes));
          choices_stay = fit.choices_stay;
        },
        refl,
      )
      by false e = (
        record {
          absent_own = λ own. refl;
          present_own = λ own. refl;
          one_own = λ own. absurd (let none = fit.absent_own own in cc (none, out));
          absent_stays = fit.absent_stays;
          choices_stay = λ choices. absurd (other choices);
        },
        refl,
      )
