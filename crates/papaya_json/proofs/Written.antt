-- What a session has written of what a walk has told it, and what it has stored of what it has read.
use Rattle.std.specs.Prelude.{Bool, List, [], ◌∷◌, Result, Ok, Err, Some, IfErr, IfOk, false, map, string_cmp}
use Rattle.std.specs.BTreeMap.{BTreeMap, IsOrdered, values}
use Rattle.std.specs.List.{FoldsTo}
use Rattle.std.proofs.Common.{◌≡◌, ◌∙◌, ℕ, Global, String, ap, inl, inr, refl, sym, subst}
use Rattle.std.proofs.lemmas.Option.{same_Some}
use Rattle.seize_words.specs.declared.fault.Fault.{Fault}
use Rattle.seize_words.specs.declared.fault.Fault.TheVariants.{Memory}
use Rattle.serde_json.specs.Data.{Data, Items, Members, null, boolean, number, string, array, no_members, object}
use Rattle.serde_json.specs.Find.{as_array, as_object}
use Rattle.serde_json.specs.View.{view}
use Rattle.serde_json.specs.declared.value.Value.{Value}
use Rattle.map_forms.specs.Arrays.{IsArrayOf}
use Rattle.map_forms.specs.Objects.{members_with}
use Rattle.map_forms.proofs.SortedItems.{none_yet, written_of}
use Rattle.map_forms.specs.Growing.{HasItems, PutsItem, PutsMember}
use Rattle.map_forms.proofs.Told.{all_items, all_written}
use Rattle.papaya_json.specs.Json.{AreWrittenAs, IsFilledBy, IsFilledWith, IsWrittenAs, WasNotWritten}
use Rattle.papaya.specs.Given.CallersDeclared.caller.MapCaller.{MapCaller}
use Rattle.papaya.specs.Given.Onlookers.{HasBeenShown}
use Rattle.papaya.specs.Given.SessionsExtended.{PutsAll}
use Rattle.papaya.specs.Given.SessionsOneMap.{MapWasShown, WasRefused}
use Rattle.papaya.specs.Given.Swept.{walks}

module _ {K V S : Type 0} (same : K → K → Bool) (hash : S → K → ℕ) (c n : MapCaller K V S) (Keeps : Type 0) (keeps : Keeps) where
  -- nothing was written where the walk was refused,
  pub refused_so : (end : Result (Unit {0}) Fault) (fault : Fault) → end ≡ Err fault → IfErr end (λ f. WasRefused same hash walks f c n) → Keeps × WasNotWritten same hash fault c n
  refused_so end fault is refused = (keeps, inl (subst (λ (e : Result (Unit {0}) Fault). IfErr e (λ f. WasRefused same hash walks f c n)) is refused))

  -- or it has ended, and memory was refused
  pub not_written : (end : Result (Unit {0}) Fault) (done : Unit {0}) → end ≡ Ok done → IfOk end (λ _. MapWasShown same hash c n) → (r : Result Value Fault) → IfErr r (λ f. f ≡ Memory)
      → IfErr r (λ f. Keeps × WasNotWritten same hash f c n)
  not_written end done is shown (Ok value) none = tt
  not_written end done is shown (Err fault) none = (keeps, inr (none, subst (λ (e : Result (Unit {0}) Fault). IfOk e (λ _. MapWasShown same hash c n)) is shown))

  module _ {W : Type 0} (key_in : K → Type 0) (text : K → List ℕ) (value_in : V → Type 0) (value : V → Data) (refused : W → Bool) (members : W → Members) where
    -- The pairs were written, as the object of them.
    pub written : (first last : W) → members first ≡ no_members
        → HasBeenShown same hash (λ w key x next. PutsMember key_in text value_in value key x (refused w) (members w) (refused next) (members next)) first last c.seat.view n.seat.view
        → (end : Result (Unit {0}) Fault) (done : Unit {0}) → end ≡ Ok done → IfOk end (λ _. MapWasShown same hash c n) → (r : Result Value Fault) → IfOk r (λ v. refused last ≡ false)
        → IfOk r (λ v. view v ≡ object (members last)) → IfOk r (λ v. Keeps × IsWrittenAs key_in text value_in value same hash (view v) c n)
    written first last none told end done is shown (Err fault) all so = tt
    written first last none (pairs, told, folds) end done is shown (Ok v) all so =
        let it = all_written key_in text value_in value refused members pairs first last folds all in (
          keeps,
          record {
            pairs = pairs;
            told = told;
            shown = subst (λ (e : Result (Unit {0}) Fault). IfOk e (λ _. MapWasShown same hash c n)) is shown;
            ranged = it.1;
            is = so ∙ ap object (it.2 ∙ ap (λ ms. members_with text value ms pairs) none);
          },
        )

module _ {K S : Type 0} (same : K → K → Bool) (hash : S → K → ℕ) (c n : MapCaller K (Unit {0}) S) (Keeps : Type 0) (keeps : Keeps) {W : Type 0} (in_range : K → Type 0) (value : K → Data) (refused : W → Bool)
    (items : W → BTreeMap (String Global) Value) where
  -- The elements were written, as the array of them.
  pub listed : (first last : W) → (items first).entries ≡ [] → IsOrdered string_cmp (items first)
      → HasBeenShown same hash (λ w key x next. PutsItem in_range value key (refused w) (items w) (refused next) (items next)) first last c.seat.view n.seat.view
      → (end : Result (Unit {0}) Fault) (done : Unit {0}) → end ≡ Ok done → IfOk end (λ _. MapWasShown same hash c n) → (r : Result Value Fault) → IfOk r (λ v. refused last ≡ false)
      → IfOk r (HasItems (values (items last))) → IfOk r (λ v. Keeps × AreWrittenAs in_range value same hash (view v) c n)
  listed first last none ordered told end done is shown (Err fault) all so = tt
  listed first last none ordered (pairs, told, folds) end done is shown (Ok v) all (vs, same_value, those) =
      let it = all_items in_range value refused items pairs [] first last folds all (none_yet value (items first).entries none) ordered in (
        keeps,
        record {
          pairs = pairs;
          told = told;
          shown = subst (λ (e : Result (Unit {0}) Fault). IfOk e (λ _. MapWasShown same hash c n)) is shown;
          ranged = it.0;
          is = subst (λ (x : Value). IsArrayOf value (map (λ x. x.0) pairs) (view x)) (sym same_value) (written_of value (map (λ x. x.0) pairs) (items last).entries vs it.1 it.2 those);
        },
      )

-- what was put one after another by who has a caller was put by that
pub puts_all : {F K V S X : Type 0} (caller : F → MapCaller K V S) (Puts : X → MapCaller K V S → MapCaller K V S → Type 0) (xs : List X) (f l : F)
    → FoldsTo (λ a x b. Puts x (caller a) (caller b)) f xs l → PutsAll Puts xs (caller f) (caller l)
puts_all caller Puts [] f l is = sym (ap caller is)
puts_all caller Puts (x ∷ xs) f l (j, one, folds) = (caller j, one, puts_all caller Puts xs j l folds)

-- a value that is looked at as an object is one,
pub object_is : (d : Data) (ms : Members) → as_object d ≡ Some ms → d ≡ object ms
object_is null ms e = absurd (cc e)
object_is (boolean b) ms e = absurd (cc e)
object_is (number n) ms e = absurd (cc e)
object_is (string s) ms e = absurd (cc e)
object_is (array ds) ms e = absurd (cc e)
object_is (object xs) ms e = ap object (same_Some xs ms e)

-- or an array
pub array_is : (d : Data) (ds : Items) → as_array d ≡ Some ds → d ≡ array ds
array_is null ds e = absurd (cc e)
array_is (boolean b) ds e = absurd (cc e)
array_is (number n) ds e = absurd (cc e)
array_is (string s) ds e = absurd (cc e)
array_is (object ms) ds e = absurd (cc e)
array_is (array xs) ds e = ap array (same_Some xs ds e)

-- what is so of what was read, all of it
pub read_so : {M E : Type 0} (X Y A B C : M → Type 0) (D : Type 0) → ((m : M) → X m → Y m) → (r : Result M E) → IfOk r X → IfOk r A → IfOk r B → IfOk r C → D → IfOk r (λ m. Y m × A m × B m × C m × D)
read_so X Y A B C D turns (Ok m) x a b c d = (turns m x, a, b, c, d)
read_so X Y A B C D turns (Err why) x a b c d = tt

-- a map that was filled by the members of an object was filled by those of a value that is this object,
pub of_object : {K V S : Type 0} (key_in : K → Type 0) (text : K → List ℕ) (value_in : V → Type 0) (value : V → Data) (same : K → K → Bool) (hash : S → K → ℕ) (Its : MapCaller K V S → Type 0) (d read : Data)
    → read ≡ d → IsFilledBy key_in text value_in value same hash Its d → IsFilledBy key_in text value_in value same hash Its read
of_object key_in text value_in value same hash Its d read is it = record {
  members = it.members;
  is = is ∙ it.is;
  pairs = it.pairs;
  each = it.each;
  first = it.first;
  its = it.its;
  none = it.none;
  last = it.last;
  stored = it.stored;
}

-- and so of a set
pub of_array : {K S : Type 0} (in_range : K → Type 0) (value : K → Data) (same : K → K → Bool) (hash : S → K → ℕ) (Its : MapCaller K (Unit {0}) S → Type 0) (d read : Data) → read ≡ d
    → IsFilledWith in_range value same hash Its d → IsFilledWith in_range value same hash Its read
of_array in_range value same hash Its d read is it = record {
  elements = it.elements;
  each = (it.each.0, is ∙ it.each.1, it.each.2);
  first = it.first;
  its = it.its;
  none = it.none;
  last = it.last;
  stored = it.stored;
}
