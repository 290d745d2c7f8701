-- What calls have done that go by closures, by the pair that was found of their key.
use Rattle.std.specs.Prelude.{false, IsTrue, MatchOption, is_some}
use Rattle.std.specs.Option.{unwrap_or}
use Rattle.std.proofs.Common.{◌≡◌, Bool, [], ◌∷◌, ◌++◌, Option, Some, None, Ok, refl, sym, ap, subst}
use Rattle.owner_asks.specs.Asks.Closures.{Removing}
use Rattle.seize_words.specs.declared.operation.Operation.{Operation}
use Rattle.seize_words.specs.declared.operation.Operation.TheVariants as operation
use Rattle.seize_words.specs.declared.refused.RefusedKey.{RefusedKey}
use Rattle.owner_rests.specs.Rests.Asking.{HasComputed, HasDone}
use Rattle.owner_rests.specs.Given.{found_by, left_by}
use Rattle.owner_rests.specs.Rests.Held.{as_list, stored_computing}
use Rattle.owner_rests.specs.declared.change.Change.{Change}
use Rattle.owner_rests.specs.declared.change.Change.TheVariants as change
use Rattle.owner_rests.specs.declared.change.ComputedChange.{ComputedChange}
use Rattle.owner_rests.specs.declared.change.ComputedChange.TheVariants as compute
use Rattle.owner_map.specs.Answers.{HasRemoved, HasReplaced, IsLeft}
use Rattle.owner_rests.specs.ShowsPairs.Maps.{HasNow, Keeps, Map}

module _ {K V S : Type 0} (old map : Map K V S) where
  -- the pair that was put there has the key of the call
  replaced : (keys : K → Bool) (key : K) (x : K × V) (k : K) (v : V) → Some key ≡ Some k → HasNow map (left_by keys old.pairs ++ ((k, v) ∷ [])) (Some x) (Some (k, v)) → Keeps (as_list map.met) old map
      → HasReplaced old map keys x (key, v)
  replaced keys key x k v its now keeps =
      subst (λ (y : K × V). HasReplaced old map keys x y) pair_is (now, subst (λ (o : Option (K × V)). Keeps (as_list o) old map) now.1.1 keeps)
    where
      pair_is : ◌≡◌ {A = K × V} (k, v) (key, v)
      pair_is = ap (λ (a : K). (a, v)) (sym (ap (λ (o : Option K). unwrap_or o key) its))

  module _ {T : Type 0} (keys : K → Bool) (key : K) (Gives : Option (K × V) → Operation V T → Type 0) where
    -- what a computing has done, and the map holds after it
    abbrev Did : ComputedChange T → Type 0
    Did done = HasComputed keys (Some key) Gives old.pairs (HasNow map) done × Keeps (stored_computing {E = RefusedKey K} (Ok done) map.met) old map

    -- a value is stored that was computed
    pub exchanges : (done : ComputedChange T) → done ≡ compute.Changed change.Replaced → Did done
        → (was : K × V) × (found_by keys old.pairs ≡ Some was) × (value : V) × Gives (Some was) (operation.Insert value) × HasReplaced old map keys was (key, value)
    exchanges done is did =
        let it = subst (λ (x : ComputedChange T). Did x) is did in
        let d = it.0 in
        (d.0, d.3, d.2, d.5, replaced keys key d.0 d.1 d.2 d.4 d.6 it.1)

    -- a pair is removed
    pub removes : (done : ComputedChange T) → done ≡ compute.Changed change.Removed → Did done
        → (was : K × V) × (found_by keys old.pairs ≡ Some was) × Gives (Some was) operation.Remove × HasRemoved old map keys was
    removes done is did =
        let it = subst (λ (x : ComputedChange T). Did x) is did in
        let d = it.0 in
        (d.0, d.1, d.2, (d.3, it.1))

  -- what was taken can be looked at
  pub takes : (x : K × V) → map.taken ≡ Some x → IsTrue (is_some map.taken)
  takes x is = subst (λ (o : Option (K × V)). IsTrue (is_some o)) (sym is) refl

  -- a pair stays of which a test answers no
  pub stays : (keys : K → Bool) (Tests : K × V → Bool → Type 0) (done : Change) → done ≡ change.Kept → HasDone keys None (Removing Tests) old.pairs (HasNow map) done → Keeps [] old map
      → (x : K × V) × (found_by keys old.pairs ≡ Some x) × (map.met ≡ Some x) × MatchOption (found_by keys old.pairs) ⊥ (λ y. Tests y false × IsLeft old map (Some y))
  stays keys Tests done is did keeps =
      let d = subst (λ (x : Change). HasDone keys None (Removing Tests) old.pairs (HasNow map) x) is did in (
        d.0,
        d.1,
        d.3.1.1,
        subst (λ (o : Option (K × V)). MatchOption o ⊥ (λ y. Tests y false × IsLeft old map (Some y))) (sym d.1) (d.2, (d.3, keeps)),
      )
