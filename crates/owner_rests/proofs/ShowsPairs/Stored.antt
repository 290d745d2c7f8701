-- Pairs that are stored in a map one after another.
use Rattle.std.specs.List.Sorted.{IsPermutation}
use Rattle.std.proofs.Common.{◌≡◌, Bool, List, [], ◌∷◌, ◌++◌, Option, None, refl, sym, subst, ◌∙◌}
use Rattle.std.proofs.lemmas.List.Elements.{AllZip-push}
use Rattle.std.proofs.lemmas.List.Sorted.{IsPermutation-refl}
use Rattle.owner_rests.specs.Given.{Balanced}
use Rattle.owner_rests.proofs.Given.{balanced_first, balanced_more, kept_balances}
use Rattle.owner_asks.specs.Pairs.Puts.{IsCloneOf, last_put, last_taken, put_all}
use Rattle.owner_asks.proofs.Pairs.Puts.{put_is_last, puts_more, taken_last}
use Rattle.owner_rests.specs.ShowsPairs.Maps.{LastTook, Map}
use Rattle.owner_rests.specs.ShowsPairs.Stored.{HasPut, IsMadeOf, IsMadeOfClones}

module _ {K V S : Type 0} (same : K → K → Bool) where
  -- Since a map had these pairs, held these, and these two could be looked at, such pairs were stored in it.
  module _ (before held : List (K × V)) (taken met : Option (K × V)) where
    pub record HasStored (given : List (K × V)) (now : Map K V S) : Type 0 where
      pub pairs : IsPermutation now.pairs (put_all same before given)
      pub balances : Balanced given held now.held
      pub last : LastTook now (last_taken same taken before given) (last_put met given)

    -- one more was
    pub stored_more : (given : List (K × V)) (x : K × V) (now next : Map K V S) → HasStored given now → HasPut same x now next → HasStored (given ++ (x ∷ [])) next
    stored_more given x now next so one = record {
      pairs = puts_more same before given now.pairs next.pairs x so.pairs one.pairs;
      balances = balanced_more given held now.held x next.held so.balances (kept_balances (K × V) (x ∷ []) now.pairs now.held next.held one.held);
      last = (
        one.taken (put_all same before given) so.pairs ∙ sym (taken_last same taken before given x),
        one.met ∙ sym (put_is_last met given x),
      );
    }

  -- none was yet
  pub stored_first : (now : Map K V S) → HasStored now.pairs now.held now.taken now.met [] now
  stored_first now = record { pairs = IsPermutation-refl now.pairs; balances = balanced_first now.held; last = (refl, refl) }

  -- a map with nothing was made of none
  pub made_first : (map : Map K V S) → map.pairs ≡ [] → map.held ≡ [] → LastTook map None None → IsMadeOf same [] map
  made_first map none bare last = record {
    pairs = subst (λ (l : List (K × V)). IsPermutation l []) (sym none) (IsPermutation-refl []);
    held = subst (Balanced [] []) (sym bare) (balanced_first []);
    last = last;
  }

  pub made_more : (given : List (K × V)) (x : K × V) (map next : Map K V S) → IsMadeOf same given map → HasPut same x map next → IsMadeOf same (given ++ (x ∷ [])) next
  made_more given x map next so one =
      let more = stored_more [] [] None None given x map next (record { pairs = so.pairs; balances = so.held; last = so.last }) one in
      record { pairs = more.pairs; held = more.balances; last = more.last }

  -- what was stored in a map that had nothing
  pub made_by : (fresh map : Map K V S) (given : List (K × V)) → fresh.pairs ≡ [] → fresh.held ≡ [] → LastTook fresh None None → IsPermutation map.pairs (put_all same fresh.pairs given)
      → Balanced given fresh.held map.held → LastTook map (last_taken same fresh.taken fresh.pairs given) (last_put fresh.met given) → IsMadeOf same given map
  made_by fresh map given none bare last pairs held took = record {
    pairs = subst (λ (l : List (K × V)). IsPermutation map.pairs (put_all same l given)) none pairs;
    held = subst (λ (l : List (K × V)). Balanced given l map.held) bare held;
    last = (
      subst (λ (l : List (K × V)). map.taken ≡ last_taken same None l given) none
          (subst (λ (o : Option (K × V)). map.taken ≡ last_taken same o fresh.pairs given) last.0 took.0),
      subst (λ (o : Option (K × V)). map.met ≡ last_put o given) last.1 took.1,
    );
  }

  module _ (key_clone : K → K → Type 0) (value_clone : V → V → Type 0) where
    -- the clone of one more
    pub clones_more : (originals : List (K × V)) (x : K × V) (map next : Map K V S) → IsMadeOfClones same key_clone value_clone originals map
        → (y : K × V) × IsCloneOf key_clone value_clone x y × HasPut same y map next → IsMadeOfClones same key_clone value_clone (originals ++ (x ∷ [])) next
    clones_more originals x map next so (y, clone, one) = record {
      clones = so.clones ++ (y ∷ []);
      each = AllZip-push (IsCloneOf key_clone value_clone) originals so.clones x y so.each clone;
      made = made_more so.clones y map next so.made one;
    }
