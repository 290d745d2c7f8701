-- Elements that are stored in a set one after another.
use Rattle.std.specs.List.Sorted.{IsPermutation}
use Rattle.std.specs.Map.{keys_of}
use Rattle.std.proofs.Common.{◌≡◌, Bool, List, [], ◌∷◌, ◌++◌, find, Option, None, Some, option_map, refl, ap, sym, subst, ◌∙◌}
use Rattle.std.proofs.lemmas.List.{map-append}
use Rattle.std.proofs.lemmas.List.Sorted.{IsPermutation-refl}
use Rattle.owner_map.specs.Given.{Balanced, found_by, last_put, last_taken, put, put_all}
use Rattle.owner_map.specs.Given.SeqShowsMaps.{Map}
use Rattle.owner_map.specs.Given.SeqShowsStored.{IsMadeOf, IsMadeOfClones}
use Rattle.owner_map.proofs.Given.{balanced_first, balanced_more, kept_balances, put_is_last}
use Rattle.papaya_seq.specs.Sets.{LastTookOut, Set, last_taken_in, put_all_in, set_of}
use Rattle.papaya_seq.specs.Stored.{HasPutIn, IsSetMadeOf, IsSetMadeOfClones}
use Rattle.papaya_seq.proofs.Sets.{keys_cloned, keys_found, keys_in_order, keys_put, keys_put_all, puts_in_more, taken_last_in}

module _ {K S : Type 0} (same : K → K → Bool) where
  -- Since a set had these elements, held these, and these two could be looked at, such elements were stored in it.
  module _ (before held : List K) (taken met : Option K) where
    pub record HasStoredIn (given : List K) (now : Set K S) : Type 0 where
      pub elements : IsPermutation now.elements (put_all_in same before given)
      pub balances : Balanced given held now.held
      pub last : LastTookOut now (last_taken_in same taken before given) (last_put met given)

    -- one more was
    pub stored_more : (given : List K) (x : K) (now next : Set K S) → HasStoredIn given now → HasPutIn same x now next → HasStoredIn (given ++ (x ∷ [])) next
    stored_more given x now next so one = record {
      elements = puts_in_more same before given now.elements next.elements x so.elements one.elements;
      balances = balanced_more given held now.held x next.held so.balances (kept_balances K (x ∷ []) now.elements now.held next.held one.held);
      last = (
        one.taken (put_all_in same before given) so.elements ∙ sym (taken_last_in same taken before given x),
        one.met ∙ sym (put_is_last met given x),
      );
    }

  -- none was yet
  pub stored_first : (now : Set K S) → HasStoredIn now.elements now.held now.taken now.met [] now
  stored_first now = record { elements = IsPermutation-refl now.elements; balances = balanced_first now.held; last = (refl, refl) }

  -- a set with nothing was made of none
  pub made_first : (set : Set K S) → set.elements ≡ [] → set.held ≡ [] → LastTookOut set None None → IsSetMadeOf same [] set
  made_first set none bare last = record {
    elements = subst (λ (l : List K). IsPermutation l []) (sym none) (IsPermutation-refl []);
    held = subst (Balanced [] []) (sym bare) (balanced_first []);
    last = last;
  }

  pub made_more : (given : List K) (x : K) (set next : Set K S) → IsSetMadeOf same given set → HasPutIn same x set next → IsSetMadeOf same (given ++ (x ∷ [])) next
  made_more given x set next so one =
      let more = stored_more [] [] None None given x set next (record { elements = so.elements; balances = so.held; last = so.last }) one in
      record { elements = more.elements; held = more.balances; last = more.last }

  -- what was stored in a set that had nothing
  pub made_by : (fresh set : Set K S) (given : List K) → fresh.elements ≡ [] → fresh.held ≡ [] → LastTookOut fresh None None → IsPermutation set.elements (put_all_in same fresh.elements given)
      → Balanced given fresh.held set.held → LastTookOut set (last_taken_in same fresh.taken fresh.elements given) (last_put fresh.met given) → IsSetMadeOf same given set
  made_by fresh set given none bare last elements held took = record {
    elements = subst (λ (l : List K). IsPermutation set.elements (put_all_in same l given)) none elements;
    held = subst (λ (l : List K). Balanced given l set.held) bare held;
    last = (
      subst (λ (l : List K). set.taken ≡ last_taken_in same None l given) none
          (subst (λ (o : Option K). set.taken ≡ last_taken_in same o fresh.elements given) last.0 took.0),
      subst (λ (o : Option K). set.met ≡ last_put o given) last.1 took.1,
    );
  }

-- so of the keys of a map
module _ {K V : Type 0} where
  keys_balanced : (stored before after : List (K × V)) → Balanced stored before after → Balanced (keys_of stored) (keys_of before) (keys_of after)
  keys_balanced stored before after (given, is) = (
    keys_of given,
    subst (λ (l : List K). IsPermutation l (keys_of after ++ keys_of given)) (map-append (λ (x : K × V). x.0) stored before)
        (subst (IsPermutation (keys_of (stored ++ before))) (map-append (λ (x : K × V). x.0) after given) (keys_in_order (stored ++ before) (after ++ given) is)),
  )

  keys_taken : (same : K → K → Bool) (before : Option (K × V)) (xs ys : List (K × V))
      → option_map (λ (x : K × V). x.0) (last_taken same before xs ys) ≡ last_taken_in same (option_map (λ (x : K × V). x.0) before) (keys_of xs) (keys_of ys)
  keys_taken same before xs [] = refl
  keys_taken same before xs (y ∷ ys) =
      keys_taken same (found_by (same y.0) xs) (put same xs y) ys
      ∙ ap (λ (o : Option K). last_taken_in same o (keys_of (put same xs y)) (keys_of ys)) (sym (keys_found (same y.0) xs))
      ∙ ap (λ (l : List K). last_taken_in same (find (same y.0) (keys_of xs)) l (keys_of ys)) (keys_put same xs y)

  keys_last : (before : Option (K × V)) (ys : List (K × V)) → option_map (λ (x : K × V). x.0) (last_put before ys) ≡ last_put (option_map (λ (x : K × V). x.0) before) (keys_of ys)
  keys_last before [] = refl
  keys_last before (y ∷ ys) = keys_last (Some y) ys

  module _ {S : Type 0} (same : K → K → Bool) where
    keys_made : (given : List (K × V)) (map : Map K V S) → IsMadeOf same given map → IsSetMadeOf same (keys_of given) (set_of map)
    keys_made given map so = record {
      elements = subst (IsPermutation (keys_of map.pairs)) (keys_put_all same given []) (keys_in_order map.pairs (put_all same [] given) so.pairs);
      held = keys_balanced given [] map.held so.held;
      last = (
        ap (option_map (λ (x : K × V). x.0)) so.last.0 ∙ keys_taken same None [] given,
        ap (option_map (λ (x : K × V). x.0)) so.last.1 ∙ keys_last None given,
      );
    }

    pub keys_of_clones : (key_clone : K → K → Type 0) (value_clone : V → V → Type 0) (originals : List (K × V)) (map : Map K V S) → IsMadeOfClones same key_clone value_clone originals map
        → IsSetMadeOfClones same key_clone (keys_of originals) (set_of map)
    keys_of_clones key_clone value_clone originals map so =
        record { clones = keys_of so.clones; each = keys_cloned key_clone value_clone originals so.clones so.each; made = keys_made so.clones map so.made }
