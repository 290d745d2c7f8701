-- Elements of a set, which are the keys of a map with no values.
use Rattle.std.specs.Prelude.{if◌then◌else◌}
use denote.Ref.{Bor}
use Rattle.std.specs.Fn.{Called, CalledAt, ComputesKey, Mut}
use Rattle.std.specs.List.{AllZip, FoldsTo}
use Rattle.std.specs.List.Sorted.{IsPermutation}
use Rattle.std.specs.Map.{keys_of}
use Rattle.std.proofs.Common.{◌≡◌, Bool, true, false, cond, not, List, [], ◌∷◌, ◌++◌, find, filter, map, Option, Some, is_some, is_none, option_map, refl, ap, sym, subst, ◌∙◌}
use Rattle.std.proofs.lemmas.Fn.{answers_by}
use Rattle.std.proofs.lemmas.List.{map-append}
use Rattle.std.proofs.lemmas.List.Sorted.{IsPermutation-trans, IsPermutation-append_left, IsPermutation-map}
use Rattle.owner_map.specs.Given.{AnswersByTest, AskedAlong, IsCloneOf, KeepsOf, found_by, left_by, put, put_all, with_no_values}
use Rattle.owner_map.specs.Given.SeqShowsMaps.{Keeps, Map}
use Rattle.papaya_seq.specs.Sets.{KeepsElements, KeepsIn, Set, last_taken_in, left_in, put_in, put_all_in, set_of}
use Rattle.owner_map.proofs.Given.{kept_in_any_order, lifts, no_values, there_as}

-- what was not there is new
pub new_so : {X : Type 0} (was : Bool) (o : Option X) → was ≡ is_some o → not was ≡ is_none o
new_so was o is = ap not is

module _ {K V : Type 0} where
  pub keys_found : (test : K → Bool) (xs : List (K × V)) → find test (keys_of xs) ≡ option_map (λ x. x.0) (found_by test xs)
  keys_found test [] = refl
  keys_found test (x ∷ xs) = by (test x.0) (keys_found test xs)
    where
      by : (b : Bool) → find test (keys_of xs) ≡ option_map (λ (x : K × V). x.0) (found_by test xs) → cond b (Some x.0) (find test (keys_of xs)) ≡ option_map (λ (x : K × V). x.0) (cond b (Some x) (found_by test xs))
      by true so = refl
      by false so = so

  pub keys_are_found : (test : K → Bool) (xs : List (K × V)) → is_some (find test (keys_of xs)) ≡ is_some (found_by test xs)
  keys_are_found test [] = refl
  keys_are_found test (x ∷ xs) = by (test x.0) (keys_are_found test xs)
    where
      by : (b : Bool) → is_some (find test (keys_of xs)) ≡ is_some (found_by test xs) → is_some (cond b (Some x.0) (find test (keys_of xs))) ≡ is_some (cond b (Some x) (found_by test xs))
      by true so = refl
      by false so = so

  -- so of a pair that is the one found
  pub key_found : (test : K → Bool) (xs : List (K × V)) (o : Option (K × V)) → o ≡ found_by test xs → option_map (λ x. x.0) o ≡ find test (keys_of xs)
  key_found test xs o is = ap (option_map (λ (x : K × V). x.0)) is ∙ sym (keys_found test xs)

  -- and of one that is found in any order
  pub key_found_in_order : (test : K → Bool) (old : List (K × V)) (o : Option (K × V)) → ((ys : List (K × V)) → IsPermutation old ys → o ≡ found_by test ys)
      → (xs : List K) → IsPermutation (keys_of old) xs → option_map (λ x. x.0) o ≡ find test xs
  key_found_in_order test old o so xs order =
      let ys = lifts (λ (x : K × V). x.0) (keys_of old) xs order old refl in key_found test ys.0 o (so ys.0 ys.2) ∙ ap (find test) ys.1

  pub keys_left : (test : K → Bool) (xs : List (K × V)) → keys_of (left_by test xs) ≡ left_in test (keys_of xs)
  keys_left test [] = refl
  keys_left test (x ∷ xs) = by (test x.0) (keys_left test xs)
    where
      by : (b : Bool) → keys_of (left_by test xs) ≡ left_in test (keys_of xs)
          → keys_of (if b then left_by test xs else x ∷ left_by test xs) ≡ cond (not b) (x.0 ∷ left_in test (keys_of xs)) (left_in test (keys_of xs))
      by true so = so
      by false so = ap (λ l. x.0 ∷ l) so

  pub keys_put : (same : K → K → Bool) (xs : List (K × V)) (x : K × V) → keys_of (put same xs x) ≡ put_in same (keys_of xs) x.0
  keys_put same xs x = map-append (λ (y : K × V). y.0) (left_by (same x.0) xs) (x ∷ []) ∙ ap (λ l. l ++ (x.0 ∷ [])) (keys_left (same x.0) xs)

  pub keys_put_all : (same : K → K → Bool) (ys xs : List (K × V)) → keys_of (put_all same xs ys) ≡ put_all_in same (keys_of xs) (keys_of ys)
  keys_put_all same [] xs = refl
  keys_put_all same (y ∷ ys) xs = keys_put_all same ys (put same xs y) ∙ ap (λ l. put_all_in same l (keys_of ys)) (keys_put same xs y)

  pub keys_in_order : (xs ys : List (K × V)) → IsPermutation xs ys → IsPermutation (keys_of xs) (keys_of ys)
  keys_in_order xs ys order = IsPermutation-map (λ x. x.0) xs ys order

  -- what is kept of what was held
  pub keys_held : {S : Type 0} (stored : List (K × V)) (before after : Map K V S) → Keeps stored before after → KeepsIn (keys_of stored) (set_of before) (set_of after)
  keys_held stored before after (waiting, given, was, is) = (
    keys_of waiting,
    keys_of given,
    subst (IsPermutation (keys_of before.held)) (map-append (λ (x : K × V). x.0) before.pairs (waiting ++ given) ∙ ap (λ l. keys_of before.pairs ++ l) (map-append (λ (x : K × V). x.0) waiting given))
        (keys_in_order before.held (before.pairs ++ (waiting ++ given)) was),
    subst (IsPermutation (keys_of after.held)) (map-append (λ (x : K × V). x.0) stored (before.pairs ++ waiting) ∙ ap (λ l. keys_of stored ++ l) (map-append (λ (x : K × V). x.0) before.pairs waiting))
        (keys_in_order after.held (stored ++ (before.pairs ++ waiting)) is),
  )

  -- the elements of a set are among what is held
  pub keys_among : {S : Type 0} (map : Map K V S) → (waiting : List (K × V)) × IsPermutation map.held (map.pairs ++ waiting) → (waiting : List K) × IsPermutation (keys_of map.held) (keys_of map.pairs ++ waiting)
  keys_among map (waiting, is) =
      (keys_of waiting, subst (IsPermutation (keys_of map.held)) (map-append (λ (x : K × V). x.0) map.pairs waiting) (keys_in_order map.held (map.pairs ++ waiting) is))

  keys_kept : (test : K → Bool) (xs : List (K × V)) → keys_of (filter (λ x. test x.0) xs) ≡ filter test (keys_of xs)
  keys_kept test [] = refl
  keys_kept test (x ∷ xs) = by (test x.0) (keys_kept test xs)
    where
      by : (b : Bool) → keys_of (filter (λ x. test x.0) xs) ≡ filter test (keys_of xs)
          → keys_of (cond b (x ∷ filter (λ x. test x.0) xs) (filter (λ x. test x.0) xs)) ≡ cond b (x.0 ∷ filter test (keys_of xs)) (filter test (keys_of xs))
      by true so = ap (λ l. x.0 ∷ l) so
      by false so = so

  pub kept_in_order : (test : K → Bool) (xs ys : List (K × V)) → IsPermutation xs (filter (λ x. test x.0) ys) → IsPermutation (keys_of xs) (filter test (keys_of ys))
  kept_in_order test xs ys order = subst (IsPermutation (keys_of xs)) (keys_kept test ys) (keys_in_order xs (filter (λ x. test x.0) ys) order)

  pub keys_cloned : (key_clone : K → K → Type 0) (value_clone : V → V → Type 0) (xs ys : List (K × V)) → AllZip (IsCloneOf key_clone value_clone) xs ys → AllZip key_clone (keys_of xs) (keys_of ys)
  keys_cloned key_clone value_clone [] [] so = tt
  keys_cloned key_clone value_clone [] (y ∷ ys) so = absurd so
  keys_cloned key_clone value_clone (x ∷ xs) [] so = absurd so
  keys_cloned key_clone value_clone (x ∷ xs) (y ∷ ys) so = (so.0.0, keys_cloned key_clone value_clone xs ys so.1)

-- A set is lent in another order: so its map is, which has no values, and what is found there are the same elements.
module _ {K S : Type 0} (map : Map K (Unit {0}) S) (set : Set K S) (is : set_of map ≡ set) (ys : List K) (order : IsPermutation set.elements ys) where
  map_in_order : IsPermutation map.pairs (with_no_values ys)
  map_in_order =
      subst (λ l. IsPermutation l (with_no_values ys)) (no_values map.pairs)
      (IsPermutation-map (λ x. (x, tt {0})) (keys_of map.pairs) ys (subst (λ (s : Set K S). IsPermutation s.elements ys) (sym is) order))

  module _ (test : K → Bool) where
    pub there_in_order : (b : Bool) → ((xs : List (K × Unit {0})) → IsPermutation map.pairs xs → b ≡ is_some (found_by test xs)) → b ≡ is_some (find test ys)
    there_in_order b so = so (with_no_values ys) map_in_order ∙ sym (there_as test ys)

    pub found_in_order : (o : Option (K × Unit {0})) → ((xs : List (K × Unit {0})) → IsPermutation map.pairs xs → o ≡ found_by test xs) → option_map (λ x. x.0) o ≡ find test ys
    found_in_order o so = key_found_in_order test map.pairs o so ys (subst (λ (s : Set K S). IsPermutation s.elements ys) (sym is) order)

module _ {K : Type 0} (same : K → K → Bool) where
  put_in_last : (xs ys : List K) (y : K) → put_all_in same xs (ys ++ (y ∷ [])) ≡ put_in same (put_all_in same xs ys) y
  put_in_last xs [] y = refl
  put_in_last xs (z ∷ ys) y = put_in_last (put_in same xs z) ys y

  -- what the last of them took out, where one more was put
  pub taken_last_in : (before : Option K) (xs ys : List K) (y : K) → last_taken_in same before xs (ys ++ (y ∷ [])) ≡ find (same y) (put_all_in same xs ys)
  taken_last_in before xs [] y = refl
  taken_last_in before xs (z ∷ ys) y = taken_last_in (find (same z) xs) (put_in same xs z) ys y

  put_in_any_order : (xs ys : List K) (y : K) → IsPermutation xs ys → IsPermutation (put_in same xs y) (put_in same ys y)
  put_in_any_order xs ys y order =
      IsPermutation-append_left (y ∷ []) (left_in (same y) xs) (left_in (same y) ys) (kept_in_any_order (λ x. not (same y x)) xs ys order)

  -- one more was put
  pub puts_in_more : (old given new newer : List K) (x : K) → IsPermutation new (put_all_in same old given) → IsPermutation newer (put_in same new x)
      → IsPermutation newer (put_all_in same old (given ++ (x ∷ [])))
  puts_in_more old given new newer x so more =
      subst (IsPermutation newer) (sym (put_in_last old given x))
      (IsPermutation-trans newer (put_in same new x) (put_in same (put_all_in same old given) x) more (put_in_any_order new (put_all_in same old given) x so))

-- what a closure was asked about pairs, another one was asked about their keys, where each call of the one is one of the other
module _ {C F K V : Type 0} {asks : Mut C (Bor K × (Bor V × Unit {0})) Bool} (g : Mut F (Bor K × Unit {0}) Bool) (inner : C → F)
    (through : (s next : C) (p : Bor K) (q : Bor V) (r : Bool) → Called asks s (p, (q, tt)) r next → Called g (inner s) (p, tt) r (inner next)) where
  along_keys : (asked : List ((K × V) × Bool)) (s last : C) → AskedAlong asks s asked last
      → FoldsTo (λ (p : F) (y : K × Bool) (q : F). CalledAt g p y.0 y.1 q) (inner s) (map (λ (y : (K × V) × Bool). (y.0.0, y.1)) asked) (inner last)
  along_keys [] s last is = ap inner is
  along_keys (y ∷ asked) s last a =
      (inner a.0, record { shown = a.1.key; shows = a.1.shows.0; called = through s a.0 a.1.key a.1.value y.1 a.1.called }, along_keys asked a.0 last a.2)

  keys_answered : (answered : List ((K × V) × Bool)) → map (λ (y : K × Bool). y.0) (map (λ (y : (K × V) × Bool). (y.0.0, y.1)) answered) ≡ keys_of (map (λ (y : (K × V) × Bool). y.0) answered)
  keys_answered [] = refl
  keys_answered (y ∷ answered) = ap (λ l. y.0.0 ∷ l) (keys_answered answered)

  keys_told : (answered : List ((K × V) × Bool))
      → keys_of (map (λ (y : (K × V) × Bool). y.0) (filter (λ y. y.1) answered)) ≡ map (λ (y : K × Bool). y.0) (filter (λ y. y.1) (map (λ (y : (K × V) × Bool). (y.0.0, y.1)) answered))
  keys_told [] = refl
  keys_told (y ∷ answered) = by y.1 (keys_told answered)
    where
      by : (b : Bool) → keys_of (map (λ (z : (K × V) × Bool). z.0) (filter (λ z. z.1) answered)) ≡ map (λ (z : K × Bool). z.0) (filter (λ z. z.1) (map (λ (z : (K × V) × Bool). (z.0.0, z.1)) answered))
          → keys_of (map (λ (z : (K × V) × Bool). z.0) (cond b (y ∷ filter (λ z. z.1) answered) (filter (λ z. z.1) answered)))
          ≡ map (λ (z : K × Bool). z.0) (cond b ((y.0.0, y.1) ∷ filter (λ z. z.1) (map (λ (z : (K × V) × Bool). (z.0.0, z.1)) answered)) (filter (λ z. z.1) (map (λ (z : (K × V) × Bool). (z.0.0, z.1)) answered)))
      by true so = ap (λ l. y.0.0 ∷ l) so
      by false so = so

  -- asked by a test of elements, it answers by the test of their keys
  pub asked_by_test : (test : K → Bool) (s : C) → ComputesKey g test (inner s) → AnswersByTest asks (λ k v. test k) s
  asked_by_test test s so =
      answers_by asks (λ about answer. answer ≡ test about.0.now) (λ t. ComputesKey g test (inner t))
      (λ t about answer next called from.
      let here = through t next about.0 about.1.0 answer called in
      ((from.at ((about.0, tt) ∷ []) answer (inner next) here).0, record { at = λ others. (from.at ((about.0, tt) ∷ others) answer (inner next) here).1 })) s so

  pub keys_kept_of : (s : C) (xs kept : List (K × V)) → KeepsOf asks s xs kept → KeepsElements g (inner s) (keys_of xs) (keys_of kept)
  keys_kept_of s xs kept k = record {
    answered = map (λ (y : (K × V) × Bool). (y.0.0, y.1)) k.answered;
    all = keys_answered k.answered ∙ ap (λ (l : List (K × V)). keys_of l) k.all;
    asked = map (λ (y : (K × V) × Bool). (y.0.0, y.1)) k.asked;
    each_once = IsPermutation-map (λ (y : (K × V) × Bool). (y.0.0, y.1)) k.asked k.answered k.each_once;
    last = inner k.last;
    along = along_keys k.asked s k.last k.along;
    kept_are = ap (λ (l : List (K × V)). keys_of l) k.kept_are ∙ keys_told k.answered;
  }
