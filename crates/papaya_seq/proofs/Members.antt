-- Pairs that are read of the members of an object, one after another, and pairs that are written as one.
use denote.Ref.{Bor}
use Rattle.std.specs.Prelude.{IsTrue, ◌↔◌, ◌⊎◌, if◌then◌else◌}
use Rattle.std.specs.Cmp.Lexicographic.{slice_cmp}
use Rattle.std.specs.Iterator.{Drains, YieldsFirstBy}
use Rattle.std.specs.List.{All, AllByRecursion, IsDistinct}
use Rattle.std.specs.List.Sorted.{IsPermutation, IsStrictlySortedBy}
use Rattle.std.specs.Map.{keys_of}
use Rattle.std.proofs.Common.{◌≡◌, ◌≢◌, ℕ, Bool, true, false, List, [], ◌∷◌, ◌++◌, map, inl, inr, String, Global, Less, string_bytes, string_cmp, nat_cmp, append-nil, append_assoc, refl, ap, sym, subst, ◌∙◌, suc, ◌+◌, length, Option, Some, None, length-append, arith}
use Rattle.std.proofs.lemmas.Cmp.{nat_list_cmp_total, tied_itself}
use Rattle.std.proofs.lemmas.List.Elements.{All-cons, All-nil, All-head, All-map, All-tail}
use Rattle.std.proofs.lemmas.List.Sorted.{All-permutation, IsPermutation-cons, IsPermutation-refl, IsPermutation-sym, IsPermutation-to_front, IsPermutation-trans, length_permutation}
use Rattle.std.proofs.lemmas.Map.Keys.{IsDistinct-head, IsDistinct-tail}
use Rattle.serde_json.specs.Data.{Data, object, no_members, put}
use Rattle.serde_json.specs.View.{view, members_view}
use Rattle.serde_json.proofs.Views.{Entry, put_last}
use Rattle.map_forms.specs.Objects.{AreApart, IsObjectOf, members_with}
use Rattle.map_forms.specs.declared.fault.JsonFault.{JsonFault}
use Rattle.map_forms.proofs.PairByPair.{objects_have_their_pairs, objects_have_no_order}
use Rattle.map_straight.specs.Shown.Lent.{pair_shown}
use Rattle.owner_map.specs.Given.{HoldsOn, found_by, last_put, left_by}
use Rattle.papaya_seq.specs.Json.{FirstFault, IsLastOf, IsNoPair, IsPairOf, IsRefusal, LastIsOf}
use Rattle.owner_map.specs.Given.SeqShowsMaps.{LastTook, Map}
use Rattle.owner_map.specs.Given.SeqShowsStored.{HasPut}
use Rattle.owner_map.proofs.Given.{left_and, put_is_last}
use Rattle.owner_map.proofs.Given.SeqShowsWalked.{shown_to_end}

-- names of which one stands before the other are two
names_differ : (a b : String Global) → string_cmp a b ≡ Less → string_bytes b ≢ string_bytes a
names_differ a b less same =
    cc (sym (subst (λ t. slice_cmp nat_cmp (string_bytes a) t ≡ Less) same less) ∙ tied_itself nat_list_cmp_total (string_bytes a))

first_below : (first : Entry) (es : List Entry) (e : Entry) (more : List Entry) → AllByRecursion (λ k. string_cmp first.0 k ≡ Less) (keys_of (es ++ e ∷ more)) → string_cmp first.0 e.0 ≡ Less
first_below first [] e more below = below.0
first_below first (d ∷ es) e more below = first_below first es e more below.1

abbrev pub AreOrdered : List Entry → Type 0
AreOrdered es = IsStrictlySortedBy string_cmp (keys_of es)

-- where nothing waits, nothing does once one more was stored beside those that are there
held_more : {X : Type 0} (pairs read held after : List X) (x : X) → IsPermutation pairs read → IsPermutation held read → HoldsOn (x ∷ []) pairs held after → IsPermutation after (read ++ x ∷ [])
held_more pairs read held after x order all ([], given, was, is) =
    IsPermutation-trans after (x ∷ pairs) (read ++ x ∷ []) (subst (λ l. IsPermutation after (x ∷ l)) (append-nil pairs) is)
    (IsPermutation-trans (x ∷ pairs) (x ∷ read) (read ++ x ∷ []) (IsPermutation-cons x pairs read order) (IsPermutation-sym (read ++ x ∷ []) (x ∷ read) (IsPermutation-to_front read x)))
held_more pairs read held after x order all (w ∷ waiting, given, was, is) =
    let a = length_permutation pairs read order in
    let b = length_permutation held read all in
    let c = length_permutation held (pairs ++ (w ∷ (waiting ++ given))) was in
    let d : length (pairs ++ (w ∷ (waiting ++ given))) ≡ length pairs + suc (length (waiting ++ given)) = length-append pairs (w ∷ (waiting ++ given)) in
    absurd (omega (arith, a, b, c, d))

module _ {K V : Type 0} (key_in : K → Type 0) (text : K → List ℕ) (value_in : V → Type 0) (value : V → Data) where
  abbrev pub InRange : K × V → Type 0
  InRange x = key_in x.0 × value_in x.1

  abbrev pub IsReadOf : Entry → K × V → Type 0
  IsReadOf e = IsPairOf key_in text value_in value (string_bytes e.0) (view e.1)

  -- these members stand for these pairs, one for one
  abbrev pub AreRead : List (K × V) → List Entry → Type 0
  AreRead [] [] = Unit {0}
  AreRead (x ∷ xs) (e ∷ es) = IsReadOf e x × AreRead xs es
  AreRead [] (e ∷ es) = ⊥
  AreRead (x ∷ xs) [] = ⊥

  -- one more
  pub read_on : (xs : List (K × V)) (es : List Entry) (x : K × V) (e : Entry) → AreRead xs es → IsReadOf e x → AreRead (xs ++ x ∷ []) (es ++ e ∷ [])
  read_on [] [] x e read one = (one, tt)
  read_on (y ∷ ys) (d ∷ ds) x e read one = (read.0, read_on ys ds x e read.1 one)
  read_on [] (d ∷ ds) x e read one = absurd read
  read_on (y ∷ ys) [] x e read one = absurd read

  pub read_in_range : (xs : List (K × V)) (es : List Entry) → AreRead xs es → All InRange xs
  read_in_range [] [] read = All-nil InRange
  read_in_range (x ∷ xs) (e ∷ es) read = All-cons InRange x xs (read.0.0.0, read.0.1.0) (read_in_range xs es read.1)
  read_in_range [] (e ∷ es) read = absurd read
  read_in_range (x ∷ xs) [] read = absurd read

  -- the fault of the member behind them is the first one
  pub fault_behind : (why : JsonFault) (xs : List (K × V)) (done : List Entry) (e : Entry) (more : List Entry) → AreRead xs done
      → IsNoPair key_in text value_in value why (string_bytes e.0) (view e.1) → FirstFault key_in text value_in value why (members_view (done ++ e ∷ more))
  fault_behind why [] [] e more read none = inl none
  fault_behind why (x ∷ xs) (d ∷ done) e more read none = inr ((x, read.0), fault_behind why xs done e more read.1 none)
  fault_behind why [] (d ∷ done) e more read none = absurd read
  fault_behind why (x ∷ xs) [] e more read none = absurd read

  pub fault_at : (why : JsonFault) (xs : List (K × V)) (done : List Entry) (e : Entry) (more es : List Entry) (name : List ℕ) → AreRead xs done → es ≡ done ++ e ∷ more → name ≡ string_bytes e.0
      → IsNoPair key_in text value_in value why name (view e.1) ⊎ IsRefusal why → FirstFault key_in text value_in value why (members_view es) ⊎ IsRefusal why
  fault_at why xs done e more es name read all named (inl none) =
      inl (subst (λ l. FirstFault key_in text value_in value why (members_view l)) (sym all)
      (fault_behind why xs done e more read (subst (λ n. IsNoPair key_in text value_in value why n (view e.1)) named none)))
  fault_at why xs done e more es name read all named (inr refused) = inr refused

  -- the last of them is that of the last member
  last_read : (Else : Option (K × V) → Type 0) (before : Option (K × V)) (xs : List (K × V)) (es : List Entry) → AreRead xs es → Else before
      → IsLastOf key_in text value_in value Else (members_view es) (last_put before xs)
  last_read Else before [] [] read so = so
  last_read Else before (x ∷ xs) (e ∷ es) read so = last_read (λ o. (y : K × V) × (o ≡ Some y) × IsReadOf e y) (Some x) xs es read.1 (x, refl, read.0)
  last_read Else before [] (e ∷ es) read so = absurd read
  last_read Else before (x ∷ xs) [] read so = absurd read

  -- no key before a member has its name for a text
  other_names : (xs : List (K × V)) (done : List Entry) (e : Entry) (more : List Entry) → AreRead xs done → AreOrdered (done ++ e ∷ more) → All (λ x. string_bytes e.0 ≢ text x.0) xs
  unfolding IsStrictlySortedBy
  other_names [] [] e more read ordered = All-nil (λ x. string_bytes e.0 ≢ text x.0)
  other_names (x ∷ xs) (d ∷ done) e more read ordered =
      All-cons (λ y. string_bytes e.0 ≢ text y.0) x xs (λ same. names_differ d.0 e.0 (first_below d done e more ordered.0) (same ∙ read.0.0.1))
      (other_names xs done e more read.1 ordered.1)
  other_names [] (d ∷ done) e more read ordered = absurd read
  other_names (x ∷ xs) [] e more read ordered = absurd read

  texts_apart : (xs : List (K × V)) (es : List Entry) → AreRead xs es → AreOrdered es → AreApart text value xs
  unfolding IsStrictlySortedBy
  texts_apart [] [] read ordered = tt
  texts_apart (x ∷ xs) (e ∷ es) read ordered = (from xs es read.1 ordered.0, texts_apart xs es read.1 ordered.1)
    where
      from : (ys : List (K × V)) (ds : List Entry) → AreRead ys ds → AllByRecursion (λ k. string_cmp e.0 k ≡ Less) (keys_of ds) → All (λ y. text y.0 ≢ text x.0) ys
      from [] [] r below = All-nil (λ y. text y.0 ≢ text x.0)
      from (y ∷ ys) (d ∷ ds) r below =
          All-cons (λ z. text z.0 ≢ text x.0) y ys (λ same. names_differ e.0 d.0 below.0 (sym r.0.0.1 ∙ same ∙ read.0.0.1)) (from ys ds r.1 below.1)
      from [] (d ∷ ds) r below = absurd r
      from (y ∷ ys) [] r below = absurd r
  texts_apart [] (e ∷ es) read ordered = absurd read
  texts_apart (x ∷ xs) [] read ordered = absurd read

  -- the members are those of the pairs
  are_members : (done : List Entry) (xs : List (K × V)) (es : List Entry) → AreRead xs es → AreOrdered (done ++ es) → members_with text value (members_view done) xs ≡ members_view (done ++ es)
  are_members done [] [] read ordered = ap members_view (sym (append-nil done))
  are_members done (x ∷ xs) (e ∷ es) read ordered =
      ap (λ ms. members_with text value ms xs)
      (ap (λ n. put n (value x.1) (members_view done)) read.0.0.1 ∙ ap (λ d. put (string_bytes e.0) d (members_view done)) read.0.1.1 ∙ put_last done e es ordered)
      ∙ are_members (done ++ e ∷ []) xs es read.1 (subst AreOrdered (sym (append_assoc done (e ∷ []) es)) ordered)
      ∙ ap members_view (append_assoc done (e ∷ []) es)
  are_members done [] (e ∷ es) read ordered = absurd read
  are_members done (x ∷ xs) [] read ordered = absurd read

  pub read_object : (xs ys : List (K × V)) (es : List Entry) → AreRead xs es → AreOrdered es → IsPermutation ys xs → IsObjectOf text value ys (object (members_view es))
  read_object xs ys es read ordered order =
      objects_have_no_order K V text value xs ys (IsPermutation-sym ys xs order) (object (members_view es))
      (subst (λ ms. IsObjectOf text value xs (object ms)) (are_members [] xs es read ordered) (objects_have_their_pairs K V text value xs (texts_apart xs es read ordered)))

  -- where no member is left
  module _ (ys xs : List (K × V)) (done left es : List Entry) (read : AreRead xs done) (all : es ≡ done ++ left) (none : left ≡ []) (order : IsPermutation ys xs) where
    all_done : es ≡ done
    all_done = all ∙ ap (λ l. done ++ l) none ∙ append-nil done

    pub all_object : AreOrdered es → IsObjectOf text value ys (object (members_view es))
    all_object ordered = read_object xs ys es (subst (AreRead xs) (sym all_done) read) ordered order

    pub all_in_range : All InRange ys
    all_in_range = All-permutation InRange xs ys (IsPermutation-sym ys xs order) (read_in_range xs done read)

  module _ (same : K → K → Bool) (tells : (x y : K) → key_in x → key_in y → IsTrue (same x y) ↔ (text x ≡ text y)) where
    -- no pair so far has the key of the next one
    none_there : (key : K) → key_in key → (xs : List (K × V)) → All InRange xs → All (λ x. text key ≢ text x.0) xs → (left_by (same key) xs ≡ xs) × (found_by (same key) xs ≡ None)
    none_there key in_range [] all others = (refl, refl)
    none_there key in_range (x ∷ xs) all others =
        by (same key x.0) refl (none_there key in_range xs (All-tail InRange x xs all) (All-tail (λ y. text key ≢ text y.0) x xs others))
      where
        by : (b : Bool) → same key x.0 ≡ b → (left_by (same key) xs ≡ xs) × (found_by (same key) xs ≡ None)
            → ((if b then left_by (same key) xs else x ∷ left_by (same key) xs) ≡ x ∷ xs) × ((if b then Some x else found_by (same key) xs) ≡ None)
        by true is more =
            absurd (All-head (λ y. text key ≢ text y.0) x xs others ((tells key x.0 in_range (All-head InRange x xs all).0).0 is))
        by false is more = (ap (λ l. x ∷ l) more.0, more.1)

    module _ {S : Type 0} where
      -- The members so far stand for these pairs, which are those of the map, and no more are held; the last one was put last. The other members are left.
      pub record IsSoFar (es left : List Entry) (map : Map K V S) : Type 0 where
        pub done : List Entry
        pub read : List (K × V)
        pub all : es ≡ done ++ left
        pub each : AreRead read done
        pub order : IsPermutation map.pairs read
        pub held : IsPermutation map.held read
        pub last : LastTook map None (last_put None read)

      pub none_yet : (es left : List Entry) (map : Map K V S) → left ≡ es → map.pairs ≡ [] → map.held ≡ [] → LastTook map None None → IsSoFar es left map
      none_yet es left map all is bare last = record {
        done = [];
        read = [];
        all = sym all;
        each = tt;
        order = subst (λ (ys : List (K × V)). IsPermutation ys []) (sym is) (IsPermutation-refl []);
        held = subst (λ (ys : List (K × V)). IsPermutation ys []) (sym bare) (IsPermutation-refl []);
        last = last;
      }

      pub goes_on : (es left more : List Entry) (before now : Map K V S) (e : Entry) (name : List ℕ) → IsSoFar es left before → left ≡ e ∷ more → AreOrdered es → name ≡ string_bytes e.0
          → (x : K × V) × IsPairOf key_in text value_in value name (view e.1) x × HasPut same x before now → IsSoFar es more now
      goes_on es left more before now e name so is ordered named (x, one, stored) =
          let its : IsReadOf e x = subst (λ n. IsPairOf key_in text value_in value n (view e.1) x) named one in
          let here : es ≡ so.done ++ e ∷ more = so.all ∙ ap (λ l. so.done ++ l) is in
          let others = subst (λ t. All (λ y. t ≢ text y.0) so.read) (sym its.0.1) (other_names so.read so.done e more so.each (subst AreOrdered here ordered)) in
          let none = none_there x.0 its.0.0 so.read (read_in_range so.read so.done so.each) others in record {
            done = so.done ++ e ∷ [];
            read = so.read ++ x ∷ [];
            all = here ∙ sym (append_assoc so.done (e ∷ []) more);
            each = read_on so.read so.done x e so.each its;
            order =
                IsPermutation-trans now.pairs (left_by (same x.0) before.pairs ++ (x ∷ [])) (so.read ++ x ∷ []) stored.pairs
                (subst (λ l. IsPermutation (left_by (same x.0) before.pairs ++ (x ∷ [])) (l ++ x ∷ [])) none.0 (left_and (same x.0) before.pairs so.read (x ∷ []) so.order));
            held = held_more before.pairs so.read before.held now.held x so.order so.held stored.held;
            last = (stored.taken so.read so.order ∙ none.1, stored.met ∙ sym (put_is_last None so.read x));
          }

      -- where no member is left
      pub last_so : (es left : List Entry) (map : Map K V S) → IsSoFar es left map → left ≡ [] → LastIsOf key_in text value_in value (object (members_view es)) map
      last_so es left map so none = (
        so.last.0,
        members_view es,
        refl,
        subst (IsLastOf key_in text value_in value (λ o. o ≡ None) (members_view es)) (sym so.last.1)
            (last_read (λ o. o ≡ None) None so.read es (subst (AreRead so.read) (sym (all_done map.pairs so.read so.done left es so.each so.all none so.order)) so.each) refl),
      )

      pub held_so : (es left : List Entry) (map : Map K V S) → IsSoFar es left map → IsPermutation map.held map.pairs
      held_so es left map so = IsPermutation-trans map.held so.read map.pairs so.held (IsPermutation-sym map.pairs so.read so.order)

    -- keys in range that are not equal have two texts
    pub distinct_apart : (xs : List (K × V)) → All InRange xs → IsDistinct same (keys_of xs) → AreApart text value xs
    distinct_apart [] all apart = tt
    distinct_apart (x ∷ xs) all apart =
        (from xs (All-tail InRange x xs all) (IsDistinct-head same x.0 (keys_of xs) apart), distinct_apart xs (All-tail InRange x xs all) (IsDistinct-tail same x.0 (keys_of xs) apart))
      where
        from : (ys : List (K × V)) → All InRange ys → AllByRecursion (λ k. same x.0 k ≡ false) (keys_of ys) → All (λ y. text y.0 ≢ text x.0) ys
        from [] ins others = All-nil (λ y. text y.0 ≢ text x.0)
        from (y ∷ ys) ins others =
            All-cons (λ z. text z.0 ≢ text x.0) y ys
            (λ is. cc (sym ((tells x.0 y.0 (All-head InRange x xs all).0 (All-head InRange y ys ins).0).1 (sym is)) ∙ others.0))
            (from ys (All-tail InRange y ys ins) others.1)

    -- what is written of all that a walk shows
    module _ {S : Type 0} (rest : S → List (K × V)) (s : S) (ys : List (K × V)) (is : rest s ≡ ys) (apart : IsDistinct same (keys_of ys)) where
      all_shown : (xs : List (Bor K × Bor V)) → Drains (YieldsFirstBy pair_shown rest) s xs → map pair_shown xs ≡ ys
      all_shown xs shown = shown_to_end pair_shown rest s xs shown ∙ is

      pub written_in_range : (xs : List (Bor K × Bor V)) → Drains (YieldsFirstBy pair_shown rest) s xs → All (λ x. InRange (pair_shown x)) xs → All InRange ys
      written_in_range xs shown all = subst (All InRange) (all_shown xs shown) (All-map InRange pair_shown xs all)

      pub written_object : (xs : List (Bor K × Bor V)) → Drains (YieldsFirstBy pair_shown rest) s xs → All (λ x. InRange (pair_shown x)) xs → (d : Data)
          → d ≡ object (members_with text value no_members (map pair_shown xs)) → IsObjectOf text value ys d
      written_object xs shown all d written =
          subst (IsObjectOf text value ys) (sym (written ∙ ap (λ l. object (members_with text value no_members l)) (all_shown xs shown)))
          (objects_have_their_pairs K V text value ys (distinct_apart ys (written_in_range xs shown all) apart))
