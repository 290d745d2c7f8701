-- What the words of a map that rests show: its tables can be counted, and their pairs are those of the map, in some order.
use Rattle.std.specs.Prelude.{◌⊎◌, ◌≤◌, zero, suc, is_some, IsTrue, IfOk, IfErr, OnOk, OnErr, None}
use Rattle.std.specs.List.{IsDistinct}
use Rattle.std.specs.List.Sorted.{IsPermutation}
use Rattle.std.specs.Map.{keys_of}
use Rattle.std.proofs.Common.{◌≡◌, ℕ, Bool, List, [], ◌++◌, Option, Some, Result, Ok, Err, length, filter, refl, ap, sym, subst, ◌∙◌, inl, inr}
use Rattle.std.proofs.lemmas.List.Sorted.{IsPermutation-refl, IsPermutation-sym, IsPermutation-trans, IsPermutation-append_left, IsPermutation-append_right, length_permutation}
use Rattle.seize_words.specs.declared.at.At.TheVariants.{Root}
use Rattle.seize_words.specs.OneMemory.Mem.{Mem, value_at, word_at}
use Rattle.seize_words.specs.OneMemory.Word.{block_in}
use Rattle.seize_words.specs.declared.fault.Fault.{Fault}
use Rattle.seize_words.specs.declared.fault.Fault.TheVariants.{Capacity}
use Rattle.map_tables.specs.declared.node.Node.{Node}
use Rattle.map_tables.specs.declared.setting.Setting.{Setting}
use Rattle.map_tables.specs.Chunks.{is_incremental}
use Rattle.map_straight.specs.Given.RuleWords.{root_word}
use Rattle.owner_calls.specs.Owned.Rooms.{CannotMakeRoom, HasRoomFor, NeedTooMany, RepresentTables}
use Rattle.papaya_raw.specs.Given.ReservesReserve.{needed}
use Rattle.owner_rests.proofs.Given.{one_each_below, keeps_by_test, holds_stands, holds_moves_none, holds_pairs}
use Rattle.map_straight.specs.Shown.Chain.{CannotGrow, CannotGrowIn, CountsTables, FirstHas, HasTables, behind, one_count, pairs_from_root, pairs_on, root_link, shape_of, shapes_on, word_or_none}
use Rattle.map_straight.specs.Shown.Shown.{NoneMoves, HasMap, pairs_stored}
use Rattle.map_straight.proofs.Shown.Chains.{root_counts, all_shown}
use denote.Ref.{Bor}
use Rattle.std.specs.Fn.{Mut}
use Rattle.owner_rests.specs.Given.{HasOneTable, HoldsOn, Holds, found_by, AnswersByTest, KeepsOf}
use Rattle.owner_rests.specs.ShowsPairs.Maps.{Map, pairs_shown, tables_shown}
use Rattle.owner_asks.specs.Pairs.Orders.{IsOneClass}
use Rattle.owner_asks.proofs.Pairs.Orders.{apart_same, found_same, kept_in_any_order, none_left}
use Rattle.owner_rests.proofs.ShowsPairs.Ordered.{apart_each, keeps_same}

module _ {K V : Type 0} (same : K → K → Bool) (hash : K → ℕ) (setting : Setting) (m : Mem (Node K V)) (xs : List (K × V)) (h : Holds same hash setting m xs) where
  stands : HasMap same hash m setting h.chart h.blocks
  stands = holds_stands same hash setting m xs h

  first_there : word_at m (Root setting.root) ≡ Some (root_word hash h.chart h.blocks)
  first_there = stands.map.shows.root_there

  first_is : root_word hash h.chart h.blocks ≡ root_link m setting
  first_is = sym (ap word_or_none first_there)

  pub counts : CountsTables m (root_link m setting)
  counts = subst (CountsTables m) first_is (root_counts same hash m setting h.chart h.blocks stands (root_word hash h.chart h.blocks) first_there)

  -- no two of its keys are equal
  pub keys_apart : IsDistinct same (keys_of xs)
  keys_apart = apart_each same xs (one_each_below same hash h.lawful setting h.world h.chart h.blocks h.rests.together.ground.map h.chart.stored xs h.are)

  module _ (tables : CountsTables m (root_link m setting)) where
    abbrev pairs : List (K × V)
    pairs = pairs_shown m setting tables

    pub shown : IsPermutation pairs xs
    unfolding pairs_shown
    shown =
        subst (IsPermutation (pairs_from_root m setting tables.0)) (sym (holds_pairs same hash setting m xs h))
        (subst (λ link. IsPermutation (pairs_on m (is_incremental setting.mode) tables.0 link) (pairs_stored m h.chart h.blocks h.chart.stored)) first_is
        (all_shown same hash m setting h.chart h.blocks stands (root_word hash h.chart h.blocks) first_there h.incremental
        (subst (λ b. NoneMoves b h.chart) (sym h.incremental) (holds_moves_none same hash setting m xs h h.incremental)) tables.0 (subst (HasTables m tables.0) (sym first_is) tables.1)))

    pub shown_as : (ys : List (K × V)) → IsPermutation xs ys → IsPermutation pairs ys
    shown_as ys order = IsPermutation-trans pairs xs ys shown order

    -- as a caller sees it
    module _ {S : Type 0} {held : List (K × V)} {shapes : List (ℕ × ℕ)} (hasher : S) (taken met : Option (K × V)) (map : Map K V S) (is : ◌≡◌ {A = Map K V S} (record { pairs = pairs; hasher = hasher; taken = taken; met = met; held = held; tables = shapes }) map) where
      its_pairs : pairs ≡ map.pairs
      its_pairs = ap (λ (x : Map K V S). x.pairs) is

      pub seen : IsPermutation map.pairs xs
      seen = subst (λ ys. IsPermutation ys xs) its_pairs shown

      pub seen_held : IsPermutation xs map.pairs
      seen_held = IsPermutation-sym map.pairs xs seen

      its_held : held ≡ map.held
      its_held = ap (λ (x : Map K V S). x.held) is

      -- what is kept of what was held
      pub seen_keeps : (stored after : List (K × V)) → HoldsOn stored xs held after → HoldsOn stored map.pairs map.held after
      seen_keeps stored after (waiting, given, before, later) = (
        waiting,
        given,
        IsPermutation-trans map.held (xs ++ (waiting ++ given)) (map.pairs ++ (waiting ++ given)) (subst (λ (l : List (K × V)). IsPermutation l (xs ++ (waiting ++ given))) its_held before)
            (IsPermutation-append_left (waiting ++ given) xs map.pairs seen_held),
        IsPermutation-trans after (stored ++ (xs ++ waiting)) (stored ++ (map.pairs ++ waiting)) later
            (IsPermutation-append_right stored (xs ++ waiting) (map.pairs ++ waiting) (IsPermutation-append_left waiting xs map.pairs seen_held)),
      )

      pub seen_among : HoldsOn [] xs held held → (waiting : List (K × V)) × IsPermutation map.held (map.pairs ++ waiting)
      seen_among on = let k = seen_keeps [] held on in (k.0 ++ k.1, k.2)

      pub seen_as_many : length xs ≡ length map.pairs
      seen_as_many = length_permutation map.pairs xs seen

      pub seen_apart : IsDistinct same (keys_of map.pairs)
      seen_apart = apart_same same h.lawful.lawful.classes xs map.pairs keys_apart seen_held

      module _ (keys : K → Bool) (class : IsOneClass same keys) where
        -- what is found among them, in whatever order they are
        pub seen_found : (ys : List (K × V)) → IsPermutation map.pairs ys → found_by keys ys ≡ found_by keys xs
        seen_found ys order = found_same same h.lawful.lawful.classes keys class xs ys keys_apart (IsPermutation-trans xs map.pairs ys seen_held order)

        pub seen_first : found_by keys map.pairs ≡ found_by keys xs
        seen_first = seen_found map.pairs (IsPermutation-refl map.pairs)

-- what a walk has to come is what the words show
pub all_shown_as : {K V : Type 0} (m : Mem (Node K V)) (setting : Setting) (tables : CountsTables m (root_link m setting)) (xs : List (K × V)) → xs ≡ pairs_from_root m setting tables.0
    → xs ≡ pairs_shown m setting tables
unfolding pairs_shown
all_shown_as m setting tables xs is = is

-- where no table can follow the last one, the words show that
pub cannot_grow : {K V : Type 0} (m : Mem (Node K V)) (setting : Setting) (tables : CountsTables m (root_link m setting)) → CannotGrowIn m setting → CannotGrow (tables_shown m setting tables)
unfolding tables_shown
cannot_grow m setting tables (counted, cannot) =
    subst (λ (n : ℕ). CannotGrow (shapes_on m n (root_link m setting))) (one_count m counted.0 tables.0 (root_link m setting) counted.1 tables.1) cannot

-- where the root has so many places, the words show that
pub first_has : {K V : Type 0} (m : Mem (Node K V)) (setting : Setting) (tables : CountsTables m (root_link m setting)) (additional count count2 : ℕ) → count ≡ count2 → HasRoomFor setting m additional count
    → FirstHas (needed additional count2) (tables_shown m setting tables)
unfolding tables_shown
first_has m setting (zero, none) additional count count2 same room = absurd (room.there (sym (ap word_or_none room.root_is) ∙ none))
first_has m setting (suc n, has) additional count count2 same room =
    let at_root = ap (λ (link : ℕ). value_at m (block_in link)) (ap word_or_none room.root_is) ∙ room.table in
    subst (λ (k : ℕ). needed additional k ≤ (shape_of (value_at m (block_in (root_link m setting)))).0) same
    (subst (λ (len : ℕ). needed additional count ≤ len) (sym (ap (λ (shape : ℕ × ℕ). shape.0) (ap shape_of at_root))) room.places)

-- of a map that was just made they show the tables that it was made with
pub made_shown : {K V : Type 0} (m : Mem (Node K V)) (setting : Setting) (tables : CountsTables m (root_link m setting)) (shapes shapes2 : List (ℕ × ℕ)) → RepresentTables setting m shapes → shapes ≡ shapes2
    → tables_shown m setting tables ≡ shapes2
unfolding tables_shown
made_shown m setting tables shapes shapes2 (counted, are) same =
    ap (λ (n : ℕ). shapes_on m n (root_link m setting)) (one_count m tables.0 counted.0 (root_link m setting) tables.1 counted.1) ∙ are ∙ same

-- and so a reservation is refused
pub room_shown : {K V T : Type 0} (m : Mem (Node K V)) (setting : Setting) (tables : CountsTables m (root_link m setting)) (additional count count2 : ℕ) → count ≡ count2 → (r : Result T Fault)
    → IfErr r (λ (fault : Fault). fault ≡ Capacity → CannotMakeRoom setting m additional count)
    → IfErr r (λ (fault : Fault). fault ≡ Capacity → CannotGrow (tables_shown m setting tables) ⊎ NeedTooMany additional count2)
room_shown m setting tables additional count count2 same (Ok x) so = tt
room_shown m setting tables additional count count2 same (Err fault) so = λ long. by (so long)
  where
    by : CannotMakeRoom setting m additional count → CannotGrow (tables_shown m setting tables) ⊎ NeedTooMany additional count2
    by (inl cannot) = inl (cannot_grow m setting tables cannot)
    by (inr many) = inr (subst (λ (n : ℕ). NeedTooMany additional n) same many)

-- where they show one table at most, the map has no more
shapes_len : {K V : Type 0} (m : Mem (Node K V)) (tables link : ℕ) → length (shapes_on m tables link) ≡ tables
shapes_len m zero link = refl
shapes_len m (suc tables) link = ap suc (shapes_len m tables (behind m link))

pub one_shown : {K V S : Type 0} {pairs held : List (K × V)} {hasher : S} {taken met : Option (K × V)} (m : Mem (Node K V)) (setting : Setting) (tables : CountsTables m (root_link m setting)) (map : Map K V S)
    → ◌≡◌ {A = Map K V S} (record { pairs = pairs; hasher = hasher; taken = taken; met = met; held = held; tables = tables_shown m setting tables }) map → length map.tables ≤ 1 → HasOneTable setting m
unfolding tables_shown
one_shown {K} {V} {S} m setting tables map is few =
    (tables, subst (λ (n : ℕ). n ≤ 1) (shapes_len m tables.0 (root_link m setting)) (subst (λ (x : Map K V S). length x.tables ≤ 1) (sym is) few))

-- and where the map has no more, they show no more
pub few_shown : {K V : Type 0} (m : Mem (Node K V)) (setting : Setting) (tables : CountsTables m (root_link m setting)) → HasOneTable setting m → length (tables_shown m setting tables) ≤ 1
unfolding tables_shown
few_shown m setting tables (counted, few) =
    subst (λ (n : ℕ). n ≤ 1) (one_count m counted.0 tables.0 (root_link m setting) counted.1 tables.1 ∙ sym (shapes_len m tables.0 (root_link m setting))) few

-- for that a change is refused for the length of a table
pub capacity_shown : {K V T E : Type 0} (m : Mem (Node K V)) (setting : Setting) (tables : CountsTables m (root_link m setting)) (fault_of : E → Fault) (r : Result T E)
    → IfErr r (λ e. fault_of e ≡ Capacity → CannotGrowIn m setting) → IfErr r (λ e. fault_of e ≡ Capacity → CannotGrow (tables_shown m setting tables))
capacity_shown m setting tables fault_of (Ok x) so = tt
capacity_shown m setting tables fault_of (Err e) so = λ long. cannot_grow m setting tables (so long)

-- after a change
module _ {K V : Type 0} (same : K → K → Bool) (hash : K → ℕ) (setting : Setting) (m : Mem (Node K V)) where
  -- whatever it has come to, the map rests with some pairs
  abbrev pub Rests : Type 0
  Rests = (xs : List (K × V)) × Holds same hash setting m xs

  pub either_rests : {T E : Type 0} (r : Result T E) (ys zs : List (K × V)) → OnOk r (Holds same hash setting m ys) → OnErr r (Holds same hash setting m zs) → Rests
  either_rests (Ok x) ys zs done refused = (ys, done)
  either_rests (Err e) ys zs done refused = (zs, refused)

  pub some_rest : {T E : Type 0} (P : List (K × V) → Type 0) (r : Result T E) (zs : List (K × V)) → OnOk r ((ys : List (K × V)) × P ys × Holds same hash setting m ys)
      → OnErr r (Holds same hash setting m zs) → Rests
  some_rest P (Ok x) zs done refused = (done.0, done.2)
  some_rest P (Err e) zs done refused = (zs, refused)

  -- and its words show them
  module _ (tables : CountsTables m (root_link m setting)) where
    pub shows_done : {T E : Type 0} (r : Result T E) (ys zs : List (K × V)) → IsPermutation ys zs → OnOk r (Holds same hash setting m ys) → OnOk r (IsPermutation (pairs_shown m setting tables) zs)
    shows_done (Ok x) ys zs order h = shown_as same hash setting m ys h tables zs order
    shows_done (Err e) ys zs order none = tt

    pub shows_refused : {T E : Type 0} (r : Result T E) (ys zs : List (K × V)) → IsPermutation ys zs → OnErr r (Holds same hash setting m ys)
        → OnErr r (IsPermutation (pairs_shown m setting tables) zs)
    shows_refused (Ok x) ys zs order none = tt
    shows_refused (Err e) ys zs order h = shown_as same hash setting m ys h tables zs order

    pub shows_none : {T E : Type 0} (r : Result T E) → OnOk r (Holds same hash setting m []) → OnOk r (pairs_shown m setting tables ≡ [])
    shows_none (Ok x) h = none_left (pairs_shown m setting tables) (shown same hash setting m [] h tables)
    shows_none (Err e) none = tt

    pub shows_stored : {T F E : Type 0} (keys : K → Bool) (xs zs more : List (K × V)) → found_by keys zs ≡ found_by keys xs → IsPermutation xs zs → (r : Result (Result T F) E)
        → IfOk r (λ tried. OnOk tried ((found_by keys xs ≡ None) × Holds same hash setting m (xs ++ more)))
        → IfOk r (λ tried. OnOk tried ((found_by keys zs ≡ None) × IsPermutation (pairs_shown m setting tables) (zs ++ more)))
    shows_stored keys xs zs more is order (Ok (Ok x)) d = (is ∙ d.0, shown_as same hash setting m (xs ++ more) d.1 tables (zs ++ more) (IsPermutation-append_left more xs zs order))
    shows_stored keys xs zs more is order (Ok (Err f)) d = tt
    shows_stored keys xs zs more is order (Err e) d = tt

    pub shows_found : {T F E : Type 0} (keys : K → Bool) (xs zs : List (K × V)) → found_by keys zs ≡ found_by keys xs → IsPermutation xs zs → (r : Result (Result T F) E)
        → IfOk r (λ tried. OnErr tried (IsTrue (is_some (found_by keys xs)) × Holds same hash setting m xs))
        → IfOk r (λ tried. OnErr tried (IsTrue (is_some (found_by keys zs)) × IsPermutation (pairs_shown m setting tables) zs))
    shows_found keys xs zs is order (Ok (Ok x)) d = tt
    shows_found keys xs zs is order (Ok (Err f)) d = (subst (λ o. IsTrue (is_some o)) (sym is) d.0, shown_as same hash setting m xs d.1 tables zs order)
    shows_found keys xs zs is order (Err e) d = tt

    module _ {F : Type 0} (g : Mut F (Bor K × (Bor V × Unit {0})) Bool) (f : F) (xs zs : List (K × V)) (order : IsPermutation xs zs) where
      pub shows_kept : {T E : Type 0} (r : Result T E) → OnOk r ((kept : List (K × V)) × KeepsOf g f xs kept × Holds same hash setting m kept)
          → OnOk r ((kept : List (K × V)) × KeepsOf g f zs kept × IsPermutation (pairs_shown m setting tables) kept)
      shows_kept (Ok x) d = let k = keeps_same g f xs zs d.0 order d.1 in (k.0, k.1, shown_as same hash setting m d.0 d.2 tables k.0 k.2)
      shows_kept (Err e) none = tt

      pub shows_passing : {T E : Type 0} (test : K → V → Bool) → AnswersByTest g test f → (r : Result T E) → OnOk r ((kept : List (K × V)) × KeepsOf g f xs kept × Holds same hash setting m kept)
          → OnOk r (IsPermutation (pairs_shown m setting tables) (filter (λ x. test x.0 x.1) zs))
      shows_passing test so (Ok x) d =
          shown_as same hash setting m d.0 d.2 tables (filter (λ x. test x.0 x.1) zs)
          (subst (λ kept. IsPermutation kept (filter (λ x. test x.0 x.1) zs)) (sym (keeps_by_test g test f so xs d.0 d.1)) (kept_in_any_order (λ x. test x.0 x.1) xs zs order))
      shows_passing test so (Err e) none = tt

-- what was told of a call is so of the pairs in another order
pub told_same : {K V E : Type 0} (keys : K → Bool) (xs zs : List (K × V)) → found_by keys zs ≡ found_by keys xs → (r : Result Bool E) → IfOk r (λ was. was ≡ is_some (found_by keys xs))
    → IfOk r (λ was. was ≡ is_some (found_by keys zs))
told_same keys xs zs is (Ok was) so = so ∙ sym (ap is_some is)
told_same keys xs zs is (Err e) none = tt
