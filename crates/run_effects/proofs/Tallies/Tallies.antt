-- What is told of pairs and tables stays so by each effect.
use Rattle.std.specs.Prelude.{◌≡◌, ℕ, suc, ◌==◌, ◌||◌, not, Bool, true, false, List, [], ◌∷◌, ◌++◌, length, drop, filter, map, Option, Some, None, Result, Ok, Err, OnOk, slice_index_or, slice_set, take, if◌then◌else◌}
use Rattle.std.proofs.Common.{refl, sym, ap, subst, ◌∙◌, ◌<◌, ◌≤◌, ◌+◌, zero, arith}
use Rattle.std.proofs.lemmas.List.{at_drop_more, at_drop_all, map-append}
use Rattle.run_schedules.specs.declared.shapes.TableShape.{TableShape}
use Rattle.run_schedules.specs.declared.effect.Effect.{Effect}
use Rattle.run_schedules.specs.declared.effect.Effect.TheVariants as effect
use Rattle.run_schedules.specs.declared.effect.Spot.{Spot}
use Rattle.run_schedules.specs.declared.effect.TableId.{TableId}
use Rattle.run_schedules.specs.declared.effect.Thing.{Thing}
use Rattle.run_schedules.specs.Schedules.Effects.{all_at, at_stage, deferred_by, in_map, place_by, tables_by, with_effects}
use Rattle.run_schedules.specs.Schedules.Lists.{is_among, put}
use Rattle.run_schedules.specs.Schedules.Moment.{Place, Stage, Deferral, TableThere, Moment}
use Rattle.run_schedules.specs.Schedules.Moment as at
use Rattle.run_schedules.specs.Schedules.Things.{same_table}
use Rattle.run_schedules.specs.Schedules.Views.{behind, is_retired}
use Rattle.run_effects.specs.Tallies.Places.{Comes, Leads}
use Rattle.run_effects.specs.Tallies.Tally.{Records, RecordsAll, RecordsMoment, RecordsNext, deferral, flag_of, flagged, numbers_behind, stored_in, all_recorded, whereabouts_of}
use Rattle.run_effects.specs.declared.tally.Behind.{Behind}
use Rattle.run_effects.specs.declared.tally.Flagged.{Flagged}
use Rattle.run_effects.specs.declared.tally.Tally.{Tally}
use Rattle.run_effects.specs.declared.tally.Whereabouts.{Whereabouts}
use Rattle.run_effects.specs.declared.tally.Whereabouts.TheVariants.{Unborn, Waits}
use Rattle.run_effects.proofs.Tallies.Leading.{leads_then, same_leads, still_leads}

pub ok_so : {X E : Type 0} (r : Result X E) (P Q : Type 0) → OnOk r P → (P → Q) → OnOk r Q
ok_so (Ok x) P Q p f = f p
ok_so (Err e) P Q p f = tt

pub ok_both : {X E : Type 0} (r : Result X E) (P Q R : Type 0) → OnOk r P → OnOk r Q → (P → Q → R) → OnOk r R
ok_both (Ok x) P Q R p q f = f p q
ok_both (Err e) P Q R p q f = tt

pub ok_all : {X E : Type 0} (r : Result X E) (P Q R Z : Type 0) → OnOk r P → OnOk r Q → OnOk r R → (P → Q → R → Z) → OnOk r Z
ok_all (Ok x) P Q R Z p q s f = f p q s
ok_all (Err e) P Q R Z p q s f = tt

pub ok_four : {X E : Type 0} (r : Result X E) (P Q R W Z : Type 0) → OnOk r P → OnOk r Q → OnOk r R → OnOk r W → (P → Q → R → W → Z) → OnOk r Z
ok_four (Ok x) P Q R W Z p q s w f = f p q s w
ok_four (Err e) P Q R W Z p q s w f = tt

-- what waits behind a table, in both words
behind_is : (t : TableId) (ws : List Behind) → numbers_behind t ws ≡ behind t (map deferral ws)
behind_is t [] = refl
behind_is t (w ∷ ws) = by (same_table w.table t) (behind_is t ws)
  where
    by : (b : Bool) → numbers_behind t ws ≡ behind t (map deferral ws)
        → map (λ x. x.pair) (if b then w ∷ filter (λ x. same_table x.table t) ws else filter (λ x. same_table x.table t) ws)
        ≡ map (λ d. d.pair) (if b then deferral w ∷ filter (λ d. same_table d.behind t) (map deferral ws) else filter (λ d. same_table d.behind t) (map deferral ws))
    by true ih = ap (λ (l : List ℕ). w.pair ∷ l) ih
    by false ih = ih

-- and what waits behind any other one
without_is : (t : TableId) (ws : List Behind) → map deferral (filter (λ w. not (same_table w.table t)) ws) ≡ filter (λ d. not (same_table d.behind t)) (map deferral ws)
without_is t [] = refl
without_is t (w ∷ ws) = by (same_table w.table t) (without_is t ws)
  where
    by : (b : Bool) → map deferral (filter (λ x. not (same_table x.table t)) ws) ≡ filter (λ d. not (same_table d.behind t)) (map deferral ws)
        → map deferral (if not b then w ∷ filter (λ x. not (same_table x.table t)) ws else filter (λ x. not (same_table x.table t)) ws)
        ≡ (if not b then deferral w ∷ filter (λ d. not (same_table d.behind t)) (map deferral ws) else filter (λ d. not (same_table d.behind t)) (map deferral ws))
    by true ih = ih
    by false ih = ap (λ (l : List Deferral). deferral w ∷ l) ih

-- a table at another stage has another flag
flag_so : (t : TableId) (stage : Stage) (flag : Bool) → is_retired stage ≡ flag → (u : TableThere) → flagged t flag (flag_of u) ≡ flag_of (at_stage t stage u)
flag_so t stage flag is u = by (same_table u.table t)
  where
    by : (b : Bool) → (if b then record (flag_of u) { is_retired = flag } else flag_of u) ≡ flag_of (if b then record u { stage = stage } else u)
    by true = ap (λ (q : Bool). record (flag_of u) { is_retired = q }) (sym is)
    by false = refl

flags_so : (t : TableId) (stage : Stage) (flag : Bool) → is_retired stage ≡ flag → (tables : List TableThere) → map (flagged t flag) (map flag_of tables) ≡ map flag_of (map (at_stage t stage) tables)
flags_so t stage flag is [] = refl
flags_so t stage flag is (u ∷ tables) = λ i. flag_so t stage flag is u i ∷ flags_so t stage flag is tables i

module _ (old new : Tally) (place : ℕ → Place) (deferred : List Deferral) (tables : List TableThere) (tells : Records old place deferred tables) where
  -- one table has another flag
  reflagged_leads : (t : TableId) (flag : Bool) → new.tables.items ≡ map (flagged t flag) old.tables.items → new.places ≡ old.places → Leads new.places new.tables.items
  reflagged_leads t flag tables_then places_same =
      same_leads old.places new.places (map (flagged t flag) old.tables.items) new.tables.items places_same tables_then (still_leads old.places t flag old.tables.items tells.places)

  -- a pair is put somewhere
  pub put_tells : (n : ℕ) (there : Whereabouts) (to : Place) → there ≡ whereabouts_of to
      → ((k : ℕ) → slice_index_or new.pairs.items k Unborn ≡ (if k == n then there else slice_index_or old.pairs.items k Unborn)) → new.behind.items ≡ old.behind.items → new.tables.items ≡ old.tables.items
      → new.places ≡ old.places → Records new (put n to place) deferred tables
  put_tells n there to is pairs behind_same tables_same places_same = record {
    pairs = λ k. pairs k ∙ by (k == n) k;
    behind = ap (map deferral) behind_same ∙ tells.behind;
    flags = tables_same ∙ tells.flags;
    places = same_leads old.places new.places old.tables.items new.tables.items places_same tables_same tells.places;
  }
    where
      by : (b : Bool) (k : ℕ) → (if b then there else slice_index_or old.pairs.items k Unborn) ≡ whereabouts_of (if b then to else place k)
      by true k = is
      by false k = tells.pairs k

  -- or behind a table
  pub behind_tells : (n : ℕ) (t : TableId) → ((k : ℕ) → slice_index_or new.pairs.items k Unborn ≡ (if k == n then Waits else slice_index_or old.pairs.items k Unborn))
      → new.behind.items ≡ record { pair = n; table = t } ∷ old.behind.items → new.tables.items ≡ old.tables.items → new.places ≡ old.places → Records new (put n at.Behind place) (record { pair = n; behind = t } ∷ deferred) tables
  behind_tells n t pairs behind_more tables_same places_same = record {
    pairs = λ k. pairs k ∙ by (k == n) k;
    behind = ap (map deferral) behind_more ∙ ap (λ (l : List Deferral). record { pair = n; behind = t } ∷ l) tells.behind;
    flags = tables_same ∙ tells.flags;
    places = same_leads old.places new.places old.tables.items new.tables.items places_same tables_same tells.places;
  }
    where
      by : (b : Bool) (k : ℕ) → (if b then Waits else slice_index_or old.pairs.items k Unborn) ≡ whereabouts_of (if b then at.Behind else place k)
      by true k = refl
      by false k = tells.pairs k

  -- a table goes, with what waits behind it
  pub gone_tells : (t : TableId) (to : Place) → Waits ≡ whereabouts_of to → (stage : Stage) → is_retired stage ≡ false
      → ((k : ℕ) → slice_index_or new.pairs.items k Unborn ≡ (if is_among k (numbers_behind t old.behind.items) then Waits else slice_index_or old.pairs.items k Unborn))
      → new.behind.items ≡ filter (λ w. not (same_table w.table t)) old.behind.items
      → (Leads old.places old.tables.items → new.tables.items ≡ map (flagged t false) old.tables.items) → new.places ≡ old.places
      → Records new (all_at to (behind t deferred) place) (filter (λ d. not (same_table d.behind t)) deferred) (map (at_stage t stage) tables)
  gone_tells t to is stage not_retired pairs behind_less tables_then places_same = record {
    pairs = λ k. pairs k ∙ ap (λ (l : List ℕ). if is_among k l then Waits else slice_index_or old.pairs.items k Unborn) (behind_is t old.behind.items ∙ ap (behind t) tells.behind) ∙ by (is_among k (behind t deferred)) k;
    behind = ap (map deferral) behind_less ∙ without_is t old.behind.items ∙ ap (filter (λ d. not (same_table d.behind t))) tells.behind;
    flags = tables_then tells.places ∙ ap (map (flagged t false)) tells.flags ∙ flags_so t stage false not_retired tables;
    places = reflagged_leads t false (tables_then tells.places) places_same;
  }
    where
      by : (b : Bool) (k : ℕ) → (if b then Waits else slice_index_or old.pairs.items k Unborn) ≡ whereabouts_of (if b then to else place k)
      by true k = is
      by false k = tells.pairs k

  -- a table is retired
  pub retired_tells : (t : TableId) → new.pairs.items ≡ old.pairs.items → new.behind.items ≡ old.behind.items
      → (Leads old.places old.tables.items → new.tables.items ≡ map (flagged t true) old.tables.items) → new.places ≡ old.places → Records new place deferred (map (at_stage t at.IsRetired) tables)
  retired_tells t pairs behind_same tables_then places_same = record {
    pairs = λ k. ap (λ (l : List Whereabouts). slice_index_or l k Unborn) pairs ∙ tells.pairs k;
    behind = ap (map deferral) behind_same ∙ tells.behind;
    flags = tables_then tells.places ∙ ap (map (flagged t true)) tells.flags ∙ flags_so t at.IsRetired true refl tables;
    places = reflagged_leads t true (tables_then tells.places) places_same;
  }

  -- or comes
  pub linked_tells : (t : TableId) (shape : TableShape) → new.pairs.items ≡ old.pairs.items → new.behind.items ≡ old.behind.items
      → new.tables.items ≡ old.tables.items ++ record { table = t; is_retired = false } ∷ [] → Comes t (length old.tables.items) old.places new.places → Records new place deferred (tables ++ record { table = t; shape = shape; stage = at.IsLinked } ∷ [])
  linked_tells t shape pairs behind_same tables_then comes = record {
    pairs = λ k. ap (λ (l : List Whereabouts). slice_index_or l k Unborn) pairs ∙ tells.pairs k;
    behind = ap (map deferral) behind_same ∙ tells.behind;
    flags = tables_then ∙ ap (λ (l : List Flagged). l ++ record { table = t; is_retired = false } ∷ []) tells.flags
        ∙ sym (map-append flag_of tables (record { table = t; shape = shape; stage = at.IsLinked } ∷ []));
    places = subst (Leads new.places) (sym tables_then) (leads_then t (length old.tables.items) old.places new.places comes old.tables.items refl tells.places);
  }

-- where a pair is stored
pub stored_so : (map : Option ℕ) → stored_in map ≡ whereabouts_of (in_map map)
stored_so (Some n) = refl
stored_so None = refl

-- no other effect moves a pair or a table
pub other_tells : (map : Option ℕ) (t : Tally) (f : Effect) → ((n : ℕ) (s : Spot) → f ≡ effect.Stored n s → ⊥) → ((n : ℕ) → f ≡ effect.Replaced n → ⊥) → ((n : ℕ) → f ≡ effect.Removed n → ⊥)
    → ((n : ℕ) (b : TableId) → f ≡ effect.Deferred n b → ⊥) → ((x : Thing) → f ≡ effect.Retired x → ⊥) → ((x : Thing) → f ≡ effect.Reclaimed x → ⊥) → ((n : ℕ) → f ≡ effect.Ended n → ⊥)
    → ((b : TableId) → f ≡ effect.Taken b → ⊥) → ((b : TableId) (shape : TableShape) → f ≡ effect.Linked b shape → ⊥) → RecordsNext map f t t
other_tells map t (effect.Stored n s) a b c d e h i j k = absurd (a n s refl)
other_tells map t (effect.Replaced n) a b c d e h i j k = absurd (b n refl)
other_tells map t (effect.Removed n) a b c d e h i j k = absurd (c n refl)
other_tells map t (effect.Deferred n u) a b c d e h i j k = absurd (d n u refl)
other_tells map t (effect.Retired x) a b c d e h i j k = absurd (e x refl)
other_tells map t (effect.Reclaimed x) a b c d e h i j k = absurd (h x refl)
other_tells map t (effect.Ended n) a b c d e h i j k = absurd (i n refl)
other_tells map t (effect.Taken u) a b c d e h i j k = absurd (j u refl)
other_tells map t (effect.Linked u shape) a b c d e h i j k = absurd (k u shape refl)
other_tells map t (effect.Asked growth) a b c d e h i j k = λ place deferred tables tells. tells
other_tells map t effect.PairMade a b c d e h i j k = λ place deferred tables tells. tells
other_tells map t effect.PairGivenUp a b c d e h i j k = λ place deferred tables tells. tells
other_tells map t (effect.TableMade u) a b c d e h i j k = λ place deferred tables tells. tells
other_tells map t (effect.TableGivenUp u) a b c d e h i j k = λ place deferred tables tells. tells
other_tells map t (effect.Promoted u) a b c d e h i j k = λ place deferred tables tells. tells
other_tells map t (effect.Copied n s) a b c d e h i j k = λ place deferred tables tells. tells
other_tells map t (effect.Counted s) a b c d e h i j k = λ place deferred tables tells. tells

-- The effects of an event, one after another, are told as the moment with them says.
pub all_told : {K V : Type 0} (caller : Option (List ℕ)) (map : Option ℕ) (effects : List Effect) (m : Moment K V)
    → all_recorded map effects (m.place, m.deferred, m.tables) ≡ (let w = with_effects caller map effects m in (w.place, w.deferred, w.tables))
all_told caller map [] m = refl
all_told caller map (f ∷ effects) m = all_told caller map effects _

pub told_moment : {K V : Type 0} (caller : Option (List ℕ)) (map : Option ℕ) (effects : List Effect) (m : Moment K V) (t : Tally)
    → (let so = all_recorded map effects (m.place, m.deferred, m.tables) in Records t so.0 so.1 so.2) → RecordsMoment t (with_effects caller map effects m)
told_moment caller map effects m t tells = subst (λ (so : (ℕ → Place) × List Deferral × List TableThere). Records t so.0 so.1 so.2) (all_told caller map effects m) tells

-- Those behind a table, one after another: what is left comes to all.
module _ (t : TableId) (old : ℕ → Whereabouts) (all : List Behind) where
  abbrev pub Releases : List Behind → (ℕ → Whereabouts) → Type 0
  Releases rest now = (n : ℕ) → (if is_among n (numbers_behind t rest) then Waits else now n) ≡ (if is_among n (numbers_behind t all) then Waits else old n)

  one_more : (n : ℕ) (b : Bool) (w : Behind) (rest : List Behind) (now next : ℕ → Whereabouts) → same_table w.table t ≡ b → next n ≡ (if b then (if n == w.pair then Waits else now n) else now n)
      → (if is_among n (numbers_behind t rest) then Waits else next n) ≡ (if is_among n (numbers_behind t (w ∷ rest)) then Waits else now n)
  one_more n true w rest now next is then_is =
      ap (λ x. if is_among n (numbers_behind t rest) then Waits else x) then_is ∙ by (n == w.pair) (is_among n (numbers_behind t rest))
      ∙ sym (ap (λ q. if is_among n (map (λ x. x.pair) (if q then w ∷ filter (λ x. same_table x.table t) rest else filter (λ x. same_table x.table t) rest)) then Waits else now n) is)
    where
      by : (a b : Bool) → (if b then Waits else (if a then Waits else now n)) ≡ (if a || b then Waits else now n)
      by true true = refl
      by true false = refl
      by false true = refl
      by false false = refl
  one_more n false w rest now next is then_is =
      ap (λ x. if is_among n (numbers_behind t rest) then Waits else x) then_is
      ∙ sym (ap (λ q. if is_among n (map (λ x. x.pair) (if q then w ∷ filter (λ x. same_table x.table t) rest else filter (λ x. same_table x.table t) rest)) then Waits else now n) is)

  pub releases_next : (i : ℕ) (w : Behind) → i < length all → w ≡ slice_index_or all i w → (now next : ℕ → Whereabouts) → Releases (drop i all) now
      → (b : Bool) → same_table w.table t ≡ b → ((n : ℕ) → next n ≡ (if b then (if n == w.pair then Waits else now n) else now n)) → Releases (drop (i + 1) all) next
  releases_next i w inside is now next so_far b told then_is = λ n.
      one_more n b w (drop (i + 1) all) now next told (then_is n)
      ∙ sym (at_drop_more (λ l. if is_among n (numbers_behind t l) then Waits else now n) all i w inside ∙ ap (λ x. if is_among n (numbers_behind t (x ∷ drop (i + 1) all)) then Waits else now n) (sym is))
      ∙ so_far n

  pub releases_all : (i : ℕ) → length all ≤ i → (now : ℕ → Whereabouts) → Releases (drop i all) now → (n : ℕ) → now n ≡ (if is_among n (numbers_behind t all) then Waits else old n)
  releases_all i past now so_far n = sym (at_drop_all (λ l. if is_among n (numbers_behind t l) then Waits else now n) all i past) ∙ so_far n

-- Each table in turn is changed.
module _ {X : Type 0} (f : X → X) where
  pub set_next : (xs : List X) (i : ℕ) (x : X) → i < length xs → slice_index_or xs i x ≡ x → slice_set (map f (take i xs) ++ drop i xs) i (f x) ≡ map f (take (suc i) xs) ++ drop (suc i) xs
  set_next [] i x inside is = absurd (omega (arith, inside))
  set_next (y ∷ xs) zero x inside is = ap (λ z. f z ∷ xs) (sym is)
  set_next (y ∷ xs) (suc i) x inside is = ap (λ l. f y ∷ l) (set_next xs i x (omega (arith, inside)) is)

  pub set_all : (xs : List X) (i : ℕ) → length xs ≤ i → map f (take i xs) ++ drop i xs ≡ map f xs
  set_all [] zero past = refl
  set_all [] (suc i) past = refl
  set_all (y ∷ xs) zero past = absurd (omega (arith, past))
  set_all (y ∷ xs) (suc i) past = ap (λ l. f y ∷ l) (set_all xs i (omega (arith, past)))

-- The effects of an event, one after another: what is left comes to all.
module _ (map : Option ℕ) (old : Tally) (all : List Effect) where
  abbrev pub Notes : List Effect → Tally → Type 0
  Notes rest now =
      (place : ℕ → Place) (deferred : List Deferral) (tables : List TableThere) → Records old place deferred tables
      → (place2 : ℕ → Place) × (deferred2 : List Deferral) × (tables2 : List TableThere) × Records now place2 deferred2 tables2
      × (all_recorded map rest (place2, deferred2, tables2) ≡ all_recorded map all (place, deferred, tables))

  pub notes_first : Notes all old
  notes_first place deferred tables tells = (place, deferred, tables, tells, refl)

  pub notes_next : (i : ℕ) (f : Effect) → i < length all → f ≡ slice_index_or all i f → (now next : Tally) → Notes (drop i all) now → RecordsNext map f now next → Notes (drop (i + 1) all) next
  notes_next i f inside is now next so_far noted place deferred tables tells =
      let s = so_far place deferred tables tells in (
        place_by map s.1 f s.0,
        deferred_by f s.1,
        tables_by f s.2,
        noted s.0 s.1 s.2 s.3,
        sym (at_drop_more (λ l. all_recorded map l (s.0, s.1, s.2)) all i f inside ∙ ap (λ x. all_recorded map (x ∷ drop (i + 1) all) (s.0, s.1, s.2)) (sym is)) ∙ s.4,
      )

  pub notes_all : (i : ℕ) → length all ≤ i → (now : Tally) → Notes (drop i all) now → RecordsAll map all old now
  notes_all i past now so_far place deferred tables tells =
      let s = so_far place deferred tables tells in
      subst (λ (so : (ℕ → Place) × List Deferral × List TableThere). Records now so.0 so.1 so.2)
      (sym (at_drop_all (λ l. all_recorded map l (s.0, s.1, s.2)) all i past) ∙ s.4) s.3

-- what is not changed yet is as it was
pub unchanged_at : {X : Type 0} (f : X → X) (xs : List X) (i : ℕ) (d : X) → i < length xs → slice_index_or (map f (take i xs) ++ drop i xs) i d ≡ slice_index_or xs i d
unchanged_at f [] i d inside = absurd (omega (arith, inside))
unchanged_at f (x ∷ xs) zero d inside = refl
unchanged_at f (x ∷ xs) (suc i) d inside = unchanged_at f xs i d (omega (arith, inside))

pub changed_length : {X : Type 0} (f : X → X) (xs : List X) (i : ℕ) → length (map f (take i xs) ++ drop i xs) ≡ length xs
changed_length f [] zero = refl
changed_length f [] (suc i) = refl
changed_length f (x ∷ xs) zero = refl
changed_length f (x ∷ xs) (suc i) = ap suc (changed_length f xs i)
