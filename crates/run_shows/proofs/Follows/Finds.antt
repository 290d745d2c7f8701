-- What the moment that shows a map tells of its tables, and what effects find that move nothing.
use Rattle.std.specs.Prelude.{◌≡◌, ◌≢◌, ℕ, zero, suc, ◌+◌, ◌-◌, ◌<◌, ◌≤◌, ◌==◌, nat_lt, Bool, true, false, ◌&&◌, ◌||◌, List, [], ◌∷◌, ◌++◌, length, filter, Option, Some, if◌then◌else◌, ◌⊎◌}
use Rattle.std.specs.List.{list_any}
use Rattle.std.proofs.Common.{refl, ap, sym, subst, ◌∙◌, arith, inl, inr}
use Rattle.std.proofs.lemmas.Bool.{eq-eqb, cases_eq}
use Rattle.std.proofs.lemmas.List.{length-append}
use Rattle.run_effects.specs.Given.TablesChunks.{is_incremental}
use Rattle.run_effects.specs.Given.TablesDeclared.table_words.TheConstants.{PLACES}
use Rattle.run_effects.specs.Given.RunsDeclared.effect.Effect.{Effect}
use Rattle.run_effects.specs.Given.RunsDeclared.effect.Effect.TheVariants.{Asked, PairMade, PairGivenUp, TableMade, TableGivenUp, Linked, Promoted, Copied, Stored, Replaced, Removed, Counted, Deferred, Retired, Reclaimed, Ended, Taken}
use Rattle.run_effects.specs.Given.SchedulesEffects.{AtEachEffect, with_effect}
use Rattle.run_effects.specs.Given.SchedulesGrowing.{IsNextRoot}
use Rattle.run_effects.specs.Given.SchedulesLives.{IsFrom}
use Rattle.run_effects.specs.Given.SchedulesMoment.{Stage, TableThere, Moment}
use Rattle.run_effects.specs.Given.SchedulesThings.{same_table}
use Rattle.run_effects.specs.Given.SchedulesViews.{map_at, first_or, grows_in_chunks, is_linked, first_of, tables_of, is_stage, is_place}
use Rattle.run_effects.specs.Given.RuleChart.{Chart}
use Rattle.many_maps.specs.Maps.{Standing}
use Rattle.run_effects.specs.Effects.Effects.{spot_at}
use Rattle.run_effects.specs.Effects.Known.{Known}
use Rattle.run_shows.specs.Follows.Finds.{MayStandAt, MayBeRoot, FindsMap}
use Rattle.run_shows.specs.Follows.Maps.{table_of, shape_at, tables_to, RefinesMap}
use Rattle.run_shows.proofs.Follows.Alike.{is_still, AllStill}
use Rattle.seize_words.proofs.General.{or_second as or_last, or_first}

-- one that passes is among more
or_more : (a b c : Bool) → (b ≡ true → c ≡ true) → (a || b) ≡ true → (a || c) ≡ true
or_more true b c more e = refl
or_more false b c more e = more e

module _ {X : Type 0} (p : X → Bool) where
  any_first : (xs ys : List X) → list_any p xs ≡ true → list_any p (xs ++ ys) ≡ true
  any_first [] ys e = absurd (cc e)
  any_first (x ∷ xs) ys e = or_more (p x) (list_any p xs) (list_any p (xs ++ ys)) (λ f. any_first xs ys f) e

  any_last : (xs ys : List X) → list_any p ys ≡ true → list_any p (xs ++ ys) ≡ true
  any_last [] ys e = e
  any_last (x ∷ xs) ys e = or_last (p x) (list_any p (xs ++ ys)) (any_last xs ys e)

  any_filtered : (q : X → Bool) (xs : List X) → list_any p (filter q xs) ≡ true → list_any p xs ≡ true
  any_filtered q [] e = e
  any_filtered q (x ∷ xs) e = by (q x) refl (λ f. any_filtered q xs f)
    where
      by : (z : Bool) → q x ≡ z → (list_any p (filter q xs) ≡ true → list_any p xs ≡ true) → list_any p (x ∷ xs) ≡ true
      by true is rest =
          let here : list_any p (x ∷ filter q xs) ≡ true = ap (λ z. list_any p (if z then x ∷ filter q xs else filter q xs)) (sym is) ∙ e in
          or_more (p x) (list_any p (filter q xs)) (list_any p xs) rest here
      by false is rest =
          let later : list_any p (filter q xs) ≡ true = ap (λ z. list_any p (if z then x ∷ filter q xs else filter q xs)) (sym is) ∙ e in
          or_last (p x) (list_any p xs) (rest later)

module _ {K : Type 0} (map : ℕ) (c : Chart K) (stage : ℕ → Stage) where
  abbrev table_there : ℕ → TableThere
  table_there t = record { table = table_of map t; shape = shape_at map c t; stage = stage t }

  many_tables : (n : ℕ) → length (tables_to map c stage n) ≡ n
  many_tables zero = refl
  many_tables (suc t) =
      let rest = many_tables t in let e = length-append (tables_to map c stage t) (table_there t ∷ []) in omega (arith, rest, e)

  any_table : (p : TableThere → Bool) (t n : ℕ) → t < n → p (table_there t) ≡ true → list_any p (tables_to map c stage n) ≡ true
  any_table p t zero l e = absurd (omega (arith, l))
  any_table p t (suc u) l e = by (cases_eq t u) (λ m. any_table p t u m e)
    where
      by : (t ≡ u) ⊎ (t ≢ u) → (t < u → list_any p (tables_to map c stage u) ≡ true) → list_any p (tables_to map c stage (suc u)) ≡ true
      by (inl same) rest =
          any_last p (tables_to map c stage u) (table_there u ∷ []) (or_first (p (table_there u)) false (ap (λ (x : ℕ). p (table_there x)) (sym same) ∙ e))
      by (inr other) rest = any_first p (tables_to map c stage u) (table_there u ∷ []) (rest (omega (arith, l, other)))

module _ {K V : Type 0} (map : ℕ) (number : ℕ → ℕ) (s : Standing K) (m : Moment K V) (known : Known) (shown : RefinesMap map number s m known) where
  abbrev c : Chart K
  c = s.chart

  -- how many tables the map has had
  pub tables_many : c.past ≡ length (tables_of map m)
  tables_many = sym (ap length shown.tables.listed ∙ many_tables map c shown.tables.stage c.past)

  pub first_is : first_of map m ≡ c.first
  first_is = ap first_or shown.there.is ∙ shown.there.first

  pub chunks_are : grows_in_chunks (map_at map m) ≡ is_incremental s.setting.mode
  chunks_are = ap grows_in_chunks shown.there.is ∙ ap is_incremental shown.there.mode

  pub same_one : (t : ℕ) → same_table (table_of map t) (table_of map t) ≡ true
  same_one t = ap (λ (q : Bool). q && (t == t)) (eq-eqb map map refl) ∙ eq-eqb t t refl

  pub among : (p : TableThere → Bool) (t : ℕ) → t < c.past → p (table_there map c shown.tables.stage t) ≡ true → list_any p m.tables ≡ true
  among p t made e =
      any_filtered p (λ u. u.table.map == map) m.tables (ap (list_any p) shown.tables.listed ∙ any_table map c shown.tables.stage p t c.past made e)

  linked_there : (t : ℕ) → c.first ≤ t → t < c.past → is_linked (shown.tables.stage t) ≡ true
  linked_there t l made = ap is_linked (shown.tables.linked t l made)

  -- a pair may stand at a place of a table from the root on
  pub may_stand : (t i : ℕ) → c.first ≤ t → t < c.past → i < c.len t → (is_incremental s.setting.mode ≡ false → t ≡ c.first) → MayStandAt map m (spot_at (table_of map t) (i + PLACES))
  may_stand t i l made within root = (is_there, subst (λ (q : Bool). IsFrom q (first_of map m) t) (sym chunks_are) (subst (λ (x : ℕ). IsFrom (is_incremental s.setting.mode) x t) (sym first_is) from))
    where
      place_is : nat_lt ((i + PLACES) - PLACES) (c.len t) ≡ true
      place_is = grind (arith, within)

      is_there : is_place is_linked map (spot_at (table_of map t) (i + PLACES)) m ≡ true
      is_there = among (λ u. same_table u.table (table_of map t) && is_linked u.stage && nat_lt ((i + PLACES) - PLACES) u.shape.len) t made
          (ap (λ (q : Bool). q && is_linked (shown.tables.stage t) && nat_lt ((i + PLACES) - PLACES) (c.len t)) (same_one t)
          ∙ ap (λ (q : Bool). q && nat_lt ((i + PLACES) - PLACES) (c.len t)) (linked_there t l made) ∙ place_is)

      from : IsFrom (is_incremental s.setting.mode) c.first t
      from = by (is_incremental s.setting.mode) refl
        where
          by : (q : Bool) → is_incremental s.setting.mode ≡ q → IsFrom (is_incremental s.setting.mode) c.first t
          by true e = subst (λ (q : Bool). IsFrom q c.first t) (sym e) l
          by false e = subst (λ (q : Bool). IsFrom q c.first t) (sym e) (root e)

  -- the root may come to a table behind it
  pub may_be_root : (t : ℕ) → c.first < t → t < c.past → (is_incremental s.setting.mode ≡ true → t ≡ suc c.first) → (is_incremental s.setting.mode ≡ false → suc t ≡ c.past)
      → MayBeRoot map m (table_of map t)
  may_be_root t ahead made next last = (is_there, subst (λ (q : Bool). IsNextRoot q (first_of map m) t (tables_of map m)) (sym chunks_are) (comes (is_incremental s.setting.mode) refl))
    where
      is_there : is_stage is_linked (table_of map t) m ≡ true
      is_there = among (λ u. same_table u.table (table_of map t) && is_linked u.stage) t made
          (ap (λ (q : Bool). q && is_linked (shown.tables.stage t)) (same_one t) ∙ linked_there t (omega (arith, ahead)) made)

      comes : (q : Bool) → is_incremental s.setting.mode ≡ q → IsNextRoot q (first_of map m) t (tables_of map m)
      comes true e = let n = next e in let f = first_is in omega (arith, n, f)
      comes false e = (let f = first_is in omega (arith, ahead, f), let n = last e in let many = tables_many in omega (arith, n, many))

module _ {K V : Type 0} (map : ℕ) where
  -- an effect that moves no pair and no table finds what it will
  finds_still : (f : Effect) (m : Moment K V) → is_still f ≡ true → FindsMap map m f
  finds_still (Asked growth) m e = tt
  finds_still PairMade m e = tt
  finds_still PairGivenUp m e = tt
  finds_still (TableMade t) m e = tt
  finds_still (TableGivenUp t) m e = tt
  finds_still (Linked t shape) m e = absurd (cc e)
  finds_still (Promoted t) m e = absurd (cc e)
  finds_still (Copied n s) m e = tt
  finds_still (Stored n s) m e = absurd (cc e)
  finds_still (Replaced n) m e = absurd (cc e)
  finds_still (Removed n) m e = absurd (cc e)
  finds_still (Counted s) m e = tt
  finds_still (Deferred n t) m e = tt
  finds_still (Retired x) m e = tt
  finds_still (Reclaimed x) m e = tt
  finds_still (Ended n) m e = tt
  finds_still (Taken t) m e = tt

  pub still_find : (name : Option (List ℕ)) (effects : List Effect) (m : Moment K V) → AllStill effects → AtEachEffect (FindsMap map) name (Some map) effects m
  still_find name [] m all = tt
  still_find name (f ∷ effects) m all = (finds_still f m all.0, still_find name effects (with_effect name (Some map) f m) all.1)
