-- Effects leave tables in order: those that roots have passed are owed, and what waits behind a table waits behind one that is there.
use Rattle.std.specs.Prelude.{◌≡◌, ℕ, ◌+◌, ◌<◌, ◌≤◌, ◌⊎◌, ◌==◌, nat_le, Bool, true, false, not, cond, ◌&&◌, ◌||◌, List, [], ◌∷◌, ◌++◌, length, filter, map, Option, Some, None, if◌then◌else◌}
use Rattle.std.specs.List.{AllByRecursion, list_any}
use Rattle.std.proofs.Common.{refl, ap, sym, subst, ◌∙◌, arith, inl, inr, length-append}
use Rattle.std.proofs.lemmas.Bool.{and_from, and_parts, or_left, or_right, or_parts, leb-true, leb-false}
use Rattle.std.proofs.lemmas.List.Elements.{recursion_from_All, filter-append}
use Rattle.std.proofs.lemmas.List.Folds.{list_any-append}
use Rattle.run_executor.specs.Given.RunsDeclared.shapes.TableShape.{TableShape}
use Rattle.run_executor.specs.Given.RunsDeclared.effect.Effect.{Effect}
use Rattle.run_executor.specs.Given.RunsDeclared.effect.Effect.TheVariants as effect
use Rattle.run_executor.specs.Given.RunsDeclared.effect.TableId.{TableId}
use Rattle.run_executor.specs.Given.RunsDeclared.effect.Thing.TheVariants.{APair, ATable}
use Rattle.run_executor.specs.Given.SchedulesEffects.{at_stage, promoted, passed, call_by, with_effect}
use Rattle.run_executor.specs.Given.SchedulesEntry.{ByCall}
use Rattle.run_executor.specs.Given.SchedulesLists.{is_in}
use Rattle.run_executor.specs.Given.SchedulesMoment.{UnderWay, MapThere, Stage, IsRetired, IsReclaimed, IsTaken, IsLinked, TableThere, Deferral, Moment}
use Rattle.run_executor.specs.Given.SchedulesReclaims.{is_kept}
use Rattle.run_executor.specs.Given.SchedulesThings.{same_table, same_thing}
use Rattle.run_executor.specs.Given.SchedulesViews.{call_of, map_at, first_or, first_of, is_there, is_linked, is_stage, tables_of}
use Rattle.run_executor.proofs.Given.FollowsCalls.{changed_same}
use Rattle.run_executor.proofs.Given.SpotsUnreclaimed.{table_is, same_itself}
use Rattle.run_finds.specs.Tables.{is_owed_table, SupersededIsObligation, IsDeferredOnOne, TablesAreInOrder, FindsTables, EffectsPreserveTables, OthersPreserveTables}
use Rattle.run_finds.proofs.Lists.{one_of_them, none_of_them, all_so, all_both}
use Rattle.run_finds.proofs.Owed.{due_keeps}
use Rattle.run_finds.proofs.Owed.Tables.{still_in, then_in, in_without, passed_in, owed_still, owed_now}

-- lists

module _ {X Y : Type 0} (g : X → Y) where
  pub all_under : (P : X → Type 0) (Q : Y → Type 0) → ((x : X) → P x → Q (g x)) → (xs : List X) → AllByRecursion P xs → AllByRecursion Q (map g xs)
  all_under P Q so [] all = tt
  all_under P Q so (x ∷ xs) all = (so x all.0, all_under P Q so xs all.1)

  pub any_under : (p : X → Bool) (q : Y → Bool) → ((x : X) → p x ≡ true → q (g x) ≡ true) → (xs : List X) → list_any p xs ≡ true → list_any q (map g xs) ≡ true
  any_under p q so [] any = absurd (cc any)
  any_under p q so (x ∷ xs) any = by (p x) refl any (any_under p q so xs)
    where
      by : (b : Bool) → p x ≡ b → (b || list_any p xs) ≡ true → (list_any p xs ≡ true → list_any q (map g xs) ≡ true) → (q (g x) || list_any q (map g xs)) ≡ true
      by true is e rest = or_left (q (g x)) (list_any q (map g xs)) (so x is)
      by false is e rest = or_right (q (g x)) (list_any q (map g xs)) (rest e)

  under_all : (Q : Y → Type 0) (xs : List X) → AllByRecursion Q (map g xs) → AllByRecursion (λ x. Q (g x)) xs
  under_all Q [] all = tt
  under_all Q (x ∷ xs) all = (all.0, under_all Q xs all.1)

module _ {X : Type 0} (P : X → Type 0) where
  pub all_append : (xs : List X) (y : X) → AllByRecursion P xs → P y → AllByRecursion P (xs ++ y ∷ [])
  all_append [] y all its = (its, tt)
  all_append (x ∷ xs) y all its = (all.0, all_append xs y all.1 its)

  -- of those that are kept, it is known that they are
  pub all_kept : (keep : X → Bool) (xs : List X) → AllByRecursion P xs → AllByRecursion (λ x. P x × (keep x ≡ true)) (filter keep xs)
  all_kept keep [] all = tt
  all_kept keep (x ∷ xs) all = by (keep x) refl (all_kept keep xs all.1)
    where
      Goal : Bool → Type 0
      Goal q = AllByRecursion (λ x. P x × (keep x ≡ true)) (cond q (x ∷ filter keep xs) (filter keep xs))

      by : (q : Bool) → keep x ≡ q → AllByRecursion (λ y. P y × (keep y ≡ true)) (filter keep xs) → Goal (keep x)
      by true is rest = subst Goal (sym is) ((all.0, is), rest)
      by false is rest = subst Goal (sym is) rest

-- what holds of every table
pub each_same : (P : TableThere → Type 0) → ((u : TableThere) → P u) → (tables : List TableThere) → AllByRecursion P tables
each_same P all [] = tt
each_same P all (u ∷ tables) = (all u, each_same P all tables)

-- tables at another stage

module _ (t : TableId) (to : Stage) where
  pub same_length : (k : ℕ) (tables : List TableThere) → length (filter (λ u. u.table.map == k) (map (at_stage t to) tables)) ≡ length (filter (λ u. u.table.map == k) tables)
  same_length k [] = refl
  same_length k (u ∷ tables) = by (same_table u.table t) (same_length k tables)
    where
      by : (q : Bool) → length (filter (λ w. w.table.map == k) (map (at_stage t to) tables)) ≡ length (filter (λ w. w.table.map == k) tables)
          → length (cond ((if q then record u { stage = to } else u).table.map == k) ((if q then record u { stage = to } else u) ∷ filter (λ w. w.table.map == k) (map (at_stage t to) tables)) (filter (λ w. w.table.map == k) (map (at_stage t to) tables)))
          ≡ length (cond (u.table.map == k) (u ∷ filter (λ w. w.table.map == k) tables) (filter (λ w. w.table.map == k) tables))
      by true rest = one (u.table.map == k) (record u { stage = to }) rest
        where
          one : (c : Bool) (w : TableThere) → length (filter (λ w. w.table.map == k) (map (at_stage t to) tables)) ≡ length (filter (λ w. w.table.map == k) tables)
              → length (cond c (w ∷ filter (λ w. w.table.map == k) (map (at_stage t to) tables)) (filter (λ w. w.table.map == k) (map (at_stage t to) tables)))
              ≡ length (cond c (u ∷ filter (λ w. w.table.map == k) tables) (filter (λ w. w.table.map == k) tables))
          one true w e = omega (arith, e)
          one false w e = e
      by false rest = one (u.table.map == k) rest
        where
          one : (c : Bool) → length (filter (λ w. w.table.map == k) (map (at_stage t to) tables)) ≡ length (filter (λ w. w.table.map == k) tables)
              → length (cond c (u ∷ filter (λ w. w.table.map == k) (map (at_stage t to) tables)) (filter (λ w. w.table.map == k) (map (at_stage t to) tables)))
              ≡ length (cond c (u ∷ filter (λ w. w.table.map == k) tables) (filter (λ w. w.table.map == k) tables))
          one true e = omega (arith, e)
          one false e = e

  -- a table is there still, if those at that stage are, or it is another one
  still_there : (b : TableId) → (is_there to ≡ true) ⊎ (same_table b t ≡ false) → (tables : List TableThere) → list_any (λ u. same_table u.table b && is_there u.stage) tables ≡ true
      → list_any (λ u. same_table u.table b && is_there u.stage) (map (at_stage t to) tables) ≡ true
  still_there b or tables there = any_under (at_stage t to) (λ u. same_table u.table b && is_there u.stage) (λ u. same_table u.table b && is_there u.stage) stays tables there
    where
      stays : (u : TableThere) → (same_table u.table b && is_there u.stage) ≡ true → (same_table (at_stage t to u).table b && is_there (at_stage t to u).stage) ≡ true
      stays u e = by (same_table u.table t) refl or
        where
          two : (same_table u.table b ≡ true) × (is_there u.stage ≡ true)
          two = and_parts (same_table u.table b) (is_there u.stage) e

          Goal : Bool → Type 0
          Goal q = (same_table (if q then record u { stage = to } else u).table b && is_there (if q then record u { stage = to } else u).stage) ≡ true

          by : (q : Bool) → same_table u.table t ≡ q → (is_there to ≡ true) ⊎ (same_table b t ≡ false) → Goal (same_table u.table t)
          by true is (inl there) = subst Goal (sym is) (and_from (same_table u.table b) (is_there to) two.0 there)
          by true is (inr apart) = absurd (let it : same_table b t ≡ true = subst (λ (x : TableId). same_table x t ≡ true) (table_is u.table b two.0) is in cc (it, apart))
          by false is other = subst Goal (sym is) e

module _ {K V : Type 0} where
  abbrev owes : TableId → UnderWay K V → Bool
  owes t c = is_in same_thing (ATable t) c.owes

  -- a call owes what it owed, but for what it retires
  keeps : (m : Moment K V) (f : Effect) (t : TableId) (c : UnderWay K V) → (f ≡ effect.Retired (ATable t) → ⊥) → owes t c ≡ true → owes t (call_by m f c) ≡ true
  keeps m (effect.Promoted u) t c apart e = still_in t c.owes (passed u.map (first_of u.map m) u.turn) e
  keeps m (effect.Replaced n) t c apart e = still_in t c.owes (APair n ∷ []) e
  keeps m (effect.Removed n) t c apart e = still_in t c.owes (APair n ∷ []) e
  keeps m (effect.Deferred n u) t c apart e = in_without t (APair n) c.owes (λ is. cc is) e
  keeps m (effect.Retired x) t c apart e = in_without t x c.owes (λ is. apart (ap effect.Retired is)) e
  keeps m (effect.Stored n s) t c apart e = ap (is_in same_thing (ATable t)) (due_keeps c.call c c.replacing n).0 ∙ e
  keeps m (effect.Asked growth) t c apart e = e
  keeps m effect.PairMade t c apart e = e
  keeps m effect.PairGivenUp t c apart e = e
  keeps m (effect.TableMade u) t c apart e = e
  keeps m (effect.TableGivenUp u) t c apart e = e
  keeps m (effect.Linked u shape) t c apart e = e
  keeps m (effect.Copied n s) t c apart e = e
  keeps m (effect.Counted s) t c apart e = e
  keeps m (effect.Reclaimed x) t c apart e = e
  keeps m (effect.Ended n) t c apart e = e
  keeps m (effect.Taken u) t c apart e = e

  owed_on : (caller : Option (List ℕ)) (acted : Option ℕ) (m : Moment K V) (f : Effect) (t : TableId) → (f ≡ effect.Retired (ATable t) → ⊥) → is_owed_table m t ≡ true → is_owed_table (with_effect caller acted f m) t ≡ true
  owed_on None acted m f t apart e = e
  owed_on (Some own) acted m f t apart e = owed_still own (call_by m f) (changed_same m f) t (λ c. keeps m f t c apart) m.calls e

  -- where tables, and what waits behind them, are the same, with a root before each that had one
  others_order : (m v : Moment K V) → TablesAreInOrder m → v.tables ≡ m.tables → v.deferred ≡ m.deferred → AllByRecursion (λ u. is_kept m u ≡ true → is_kept v u ≡ true) m.tables
      → ((t : TableId) → is_owed_table m t ≡ true → is_owed_table v t ≡ true) → TablesAreInOrder v
  others_order m v h tables deferred kept owed = record {
    passed = subst (λ (ts : List TableThere). AllByRecursion (SupersededIsObligation v) ts) (sym tables)
        (all_so (λ u. SupersededIsObligation m u × (is_kept m u ≡ true → is_kept v u ≡ true)) (SupersededIsObligation v)
        (λ u its e. by u its.0 its.1 e (is_kept m u) refl) m.tables
        (all_both (SupersededIsObligation m) (λ u. is_kept m u ≡ true → is_kept v u ≡ true) m.tables h.passed kept));
    behind = subst (λ (ds : List Deferral). AllByRecursion (IsDeferredOnOne v) ds) (sym deferred)
        (subst (λ (ts : List TableThere). AllByRecursion (λ d. (list_any (λ u. same_table u.table d.behind && is_there u.stage) ts ≡ true) × (d.behind.turn + 1 < length (filter (λ u. u.table.map == d.behind.map) ts))) m.deferred)
        (sym tables) h.behind);
  }
    where
      by : (u : TableThere) → SupersededIsObligation m u → (is_kept m u ≡ true → is_kept v u ≡ true) → is_kept v u ≡ false → (q : Bool) → is_kept m u ≡ q
          → is_owed_table v u.table ≡ true
      by u was still e true is = absurd (let now = still is in cc (now, e))
      by u was still e false is = owed u.table (was is)

  module _ (caller : Option (List ℕ)) (acted : Option ℕ) (m : Moment K V) (h : TablesAreInOrder m) where
    quiet : (f : Effect) → (with_effect caller acted f m).maps ≡ m.maps → (with_effect caller acted f m).tables ≡ m.tables → (with_effect caller acted f m).deferred ≡ m.deferred
        → ((t : TableId) → f ≡ effect.Retired (ATable t) → ⊥) → TablesAreInOrder (with_effect caller acted f m)
    quiet f maps tables deferred apart =
        others_order m v h tables deferred (each_same (λ u. is_kept m u ≡ true → is_kept v u ≡ true) still m.tables) (λ t. owed_on caller acted m f t (apart t))
      where
        v : Moment K V
        v = with_effect caller acted f m

        still : (u : TableThere) → is_kept m u ≡ true → is_kept v u ≡ true
        still u e = ap (λ (fs : List MapThere). not (is_linked u.stage) || list_any (λ (g : MapThere). (g.number == u.table.map) && nat_le g.first u.table.turn) fs) maps ∙ e

    defers : (n : ℕ) (t : TableId) → FindsTables caller m (effect.Deferred n t) → TablesAreInOrder (with_effect caller acted (effect.Deferred n t) m)
    defers n t finds = record {
      passed = all_so (SupersededIsObligation m) (λ u. is_kept m u ≡ false → is_owed_table (with_effect caller acted (effect.Deferred n t) m) u.table ≡ true)
          (λ u was e. owed_on caller acted m (effect.Deferred n t) u.table (λ is. cc is) (was e)) m.tables h.passed;
      behind = (finds, h.behind);
    }

    -- a table comes to another stage, at which none is linked
    module _ (f : Effect) (t : TableId) (to : Stage) (not_linked : is_linked to ≡ false) (apart : (u : TableId) → same_table u t ≡ false → f ≡ effect.Retired (ATable u) → ⊥) where
      staged_passed : AllByRecursion (λ u. is_kept m u ≡ false → is_owed_table (with_effect caller acted f m) u.table ≡ true) (map (at_stage t to) m.tables)
      staged_passed = all_under (at_stage t to) (SupersededIsObligation m) Q each m.tables h.passed
        where
          Q : TableThere → Type 0
          Q u = is_kept m u ≡ false → is_owed_table (with_effect caller acted f m) u.table ≡ true

          each : (u : TableThere) → SupersededIsObligation m u → Q (at_stage t to u)
          each u was = by (same_table u.table t) refl
            where
              by : (q : Bool) → same_table u.table t ≡ q → Q (if same_table u.table t then record u { stage = to } else u)
              by true is = subst (λ (q : Bool). Q (if q then record u { stage = to } else u)) (sym is) (λ e. absurd (
                  let kept : is_kept m (record u { stage = to }) ≡ true = or_left (not (is_linked to)) (list_any (λ (g : MapThere). (g.number == u.table.map) && nat_le g.first u.table.turn) m.maps) (ap not not_linked) in
                  cc (kept, e)
                  ))
              by false is = subst (λ (q : Bool). Q (if q then record u { stage = to } else u)) (sym is) (λ e. owed_on caller acted m f u.table (apart u.table is) (was e))

      staged_behind : (ds : List Deferral) → AllByRecursion (λ d. IsDeferredOnOne m d × ((is_there to ≡ true) ⊎ (same_table d.behind t ≡ false))) ds
          → AllByRecursion (λ d. (list_any (λ u. same_table u.table d.behind && is_there u.stage) (map (at_stage t to) m.tables) ≡ true) × (d.behind.turn + 1 < length (filter (λ u. u.table.map == d.behind.map) (map (at_stage t to) m.tables)))) ds
      staged_behind [] all = tt
      staged_behind (d ∷ ds) all = (
        (still_there t to d.behind all.0.1 m.tables all.0.0.0, subst (λ (l : ℕ). d.behind.turn + 1 < l) (sym (same_length t to d.behind.map m.tables)) all.0.0.1),
        staged_behind ds all.1,
      )

    -- a table is retired
    retires : (t : TableId) → TablesAreInOrder (with_effect caller acted (effect.Retired (ATable t)) m)
    retires t = record {
      passed = staged_passed (effect.Retired (ATable t)) t IsRetired refl (λ u other is. absurd (let one : t ≡ u = cc is in let same : same_table u t ≡ true = subst (λ (x : TableId). same_table x t ≡ true) one (same_itself t) in cc (same, other)));
      behind = staged_behind (effect.Retired (ATable t)) t IsRetired refl (λ u other is. absurd (let one : t ≡ u = cc is in let same : same_table u t ≡ true = subst (λ (x : TableId). same_table x t ≡ true) one (same_itself t) in cc (same, other))) m.deferred
          (all_so (IsDeferredOnOne m)
          (λ d. IsDeferredOnOne m d × ((is_there IsRetired ≡ true) ⊎ (same_table d.behind t ≡ false))) (λ d its. (its, inl refl)) m.deferred h.behind);
    }

    -- or goes, and what is behind it with it
    others_behind : (t : TableId) (to : Stage) → AllByRecursion (λ d. IsDeferredOnOne m d × ((is_there to ≡ true) ⊎ (same_table d.behind t ≡ false))) (filter (λ d. not (same_table d.behind t)) m.deferred)
    others_behind t to = all_so (λ d. IsDeferredOnOne m d × (not (same_table d.behind t) ≡ true))
        (λ d. IsDeferredOnOne m d × ((is_there to ≡ true) ⊎ (same_table d.behind t ≡ false)))
        (λ d its. (its.0, inr (is_not (same_table d.behind t) its.1))) (filter (λ d. not (same_table d.behind t)) m.deferred)
        (all_kept (IsDeferredOnOne m) (λ d. not (same_table d.behind t)) m.deferred h.behind)
      where
        is_not : (q : Bool) → not q ≡ true → q ≡ false
        is_not true e = absurd (cc e)
        is_not false e = refl

    reclaims : (t : TableId) → TablesAreInOrder (with_effect caller acted (effect.Reclaimed (ATable t)) m)
    reclaims t = record {
      passed = staged_passed (effect.Reclaimed (ATable t)) t IsReclaimed refl (λ u other is. cc is);
      behind = staged_behind (effect.Reclaimed (ATable t)) t IsReclaimed refl (λ u other is. cc is) (filter (λ d. not (same_table d.behind t)) m.deferred) (others_behind t IsReclaimed);
    }

    ends : (t : TableId) → TablesAreInOrder (with_effect caller acted (effect.Taken t) m)
    ends t = record {
      passed = staged_passed (effect.Taken t) t IsTaken refl (λ u other is. cc is);
      behind = staged_behind (effect.Taken t) t IsTaken refl (λ u other is. cc is) (filter (λ d. not (same_table d.behind t)) m.deferred) (others_behind t IsTaken);
    }

    -- a table is linked behind the root
    links : (t : TableId) (shape : TableShape) → FindsTables caller m (effect.Linked t shape) → TablesAreInOrder (with_effect caller acted (effect.Linked t shape) m)
    links t shape rooted = record {
      passed = all_append (λ u. is_kept m u ≡ false → is_owed_table v u.table ≡ true) m.tables new
          (all_so (SupersededIsObligation m) (λ u. is_kept m u ≡ false → is_owed_table v u.table ≡ true) (λ u was e. owed_on caller acted m f u.table (λ is. cc is) (was e)) m.tables h.passed)
          (λ e. absurd (let kept : is_kept m new ≡ true = rooted in cc (kept, e)));
      behind = all_so (IsDeferredOnOne m) (IsDeferredOnOne v)
          (λ d its. (there d.behind its.0, more d.behind its.1)) m.deferred h.behind;
    }
      where
        f : Effect
        f = effect.Linked t shape

        v : Moment K V
        v = with_effect caller acted f m

        new : TableThere
        new = record { table = t; shape = shape; stage = IsLinked }

        there : (b : TableId) → is_stage is_there b m ≡ true → is_stage is_there b v ≡ true
        there b e = list_any-append (λ u. same_table u.table b && is_there u.stage) m.tables (new ∷ [])
            ∙ or_left (is_stage is_there b m) (list_any (λ u. same_table u.table b && is_there u.stage) (new ∷ [])) e

        more : (b : TableId) → b.turn + 1 < length (tables_of b.map m) → b.turn + 1 < length (tables_of b.map v)
        more b l =
            let parts : length (tables_of b.map v) ≡ length (tables_of b.map m ++ filter (λ u. u.table.map == b.map) (new ∷ [])) = ap length (filter-append (λ (u : TableThere). u.table.map == b.map) m.tables (new ∷ [])) in
            let sum = length-append (tables_of b.map m) (filter (λ u. u.table.map == b.map) (new ∷ [])) in
            omega (arith, l, parts, sum)

  -- a root comes to a later table: those that it passes its call owes
  module _ (acted : Option ℕ) (m : Moment K V) (h : TablesAreInOrder m) (own : List ℕ) (t : TableId) (c : UnderWay K V) (c_is : call_of own m ≡ Some c) (found : AllByRecursion (λ (g : MapThere). map_at g.number m ≡ Some g) m.maps) where
    abbrev f : Effect
    f = effect.Promoted t

    abbrev v : Moment K V
    v = with_effect (Some own) acted f m

    -- the root of a map was at the table, or before it
    abbrev at_root : TableThere → MapThere → Bool
    at_root u g = (g.number == u.table.map) && nat_le g.first u.table.turn

    -- it is not any more, as it has come from there to the later one
    passes : (u : TableThere) (g : MapThere) → at_root u g ≡ true → at_root u (promoted t g) ≡ false → map_at g.number m ≡ Some g → is_owed_table v u.table ≡ true
    passes u g was now is = by (g.number == t.map) refl
      where
        two : ((g.number == u.table.map) ≡ true) × (nat_le g.first u.table.turn ≡ true)
        two = and_parts (g.number == u.table.map) (nat_le g.first u.table.turn) was

        eq : (a b : ℕ) → (a == b) ≡ true → a ≡ b
        eq a b e = grind (arith, e)

        by : (q : Bool) → (g.number == t.map) ≡ q → is_owed_table v u.table ≡ true
        by false other = absurd (let same : at_root u (promoted t g) ≡ true = ap (λ (q : Bool). at_root u (if q then record g { first = t.turn } else g)) other ∙ was in cc (same, now))
        by true its =
            let later : ((g.number == u.table.map) && nat_le t.turn u.table.turn) ≡ false = sym (ap (λ (q : Bool). at_root u (if q then record g { first = t.turn } else g)) its) ∙ now in
            let before : nat_le t.turn u.table.turn ≡ false = sym (ap (λ (q : Bool). q && nat_le t.turn u.table.turn) two.0) ∙ later in
            let map_is : u.table.map ≡ t.map = sym (eq g.number u.table.map two.0) ∙ eq g.number t.map its in
            let first_is : first_of t.map m ≡ g.first = ap (λ (q : ℕ). first_of q m) (sym (eq g.number t.map its)) ∙ ap first_or is in
            let from : g.first ≤ u.table.turn = leb-true g.first u.table.turn two.1 in
            let below : u.table.turn < t.turn = leb-false t.turn u.table.turn before in
            let there : is_in same_thing (ATable (record { map = t.map; turn = u.table.turn })) (passed t.map (first_of t.map m) t.turn) ≡ true =
            passed_in t.map (first_of t.map m) t.turn u.table.turn (omega (arith, first_is, from)) below in
            let it : is_in same_thing (ATable u.table) (passed t.map (first_of t.map m) t.turn) ≡ true =
            subst (λ (q : ℕ). is_in same_thing (ATable (record { map = q; turn = u.table.turn })) (passed t.map (first_of t.map m) t.turn) ≡ true) (sym map_is) there in
            owed_now own (call_by m f) (changed_same m f) u.table m.calls c c_is (then_in u.table c.owes (passed t.map (first_of t.map m) t.turn) it)

    each : (u : TableThere) → SupersededIsObligation m u → SupersededIsObligation v u
    each u was now = by (is_kept m u) refl
      where
        two : (not (is_linked u.stage) ≡ false) × (list_any (at_root u) (map (promoted t) m.maps) ≡ false)
        two = or_parts (not (is_linked u.stage)) (list_any (at_root u) (map (promoted t) m.maps)) now

        by : (q : Bool) → is_kept m u ≡ q → is_owed_table v u.table ≡ true
        by false e = owed_on (Some own) acted m f u.table (λ is. cc is) (was e)
        by true e =
            let rooted : list_any (at_root u) m.maps ≡ true = ap (λ (q : Bool). q || list_any (at_root u) m.maps) (sym two.0) ∙ e in
            let none : AllByRecursion (λ g. at_root u (promoted t g) ≡ false) m.maps =
            under_all (promoted t) (λ g. at_root u g ≡ false) m.maps (none_of_them (at_root u) (map (promoted t) m.maps) two.1) in
            let it = one_of_them (at_root u) (λ g. (at_root u (promoted t g) ≡ false) × (map_at g.number m ≡ Some g)) m.maps rooted
            (all_both (λ g. at_root u (promoted t g) ≡ false) (λ g. map_at g.number m ≡ Some g) m.maps none found) in
            passes u it.0 it.1 it.2.0 it.2.1

    promotes : TablesAreInOrder v
    promotes = record {
      passed = all_so (SupersededIsObligation m) (SupersededIsObligation v) each m.tables h.passed;
      behind = h.behind;
    }

  comes_to : (caller : Option (List ℕ)) (acted : Option ℕ) (m : Moment K V) → TablesAreInOrder m → (t : TableId) → FindsTables caller m (effect.Promoted t) → TablesAreInOrder (with_effect caller acted (effect.Promoted t) m)
  comes_to None acted m h t finds = absurd finds.0
  comes_to (Some own) acted m h t finds = by (call_of own m) refl finds.0
    where
      by : (o : Option (UnderWay K V)) → call_of own m ≡ o → ByCall (λ c. Unit {0}) o → TablesAreInOrder (with_effect (Some own) acted (effect.Promoted t) m)
      by None is none = absurd none
      by (Some c) is some = promotes acted m h own t c is (recursion_from_All (λ (g : MapThere). map_at g.number m ≡ Some g) m.maps finds.1)

  one_keeps : (caller : Option (List ℕ)) (acted : Option ℕ) (m : Moment K V) → TablesAreInOrder m → (f : Effect) → FindsTables caller m f → TablesAreInOrder (with_effect caller acted f m)
  one_keeps caller acted m h (effect.Linked t shape) finds = links caller acted m h t shape finds
  one_keeps caller acted m h (effect.Promoted t) finds = comes_to caller acted m h t finds
  one_keeps caller acted m h (effect.Deferred n t) finds = defers caller acted m h n t finds
  one_keeps caller acted m h (effect.Retired (ATable t)) finds = retires caller acted m h t
  one_keeps caller acted m h (effect.Reclaimed (ATable t)) finds = reclaims caller acted m h t
  one_keeps caller acted m h (effect.Taken t) finds = ends caller acted m h t
  one_keeps caller acted m h (effect.Retired (APair n)) finds = quiet caller acted m h (effect.Retired (APair n)) refl refl refl (λ t is. cc is)
  one_keeps caller acted m h (effect.Reclaimed (APair n)) finds = quiet caller acted m h (effect.Reclaimed (APair n)) refl refl refl (λ t is. cc is)
  one_keeps caller acted m h (effect.Asked growth) finds = quiet caller acted m h (effect.Asked growth) refl refl refl (λ t is. cc is)
  one_keeps caller acted m h effect.PairMade finds = quiet caller acted m h effect.PairMade refl refl refl (λ t is. cc is)
  one_keeps caller acted m h effect.PairGivenUp finds = quiet caller acted m h effect.PairGivenUp refl refl refl (λ t is. cc is)
  one_keeps caller acted m h (effect.TableMade t) finds = quiet caller acted m h (effect.TableMade t) refl refl refl (λ u is. cc is)
  one_keeps caller acted m h (effect.TableGivenUp t) finds = quiet caller acted m h (effect.TableGivenUp t) refl refl refl (λ u is. cc is)
  one_keeps caller acted m h (effect.Copied n s) finds = quiet caller acted m h (effect.Copied n s) refl refl refl (λ t is. cc is)
  one_keeps caller acted m h (effect.Stored n s) finds = quiet caller acted m h (effect.Stored n s) refl refl refl (λ t is. cc is)
  one_keeps caller acted m h (effect.Replaced n) finds = quiet caller acted m h (effect.Replaced n) refl refl refl (λ t is. cc is)
  one_keeps caller acted m h (effect.Removed n) finds = quiet caller acted m h (effect.Removed n) refl refl refl (λ t is. cc is)
  one_keeps caller acted m h (effect.Counted s) finds = quiet caller acted m h (effect.Counted s) refl refl refl (λ t is. cc is)
  one_keeps caller acted m h (effect.Ended n) finds = quiet caller acted m h (effect.Ended n) refl refl refl (λ t is. cc is)

pub effects_keep_tables : (K V : Type 0) → EffectsPreserveTables K V
effects_keep_tables K V caller acted [] m finds h = h
effects_keep_tables K V caller acted (f ∷ effects) m finds h =
    effects_keep_tables K V caller acted effects (with_effect caller acted f m) finds.1 (one_keeps caller acted m h f finds.0)

pub others_keep_tables : (K V : Type 0) → OthersPreserveTables K V
others_keep_tables K V m v h tables deferred kept owed = others_order m v h tables deferred kept owed
