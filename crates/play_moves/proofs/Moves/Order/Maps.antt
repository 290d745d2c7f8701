-- All stays in order where a map comes, and where one goes that has no pair and no linked table, and on which no call is.
use Rattle.std.specs.Prelude.{◌≡◌, ◌≢◌, ◌==◌, ◌<◌, ◌≤◌, ◌+◌, ◌++◌, ℕ, nat_le, max, Bool, true, false, not, cond, ◌&&◌, ◌||◌, List, [], ◌∷◌, find, Some, None}
use Rattle.std.specs.List.{AllByRecursion, list_any}
use Rattle.std.proofs.Common.{refl, ap, sym, subst, ◌∙◌, arith}
use Rattle.std.proofs.lemmas.Bool.{and_parts, eq-eqb, leb-true, le-leb, or_left}
use Rattle.std.proofs.lemmas.List.Elements.{All-from_recursion, recursion_from_All}
use Rattle.std.proofs.lemmas.List.Folds.{list_any-append}
use Rattle.run_schedules.specs.Runs.Same.{is_same}
use Rattle.run_schedules.specs.Schedules.Moment.{InMap, MapThere, Moment, TableThere, UnderWay as CallThere}
use Rattle.run_schedules.specs.Schedules.Reclaims.{is_kept}
use Rattle.run_schedules.specs.Schedules.Things.{same_table}
use Rattle.run_schedules.specs.Schedules.Views.{first_of, first_or, is_linked, map_at, tables_of}
use Rattle.run_schedules.specs.Schedules.Beginning.{with_map}
use Rattle.play_linear.specs.Given.FindsTables.{TablesAreInOrder}
use Rattle.run_legal.specs.Given.FindsWaiting.{PairsArePlaced}
use Rattle.run_legal.specs.Given.FindsWithin.{AllIsInOrder, HasItsMap, many_of}
use Rattle.run_legal.proofs.Given.FollowsCalling.{is_same_is, is_same_refl}
use Rattle.run_legal.proofs.Given.OthersLeads.{same_parts}
use Rattle.run_legal.proofs.Given.FindsEndings.{fewer_found, more_found, name_of, number_at, same_number}
use Rattle.play_linear.proofs.Given.FindsEvents.{beginnings_keep_placed, beginnings_keep_tables}
use Rattle.run_legal.proofs.Given.FindsLists.{all_both, all_so, any_kept, any_kept_among, any_so, each_among, each_is}
use Rattle.run_legal.proofs.Given.FindsSomewhere.{others_keep_somewhere}
use Rattle.play_linear.proofs.Given.FindsTables.{all_append, all_kept, others_keep_tables}
use Rattle.run_schedules.specs.Deeds.Deeds.{come, named, without_map}
use Rattle.run_schedules.specs.Deeds.History.{left_tables}
use Rattle.play_linear.specs.Given.AgreesFresh.{AreNamed, IsNamed}
use Rattle.play_moves.proofs.Moves.Order.Effects.{itself, linked_one}
use Rattle.run_schedules.proofs.Given.General.{equal_so as number_is}

-- of maps that have their numbers as names none has the name of a number that none has
none_by_name : (n : ℕ) (fs : List MapThere) → AllByRecursion IsNamed fs → find (λ (f : MapThere). f.number == n) fs ≡ None → find (λ (f : MapThere). is_same f.name (named n)) fs ≡ None
none_by_name n [] names none = refl
none_by_name n (f ∷ fs) names none = by (is_same f.name (named n)) refl (f.number == n) refl none (none_by_name n fs names.1)
  where
    Goal : Bool → Type 0
    Goal q = cond q (Some f) (find (λ (g : MapThere). is_same g.name (named n)) fs) ≡ None

    by : (q : Bool) → is_same f.name (named n) ≡ q → (b : Bool) → (f.number == n) ≡ b → cond b (Some f) (find (λ (g : MapThere). g.number == n) fs) ≡ None
        → (find (λ (g : MapThere). g.number == n) fs ≡ None → find (λ (g : MapThere). is_same g.name (named n)) fs ≡ None) → Goal q
    by false other b is none rest = rest (fewer b none)
      where
        fewer : (b : Bool) → cond b (Some f) (find (λ (g : MapThere). g.number == n) fs) ≡ None → find (λ (g : MapThere). g.number == n) fs ≡ None
        fewer true e = absurd (cc e)
        fewer false e = e
    by true same true is none rest = absurd (cc none)
    by true same false is none rest = absurd (
        let names_are : named f.number ≡ named n = sym names.0 ∙ is_same_is f.name (named n) same in
        let one : f.number ≡ n = cc names_are in
        let yes : (f.number == n) ≡ true = eq-eqb f.number n one in cc (is, yes)
        )

module _ {K V : Type 0} (m : Moment K V) (order : AllIsInOrder m) (names : AreNamed m) where
  -- where a map comes of a number that none has
  pub comes_in_order : (f : MapThere) → f.name ≡ named f.number → f.first ≡ 0 → map_at f.number m ≡ None → AllIsInOrder (come f m)
  comes_in_order f name first none = record {
    waits = record {
      placed = record { owed = placed.owed; put = placed.put; back = placed.back; stored = placed.stored; apart = placed.apart };
      tables = record { passed = tables.passed; behind = tables.behind };
      found = All-from_recursion (λ (g : MapThere). map_at g.number (come f m) ≡ Some g) (m.maps ++ f ∷ [])
          (more_found number_at same_number m.maps f (eq-eqb f.number f.number refl) none (recursion_from_All (λ (g : MapThere). map_at g.number m ≡ Some g) m.maps order.waits.found));
    };
    named = more_found name_of is_same m.maps f (is_same_refl f.name)
        (subst (λ (l : List ℕ). find (λ (g : MapThere). is_same g.name l) m.maps ≡ None) (sym name) (none_by_name f.number m.maps (recursion_from_All IsNamed m.maps names) none)) order.named;
    somewhere = record { born = order.somewhere.born; there = λ n map l is. more map (order.somewhere.there n map l is) };
    within = record {
      tables = order.within.tables;
      apart = order.within.apart;
      roots = all_append (λ (g : MapThere). g.first ≤ many_of g.number m) m.maps f order.within.roots (omega (arith, first));
      made = all_append (λ (g : MapThere). g.number < max m.made (f.number + 1)) m.maps f
          (all_so (λ (g : MapThere). g.number < m.made) (λ (g : MapThere). g.number < max m.made (f.number + 1)) (λ g l. omega (arith, l)) m.maps order.within.made) (omega arith);
      spots = order.within.spots;
      maps = order.within.maps;
      calls = all_so (HasItsMap m) (HasItsMap (come f m)) (λ c its. record { there = more c.map its.there; table = its.table; owes = its.owes }) m.calls order.within.calls;
      behind = order.within.behind;
    };
  }
    where
      placed : PairsArePlaced (with_map f m)
      placed = (beginnings_keep_placed K V m order.waits.placed).1 f

      tables : TablesAreInOrder (with_map f m)
      tables = (beginnings_keep_tables K V m order.waits.tables).1 f

      more : (map : ℕ) → list_any (λ (g : MapThere). g.number == map) m.maps ≡ true → list_any (λ (g : MapThere). g.number == map) (m.maps ++ f ∷ []) ≡ true
      more map e =
          list_any-append (λ (g : MapThere). g.number == map) m.maps (f ∷ [])
          ∙ or_left (list_any (λ (g : MapThere). g.number == map) m.maps) (list_any (λ (g : MapThere). g.number == map) (f ∷ [])) e

  module _ (map : ℕ) (no_pair : (n : ℕ) → 1 ≤ n → m.place n ≡ InMap map → ⊥) (no_table : left_tables map m ≡ []) (no_call : AllByRecursion (λ (c : CallThere K V). c.map ≢ map) m.calls) where
    abbrev keep : MapThere → Bool
    keep f = not (is_same f.name (named map))

    abbrev then_at : Moment K V
    then_at = record m { maps = without_map map m.maps }

    -- a map that goes has this number
    its_number : (f : MapThere) → IsNamed f → is_same f.name (named map) ≡ true → f.number ≡ map
    its_number f name same = let both : named f.number ≡ named map = sym name ∙ is_same_is f.name (named map) same in cc both

    all_named : AllByRecursion IsNamed m.maps
    all_named = recursion_from_All IsNamed m.maps names

    -- one of another number stays
    stays : (of : ℕ) → of ≢ map → list_any (λ (f : MapThere). f.number == of) m.maps ≡ true → list_any (λ (f : MapThere). f.number == of) (without_map map m.maps) ≡ true
    stays of other any = any_kept_among (λ (f : MapThere). f.number == of) keep IsNamed (λ f at name. one f at name (is_same f.name (named map)) refl) m.maps any all_named
      where
        one : (f : MapThere) → (f.number == of) ≡ true → IsNamed f → (q : Bool) → is_same f.name (named map) ≡ q → not (is_same f.name (named map)) ≡ true
        one f at name true same = absurd (other (sym (number_is f.number of at) ∙ its_number f name same))
        one f at name false same = ap not same

    -- a table that is linked has a root before it still: none is of this map
    kept : AllByRecursion (λ u. is_kept m u ≡ true → is_kept then_at u ≡ true) m.tables
    kept = all_so (λ u. list_any (linked_one u) m.tables ≡ true) (λ u. is_kept m u ≡ true → is_kept then_at u ≡ true) (λ u among e. by u among (is_linked u.stage) refl e) m.tables (each_among linked_one itself m.tables)
      where
        by : (u : TableThere) → list_any (linked_one u) m.tables ≡ true → (q : Bool) → is_linked u.stage ≡ q → is_kept m u ≡ true → is_kept then_at u ≡ true
        by u among false is e = ap (λ (q : Bool). not q || list_any at_root (without_map map m.maps)) is
          where
            at_root : MapThere → Bool
            at_root f = (f.number == u.table.map) && nat_le f.first u.table.turn
        by u among true is e =
            ap (λ (q : Bool). not q || list_any at_root (without_map map m.maps)) is
            ∙ any_kept_among at_root keep Stands (λ f at stands. one f at stands (is_same f.name (named map)) refl) m.maps (ap (λ (q : Bool). not q || list_any at_root m.maps) (sym is) ∙ e)
            (all_both IsNamed (λ f. map_at f.number m ≡ Some f) m.maps all_named (recursion_from_All (λ f. map_at f.number m ≡ Some f) m.maps order.waits.found))
          where
            at_root : MapThere → Bool
            at_root f = (f.number == u.table.map) && nat_le f.first u.table.turn

            Stands : MapThere → Type 0
            Stands f = IsNamed f × (map_at f.number m ≡ Some f)

            itself_there : TableThere → Bool
            itself_there v = same_table v.table u.table && is_linked v.stage

            any_linked : list_any itself_there m.tables ≡ true
            any_linked =
                any_so (linked_one u) itself_there (λ v. Unit {0}) (λ v its nothing. ap (λ (q : Bool). not q || itself_there v) (sym is) ∙ its) m.tables among (each_is (λ v. Unit {0}) (λ v. tt) m.tables)

            -- a table of this map from its root on would be left
            left : (f : MapThere) → at_root f ≡ true → Stands f → f.number ≡ map → list_any itself_there (left_tables map m) ≡ true
            left f at stands number =
                any_kept itself_there (λ v. is_linked v.stage) (λ v its. (and_parts (same_table v.table u.table) (is_linked v.stage) its).1) _
                (any_kept itself_there (λ v. nat_le (first_of map m) v.table.turn) turns (tables_of map m) (any_kept itself_there (λ v. v.table.map == map) maps m.tables any_linked))
              where
                two : ((f.number == u.table.map) ≡ true) × (nat_le f.first u.table.turn ≡ true)
                two = and_parts (f.number == u.table.map) (nat_le f.first u.table.turn) at

                parts : (v : TableThere) → itself_there v ≡ true → (v.table.map ≡ u.table.map) × (v.table.turn ≡ u.table.turn)
                parts v its = same_parts v.table u.table (and_parts (same_table v.table u.table) (is_linked v.stage) its).0

                maps : (v : TableThere) → itself_there v ≡ true → (v.table.map == map) ≡ true
                maps v its = eq-eqb v.table.map map ((parts v its).0 ∙ (sym (number_is f.number u.table.map two.0) ∙ number))

                turns : (v : TableThere) → itself_there v ≡ true → nat_le (first_of map m) v.table.turn ≡ true
                turns v its =
                    let first : first_of map m ≡ f.first = ap (λ (n : ℕ). first_of n m) (sym number) ∙ ap first_or stands.1 in
                    let less : f.first ≤ u.table.turn = leb-true f.first u.table.turn two.1 in
                    let turn = (parts v its).1 in
                    le-leb (first_of map m) v.table.turn (omega (arith, first, less, turn))

            one : (f : MapThere) → at_root f ≡ true → Stands f → (q : Bool) → is_same f.name (named map) ≡ q → not (is_same f.name (named map)) ≡ true
            one f at stands true same = absurd (
                let some = left f at stands (its_number f stands.0 same) in
                let none : list_any itself_there (left_tables map m) ≡ false = ap (list_any itself_there) no_table in cc (some, none)
                )
            one f at stands false same = ap not same

    -- So all is in order where it goes.
    pub goes_in_order : AllIsInOrder (record m { maps = without_map map m.maps })
    goes_in_order = record {
      waits = record {
        placed = record { owed = order.waits.placed.owed; put = order.waits.placed.put; back = order.waits.placed.back; stored = order.waits.placed.stored; apart = order.waits.placed.apart };
        tables = others_keep_tables K V m then_at order.waits.tables refl refl kept (λ t e. e);
        found = All-from_recursion (λ (f : MapThere). map_at f.number then_at ≡ Some f) (without_map map m.maps)
            (fewer_found number_at same_number keep m.maps (recursion_from_All (λ (f : MapThere). map_at f.number m ≡ Some f) m.maps order.waits.found));
      };
      named = fewer_found name_of is_same keep m.maps order.named;
      somewhere = others_keep_somewhere K V m then_at order.somewhere (λ n. refl) refl
          (λ n of l is any. stays of (λ same. no_pair n l (subst (λ (k : ℕ). m.place n ≡ InMap k) same is)) any);
      within = record {
        tables = order.within.tables;
        apart = order.within.apart;
        roots = fewer (λ f. f.first ≤ many_of f.number m) order.within.roots;
        made = fewer (λ f. f.number < m.made) order.within.made;
        spots = order.within.spots;
        maps = order.within.maps;
        calls = all_so (λ c. HasItsMap m c × (c.map ≢ map)) (HasItsMap then_at) (λ c its. record { there = stays c.map its.1 its.0.there; table = its.0.table; owes = its.0.owes }) m.calls
            (all_both (HasItsMap m) (λ c. c.map ≢ map) m.calls order.within.calls no_call);
        behind = order.within.behind;
      };
    }
      where
        fewer : (P : MapThere → Type 0) → AllByRecursion P m.maps → AllByRecursion P (without_map map m.maps)
        fewer P each = all_so (λ f. P f × (keep f ≡ true)) P (λ f its. its.0) (without_map map m.maps) (all_kept P keep m.maps each)
