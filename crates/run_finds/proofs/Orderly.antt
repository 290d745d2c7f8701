-- Each pair waits, and each table is there, for a reason, while no call is under way.
use Rattle.std.specs.Prelude.{◌≡◌, ℕ, ◌+◌, ◌≤◌, ◌<◌, ◌⊎◌, ◌==◌, nat_le, nat_lt, Bool, true, false, not, ◌&&◌, ◌||◌, List, [], ◌∷◌, length, Some}
use Rattle.std.specs.List.{AllByRecursion, list_any}
use Rattle.std.proofs.Common.{refl, ap, sym, subst, ◌∙◌, arith, inl, inr, lt-ltb, le-leb}
use Rattle.std.proofs.lemmas.Bool.{and_from, and_parts, or_left, or_right, eq-eqb, leb-true}
use Rattle.std.proofs.lemmas.List.Elements.{recursion_from_All}
use Rattle.run_executor.specs.Given.RunsDeclared.effect.TableId.{TableId}
use Rattle.run_executor.specs.Given.RunsDeclared.effect.Thing.TheVariants.{ATable}
use Rattle.run_executor.specs.Given.SchedulesLists.{is_in}
use Rattle.run_executor.specs.Given.SchedulesMoment.{Place, Unborn, InMap, Out, Handed, Behind, Left, GivenBack, UnderWay, MapThere, Stage, IsLinked, IsRetired, IsReclaimed, IsTaken, TableThere, Deferral, Moment}
use Rattle.run_executor.specs.Given.SchedulesReclaims.{is_handed, has_next, has_reason, has_last_reason, is_kept, IsOrderly, IsEmptied}
use Rattle.run_executor.specs.Given.SchedulesThings.{same_table, same_thing}
use Rattle.run_executor.specs.Given.SchedulesViews.{map_at, first_or, is_there, is_linked, is_retired, first_of, tables_of, chain_of, is_stage}
use Rattle.run_executor.proofs.Given.OthersLeads.{same_parts}
use Rattle.run_finds.specs.Waiting.{is_out, is_behind_one, once_if, put_in, owed_by}
use Rattle.run_finds.specs.Orderly.{is_left_over, WaitsInOrder, NothingIsRetired, OrderAtFirst, OrderlyAtQuiescence, EmptiedOnceReclaimed}
use Rattle.run_finds.specs.Tables.{is_owed_table, SupersededIsObligation, IsDeferredOnOne}
use Rattle.run_finds.proofs.Placed.{placed_at_first}
use Rattle.run_finds.proofs.Lists.{one_of_them, none_of_them, any_so, any_kept, all_so, all_both, each_passes, passes_each, numbers_pass}
use Rattle.run_executor.proofs.Given.General.{equal_so as number_is}

pub order_at_first : (K V : Type 0) → OrderAtFirst K V
order_at_first K V = record { placed = placed_at_first K V; tables = record { passed = tt; behind = tt }; found = λ k d l. absurd (omega (arith, l)) }

le_from : (a b : ℕ) → nat_le a b ≡ true → a ≤ b
le_from a b e = leb-true a b e

-- a pair that is behind some table, each of which passes, is behind one that does
behind_one : (test : TableId → Bool) (n q : ℕ) (deferred : List Deferral) → AllByRecursion (λ d. test d.behind ≡ true) deferred → put_in n deferred ≡ 1 + q
    → list_any (λ d. (d.pair == n) && test d.behind) deferred ≡ true
behind_one test n q [] all there = absurd (omega (arith, there))
behind_one test n q (d ∷ deferred) all there = by (n == d.pair) refl (behind_one test n q deferred all.1)
  where
    Its : Bool → Type 0
    Its b = once_if b + put_in n deferred ≡ 1 + q

    by : (b : Bool) → (n == d.pair) ≡ b → (put_in n deferred ≡ 1 + q → list_any (λ x. (x.pair == n) && test x.behind) deferred ≡ true)
        → list_any (λ x. (x.pair == n) && test x.behind) (d ∷ deferred) ≡ true
    by true is rest = or_left ((d.pair == n) && test d.behind) (list_any (λ x. (x.pair == n) && test x.behind) deferred)
        (and_from (d.pair == n) (test d.behind) (eq-eqb d.pair n (sym (number_is n d.pair is))) all.0)
    by false is rest = or_right ((d.pair == n) && test d.behind) (list_any (λ x. (x.pair == n) && test x.behind) deferred) (rest (let its = subst Its is there in omega (arith, its)))

module _ {K V : Type 0} (m : Moment K V) (h : WaitsInOrder m) (none : m.calls ≡ []) where
  -- nobody owes a table, so each is there for a reason
  kept : AllByRecursion (λ u. is_kept m u ≡ true) m.tables
  kept = all_so (SupersededIsObligation m) (λ u. is_kept m u ≡ true) (λ u owed. by u owed (is_kept m u) refl) m.tables h.tables.passed
    where
      by : (u : TableThere) → SupersededIsObligation m u → (q : Bool) → is_kept m u ≡ q → is_kept m u ≡ true
      by u owed true e = e
      by u owed false e = absurd (
          let some = owed e in
          let nobody : is_owed_table m u.table ≡ false = ap (λ (l : List (UnderWay K V)). list_any (λ c. is_in same_thing (ATable u.table) c.owes) l) none in
          cc (some, nobody)
          )

  -- a table that is there was retired, or is linked
  at_stage : (s : Stage) → is_there s ≡ true → (is_retired s ≡ true) ⊎ (is_linked s ≡ true)
  at_stage IsLinked e = inr refl
  at_stage IsRetired e = inl refl
  at_stage IsReclaimed e = absurd (cc e)
  at_stage IsTaken e = absurd (cc e)

  -- one that is linked is from the root of a map on
  module _ (t : TableId) (next : t.turn + 1 < length (tables_of t.map m)) (there : is_stage is_there t m ≡ true) where
    abbrev IsThat : TableThere → Bool
    IsThat u = same_table u.table t

    -- it is among the tables of its map
    stands : (first : ℕ) → first ≤ t.turn → first_of t.map m ≡ first → list_any IsThat (chain_of t.map m) ≡ true
    stands first l is = any_kept IsThat (λ u. nat_le (first_of t.map m) u.table.turn) turns (tables_of t.map m) (any_kept IsThat (λ u. u.table.map == t.map) maps m.tables all)
      where
        maps : (u : TableThere) → IsThat u ≡ true → (u.table.map == t.map) ≡ true
        maps u e = (and_parts (u.table.map == t.map) (u.table.turn == t.turn) e).0

        turns : (u : TableThere) → IsThat u ≡ true → nat_le (first_of t.map m) u.table.turn ≡ true
        turns u e =
            let same = same_parts u.table t e in let turn = same.1 in
            le-leb (first_of t.map m) u.table.turn (omega (arith, l, is, turn))

        all : list_any IsThat m.tables ≡ true
        all = any_so (λ u. same_table u.table t && is_there u.stage) IsThat (λ u. is_kept m u ≡ true) (λ u e k. (and_parts (same_table u.table t) (is_there u.stage) e).0) m.tables there kept

    -- so it has a next one
    is_followed : (f : MapThere) → (f.number ≡ t.map) → f.first ≤ t.turn → map_at f.number m ≡ Some f → list_any (λ (g : MapThere). g.number == t.map) m.maps ≡ true → has_next m t ≡ true
    is_followed f number l found some =
        and_from (list_any (λ g. g.number == t.map) m.maps && list_any IsThat (chain_of t.map m)) (nat_lt (t.turn + 1) (length (tables_of t.map m)))
        (and_from (list_any (λ g. g.number == t.map) m.maps) (list_any IsThat (chain_of t.map m)) some
        (stands f.first l (ap (λ (q : ℕ). first_of q m) (sym number) ∙ ap first_or found)))
        (lt-ltb (t.turn + 1) (length (tables_of t.map m)) next)

    -- a table that is linked, and nobody owes, is from the root of a map on
    from_root : (u : TableThere) → same_table u.table t ≡ true → is_linked u.stage ≡ true → is_kept m u ≡ true → has_next m t ≡ true
    from_root u same linked is_its =
        let parts = same_parts u.table t same in
        let it = one_of_them at_root (λ f. map_at f.number m ≡ Some f) m.maps rooted found in
        let two = and_parts (it.0.number == u.table.map) (nat_le it.0.first u.table.turn) it.1 in
        let number : it.0.number ≡ t.map = number_is it.0.number u.table.map two.0 ∙ parts.0 in
        let first : it.0.first ≤ u.table.turn = le_from it.0.first u.table.turn two.1 in
        is_followed it.0 number (subst (λ (q : ℕ). it.0.first ≤ q) parts.1 first) it.2
        (any_so at_root (λ f. f.number == t.map) (λ f. map_at f.number m ≡ Some f) (λ f e all. its_map f e parts.0) m.maps rooted found)
      where
        at_root : MapThere → Bool
        at_root f = (f.number == u.table.map) && nat_le f.first u.table.turn

        rooted : list_any at_root m.maps ≡ true
        rooted = ap (λ (q : Bool). not q || list_any at_root m.maps) (sym linked) ∙ is_its

        found : AllByRecursion (λ f. map_at f.number m ≡ Some f) m.maps
        found = recursion_from_All (λ f. map_at f.number m ≡ Some f) m.maps h.found

        its_map : (f : MapThere) → at_root f ≡ true → u.table.map ≡ t.map → (f.number == t.map) ≡ true
        its_map f e is = eq-eqb f.number t.map (number_is f.number u.table.map (and_parts (f.number == u.table.map) (nat_le f.first u.table.turn) e).0 ∙ is)

    -- a table is retired, or has a next one
    has_one : (is_stage is_retired t m || has_next m t) ≡ true
    has_one = by (is_stage is_retired t m) refl
      where
        linked : (u : TableThere) → same_table u.table t ≡ true → (same_table u.table t && is_retired u.stage) ≡ false → (is_retired u.stage ≡ true) ⊎ (is_linked u.stage ≡ true) → is_linked u.stage ≡ true
        linked u same not_retired (inl retired) = absurd (let is = and_from (same_table u.table t) (is_retired u.stage) same retired in cc (is, not_retired))
        linked u same not_retired (inr is) = is

        by : (q : Bool) → is_stage is_retired t m ≡ q → (is_stage is_retired t m || has_next m t) ≡ true
        by true is = or_left (is_stage is_retired t m) (has_next m t) is
        by false is =
            let it = one_of_them (λ u. same_table u.table t && is_there u.stage) (λ u. (is_kept m u ≡ true) × ((same_table u.table t && is_retired u.stage) ≡ false)) m.tables there
            (all_both (λ u. is_kept m u ≡ true) (λ u. (same_table u.table t && is_retired u.stage) ≡ false) m.tables kept (none_of_them (λ u. same_table u.table t && is_retired u.stage) m.tables is)) in
            let two = and_parts (same_table it.0.table t) (is_there it.0.stage) it.1 in
            or_right (is_stage is_retired t m) (has_next m t) (from_root it.0 two.0 (linked it.0 two.0 it.2.1 (at_stage it.0.stage two.1)) it.2.0)

  abbrev is_reason : TableId → Bool
  is_reason t = is_stage is_retired t m || has_next m t

  reasons : AllByRecursion (λ d. is_reason d.behind ≡ true) m.deferred
  reasons = all_so (IsDeferredOnOne m) (λ d. is_reason d.behind ≡ true) (λ d there. has_one d.behind there.1 there.0)
      m.deferred h.tables.behind

  -- no pair is out
  none_out : (n : ℕ) → is_out (m.place n) ≡ false
  none_out n = by (is_out (m.place n)) refl
    where
      by : (q : Bool) → is_out (m.place n) ≡ q → is_out (m.place n) ≡ false
      by true e = absurd (
          let one : owed_by n m.calls ≡ 1 = h.placed.owed n ∙ ap once_if e in
          let nobody : owed_by n m.calls ≡ 0 = ap (owed_by n) none in
          omega (arith, one, nobody)
          )
      by false e = e

  -- one that is behind a table is on its list
  is_put : (n : ℕ) → is_behind_one (m.place n) ≡ true → put_in n m.deferred ≡ 1 + 0
  is_put n e = h.placed.put n ∙ ap once_if e

  reason : (n : ℕ) (p : Place) → m.place n ≡ p → has_reason m n p ≡ true
  reason n Out is = absurd (let not_out = none_out n in let out : is_out (m.place n) ≡ true = ap is_out is in cc (not_out, out))
  reason n Behind is = behind_one is_reason n 0 m.deferred reasons (is_put n (ap is_behind_one is))
  reason n Unborn is = refl
  reason n (InMap map) is = refl
  reason n Handed is = refl
  reason n Left is = refl
  reason n GivenBack is = refl

  orderly : IsOrderly m
  orderly = record {
    pairs = numbers_pass (λ n. has_reason m n (m.place n)) 1 (length m.stored) (λ n l u. reason n (m.place n) refl);
    tables = each_passes (is_kept m) m.tables kept;
  }

  module _ (nothing : NothingIsRetired m) where
    -- no table is retired, so what waits behind one waits behind one with a next one
    none_retired : (t : TableId) → is_stage is_retired t m ≡ false
    none_retired t = by (is_stage is_retired t m) refl
      where
        by : (q : Bool) → is_stage is_retired t m ≡ q → is_stage is_retired t m ≡ false
        by true e = absurd (
            let it = one_of_them (λ u. same_table u.table t && is_retired u.stage) (λ u. not (is_retired u.stage) ≡ true) m.tables e (passes_each (λ u. not (is_retired u.stage)) m.tables nothing.tables) in
            let yes = (and_parts (same_table it.0.table t) (is_retired it.0.stage) it.1).1 in
            let no : not true ≡ true = ap not (sym yes) ∙ it.2 in
            cc no
            )
        by false e = e

    last_reasons : AllByRecursion (λ d. has_next m d.behind ≡ true) m.deferred
    last_reasons = all_so (λ d. is_reason d.behind ≡ true) (λ d. has_next m d.behind ≡ true) (λ d e. ap (λ (q : Bool). q || has_next m d.behind) (sym (none_retired d.behind)) ∙ e) m.deferred reasons

    last_reason : (n : ℕ) (p : Place) → m.place n ≡ p → has_last_reason m n p ≡ true
    last_reason n Behind is = behind_one (has_next m) n 0 m.deferred last_reasons (is_put n (ap is_behind_one is))
    last_reason n Out is = absurd (let not_out = none_out n in let out : is_out (m.place n) ≡ true = ap is_out is in cc (not_out, out))
    last_reason n Handed is = absurd (let not_handed = nothing.pairs n in let handed : is_handed (m.place n) ≡ true = ap is_handed is in cc (not_handed, handed))
    last_reason n Left is = absurd (let not_left = nothing.left n in let left : is_left_over (m.place n) ≡ true = ap is_left_over is in cc (not_left, left))
    last_reason n Unborn is = refl
    last_reason n (InMap map) is = refl
    last_reason n GivenBack is = refl

    emptied : IsEmptied m
    emptied = record {
      pairs = numbers_pass (λ n. has_last_reason m n (m.place n)) 1 (length m.stored) (λ n l u. last_reason n (m.place n) refl);
      tables = nothing.tables;
    }

pub orderly_at_rest : (K V : Type 0) → OrderlyAtQuiescence K V
orderly_at_rest K V m h none = orderly m h none

pub emptied_once_reclaimed : (K V : Type 0) → EmptiedOnceReclaimed K V
emptied_once_reclaimed K V m h none nothing = emptied m h none nothing
