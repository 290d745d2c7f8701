-- All stays in order by the effects of an entry that is no step of a call, and at a moment that is like another one.
use Rattle.std.specs.Prelude.{◌≡◌, ◌<◌, ◌==◌, ℕ, nat_le, Bool, true, false, not, ◌&&◌, ◌||◌, List, [], ◌∷◌, Option, Some, None}
use Rattle.std.specs.List.{AllByRecursion, list_all, list_any}
use Rattle.std.proofs.Common.{refl, ap, sym, subst, ◌∙◌}
use Rattle.std.proofs.lemmas.Bool.{and_from, and_parts}
use Rattle.run_schedules.specs.declared.effect.Effect.{Effect}
use Rattle.run_schedules.specs.declared.effect.Effect.TheVariants as effect
use Rattle.run_schedules.specs.declared.effect.TableId.{TableId}
use Rattle.run_schedules.specs.Schedules.Effects.{AtEachEffect, with_effects}
use Rattle.run_schedules.specs.Schedules.Handing.{asks_for_bucket}
use Rattle.run_schedules.specs.Schedules.InTurn.{is_growth}
use Rattle.run_schedules.specs.Schedules.Lives.{EventFinds}
use Rattle.run_schedules.specs.Schedules.Moment.{Moment, TableThere}
use Rattle.run_schedules.specs.Schedules.Terms.{Terms}
use Rattle.run_schedules.specs.Schedules.Things.{same_table}
use Rattle.run_schedules.specs.Schedules.Views.{chain_of, first_of, is_linked, is_stage, tables_of}
use Rattle.run_legal.specs.Given.FindsLife.{StoresOne}
use Rattle.run_legal.specs.Given.FindsWithin.{AllIsInOrder, HasItsMap}
use Rattle.run_legal.proofs.Growths.{growths_leave}
use Rattle.run_legal.proofs.Given.FindsLife.{each_so}
use Rattle.run_legal.proofs.Given.FindsLists.{all_so, any_so, each_among, each_is}
use Rattle.play_linear.proofs.Given.FindsTables.{all_kept}
use Rattle.run_legal.proofs.Given.OthersLeads.{same_parts}
use Rattle.run_legal.proofs.Given.SpotsUnreclaimed.{same_itself}
use Rattle.run_legal.proofs.Given.FindsRuns.{life_keeps_order}
use Rattle.run_schedules.specs.Deeds.History.{EndFinds, is_first_of, left_tables}
use Rattle.play_linear.proofs.Linear.Like.{IsLike}
use Rattle.run_schedules.proofs.Given.General.{equal_so as number_is}

-- who asks for buckets alone asks for growths alone
all_growths : (effects : List Effect) → list_all asks_for_bucket effects ≡ true → list_all is_growth effects ≡ true
all_growths [] all = refl
all_growths (effect.Asked growth ∷ effects) all = all_growths effects (and_parts _ (list_all asks_for_bucket effects) all).1
all_growths (_ ∷ effects) all = absurd (cc all)

-- a table that is linked stands among those that are

abbrev pub linked_one : TableThere → TableThere → Bool
linked_one u v = not (is_linked u.stage) || (same_table v.table u.table && is_linked v.stage)

pub itself : (u : TableThere) → linked_one u u ≡ true
itself u = by (is_linked u.stage) refl
  where
    by : (q : Bool) → is_linked u.stage ≡ q → (not (is_linked u.stage) || (same_table u.table u.table && is_linked u.stage)) ≡ true
    by true is = ap (λ (q : Bool). not q || (same_table u.table u.table && q)) is ∙ and_from (same_table u.table u.table) true (same_itself u.table) refl
    by false is = ap (λ (q : Bool). not q || (same_table u.table u.table && q)) is

first_of_them : (P : TableThere → Type 0) (t : TableId) (us : List TableThere) → AllByRecursion P us → is_first_of t us ≡ true → (u : TableThere) × (same_table u.table t ≡ true) × P u
first_of_them P t [] all e = absurd (cc e)
first_of_them P t (u ∷ us) all e = (u, e, all.0)

module _ {K V : Type 0} where
  -- who is no call stores no pair
  stores_none : (acted : Option ℕ) (everything : Bool) (v : Moment K V) (f : Effect) → EventFinds acted everything v f → StoresOne None v f
  stores_none None everything v (effect.Stored n s) finds = absurd finds
  stores_none (Some map) everything v (effect.Stored n s) finds = absurd finds
  stores_none acted everything v _ finds = tt

  -- so by effects that find what they must
  pub effects_in_order : (terms : Terms) (acted : Option ℕ) (everything : Bool) (effects : List Effect) (m : Moment K V) → AtEachEffect (EventFinds acted everything) None acted effects m → AllIsInOrder m
      → AllIsInOrder (with_effects None acted effects m)
  effects_in_order terms acted everything effects m finds order =
      life_keeps_order K V terms None acted everything [] effects m
      (each_so (EventFinds acted everything) (λ v f. EventFinds acted everything v f × StoresOne None v f) (λ v f its. (its, stores_none acted everything v f its)) None acted effects m finds)
      (λ own c none c_is. absurd (cc none)) order

  pub buckets_in_order : (effects : List Effect) (m : Moment K V) → list_all asks_for_bucket effects ≡ true → AllIsInOrder m → AllIsInOrder (with_effects None None effects m)
  buckets_in_order effects m all order = subst AllIsInOrder (sym (growths_leave None effects m (all_growths effects all))) order

  -- What the end of a map finds is what must be found: a table that stands first is linked.
  first_is_linked : (map : ℕ) (m : Moment K V) (t : TableId) → is_first_of t (left_tables map m) ≡ true → (t.map ≡ map) × (is_stage is_linked t m ≡ true)
  first_is_linked map m t e = (
    sym parts.0 ∙ number_is it.0.table.map map it.2.0.0.1,
    any_so (linked_one it.0) (λ v. same_table v.table t && is_linked v.stage) (λ v. Unit {0}) one m.tables it.2.0.0.0 (each_is (λ v. Unit {0}) (λ v. tt) m.tables),
  )
    where
      Among : TableThere → Type 0
      Among u = list_any (linked_one u) m.tables ≡ true

      Its : TableThere → Type 0
      Its u = ((Among u × ((u.table.map == map) ≡ true)) × (nat_le (first_of map m) u.table.turn ≡ true)) × (is_linked u.stage ≡ true)

      its_all : AllByRecursion Its (left_tables map m)
      its_all =
          all_kept (λ u. (Among u × ((u.table.map == map) ≡ true)) × (nat_le (first_of map m) u.table.turn ≡ true)) (λ u. is_linked u.stage) (chain_of map m)
          (all_kept (λ u. Among u × ((u.table.map == map) ≡ true)) (λ u. nat_le (first_of map m) u.table.turn) (tables_of map m)
          (all_kept Among (λ u. u.table.map == map) m.tables (each_among linked_one itself m.tables)))

      it : (u : TableThere) × (same_table u.table t ≡ true) × Its u
      it = first_of_them Its t (left_tables map m) its_all e

      parts : (it.0.table.map ≡ t.map) × (it.0.table.turn ≡ t.turn)
      parts = same_parts it.0.table t it.1

      same_as : (v : TableThere) → same_table v.table t ≡ same_table v.table it.0.table
      same_as v =
          ap (λ (n : ℕ). (v.table.map == n) && (v.table.turn == t.turn)) (sym parts.0) ∙ ap (λ (n : ℕ). (v.table.map == it.0.table.map) && (v.table.turn == n)) (sym parts.1)

      one : (v : TableThere) → linked_one it.0 v ≡ true → Unit {0} → (same_table v.table t && is_linked v.stage) ≡ true
      one v is nothing =
          ap (λ (q : Bool). q && is_linked v.stage) (same_as v) ∙ (ap (λ (q : Bool). not q || (same_table v.table it.0.table && is_linked v.stage)) (sym it.2.1) ∙ is)

  pub ends_find : (map : ℕ) (m : Moment K V) (f : Effect) → EndFinds map m f → EventFinds (Some map) false m f
  ends_find map m (effect.Ended n) finds = finds.0
  ends_find map m (effect.Taken t) finds = first_is_linked map m t finds.1
  ends_find map m _ finds = absurd finds

  abbrev likened : Moment K V → Moment K V → Moment K V
  likened m v = record m {
    events = v.events;
    is_mapped = v.is_mapped;
    is_closed = v.is_closed;
    is_alone = v.is_alone;
    there = v.there;
    slots = v.slots;
    sheltered = v.sheltered;
    remains = v.remains;
    made = v.made;
  }

  -- at a moment that is like another one all is in order, too, if so many maps were made
  pub order_like : (m v : Moment K V) → IsLike m v → v.made ≡ m.made → AllIsInOrder m → AllIsInOrder v
  order_like m v like made order = subst AllIsInOrder (sym like) (record {
    waits = record {
      placed = record { owed = order.waits.placed.owed; put = order.waits.placed.put; back = order.waits.placed.back; stored = order.waits.placed.stored; apart = order.waits.placed.apart };
      tables = record { passed = order.waits.tables.passed; behind = order.waits.tables.behind };
      found = order.waits.found;
    };
    named = order.named;
    somewhere = record { born = order.somewhere.born; there = order.somewhere.there };
    within = record {
      tables = order.within.tables;
      apart = order.within.apart;
      roots = order.within.roots;
      made = subst (λ (n : ℕ). AllByRecursion (λ f. f.number < n) m.maps) (sym made) order.within.made;
      spots = order.within.spots;
      maps = order.within.maps;
      calls = all_so (HasItsMap m) (HasItsMap (likened m v)) (λ c its. record { there = its.there; table = its.table; owes = its.owes }) m.calls order.within.calls;
      behind = order.within.behind;
    };
  })
