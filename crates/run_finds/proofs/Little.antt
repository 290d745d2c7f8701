-- The promise `little` of an event, by what is so of the moment after it.
use Rattle.std.specs.Prelude.{◌≡◌, ◌<◌, ◌^◌, Bool, true, false, MatchBool, List, ◌∷◌, flat_map}
use Rattle.std.proofs.Common.{refl}
use Rattle.run_executor.specs.Given.SeizeWorld.{World}
use Rattle.run_blocks.specs.Given.TablesDeclared.node.Node.{Node}
use Rattle.run_executor.specs.Given.RunsDeclared.effect.Thing.{Thing}
use Rattle.run_executor.specs.Given.RunsDeclared.event.Event.{Event}
use Rattle.run_executor.specs.Given.RunsDeclared.event.Event.TheVariants.{ReclaimAll, Close}
use Rattle.run_executor.specs.Given.RunsDeclared.outcome.Outcome.{Outcome}
use Rattle.run_executor.specs.Given.RunsDeclared.outcome.Outcome.TheVariants.{Done}
use Rattle.run_executor.specs.Given.SchedulesAfter.{after, moment}
use Rattle.run_executor.specs.Given.SchedulesEntry.{Entry}
use Rattle.run_executor.specs.Given.SchedulesLists.{is_empty}
use Rattle.run_executor.specs.Given.SchedulesModel.{thing_back, all_left}
use Rattle.run_executor.specs.Given.SchedulesMoment.{Moment}
use Rattle.run_executor.specs.Given.SchedulesReclaims.{is_quiescent, ComesLast, IsBounded, IsOrderly, IsEmptied, IsTornDown, IfAll, LeavesLittle}
use Rattle.run_executor.specs.Given.SchedulesTerms.{Terms}
use Rattle.run_executor.specs.Given.EffectsKnown.{Known}
use Rattle.run_finds.specs.Little.{WhereAll, AllIsBack, ReclaimsAll, OverIsBack, RefinesQuiescence, EventsLeaveLittle}
use Rattle.run_finds.specs.Within.{AllIsInOrder}
use Rattle.run_finds.proofs.Closed.{none_there}
use Rattle.run_finds.specs.Orderly.{WaitsInOrder}
use Rattle.run_finds.proofs.Bounded.{little_waits}
use Rattle.run_finds.proofs.Orderly.{orderly_at_rest, emptied_once_reclaimed}
use Rattle.run_finds.proofs.TornDown.{torn_down_in_the_end}

-- what is so where a test passes
where_so : (q : Bool) (A : Type 0) → (q ≡ true → A) → MatchBool q A (Unit {0})
where_so true A so = so refl
where_so false A so = tt

module _ {K V : Type 0} where
  is_emptied : (m : Moment K V) → WaitsInOrder m → AllIsBack m → IsEmptied m
  is_emptied m order back = emptied_once_reclaimed K V m order back.calls back.nothing

  all_emptied : (event : Event K V) (outcome : Outcome V) (before m : Moment K V) (things : List Thing) → WaitsInOrder m → WhereAll event outcome (AllIsBack m × ComesLast (all_left before) things)
      → IfAll event outcome before m things
  all_emptied ReclaimAll Done before m things order all = (is_emptied m order all.0, all.1)
  all_emptied Close Done before m things order all = (is_emptied m order all.0, all.1)
  all_emptied _ _ before m things order all = tt

  module _ (terms : Terms) (log : List (Entry K V)) (e : Entry K V) (known : Known) (w : World (Node K V)) (word : terms.batch_size < 2 ^ 64) (h : AllIsInOrder (after e (moment log)))
      (reclaims : ReclaimsAll log e) (over : OverIsBack (after e (moment log))) (shows : RefinesQuiescence terms (after e (moment log)) known w) where
    abbrev v : Moment K V
    v = after e (moment log)

    bounded : is_quiescent v ≡ true → IsBounded terms.batch_size v
    bounded quiet = let nobody = shows.nobody quiet in little_waits K V terms.batch_size v known w word shows.came nobody.0 nobody.1

    orderly : is_empty v.calls ≡ true → IsOrderly v
    orderly none = orderly_at_rest K V v h.waits (none_there v.calls none)

    torn_down : v.is_closed ≡ true → IsTornDown v
    torn_down closed = let back = over closed in torn_down_in_the_end K V v h.waits.placed h.somewhere back.1 (is_emptied v h.waits back.0)

    leaves : LeavesLittle terms log e
    leaves = record {
      bounded = where_so (is_quiescent v) (IsBounded terms.batch_size v) bounded;
      orderly = where_so (is_empty v.calls) (IsOrderly v) orderly;
      emptied = all_emptied e.event e.outcome (moment log) v (flat_map thing_back e.effects) h.waits reclaims;
      torn_down = where_so v.is_closed (IsTornDown v) torn_down;
    }

pub events_leave_little : (K V : Type 0) → EventsLeaveLittle K V
events_leave_little K V terms log e known w word h reclaims over shows = leaves terms log e known w word h reclaims over shows
