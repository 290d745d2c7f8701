-- What the laws promise, clause by clause, as far as crates above cite it in proofs.
use Rattle.std.proofs.Common.{ℕ, Bool}
use Rattle.owner_facts.specs.Maps.EndingsBegins.{BeginningsLeaveLess}
use Rattle.owner_facts.specs.Maps.Listed.{ListsAddUp, InOneOfTwo, FirstOrBehind, DeferredOnTables, MarkedIsSettledOrOwn}
use Rattle.owner_facts.specs.Maps.FaultsBegins.{FreeRootsSuffice, MemoryAloneIsRefused}
use Rattle.owner_facts.specs.Maps.WholeBegins.{MapsBeginAlone, MapsContinueAlone}
use Rattle.owner_facts.proofs.Alone.Lone.Copies.{settled_or_own}
use Rattle.owner_facts.proofs.Maps.Begins.Faults.{free_roots_suffice, memory_alone_is_refused}
use Rattle.owner_facts.proofs.Maps.Begins.Whole.{maps_begin_alone, maps_go_on_alone}
use Rattle.many_maps.proofs.Ends.CountedBlocks.{times-append, some_here, some_first, some_last, some_of_two, some_of_first}
use Rattle.owner_facts.proofs.Maps.Begins.ComesToEnd.{beginnings_leave_less}
use Rattle.many_maps.proofs.Ends.OrdersOn.{in_waits}

module _ {K : Type 0} (V : Type 0) (same : K → K → Bool) (hash : K → ℕ) where
  pub maps_may_begin : MapsBeginAlone V same hash
  maps_may_begin = maps_begin_alone V same hash

  pub maps_go_on : MapsContinueAlone V same hash
  maps_go_on = maps_go_on_alone V same hash

pub lists_add_up : ListsAddUp
lists_add_up = times-append

pub in_one_of_two : InOneOfTwo
in_one_of_two x a b = (some_first x a b, some_last x a b, some_of_two x a b)

pub first_or_behind : FirstOrBehind
first_or_behind x y l = (some_here x l, some_of_first x y l)

pub waits_behind_tables : {K : Type 0} → DeferredOnTables K
waits_behind_tables setting c blocks lists owns = in_waits setting c blocks lists owns

pub marked_is_settled_or_own : MarkedIsSettledOrOwn
marked_is_settled_or_own = settled_or_own

pub beginnings_come_nearer : (K V : Type 0) → BeginningsLeaveLess K V
beginnings_come_nearer = beginnings_leave_less

pub free_roots_are_enough : (K V : Type 0) → FreeRootsSuffice K V
free_roots_are_enough = free_roots_suffice

pub only_memory_is_refused : (K V : Type 0) → MemoryAloneIsRefused K V
only_memory_is_refused = memory_alone_is_refused
