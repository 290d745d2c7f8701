-- A table that a call is to make has places, whatever the call is.
use Rattle.std.specs.Prelude.{◌≡◌, ◌<◌, ◌≤◌, ℕ, ◌*◌, Bool, true, false, cond, Option, Some, ◌⊎◌}
use Rattle.std.proofs.Common.{subst, ◌∙◌, arith, inl, inr}
use Rattle.run_debts.specs.Given.SeizeWordsMem.{value_at}
use Rattle.run_debts.specs.Given.SeizeWordsDeclared.at.At.{At}
use Rattle.run_debts.specs.Given.SeizeWordsDeclared.at.At.TheVariants.{Root, Word}
use Rattle.run_debts.specs.Given.SeizeWorld.{World, Making as MadeBy}
use Rattle.run_debts.specs.Given.TablesChunks.{is_incremental}
use Rattle.run_debts.specs.Given.TablesDeclared.node.Node.{Node}
use Rattle.run_debts.specs.Given.TablesDeclared.node.Node.TheVariants as node
use Rattle.run_debts.specs.Given.TablesDeclared.setting.Setting.{Setting}
use Rattle.run_debts.specs.Given.TablesDeclared.table.Table.{Table}
use Rattle.run_debts.specs.Given.TablesDeclared.table_words.TheConstants.{NEXT}
use Rattle.owner_calls.specs.Given.ResizeDeclared.copier.Copier.{Copier}
use Rattle.owner_calls.specs.Given.ResizeDeclared.copier.Copying.{Copying}
use Rattle.owner_calls.specs.Given.ResizeDeclared.copier.Copying.TheVariants as copying
use Rattle.owner_calls.specs.Given.ResizeDeclared.new_table.NewTable.{NewTable}
use Rattle.owner_calls.specs.Given.ResizeDeclared.new_table.Making.{Making}
use Rattle.owner_calls.specs.Given.ResizeDeclared.new_table.Making.TheVariants as making
use Rattle.run_debts.specs.Given.ReservesDeclared.reserve.Reserving.{Reserving}
use Rattle.run_debts.specs.Given.ReservesDeclared.reserve.Reserving.TheVariants as reserving
use Rattle.run_debts.specs.Given.ReservesDeclared.sweep.Sweep.{Sweep}
use Rattle.run_debts.specs.Given.ReservesDeclared.sweep.Sweeping.{Sweeping}
use Rattle.run_debts.specs.Given.ReservesDeclared.sweep.Sweeping.TheVariants as sweeping
use Rattle.run_debts.specs.Given.RawDeclared.machines.call.Calling.{Calling}
use Rattle.run_debts.specs.Given.RawDeclared.machines.call.Calling.TheVariants as calling
use Rattle.run_debts.specs.Given.RawDeclared.machines.call.KeyCall.{KeyCall}
use Rattle.owner_calls.specs.Given.RuleChart.{Chart}
use Rattle.owner_calls.specs.Given.RuleWords.{Blocks}
use Rattle.owner_calls.specs.Given.PointsFactsCalls.{Change, CallingFacts}
use Rattle.owner_calls.specs.Given.PointsFactsCopies.{CopyingFacts, CopierFacts}
use Rattle.owner_calls.specs.Given.PointsFactsCopiesBlocking.{CopyingFactsBlocking, CopierFactsBlocking}
use Rattle.owner_calls.specs.Given.PointsFactsTables.{IsOwnTable, IsPlanned, IsLinkOf, StandsAs, MakingFacts, NewTableFacts}
use Rattle.owner_calls.specs.Given.LateFactsReserves.{IsEnding, CopiesWhole, ReservingFacts}
use Rattle.owner_calls.specs.Given.LateFactsSweeps.{CopiesTable, SweepingFacts}
use Rattle.owner_calls.specs.Given.LateLateCalls.{SupersededFirst, SupersededFirstFacts, SupersededCalling}
use Rattle.owner_calls.specs.Given.LateLateCopies.{SupersededCopying, SupersededCopierFacts}
use Rattle.owner_calls.specs.Given.LateLateReserves.{SupersededReserving}
use Rattle.owner_calls.specs.Given.CallersOverAll.{CallOverAll}
use Rattle.owner_calls.specs.Given.CallersTogether.{CallOnKey, in_slot, Knows, KnowsRoom, KnowsSweep}
use Rattle.run_debts.specs.Given.ReservesDeclared.reserve.Reserve.{Reserve}
use Rattle.run_blocks.specs.Owes.Making.{making_in_copying, making_in_calling, making_in_reserving, making_in_sweeping}

-- the table that is to be made has places
abbrev pub HasPlaces : Making → Type 0
HasPlaces (making.Makes table) = 8 ≤ table.len
HasPlaces _ = Unit {0}

-- a table is in this caller's hands, as it made it
pub record IsInHands {K V : Type 0} (w : World (Node K V)) (i : ℕ) (table : Table) : Type 0 where
  pub block : ℕ
  pub link : table.link ≡ block * 2048
  pub some : 0 < block
  pub hand : w.hand block ≡ MadeBy i
  pub value : value_at w.memory block ≡ Some (node.Table table.len table.limit table.turn)
  pub places : 8 ≤ table.len

-- by the point of a making: the table that is to be made has places, and the one that was made is in its caller's hands
abbrev pub IsMadeBy : {K V : Type 0} → World (Node K V) → ℕ → Making → Type 0
IsMadeBy w i (making.Makes table) = 8 ≤ table.len
IsMadeBy w i (making.Promotes table) = IsInHands w i table
IsMadeBy w i (making.Links table) = IsInHands w i table
IsMadeBy w i (making.Drops table found) = IsInHands w i table
IsMadeBy w i _ = Unit {0}

-- The turn of a table that is to be made is no later than so many tables have, and earlier where another one stands in its place.
abbrev pub IsInTurn : ℕ → Making → Type 0
IsInTurn many (making.Makes table) = table.turn ≤ many
IsInTurn many (making.Drops table found) = table.turn < many
IsInTurn many _ = Unit {0}

-- where it is to stand: at a root, or behind a table of the map
abbrev pub HasLink : {K : Type 0} → Chart K → Blocks → At → Type 0
HasLink c blocks link = ((r : ℕ) × (link ≡ Root r)) ⊎ ((t : ℕ) × (link ≡ Word (blocks.table t) NEXT) × (t < c.past) × (blocks.table_known t ≡ true))

-- what is known of a making of a table
abbrev pub IsItsMaking : {K V : Type 0} → World (Node K V) → ℕ → Chart K → Blocks → NewTable → Type 0
IsItsMaking w i c blocks n = IsMadeBy w i n.stands × HasLink c blocks n.link × IsInTurn c.past n.stands

pub places_of : {K V : Type 0} (w : World (Node K V)) (i : ℕ) (p : Making) → IsMadeBy w i p → HasPlaces p
places_of w i (making.Makes table) made = made
places_of w i (making.Sums before reason sum) made = tt
places_of w i (making.Promotes table) made = tt
places_of w i (making.Links table) made = tt
places_of w i (making.Drops table found) made = tt
places_of w i (making.Over table) made = tt
places_of w i (making.Refused fault) made = tt

in_hands : {K V : Type 0} (w : World (Node K V)) (i : ℕ) (table : Table) (status turn : ℕ) → IsOwnTable w i table status → IsPlanned table turn → IsInHands w i table
in_hands w i table status turn own planned = record { block = own.block; link = own.link; some = own.number.0; hand = own.hand; value = own.value; places = planned.len.least }

-- it is this making
that_one : (P : NewTable → Type 0) (n m : NewTable) → ◌≡◌ {A = Option NewTable} (Some m) (Some n) → P m → P n
that_one P n m e has = let same : m ≡ n = cc e in subst P same has

module _ {K V : Type 0} (same : K → K → Bool) (hash : K → ℕ) (w : World (Node K V)) (caller : ℕ) (setting : Setting) (c : Chart K) (blocks : Blocks) where
  abbrev Its : NewTable → Type 0
  Its n = IsItsMaking w caller c blocks n

  making_has : (link : At) (turn : ℕ) (p : Making) → MakingFacts w caller setting c blocks link turn p → IsMadeBy w caller p
  making_has link turn (making.Sums before reason sum) facts = tt
  making_has link turn (making.Makes table) facts = facts.1.len.least
  making_has link turn (making.Promotes table) facts = in_hands w caller table _ turn facts.0 facts.1
  making_has link turn (making.Links table) facts = in_hands w caller table _ turn facts.0 facts.1
  making_has link turn (making.Drops table found) facts = in_hands w caller table _ turn facts.0 facts.6
  making_has link turn (making.Over table) facts = tt
  making_has link turn (making.Refused fault) facts = tt

  turn_before : (link : At) (turn : ℕ) → IsLinkOf setting c blocks link turn → turn ≤ c.past
  turn_before link turn (inl (is, first)) = omega (arith, first)
  turn_before link turn (inr (t, is, next, there, seen, aborted)) = omega (arith, next, there)

  -- another one stands there
  found_before : (link : At) (turn u : ℕ) → IsLinkOf setting c blocks link turn → StandsAs setting c link turn u → u < c.past → turn < c.past
  found_before link turn u (inl (is, first)) stands before = omega (arith, first, before)
  found_before link turn u (inr (t, is, next, there, seen, aborted)) stands before =
      let same_turn : u ≡ turn = subst (λ (a : At). StandsAs setting c a turn u) is stands in omega (arith, same_turn, before)

  in_turn : (link : At) (turn : ℕ) (p : Making) → MakingFacts w caller setting c blocks link turn p → IsLinkOf setting c blocks link turn → IsInTurn c.past p
  in_turn link turn (making.Makes table) facts link_of =
      let turn_is = facts.1.turn_is in let before = turn_before link turn link_of in omega (arith, turn_is, before)
  in_turn link turn (making.Drops table found) facts link_of =
      let turn_is = facts.6.turn_is in let before = found_before link turn facts.1 link_of facts.2 facts.3 in omega (arith, turn_is, before)
  in_turn link turn (making.Sums before reason sum) facts link_of = tt
  in_turn link turn (making.Promotes table) facts link_of = tt
  in_turn link turn (making.Links table) facts link_of = tt
  in_turn link turn (making.Over table) facts link_of = tt
  in_turn link turn (making.Refused fault) facts link_of = tt

  pub new_made : (link : At) (turn : ℕ) (n : NewTable) → NewTableFacts w caller setting c blocks link turn n → Its n
  new_made link turn n facts = (making_has link turn n.stands facts.point, by facts.link_of, in_turn link turn n.stands facts.point facts.link_of)
    where
      by : IsLinkOf setting c blocks link turn → HasLink c blocks n.link
      by (inl (is, first)) = inl (setting.root, facts.link_is ∙ is)
      by (inr (t, is, next, there, seen, aborted)) = inr (t, facts.link_is ∙ is, there, seen)

  first_has : (began : ℕ) (p : Making) → SupersededFirst w caller setting c blocks began p → IsMadeBy w caller p
  first_has began (making.Sums before reason sum) facts = absurd facts
  first_has began (making.Makes table) facts = absurd facts
  first_has began (making.Promotes table) facts = absurd facts
  first_has began (making.Links table) facts = absurd facts
  first_has began (making.Drops table found) facts = in_hands w caller table _ 0 facts.0 facts.1
  first_has began (making.Over table) facts = tt
  first_has began (making.Refused fault) facts = absurd facts

  first_turn : (began : ℕ) (p : Making) → SupersededFirst w caller setting c blocks began p → IsInTurn c.past p
  first_turn began (making.Sums before reason sum) facts = absurd facts
  first_turn began (making.Makes table) facts = absurd facts
  first_turn began (making.Promotes table) facts = absurd facts
  first_turn began (making.Links table) facts = absurd facts
  first_turn began (making.Drops table found) facts = let turn_is = facts.1.turn_is in let before = facts.4 in omega (arith, turn_is, before)
  first_turn began (making.Over table) facts = tt
  first_turn began (making.Refused fault) facts = absurd facts

  late_first_has : (began : ℕ) (n : NewTable) → SupersededFirstFacts w caller setting c blocks began n → Its n
  late_first_has began n facts = (first_has began n.stands facts.point, inl (setting.root, facts.link_is), first_turn began n.stands facts.point)

  module _ (n : NewTable) where
    copying_has : (x : Copier) (p : Copying) → CopyingFacts same hash w caller setting c blocks x p → making_in_copying p ≡ Some n → Its n
    copying_has x (copying.Grows word code m) facts is = that_one Its n m is (new_made _ _ m facts.9)
    copying_has x (copying.Remakes m) facts is = absurd facts
    copying_has x _ facts is = absurd (cc is)

    copier_has : (x : Copier) → CopierFacts same hash w caller setting c blocks x → making_in_copying x.stands ≡ Some n → Its n
    copier_has x facts is = copying_has x x.stands facts.point is

    blocking_has : (x : Copier) (p : Copying) → CopyingFactsBlocking same hash w caller setting c blocks x p → making_in_copying p ≡ Some n → Its n
    blocking_has x (copying.Grows word code m) facts is = absurd facts
    blocking_has x (copying.Remakes m) facts is = that_one Its n m is (new_made _ _ m facts.3)
    blocking_has x _ facts is = absurd (cc is)

    copier_blocking_has : (x : Copier) → CopierFactsBlocking same hash w caller setting c blocks x → making_in_copying x.stands ≡ Some n → Its n
    copier_blocking_has x facts is = blocking_has x x.stands facts.point is

    late_has : (began : ℕ) (x : Copier) (p : Copying) → SupersededCopying same hash w caller setting c blocks began x p → making_in_copying p ≡ Some n → Its n
    late_has began x (copying.Grows word code m) facts is = absurd facts
    late_has began x (copying.Remakes m) facts is = that_one Its n m is (new_made _ _ m facts.3)
    late_has began x _ facts is = absurd (cc is)

    late_copier_has : (began : ℕ) (x : Copier) → SupersededCopierFacts same hash w caller setting c blocks began x → making_in_copying x.stands ≡ Some n → Its n
    late_copier_has began x facts is = late_has began x x.stands facts.point is

    -- a copier of a whole table, in the mode of the map
    whole_has : (x : Copier) → CopiesWhole same hash w caller setting c blocks x → making_in_copying x.stands ≡ Some n → Its n
    whole_has x facts is = by (is_incremental setting.mode) facts
      where
        by : (q : Bool)
            → cond q ((x.whole ≡ true) × CopierFacts same hash w caller setting c blocks x × IsEnding same hash w caller setting c blocks x x.stands) (CopierFactsBlocking same hash w caller setting c blocks x)
            → Its n
        by true so = copier_has x so.1 is
        by false so = copier_blocking_has x so is

    table_has : (began : ℕ) (x : Copier) → CopiesTable same hash w caller setting c blocks began x → making_in_copying x.stands ≡ Some n → Its n
    table_has began x facts is = elim facts as (λ _. Its n) [
      | inl whole ↦ whole_has x whole is
      | inr late ↦ late_copier_has began x late.1 is
    ]

    -- by the points of each kind of call

    room_has : (p : Reserving) → ReservingFacts same hash w caller setting c blocks p → making_in_reserving p ≡ Some n → Its n
    room_has (reserving.Makes m) facts is = that_one Its n m is (new_made _ _ m facts)
    room_has (reserving.Grows table m) facts is = that_one Its n m is (new_made _ _ m facts.3)
    room_has (reserving.Copies copier) facts is = whole_has copier facts is
    room_has _ facts is = absurd (cc is)

    late_room_has : (began : ℕ) (p : Reserving) → SupersededReserving same hash w caller setting c blocks began p → making_in_reserving p ≡ Some n → Its n
    late_room_has began (reserving.Makes m) facts is = that_one Its n m is (late_first_has began m facts)
    late_room_has began (reserving.Grows table m) facts is = that_one Its n m is (new_made _ _ m facts.3)
    late_room_has began (reserving.Copies copier) facts is = late_copier_has began copier facts is
    late_room_has began _ facts is = absurd (cc is)

    sweep_has : (began : ℕ) (x : Sweep) (p : Sweeping) → SweepingFacts same hash w caller setting c blocks began x p → making_in_sweeping p ≡ Some n → Its n
    sweep_has began x (sweeping.Copies copier) facts is = table_has began copier facts is
    sweep_has began x _ facts is = absurd (cc is)

    module _ (keys : K → Bool) where
      call_has : (change : Change) (x : KeyCall K V K) (p : Calling) → CallingFacts same hash same w caller setting c blocks keys change x p → making_in_calling p ≡ Some n → Its n
      call_has change x (calling.Firsts m) facts is = that_one Its n m is (new_made _ _ m facts.2)
      call_has change x (calling.Allocs m) facts is = that_one Its n m is (new_made _ _ m facts.3)
      call_has change x (calling.Helps copier goal) facts is = copier_has copier facts.6 is
      call_has change x (calling.Copies copier) facts is = copier_blocking_has copier facts.2 is
      call_has change x _ facts is = absurd (cc is)

      late_call_has : (began : ℕ) (x : KeyCall K V K) (p : Calling) → SupersededCalling same hash same w caller setting c blocks keys began x p → making_in_calling p ≡ Some n → Its n
      late_call_has began x (calling.Firsts m) facts is = that_one Its n m is (late_first_has began m facts.2)
      late_call_has began x (calling.Allocs m) facts is = that_one Its n m is (new_made _ _ m facts.4)
      late_call_has began x (calling.Helps copier goal) facts is = absurd facts
      late_call_has began x (calling.Copies copier) facts is = late_copier_has began copier facts.1 is
      late_call_has began x _ facts is = absurd (cc is)

module _ {K V : Type 0} (same : K → K → Bool) (hash : K → ℕ) (setting : Setting) (slot : ℕ → ℕ) (w : World (Node K V)) (c : Chart K) (seen : Blocks) (i : ℕ) (n : NewTable) where
  pub key_made : (u : CallOnKey K V K) (p : KeyCall K V K) → Knows V same hash same setting slot w c seen i u p → making_in_calling p.stands ≡ Some n → IsItsMaking w i c seen n
  key_made u p knows is = elim (knows.facts) as (λ _. IsItsMaking w i c seen n) [
    | inl facts ↦ call_has same hash w i (in_slot setting (slot i)) c seen n u.keys u.change p p.stands facts.point is
    | inr late ↦ late_call_has same hash w i (in_slot setting (slot i)) c seen n u.keys u.began p p.stands late.1.point is
  ]

  pub reserve_made : (began : ℕ) (p : Reserve) → KnowsRoom V same hash same setting slot w c seen i began p → making_in_reserving p.stands ≡ Some n → IsItsMaking w i c seen n
  reserve_made began p knows is = elim (knows.facts) as (λ _. IsItsMaking w i c seen n) [
    | inl facts ↦ room_has same hash w i (in_slot setting (slot i)) c seen n p.stands facts.point is
    | inr late ↦ late_room_has same hash w i (in_slot setting (slot i)) c seen n began p.stands late.point is
  ]

  pub over_all_made : (o : CallOverAll) (p : Sweep) → KnowsSweep V same hash same setting slot w c seen i o p → making_in_sweeping p.stands ≡ Some n → IsItsMaking w i c seen n
  over_all_made o p knows is = sweep_has same hash w i (in_slot setting (slot i)) c seen n o.began p p.stands knows.facts.point is

  -- so each table that is to be made has places

  pub key_has : (u : CallOnKey K V K) (p : KeyCall K V K) → Knows V same hash same setting slot w c seen i u p → making_in_calling p.stands ≡ Some n → HasPlaces n.stands
  key_has u p knows is = places_of w i n.stands (key_made u p knows is).0

  pub reserve_has : (began : ℕ) (p : Reserve) → KnowsRoom V same hash same setting slot w c seen i began p → making_in_reserving p.stands ≡ Some n → HasPlaces n.stands
  reserve_has began p knows is = places_of w i n.stands (reserve_made began p knows is).0

  pub over_all_has : (o : CallOverAll) (p : Sweep) → KnowsSweep V same hash same setting slot w c seen i o p → making_in_sweeping p.stands ≡ Some n → HasPlaces n.stands
  over_all_has o p knows is = places_of w i n.stands (over_all_made o p knows is).0

module _ {K V : Type 0} (same : K → K → Bool) (hash : K → ℕ) (w : World (Node K V)) (i : ℕ) (setting : Setting) (c : Chart K) (blocks : Blocks) where
  pub new_has : (link : At) (turn : ℕ) (n : NewTable) → NewTableFacts w i setting c blocks link turn n → HasPlaces n.stands
  new_has link turn n facts = places_of w i n.stands (new_made same hash w i setting c blocks link turn n facts).0
