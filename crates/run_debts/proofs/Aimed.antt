-- What a call writes of users' words, by what it knows where it stands: words of tables of its map, and of a table that it has made.
use Rattle.std.specs.Prelude.{◌≡◌, ◌<◌, ◌*◌, ℕ, Bool, true, false, cond, Some}
use Rattle.std.proofs.Common.{ap, sym, subst, ◌∙◌, inl, inr}
use Rattle.run_places.specs.Given.SeizeWordsDeclared.at.At.{At}
use Rattle.run_places.specs.Given.SeizeWordsMem.{value_at}
use Rattle.run_places.specs.Given.SeizeWordsWord.{block_in}
use Rattle.run_places.specs.Given.SeizeWorld.{World}
use Rattle.run_places.specs.Given.TablesChunks.{is_incremental}
use Rattle.run_places.specs.Given.TablesDeclared.node.Node.{Node}
use Rattle.run_places.specs.Given.TablesDeclared.node.Node.TheVariants as node
use Rattle.run_places.specs.Given.TablesDeclared.setting.Setting.{Setting}
use Rattle.run_places.specs.Given.TablesDeclared.table.Table.{Table}
use Rattle.run_places.specs.Given.ResizeDeclared.copier.Copier.{Copier}
use Rattle.run_places.specs.Given.ResizeDeclared.copier.Copying.{Copying}
use Rattle.run_places.specs.Given.ResizeDeclared.copier.Copying.TheVariants as copying
use Rattle.run_places.specs.Given.ResizeDeclared.dispose.Dispose.{Dispose}
use Rattle.run_places.specs.Given.ResizeDeclared.dispose.Disposing.{Disposing}
use Rattle.run_places.specs.Given.ResizeDeclared.dispose.Disposing.TheVariants as disposing
use Rattle.run_places.specs.Given.ResizeDeclared.new_table.NewTable.{NewTable}
use Rattle.run_places.specs.Given.ResizeDeclared.new_table.Making.{Making}
use Rattle.run_places.specs.Given.ResizeDeclared.new_table.Making.TheVariants as making
use Rattle.run_places.specs.Given.ReservesDeclared.reserve.Reserving.{Reserving}
use Rattle.run_places.specs.Given.ReservesDeclared.reserve.Reserving.TheVariants as reserving
use Rattle.run_places.specs.Given.ReservesDeclared.sweep.Sweep.{Sweep}
use Rattle.run_places.specs.Given.ReservesDeclared.sweep.Sweeping.{Sweeping}
use Rattle.run_places.specs.Given.ReservesDeclared.sweep.Sweeping.TheVariants as sweeping
use Rattle.run_places.specs.Given.RawDeclared.machines.call.Calling.{Calling}
use Rattle.run_places.specs.Given.RawDeclared.machines.call.Calling.TheVariants as calling
use Rattle.run_places.specs.Given.RawDeclared.machines.call.KeyCall.{KeyCall}
use Rattle.run_places.specs.Given.RuleChart.{Chart}
use Rattle.run_places.specs.Given.RuleMaps.{IsTable}
use Rattle.run_places.specs.Given.RuleWords.{Blocks}
use Rattle.run_places.proofs.Given.RuleWords.TablesSeen.{block_of_link}
use Rattle.owner_facts.specs.Given.PointsFactsCalls.{Change, CallingFacts}
use Rattle.owner_facts.specs.Given.PointsFactsCopies.{CopyingFacts, CopierFacts}
use Rattle.owner_facts.specs.Given.PointsFactsCopiesBlocking.{CopyingFactsBlocking, CopierFactsBlocking}
use Rattle.owner_facts.specs.Given.PointsFactsDisposes.{DisposingFacts, DisposeFacts}
use Rattle.owner_facts.specs.Given.PointsFactsTables.{IsOwnTable, IsLinkOf, MakingFacts, NewTableFacts}
use Rattle.owner_facts.specs.Given.LateFactsReserves.{CopiesWhole, IsEnding, ReservingFacts}
use Rattle.owner_facts.specs.Given.LateFactsSweeps.{CopiesTable, SweepingFacts}
use Rattle.owner_facts.specs.Given.LateLateCalls.{SupersededFirst, SupersededFirstFacts, SupersededCalling}
use Rattle.owner_facts.specs.Given.LateLateCopies.{SupersededCopying, SupersededCopierFacts}
use Rattle.owner_facts.specs.Given.LateLateReserves.{SupersededReserving}
use Rattle.run_debts.proofs.Aims.{AimsAt, DeferAims, DisposeAims, MakingAims, NewAims, CopyingAims, CopierAims, ReservingAims, SweepingAims, CallingAims}

-- a sweep, and a call on one key, are elsewhere than about to count
abbrev pub IsElsewhere : Sweeping → Type 0
IsElsewhere (sweeping.Counts removed) = ⊥
IsElsewhere _ = Unit {0}

abbrev pub CallsElsewhere : Calling → Type 0
CallsElsewhere (calling.Counts removed) = ⊥
CallsElsewhere _ = Unit {0}

-- it is so of each table that can be looked at, and of each that the caller has made
module _ {K V : Type 0} (same : K → K → Bool) (hash : K → ℕ) (w : World (Node K V)) (caller : ℕ) (setting : Setting) (c : Chart K) (blocks : Blocks) (P : ℕ → Type 0)
    (tables : (t : ℕ) → t < c.past → blocks.table_known t ≡ true → P (blocks.table t))
    (own : (b len limit turn : ℕ) → value_at w.memory b ≡ Some (node.Table len limit turn) → P b) where
  -- the block of a link
  link_so : (link b : ℕ) → link ≡ b * 2048 → P b → P (block_in link)
  link_so link b is so = subst P (sym (ap block_in is ∙ block_of_link b)) so

  pub table_so : (table : Table) (t : ℕ) → IsTable c blocks table t → P (block_in table.link)
  table_so table t is = link_so table.link (blocks.table t) (ap (λ (x : Table). x.link) is.is) (tables t is.made is.known)

  own_so : (table : Table) (status : ℕ) → IsOwnTable w caller table status → P (block_in table.link)
  own_so table status is = link_so table.link is.block is.link (own is.block table.len table.limit table.turn is.value)

  link_aims : (link : At) (turn : ℕ) → IsLinkOf setting c blocks link turn → AimsAt P link
  link_aims link turn (inl (is, zero)) = subst (AimsAt P) (sym is) tt
  link_aims link turn (inr (t, is, next, there, seen, aborted)) = subst (AimsAt P) (sym is) (tables t there seen)

  pub new_aims : (link : At) (turn : ℕ) (n : NewTable) → NewTableFacts w caller setting c blocks link turn n → NewAims P n
  new_aims link turn n facts = by n.stands facts.point
    where
      by : (p : Making) → MakingFacts w caller setting c blocks link turn p → MakingAims P n p
      by (making.Promotes table) point = own_so table _ point.0
      by (making.Links table) point = subst (AimsAt P) (sym facts.link_is) (link_aims link turn facts.link_of)
      by _ point = tt

  late_first_aims : (began : ℕ) (n : NewTable) → SupersededFirstFacts w caller setting c blocks began n → NewAims P n
  late_first_aims began n facts = by n.stands facts.point
    where
      by : (p : Making) → SupersededFirst w caller setting c blocks began p → MakingAims P n p
      by (making.Promotes table) point = absurd point
      by (making.Links table) point = absurd point
      by _ point = tt

  copying_aims : (x : Copier) (p : Copying) → CopyingFacts same hash w caller setting c blocks x p → CopyingAims P x p
  copying_aims x copying.Claims facts = table_so x.target _ facts.1.1
  copying_aims x copying.Marks facts = table_so x.source _ facts.1.0
  copying_aims x (copying.Puts word code table probe) facts = table_so table _ facts.7.table
  copying_aims x (copying.Covers word) facts = table_so x.source _ facts.2.copies.0
  copying_aims x (copying.Grows word code n) facts = new_aims _ _ n facts.9
  copying_aims x copying.Aborts facts = absurd facts
  copying_aims x (copying.Remakes n) facts = absurd facts
  copying_aims x copying.Counts facts = table_so x.target _ facts.0.1
  copying_aims x (copying.Tallies word fault) facts = table_so x.target _ facts.2.copies.1
  copying_aims x (copying.Unmarks word fault) facts = table_so x.source _ facts.0.2.copies.0
  copying_aims x (copying.Unclaims fault) facts = table_so x.target _ facts.1.1
  copying_aims x copying.Announces facts = table_so x.target _ facts.0.3
  copying_aims x _ facts = tt

  copier_aims : (x : Copier) → CopierFacts same hash w caller setting c blocks x → CopierAims P x
  copier_aims x facts = copying_aims x x.stands facts.point

  blocking_aims : (x : Copier) (p : Copying) → CopyingFactsBlocking same hash w caller setting c blocks x p → CopyingAims P x p
  blocking_aims x copying.Claims facts = table_so x.target _ facts.1.0.2
  blocking_aims x copying.Marks facts = table_so x.source _ facts.1.0
  blocking_aims x (copying.Puts word code table probe) facts = table_so table _ facts.7.table
  blocking_aims x (copying.Covers word) facts = absurd facts
  blocking_aims x (copying.Grows word code n) facts = absurd facts
  blocking_aims x copying.Aborts facts = table_so x.target _ facts.1.0.0.2
  blocking_aims x (copying.Remakes n) facts = new_aims _ _ n facts.3
  blocking_aims x copying.Counts facts = table_so x.target _ facts.1.2
  blocking_aims x (copying.Tallies word fault) facts = absurd facts
  blocking_aims x (copying.Unmarks word fault) facts = absurd facts
  blocking_aims x (copying.Unclaims fault) facts = absurd facts
  blocking_aims x copying.Announces facts = table_so x.target _ facts.2.1
  blocking_aims x _ facts = tt

  copier_blocking_aims : (x : Copier) → CopierFactsBlocking same hash w caller setting c blocks x → CopierAims P x
  copier_blocking_aims x facts = blocking_aims x x.stands facts.point

  late_aims : (began : ℕ) (x : Copier) (p : Copying) → SupersededCopying same hash w caller setting c blocks began x p → CopyingAims P x p
  late_aims began x copying.Claims facts = table_so x.target _ facts.2.target
  late_aims began x copying.Marks facts = table_so x.source _ facts.2.0.source
  late_aims began x (copying.Puts word code table probe) facts = table_so table _ facts.8.table
  late_aims began x (copying.Covers word) facts = absurd facts
  late_aims began x (copying.Grows word code n) facts = absurd facts
  late_aims began x copying.Aborts facts = table_so x.target _ facts.2.0.target
  late_aims began x (copying.Remakes n) facts = new_aims _ _ n facts.3
  late_aims began x copying.Counts facts = table_so x.target _ facts.2.0.target
  late_aims began x (copying.Tallies word fault) facts = absurd facts
  late_aims began x (copying.Unmarks word fault) facts = absurd facts
  late_aims began x (copying.Unclaims fault) facts = absurd facts
  late_aims began x copying.Announces facts = table_so x.target _ facts.3.1
  late_aims began x _ facts = tt

  late_copier_aims : (began : ℕ) (x : Copier) → SupersededCopierFacts same hash w caller setting c blocks began x → CopierAims P x
  late_copier_aims began x facts = late_aims began x x.stands facts.point

  -- a copier of a whole table, in the mode of the map
  whole_aims : (x : Copier) → CopiesWhole same hash w caller setting c blocks x → CopierAims P x
  whole_aims x facts = by (is_incremental setting.mode) facts
    where
      by : (q : Bool)
          → cond q ((x.whole ≡ true) × CopierFacts same hash w caller setting c blocks x × IsEnding same hash w caller setting c blocks x x.stands) (CopierFactsBlocking same hash w caller setting c blocks x)
          → CopierAims P x
      by true so = copier_aims x so.1
      by false so = copier_blocking_aims x so

  any_aims : (began : ℕ) (x : Copier) → CopiesTable same hash w caller setting c blocks began x → CopierAims P x
  any_aims began x facts = elim facts as (λ _. CopierAims P x) [
    | inl whole ↦ whole_aims x whole
    | inr late ↦ late_copier_aims began x late.1
  ]

  -- a disposal whose row has not begun
  disposing_aims : (n t : ℕ) (p : Disposing) → DisposingFacts w caller setting c blocks n t p → DisposeAims P p
  disposing_aims n t (disposing.Defers defer) facts = subst (DeferAims P) (sym facts.5) tt
  disposing_aims n t _ facts = tt

  dispose_aims : (d : Dispose) → DisposeFacts w caller setting c blocks d → DisposeAims P d.stands
  dispose_aims d facts = disposing_aims facts.n facts.t d.stands facts.point

  -- by the points of each kind of call

  pub room_aims : (p : Reserving) → ReservingFacts same hash w caller setting c blocks p → ReservingAims P p
  room_aims (reserving.Makes n) facts = new_aims _ _ n facts
  room_aims (reserving.Grows table n) facts = new_aims _ _ n facts.3
  room_aims (reserving.Copies copier) facts = whole_aims copier facts
  room_aims _ facts = tt

  pub late_room_aims : (began : ℕ) (p : Reserving) → SupersededReserving same hash w caller setting c blocks began p → ReservingAims P p
  late_room_aims began (reserving.Makes n) facts = late_first_aims began n facts
  late_room_aims began (reserving.Grows table n) facts = new_aims _ _ n facts.3
  late_room_aims began (reserving.Copies copier) facts = late_copier_aims began copier facts
  late_room_aims began _ facts = tt

  pub over_all_aims : (began : ℕ) (x : Sweep) (p : Sweeping) → IsElsewhere p → SweepingFacts same hash w caller setting c blocks began x p → SweepingAims P x p
  over_all_aims began x (sweeping.Copies copier) elsewhere facts = any_aims began copier facts
  over_all_aims began x (sweeping.Tries word) elsewhere facts = table_so x.table _ facts.3.0.table
  over_all_aims began x (sweeping.Counts removed) elsewhere facts = absurd elsewhere
  over_all_aims began x (sweeping.Disposes dispose) elsewhere facts = dispose_aims dispose facts.3
  over_all_aims began x _ elsewhere facts = tt

  module _ (keys : K → Bool) where
    pub key_aims : (change : Change) (x : KeyCall K V K) (p : Calling) → CallsElsewhere p → CallingFacts same hash same w caller setting c blocks keys change x p → CallingAims P x p
    key_aims change x (calling.Tries word new) elsewhere facts = table_so x.trial.table _ facts.2.2.table
    key_aims change x (calling.Counts removed) elsewhere facts = absurd elsewhere
    key_aims change x (calling.Firsts n) elsewhere facts = new_aims _ _ n facts.2
    key_aims change x (calling.Allocs n) elsewhere facts = new_aims _ _ n facts.3
    key_aims change x (calling.Helps copier goal) elsewhere facts = copier_aims copier facts.6
    key_aims change x (calling.Copies copier) elsewhere facts = copier_blocking_aims copier facts.2
    key_aims change x (calling.Disposes dispose answer) elsewhere facts = dispose_aims dispose facts.0
    key_aims change x _ elsewhere facts = tt

    pub late_key_aims : (began : ℕ) (x : KeyCall K V K) (p : Calling) → SupersededCalling same hash same w caller setting c blocks keys began x p → CallingAims P x p
    late_key_aims began x (calling.Tries word new) facts = table_so x.trial.table _ facts.1.2.table
    late_key_aims began x (calling.Counts removed) facts = absurd facts
    late_key_aims began x (calling.Firsts n) facts = late_first_aims began n facts.2
    late_key_aims began x (calling.Allocs n) facts = new_aims _ _ n facts.4
    late_key_aims began x (calling.Helps copier goal) facts = absurd facts
    late_key_aims began x (calling.Copies copier) facts = late_copier_aims began copier facts.1
    late_key_aims began x (calling.Disposes dispose answer) facts = absurd facts
    late_key_aims began x _ facts = tt
