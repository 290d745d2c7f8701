-- Where a call takes a step: what it may write of users' words is no map's count, unless it stands where it counts.
use Rattle.std.specs.Prelude.{◌≡◌, ◌≢◌, ◌<◌, ◌+◌, ℕ, Bool, true, List, Option, Some, None}
use Rattle.std.proofs.Common.{ap, sym, subst, inl, inr}
use Rattle.run_places.specs.Given.SeizeWordsMem.{value_at}
use Rattle.run_places.specs.Given.SeizeWorld.{World, Defers, IsInside}
use Rattle.run_places.specs.Given.SeizeDeclared.rows.defer.Defer.{Defer}
use Rattle.run_places.specs.Given.SeizeDeclared.rows.defer.Deferring.{Deferring}
use Rattle.run_places.specs.Given.SeizeDeclared.rows.defer.Deferring.TheVariants as deferring
use Rattle.run_places.specs.Given.SeizeDeclared.states.TheConstants.{LAST_SLOT}
use Rattle.owner_facts.proofs.Given.SeizeAloneHistories.Reached.{Reached}
use Rattle.owner_facts.proofs.Given.SeizeRuleRows.Known.{FitsDefer, FitsRow}
use Rattle.owner_facts.proofs.Given.SeizeMemoryWords.View.{View, view}
use Rattle.run_places.specs.Given.TablesNodes.{deferred_word}
use Rattle.run_places.specs.Given.TablesDeclared.node.Node.{Node}
use Rattle.run_places.specs.Given.TablesDeclared.node.Node.TheVariants as node
use Rattle.run_places.specs.Given.ResizeDeclared.copier.Copier.{Copier}
use Rattle.run_places.specs.Given.ResizeDeclared.copier.Copying.{Copying}
use Rattle.run_places.specs.Given.ResizeDeclared.copier.Copying.TheVariants as copying
use Rattle.run_places.specs.Given.ResizeDeclared.dispose.Disposing.{Disposing}
use Rattle.run_places.specs.Given.ResizeDeclared.dispose.Disposing.TheVariants as disposing
use Rattle.run_places.specs.Given.ReservesDeclared.reserve.Reserving.{Reserving}
use Rattle.run_places.specs.Given.ReservesDeclared.reserve.Reserving.TheVariants as reserving
use Rattle.run_places.specs.Given.ReservesDeclared.sweep.Sweeping.{Sweeping}
use Rattle.run_places.specs.Given.ReservesDeclared.sweep.Sweeping.TheVariants as sweeping
use Rattle.run_places.specs.Given.RawDeclared.machines.call.Calling.{Calling}
use Rattle.run_places.specs.Given.RawDeclared.machines.call.Calling.TheVariants as calling
use Rattle.run_places.specs.Given.SchedulesMoment.{Moment}
use Rattle.run_places.specs.Given.RuleWords.{Blocks}
use Rattle.owner_facts.specs.Given.PointsTold.{IsRowOf, IsRowOfCopier, IsRowOfCall}
use Rattle.owner_facts.specs.Given.LateToldReserves.{IsRowOfReserve}
use Rattle.owner_facts.specs.Given.LateToldSweeps.{IsRowOfSweep}
use Rattle.owner_facts.specs.Given.CallersOverAll.{CallOverAll, row_of_sweep}
use Rattle.owner_facts.specs.Given.CallersRooms.{CallForRoom}
use Rattle.owner_facts.specs.Given.CallersRows.{row_of_disposal, row_of}
use Rattle.owner_facts.specs.Given.CallersSights.{Visible, seen_by, IsVisibility}
use Rattle.owner_facts.specs.Given.CallersTogether.{CallOnKey, UnderWay, OnKey, ForRoom, OverAll, Together}
use Rattle.owner_facts.proofs.Given.CallersTogether.Came.{came_reached}
use Rattle.run_places.specs.Given.EffectsKnown.{Known}
use Rattle.run_places.specs.Given.EffectsDeclared.role.Role.TheVariants as role
use Rattle.owner_facts.specs.Given.FinishesMaps.{Standing}
use Rattle.run_places.specs.Given.FollowsBlocks.{HasRole}
use Rattle.run_places.specs.Given.FollowsShows.{Refines}
use Rattle.run_debts.proofs.Aimed.{IsElsewhere, CallsElsewhere, room_aims, late_room_aims, over_all_aims, key_aims, late_key_aims}
use Rattle.run_debts.proofs.Aims.{AimsAt, DeferringAims, DisposeAims, CopyingAims, ReservingAims, SweepingAims, CallingAims}
use Rattle.run_places.specs.Given.ScenesHeld.{Held, IsAt}
use Rattle.run_places.specs.Given.ScenesScene.{Scene, slot_of}

-- the block is no map's count
abbrev pub IsNoCount : Known → ℕ → Type 0
IsNoCount known b = (of : ℕ) → known.roles b ≡ role.Counter of → ⊥

module _ {K V : Type 0} (same : K → K → Bool) (hash : ℕ → K → ℕ) (name : ℕ → List ℕ) (m : Moment K V) (known : Known) (s : Scene K V) (old : Held K V) (at : IsAt same hash old s)
    (shown : Refines same name m known s) (map i : ℕ) (st : Standing K) (there : s.maps map ≡ Some st) (u : UnderWay K V K) (here : s.calls map i ≡ Some u) where
  abbrev w : World (Node K V)
  w = s.world

  abbrev sight : Visible
  sight = st.sights (slot_of i)

  abbrev seen : Blocks
  seen = seen_by st.blocks sight

  pub each : Together V same st.hash same st.setting slot_of w st.chart st.blocks st.sights (s.calls map)
  each = at.together.makings.standing.each map st there

  pub is_sight : IsInside (w.uses (slot_of i)) → IsVisibility st.chart st.blocks sight
  is_sight inside = (each.ground.sight (slot_of i) inside).0

  -- tables of the map are none
  tables_no : IsInside (w.uses (slot_of i)) → (t : ℕ) → t < st.chart.past → sight.tables t ≡ true → IsNoCount known (st.blocks.table t)
  tables_no inside t made known_table of is = (let its = (shown.maps map st there).tables.roles t made ((is_sight inside).tables t made known_table) in cc (its, is))

  -- nor is a table that was made
  value_no : (b : ℕ) (value : Node K V) → value_at w.memory b ≡ Some value → value ≢ node.Shards → IsNoCount known b
  value_no b value there_value other of is =
      (let shards : value_at w.memory b ≡ Some node.Shards = subst (HasRole w m.stored b) is (shown.blocks.roles b) in other (let one : value ≡ node.Shards = cc (there_value, shards) in one))

  own_no : (b len limit turn : ℕ) → value_at w.memory b ≡ Some (node.Table len limit turn) → IsNoCount known b
  own_no b len limit turn is = value_no b (node.Table len limit turn) is (λ e. cc e)

  abbrev seen_view : View
  seen_view = view deferred_word w.memory

  -- nor is a block that carries pairs
  listed_no : (b d : ℕ) → seen_view.lists b ≡ Some d → IsNoCount known b
  listed_no b d is of counter =
      (let shards : value_at w.memory b ≡ Some node.Shards = subst (HasRole w m.stored b) counter (shown.blocks.roles b) in
      let none : seen_view.lists b ≡ None = ap list_of shards in cc (none, is))
    where
      list_of : Option (Node K V) → Option ℕ
      list_of None = None
      list_of (Some value) = deferred_word value

  -- within a row

  reached : Reached deferred_word st.setting.batch_size w
  reached = came_reached st.setting.batch_size w each.ground.came

  pushes_no : (slot : ℕ) (c : Defer) → w.row i ≡ Defers slot c → DeferringAims (IsNoCount known) c c.stands
  pushes_no slot c is = by c.stands fits
    where
      fits : FitsDefer (LAST_SLOT + 1) i seen_view reached.good.state reached.good.extra slot c.block c.table_word c.stands
      fits = subst (FitsRow (LAST_SLOT + 1) i seen_view reached.good.state reached.good.extra _) is (reached.good.rows i)

      by : (p : Deferring) → FitsDefer (LAST_SLOT + 1) i seen_view reached.good.state reached.good.extra slot c.block c.table_word p → DeferringAims (IsNoCount known) c p
      by (deferring.Pushes head) f = subst (AimsAt (IsNoCount known)) (sym f.on.at_is) (listed_no f.on.t f.on.d f.on.list)
      by _ f = tt

  disposal_no : (slot : ℕ) (p : Disposing) → IsRowOf p → w.row i ≡ row_of_disposal slot p → DisposeAims (IsNoCount known) p
  disposal_no slot (disposing.Settles settle) row is = tt
  disposal_no slot (disposing.Defers defer) row is = pushes_no slot defer is
  disposal_no slot disposing.Reads row is = absurd row
  disposal_no slot (disposing.Walks table) row is = absurd row
  disposal_no slot disposing.Over row is = absurd row

  copier_no : (c : Copier) (p : Copying) → IsRowOfCopier p → CopyingAims (IsNoCount known) c p
  copier_no c (copying.Retires settle rest) row = tt
  copier_no c _ row = absurd row

  -- a call on one key
  pub key_no : (x : CallOnKey K V K) → s.calls map i ≡ Some (OnKey x) → CallsElsewhere x.call.stands
      → CallingAims (IsNoCount known) x.call x.call.stands
  key_no x is elsewhere = elim (each.stand i (OnKey x) is) as (λ _. CallingAims (IsNoCount known) x.call x.call.stands) [
    | inl (rests, knows) ↦ elim (knows.facts) as (λ _. CallingAims (IsNoCount known) x.call x.call.stands) [
      | inl facts ↦ key_aims same st.hash w i _ st.chart seen (IsNoCount known) (tables_no (each.inside i (OnKey x) is)) own_no x.keys x.change x.call x.call.stands elsewhere facts.point
      | inr late ↦ late_key_aims same st.hash w i _ st.chart seen (IsNoCount known) (tables_no (each.inside i (OnKey x) is)) own_no x.keys x.began x.call x.call.stands late.1.point
    ]
    | inr (row, is_row, knows) ↦ by x.call.stands is_row row
  ]
    where
      by : (p : Calling) → IsRowOfCall p → w.row i ≡ row_of (slot_of i) p → CallingAims (IsNoCount known) x.call p
      by (calling.Disposes dispose answer) is_row row = disposal_no (slot_of i) dispose.stands is_row row
      by (calling.Helps copier goal) is_row row = copier_no copier copier.stands is_row
      by (calling.Copies copier) is_row row = copier_no copier copier.stands is_row
      by _ is_row row = absurd is_row

  -- a reservation
  pub room_no : (x : CallForRoom) → s.calls map i ≡ Some (ForRoom x) → ReservingAims (IsNoCount known) x.reserve.stands
  room_no x is = elim (each.stand i (ForRoom x) is) as (λ _. ReservingAims (IsNoCount known) x.reserve.stands) [
    | inl (rests, knows) ↦ elim (knows.facts) as (λ _. ReservingAims (IsNoCount known) x.reserve.stands) [
      | inl facts ↦ room_aims same st.hash w i _ st.chart seen (IsNoCount known) (tables_no (each.inside i (ForRoom x) is)) own_no x.reserve.stands facts.point
      | inr late ↦ late_room_aims same st.hash w i _ st.chart seen (IsNoCount known) (tables_no (each.inside i (ForRoom x) is)) own_no x.began x.reserve.stands late.point
    ]
    | inr (row, is_row, knows) ↦ by x.reserve.stands is_row
  ]
    where
      by : (p : Reserving) → IsRowOfReserve p → ReservingAims (IsNoCount known) p
      by (reserving.Copies copier) is_row = copier_no copier copier.stands is_row
      by _ is_row = absurd is_row

  -- a sweep
  pub over_all_no : (x : CallOverAll) → s.calls map i ≡ Some (OverAll x) → IsElsewhere x.sweep.stands
      → SweepingAims (IsNoCount known) x.sweep x.sweep.stands
  over_all_no x is elsewhere = elim (each.stand i (OverAll x) is) as (λ _. SweepingAims (IsNoCount known) x.sweep x.sweep.stands) [
    | inl (rests, knows) ↦ over_all_aims same st.hash w i _ st.chart seen (IsNoCount known) (tables_no (each.inside i (OverAll x) is)) own_no x.began x.sweep x.sweep.stands elsewhere knows.facts.point
    | inr (row, is_row, knows) ↦ by x.sweep.stands is_row row
  ]
    where
      by : (p : Sweeping) → IsRowOfSweep p → w.row i ≡ row_of_sweep (slot_of i) p → SweepingAims (IsNoCount known) x.sweep p
      by (sweeping.Copies copier) is_row row = copier_no copier copier.stands is_row
      by (sweeping.Disposes dispose) is_row row = disposal_no (slot_of i) dispose.stands is_row row
      by _ is_row row = absurd is_row
