-- A step of a call that is none of a row leaves what is of other maps in the hands that had it; and rows within calls hand something over.
use Rattle.std.specs.Prelude.{◌≡◌, ℕ, Bool, List, Option, Some, None}
use Rattle.std.proofs.Common.{ap, sym, subst, ◌∙◌, inl, inr}
use Rattle.run_shows.specs.Given.SeizeWordsMem.{value_at}
use Rattle.run_shows.specs.Given.SeizeWorld.{World, Hand, Row, Making, IsInside}
use Rattle.run_shows.specs.Given.TablesDeclared.node.Node.{Node}
use Rattle.run_shows.specs.Given.ResizeDeclared.copier.Copying.{Copying}
use Rattle.run_shows.specs.Given.ResizeDeclared.copier.Copying.TheVariants as copies
use Rattle.run_shows.specs.Given.ResizeDeclared.dispose.Disposing.{Disposing}
use Rattle.run_shows.specs.Given.ResizeDeclared.dispose.Disposing.TheVariants as disposes
use Rattle.run_shows.specs.Given.ReservesDeclared.reserve.Reserving.{Reserving}
use Rattle.run_shows.specs.Given.ReservesDeclared.reserve.Reserving.TheVariants as reserves
use Rattle.run_shows.specs.Given.ReservesDeclared.sweep.Sweeping.{Sweeping}
use Rattle.run_shows.specs.Given.ReservesDeclared.sweep.Sweeping.TheVariants as sweeps
use Rattle.run_shows.specs.Given.RawDeclared.machines.call.Calling.{Calling}
use Rattle.run_shows.specs.Given.RawDeclared.machines.call.Calling.TheVariants as at
use Rattle.run_shows.specs.Given.RawDeclared.machines.progress.Progress.{Progress}
use Rattle.run_shows.specs.Given.RunsDeclared.effect.TableId.{TableId}
use Rattle.run_shows.specs.Given.SchedulesMoment.{InMap, Moment}
use Rattle.run_shows.specs.Given.RuleInWorld.{IsIts}
use Rattle.run_shows.specs.Given.CallersOverAll.{row_of_sweep}
use Rattle.run_shows.specs.Given.CallersRooms.{row_of_room}
use Rattle.run_shows.specs.Given.CallersRows.{row_of_disposal, row_of_copier, row_of}
use Rattle.run_shows.specs.Given.CallersSights.{IsVisibility, seen_by}
use Rattle.run_shows.specs.Given.CallersTogether.{UnderWay, OnKey, ForRoom, Counting, OverAll, Together}
use Rattle.run_shows.specs.Given.EffectsKnown.{Known}
use Rattle.run_shows.specs.Given.EffectsDeclared.role.Role.TheVariants as role
use Rattle.run_shows.specs.Given.FinishesMaps.{Standing}
use Rattle.run_shows.specs.Follows.Blocks.{HasRole}
use Rattle.run_shows.specs.Follows.Maps.{table_of}
use Rattle.run_shows.specs.Follows.Shows.{Refines}
use Rattle.run_shows.proofs.Follows.Steps.{WentTo, went_to, made_so, is_sight, DidSo, OfNoRow, spares_beside}
use Rattle.run_places.specs.Hands.Hands.{IsInUse, RefinesHands}
use Rattle.run_places.proofs.Hands.Handing.{IsHandingRow}
use Rattle.run_places.proofs.Hands.HandsOn.{used_as}
use Rattle.run_shows.specs.Scenes.Held.{Held, IsAt}
use Rattle.run_shows.specs.Scenes.Scene.{Scene, slot_of}
use Rattle.run_shows.specs.Scenes.Stepping.{StepLeads}

handing_disposal : (slot : ℕ) (d : Disposing) → IsHandingRow (row_of_disposal slot d)
handing_disposal slot (disposes.Settles settle) = tt
handing_disposal slot (disposes.Defers defer) = tt
handing_disposal slot _ = tt

handing_copier : (c : Copying) → IsHandingRow (row_of_copier c)
handing_copier (copies.Retires settle rest) = tt
handing_copier _ = tt

handing_call : (slot : ℕ) (stands : Calling) → IsHandingRow (row_of slot stands)
handing_call slot (at.Disposes dispose answer) = handing_disposal slot dispose.stands
handing_call slot (at.Helps copier goal) = handing_copier copier.stands
handing_call slot (at.Copies copier) = handing_copier copier.stands
handing_call slot _ = tt

handing_room : (stands : Reserving) → IsHandingRow (row_of_room stands)
handing_room (reserves.Copies copier) = handing_copier copier.stands
handing_room _ = tt

handing_sweep : (slot : ℕ) (stands : Sweeping) → IsHandingRow (row_of_sweep slot stands)
handing_sweep slot (sweeps.Copies copier) = handing_copier copier.stands
handing_sweep slot (sweeps.Disposes dispose) = handing_disposal slot dispose.stands
handing_sweep slot _ = tt

module _ {K V : Type 0} (same : K → K → Bool) (s : Standing K) (w : World (Node K V)) (calls : ℕ → Option (UnderWay K V K))
    (each : Together V same s.hash same s.setting slot_of w s.chart s.blocks s.sights calls) (i : ℕ) where
  as_row : (row : Row) → w.row i ≡ row → IsHandingRow row → IsHandingRow (w.row i)
  as_row row is hands = subst IsHandingRow (sym is) hands

  -- whoever has a call under way has such a row, or none
  pub handing : (u : UnderWay K V K) → calls i ≡ Some u → IsHandingRow (w.row i)
  handing (OnKey u) here = elim (each.stand i (OnKey u) here) as (λ _. IsHandingRow (w.row i)) [ inl k ↦ as_row _ k.0 tt | inr k ↦ as_row _ k.0 (handing_call (slot_of i) u.call.stands) ]
  handing (ForRoom r) here = elim (each.stand i (ForRoom r) here) as (λ _. IsHandingRow (w.row i)) [ inl k ↦ as_row _ k.0 tt | inr k ↦ as_row _ k.0 (handing_room r.reserve.stands) ]
  handing (Counting sum) here = as_row _ (each.stand i (Counting sum) here).0 tt
  handing (OverAll o) here = elim (each.stand i (OverAll o) here) as (λ _. IsHandingRow (w.row i)) [ inl k ↦ as_row _ k.0 tt | inr k ↦ as_row _ k.0 (handing_sweep (slot_of i) o.sweep.stands) ]

module _ {K V : Type 0} (same : K → K → Bool) (hash : ℕ → K → ℕ) (name : ℕ → List ℕ) (m : Moment K V) (known : Known) (s : Scene K V) (old new : Held K V) (at_old : IsAt same hash old s)
    (shown : Refines same name m known s) (map i : ℕ) (u : UnderWay K V K) (here : s.calls map i ≡ Some u) (told : Progress (Node K V)) (leads : StepLeads same hash i told s old new)
    (hands : RefinesHands m known s) where
  abbrev to : WentTo same hash name m known s old new at_old shown map i u here told leads
  to = went_to same hash name m known s old new at_old shown map i u here told leads

  abbrev Its : ℕ → Type 0
  Its b = IsIts i s.world to.0.chart (seen_by to.0.blocks (to.0.sights (slot_of i))) b

  -- blocks that are not its own are in the hands that had them
  hand_same : OfNoRow same hash name m known s old new at_old shown map i u here told leads u to.4.did → (b : ℕ) (value : Node K V) → value_at s.world.memory b ≡ Some value → (IsInside (s.world.uses (slot_of i)) → Its b → ⊥)
      → to.4.w2.hand b ≡ s.world.hand b
  hand_same own b value is other = by u to.4.did own
    where
      by : (x : UnderWay K V K) → (did : DidSo same hash name m known s old new at_old shown map i u here told leads x) → OfNoRow same hash name m known s old new at_old shown map i u here told leads x did
          → to.4.w2.hand b ≡ s.world.hand b
      by (OnKey x) (p2, end, machine_is, told_is, inl (step, moved)) own =
          ap (λ (y : World (Node K V)). y.hand b) moved.0
          ∙ spares_beside same hash m known s old new at_old name shown map i to.0 to.2 (name i) (made_so same hash name m known s old new at_old shown map i u here told leads)
          step.step.inside _ step.step.went step.step.blocks2 step.step.grown step.step.sights2 b value is (other step.step.inside)
      by (OnKey x) (p2, end, machine_is, told_is, inr row) own = absurd own
      by (ForRoom x) (p2, end, machine_is, told_is, inl (step, moved)) own =
          ap (λ (y : World (Node K V)). y.hand b) moved.0
          ∙ spares_beside same hash m known s old new at_old name shown map i to.0 to.2 (name i) (made_so same hash name m known s old new at_old shown map i u here told leads)
          step.step.inside _ step.step.went step.step.blocks2 step.step.grown step.step.sights2 b value is (other step.step.inside)
      by (ForRoom x) (p2, end, machine_is, told_is, inr row) own = absurd own
      by (Counting x) (p2, end, machine_is, told_is, still, stayed) own = ap (λ (y : World (Node K V)). y.hand b) stayed.0
      by (OverAll x) (p2, end, machine_is, told_is, inl (step, moved)) own =
          ap (λ (y : World (Node K V)). y.hand b) moved.0
          ∙ spares_beside same hash m known s old new at_old name shown map i to.0 to.2 (name i) (made_so same hash name m known s old new at_old shown map i u here told leads)
          step.step.inside _ step.step.went step.step.blocks2 step.step.grown step.step.sights2 b value is (other step.step.inside)
      by (OverAll x) (p2, end, machine_is, told_is, inr row) own = absurd own

  sight : IsInside (s.world.uses (slot_of i)) → IsVisibility to.0.chart to.0.blocks (to.0.sights (slot_of i))
  sight = is_sight same hash m known s old new at_old name shown map i to.0 to.2 (name i) (made_so same hash name m known s old new at_old shown map i u here told leads)

  not_made : (h : Hand) → IsInUse h → h ≡ Making i → ⊥
  not_made h used e = subst IsInUse e used

  -- a pair of a map that does not stand is none of its own
  pub pairs_spared : OfNoRow same hash name m known s old new at_old shown map i u here told leads u to.4.did → (b n of : ℕ) → known.roles b ≡ role.Pair n → m.place n ≡ InMap of → s.maps of ≡ None
      → IsInUse (s.world.hand b) → IsInUse (to.4.w2.hand b)
  pairs_spared own b n of is there gone used =
      let has = subst (HasRole s.world m.stored b) is (shown.blocks.roles b) in
      used_as (s.world.hand b) (to.4.w2.hand b) (hand_same own b _ has.3 other) used
    where
      other : IsInside (s.world.uses (slot_of i)) → Its b → ⊥
      other in_it (inl mine) = not_made (s.world.hand b) used mine.0
      other in_it (inr (inl (t, l, seen, e))) =
          let its = ap known.roles e ∙ (shown.maps map to.0 to.2).tables.roles t l ((sight in_it).tables t l seen) in cc (its, is)
      other in_it (inr (inr (k, l, seen, e))) =
          let pairs = (shown.maps map to.0 to.2).pairs in
          let its = ap known.roles e ∙ pairs.roles k l ((sight in_it).pairs k l seen) in
          let one : role.Pair n ≡ role.Pair (shown.number map k) = sym is ∙ its in
          let number : n ≡ shown.number map k = cc one in
          let map_is : of ≡ map = sym (hands.born n of there).1 ∙ ap (λ (x : ℕ). (m.born x).map) number ∙ pairs.born k l in
          let stands = ap s.maps map_is ∙ to.2 in cc (stands, gone)

  -- nor is a table of one
  pub tables_spared : OfNoRow same hash name m known s old new at_old shown map i u here told leads u to.4.did → (b len : ℕ) (t : TableId) → known.roles b ≡ role.Table t len → s.maps t.map ≡ None
      → IsInUse (s.world.hand b) → IsInUse (to.4.w2.hand b)
  tables_spared own b len t is gone used =
      let has = subst (HasRole s.world m.stored b) is (shown.blocks.roles b) in
      used_as (s.world.hand b) (to.4.w2.hand b) (hand_same own b _ has.1 other) used
    where
      other : IsInside (s.world.uses (slot_of i)) → Its b → ⊥
      other in_it (inl mine) = not_made (s.world.hand b) used mine.0
      other in_it (inr (inl (u, l, seen, e))) =
          let its = ap known.roles e ∙ (shown.maps map to.0 to.2).tables.roles u l ((sight in_it).tables u l seen) in
          let one : role.Table t len ≡ role.Table (table_of map u) (to.0.chart.len u) = sym is ∙ its in
          let table_is : t ≡ table_of map u = cc one in
          let stands = ap (λ (x : TableId). s.maps x.map) table_is ∙ to.2 in cc (stands, gone)
      other in_it (inr (inr (k, l, seen, e))) =
          let its = ap known.roles e ∙ (shown.maps map to.0 to.2).pairs.roles k l ((sight in_it).pairs k l seen) in cc (its, is)
