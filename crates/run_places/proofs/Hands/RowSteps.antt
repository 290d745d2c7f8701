-- A step of a row within a call: it hands over what has left its map, and calls were told, and blocks are in hands, as the moment says then.
use Rattle.std.specs.Prelude.{◌≡◌, ℕ, Bool, List, Some, None}
use Rattle.std.proofs.Common.{ap, sym, subst, ◌∙◌, inl, inr}
use Rattle.run_shows.specs.Given.SeizeWordsMem.{Mem, value_at}
use Rattle.run_shows.specs.Given.SeizeWorld.{World, IsInside}
use Rattle.run_shows.specs.Given.TablesDeclared.node.Node.{Node}
use Rattle.run_shows.specs.Given.RawDeclared.machines.progress.Progress.{Progress}
use Rattle.run_shows.specs.Given.RunsDeclared.effect.TableId.{TableId}
use Rattle.run_shows.specs.Given.SchedulesMoment.{InMap, Moment}
use Rattle.run_shows.specs.Given.CallersTogether.{UnderWay, UnlessCounts, OnKey, ForRoom, Counting, OverAll, IsOneStep, Together}
use Rattle.run_shows.specs.Given.EffectsEffects.{effects_of}
use Rattle.run_shows.specs.Given.EffectsKnown.{Known}
use Rattle.run_shows.specs.Given.EffectsDeclared.acting.Acting.TheVariants as acts
use Rattle.run_shows.specs.Given.EffectsDeclared.role.Role.TheVariants as role
use Rattle.run_shows.specs.Follows.Blocks.{HasRole}
use Rattle.run_shows.specs.Follows.Shows.{Refines}
use Rattle.run_shows.specs.Follows.Steps.{HandTheirs, TakesNone}
use Rattle.run_shows.proofs.Follows.Onward.{IsLasting}
use Rattle.run_shows.proofs.Follows.Operations.{LeavesBy, operated_leaves}
use Rattle.run_shows.proofs.Follows.RowSteps.{row_step_shown}
use Rattle.run_shows.proofs.Follows.Steps.{WentTo, went_to, made_so, DidSo, OfNoRow, LeadsThere}
use Rattle.run_places.specs.Hands.Hands.{IsInUse, RefinesHands}
use Rattle.run_places.specs.Hands.Steps.{RowsHandTheirs}
use Rattle.run_places.specs.Hands.Rows.{HoldsOne, RowsReclaimNone}
use Rattle.run_places.proofs.Hands.AskedOn.{asked_on}
use Rattle.run_places.proofs.Hands.HandTheirs.{hands_out, all_left, used_on}
use Rattle.run_places.proofs.Hands.HandsOn.{used_as, hands_on}
use Rattle.run_places.proofs.Hands.RowsOn.{RowSo, inside_of, rows_on}
use Rattle.run_places.proofs.Hands.SettlingRows.{goes_so, leaves_one, not_to_take}
use Rattle.run_places.proofs.Hands.Spares.{handing}
use Rattle.run_places.proofs.Hands.Taking.{IsToTake, takes_none}
use Rattle.run_shows.specs.Scenes.Held.{Held, IsAt}
use Rattle.run_shows.specs.Scenes.Scene.{Scene, slot_of}
use Rattle.run_shows.specs.Scenes.Stepping.{StepLeads}

module _ {K V : Type 0} (same : K → K → Bool) (hash : ℕ → K → ℕ) (name : ℕ → List ℕ) (m : Moment K V) (known : Known) (s : Scene K V) (old new : Held K V) (at : IsAt same hash old s)
    (shown : Refines same name m known s) (map i : ℕ) (u : UnderWay K V K) (here : s.calls map i ≡ Some u) (told : Progress (Node K V)) (leads : StepLeads same hash i told s old new)
    (hands : RefinesHands m known s) where
  abbrev to : WentTo same hash name m known s old new at shown map i u here told leads
  to = went_to same hash name m known s old new at shown map i u here told leads

  each : Together V same to.0.hash same to.0.setting slot_of s.world to.0.chart to.0.blocks to.0.sights (s.calls map)
  each = at.together.makings.standing.each map to.0 to.2

  -- the step of the row, and the world that it has led to
  abbrev IsRowStep : World (Node K V) → Type 0
  IsRowStep w2 = (w2.memory ≡ new.memory) × IsOneStep to.0.setting i s.world w2 × (to.4.w2 ≡ w2)

  abbrev NoRow : (x : UnderWay K V K) → DidSo same hash name m known s old new at shown map i u here told leads x → Type 0
  NoRow = OfNoRow same hash name m known s old new at shown map i u here told leads

  row_step : (NoRow u to.4.did → ⊥) → (w2 : World (Node K V)) × IsRowStep w2
  row_step other = by u to.4.did other
    where
      by : (x : UnderWay K V K) → (did : DidSo same hash name m known s old new at shown map i u here told leads x) → (NoRow x did → ⊥) → (w2 : World (Node K V)) × IsRowStep w2
      by (OnKey x) (p2, end, machine_is, told_is, inl step) other = absurd (other tt)
      by (OnKey x) (p2, end, machine_is, told_is, inr (row, stayed)) other = (row.step.w2, (row.step.memory, row.step.happened, stayed.0))
      by (ForRoom x) (p2, end, machine_is, told_is, inl step) other = absurd (other tt)
      by (ForRoom x) (p2, end, machine_is, told_is, inr (row, stayed)) other = (row.step.w2, (row.step.memory, row.step.happened, stayed.0))
      by (Counting x) did other = absurd (other tt)
      by (OverAll x) (p2, end, machine_is, told_is, inl step) other = absurd (other tt)
      by (OverAll x) (p2, end, machine_is, told_is, inr (row, stayed)) other = (row.step.w2, (row.step.memory, row.step.happened, stayed.0))

  its_left : (other : NoRow u to.4.did → ⊥) → LeavesBy s.world.memory (row_step other).0.memory new.changed
  its_left other =
      subst (λ (n : Mem (Node K V)). LeavesBy s.world.memory n new.changed) (sym (row_step other).1.0)
      (operated_leaves s.world.memory new.memory new.changed (made_so same hash name m known s old new at shown map i u here told leads))

  -- it takes no block away, unless its row is to take one
  pub takes_theirs : (NoRow u to.4.did → ⊥) → (IsToTake (s.world.row i) → ⊥) → TakesNone new.changed
  takes_theirs other never = let row = row_step other in takes_none to.0.setting i s.world row.0 each.ground.came never row.1.1 new.changed (its_left other)

  -- it is within its section
  row_inside : (NoRow u to.4.did → ⊥) → IsInside (s.world.uses (slot_of i))
  row_inside other = by u to.4.did (inside_of same hash s old at map i u here) other
    where
      by : (x : UnderWay K V K) → (did : DidSo same hash name m known s old new at shown map i u here told leads x) → UnlessCounts x (IsInside (s.world.uses (slot_of i))) → (NoRow x did → ⊥)
          → IsInside (s.world.uses (slot_of i))
      by (OnKey x) did in_it other = in_it
      by (ForRoom x) did in_it other = in_it
      by (Counting x) did in_it other = absurd (other tt)
      by (OverAll x) did in_it other = in_it

  -- and it goes on so where it reclaims nothing, and leaves the others the blocks of their batches
  pub reclaims_none : (NoRow u to.4.did → ⊥) → RowsReclaimNone s → (IsToTake (s.world.row i) → ⊥) × RowSo to.4.w2 i
      × ((slot : ℕ) → IsInside (s.world.uses slot) → (first : ℕ) → HoldsOne s.world slot first → HoldsOne to.4.w2 slot first)
  reclaims_none other rows =
      let row = row_step other in
      let inside = row_inside other in (
        not_to_take (s.world.row i) (rows.none map i u here),
        subst (λ (v : World (Node K V)). RowSo v i) (sym row.1.2) (goes_so to.0.setting i (slot_of i) s.world row.0 each.ground.came inside (rows.none map i u here) (rows.one map i u here) row.1.1),
        λ slot its first one. subst (λ (v : World (Node K V)). HoldsOne v slot first) (sym row.1.2) (leaves_one to.0.setting i slot s.world row.0 each.ground.came its row.1.1 first one),
      )

  -- what it hands over has left its map
  pub hands_theirs : (NoRow u to.4.did → ⊥) → HandTheirs (name i) map (effects_of (acts.Call i map) known new.changed) m
  hands_theirs other =
      let row = row_step other in
      all_left (name i) i map m known s hands row.0
      (hands_out to.0.setting i s.world row.0 each.ground.came (handing same to.0 s.world (s.calls map) each i u here) row.1.1) new.changed (its_left other)

  module _ (other : NoRow u to.4.did → ⊥) (on : LeadsThere same hash name m known s old new at shown map i u here told leads) where
    -- a block that was linked, and is there, is in use where it was
    used_then : (b : ℕ) → ((value_at to.4.w2.memory b ≡ None) → ⊥) → IsInUse (s.world.hand b) → IsInUse (to.4.w2.hand b)
    used_then b there used =
        let row = row_step other in
        used_as (row.0.hand b) (to.4.w2.hand b) (ap (λ (w : World (Node K V)). w.hand b) row.1.2)
        (used_on to.0.setting i s.world row.0 each.ground.came b (λ gone. there (ap (λ (w : World (Node K V)). value_at w.memory b) row.1.2 ∙ gone)) row.1.1 used)

    pub pairs_then : (b n of : ℕ) → known.roles b ≡ role.Pair n → m.place n ≡ InMap of → s.maps of ≡ None → IsInUse (s.world.hand b) → IsInUse (to.4.w2.hand b)
    pairs_then b n of is there gone =
        let its = subst (HasRole to.4.w2 _ b) (on.keeps b (subst IsLasting (sym is) tt) ∙ is) (on.shows.blocks.roles b) in used_then b (λ none. let some = its.3 in cc (some, none))

    pub tables_then : (b len : ℕ) (t : TableId) → known.roles b ≡ role.Table t len → s.maps t.map ≡ None → IsInUse (s.world.hand b) → IsInUse (to.4.w2.hand b)
    tables_then b len t is gone =
        let its = subst (HasRole to.4.w2 _ b) (on.keeps b (subst IsLasting (sym is) tt) ∙ is) (on.shows.blocks.roles b) in used_then b (λ none. let some = its.1 in cc (some, none))

pub rows_hand_theirs : (K V : Type 0) (same : K → K → Bool) (hash : ℕ → K → ℕ) → RowsHandTheirs K V same hash
rows_hand_theirs K V same hash name m known s old new at all map i u here told leads other =
    let theirs = hands_theirs same hash name m known s old new at all.shown map i u here told leads all.hands other in
    let rests = reclaims_none same hash name m known s old new at all.shown map i u here told leads all.hands other all.rows in
    let none = takes_theirs same hash name m known s old new at all.shown map i u here told leads all.hands other rests.0 in
    let on = row_step_shown same hash name m known s old new at all.shown map i u here told leads other none theirs in
    let to = went_to same hash name m known s old new at all.shown map i u here told leads in (
      theirs,
      none,
      record {
        shown = on.shows;
        asked = asked_on same hash name m known s old new at all.shown map i u here told leads all.asked on;
        hands = hands_on same hash name m known s all.shown all.hands _ _ _ on new to.5 (pairs_then same hash name m known s old new at all.shown map i u here told leads all.hands other on)
            (tables_then same hash name m known s old new at all.shown map i u here told leads all.hands other on);
        rows = rows_on same hash name m known s old new at all.shown map i u here told leads all.rows rests.2 rests.1;
      },
    )
