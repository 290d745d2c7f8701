-- In blocking mode: what a call knows of the copier within which it stands, and that one within none has no part in a copying; whichever kind of call it is.
use Rattle.std.specs.Prelude.{Option, Some, None}
use Rattle.std.proofs.Common.{◌≡◌, ℕ, ◌⊎◌, inl, inr, Bool, true, false, subst}
use Rattle.many_calls.specs.Given.LateFactsReserves.{CopiesPairs, CopiesWhole, IsEnding, ReservingFacts}
use Rattle.many_calls.specs.Given.LateFactsSweeps.{CopiesPairs as SweepCopies, SweepingFacts}
use Rattle.seize.specs.World.{World}
use Rattle.map_tables.specs.Chunks.{is_incremental}
use Rattle.map_tables.specs.declared.node.Node.{Node}
use Rattle.map_tables.specs.declared.setting.Setting.{Setting}
use Rattle.map_machines.specs.declared.copier.Copier.{Copier}
use Rattle.many_calls.specs.Given.RawDeclared.machines.call.Calling.{Calling}
use Rattle.many_calls.specs.Given.RawDeclared.machines.call.Calling.TheVariants as at
use Rattle.map_sweeps.specs.declared.reserve.Reserving.{Reserving}
use Rattle.map_sweeps.specs.declared.reserve.Reserving.TheVariants as reserves
use Rattle.map_sweeps.specs.declared.sweep.Sweep.{Sweep}
use Rattle.map_sweeps.specs.declared.sweep.Sweeping.{Sweeping}
use Rattle.map_sweeps.specs.declared.sweep.Sweeping.TheVariants as sweeps
use Rattle.many_calls.specs.Given.RuleChart.{Chart}
use Rattle.many_calls.specs.Given.RuleWords.{Blocks}
use Rattle.many_calls.specs.Given.PointsFactsCalls.{CallingFacts, IsCopying}
use Rattle.many_calls.specs.Given.PointsFactsCopies.{ClaimsNone, CopierFacts, HasDone}
use Rattle.many_calls.specs.Given.PointsFactsCopiesBlocking.{CopierFactsBlocking, HasNoShares}
use Rattle.many_calls.specs.Given.PointsFactsIdle.{IsIdle}
use Rattle.many_calls.specs.Given.PointsTold.{IsRowOfCall, IsRowOfCopier}
use Rattle.many_calls.specs.Given.LateLateCalls.{SupersededCalling}
use Rattle.many_calls.specs.Given.LateLateCopies.{SupersededCopierFacts}
use Rattle.many_calls.specs.Given.LateLateReserves.{SupersededReserving}
use Rattle.many_calls.specs.Given.LateToldReserves.{IsRowOfReserve}
use Rattle.many_calls.specs.Given.LateToldSweeps.{IsRowOfSweep}
use Rattle.many_calls.specs.Sights.{Visible, seen_by}
use Rattle.many_calls.specs.Together.{CallOnKey, UnderWay, OnKey, ForRoom, Counting, OverAll, Together, in_slot}
use Rattle.map_measures.specs.Waits.Others.{copier_in, copier_in_room, copier_in_sweep, copier_of}
use Rattle.map_measures.proofs.Waiters.Askers.{chosen}

-- where it stands at a row of the collector
abbrev pub IsAtRow : {K V Q : Type 0} → UnderWay K V Q → Type 0
IsAtRow (OnKey u) = IsRowOfCall u.call.stands
IsAtRow (ForRoom r) = IsRowOfReserve r.reserve.stands
IsAtRow (Counting sum) = ⊥
IsAtRow (OverAll o) = IsRowOfSweep o.sweep.stands

one_copier : (a b : Copier) → ◌≡◌ {A = Option Copier} (Some a) (Some b) → a ≡ b
one_copier a b e = cc e

-- a call within no copier copies nothing
none_copies : (q : Calling) → copier_in q ≡ None → IsCopying q → ⊥
none_copies (at.Helps copier goal) none copying = cc none
none_copies (at.Copies copier) none copying = cc none
none_copies _ none copying = copying

none_room : (q : Reserving) → copier_in_room q ≡ None → CopiesPairs q → ⊥
none_room (reserves.Copies copier) none copying = cc none
none_room _ none copying = copying

none_sweep : (q : Sweeping) → copier_in_sweep q ≡ None → SweepCopies q → ⊥
none_sweep (sweeps.Copies copier) none copying = cc none
none_sweep _ none copying = copying

module _ {K Q : Type 0} (V : Type 0) (same : K → K → Bool) (hash : K → ℕ) (asks : Q → K → Bool) (setting : Setting) (slot : ℕ → ℕ)
    (w : World (Node K V)) (c : Chart K) (blocks : Blocks) (sights : ℕ → Visible) (calls : ℕ → Option (UnderWay K V Q))
    (s : Together V same hash asks setting slot w c blocks sights calls) (mode : is_incremental setting.mode ≡ false) (k : ℕ) where
  abbrev pub seen : Blocks
  seen = seen_by blocks (sights (slot k))

  abbrev pub its_setting : Setting
  its_setting = in_slot setting (slot k)

  pub no_shares : IsIdle same hash w k its_setting c seen → HasNoShares same hash w k its_setting c seen
  no_shares idle =
      chosen (HasDone same hash w k its_setting c seen 0 × ClaimsNone same hash w k its_setting c seen) (HasNoShares same hash w k its_setting c seen) (is_incremental setting.mode) mode idle

  -- what a copier knows, of the root or of a table that the root has left
  abbrev pub Knows : Copier → Type 0
  Knows p = CopierFactsBlocking same hash w k its_setting c seen p ⊎ ((began : ℕ) × SupersededCopierFacts same hash w k its_setting c seen began p)

  whole_fresh : (p : Copier) → CopiesWhole same hash w k its_setting c seen p → CopierFactsBlocking same hash w k its_setting c seen p
  whole_fresh p whole =
      chosen ((p.whole ≡ true) × CopierFacts same hash w k its_setting c seen p × IsEnding same hash w k its_setting c seen p p.stands) (CopierFactsBlocking same hash w k its_setting c seen p)
      (is_incremental its_setting.mode) mode whole

  module _ (p : Copier) where
    it : (q : Copier) → ◌≡◌ {A = Option Copier} (Some q) (Some p) → Knows q → Knows p
    it q e knows = subst Knows (one_copier q p e) knows

    key_fresh : (u : CallOnKey K V Q) (q : Calling) → copier_in q ≡ Some p → CallingFacts same hash asks w k its_setting c seen u.keys u.change u.call q → Knows p
    key_fresh u (at.Copies copier) e f = it copier e (inl f.2)
    key_fresh u (at.Helps copier goal) e f = absurd (let yes = f.1 in cc (yes, mode))
    key_fresh u _ e f = absurd (cc e)

    key_late : (u : CallOnKey K V Q) (q : Calling) → copier_in q ≡ Some p → SupersededCalling same hash asks w k its_setting c seen u.keys u.began u.call q → Knows p
    key_late u (at.Copies copier) e f = it copier e (inr (u.began, f.1))
    key_late u (at.Helps copier goal) e f = absurd f
    key_late u _ e f = absurd (cc e)

    room_fresh : (q : Reserving) → copier_in_room q ≡ Some p → ReservingFacts same hash w k its_setting c seen q → Knows p
    room_fresh (reserves.Copies copier) e f = it copier e (inl (whole_fresh copier f))
    room_fresh _ e f = absurd (cc e)

    room_late : (began : ℕ) (q : Reserving) → copier_in_room q ≡ Some p → SupersededReserving same hash w k its_setting c seen began q → Knows p
    room_late began (reserves.Copies copier) e f = it copier e (inr (began, f))
    room_late began _ e f = absurd (cc e)

    sweep_knows : (began : ℕ) (o : Sweep) (q : Sweeping) → copier_in_sweep q ≡ Some p → SweepingFacts same hash w k its_setting c seen began o q → Knows p
    sweep_knows began o (sweeps.Copies copier) e (inl whole) = it copier e (inl (whole_fresh copier whole))
    sweep_knows began o (sweeps.Copies copier) e (inr late) = it copier e (inr (began, late.1))
    sweep_knows began o _ e f = absurd (cc e)

    -- at a row its copier is there
    key_row : (q : Calling) → copier_in q ≡ Some p → IsRowOfCall q → IsRowOfCopier p.stands
    key_row (at.Helps copier goal) e row = subst (λ (y : Copier). IsRowOfCopier y.stands) (one_copier copier p e) row
    key_row (at.Copies copier) e row = subst (λ (y : Copier). IsRowOfCopier y.stands) (one_copier copier p e) row
    key_row _ e row = absurd (cc e)

    room_row : (q : Reserving) → copier_in_room q ≡ Some p → IsRowOfReserve q → IsRowOfCopier p.stands
    room_row (reserves.Copies copier) e row = subst (λ (y : Copier). IsRowOfCopier y.stands) (one_copier copier p e) row
    room_row _ e row = absurd (cc e)

    sweep_row : (q : Sweeping) → copier_in_sweep q ≡ Some p → IsRowOfSweep q → IsRowOfCopier p.stands
    sweep_row (sweeps.Copies copier) e row = subst (λ (y : Copier). IsRowOfCopier y.stands) (one_copier copier p e) row
    sweep_row _ e row = absurd (cc e)

    pub copier_knows : (x : UnderWay K V Q) → calls k ≡ Some x → copier_of x ≡ Some p → (IsRowOfCopier p.stands → ⊥) → Knows p
    copier_knows (OnKey u) has within none = elim (s.stand k (OnKey u) has) as (λ _. Knows p) [
      | inl rests ↦ elim rests.1.facts as (λ _. Knows p) [
        | inl fresh ↦ key_fresh u u.call.stands within fresh.point
        | inr late ↦ key_late u u.call.stands within late.1.point
      ]
      | inr row ↦ absurd (none (key_row u.call.stands within row.1))
    ]
    copier_knows (ForRoom r) has within none = elim (s.stand k (ForRoom r) has) as (λ _. Knows p) [
      | inl rests ↦ elim rests.1.facts as (λ _. Knows p) [
        | inl fresh ↦ room_fresh r.reserve.stands within fresh.point
        | inr late ↦ room_late r.began r.reserve.stands within late.point
      ]
      | inr row ↦ absurd (none (room_row r.reserve.stands within row.1))
    ]
    copier_knows (OverAll o) has within none = elim (s.stand k (OverAll o) has) as (λ _. Knows p) [
      | inl rests ↦ sweep_knows o.began o.sweep o.sweep.stands within rests.1.facts.point
      | inr row ↦ absurd (none (sweep_row o.sweep.stands within row.1))
    ]
    copier_knows (Counting sum) has within none = absurd (cc within)

  -- a call within no copier has no part in a copying
  pub beside_none : (x : UnderWay K V Q) → calls k ≡ Some x → copier_of x ≡ None → (IsAtRow x → ⊥) → HasNoShares same hash w k its_setting c seen
  beside_none (OnKey u) has within none = elim (s.stand k (OnKey u) has) as (λ _. HasNoShares same hash w k its_setting c seen) [
    | inl rests ↦ elim rests.1.facts as (λ _. HasNoShares same hash w k its_setting c seen) [
      | inl fresh ↦ no_shares (fresh.idle (none_copies u.call.stands within))
      | inr late ↦ late.1.idle
    ]
    | inr row ↦ absurd (none row.1)
  ]
  beside_none (Counting sum) has within none = no_shares (s.stand k (Counting sum) has).2
  beside_none (ForRoom r) has within none = elim (s.stand k (ForRoom r) has) as (λ _. HasNoShares same hash w k its_setting c seen) [
    | inl rests ↦ elim rests.1.facts as (λ _. HasNoShares same hash w k its_setting c seen) [
      | inl fresh ↦ no_shares (fresh.idle (none_room r.reserve.stands within))
      | inr late ↦ late.idle
    ]
    | inr row ↦ absurd (none row.1)
  ]
  beside_none (OverAll o) has within none = elim (s.stand k (OverAll o) has) as (λ _. HasNoShares same hash w k its_setting c seen) [
    | inl rests ↦ no_shares (rests.1.facts.idle (none_sweep o.sweep.stands within))
    | inr row ↦ absurd (none row.1)
  ]
