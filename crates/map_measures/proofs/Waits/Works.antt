-- In incremental mode, a call whose caller has claimed a place, or has copied one and not counted it, is none that only looks.
use Rattle.std.specs.Prelude.{Option, Some}
use Rattle.std.proofs.Common.{◌≡◌, ℕ, suc, ◌<◌, ◌⊎◌, inl, inr, Bool, true, refl, sym, arith}
use Rattle.seize.specs.World.{World}
use Rattle.map_tables.specs.Chunks.{is_incremental}
use Rattle.map_tables.specs.declared.node.Node.{Node}
use Rattle.map_tables.specs.declared.setting.Setting.{Setting}
use Rattle.many_calls.specs.Given.RawDeclared.machines.call.Calling.{Calling}
use Rattle.many_calls.specs.Given.RawDeclared.machines.call.Calling.TheVariants as at
use Rattle.many_calls.specs.Given.RuleChart.{Claimed, Done, Chart}
use Rattle.many_calls.specs.Given.RuleMoves.{is_done_by}
use Rattle.many_calls.specs.Given.RuleWords.{Blocks}
use Rattle.many_calls.proofs.Given.RuleShares.LastsShares.{total_zero}
use Rattle.many_calls.specs.Given.PointsFactsCalls.{CallFacts, IsCopying, Unchanged}
use Rattle.many_calls.specs.Given.PointsFactsCopies.{ClaimsNone, HasDone}
use Rattle.many_calls.specs.Given.PointsFactsCopiesBlocking.{HasNoShares}
use Rattle.many_calls.specs.Given.PointsFactsIdle.{IsIdle}
use Rattle.many_calls.specs.Given.PointsTold.{IsRowOfCall}
use Rattle.many_calls.specs.Given.LateKinds.{LooksAt}
use Rattle.many_calls.specs.Given.LateLateCalls.{SupersededCallFacts}
use Rattle.many_calls.specs.Sights.{Visible, seen_by}
use Rattle.many_calls.specs.Together.{UnderWay, OnKey, ForRoom, Counting, OverAll, Together, in_slot}
use Rattle.map_measures.proofs.Waits.Askers.{done_one}
use Rattle.map_measures.proofs.Waits.Claimed.{chosen}

-- a call that only looks: a lookup, or a counting
abbrev pub OnlyLooks : {K V Q : Type 0} → UnderWay K V Q → Type 0
OnlyLooks (OnKey u) = LooksAt u.call.stands
OnlyLooks (ForRoom r) = ⊥
OnlyLooks (Counting sum) = Unit {0}
OnlyLooks (OverAll o) = ⊥

-- a lookup stands within no copying, and at no row
no_copying : (q : Calling) → LooksAt q → IsCopying q → ⊥
no_copying (at.Looks lookup) looks copying = copying
no_copying (at.Over end) looks copying = copying
no_copying _ looks copying = absurd looks

pub no_row : (q : Calling) → LooksAt q → IsRowOfCall q → ⊥
no_row (at.Looks lookup) looks row = row
no_row (at.Over end) looks row = row
no_row _ looks row = absurd looks

module _ {K V Q : Type 0} (same : K → K → Bool) (hash : K → ℕ) (asks : Q → K → Bool) (setting : Setting) (slot : ℕ → ℕ)
    (w : World (Node K V)) (c : Chart K) (blocks : Blocks) (sights : ℕ → Visible) (calls : ℕ → Option (UnderWay K V Q))
    (s : Together V same hash asks setting slot w c blocks sights calls) (mode : is_incremental setting.mode ≡ true) (k j : ℕ) where
  -- it has a place to copy, or to count
  abbrev pub HasShare : Type 0
  HasShare = (c.share (suc c.first) j ≡ Claimed k) ⊎ ((j < c.len c.first) × (c.share (suc c.first) j ≡ Done k))

  -- one that has no part in a copying has none
  pub not_idle : (seen : Blocks) → IsIdle same hash w k (in_slot setting (slot k)) c seen → HasShare → ⊥
  not_idle seen idle share = by (chosen (HasDone same hash w k (in_slot setting (slot k)) c seen 0 × ClaimsNone same hash w k (in_slot setting (slot k)) c seen)
      (HasNoShares same hash w k (in_slot setting (slot k)) c seen) (is_incremental setting.mode) mode idle) share
    where
      by : HasDone same hash w k (in_slot setting (slot k)) c seen 0 × ClaimsNone same hash w k (in_slot setting (slot k)) c seen → HasShare → ⊥
      by part (inl claimed) = part.1 j claimed
      by part (inr (l, done)) =
          let none = total_zero (is_done_by k) (c.share (suc c.first)) (c.len c.first) (sym part.0) j l in
          let one = done_one k k (c.share (suc c.first) j) done refl in
          omega (arith, none, one)

  pub works : (u : UnderWay K V Q) → calls k ≡ Some u → HasShare → OnlyLooks u → ⊥
  works (OnKey u) has share looks = elim (s.stand k (OnKey u) has) as (λ _. ⊥) [
    | inl rests ↦ knows rests.1.facts
    | inr within ↦ no_row u.call.stands looks within.1
  ]
    where
      knows : CallFacts same hash asks w k (in_slot setting (slot k)) c (seen_by blocks (sights (slot k))) u.keys u.change u.call
          ⊎ ((u.change ≡ Unchanged) × SupersededCallFacts same hash asks w k (in_slot setting (slot k)) c (seen_by blocks (sights (slot k))) u.keys u.began u.call) → ⊥
      knows (inl fresh) = not_idle (seen_by blocks (sights (slot k))) (fresh.idle (no_copying u.call.stands looks)) share
      knows (inr (same_change, late)) = absurd (let blocking = late.blocking in cc (mode, blocking))
  works (Counting sum) has share looks = not_idle (seen_by blocks (sights (slot k))) (s.stand k (Counting sum) has).2 share
  works (ForRoom r) has share looks = looks
  works (OverAll o) has share looks = looks
