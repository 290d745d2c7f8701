-- Which change of the tables each step of a copier makes, in incremental mode.
use Rattle.std.specs.Prelude.{◌≡◌, ◌≢◌, ℕ, suc, true, ◌⊎◌}
use Rattle.map_rule.specs.Given.ResizeCopierStates.{standing}
use Rattle.papaya_raw.specs.Given.TablesDeclared.node.Node.{Node}
use Rattle.map_rule.specs.Given.ResizeDeclared.yielding.Yielding.{Yielding}
use Rattle.map_rule.specs.Given.ResizeDeclared.yielding.Yielding.TheVariants.{Goes}
use Rattle.papaya_raw.specs.Given.TablesDeclared.table.Table.{Table}
use Rattle.map_rule.specs.Given.ResizeDeclared.copier.Copier.{Copier}
use Rattle.map_rule.specs.Given.ResizeDeclared.copier.Copying.{Copying as Point}
use Rattle.map_rule.specs.Given.ResizeDeclared.copier.Copying.TheVariants as at
use Rattle.map_rule.specs.Chart.{Chart}
use Rattle.map_rule.specs.Moves.{Move, Links, Marks, Unmarks, Puts, Covers, Reclaims, Counts, Promotes, Announces, after}
use Rattle.map_rule.specs.Maps.{spot_of}

module _ {K : Type 0} (hash : K → ℕ) (caller : ℕ) (c : Chart K) where
  -- it links a table, marks a place, takes its mark back, copies a pair, or sets a claim
  abbrev pub IsPlain : Move K → Type 0
  IsPlain (Links len limit) = Unit {0}
  IsPlain (Marks i place) = i ≡ caller
  IsPlain (Unmarks i place) = i ≡ caller
  IsPlain (Puts i place t k j) = i ≡ caller
  IsPlain (Covers i place) = i ≡ caller
  IsPlain (Reclaims t claim) = Unit {0}
  IsPlain _ = ⊥

  -- no change was made, or such a one
  abbrev pub MovedPlain : Chart K → Type 0
  MovedPlain c2 = (c2 ≡ c) ⊎ ((move : Move K) × IsPlain move × (c2 ≡ after (spot_of hash) true move c))

  -- what it has done was counted
  abbrev pub MovedCounts : Copier → Chart K → Type 0
  MovedCounts p c2 = c2 ≡ after (spot_of hash) true (Counts caller (suc c.first) p.done) c

  -- the next table was made the root, unless another caller was faster
  abbrev pub MovedPromotes : {V : Type 0} → Copier → Copier × Yielding (Node K V) Table → Chart K → Type 0
  MovedPromotes p end c2 =
      ((end ≡ (standing p at.Announces, Goes)) × (c2 ≡ after (spot_of hash) true (Promotes (suc c.first)) c)) ⊎ ((c2 ≡ c) × (p.source.turn ≢ c.first))

  abbrev pub MovedAnnounces : Copier → Chart K → Type 0
  MovedAnnounces p c2 = c2 ≡ after (spot_of hash) true (Announces p.target.turn) c

  abbrev pub MovedAt : {V : Type 0} → Copier → Point → Copier × Yielding (Node K V) Table → Chart K → Type 0
  MovedAt p at.Counts end c2 = MovedCounts p c2
  MovedAt p (at.Tallies word fault) end c2 = MovedCounts p c2
  MovedAt p at.Promotes end c2 = MovedPromotes p end c2
  MovedAt p at.Announces end c2 = MovedAnnounces p c2
  MovedAt p at.Over end c2 = c2 ≡ c
  MovedAt p (at.Refused fault) end c2 = c2 ≡ c
  MovedAt p _ end c2 = MovedPlain c2
