-- A call that is alone, at a row of the collector: the row is begun, if it is not yet, and what the call knows once it is over is of the root's table.
use Rattle.std.specs.Prelude.{◌≡◌, ◌≢◌, ℕ, Bool}
use Rattle.std.proofs.Common.{inl, inr, refl, ◌∙◌}
use Rattle.seize.specs.World.{World, Rests, IsInside}
use Rattle.map_tables.specs.declared.node.Node.{Node}
use Rattle.map_tables.specs.declared.setting.Setting.{Setting}
use Rattle.map_measures.specs.Given.RuleChart.{Chart}
use Rattle.map_measures.specs.Given.RuleWords.{Blocks}
use Rattle.owner_facts.specs.Given.PointsSteps.{AreLawful}
use Rattle.owner_facts.specs.Given.PointsTold.{IsRowOfCall}
use Rattle.map_measures.specs.Given.CallersRows.{row_of, once_over}
use Rattle.owner_facts.specs.Given.CallersSights.{Visible, seen_by}
use Rattle.owner_facts.specs.Given.CallersTogether.{CallOnKey, OnKey, in_slot, IsReclaimed, Knows, IsAtPoint, Together}
use Rattle.owner_facts.proofs.Given.CallersTogether.Begun as begun
use Rattle.owner_facts.proofs.Given.CallersTogether.BeginsRows.{begun_row, begun_together}
use Rattle.owner_facts.proofs.Given.CallersTogether.FactsOn.{KnowsOfCall}
use Rattle.owner_whole.specs.Whole.Owner.{IsFirst, IsOfRoot, IsAlone}
use Rattle.owner_whole.proofs.Whole.Rows.Account.{TargetIs}
use Rattle.owner_whole.proofs.Whole.Rows.Standing.{target_at, target_past}

module _ {K V Q : Type 0} (same : K → K → Bool) (hash : K → ℕ) (asks : Q → K → Bool) (setting : Setting) (slot : ℕ → ℕ) (lawful : AreLawful same hash)
    (w : World (Node K V)) (c : Chart K) (blocks : Blocks) (sights : ℕ → Visible) (u : CallOnKey K V Q) (a : IsAlone same hash asks setting slot w c blocks sights (OnKey u))
    (is_row : IsRowOfCall u.call.stands) where
  abbrev here : Setting
  here = in_slot setting (slot 0)

  abbrev seen : Blocks
  seen = seen_by blocks (sights (slot 0))

  -- it is within the row, in a world with the same memory
  pub record IsWithinRow : Type 0 where
    pub v : World (Node K V)
    pub memory : v.memory ≡ w.memory
    pub row_is : v.row 0 ≡ row_of (slot 0) u.call.stands
    pub together : Together V same hash asks setting slot v c blocks sights a.calls
    pub rows : (i : ℕ) → i ≢ 0 → v.row i ≡ Rests
    pub knows : Knows V same hash asks setting slot v c seen 0 u (once_over u.call)
    pub target : TargetIs c.first u.call.stands
    pub reclaims : (w2 : World (Node K V)) (value : Node K V) → IsReclaimed v w2 value → IsReclaimed w w2 value

  -- by what it knows at the row, or once that is over

  target_now : (x : KnowsOfCall same hash asks here 0 w c seen u.keys u.began u.change u.call) → IsFirst x → TargetIs c.first u.call.stands
  target_now (inl facts) first = target_at same hash asks here w 0 c seen u.keys u.change u.call u.call.stands is_row facts.point
  target_now (inr late) first = absurd first

  target_then : (x : KnowsOfCall same hash asks here 0 w c seen u.keys u.began u.change (once_over u.call)) → IsFirst x → TargetIs c.first u.call.stands
  target_then (inl facts) first = target_past same hash asks here w 0 c seen u.keys u.change (once_over u.call) u.call.stands is_row facts.point
  target_then (inr late) first = absurd first

  pub within_row : IsWithinRow
  within_row = by (a.together.stand 0 (OnKey u) a.has) a.of_root
    where
      inside : IsInside (w.uses (slot 0))
      inside = a.together.inside 0 (OnKey u) a.has

      by : (x : IsAtPoint V same hash asks setting slot w c seen 0 (OnKey u)) → IsOfRoot same hash asks setting slot w c seen (OnKey u) x → IsWithinRow
      by (inr (row, at_row, knows)) first = record {
        v = w;
        memory = refl;
        row_is = row;
        together = a.together;
        rows = a.rows;
        knows = knows;
        target = target_then knows.facts first;
        reclaims = λ w2 value h. h;
      }
      by (inl (rests, knows)) first =
          let b = begun_row same hash asks setting slot lawful w c blocks sights a.calls a.together 0 u inside rests a.has is_row knows in
          record {
            v = b.row.v;
            memory = b.row.memory;
            row_is = b.row.row_is;
            together = begun_together same hash asks setting slot lawful w c blocks sights a.calls a.together 0 u inside rests a.has is_row knows;
            rows = λ i other. b.row.rows i other ∙ a.rows i other;
            knows = b.knows;
            target = target_now knows.facts first;
            reclaims = begun.begun_gives same hash asks setting slot lawful w c blocks sights a.calls a.together 0 inside rests (row_of (slot 0) u.call.stands) b.row;
          }
