-- Where the owner rests, a sweep of any purpose begins alone.
use Rattle.std.specs.Prelude.{◌≡◌, ℕ, Bool, Option, Some}
use Rattle.std.proofs.Common.{inl, inr, refl, ◌∙◌}
use Rattle.seize.specs.World.{World, with_at}
use Rattle.map_tables.specs.declared.node.Node.{Node}
use Rattle.map_tables.specs.declared.setting.Setting.{Setting}
use Rattle.papaya_raw.specs.Given.ReservesDeclared.sweep.Purpose.{Purpose}
use Rattle.map_measures.specs.Given.RuleChart.{Chart}
use Rattle.map_measures.specs.Given.RuleWords.{Blocks}
use Rattle.owner_facts.specs.Given.CallersOverAll.{CallOverAll, begun_over_all}
use Rattle.owner_facts.specs.Given.CallersSights.{Visible, seen_by}
use Rattle.owner_facts.specs.Given.CallersTogether.{UnderWay, OverAll, in_slot, IsAtPoint, Together}
use Rattle.owner_facts.proofs.Given.CallersTogether.At.{at_other, at_same}
use Rattle.owner_facts.proofs.Given.CallersTogether.Sweeps.{sweeps_begin_together}
use Rattle.owner_whole.specs.Whole.Owner.{IsOfRoot, IsQuiescent, IsAlone}
use Rattle.owner_whole.specs.Whole.WholeSweeps.{SweepsBeginAlone}
use Rattle.owner_whole.proofs.Whole.Keys.Begins.{one_few}

module _ {K V Q : Type 0} (same : K → K → Bool) (hash : K → ℕ) (asks : Q → K → Bool) (setting : Setting) (slot : ℕ → ℕ) where
  module _ (w : World (Node K V)) (c : Chart K) (blocks : Blocks) (sights : ℕ → Visible) (a : IsQuiescent {Q = Q} same hash asks setting slot w c blocks sights) (purpose : Purpose) where
    abbrev it : CallOverAll
    it = begun_over_all c.now (in_slot setting (slot 0)) purpose

    abbrev calls2 : ℕ → Option (UnderWay K V Q)
    calls2 = with_at a.calls 0 (Some (OverAll it))

    abbrev seen : Blocks
    seen = seen_by blocks (sights (slot 0))

    has2 : calls2 0 ≡ Some (OverAll it)
    has2 = at_same a.calls 0 (Some (OverAll it)) 0 refl

    together2 : Together V same hash asks setting slot w c blocks sights calls2
    together2 = sweeps_begin_together same hash asks setting slot w c blocks sights a.calls 0 a.together (a.none 0) (a.rows 0) a.inside purpose (λ blocking. one_few a.calls a.none (OverAll it))

    of_root : (x : IsAtPoint V same hash asks setting slot w c seen 0 (OverAll it)) → IsOfRoot same hash asks setting slot w c seen (OverAll it) x
    of_root (inl (rests, knows)) = (tt, record { table = tt; before = λ once before. refl })
    of_root (inr (row, at_row, knows)) = absurd at_row

    sweep_begun : IsAlone {Q = Q} same hash asks setting slot w c blocks sights (OverAll it)
    sweep_begun = record {
      calls = calls2;
      has = has2;
      others = λ i other. at_other a.calls 0 (Some (OverAll it)) i other ∙ a.none i;
      together = together2;
      rows = λ i other. a.rows i;
      lone = record { idle = a.alone.idle; point = a.alone.tables };
      inside = together2.inside 0 (OverAll it) has2;
      of_root = of_root (together2.stand 0 (OverAll it) has2);
    }

  pub sweeps_begin_alone : SweepsBeginAlone V same hash asks setting slot
  sweeps_begin_alone = sweep_begun
