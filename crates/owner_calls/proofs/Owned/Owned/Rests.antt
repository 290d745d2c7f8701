-- The owner rests, whatever the next call is asked with.
use Rattle.std.specs.Prelude.{◌≡◌, ℕ, Bool, true, None}
use Rattle.std.proofs.Common.{refl, sym, ◌∙◌}
use Rattle.std.proofs.lemmas.Bool.{true≢false}
use Rattle.seize.specs.World.{World}
use Rattle.map_tables.specs.Chunks.{is_incremental}
use Rattle.map_tables.specs.declared.node.Node.{Node}
use Rattle.map_tables.specs.declared.setting.Setting.{Setting}
use Rattle.map_straight.specs.Given.RuleChart.{Chart}
use Rattle.map_straight.specs.Given.RuleWords.{Blocks}
use Rattle.owner_whole.specs.Given.CallersSights.{Visible}
use Rattle.owner_whole.specs.Given.CallersTogether.{Together}
use Rattle.owner_whole.specs.Whole.Owner.{IsQuiescent}

module _ {K V : Type 0} (same : K → K → Bool) (hash : K → ℕ) (setting : Setting) (incremental : is_incremental setting.mode ≡ true) (slot : ℕ → ℕ) {Q1 Q2 : Type 0} (asks1 : Q1 → K → Bool) (asks2 : Q2 → K → Bool)
    (w : World (Node K V)) (c : Chart K) (blocks : Blocks) (sights : ℕ → Visible) where
  pub together_as : IsQuiescent {K = K} {V = V} {Q = Q1} same hash asks1 setting slot w c blocks sights → Together {K = K} {Q = Q2} V same hash asks2 setting slot w c blocks sights (λ i. None)
  together_as r =
      let g = r.together.ground in record {
        ground = record { came = g.came; map = g.map; moments = g.moments; kept = g.kept; owned = g.owned; behind = g.behind; sources = g.sources; counter = g.counter; sight = g.sight };
        inside = λ i u is. absurd (cc is);
        stand = λ i u is. absurd (cc is);
        idle = λ i is. r.together.idle i (r.none i);
        onto = λ t j from to on. absurd (r.together.onto t j from to on (r.none j));
        few = λ e. absurd (true≢false (sym incremental ∙ e));
      }

  pub rests_as : IsQuiescent {K = K} {V = V} {Q = Q1} same hash asks1 setting slot w c blocks sights → IsQuiescent {K = K} {V = V} {Q = Q2} same hash asks2 setting slot w c blocks sights
  rests_as r = record { calls = λ i. None; none = λ i. refl; together = together_as r; rows = r.rows; inside = r.inside; alone = r.alone }
