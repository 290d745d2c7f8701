-- A step of one caller is to all others what such a step is to be.
use Rattle.std.specs.Prelude.{◌≢◌, ℕ, Bool}
use Rattle.std.proofs.Common.{◌∙◌, ap, inl, inr, subst, sym}
use Rattle.map_facts.specs.Given.SeizeWordsMem.{Mem, value_at}
use Rattle.map_facts.specs.Given.SeizeWorld.{World}
use Rattle.map_facts.specs.Given.TablesChunks.{is_incremental}
use Rattle.map_facts.specs.Given.TablesDeclared.node.Node.{Node}
use Rattle.map_facts.specs.Given.TablesDeclared.setting.Setting.{Setting}
use Rattle.map_facts.specs.Given.RuleChart.{Chart}
use Rattle.map_facts.specs.Given.RuleWords.{Blocks}
use Rattle.map_facts.specs.Given.RuleMaps.{spot_of}
use Rattle.map_facts.specs.Given.RuleInWorld.{IsMapIn, Moved, StepSpec, IsOut}
use Rattle.map_facts.specs.Given.RuleLasts.{Lasts}
use Rattle.map_facts.specs.Given.RuleMoments.{Moments, Remembers}
use Rattle.map_facts.specs.Given.RuleLeaves.{Leaves}
use Rattle.map_facts.specs.Others.{OthersStep}
use Rattle.map_facts.specs.Steps.{AreLawful}
use Rattle.map_facts.proofs.Given.RuleHistory.History.{history_kept}
use Rattle.map_facts.proofs.Given.RuleHistory.Leaving.{moves_leave}
use Rattle.map_facts.proofs.Given.RuleHistory.LeavingOn.{leaves_same}
use Rattle.map_facts.proofs.MovedLasts.{moved_lasts}

module _ {K V : Type 0} (same : K → K → Bool) (hash : K → ℕ) (setting : Setting) where
  module _ (lawful : AreLawful same hash) (caller : ℕ) (w : World (Node K V)) (c : Chart K) (blocks : Blocks) (map : IsMapIn same hash setting w c blocks) (moments : Moments (is_incremental setting.mode) c) where
    abbrev bit : Bool
    bit = is_incremental setting.mode

    moments_moved : (c2 : Chart K) → Moved same hash setting.mode caller c c2 → Moments (is_incremental setting.mode) c2
    moments_moved c2 (inl e) = subst (Moments bit) (sym e) moments
    moments_moved c2 (inr (move, allowed, e, by)) = subst (Moments bit) (sym e) (history_kept same (spot_of hash) bit lawful.lawful move c map.map.rule moments allowed).0

    remembers_moved : (c2 : Chart K) → Moved same hash setting.mode caller c c2 → Remembers (is_incremental setting.mode) c c2
    remembers_moved c2 (inl e) = subst (Remembers bit c) (sym e) (leaves_same same (spot_of hash) bit caller c).remembers
    remembers_moved c2 (inr (move, allowed, e, by)) = subst (Remembers bit c) (sym e) (history_kept same (spot_of hash) bit lawful.lawful move c map.map.rule moments allowed).1

    leaves_moved : (c2 : Chart K) → Moved same hash setting.mode caller c c2 → (i : ℕ) → i ≢ caller → Leaves same (spot_of hash) (is_incremental setting.mode) i c c2
    leaves_moved c2 (inl e) i other = subst (Leaves same (spot_of hash) bit i c) (sym e) (leaves_same same (spot_of hash) bit i c)
    leaves_moved c2 (inr (move, allowed, e, by)) i other =
        subst (Leaves same (spot_of hash) bit i c) (sym e) (moves_leave same (spot_of hash) bit lawful.lawful i move c (λ its. other (by i its)) map.map.rule moments allowed)

    module _ (m2 : Mem (Node K V)) (Told : World (Node K V) → Chart K → Blocks → Type 0) (went : StepSpec same hash setting caller w c blocks m2 Told) where
      pub moments_on : Moments (is_incremental setting.mode) went.c2
      moments_on = moments_moved went.c2 went.moved

      pub remembers_went : Remembers (is_incremental setting.mode) c went.c2
      remembers_went = remembers_moved went.c2 went.moved

      pub lasts_went : Lasts same (spot_of hash) (is_incremental setting.mode) c went.c2
      lasts_went = moved_lasts same hash setting lawful.lawful w c went.c2 blocks map went.moved

      pub others_step : (i : ℕ) → i ≢ caller → OthersStep same hash setting i w c blocks went.w2 went.c2 went.blocks2
      others_step i other = record {
        leaves = leaves_moved went.c2 went.moved i other;
        tables = went.blocks_same.tables;
        pairs = went.blocks_same.pairs;
        values = λ n was known. let is = (map.map.shows.pairs n was known).2 in
            ap (λ (m : Mem (Node K V)). value_at m (blocks.pair n)) went.memory ∙ went.frame.values (blocks.pair n) _ is (λ making. subst IsOut making.0 (map.pairs_out n was known)) ∙ sym is;
        own = went.spares i other;
      }
