-- What a step of a copier tells of where it led, where pairs are copied in blocking mode; and a step that changed nothing.
use Rattle.std.specs.Prelude.{◌≡◌, ℕ, Bool, refl}
use Rattle.std.proofs.Common.{sym, subst}
use Rattle.map_rule.specs.Given.SeizeWordsMem.{Mem}
use Rattle.papaya_raw.specs.Given.SeizeWorld.{World}
use Rattle.papaya_raw.specs.Given.TablesDeclared.node.Node.{Node}
use Rattle.map_rule.specs.Given.ResizeDeclared.yielding.Yielding.{Yielding}
use Rattle.map_rule.specs.Given.ResizeDeclared.yielding.Yielding.TheVariants.{Goes}
use Rattle.papaya_raw.specs.Given.TablesDeclared.setting.Setting.{Setting}
use Rattle.papaya_raw.specs.Given.TablesDeclared.table.Table.{Table}
use Rattle.map_rule.specs.Given.ResizeDeclared.copier.Copier.{Copier}
use Rattle.map_rule.specs.Chart.{Chart}
use Rattle.map_rule.specs.Words.{Blocks}
use Rattle.map_rule.specs.InWorld.{IsMapIn, StepSpec, SparesPairs}
use Rattle.map_facts.specs.FactsCopiesBlocking.{CopyingFactsBlocking}
use Rattle.map_facts.specs.Told.{CopierOutcomeBlocking}
use Rattle.map_facts.specs.FactsAloneBlocking.{AloneBlocking, LeadsAlone}
use Rattle.map_facts.specs.Measures.{OthersIdle}
use Rattle.map_rule.proofs.World.WentStill.{went_still, spares_same}

module _ {K V : Type 0} (same : K → K → Bool) (hash : K → ℕ) (caller : ℕ) (setting : Setting) (w : World (Node K V)) (c : Chart K) (blocks : Blocks) where
  -- own pairs are spared, the map has the same pairs, and the copier's facts or its end are told
  abbrev pub CopierSays : Copier × Yielding (Node K V) Table → World (Node K V) → Chart K → Blocks → Type 0
  CopierSays end w2 c2 blocks2 = SparesPairs w w2 × (c2.current ≡ c.current) × CopierOutcomeBlocking w2 caller setting c2 blocks2 same hash end

  abbrev pub CopierWent : Mem (Node K V) → Copier × Yielding (Node K V) Table → Type 0
  CopierWent m2 end = StepSpec same hash setting caller w c blocks m2 (CopierSays end)

  -- and where it is alone, and knows this, it does not wait
  module _ (Alone : Type 0) where
    abbrev pub CopierTells : Copier × Yielding (Node K V) Table → World (Node K V) → Chart K → Blocks → Type 0
    CopierTells end w2 c2 blocks2 = CopierSays end w2 c2 blocks2 × (OthersIdle caller c × Alone → LeadsAlone c2 caller end)

    abbrev pub CopierCame : Mem (Node K V) → Copier × Yielding (Node K V) Table → Type 0
    CopierCame m2 end = StepSpec same hash setting caller w c blocks m2 (CopierTells end)

    module _ (map : IsMapIn same hash setting w c blocks) where
      pub copier_still : (m2 : Mem (Node K V)) (end r : Copier × Yielding (Node K V) Table) → m2 ≡ w.memory → end ≡ r
          → CopierOutcomeBlocking w caller setting c blocks same hash r → (OthersIdle caller c × Alone → LeadsAlone c caller r) → CopierCame m2 end
      copier_still m2 end r still is told alone =
          subst (CopierCame m2) (sym is) (went_still same hash setting caller w c blocks map m2 still (CopierTells r) ((spares_same w, refl, told), alone))

      -- it goes on
      pub copier_goes : (m2 : Mem (Node K V)) (end : Copier × Yielding (Node K V) Table) (p : Copier) → m2 ≡ w.memory → end ≡ (p, Goes) → p.setting ≡ setting
          → CopyingFactsBlocking same hash w caller setting c blocks p p.stands
          → (Alone → AloneBlocking c p p.stands) → CopierCame m2 end
      copier_goes m2 end p still is setting_is point alone =
          copier_still m2 end (p, Goes) still is (record { setting_is = setting_is; point = point }) (λ a. (a.0, alone a.1))
