-- What a call knows, in its table or in one that the root has left, it knows on: over steps of others, and over steps of rows, in either mode.
use Rattle.std.proofs.Common.{◌≡◌, ℕ, ◌≤◌, ◌⊎◌, Bool, false, inl, inr}
use Rattle.seize_model.specs.Given.SeizeWorld.{World}
use Rattle.map_facts_late.specs.Given.TablesChunks.{is_incremental}
use Rattle.map_facts_late.specs.Given.TablesDeclared.node.Node.{Node}
use Rattle.map_facts_late.specs.Given.TablesDeclared.setting.Setting.{Setting}
use Rattle.map_facts_late.specs.Given.TablesDeclared.table.Table.{Table}
use Rattle.map_facts_late.specs.Given.ResizeDeclared.copier.Copier.{Copier}
use Rattle.map_facts_late.specs.Given.ResizeDeclared.dispose.Dispose.{Dispose}
use Rattle.map_facts_late.specs.Given.RawCallPoints as points
use Rattle.map_facts_late.specs.Given.RawDeclared.machines.answer.KeyAnswer.{KeyAnswer}
use Rattle.map_facts_late.specs.Given.RawDeclared.machines.call.KeyCall.{KeyCall}
use Rattle.map_facts_late.specs.Given.RawDeclared.machines.call.Calling.TheVariants as at
use Rattle.map_facts_late.specs.Given.RuleChart.{Chart}
use Rattle.map_facts_late.specs.Given.RuleWords.{Blocks}
use Rattle.map_facts_late.specs.Given.RuleMoments.{Moments}
use Rattle.map_facts_late.specs.Given.RuleInWorld.{IsMapIn}
use Rattle.map_facts_late.specs.Given.PointsFactsCalls.{Change, Unchanged, CallFacts}
use Rattle.map_facts_late.specs.Given.PointsFactsIdle.{IsIdle}
use Rattle.map_facts_late.specs.Given.PointsOthers.{OthersStep}
use Rattle.map_facts_late.specs.Given.PointsSteps.{AreLawful}
use Rattle.map_facts_late.specs.LateCalls.{SupersededCallFacts}
use Rattle.map_facts_late.proofs.Lasts.Copiers.{ClaimsStayFew}
use Rattle.map_facts_late.proofs.Lasts.Promised.{knows_on}

module _ {K V Q : Type 0} (same : K → K → Bool) (hash : K → ℕ) (asks : Q → K → Bool) (setting : Setting) (caller : ℕ) where
  -- it knows what its program point says; or it has changed nothing, and knows what is to be known in a table that the root has left since it began
  abbrev pub KnowsOfCall : World (Node K V) → Chart K → Blocks → (K → Bool) → ℕ → Change → KeyCall K V Q → Type 0
  KnowsOfCall w c blocks keys began change p =
      CallFacts same hash asks w caller setting c blocks keys change p ⊎ ((change ≡ Unchanged) × SupersededCallFacts same hash asks w caller setting c blocks keys began p)

  -- while it disposes of a pair, or helps with a copying, it knows what its program point says
  module _ (w : World (Node K V)) (c : Chart K) (blocks : Blocks) (keys : K → Bool) (began : ℕ) (change : Change) (call : KeyCall K V Q) where
    pub disposes_fresh : (d : Dispose) (answer : KeyAnswer) → KnowsOfCall w c blocks keys began change (points.standing call (at.Disposes d answer))
        → CallFacts same hash asks w caller setting c blocks keys change (points.standing call (at.Disposes d answer))
    disposes_fresh d answer (inl fresh) = fresh
    disposes_fresh d answer (inr (none, late)) = absurd late.point

    pub helps_fresh : (p : Copier) (goal : Table) → KnowsOfCall w c blocks keys began change (points.standing call (at.Helps p goal))
        → CallFacts same hash asks w caller setting c blocks keys change (points.standing call (at.Helps p goal))
    helps_fresh p goal (inl fresh) = fresh
    helps_fresh p goal (inr (none, late)) = absurd late.point

  module _ (lawful : AreLawful same hash) (w w2 : World (Node K V)) where
    -- over a step of another caller
    module _ (c c2 : Chart K) (blocks blocks2 : Blocks) (map : IsMapIn same hash setting w c blocks) (map2 : IsMapIn same hash setting w2 c2 blocks2) (moments : Moments (is_incremental setting.mode) c)
        (others : OthersStep same hash setting caller w c blocks w2 c2 blocks2) (few : is_incremental setting.mode ≡ false → ClaimsStayFew c c2) where
      pub idle_on : IsIdle same hash w caller setting c blocks → IsIdle same hash w2 caller setting c2 blocks2
      idle_on = (knows_on V same hash asks lawful setting caller w w2 c c2 blocks blocks2 map map2 moments others few).0

      pub call_knows_on : (keys : K → Bool) (began : ℕ) → began ≤ c.now → (change : Change) (p : KeyCall K V Q)
          → KnowsOfCall w c blocks keys began change p → KnowsOfCall w2 c2 blocks2 keys began change p
      call_knows_on keys began since change p (inl fresh) =
          ((knows_on V same hash asks lawful setting caller w w2 c c2 blocks blocks2 map map2 moments others few).1 keys began since change p).0 fresh
      call_knows_on keys began since change p (inr (none, late)) =
          inr (none, ((knows_on V same hash asks lawful setting caller w w2 c c2 blocks blocks2 map map2 moments others few).1 keys began since change p).1 late)
