-- What a call knows it knows on while others step, in either mode.
use Rattle.std.proofs.Common.{◌≡◌, ℕ, ◌≤◌, ◌⊎◌, Bool, true, false, inl, arith, refl}
use Rattle.map_facts.specs.Given.SeizeWorld.{World}
use Rattle.map_facts.specs.Given.TablesChunks.{is_incremental}
use Rattle.map_facts.specs.Given.TablesDeclared.node.Node.{Node}
use Rattle.map_facts.specs.Given.TablesDeclared.setting.Setting.{Setting}
use Rattle.map_facts.specs.Given.RawDeclared.machines.call.KeyCall.{KeyCall}
use Rattle.map_facts.specs.Given.RuleChart.{Chart}
use Rattle.map_facts.specs.Given.RuleWords.{Blocks}
use Rattle.map_facts.specs.Given.RuleMoments.{Moments}
use Rattle.map_facts.specs.Given.RuleInWorld.{IsMapIn}
use Rattle.map_facts.specs.FactsCalls.{Change, Unchanged, CallFacts}
use Rattle.map_facts.specs.FactsIdle.{IsIdle}
use Rattle.map_facts.specs.Others.{OthersStep, StepsAreOfOthers}
use Rattle.map_facts.specs.Steps.{AreLawful}
use Rattle.map_facts_late.proofs.Known.Calls as incremental
use Rattle.map_facts_late.proofs.Known.Steps.{others_step}
use Rattle.map_facts_late.specs.LateCalls.{SupersededCallFacts}
use Rattle.map_facts_late.specs.LateLasts.{CallsKnowOn}
use Rattle.map_facts_late.proofs.Known.Tables.{made_on}
use Rattle.map_facts_late.proofs.Lasts.Copiers.{ClaimsStayFew}
use Rattle.map_facts_late.proofs.Lasts.Calls.{call_on, idle_on, late_call_on}

pub steps_are_of_others : {K : Type 0} (V : Type 0) (same : K → K → Bool) (hash : K → ℕ) → StepsAreOfOthers V same hash
steps_are_of_others V same hash lawful setting caller w c blocks map moments m2 went i other = others_step same hash setting lawful caller w c blocks map moments m2 (λ w2 c2 blocks2. Unit {0}) went i other

module _ {K Q : Type 0} (V : Type 0) (same : K → K → Bool) (hash : K → ℕ) (asks : Q → K → Bool) (lawful : AreLawful same hash) (setting : Setting) (caller : ℕ) (w w2 : World (Node K V)) (c c2 : Chart K)
    (blocks blocks2 : Blocks) (map : IsMapIn same hash setting w c blocks) (map2 : IsMapIn same hash setting w2 c2 blocks2) (moments : Moments (is_incremental setting.mode) c)
    (others : OthersStep same hash setting caller w c blocks w2 c2 blocks2) (few : is_incremental setting.mode ≡ false → ClaimsStayFew c c2) where
  abbrev KnowsOn : Type 0
  KnowsOn =
      (IsIdle same hash w caller setting c blocks → IsIdle same hash w2 caller setting c2 blocks2)
      × ((keys : K → Bool) (began : ℕ) → began ≤ c.now → (change : Change) (p : KeyCall K V Q)
      → (CallFacts same hash asks w caller setting c blocks keys change p
      → CallFacts same hash asks w2 caller setting c2 blocks2 keys change p ⊎ ((change ≡ Unchanged) × SupersededCallFacts same hash asks w2 caller setting c2 blocks2 keys began p))
      × (SupersededCallFacts same hash asks w caller setting c blocks keys began p → SupersededCallFacts same hash asks w2 caller setting c2 blocks2 keys began p))

  by : (b : Bool) → is_incremental setting.mode ≡ b → KnowsOn
  by true bits = (
    incremental.idle_on_others same hash asks lawful.lawful setting bits caller w w2 c c2 blocks blocks2 map map2 others (λ k. false) Unchanged,
    λ keys began since change p. (
      (λ facts. inl (incremental.call_on same hash asks lawful.lawful setting bits caller w w2 c c2 blocks blocks2 map map2 others keys change p facts)),
      λ late. absurd (let e = late.blocking in cc (bits, e)),
    ),
  )
  by false blocking = (
    idle_on same hash asks setting blocking caller w w2 c c2 blocks blocks2 map map2 moments others (λ k. false) 0 z Unchanged,
    λ keys began since change p. (
      call_on same hash asks setting blocking caller w w2 c c2 blocks blocks2 map map2 moments others keys began since change (few blocking) p,
      late_call_on same hash asks setting blocking caller w w2 c c2 blocks blocks2 map map2 moments others keys began since p,
    ),
  )
    where
      z : 0 ≤ c.now
      z = omega arith

  pub knows_on : KnowsOn
  knows_on = by (is_incremental setting.mode) refl

pub calls_know_on : {K Q : Type 0} (V : Type 0) (same : K → K → Bool) (hash : K → ℕ) (asks : Q → K → Bool) → CallsKnowOn V same hash asks
calls_know_on V same hash asks lawful setting caller w w2 c c2 blocks blocks2 map map2 moments others few =
    knows_on V same hash asks lawful setting caller w w2 c c2 blocks blocks2 map map2 moments others (λ blocking t made l. few blocking t (made_on same hash setting caller w w2 c c2 blocks blocks2 others t made))
