-- A call reads the link to the table behind one that the root has left: that table is there.
use Rattle.std.specs.Prelude.{◌≡◌, ℕ, suc, ◌<◌, Bool, false}
use Rattle.std.proofs.Common.{refl, arith}
use Rattle.map_facts.specs.Given.SeizeWordsMem.{Mem, value_at, Can, Took}
use Rattle.map_facts.specs.Given.SeizeWordsPlan.{May, Steps}
use Rattle.map_facts.proofs.Given.SeizeWordsOneOwner.Operations.{may_load, loaded}
use Rattle.map_facts.specs.Given.SeizeWorld.{World}
use Rattle.map_facts.specs.Given.TablesChunks.{is_incremental}
use Rattle.map_facts.specs.Given.TablesTablePlaces.{at_word}
use Rattle.map_facts.specs.Given.TablesDeclared.node.Node.{Node}
use Rattle.map_facts.specs.Given.TablesDeclared.setting.Setting.{Setting}
use Rattle.map_facts.specs.Given.TablesDeclared.table_words.TheConstants.{NEXT}
use Rattle.map_facts.specs.Given.RawCall.{next_found, nexts}
use Rattle.map_facts.specs.Given.RawCallPoints.{at_last, continued_in}
use Rattle.map_facts.specs.Given.RawDeclared.machines.answer.Called.{Called}
use Rattle.map_facts.specs.Given.RawDeclared.machines.call.KeyCall.{KeyCall}
use Rattle.map_facts.specs.Given.RuleChart.{Chart}
use Rattle.map_facts.specs.Given.RuleRule.{IsLawful}
use Rattle.map_facts.specs.Given.RuleWords.{Blocks}
use Rattle.map_facts.specs.Given.RuleMaps.{spot_of, IsTable}
use Rattle.map_facts.specs.Given.RuleInWorld.{IsMapIn}
use Rattle.map_facts.specs.Given.RuleMoments.{Moments}
use Rattle.map_facts.proofs.Given.RuleWords.LinksRead.{see_link, link_ends}
use Rattle.map_facts.proofs.Given.RuleWords.TablesSeen.{next_there}
use Rattle.map_facts.proofs.Given.RuleWords.LinksSeen.{next_leads}
use Rattle.map_facts.proofs.Calls.CallsOn.{Seeking}
use Rattle.map_facts_late.specs.Left.{Left}
use Rattle.map_facts_late.proofs.Calls.LatesOn.{LateComes}
use Rattle.map_facts_late.proofs.Calls.Enters.{goes_on_late}
use Rattle.map_facts_late.proofs.Copiers.LateBegins.{behind_left}
use Rattle.map_facts.proofs.Given.General.{some_is as is_some_of}

module _ {K V Q : Type 0} (same : K → K → Bool) (hash : K → ℕ) (asks : Q → K → Bool) (caller : ℕ) (setting : Setting) (alone : is_incremental setting.mode ≡ false) (keys : K → Bool) (began : ℕ)
    (lawful : IsLawful same (spot_of hash))
    (w : World (Node K V)) (c : Chart K) (blocks : Blocks) (map : IsMapIn same hash setting w c blocks) (p : KeyCall K V Q) (t : ℕ) (entered : IsTable c blocks p.trial.table t) where
  pub may_nexts : May Can Took value_at w.memory (nexts p)
  may_nexts =
      may_load w.memory (next_found p) (at_word p.trial.table NEXT) (is_some_of _ _ (next_there hash w.memory c blocks setting.root map.map.shows p.trial.table t entered))
      (λ link read. see_link hash w.memory c blocks setting.root map.map.shows link (suc t)
      (next_leads same hash setting.mode setting.root w.memory c blocks map.map p.trial.table t link entered read) (at_last p.missing p) (continued_in p))

  module _ (moments : Moments false c) (s : Seeking same hash asks caller setting keys w c blocks p) (left : Left c began t) where
    -- there is a table behind it
    pub next_made : suc t < c.past
    next_made = behind_left same hash (is_incremental setting.mode) c map.map.rule began t entered.made left

    pub went_nexts : (m2 : Mem (Node K V)) (end : KeyCall K V Q × Called (Node K V)) → Steps Took value_at w.memory (nexts p) m2 end
        → (m2 ≡ w.memory) × LateComes same hash asks caller setting alone keys began w c blocks end
    went_nexts m2 end steps =
        let d = loaded w.memory (next_found p) (at_word p.trial.table NEXT) m2 end steps in (
          d.2,
          link_ends hash w.memory c blocks setting.root map.map.shows d.0 (suc t)
              (next_leads same hash setting.mode setting.root w.memory c blocks map.map p.trial.table t d.0 entered d.1) (at_last p.missing p) (continued_in p)
              (LateComes same hash asks caller setting alone keys began w c blocks)
              (λ none. absurd (let made = next_made in omega (arith, none, made)))
              (λ table next. goes_on_late same hash asks caller setting alone keys began lawful w c blocks map.map p s t entered left (moments.next_from refl t next_made left.was_root) table next) end d.3,
        )
