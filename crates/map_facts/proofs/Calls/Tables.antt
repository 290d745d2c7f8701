-- A call reads the root, and the link to the table behind the one that it has tried.
use Rattle.std.specs.Prelude.{◌≡◌, ℕ, suc, Bool}
use Rattle.std.specs.Int.{IsPowerOfTwo}
use Rattle.std.proofs.Common.{ap, sym, ◌∙◌}
use Rattle.map_rule.specs.Given.SeizeWordsDeclared.at.At.TheVariants.{Root}
use Rattle.map_rule.specs.Given.SeizeWordsMem.{Mem, value_at, word_at, Can, Took}
use Rattle.map_rule.specs.Given.SeizeWordsPlan.{May, Steps}
use Rattle.map_rule.proofs.Given.SeizeWordsOneOwner.Operations.{may_load, loaded}
use Rattle.papaya_raw.specs.Given.SeizeWorld.{World}
use Rattle.papaya_raw.specs.Call.{root_found, roots, next_found, nexts}
use Rattle.papaya_raw.specs.CallPoints.{tableless, at_last, entering, continued_in}
use Rattle.papaya_raw.specs.Given.TablesTablePlaces.{at_word}
use Rattle.papaya_raw.specs.Given.TablesDeclared.node.Node.{Node}
use Rattle.papaya_raw.specs.Given.TablesDeclared.setting.Setting.{Setting}
use Rattle.papaya_raw.specs.Given.TablesDeclared.table_words.TheConstants.{NEXT}
use Rattle.papaya_raw.specs.declared.machines.answer.Called.{Called}
use Rattle.papaya_raw.specs.declared.machines.call.KeyCall.{KeyCall}
use Rattle.map_rule.specs.Chart.{Chart}
use Rattle.map_rule.specs.Rule.{IsLawful}
use Rattle.map_rule.specs.Words.{Blocks}
use Rattle.map_rule.specs.Maps.{spot_of, IsTable}
use Rattle.map_rule.specs.InWorld.{IsMapIn}
use Rattle.map_facts.specs.FactsCalls.{Change, Unchanged, ShutUpTo, CallFacts}
use Rattle.map_rule.proofs.Words.LinksRead.{see_link, link_ends}
use Rattle.map_rule.proofs.Words.TablesSeen.{next_there}
use Rattle.map_rule.proofs.Words.LinksSeen.{root_leads, next_leads}
use Rattle.map_facts.proofs.Calls.CallsOn.{Seeking, Comes}
use Rattle.map_facts.proofs.Calls.CallsTables.{enters_root, no_table, no_next, goes_on}
use Rattle.map_facts.proofs.Calls.Makes.{CallWent, still}
use Rattle.map_rule.proofs.Given.General.{some_is as is_some_of}

module _ {K V Q : Type 0} (same : K → K → Bool) (hash : K → ℕ) (asks : Q → K → Bool) (caller : ℕ) (setting : Setting) (keys : K → Bool)
    (lawful : IsLawful same (spot_of hash))
    (w : World (Node K V)) (c : Chart K) (blocks : Blocks) (map : IsMapIn same hash setting w c blocks) (p : KeyCall K V Q)
    (s : Seeking same hash asks caller setting keys w c blocks p) where
  root_at : word_at w.memory (Root p.setting.root) ≡ word_at w.memory (Root setting.root)
  root_at = ap (λ (x : Setting). word_at w.memory (Root x.root)) s.setting_is

  pub may_roots : May Can Took value_at w.memory (roots p)
  may_roots =
      may_load w.memory (root_found p) (Root p.setting.root) (is_some_of _ _ (root_at ∙ map.map.shows.root_there))
      (λ link read. see_link hash w.memory c blocks setting.root map.map.shows link c.first
      (root_leads same hash setting.mode setting.root w.memory c blocks map.map link (sym root_at ∙ read)) (tableless p.missing p) (entering p))

  pub went_roots : (change : Change) (f : CallFacts same hash asks w caller setting c blocks keys change p) → change ≡ Unchanged
      → (m2 : Mem (Node K V)) (end : KeyCall K V Q × Called (Node K V)) → Steps Took value_at w.memory (roots p) m2 end
      → CallWent same hash asks caller setting keys w c blocks map change p f m2 end
  went_roots change f unchanged m2 end steps =
      let d = loaded w.memory (root_found p) (Root p.setting.root) m2 end steps in
      still same hash asks caller setting keys w c blocks map change p f m2 d.2 end unchanged
      (link_ends hash w.memory c blocks setting.root map.map.shows d.0 c.first
      (root_leads same hash setting.mode setting.root w.memory c blocks map.map d.0 (sym root_at ∙ d.1)) (tableless p.missing p) (entering p)
      (Comes same hash asks caller setting keys w c blocks)
      (no_table same hash asks caller setting keys lawful w c blocks map.map p s)
      (λ table entered. enters_root same hash asks caller setting keys lawful w c blocks map.map p s table entered) end d.3)

  module _ (t : ℕ) (entered : IsTable c blocks p.trial.table t) (shut : ShutUpTo same hash asks w caller setting c blocks keys Unchanged t) (power : IsPowerOfTwo setting.initial) where
    pub may_nexts : May Can Took value_at w.memory (nexts p)
    may_nexts =
        may_load w.memory (next_found p) (at_word p.trial.table NEXT) (is_some_of _ _ (next_there hash w.memory c blocks setting.root map.map.shows p.trial.table t entered))
        (λ link read. see_link hash w.memory c blocks setting.root map.map.shows link (suc t)
        (next_leads same hash setting.mode setting.root w.memory c blocks map.map p.trial.table t link entered read) (at_last p.missing p) (continued_in p))

    pub went_nexts : (change : Change) (f : CallFacts same hash asks w caller setting c blocks keys change p) → change ≡ Unchanged
        → (m2 : Mem (Node K V)) (end : KeyCall K V Q × Called (Node K V)) → Steps Took value_at w.memory (nexts p) m2 end
        → CallWent same hash asks caller setting keys w c blocks map change p f m2 end
    went_nexts change f unchanged m2 end steps =
        let d = loaded w.memory (next_found p) (at_word p.trial.table NEXT) m2 end steps in
        still same hash asks caller setting keys w c blocks map change p f m2 d.2 end unchanged
        (link_ends hash w.memory c blocks setting.root map.map.shows d.0 (suc t)
        (next_leads same hash setting.mode setting.root w.memory c blocks map.map p.trial.table t d.0 entered d.1) (at_last p.missing p) (continued_in p)
        (Comes same hash asks caller setting keys w c blocks)
        (no_next same hash asks caller setting keys lawful w c blocks map.map p s t entered shut power)
        (λ table next. goes_on same hash asks caller setting keys lawful w c blocks map.map p s t entered shut table next) end d.3)
