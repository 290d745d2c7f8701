-- A call makes a table behind one that the root has left, or has made a first one too late.
use Rattle.std.specs.Prelude.{◌≡◌, ℕ, suc, ◌<◌, Bool, false}
use Rattle.std.proofs.Common.{inl, inr, ap, sym, subst, ◌∙◌}
use Rattle.map_facts.specs.Given.SeizeWordsDeclared.at.At.TheVariants.{Word}
use Rattle.map_facts.specs.Given.SeizeWordsMem.{Mem, value_at, Took}
use Rattle.map_facts.specs.Given.SeizeWordsPlan.{Steps}
use Rattle.map_facts.proofs.Given.SeizeRuleRows.Leaving.{steps_back}
use Rattle.map_facts.specs.Given.SeizeWorld.{World}
use Rattle.map_facts.specs.Given.SeizeDeclared.advance.Advance.{Advance}
use Rattle.map_facts.specs.Given.SeizeDeclared.advance.Advance.TheVariants as progress
use Rattle.map_facts.specs.Given.TablesChunks.{is_incremental}
use Rattle.map_facts.specs.Given.TablesDeclared.node.Node.{Node}
use Rattle.map_facts.specs.Given.TablesDeclared.setting.Setting.{Setting}
use Rattle.map_facts.specs.Given.TablesDeclared.table.Table.{Table}
use Rattle.map_facts.specs.Given.TablesDeclared.table_words.TheConstants.{NEXT}
use Rattle.map_facts.specs.Given.ResizeNewTable.{new_table_plan}
use Rattle.map_facts.specs.Given.ResizeDeclared.new_table.NewTable.{NewTable}
use Rattle.map_facts.specs.Given.RawCall.{first_made, firsts, next_made, allocs}
use Rattle.map_facts.specs.Given.RawDeclared.machines.answer.Called.{Called}
use Rattle.map_facts.specs.Given.RawDeclared.machines.call.KeyCall.{KeyCall}
use Rattle.map_facts.specs.Given.RawDeclared.machines.call.Calling.TheVariants as at
use Rattle.map_facts.specs.Given.RuleChart.{Chart}
use Rattle.map_facts.specs.Given.RuleRule.{IsLawful}
use Rattle.map_facts.specs.Given.RuleWords.{Blocks}
use Rattle.map_facts.specs.Given.RuleMaps.{spot_of, IsTable}
use Rattle.map_facts.specs.Given.RuleInWorld.{IsMapIn, StepSpec, SparesPairs}
use Rattle.map_facts.proofs.Given.RuleKeys.TriesLast.{table_lasts}
use Rattle.map_facts.proofs.Given.RuleWorld.WentTold.{went_as}
use Rattle.map_facts.specs.Told.{NewTableOutcome, OnlyLinks}
use Rattle.map_facts.proofs.Calls.CallsOn.{Seeking}
use Rattle.map_facts.proofs.Calls.CallsWithin.{seeking_lasts}
use Rattle.map_facts.proofs.Calls.Making.{links_beside}
use Rattle.map_facts.proofs.MovedLasts.{moved_lasts, links_same, idle_linked}
use Rattle.map_facts_late.specs.Left.{Left}
use Rattle.map_facts_late.specs.LateCalls.{SupersededFirstFacts}
use Rattle.map_facts_late.specs.LateTold.{SupersededCallOutcome}
use Rattle.map_facts_late.proofs.Calls.LatesOn.{LateComes, LateWent, told_late, goes_late, refuses_late}
use Rattle.map_facts_late.proofs.Calls.Enters.{enters_told, goes_on_late}
use Rattle.map_facts_late.proofs.Firsts.{FirstTells, left_linked, from_linked, went_first}

module _ {K V Q : Type 0} (same : K → K → Bool) (hash : K → ℕ) (asks : Q → K → Bool) (caller : ℕ) (setting : Setting) (alone : is_incremental setting.mode ≡ false) (keys : K → Bool) (began : ℕ)
    (lawful : IsLawful same (spot_of hash)) (w : World (Node K V)) (c : Chart K) (blocks : Blocks) (map : IsMapIn same hash setting w c blocks)
    (p : KeyCall K V Q) (s : Seeking same hash asks caller setting keys w c blocks p) (making : NewTable) where
  abbrev Late : World (Node K V) → Chart K → Blocks → KeyCall K V Q × Called (Node K V) → Type 0
  Late w2 c2 blocks2 end = LateComes same hash asks caller setting alone keys began w2 c2 blocks2 end

  module _ (w2 : World (Node K V)) (c2 : Chart K) (blocks2 : Blocks) (map2 : IsMapIn same hash setting w2 c2 blocks2) (spares : SparesPairs w w2) (links : OnlyLinks hash setting.mode c c2) where
    seeks : Seeking same hash asks caller setting keys w2 c2 blocks2 p
    seeks = seeking_lasts same hash asks caller setting keys w w2 c c2 blocks blocks2 spares p (idle_linked same hash caller setting lawful w c blocks map w2 c2 blocks2 links s.idle) s

    next_comes : (t : ℕ) → IsTable c2 blocks2 p.trial.table t → Left c2 began t → c2.from (suc t) ≡ t → (end : NewTable × Advance Table)
        → NewTableOutcome w2 caller setting c2 blocks2 (Word (blocks2.table t) NEXT) (suc t) end → Late w2 c2 blocks2 (next_made p end)
    next_comes t entered left from (next, progress.Goes) told =
        goes_late same hash asks caller setting alone keys began w2 c2 blocks2 p seeks p.trial (at.Allocs next) (λ answer h. h) (seeks.own, t, entered, left, told)
    next_comes t entered left from (next, progress.Waits) told = absurd told
    next_comes t entered left from (next, progress.Done table) told =
        goes_on_late same hash asks caller setting alone keys began lawful w2 c2 blocks2 map2.map p seeks t entered left from table (subst (λ (x : ℕ). IsTable c2 blocks2 table x) told.1 told.2)
    next_comes t entered left from (next, progress.Refused fault) told = refuses_late same hash asks caller setting alone keys began w2 c2 blocks2 p seeks fault

    first_comes : (table : Table) (u : ℕ) → IsTable c2 blocks2 table u → Left c2 began u → (end : NewTable × Advance Table) → end.1 ≡ progress.Done table → Late w2 c2 blocks2 (first_made p end)
    first_comes table u entered left (next, progress) is =
        subst (λ (x : Advance Table). Late w2 c2 blocks2 (first_made p (next, x))) (sym is)
        (enters_told same hash asks caller setting alone keys began lawful w2 c2 blocks2 map2.map p seeks table u entered (inr left))

  module _ (m2 : Mem (Node K V)) (end : KeyCall K V Q × Called (Node K V)) where
    -- the table behind its own is made
    pub went_allocs : (t : ℕ) → IsTable c blocks p.trial.table t → Left c began t → c.from (suc t) ≡ t → suc t < c.past
        → ((m2 : Mem (Node K V)) (end : NewTable × Advance Table) → Steps Took value_at w.memory (new_table_plan making) m2 end
        → StepSpec same hash setting caller w c blocks m2 (λ w2 c2 blocks2. SparesPairs w w2 × OnlyLinks hash setting.mode c c2
        × NewTableOutcome w2 caller setting c2 blocks2 (Word (blocks.table t) NEXT) (suc t) end))
        → Steps Took value_at w.memory (allocs p making) m2 end → LateWent same hash asks caller setting alone keys began w c blocks p m2 end
    went_allocs t entered left from next inner steps =
        let d = steps_back (next_made p) w.memory m2 (new_table_plan making) end steps in
        subst (λ (x : KeyCall K V Q × Called (Node K V)). LateWent same hash asks caller setting alone keys began w c blocks p m2 x) (sym d.2)
        (went_as same hash setting caller w c blocks m2
        (λ w2 c2 blocks2. SparesPairs w w2 × OnlyLinks hash setting.mode c c2 × NewTableOutcome w2 caller setting c2 blocks2 (Word (blocks.table t) NEXT) (suc t) d.0)
        (λ w2 c2 blocks2. SupersededCallOutcome same hash asks caller setting keys began c p w2 c2 blocks2 (next_made p d.0).0 (next_made p d.0).1)
        (λ w2 c2 blocks2 map2 moved same_blocks told.
        told_late same hash asks caller setting alone keys began w2 c2 blocks2 c p (next_made p d.0) (links_same same hash caller setting lawful w c blocks map c2 told.1).0
        (λ other. links_beside hash setting.mode c c2 told.1)
        (next_comes w2 c2 blocks2 map2 told.0 told.1 t
        (table_lasts same hash (is_incremental setting.mode) c c2 (moved_lasts same hash setting lawful w c c2 blocks map moved) blocks blocks2 same_blocks p.trial.table t entered)
        (left_linked hash setting c c2 began t told.1 entered.made left) (from_linked hash setting c c2 began (suc t) told.1 next ∙ from) d.0
        (subst (λ (x : ℕ). NewTableOutcome w2 caller setting c2 blocks2 (Word x NEXT) (suc t) d.0) (sym (same_blocks.tables t entered.made entered.known).0) told.2)))
        (inner m2 d.0 d.1))

  -- a first table came too late: the one that was there is entered
  pub went_firsts : SupersededFirstFacts w caller setting c blocks began making → (m2 : Mem (Node K V)) (end : KeyCall K V Q × Called (Node K V)) → Steps Took value_at w.memory (firsts p making) m2 end
      → LateWent same hash asks caller setting alone keys began w c blocks p m2 end
  went_firsts facts m2 end steps =
      let d = steps_back (first_made p) w.memory m2 (new_table_plan making) end steps in
      subst (λ (x : KeyCall K V Q × Called (Node K V)). LateWent same hash asks caller setting alone keys began w c blocks p m2 x) (sym d.2)
      (went_as same hash setting caller w c blocks m2
      (λ w2 c2 blocks2. FirstTells same hash caller setting began w c blocks map making w2 c2 blocks2 d.0)
      (λ w2 c2 blocks2. SupersededCallOutcome same hash asks caller setting keys began c p w2 c2 blocks2 (first_made p d.0).0 (first_made p d.0).1)
      (λ w2 c2 blocks2 map2 moved same_blocks told.
      told_late same hash asks caller setting alone keys began w2 c2 blocks2 c p (first_made p d.0) (ap (λ (x : Chart K). x.current) told.1) (λ other. inl told.1)
      (first_comes w2 c2 blocks2 map2 told.0 (inl told.1) told.2 told.3 told.4 told.5 d.0 told.6))
      (went_first same hash caller setting began w c blocks map making facts m2 d.0 d.1))
