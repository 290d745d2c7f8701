-- A step of a lookup, as one of many calls: it does nothing, and has read one word more.
use Rattle.std.specs.Prelude.{◌≡◌, ℕ, suc, Bool, Option, Some, None, ◌⊎◌}
use Rattle.std.proofs.Common.{ap, sym, subst, ◌∙◌, inl, inr}
use Rattle.run_places.specs.Given.SeizeWordsMem.{Mem, Took, value_at}
use Rattle.run_places.specs.Given.SeizeWordsPlan.{Steps}
use Rattle.run_places.proofs.Given.SeizeRuleRows.Leaving.{steps_back}
use Rattle.run_places.specs.Given.SeizeWorld.{Rests}
use Rattle.run_places.specs.Given.SeizeDeclared.advance.Advance.{Advance as Stepped}
use Rattle.run_places.specs.Given.TablesChunks.{is_incremental}
use Rattle.run_places.specs.Given.TablesDeclared.node.Node.{Node}
use Rattle.run_places.specs.Given.ResizeLookup.{lookup_plan}
use Rattle.run_places.specs.Given.ResizeLookup as lookups
use Rattle.run_places.specs.Given.ResizeDeclared.lookup.Lookup.{Lookup}
use Rattle.run_places.specs.Given.ResizeDeclared.lookup.Looking.{Looking}
use Rattle.run_places.specs.Given.ResizeDeclared.lookup.Looking.TheVariants as looking
use Rattle.run_places.specs.Given.RawCall.{call_plan, looked, looks_for, plan_at}
use Rattle.run_places.specs.Given.RawMachine.{called, machine_plan}
use Rattle.run_places.specs.Given.RawProgress.{of_called}
use Rattle.run_places.specs.Given.RawDeclared.machines.answer.Called.{Called}
use Rattle.run_places.specs.Given.RawDeclared.machines.call.Calling.{Calling}
use Rattle.run_places.specs.Given.RawDeclared.machines.call.Calling.TheVariants as at
use Rattle.run_places.specs.Given.RawDeclared.machines.call.KeyCall.{KeyCall}
use Rattle.run_places.specs.Given.RawDeclared.machines.machine.Machine.{Machine}
use Rattle.run_places.specs.Given.RawDeclared.machines.machine.Machine.TheVariants as kinds
use Rattle.run_places.specs.Given.RawDeclared.machines.progress.Progress.{Progress}
use Rattle.run_places.specs.Given.RuleChart.{Chart}
use Rattle.run_places.specs.Given.RuleInWorld.{IsMapIn}
use Rattle.run_places.specs.Given.RuleWords.{Blocks}
use Rattle.run_places.specs.Given.PointsFactsCalls.{Unchanged, CallingFacts, CallFacts}
use Rattle.run_places.specs.Given.PointsSteps.{AreLawful}
use Rattle.run_places.specs.Given.PointsTold.{IsRowOfCall}
use Rattle.run_places.proofs.Given.PointsLookups.LooksAsked.{class_asked, lookup_asked}
use Rattle.run_places.specs.Given.LateLateCalls.{SupersededCalling, SupersededCallFacts}
use Rattle.run_places.specs.Given.CallersRows.{row_of, once_over}
use Rattle.run_places.specs.Given.CallersSights.{seen_by}
use Rattle.run_places.specs.Given.CallersTogether.{CallOnKey, OnKey, ForRoom, Counting, OverAll, Together, Knows, in_slot}
use Rattle.run_places.proofs.Given.CallersSights.Seen.{map_seen}
use Rattle.run_places.proofs.Given.CallersTogether.Fits.{map_in_slot}
use Rattle.run_places.specs.Given.TellerTells.{StepsObserved}
use Rattle.run_places.specs.Given.EffectsDeclared.changed.Changed.{Changed}
use Rattle.run_places.specs.Given.EffectsDeclared.changed.Changed.TheVariants as changed
use Rattle.run_places.proofs.Given.OthersOutcomes.{told_in}
use Rattle.run_places.specs.Given.EffectsEffects.{effects_of}
use Rattle.run_places.specs.Given.EffectsDeclared.acting.Acting.TheVariants as acts
use Rattle.run_histories.specs.Promises.Brief.{ReadsAt, ReadsOn, IsRootOf}
use Rattle.run_histories.specs.Promises.Reading.{LookupsDoNothing}
use Rattle.run_histories.proofs.Promises.Brief.Going.{lookups_read_on, late_reads_on}
use Rattle.run_places.proofs.Given.ScenesTold.{as_step}
use Rattle.run_places.specs.Given.ScenesHeld.{Held, IsAt}
use Rattle.run_places.specs.Given.ScenesScene.{Scene, slot_of}
use Rattle.run_places.specs.Given.ScenesStepping.{StepLeads}

-- of a lookup's plan nothing is told

module _ {K V : Type 0} (m m2 : Mem (Node K V)) (told : Changed) where
  tells_none : (keys : K → Bool) (l : Lookup) (stands : Looking) (end : Lookup × Stepped (Option ℕ)) → StepsObserved K V (Lookup × Stepped (Option ℕ)) m changed.Nothing (lookups.plan_at keys l stands) m2 told end
      → told ≡ changed.Nothing
  tells_none keys l looking.Roots end s = s.1.1
  tells_none keys l (looking.Probes trial) end s = s.1.1
  tells_none keys l (looking.Nexts table) end s = s.1.1
  tells_none keys l (looking.Over found) end s = s.2

  asked_none : (asks : K → K → Bool) (p : KeyCall K V K) (l : Lookup) (asked : Option K) (end : KeyCall K V K × Called (Node K V))
      → StepsObserved K V (KeyCall K V K × Called (Node K V)) m changed.Nothing (looks_for asks p l asked) m2 told end → told ≡ changed.Nothing
  asked_none asks p l (Some q) end s = let it = told_in m m2 told (looked p) (lookup_plan (asks q) l) end s in tells_none (asks q) l l.stands it.0 it.2
  asked_none asks p l None end s = s.2

module _ (K V : Type 0) (same : K → K → Bool) (hash : ℕ → K → ℕ) where
  -- what is told of its step
  told_none : (its_hash : K → ℕ) (old new : Held K V) (k : CallOnKey K V K) (l : Lookup) → k.call.stands ≡ at.Looks l → (end : Machine K V K × Progress (Node K V))
      → StepsObserved K V (Machine K V K × Progress (Node K V)) old.memory changed.Nothing (machine_plan same same its_hash (kinds.Key k.call)) new.memory new.changed end
      → new.changed ≡ changed.Nothing
  told_none its_hash old new k l e end s =
      let it = told_in old.memory new.memory new.changed called (call_plan same same its_hash k.call) end s in
      asked_none old.memory new.memory new.changed same k.call l k.call.asked it.0
      (subst (λ (x : Calling). StepsObserved K V (KeyCall K V K × Called (Node K V)) old.memory changed.Nothing (plan_at same same its_hash k.call x) new.memory new.changed it.0) e it.2)

  pub lookups_do_nothing : LookupsDoNothing K V same hash
  lookups_do_nothing known s old new i said leads map (OnKey k) here incremental c moments steps h =
      let to = leads map (OnKey k) here in
      ap (effects_of (acts.Call i map) known) (told_none to.0.hash old new k h.0 h.1 (to.1, said) to.3)
  lookups_do_nothing known s old new i said leads map (ForRoom r) here incremental c moments steps h = absurd h
  lookups_do_nothing known s old new i said leads map (Counting sum) here incremental c moments steps h = absurd h
  lookups_do_nothing known s old new i said leads map (OverAll o) here incremental c moments steps h = absurd h

module _ {K V : Type 0} (same : K → K → Bool) (hash : ℕ → K → ℕ) (s : Scene K V) (old new : Held K V) (at_old : IsAt same hash old s) (map i : ℕ) (k : CallOnKey K V K)
    (here : s.calls map i ≡ Some (OnKey k)) (said : Progress (Node K V)) (leads : StepLeads same hash i said s old new) (l : Lookup) (is : k.call.stands ≡ at.Looks l) where
  abbrev c : Chart K
  c = (leads map (OnKey k) here).0.chart

  abbrev inc : Bool
  inc = is_incremental (leads map (OnKey k) here).0.setting.mode

  abbrev seen : Blocks
  seen = seen_by (leads map (OnKey k) here).0.blocks ((leads map (OnKey k) here).0.sights (slot_of i))

  abbrev its_hash : K → ℕ
  its_hash = (leads map (OnKey k) here).0.hash

  stand : Together V same its_hash same (leads map (OnKey k) here).0.setting slot_of s.world c (leads map (OnKey k) here).0.blocks (leads map (OnKey k) here).0.sights (s.calls map)
  stand = at_old.together.makings.standing.each map (leads map (OnKey k) here).0 (leads map (OnKey k) here).2

  lawful : AreLawful same its_hash
  lawful = (at_old.together.makings.standing.fit map (leads map (OnKey k) here).0 (leads map (OnKey k) here).2).0

  -- what it sees of its map
  is_map : IsMapIn same its_hash (in_slot (leads map (OnKey k) here).0.setting (slot_of i)) s.world c seen
  is_map =
      map_seen same its_hash (in_slot (leads map (OnKey k) here).0.setting (slot_of i)) s.world c (leads map (OnKey k) here).0.blocks ((leads map (OnKey k) here).0.sights (slot_of i))
      (map_in_slot same its_hash (leads map (OnKey k) here).0.setting s.world c (leads map (OnKey k) here).0.blocks (slot_of i) stand.ground.map)
      (stand.ground.sight (slot_of i) (stand.inside i (OnKey k) here)).0

  -- what it knows
  knows : Knows V same its_hash same (leads map (OnKey k) here).0.setting slot_of s.world c seen i k k.call
  knows = by (stand.stand i (OnKey k) here)
    where
      by : ((s.world.row i ≡ Rests) × Knows V same its_hash same (leads map (OnKey k) here).0.setting slot_of s.world c seen i k k.call)
          ⊎ ((s.world.row i ≡ row_of (slot_of i) k.call.stands) × IsRowOfCall k.call.stands × Knows V same its_hash same (leads map (OnKey k) here).0.setting slot_of s.world c seen i k (once_over k.call))
          → Knows V same its_hash same (leads map (OnKey k) here).0.setting slot_of s.world c seen i k k.call
      by (inl rests) = rests.1
      by (inr within) = absurd (subst IsRowOfCall is within.1)

  -- its step is one of the lookup's plan
  pub record LookedOn (key : K) : Type 0 where
    pub m2 : Mem (Node K V)
    pub end : Lookup × Stepped (Option ℕ)
    pub steps : Steps Took value_at s.world.memory (lookup_plan (same key) l) m2 end
    pub leads_to : (kinds.Key (looked k.call end).0 ≡ (leads map (OnKey k) here).1) × (of_called (looked k.call end).1 ≡ said)

  looked_so : (q : K) → k.call.asked ≡ Some q → LookedOn q
  looked_so q asked =
      let st = as_step old.memory changed.Nothing (machine_plan same same its_hash (kinds.Key k.call)) new.memory new.changed ((leads map (OnKey k) here).1, said) (leads map (OnKey k) here).3 in
      let it = steps_back called old.memory new.memory (call_plan same same its_hash k.call) ((leads map (OnKey k) here).1, said) st in
      let at_look = subst (λ (x : Calling). Steps Took value_at old.memory (plan_at same same its_hash k.call x) new.memory it.0) is it.1 in
      let of_key = subst (λ (o : Option K). Steps Took value_at old.memory (looks_for same k.call l o) new.memory it.0) asked at_look in
      let by = steps_back (looked k.call) old.memory new.memory (lookup_plan (same q) l) it.0 of_key in
      record {
        m2 = new.memory;
        end = by.0;
        steps = subst (λ (x : Mem (Node K V)). Steps Took value_at x (lookup_plan (same q) l) new.memory by.0) (sym at_old.memory) by.1;
        leads_to = (
          ap (λ (x : KeyCall K V K × Called (Node K V)). kinds.Key x.0) (sym by.2) ∙ ap (λ (x : Machine K V K × Progress (Node K V)). x.0) (sym it.2),
          ap (λ (x : KeyCall K V K × Called (Node K V)). of_called x.1) (sym by.2) ∙ ap (λ (x : Machine K V K × Progress (Node K V)). x.1) (sym it.2),
        );
      }

  -- with it, it has read a word more
  pub record HasReadOn (first steps : ℕ) : Type 0 where
    pub key : K
    pub on : LookedOn key
    pub reads : ReadsOn inc c first (suc steps) on.end

  pub has_read_on : (first steps : ℕ) → IsRootOf c first l.stands → ReadsAt inc c first steps l.stands → HasReadOn first steps
  has_read_on first steps rooted reads = by knows.facts
    where
      fresh : CallFacts same its_hash same s.world i (in_slot (leads map (OnKey k) here).0.setting (slot_of i)) c seen k.keys k.change k.call
          → CallingFacts same its_hash same s.world i (in_slot (leads map (OnKey k) here).0.setting (slot_of i)) c seen k.keys k.change k.call (at.Looks l) → HasReadOn first steps
      fresh facts (own, missing, there, q, asked, agree, knows_so) =
          let on = looked_so q asked in
          record {
            key = q;
            on = on;
            reads =
                lookups_read_on K V same its_hash lawful (leads map (OnKey k) here).0.setting.mode (leads map (OnKey k) here).0.setting.root (same q) k.call.hash s.world.memory c seen l
                (class_asked same its_hash (leads map (OnKey k) here).0.setting.mode (leads map (OnKey k) here).0.setting.root k.keys (same q) agree k.call.hash facts.class) is_map.map
                (lookup_asked same its_hash (leads map (OnKey k) here).0.setting.mode (leads map (OnKey k) here).0.setting.root k.keys (same q) agree k.call.hash c seen l knows_so)
                first steps rooted reads on.m2 on.end on.steps;
          }

      late : SupersededCallFacts same its_hash same s.world i (in_slot (leads map (OnKey k) here).0.setting (slot_of i)) c seen k.keys k.began k.call
          → SupersededCalling same its_hash same s.world i (in_slot (leads map (OnKey k) here).0.setting (slot_of i)) c seen k.keys k.began k.call (at.Looks l) → HasReadOn first steps
      late facts (own, missing, there, q, asked, agree, knows_so) =
          let on = looked_so q asked in
          record {
            key = q;
            on = on;
            reads =
                late_reads_on K V same its_hash lawful (leads map (OnKey k) here).0.setting.mode (leads map (OnKey k) here).0.setting.root k.keys (same q) k.call.hash k.began s.world.memory c seen l
                (class_asked same its_hash (leads map (OnKey k) here).0.setting.mode (leads map (OnKey k) here).0.setting.root k.keys (same q) agree k.call.hash facts.class) is_map.map
                knows_so first steps reads on.m2 on.end on.steps;
          }

      by : CallFacts same its_hash same s.world i (in_slot (leads map (OnKey k) here).0.setting (slot_of i)) c seen k.keys k.change k.call
          ⊎ ((k.change ≡ Unchanged) × SupersededCallFacts same its_hash same s.world i (in_slot (leads map (OnKey k) here).0.setting (slot_of i)) c seen k.keys k.began k.call) → HasReadOn first steps
      by (inl facts) = fresh facts (subst (CallingFacts same its_hash same s.world i (in_slot (leads map (OnKey k) here).0.setting (slot_of i)) c seen k.keys k.change k.call) is facts.point)
      by (inr (none, facts)) = late facts (subst (SupersededCalling same its_hash same s.world i (in_slot (leads map (OnKey k) here).0.setting (slot_of i)) c seen k.keys k.began k.call) is facts.point)
