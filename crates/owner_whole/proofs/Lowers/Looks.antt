-- A machine that looks up a key makes one load by each step, and goes on as a lookup or answers.
use Rattle.std.specs.Prelude.{◌≡◌, ℕ, suc, Bool, true, false, List, Option, Some, None, if◌then◌else◌}
use Rattle.std.proofs.Common.{inl, inr, refl, ap, sym, subst, ◌∙◌, arith}
use Rattle.seize_words.specs.OneMemory.Mem.{Mem, Took, value_at}
use Rattle.seize_words.specs.OneMemory.Plan.{Steps, plan_as}
use Rattle.map_measures.proofs.Given.SeizeRuleRows.Leaving.{steps_back}
use Rattle.seize.specs.World.{World}
use Rattle.seize.specs.declared.advance.Advance.{Advance as Stepped}
use Rattle.seize.specs.declared.advance.Advance.TheVariants as stepped
use Rattle.map_tables.specs.Chunks.{is_incremental}
use Rattle.map_tables.specs.Finding.{finding}
use Rattle.map_tables.specs.Trials.{next_trial}
use Rattle.map_tables.specs.declared.finding.Aim.TheVariants as aims
use Rattle.map_tables.specs.declared.finding.Finding.{Finding}
use Rattle.map_tables.specs.declared.finding.Finding.TheVariants as is
use Rattle.map_tables.specs.declared.node.Node.{Node}
use Rattle.map_tables.specs.declared.resize_mode.ResizeMode.{ResizeMode}
use Rattle.map_tables.specs.declared.setting.Setting.{Setting}
use Rattle.map_tables.specs.declared.table.Table.{Table}
use Rattle.map_tables.specs.declared.trial.Trial.{Trial}
use Rattle.map_measures.specs.Given.ResizeLookup.{answered, going, passed, after_finding, plan_at, lookup_plan}
use Rattle.map_measures.specs.Given.ResizeDeclared.lookup.Lookup.{Lookup}
use Rattle.map_measures.specs.Given.ResizeDeclared.lookup.Looking.{Looking}
use Rattle.map_measures.specs.Given.ResizeDeclared.lookup.Looking.TheVariants as looks
use Rattle.papaya_raw.specs.Call.{looked, looks_for, call_plan}
use Rattle.papaya_raw.specs.Call as call
use Rattle.papaya_raw.specs.Machine as machines
use Rattle.papaya_raw.specs.Machine.{machine_plan}
use Rattle.papaya_raw.specs.declared.machines.answer.KeyAnswer.TheVariants as answers
use Rattle.papaya_raw.specs.declared.machines.call.Calling.{Calling}
use Rattle.papaya_raw.specs.declared.machines.call.Calling.TheVariants as at
use Rattle.papaya_raw.specs.declared.machines.call.KeyCall.{KeyCall}
use Rattle.papaya_raw.specs.declared.machines.machine.Machine.{Machine}
use Rattle.papaya_raw.specs.declared.machines.machine.Machine.TheVariants as kinds
use Rattle.papaya_raw.specs.declared.machines.progress.Answer.TheVariants as ends
use Rattle.papaya_raw.specs.declared.machines.progress.Progress.{Progress}
use Rattle.map_measures.specs.Given.RuleChart.{Chart}
use Rattle.map_measures.specs.Given.RuleInWorld.{IsMapIn}
use Rattle.map_measures.specs.Given.RuleMaps.{spot_at, IsClass, IsMap, IsTrial}
use Rattle.map_measures.specs.Given.RuleWords.{Blocks, place_word}
use Rattle.map_measures.proofs.Given.RuleKeys.TriesSeen.{IsNext, next_is}
use Rattle.owner_facts.specs.Given.PointsFactsCalls.{CallingFacts, CallFacts}
use Rattle.map_measures.specs.Given.PointsFactsLooks.{LookupFacts}
use Rattle.map_measures.specs.Given.PointsMeasuresLooks.{IsLoad, HasEnded, LoadLeads, LookupLeads, HasLooked, begun, further}
use Rattle.owner_facts.specs.Given.PointsSteps.{AreLawful}
use Rattle.owner_facts.specs.Given.PointsTold.{IsRowOfCall, LookupOutcome}
use Rattle.owner_facts.proofs.Given.PointsLookups.LooksAsked.{class_asked, lookup_asked}
use Rattle.owner_facts.proofs.Given.PointsLookups.LookupsShort.{lookups_are_short}
use Rattle.owner_facts.proofs.Given.PointsLookups.Points.{went_lookup_leads}
use Rattle.owner_facts.proofs.Given.PointsLookups.Reads.{SeesPlace, sees_place, probes_tell}
use Rattle.owner_facts.specs.Given.LateLateCalls.{SupersededCalling, SupersededCallFacts}
use Rattle.map_measures.specs.Given.LateLateLooks.{SupersededLooking}
use Rattle.owner_facts.specs.Given.CallersSights.{seen_by}
use Rattle.owner_facts.specs.Given.CallersTogether.{UnderWay, CallOnKey, OnKey, ForRoom, Counting, OverAll, in_slot, IsAtPoint, Together}
use Rattle.owner_facts.specs.Given.FinishesEndings.{Finishing, EndingsTogether}
use Rattle.owner_facts.specs.Given.FinishesMakings.{Beginning}
use Rattle.owner_facts.specs.Given.FinishesMaps.{Standing}
use Rattle.map_measures.proofs.Waits.Promised.{map_of}
use Rattle.owner_whole.specs.Lowers.Looks.{LooksOn, LookupsStepByLoads}

-- one that has looked has not ended

not_over : (here there : Looking) → LoadLeads here there → HasEnded there → ⊥
not_over looks.Roots (looks.Over found) leads ended = leads
not_over (looks.Probes trial) (looks.Over found) leads ended = leads
not_over (looks.Nexts table) (looks.Over found) leads ended = leads
not_over (looks.Over one) (looks.Over found) leads ended = leads
not_over here looks.Roots leads ended = ended
not_over here (looks.Probes trial) leads ended = ended
not_over here (looks.Nexts table) leads ended = ended

not_ended : (here : Looking) (tables : List Table) (loads : ℕ) → HasLooked here tables loads → HasEnded here → ⊥
not_ended here tables loads begun ended = ended
not_ended here tables loads (further from there before fewer looked leads) ended = not_over from there leads ended

-- a machine for a key is that of its call
key_of : {K V Q : Type 0} (x y : KeyCall K V Q) → ◌≡◌ {A = Machine K V Q} (kinds.Key x) (kinds.Key y) → x ≡ y
key_of x y e = cc e

-- it has made a load, and goes on or has answered
abbrev WentOn : Looking → Lookup × Stepped (Option ℕ) → Type 0
WentOn here (l, stepped.Goes) = LoadLeads here l.stands
WentOn here (l, stepped.Waits) = ⊥
WentOn here (l, stepped.Done found) = Unit {0}
WentOn here (l, stepped.Refused fault) = ⊥

module _ {K V : Type 0} (same : K → K → Bool) (hash : K → ℕ) (lawful : AreLawful same hash) (mode : ResizeMode) (root : ℕ) (keys : K → Bool) (code : ℕ) (class : IsClass same hash keys code)
    (m : Mem (Node K V)) (c : Chart K) (blocks : Blocks) (map : IsMap same hash mode root m c blocks) (l : Lookup) (m2 : Mem (Node K V)) (end : Lookup × Stepped (Option ℕ))
    (st : Steps Took value_at m (lookup_plan keys l) m2 end) where
  -- what it knows is of its keys, in a table of the root's
  pub fresh_on : LookupFacts same hash mode root keys code c blocks l → WentOn l.stands end
  fresh_on facts =
      let went = went_lookup_leads same hash lawful.lawful lawful.fits mode root keys code class m c blocks map l facts m2 end st in told end went.1 went.2
    where
      told : (x : Lookup × Stepped (Option ℕ)) → LookupOutcome same hash mode root keys code c blocks x → LookupLeads l.stands x → WentOn l.stands x
      told (next, stepped.Goes) known leads = leads
      told (next, stepped.Waits) known leads = known
      told (next, stepped.Done found) known leads = tt
      told (next, stepped.Refused fault) known leads = known

  -- or it is at a try in one that the root has left
  module _ (trial : Trial) (t j : ℕ) (tries : IsTrial c blocks trial code t j) where
    abbrev From : Looking
    From = looks.Probes trial

    limit : trial.table.limit ≡ c.limit t
    limit = ap (λ (x : Table). x.limit) tries.table.is

    beyond_on : (b : Bool) → WentOn From (if b then going l (looks.Nexts trial.table) else answered l None)
    beyond_on true = (refl, (let try = tries.try in let most = tries.most in let low = limit in omega (arith, try, most, low)))
    beyond_on false = tt

    passed_on : (next : Option Trial) → IsNext c blocks code t next j → WentOn From (passed l trial.table next)
    passed_on (Some other) next = (
      next.table.is ∙ sym tries.table.is,
      next.try ∙ ap (λ (x : ℕ). suc x) (sym tries.try),
      (let try = next.try in let most = next.most in let low = limit in omega (arith, try, most, low)),
    )
    passed_on None next = beyond_on (is_incremental l.mode)

    sees : SeesPlace hash keys code m c blocks trial t (c.place t (spot_at (c.len t) code j))
    sees = sees_place same hash lawful.fits mode root keys code class m c blocks map trial t j tries

    told_on : (word : ℕ) (f : Finding) → WentOn From (after_finding l trial word f)
    told_on word is.Free = tt
    told_on word is.Passed = passed_on (next_trial trial) (next_is c blocks code t trial j tries sees.sized (map.rule.common.lens t tries.table.made).1)
    told_on word is.Moved = beyond_on true
    told_on word is.Copying = tt
    told_on word is.There = tt

    pub late_on : l.hash ≡ code → l.stands ≡ looks.Probes trial → WentOn l.stands end
    late_on hash_is at_try =
        subst (λ (x : Looking). WentOn x end) (sym at_try)
        ((probes_tell hash keys code m c blocks l hash_is trial t (c.place t (spot_at (c.len t) code j)) sees (λ x. WentOn From x)
        (λ same_key tells. told_on (place_word hash c blocks (c.place t (spot_at (c.len t) code j)))
        (finding l.mode aims.Looks (place_word hash c blocks (c.place t (spot_at (c.len t) code j))) same_key)) m2 end
        (subst (λ (x : Looking). Steps Took value_at m (plan_at keys l x) m2 end) at_try st)).1)

module _ {K Q : Type 0} (V : Type 0) (same : K → K → Bool) (asks : Q → K → Bool) (batch_size roots : ℕ) (slot : ℕ → ℕ) where
  module _ (w : World (Node K V)) (maps : ℕ → Option (Standing K)) (calls : ℕ → ℕ → Option (UnderWay K V Q)) (makers : ℕ → Option (Beginning K)) (enders : ℕ → Option (Finishing K V))
      (all : EndingsTogether V same asks batch_size roots slot w maps calls makers enders) (m : ℕ) (s : Standing K) (here : maps m ≡ Some s) (i : ℕ)
      (u : CallOnKey K V Q) (has : calls m i ≡ Some (OnKey u)) (lookup : Lookup) (at_look : u.call.stands ≡ at.Looks lookup) (tables : List Table) (loads : ℕ)
      (has_looked : HasLooked lookup.stands tables loads) where
    stands : Together V same s.hash asks s.setting slot w s.chart s.blocks s.sights (calls m)
    stands = all.makings.standing.each m s here

    lawful : AreLawful same s.hash
    lawful = (all.makings.standing.fit m s here).0

    abbrev its : Setting
    its = in_slot s.setting (slot i)

    abbrev seen : Blocks
    seen = seen_by s.blocks (s.sights (slot i))

    map : IsMapIn same s.hash its w s.chart seen
    map = map_of V same s.hash asks s.setting slot w s.chart s.blocks s.sights (calls m) stands i (stands.inside i (OnKey u) has)

    -- what it is asked with, and what it knows by that
    record Asked : Type 0 where
      asked : Q
      asked_is : u.call.asked ≡ Some asked
      class : IsClass same s.hash (asks asked) u.call.hash
      on : (m2 : Mem (Node K V)) (end : Lookup × Stepped (Option ℕ)) → Steps Took value_at w.memory (lookup_plan (asks asked) lookup) m2 end → WentOn lookup.stands end

    fresh : CallFacts same s.hash asks w i its s.chart seen u.keys u.change u.call → Asked
    fresh facts =
        let f = subst (λ (x : Calling). CallingFacts same s.hash asks w i its s.chart seen u.keys u.change u.call x) at_look facts.point in
        let class = class_asked same s.hash its.mode its.root u.keys (asks f.3) f.5 u.call.hash facts.class in
        record {
          asked = f.3;
          asked_is = f.4;
          class = class;
          on = λ m2 end st. fresh_on same s.hash lawful its.mode its.root (asks f.3) u.call.hash class w.memory s.chart seen map.map lookup m2 end st
              (lookup_asked same s.hash its.mode its.root u.keys (asks f.3) f.5 u.call.hash s.chart seen lookup f.6);
        }

    late : SupersededCallFacts same s.hash asks w i its s.chart seen u.keys u.began u.call → Asked
    late facts =
        let f = subst (λ (x : Calling). SupersededCalling same s.hash asks w i its s.chart seen u.keys u.began u.call x) at_look facts.point in
        let class = class_asked same s.hash its.mode its.root u.keys (asks f.3) f.5 u.call.hash facts.class in
        record {
          asked = f.3;
          asked_is = f.4;
          class = class;
          on = λ m2 end st. by (asks f.3) class f.6.hash_is m2 end st lookup.stands refl f.6.point;
        }
      where
        by : (keys : K → Bool) → IsClass same s.hash keys u.call.hash → lookup.hash ≡ u.call.hash → (m2 : Mem (Node K V)) (end : Lookup × Stepped (Option ℕ))
            → Steps Took value_at w.memory (lookup_plan keys lookup) m2 end → (x : Looking) → lookup.stands ≡ x
            → SupersededLooking same s.hash u.keys u.call.hash s.chart seen u.began x → WentOn lookup.stands end
        by keys class hash_is m2 end st (looks.Probes trial) is point =
            late_on same s.hash lawful its.mode its.root keys u.call.hash class w.memory s.chart seen map.map lookup m2 end st trial point.0 point.1 point.2 hash_is is
        by keys class hash_is m2 end st looks.Roots is point = absurd point
        by keys class hash_is m2 end st (looks.Nexts table) is point = absurd point
        by keys class hash_is m2 end st (looks.Over found) is point = absurd point

    knows : Asked
    knows = by (stands.stand i (OnKey u) has)
      where
        by : IsAtPoint V same s.hash asks s.setting slot w s.chart seen i (OnKey u) → Asked
        by (inl (rests, known)) = elim known.facts as (λ _. Asked) [
          | inl facts ↦ fresh facts
          | inr facts ↦ late facts.1
        ]
        by (inr (row, is_row, known)) = absurd (subst IsRowOfCall at_look is_row)

    -- its plan is that of the lookup for what it is asked with
    load : IsLoad (machine_plan asks same s.hash (kinds.Key u.call))
    load =
        subst (λ (x : Calling). IsLoad (plan_as machines.called (call.plan_at asks same s.hash u.call x))) (sym at_look)
        (subst (λ (o : Option Q). IsLoad (plan_as machines.called (looks_for asks u.call lookup o))) (sym knows.asked_is)
        (by lookup.stands (not_ended lookup.stands tables loads has_looked)))
      where
        by : (x : Looking) → (HasEnded x → ⊥) → IsLoad (plan_as {B = Machine K V Q × Progress (Node K V)} machines.called (plan_as (looked u.call) (plan_at {V = V} (asks knows.asked) lookup x)))
        by looks.Roots going_on = (_, refl)
        by (looks.Probes trial) going_on = (_, refl)
        by (looks.Nexts table) going_on = (_, refl)
        by (looks.Over found) going_on = absurd (going_on tt)

    on_so : (x : Lookup × Stepped (Option ℕ)) → WentOn lookup.stands x → LooksOn V same asks batch_size roots slot lookup.stands tables loads (machines.called (looked u.call x))
    on_so (next, stepped.Goes) went =
        inr (refl, next.stands, (record u.call { stands = at.Looks next }, next, refl, refl, refl), further lookup.stands next.stands tables loads has_looked went)
    on_so (next, stepped.Waits) went = absurd went
    on_so (next, stepped.Done (Some found)) went = inl (ends.Key (answers.Found found), refl)
    on_so (next, stepped.Done None) went = inl (ends.Key answers.Absent, refl)
    on_so (next, stepped.Refused fault) went = absurd went

    steps_on : (m2 : Mem (Node K V)) (end : Machine K V Q × Progress (Node K V)) → Steps Took value_at w.memory (machine_plan asks same s.hash (kinds.Key u.call)) m2 end
        → LooksOn V same asks batch_size roots slot lookup.stands tables loads end
    steps_on m2 end st =
        let one = steps_back machines.called w.memory m2 (call_plan asks same s.hash u.call) end st in
        let at_look_now = subst (λ (x : Calling). Steps Took value_at w.memory (call.plan_at asks same s.hash u.call x) m2 one.0) at_look one.1 in
        let of_key = subst (λ (o : Option Q). Steps Took value_at w.memory (looks_for asks u.call lookup o) m2 one.0) knows.asked_is at_look_now in
        let two = steps_back (looked u.call) w.memory m2 (lookup_plan (asks knows.asked) lookup) one.0 of_key in
        subst (LooksOn V same asks batch_size roots slot lookup.stands tables loads) (sym (one.2 ∙ ap machines.called two.2)) (on_so two.0 (knows.on m2 two.0 two.1))

  pub lookups_step_by_loads : LookupsStepByLoads V same asks batch_size roots slot
  lookups_step_by_loads w maps calls makers enders all m s here i (OnKey u) has at_here (call, lookup, is, at_look, looking) tables loads has_looked =
      let its : u.call.stands ≡ at.Looks lookup = ap (λ (x : KeyCall K V Q). x.stands) (key_of u.call call is) ∙ at_look in
      let start = subst (λ (x : Looking). HasLooked x tables loads) (sym looking) has_looked in
      let short = lookups_are_short at_here tables loads has_looked in (
        load w maps calls makers enders all m s here i u has lookup its tables loads start,
        short.0,
        short.1,
        λ m2 end st. subst (λ (x : Looking). LooksOn V same asks batch_size roots slot x tables loads end) looking
            (steps_on w maps calls makers enders all m s here i u has lookup its tables loads start m2 end st),
      )
  lookups_step_by_loads w maps calls makers enders all m s here i (ForRoom r) has at_here (call, lookup, is, at_look, looking) tables loads has_looked = absurd (cc is)
  lookups_step_by_loads w maps calls makers enders all m s here i (Counting sum) has at_here (call, lookup, is, at_look, looking) tables loads has_looked = absurd (cc is)
  lookups_step_by_loads w maps calls makers enders all m s here i (OverAll o) has at_here (call, lookup, is, at_look, looking) tables loads has_looked = absurd (cc is)
