-- A call that is alone stays so with each of its steps that is no row of the collector, and at its end.
use Rattle.std.specs.Int.{IsPowerOfTwo}
use Rattle.std.specs.Prelude.{◌==◌, if◌then◌else◌}
use Rattle.std.proofs.Common.{◌≡◌, ◌≢◌, ℕ, ◌^◌, ◌<◌, Bool, true, false, refl, sym, subst, ◌∙◌, arith}
use Rattle.many_maps.specs.Given.SeizeWordsMem.{Mem, Took, value_at}
use Rattle.many_maps.specs.Given.SeizeWordsPlan.{Steps}
use Rattle.many_maps.proofs.Given.SeizeRuleRows.Leaving.{steps_back}
use Rattle.many_maps.specs.Given.SeizeWorld.{World}
use Rattle.many_maps.specs.Given.RawCall.{helped, helps, copied, copies, plan_at, call_plan}
use Rattle.many_maps.specs.Given.RawCallPoints.{ending, over, going}
use Rattle.many_maps.specs.Given.TablesChunks.{is_incremental}
use Rattle.many_maps.specs.Given.ResizeCopier.{copier_plan}
use Rattle.many_maps.specs.Given.RawDeclared.machines.answer.End.{End}
use Rattle.many_maps.specs.Given.RawDeclared.machines.answer.End.TheVariants as ends
use Rattle.many_maps.specs.Given.RawDeclared.machines.answer.Called.{Called}
use Rattle.many_maps.specs.Given.RawDeclared.machines.call.KeyCall.{KeyCall}
use Rattle.many_maps.specs.Given.RawDeclared.machines.call.Calling.{Calling}
use Rattle.many_maps.specs.Given.RawDeclared.machines.call.Calling.TheVariants as at
use Rattle.many_maps.specs.Given.ResizeDeclared.copier.Copier.{Copier}
use Rattle.many_maps.specs.Given.TablesDeclared.node.Node.{Node}
use Rattle.many_maps.specs.Given.ResizeDeclared.yielding.Yielding.{Yielding}
use Rattle.many_maps.specs.Given.ResizeDeclared.yielding.Yielding.TheVariants as outcome
use Rattle.many_maps.specs.Given.TablesDeclared.setting.Setting.{Setting}
use Rattle.many_maps.specs.Given.TablesDeclared.table.Table.{Table}
use Rattle.many_maps.specs.Given.RawDeclared.machines.answer.Called.TheVariants as called
use Rattle.many_maps.specs.Given.RuleChart.{Chart}
use Rattle.many_maps.specs.Given.RuleRule.{IsLawful}
use Rattle.many_maps.specs.Given.RuleWords.{Blocks}
use Rattle.many_maps.specs.Given.RuleMaps.{spot_of}
use Rattle.many_maps.specs.Given.RuleInWorld.{IsMapIn, StepSpec, SparesPairs}
use Rattle.many_maps.specs.Given.PointsFactsAloneBlocking.{AloneBlocking, LeadsAlone}
use Rattle.many_maps.specs.Given.PointsMeasures.{OthersIdle}
use Rattle.many_maps.specs.Given.PointsFactsCalls.{Unchanged, Change, IsCopying, Seeks, CallingFacts, CallFacts}
use Rattle.many_maps.specs.Given.PointsTold.{CopierOutcome, IsRowOfCall, CallOutcome}
use Rattle.many_maps.specs.Given.PointsToldMoves.{MovedAt}
use Rattle.many_maps.proofs.Given.PointsCopiers.CopiersWhole.{whole_stays}
use Rattle.many_maps.proofs.Given.PointsCopiers.CopierWent.{CopierTells}
use Rattle.many_maps.proofs.Given.PointsCalls.Copies.{helped_told, copied_told}
use Rattle.many_maps.proofs.Given.PointsCalls.Points.{went_call}
use Rattle.many_maps.proofs.Given.PointsCopiers.Points.{went_copier_moved}
use Rattle.many_maps.proofs.Given.PointsBlocking.Points.{went_copier_blocking_alone}
use Rattle.many_maps.proofs.Given.RuleWorld.WentTold.{went_as}
use Rattle.owner_facts.specs.Alone.FactsAlone.{FactsAlone}
use Rattle.owner_facts.specs.Alone.FactsAloneCalls.{TablesAlone, AloneAtPoint, IsLone, AloneBetweenCalls, LeadsLone}
use Rattle.owner_facts.proofs.Alone.Lone.Copier.{helper_goes}
use Rattle.owner_facts.proofs.Alone.Lone.Calls.{call_goes}
use Rattle.owner_facts.proofs.Alone.Lone.Keeps.{kept_at}
use Rattle.owner_facts.proofs.Alone.Lone.Beside.{beside_idle, beside_tables, tables_of, fresh_alone}
use Rattle.owner_facts.proofs.Alone.Lone.Awaits.{IsFresh, Proceeds}
use Rattle.owner_facts.proofs.Alone.Lone.QuietPoints.{IsQuiet, quiet_alone}

-- whether it copies
data CopyKind (stands : Calling) : Type 0 where
  Helping : (copier : Copier) (goal : Table) → stands ≡ at.Helps copier goal → CopyKind stands
  CopyingAll : (copier : Copier) → stands ≡ at.Copies copier → CopyKind stands
  Beside : (IsCopying stands → ⊥) → CopyKind stands

copy_kind : (stands : Calling) → CopyKind stands
copy_kind (at.Helps copier goal) = Helping copier goal refl
copy_kind (at.Copies copier) = CopyingAll copier refl
copy_kind at.Makes = Beside (λ h. h)
copy_kind (at.Looks lookup) = Beside (λ h. h)
copy_kind at.Roots = Beside (λ h. h)
copy_kind at.Probes = Beside (λ h. h)
copy_kind (at.Tries word new) = Beside (λ h. h)
copy_kind (at.Counts removed) = Beside (λ h. h)
copy_kind at.Nexts = Beside (λ h. h)
copy_kind (at.Firsts making) = Beside (λ h. h)
copy_kind (at.Allocs making) = Beside (λ h. h)
copy_kind (at.Disposes dispose answer) = Beside (λ h. h)
copy_kind (at.Asks asking) = Beside (λ h. h)
copy_kind (at.Drops end) = Beside (λ h. h)
copy_kind (at.Over end) = Beside (λ h. h)

-- where a call goes on that is alone
module _ {K V Q : Type 0} (b : Bool) (caller : ℕ) (c : Chart K) (p : KeyCall K V Q) where
  abbrev Leads : KeyCall K V Q × Called (Node K V) → Type 0
  Leads end = LeadsLone b caller c end

  ending_lone : (end : End) → AloneBetweenCalls b caller c → Leads (ending p end)
  ending_lone end rests = by (p.own == 0) end
    where
      by : (x : Bool) (end : End) → Leads (if x then over p end else going p (at.Drops end))
      by true (ends.Answered answer) = rests
      by true (ends.Refused fault) = rests
      by false end = record { idle = rests.idle; point = rests.tables }

  helped_lone : b ≡ true → (goal : Table) (end : Copier × Yielding (Node K V) Table) → end.1 ≢ outcome.Waits
      → FactsAlone c caller end.0 × (end.1 ≢ outcome.Goes → IsQuiet end.0.stands) → Leads (helped p goal end)
  helped_lone bits goal (next, outcome.Goes) none alone = record { idle = alone.0.idle; point = alone.0.point }
  helped_lone bits goal (next, outcome.Waits) none alone = absurd (none refl)
  helped_lone bits goal (next, outcome.Gave value) none alone = record { idle = alone.0.idle; point = alone.0.point }
  helped_lone bits goal (next, outcome.Done table) none alone = record {
    idle = alone.0.idle;
    point = subst (λ (x : Bool). TablesAlone x c) (sym bits) (quiet_alone c next next.stands (alone.1 (λ e. cc e)) alone.0.point);
  }
  helped_lone bits goal (next, outcome.Refused fault) none alone =
      ending_lone (ends.Refused fault)
      (record { idle = alone.0.idle; tables = subst (λ (x : Bool). TablesAlone x c) (sym bits) (quiet_alone c next next.stands (alone.1 (λ e. cc e)) alone.0.point) })

  copied_lone : b ≡ false → (end : Copier × Yielding (Node K V) Table) → LeadsAlone c caller end → Leads (copied p end)
  copied_lone blocking (next, outcome.Goes) alone = record { idle = alone.0; point = alone.1 }
  copied_lone blocking (next, outcome.Waits) alone = absurd alone
  copied_lone blocking (next, outcome.Gave value) alone = absurd alone
  copied_lone blocking (next, outcome.Done table) alone = record { idle = alone.0; point = subst (λ (x : Bool). TablesAlone x c) (sym blocking) (alone.1, alone.2) }
  copied_lone blocking (next, outcome.Refused fault) alone =
      ending_lone (ends.Refused fault) (record { idle = alone.0; tables = subst (λ (x : Bool). TablesAlone x c) (sym blocking) (alone.1, alone.2) })

  -- where it copied nothing, and may begin to
  fresh_leads : (setting : Setting) → b ≡ is_incremental setting.mode → OthersIdle caller c → TablesAlone b c → (end : KeyCall K V Q × Called (Node K V)) → Proceeds end
      → IsFresh setting end.0.stands → Leads end
  fresh_leads setting mode idle tables (q, progress) none fresh = by progress none
    where
      lone : IsLone b caller c q.stands
      lone = record {
        idle = idle;
        point = subst (λ (x : Bool). AloneAtPoint x c q.stands) (sym mode) (fresh_alone c setting (subst (λ (x : Bool). TablesAlone x c) mode tables) q.stands fresh);
      }

      by : (progress : Called (Node K V)) → Proceeds (q, progress) → Leads (q, progress)
      by called.Goes none = lone
      by called.Waits none = absurd none
      by (called.Asks asked) none = (lone, none.0, none.1)
      by (called.Gave value) none = lone
      by (called.Unstored value) none = (lone, none.0, none.1)
      by (called.Done answer) none = record { idle = idle; tables = tables }
      by (called.Refused fault) none = record { idle = idle; tables = tables }

module _ {K V Q : Type 0} (same : K → K → Bool) (hash : K → ℕ) (asks : Q → K → Bool) (lawful : IsLawful same (spot_of hash)) (fits : (k : K) → hash k < 2 ^ 64)
    (setting : Setting) (initial_is : IsPowerOfTwo setting.initial) (w : World (Node K V)) (caller : ℕ) (c : Chart K) (blocks : Blocks) (keys : K → Bool)
    (map : IsMapIn same hash setting w c blocks) (change : Change) (p : KeyCall K V Q) (f : CallFacts same hash asks w caller setting c blocks keys change p) (m2 : Mem (Node K V)) where
  abbrev Lone : Chart K → Calling → Type 0
  Lone = IsLone {K = K} (is_incremental setting.mode) caller

  -- what a step tells: what is told of each, and that one that is alone stays so
  abbrev pub LoneTold : Calling → KeyCall K V Q × Called (Node K V) → World (Node K V) → Chart K → Blocks → Type 0
  LoneTold stands end w2 c2 blocks2 =
      CallOutcome same hash asks caller setting keys c change p w2 c2 blocks2 end.0 end.1 × (Lone c stands → LeadsLone (is_incremental setting.mode) caller c2 end)

  abbrev pub LoneWent : Calling → KeyCall K V Q × Called (Node K V) → Type 0
  LoneWent stands end = StepSpec same hash setting caller w c blocks m2 (LoneTold stands end)

  module _ (end : KeyCall K V Q × Called (Node K V)) where
    -- beside its copying
    beside_lone : (IsCopying p.stands → ⊥) → (IsRowOfCall p.stands → ⊥) → Steps Took value_at w.memory (call_plan asks same hash p) m2 end → LoneWent p.stands end
    beside_lone other none s =
        went_as same hash setting caller w c blocks m2
        (λ w2 c2 blocks2. CallOutcome same hash asks caller setting keys c change p w2 c2 blocks2 end.0 end.1)
        (LoneTold p.stands end)
        (λ w2 c2 blocks2 map2 moved same_blocks told. (
          told,
          λ lone.
              (let goes = call_goes same hash asks lawful fits setting initial_is w caller c blocks keys map lone.idle change p f m2 end none lone.point s in
              fresh_leads (is_incremental setting.mode) caller c2 p setting refl (beside_idle same hash caller c setting.mode c2 (told.beside other) lone.idle)
              (beside_tables same hash caller c setting.mode c2 map.map.rule map2.map.rule (told.beside other) (tables_of (is_incremental setting.mode) c p.stands other lone.point))
              end goes.0 (subst (λ (x : Setting). IsFresh x end.0.stands) f.setting_is (goes.1 other))),
        ))
        (went_call same hash asks lawful fits setting initial_is w caller c blocks keys map change p f m2 end none s)

    -- it helps
    helps_lone : (copier : Copier) (goal : Table) → p.stands ≡ at.Helps copier goal → change ≡ Unchanged → CallingFacts same hash asks w caller setting c blocks keys Unchanged p (at.Helps copier goal)
        → (IsRowOfCall (at.Helps copier goal) → ⊥) → Steps Took value_at w.memory (helps hash p copier goal) m2 end → LoneWent (at.Helps copier goal) end
    helps_lone copier goal here unchanged (own, bits, part, t, entered, shut, facts) none s =
        let d = steps_back (helped p goal) w.memory m2 (copier_plan hash copier) end s in
        subst (LoneWent (at.Helps copier goal)) (sym d.2)
        (went_as same hash setting caller w c blocks m2
        (λ w2 c2 blocks2. SparesPairs w w2 × (c2.current ≡ c.current) × CopierOutcome w2 caller setting c2 blocks2 same hash d.0 × MovedAt hash caller c copier copier.stands d.0 c2)
        (LoneTold (at.Helps copier goal) (helped p goal d.0))
        (λ w2 c2 blocks2 map2 moved same_blocks told. (
          helped_told same hash asks caller setting keys lawful w c blocks map change p f unchanged own copier (subst IsCopying (sym here) tt) bits goal t (let made = entered.made in omega (arith, made)) entered shut
              w2 c2 blocks2 map2 moved same_blocks d.0 (told.0, told.1, whole_stays hash copier w.memory m2 d.0 d.1 ∙ part, told.2),
          λ lone. helped_lone (is_incremental setting.mode) caller c2 p bits goal d.0
              (helper_goes same hash setting bits initial_is lawful fits w caller c blocks map copier m2 d.0 facts none d.1 part)
              (kept_at same hash setting bits initial_is w caller c blocks map copier facts.setting_is lone.idle m2 d.0 w2 c2 blocks2 map2 copier.stands refl facts.point none d.1 lone.point told.2 told.3),
        ))
        (went_copier_moved same hash setting bits initial_is lawful fits w caller c blocks map copier facts none m2 d.0 d.1))

    -- it copies a whole table
    copies_lone : (copier : Copier) → p.stands ≡ at.Copies copier → change ≡ Unchanged → CallingFacts same hash asks w caller setting c blocks keys Unchanged p (at.Copies copier)
        → (IsRowOfCall (at.Copies copier) → ⊥) → Steps Took value_at w.memory (copies hash p copier) m2 end → LoneWent (at.Copies copier) end
    copies_lone copier here unchanged (own, blocking, facts) none s =
        let d = steps_back (copied p) w.memory m2 (copier_plan hash copier) end s in
        subst (LoneWent (at.Copies copier)) (sym d.2)
        (went_as same hash setting caller w c blocks m2
        (CopierTells same hash caller setting w c blocks (AloneBlocking c copier copier.stands) d.0)
        (LoneTold (at.Copies copier) (copied p d.0))
        (λ w2 c2 blocks2 map2 moved same_blocks told. (
          copied_told same hash asks caller setting keys lawful w c blocks map change p f unchanged own copier (subst IsCopying (sym here) tt) blocking w2 c2 blocks2 map2 d.0 told.0,
          λ lone. copied_lone (is_incremental setting.mode) caller c2 p blocking d.0 (told.1 (lone.idle, lone.point)),
        ))
        (went_copier_blocking_alone same hash fits lawful caller setting blocking initial_is w c blocks map copier facts none m2 d.0 d.1))

    pub went_call_lone : (IsRowOfCall p.stands → ⊥) → Steps Took value_at w.memory (call_plan asks same hash p) m2 end → LoneWent p.stands end
    went_call_lone none s = by (copy_kind p.stands)
      where
        seeks : (stands : Calling) → p.stands ≡ stands → CallingFacts same hash asks w caller setting c blocks keys change p stands
        seeks stands here = subst (CallingFacts same hash asks w caller setting c blocks keys change p) here f.point

        by : CopyKind p.stands → LoneWent p.stands end
        by (Beside other) = beside_lone other none s
        by (Helping copier goal here) =
            let e = f.unchanged (subst (λ (x : Calling). Seeks same hash asks w caller setting c blocks keys change x) (sym here) tt) in
            subst (λ (x : Calling). LoneWent x end) (sym here)
            (helps_lone copier goal here e (subst (λ (x : Change). CallingFacts same hash asks w caller setting c blocks keys x p (at.Helps copier goal)) e (seeks (at.Helps copier goal) here))
            (subst (λ (x : Calling). IsRowOfCall x → ⊥) here none) (subst (λ (x : Calling). Steps Took value_at w.memory (plan_at asks same hash p x) m2 end) here s))
        by (CopyingAll copier here) =
            let e = f.unchanged (subst (λ (x : Calling). Seeks same hash asks w caller setting c blocks keys change x) (sym here) tt) in
            subst (λ (x : Calling). LoneWent x end) (sym here)
            (copies_lone copier here e (subst (λ (x : Change). CallingFacts same hash asks w caller setting c blocks keys x p (at.Copies copier)) e (seeks (at.Copies copier) here))
            (subst (λ (x : Calling). IsRowOfCall x → ⊥) here none) (subst (λ (x : Calling). Steps Took value_at w.memory (plan_at asks same hash p x) m2 end) here s))
