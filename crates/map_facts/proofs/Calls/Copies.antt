-- A call helps a resize, or copies a whole table.
use Rattle.std.specs.Prelude.{◌≡◌, ℕ, suc, ◌<◌, Bool, true, false, cond}
use Rattle.std.proofs.Common.{refl, sym, subst}
use Rattle.map_rule.specs.Given.SeizeWordsMem.{Mem, value_at, Took}
use Rattle.map_rule.specs.Given.SeizeWordsPlan.{Steps}
use Rattle.map_rule.proofs.Given.SeizeRuleRows.Leaving.{steps_back}
use Rattle.papaya_raw.specs.Given.SeizeWorld.{World}
use Rattle.papaya_raw.specs.Given.TablesChunks.{is_incremental}
use Rattle.papaya_raw.specs.Call.{helped, helps, copied, copies}
use Rattle.map_rule.specs.Given.ResizeCopier.{copier_plan}
use Rattle.papaya_raw.specs.Given.TablesDeclared.node.Node.{Node}
use Rattle.map_rule.specs.Given.ResizeDeclared.yielding.Yielding.{Yielding}
use Rattle.map_rule.specs.Given.ResizeDeclared.yielding.Yielding.TheVariants as outcome
use Rattle.papaya_raw.specs.Given.TablesDeclared.setting.Setting.{Setting}
use Rattle.papaya_raw.specs.Given.TablesDeclared.table.Table.{Table}
use Rattle.papaya_raw.specs.declared.machines.answer.Called.{Called}
use Rattle.papaya_raw.specs.declared.machines.call.KeyCall.{KeyCall}
use Rattle.map_rule.specs.Given.ResizeDeclared.copier.Copier.{Copier}
use Rattle.map_rule.specs.Chart.{Chart}
use Rattle.map_rule.specs.Rule.{IsLawful, ShutBefore}
use Rattle.map_rule.specs.Lasts.{Lasts}
use Rattle.map_rule.specs.Words.{Blocks}
use Rattle.map_rule.specs.Maps.{spot_of, IsTable, NoneBefore}
use Rattle.map_rule.specs.InWorld.{IsMapIn, Moved, SameBlocks, StepSpec, SparesPairs}
use Rattle.map_facts.specs.FactsCalls.{IsCopying, Change, Unchanged, HasIts, ShutUpTo, CallFacts}
use Rattle.map_facts.specs.Told.{CopierOutcome, CopierOutcomeBlocking, CallOutcome}
use Rattle.map_facts.specs.FactsIdle.{IsIdle}
use Rattle.map_facts.proofs.MovedLasts.{moved_lasts, idle_in}
use Rattle.map_rule.proofs.Keys.TriesLast.{table_lasts, shut_before_lasts}
use Rattle.map_rule.proofs.Keys.ClassesBeyond.{none_behind}
use Rattle.map_facts.proofs.Calls.CallsOn.{Seeking, Comes, told_unchanged, refuses}
use Rattle.map_facts.proofs.Calls.CallsTables.{enters, enters_root}
use Rattle.map_facts.proofs.Calls.CallsWithin.{its_last}
use Rattle.map_facts.proofs.Calls.Makes.{CallWent, by_end}
use Rattle.map_rule.proofs.World.WentTold.{went_as}

module _ {K V Q : Type 0} (same : K → K → Bool) (hash : K → ℕ) (asks : Q → K → Bool) (caller : ℕ) (setting : Setting) (keys : K → Bool)
    (lawful : IsLawful same (spot_of hash)) (w : World (Node K V)) (c : Chart K) (blocks : Blocks) (map : IsMapIn same hash setting w c blocks)
    (change : Change) (p : KeyCall K V Q) (f : CallFacts same hash asks w caller setting c blocks keys change p) (unchanged : change ≡ Unchanged)
    (own : HasIts same hash asks w caller setting c blocks keys Unchanged p) (copier : Copier) (copying : IsCopying p.stands) where
  module _ (w2 : World (Node K V)) (c2 : Chart K) (blocks2 : Blocks) (map2 : IsMapIn same hash setting w2 c2 blocks2) (spares : SparesPairs w w2) where
    seeks : IsIdle same hash w2 caller setting c2 blocks2 → Seeking same hash asks caller setting keys w2 c2 blocks2 p
    seeks idle = record {
      setting_is = f.setting_is;
      may = f.may;
      code = f.code;
      class = f.class;
      idle = idle;
      own = its_last same hash asks caller setting keys w w2 c c2 blocks blocks2 spares p own;
    }

    own2 : HasIts same hash asks w2 caller setting c2 blocks2 keys Unchanged p
    own2 = its_last same hash asks caller setting keys w w2 c c2 blocks blocks2 spares p own

    helped_comes : (bits : is_incremental setting.mode ≡ true) (goal : Table) (t : ℕ) → IsTable c2 blocks2 goal (suc t) → ShutUpTo same hash asks w2 caller setting c2 blocks2 keys Unchanged t
        → (end : Copier × Yielding (Node K V) Table) → end.0.whole ≡ false → CopierOutcome w2 caller setting c2 blocks2 same hash end
        → Comes same hash asks caller setting keys w2 c2 blocks2 (helped p goal end)
    helped_comes bits goal t entered shut (next, outcome.Goes) part told = (
      record {
        setting_is = f.setting_is;
        may = f.may;
        code = f.code;
        class = f.class;
        unchanged = λ h. refl;
        idle = λ h. absurd (h tt);
        point = (own2, bits, part, t, entered, shut, told);
      },
      λ answer h. absurd h,
    )
    helped_comes bits goal t entered shut (next, outcome.Waits) part told = absurd (cc (part, told.0))
    helped_comes bits goal t entered shut (next, outcome.Gave value) part told = absurd told
    helped_comes bits goal t entered shut (next, outcome.Done table) part told =
        enters same hash asks caller setting keys lawful w2 c2 blocks2 map2.map p (seeks (idle_in same hash w2 caller setting c2 blocks2 true bits told)) p.helped goal (suc t) entered
        (subst (λ (x : Bool). NoneBefore same hash x c2 keys (suc t) 0) (sym bits)
        (none_behind same hash lawful keys true c2 (suc t) refl
        (subst (λ (x : Bool). cond x ((k : K) → keys k ≡ true → ShutBefore same (spot_of hash) true c2 (suc t) k) (t ≡ c2.first)) bits shut))) (λ e. absurd (cc (bits, e)))
    helped_comes bits goal t entered shut (next, outcome.Refused fault) part told = refuses same hash asks caller setting keys w2 c2 blocks2 p (seeks (idle_in same hash w2 caller setting c2 blocks2 true bits told)) fault

    copied_comes : is_incremental setting.mode ≡ false → (end : Copier × Yielding (Node K V) Table) → CopierOutcomeBlocking w2 caller setting c2 blocks2 same hash end
        → Comes same hash asks caller setting keys w2 c2 blocks2 (copied p end)
    copied_comes alone (next, outcome.Goes) told = (
      record { setting_is = f.setting_is; may = f.may; code = f.code; class = f.class; unchanged = λ h. refl; idle = λ h. absurd (h tt); point = (own2, alone, told) },
      λ answer h. absurd h,
    )
    copied_comes alone (next, outcome.Waits) told = (
      record { setting_is = f.setting_is; may = f.may; code = f.code; class = f.class; unchanged = λ h. refl; idle = λ h. absurd (h tt); point = (own2, alone, told) },
      λ answer h. absurd h,
    )
    copied_comes alone (next, outcome.Gave value) told = absurd told
    copied_comes alone (next, outcome.Done table) told =
        enters_root same hash asks caller setting keys lawful w2 c2 blocks2 map2.map p (seeks (idle_in same hash w2 caller setting c2 blocks2 false alone told.1)) table told.0
    copied_comes alone (next, outcome.Refused fault) told = refuses same hash asks caller setting keys w2 c2 blocks2 p (seeks (idle_in same hash w2 caller setting c2 blocks2 false alone told)) fault

  module _ (bits : is_incremental setting.mode ≡ true) (goal : Table) (t : ℕ) (made : t < c.past) (entered : IsTable c blocks goal (suc t))
      (shut : ShutUpTo same hash asks w caller setting c blocks keys Unchanged t) where
    shut_lasts : (b : Bool) → b ≡ true → (c2 : Chart K) → Lasts same (spot_of hash) b c c2 → cond b ((k : K) → keys k ≡ true → ShutBefore same (spot_of hash) true c (suc t) k) (t ≡ c.first)
        → cond b ((k : K) → keys k ≡ true → ShutBefore same (spot_of hash) true c2 (suc t) k) (t ≡ c2.first)
    shut_lasts true e c2 lasts h = λ k asked. shut_before_lasts same hash true c c2 lasts refl (suc t) made k (h k asked)
    shut_lasts false e c2 lasts h = absurd (cc)

    -- what a step of its help tells of the call
    pub helped_told : (w2 : World (Node K V)) (c2 : Chart K) (blocks2 : Blocks) → IsMapIn same hash setting w2 c2 blocks2 → Moved same hash setting.mode caller c c2 → SameBlocks c blocks blocks2
        → (end : Copier × Yielding (Node K V) Table)
        → SparesPairs w w2 × (c2.current ≡ c.current) × (end.0.whole ≡ false) × CopierOutcome w2 caller setting c2 blocks2 same hash end
        → CallOutcome same hash asks caller setting keys c change p w2 c2 blocks2 (helped p goal end).0 (helped p goal end).1
    helped_told w2 c2 blocks2 map2 moved same_blocks end told =
        told_unchanged same hash asks caller setting keys w2 c2 blocks2 c change p (helped p goal end) unchanged told.1 (λ other. absurd (other copying))
        (helped_comes w2 c2 blocks2 map2 told.0 bits goal t
        (table_lasts same hash (is_incremental setting.mode) c c2 (moved_lasts same hash setting lawful w c c2 blocks map moved) blocks blocks2 same_blocks goal (suc t) entered)
        (shut_lasts (is_incremental setting.mode) bits c2 (moved_lasts same hash setting lawful w c c2 blocks map moved) shut)
        end told.2 told.3)

  -- and of its copying
  pub copied_told : is_incremental setting.mode ≡ false → (w2 : World (Node K V)) (c2 : Chart K) (blocks2 : Blocks) → IsMapIn same hash setting w2 c2 blocks2
      → (end : Copier × Yielding (Node K V) Table) → SparesPairs w w2 × (c2.current ≡ c.current) × CopierOutcomeBlocking w2 caller setting c2 blocks2 same hash end
      → CallOutcome same hash asks caller setting keys c change p w2 c2 blocks2 (copied p end).0 (copied p end).1
  copied_told alone w2 c2 blocks2 map2 end told =
      told_unchanged same hash asks caller setting keys w2 c2 blocks2 c change p (copied p end) unchanged told.1 (λ other. absurd (other copying)) (copied_comes w2 c2 blocks2 map2 told.0 alone end told.2)

  module _ (m2 : Mem (Node K V)) (end : KeyCall K V Q × Called (Node K V)) where
    -- a copier is told whether it copies a whole table, and stays so
    pub went_helps : (bits : is_incremental setting.mode ≡ true) (goal : Table) (t : ℕ) → t < c.past → IsTable c blocks goal (suc t) → ShutUpTo same hash asks w caller setting c blocks keys Unchanged t
        → ((m2 : Mem (Node K V)) (end : Copier × Yielding (Node K V) Table) → Steps Took value_at w.memory (copier_plan hash copier) m2 end
        → StepSpec same hash setting caller w c blocks m2 (λ w2 c2 blocks2. SparesPairs w w2 × (c2.current ≡ c.current) × (end.0.whole ≡ false) × CopierOutcome w2 caller setting c2 blocks2 same hash end))
        → Steps Took value_at w.memory (helps hash p copier goal) m2 end → CallWent same hash asks caller setting keys w c blocks map change p f m2 end
    went_helps bits goal t made entered shut inner steps =
        let d = steps_back (helped p goal) w.memory m2 (copier_plan hash copier) end steps in
        by_end same hash asks caller setting keys w c blocks map change p f m2 end (helped p goal d.0) d.2
        (went_as same hash setting caller w c blocks m2
        (λ w2 c2 blocks2. SparesPairs w w2 × (c2.current ≡ c.current) × (d.0.0.whole ≡ false) × CopierOutcome w2 caller setting c2 blocks2 same hash d.0)
        (λ w2 c2 blocks2. CallOutcome same hash asks caller setting keys c change p w2 c2 blocks2 (helped p goal d.0).0 (helped p goal d.0).1)
        (λ w2 c2 blocks2 map2 moved same_blocks told. helped_told bits goal t made entered shut w2 c2 blocks2 map2 moved same_blocks d.0 told)
        (inner m2 d.0 d.1))

    pub went_copies : is_incremental setting.mode ≡ false
        → ((m2 : Mem (Node K V)) (end : Copier × Yielding (Node K V) Table) → Steps Took value_at w.memory (copier_plan hash copier) m2 end
        → StepSpec same hash setting caller w c blocks m2 (λ w2 c2 blocks2. SparesPairs w w2 × (c2.current ≡ c.current) × CopierOutcomeBlocking w2 caller setting c2 blocks2 same hash end))
        → Steps Took value_at w.memory (copies hash p copier) m2 end → CallWent same hash asks caller setting keys w c blocks map change p f m2 end
    went_copies alone inner steps =
        let d = steps_back (copied p) w.memory m2 (copier_plan hash copier) end steps in
        by_end same hash asks caller setting keys w c blocks map change p f m2 end (copied p d.0) d.2
        (went_as same hash setting caller w c blocks m2
        (λ w2 c2 blocks2. SparesPairs w w2 × (c2.current ≡ c.current) × CopierOutcomeBlocking w2 caller setting c2 blocks2 same hash d.0)
        (λ w2 c2 blocks2. CallOutcome same hash asks caller setting keys c change p w2 c2 blocks2 (copied p d.0).0 (copied p d.0).1)
        (λ w2 c2 blocks2 map2 moved same_blocks told. copied_told alone w2 c2 blocks2 map2 d.0 told)
        (inner m2 d.0 d.1))
