-- A call makes a table: the first one, or the one behind the table that it has tried.
use Rattle.std.specs.Prelude.{◌≡◌, ◌≢◌, ℕ, suc, ◌≤◌, Bool, true, false, cond}
use Rattle.std.proofs.Common.{inl, inr, refl, sym, subst, ◌∙◌, arith}
use Rattle.map_rule.specs.Given.SeizeWordsDeclared.at.At.TheVariants.{Root, Word}
use Rattle.map_rule.specs.Given.SeizeWordsMem.{Mem, value_at, Took}
use Rattle.map_rule.specs.Given.SeizeWordsPlan.{Steps}
use Rattle.map_rule.proofs.Given.SeizeRuleRows.Leaving.{steps_back}
use Rattle.papaya_raw.specs.Given.SeizeWorld.{World}
use Rattle.papaya_raw.specs.Given.SeizeDeclared.advance.Advance.{Advance}
use Rattle.papaya_raw.specs.Given.SeizeDeclared.advance.Advance.TheVariants as progress
use Rattle.papaya_raw.specs.Given.TablesDeclared.resize_mode.ResizeMode.{ResizeMode}
use Rattle.papaya_raw.specs.Given.TablesChunks.{is_incremental}
use Rattle.papaya_raw.specs.Call.{first_made, firsts, next_made, allocs}
use Rattle.map_rule.specs.Given.ResizeNewTable.{new_table_plan}
use Rattle.papaya_raw.specs.Given.TablesDeclared.node.Node.{Node}
use Rattle.papaya_raw.specs.Given.TablesDeclared.setting.Setting.{Setting}
use Rattle.papaya_raw.specs.Given.TablesDeclared.table.Table.{Table}
use Rattle.papaya_raw.specs.Given.TablesDeclared.table_words.TheConstants.{NEXT}
use Rattle.papaya_raw.specs.declared.machines.answer.Called.{Called}
use Rattle.papaya_raw.specs.declared.machines.answer.Missing.TheVariants as missing
use Rattle.papaya_raw.specs.declared.machines.call.KeyCall.{KeyCall}
use Rattle.papaya_raw.specs.declared.machines.call.Calling.TheVariants as at
use Rattle.map_rule.specs.Given.ResizeDeclared.new_table.NewTable.{NewTable}
use Rattle.map_rule.specs.Chart.{Chart}
use Rattle.map_rule.specs.Rule.{IsLawful, ShutBefore, Rule}
use Rattle.map_rule.specs.Lasts.{Lasts}
use Rattle.map_rule.specs.Words.{Blocks}
use Rattle.map_rule.specs.Maps.{spot_of, IsTable, NoneBefore}
use Rattle.map_rule.specs.InWorld.{IsMapIn, Moved, SameBlocks, StepSpec, SparesPairs}
use Rattle.map_facts.specs.FactsCalls.{Change, Unchanged, ShutUpTo, CallFacts}
use Rattle.map_rule.specs.Moves.{Links}
use Rattle.map_facts.specs.Told.{NewTableOutcome, OnlyLinks, MovedBesideCopying, CallOutcome}
use Rattle.map_facts.proofs.MovedLasts.{moved_lasts, links_same, idle_linked}
use Rattle.map_rule.proofs.Moves.Shuts.{past_shut}
use Rattle.map_rule.proofs.Keys.TriesLast.{table_lasts, shut_before_lasts}
use Rattle.map_facts.proofs.Calls.CallsOn.{Seeking, Comes, told_unchanged, goes, refuses}
use Rattle.map_facts.proofs.Calls.CallsTables.{enters, goes_on}
use Rattle.map_facts.proofs.Calls.CallsWithin.{seeking_lasts}
use Rattle.map_facts.proofs.Calls.Makes.{CallWent, by_end}
use Rattle.map_rule.proofs.World.WentTold.{went_as}

-- a table may be linked beside a copying
pub links_beside : {K : Type 0} (hash : K → ℕ) (mode : ResizeMode) (c c2 : Chart K) → OnlyLinks hash mode c c2 → MovedBesideCopying hash mode c c2
links_beside hash mode c c2 (inl same) = inl same
links_beside hash mode c c2 (inr (len, limit, is)) = inr (Links len limit, tt, is)

module _ {K V Q : Type 0} (same : K → K → Bool) (hash : K → ℕ) (asks : Q → K → Bool) (caller : ℕ) (setting : Setting) (keys : K → Bool)
    (lawful : IsLawful same (spot_of hash)) (w : World (Node K V)) (c : Chart K) (blocks : Blocks) (map : IsMapIn same hash setting w c blocks) where
  module _ (p : KeyCall K V Q) (s : Seeking same hash asks caller setting keys w c blocks p) (making : NewTable) where
    module _ (w2 : World (Node K V)) (c2 : Chart K) (blocks2 : Blocks) (map2 : IsMapIn same hash setting w2 c2 blocks2) (spares : SparesPairs w w2) (links : OnlyLinks hash setting.mode c c2) where
      seeks : Seeking same hash asks caller setting keys w2 c2 blocks2 p
      seeks = seeking_lasts same hash asks caller setting keys w w2 c c2 blocks blocks2 spares p (idle_linked same hash caller setting lawful w c blocks map w2 c2 blocks2 links s.idle) s

      first_comes : p.missing ≢ missing.Answers → (end : NewTable × Advance Table) → NewTableOutcome w2 caller setting c2 blocks2 (Root setting.root) 0 end
          → Comes same hash asks caller setting keys w2 c2 blocks2 (first_made p end)
      first_comes puts (next, progress.Goes) told =
          goes same hash asks caller setting keys w2 c2 blocks2 p seeks p.trial p.helped (at.Firsts next) (λ answer h. h) (seeks.own, puts, told)
      first_comes puts (next, progress.Waits) told = absurd told
      first_comes puts (next, progress.Done table) told =
          enters same hash asks caller setting keys lawful w2 c2 blocks2 map2.map p seeks p.helped table told.0 told.2 (none (is_incremental setting.mode) refl)
          (λ e. subst (λ (x : Bool). cond x (told.0 ≤ c2.first) (told.0 ≡ c2.first)) e told.1)
        where
          none : (b : Bool) → is_incremental setting.mode ≡ b → NoneBefore same hash (is_incremental setting.mode) c2 keys told.0 0
          none true e =
              let l = subst (λ (x : Bool). cond x (told.0 ≤ c2.first) (told.0 ≡ c2.first)) e told.1 in
              let rule = subst (λ (x : Bool). Rule same (spot_of hash) x c2) e map2.map.rule in
              subst (λ (x : Bool). NoneBefore same hash x c2 keys told.0 0) (sym e) (λ k asked. ((λ g h. absurd (omega arith)), (λ u h. past_shut same (spot_of hash) lawful c2 rule u (omega (arith, l, h)) k)))
          none false e =
              let l = subst (λ (x : Bool). cond x (told.0 ≤ c2.first) (told.0 ≡ c2.first)) e told.1 in
              subst (λ (x : Bool). NoneBefore same hash x c2 keys told.0 0) (sym e) (λ k asked. ((λ g h. absurd (omega arith)), l))
      first_comes puts (next, progress.Refused fault) told = refuses same hash asks caller setting keys w2 c2 blocks2 p seeks fault

      next_comes : (t : ℕ) → IsTable c2 blocks2 p.trial.table t → ShutUpTo same hash asks w2 caller setting c2 blocks2 keys Unchanged t → (end : NewTable × Advance Table)
          → NewTableOutcome w2 caller setting c2 blocks2 (Word (blocks2.table t) NEXT) (suc t) end → Comes same hash asks caller setting keys w2 c2 blocks2 (next_made p end)
      next_comes t entered shut (next, progress.Goes) told =
          goes same hash asks caller setting keys w2 c2 blocks2 p seeks p.trial p.helped (at.Allocs next) (λ answer h. h) (seeks.own, t, (entered, shut), told)
      next_comes t entered shut (next, progress.Waits) told = absurd told
      next_comes t entered shut (next, progress.Done table) told =
          goes_on same hash asks caller setting keys lawful w2 c2 blocks2 map2.map p seeks t entered shut table (subst (λ (x : ℕ). IsTable c2 blocks2 table x) told.1 told.2)
      next_comes t entered shut (next, progress.Refused fault) told = refuses same hash asks caller setting keys w2 c2 blocks2 p seeks fault

    module _ (t : ℕ) (entered : IsTable c blocks p.trial.table t) (shut : ShutUpTo same hash asks w caller setting c blocks keys Unchanged t) where
      shut_lasts : (b : Bool) (c2 : Chart K) → Lasts same (spot_of hash) b c c2 → c2.first ≡ c.first → cond b ((k : K) → keys k ≡ true → ShutBefore same (spot_of hash) true c (suc t) k) (t ≡ c.first)
          → cond b ((k : K) → keys k ≡ true → ShutBefore same (spot_of hash) true c2 (suc t) k) (t ≡ c2.first)
      shut_lasts true c2 lasts root h = λ k asked. shut_before_lasts same hash true c c2 lasts refl (suc t) entered.made k (h k asked)
      shut_lasts false c2 lasts root h = h ∙ sym root

      -- what a step of the making of the next table tells of the call
      pub next_told : (w2 : World (Node K V)) (c2 : Chart K) (blocks2 : Blocks) → IsMapIn same hash setting w2 c2 blocks2 → Moved same hash setting.mode caller c c2 → SameBlocks c blocks blocks2
          → (change : Change) → change ≡ Unchanged → (end : NewTable × Advance Table)
          → SparesPairs w w2 × OnlyLinks hash setting.mode c c2 × NewTableOutcome w2 caller setting c2 blocks2 (Word (blocks.table t) NEXT) (suc t) end
          → CallOutcome same hash asks caller setting keys c change p w2 c2 blocks2 (next_made p end).0 (next_made p end).1
      next_told w2 c2 blocks2 map2 moved same_blocks change unchanged end told =
          told_unchanged same hash asks caller setting keys w2 c2 blocks2 c change p (next_made p end) unchanged (links_same same hash caller setting lawful w c blocks map c2 told.1).0 (λ other. links_beside hash setting.mode c c2 told.1)
          (next_comes w2 c2 blocks2 map2 told.0 told.1 t
          (table_lasts same hash (is_incremental setting.mode) c c2 (moved_lasts same hash setting lawful w c c2 blocks map moved) blocks blocks2 same_blocks p.trial.table t entered)
          (shut_lasts (is_incremental setting.mode) c2 (moved_lasts same hash setting lawful w c c2 blocks map moved) (links_same same hash caller setting lawful w c blocks map c2 told.1).1 shut)
          end (subst (λ (x : ℕ). NewTableOutcome w2 caller setting c2 blocks2 (Word x NEXT) (suc t) end) (sym (same_blocks.tables t entered.made entered.known).0) told.2))

    module _ (change : Change) (f : CallFacts same hash asks w caller setting c blocks keys change p) (unchanged : change ≡ Unchanged) (m2 : Mem (Node K V)) (end : KeyCall K V Q × Called (Node K V)) where
      pub went_firsts : p.missing ≢ missing.Answers
          → ((m2 : Mem (Node K V)) (end : NewTable × Advance Table) → Steps Took value_at w.memory (new_table_plan making) m2 end
          → StepSpec same hash setting caller w c blocks m2 (λ w2 c2 blocks2. SparesPairs w w2 × OnlyLinks hash setting.mode c c2 × NewTableOutcome w2 caller setting c2 blocks2 (Root setting.root) 0 end))
          → Steps Took value_at w.memory (firsts p making) m2 end → CallWent same hash asks caller setting keys w c blocks map change p f m2 end
      went_firsts puts inner steps =
          let d = steps_back (first_made p) w.memory m2 (new_table_plan making) end steps in
          by_end same hash asks caller setting keys w c blocks map change p f m2 end (first_made p d.0) d.2
          (went_as same hash setting caller w c blocks m2
          (λ w2 c2 blocks2. SparesPairs w w2 × OnlyLinks hash setting.mode c c2 × NewTableOutcome w2 caller setting c2 blocks2 (Root setting.root) 0 d.0)
          (λ w2 c2 blocks2. CallOutcome same hash asks caller setting keys c change p w2 c2 blocks2 (first_made p d.0).0 (first_made p d.0).1)
          (λ w2 c2 blocks2 map2 moved same_blocks told.
          told_unchanged same hash asks caller setting keys w2 c2 blocks2 c change p (first_made p d.0) unchanged (links_same same hash caller setting lawful w c blocks map c2 told.1).0 (λ other. links_beside hash setting.mode c c2 told.1)
          (first_comes w2 c2 blocks2 map2 told.0 told.1 puts d.0 told.2))
          (inner m2 d.0 d.1))

      pub went_allocs : (t : ℕ) → IsTable c blocks p.trial.table t → ShutUpTo same hash asks w caller setting c blocks keys Unchanged t
          → ((m2 : Mem (Node K V)) (end : NewTable × Advance Table) → Steps Took value_at w.memory (new_table_plan making) m2 end
          → StepSpec same hash setting caller w c blocks m2 (λ w2 c2 blocks2. SparesPairs w w2 × OnlyLinks hash setting.mode c c2
          × NewTableOutcome w2 caller setting c2 blocks2 (Word (blocks.table t) NEXT) (suc t) end))
          → Steps Took value_at w.memory (allocs p making) m2 end → CallWent same hash asks caller setting keys w c blocks map change p f m2 end
      went_allocs t entered shut inner steps =
          let d = steps_back (next_made p) w.memory m2 (new_table_plan making) end steps in
          by_end same hash asks caller setting keys w c blocks map change p f m2 end (next_made p d.0) d.2
          (went_as same hash setting caller w c blocks m2
          (λ w2 c2 blocks2. SparesPairs w w2 × OnlyLinks hash setting.mode c c2 × NewTableOutcome w2 caller setting c2 blocks2 (Word (blocks.table t) NEXT) (suc t) d.0)
          (λ w2 c2 blocks2. CallOutcome same hash asks caller setting keys c change p w2 c2 blocks2 (next_made p d.0).0 (next_made p d.0).1)
          (λ w2 c2 blocks2 map2 moved same_blocks told. next_told t entered shut w2 c2 blocks2 map2 moved same_blocks change unchanged d.0 told)
          (inner m2 d.0 d.1))
