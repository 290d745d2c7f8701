-- A call enters a table that is the root's, or was since it began.
use Rattle.std.specs.Prelude.{◌≡◌, ℕ, suc, Bool, true, false, if◌then◌else◌}
use Rattle.std.proofs.Common.{ap, sym, subst, ◌∙◌, inl, inr, arith}
use Rattle.map_facts.specs.Given.SeizeWorld.{World}
use Rattle.map_facts.specs.Given.TablesChunks.{is_incremental}
use Rattle.map_facts.specs.Given.TablesTrials.{trial_on}
use Rattle.map_facts.specs.Given.TablesDeclared.node.Node.{Node}
use Rattle.map_facts.specs.Given.TablesDeclared.setting.Setting.{Setting}
use Rattle.map_facts.specs.Given.TablesDeclared.table.Table.{Table}
use Rattle.map_facts.specs.Given.ResizeCopierStates.{helping, copying_all}
use Rattle.map_facts.specs.Given.RawCallPoints.{going, entering, continued_in}
use Rattle.map_facts.specs.Given.RawDeclared.machines.call.KeyCall.{KeyCall}
use Rattle.map_facts.specs.Given.RawDeclared.machines.call.Calling.TheVariants as at
use Rattle.map_facts.specs.Given.RuleChart.{Chart}
use Rattle.map_facts.specs.Given.RuleRule.{IsLawful}
use Rattle.map_facts.specs.Given.RuleWords.{Blocks}
use Rattle.map_facts.specs.Given.RuleMaps.{spot_of, IsTable, IsMap}
use Rattle.map_facts.proofs.Given.RuleKeys.TriesSeen.{on_is}
use Rattle.map_facts.proofs.Calls.CallsOn.{Seeking}
use Rattle.map_facts.proofs.Calls.CallsTables.{enters_root}
use Rattle.map_facts_late.specs.Left.{Left, Entered}
use Rattle.map_facts_late.proofs.Calls.LatesOn.{LateComes, none_shared, goes_late}
use Rattle.map_facts_late.proofs.Copiers.LateBegins.{late_begins}

module _ {K V Q : Type 0} (same : K → K → Bool) (hash : K → ℕ) (asks : Q → K → Bool) (caller : ℕ) (setting : Setting) (alone : is_incremental setting.mode ≡ false) (keys : K → Bool) (began : ℕ)
    (lawful : IsLawful same (spot_of hash)) (w : World (Node K V)) (c : Chart K) (blocks : Blocks) (map : IsMap same hash setting.mode setting.root w.memory c blocks) (p : KeyCall K V Q)
    (s : Seeking same hash asks caller setting keys w c blocks p) where
  -- one that it was told of
  pub enters_told : (table : Table) (t : ℕ) → IsTable c blocks table t → Entered c began t → LateComes same hash asks caller setting alone keys began w c blocks (entering p table)
  enters_told table t entered (inl root) =
      let fresh = enters_root same hash asks caller setting keys lawful w c blocks map p s table (subst (λ (x : ℕ). IsTable c blocks table x) root entered) in
      (inl fresh.0, λ answer answered. absurd answered)
  enters_told table t entered (inr left) =
      goes_late same hash asks caller setting alone keys began w c blocks p s (trial_on p.trial table p.hash) at.Probes (λ answer h. h)
      (s.own, (t, 0, on_is c blocks p.hash t p.trial table entered (map.shows.sized t entered.made), (λ k asked g l. absurd (omega (arith, l))), left))

  -- the one behind its own, which it is to copy first
  pub goes_on_late : (t : ℕ) → IsTable c blocks p.trial.table t → Left c began t → c.from (suc t) ≡ t → (table : Table) → IsTable c blocks table (suc t)
      → LateComes same hash asks caller setting alone keys began w c blocks (continued_in p table)
  goes_on_late t entered left from table next = by_mode (is_incremental p.setting.mode) (ap (λ (x : Setting). is_incremental x.mode) s.setting_is ∙ alone)
    where
      copies : LateComes same hash asks caller setting alone keys began w c blocks (going p (at.Copies (copying_all p.setting p.trial.table table)))
      copies =
          subst (λ (x : Setting). LateComes same hash asks caller setting alone keys began w c blocks (going p (at.Copies (copying_all x p.trial.table table)))) (sym s.setting_is)
          (goes_late same hash asks caller setting alone keys began w c blocks p s p.trial (at.Copies (copying_all setting p.trial.table table)) (λ answer h. h)
          (s.own, late_begins same hash caller setting alone began w c blocks p.trial.table table t entered left from next (none_shared same hash asks caller setting alone keys began w c blocks p s)))

      by_mode : (b : Bool) → b ≡ false
          → LateComes same hash asks caller setting alone keys began w c blocks
          (if b then (if p.helped then entering p table else going (record p { helped = true }) (at.Helps (helping p.setting) table))
          else going p (at.Copies (copying_all p.setting p.trial.table table)))
      by_mode true e = absurd (cc)
      by_mode false e = copies
