-- A caller that has no part in a copying begins to copy a whole table into the one behind: what its copier knows, in either mode.
use Rattle.std.specs.Prelude.{◌≡◌, ℕ, suc, ◌≤◌, Bool, true, false, cond, if◌then◌else◌}
use Rattle.std.proofs.Common.{refl, ap, subst, arith}
use Rattle.map_facts.specs.Given.SeizeWorld.{World}
use Rattle.map_facts.specs.Given.TablesChunks.{is_incremental}
use Rattle.map_facts.specs.Given.TablesDeclared.node.Node.{Node}
use Rattle.map_facts.specs.Given.TablesDeclared.setting.Setting.{Setting}
use Rattle.map_facts.specs.Given.TablesDeclared.table.Table.{Table}
use Rattle.map_facts.specs.Given.ResizeCopierStates.{resting, copying_all}
use Rattle.map_facts.specs.Given.ResizeDeclared.copier.Copying.TheVariants as copying_at
use Rattle.map_facts.specs.Given.RuleChart.{Chart}
use Rattle.map_facts.specs.Given.RuleWords.{Blocks}
use Rattle.map_facts.specs.Given.RuleMaps.{IsTable}
use Rattle.map_facts.specs.Given.RuleInWorld.{IsMapIn}
use Rattle.map_facts.specs.FactsCopies.{HasDone, ClaimsNone, CopierFacts}
use Rattle.map_facts.specs.FactsCopiesBlocking.{HasNoShares, CopierFactsBlocking}
use Rattle.map_facts.specs.FactsIdle.{IsIdle}
use Rattle.map_facts_late.specs.FactsReserves.{IsRoot, IsEnding, CopiesWhole}

module _ {K V : Type 0} (same : K → K → Bool) (hash : K → ℕ) (caller : ℕ) (setting : Setting) (w : World (Node K V)) (c : Chart K) (blocks : Blocks) (map : IsMapIn same hash setting w c blocks)
    (idle : IsIdle same hash w caller setting c blocks) (table : Table) (t : ℕ) (entered : IsTable c blocks table t) (root : IsRoot same hash w caller setting c blocks t) where
  len_is : table.len ≡ c.len t
  len_is = ap (λ (x : Table). x.len) entered.is

  pub whole_begins : (next : Table) → IsTable c blocks next (suc t) → CopiesWhole same hash w caller setting c blocks (copying_all setting table next)
  whole_begins next behind = by (is_incremental setting.mode) idle root
    where
      by : (b : Bool)
          → cond b (HasDone same hash w caller setting c blocks 0 × ClaimsNone same hash w caller setting c blocks) (HasNoShares same hash w caller setting c blocks)
          → cond b (t ≤ c.first) (t ≡ c.first)
          → cond b
          (((if b then record (resting setting true table next copying_at.Marks) { end = table.len } else resting setting true table next copying_at.Asks).whole ≡ true)
          × CopierFacts same hash w caller setting c blocks (if b then record (resting setting true table next copying_at.Marks) { end = table.len } else resting setting true table next copying_at.Asks)
          × IsEnding same hash w caller setting c blocks (if b then record (resting setting true table next copying_at.Marks) { end = table.len } else resting setting true table next copying_at.Asks)
          (if b then record (resting setting true table next copying_at.Marks) { end = table.len } else resting setting true table next copying_at.Asks).stands)
          (CopierFactsBlocking same hash w caller setting c blocks (if b then record (resting setting true table next copying_at.Marks) { end = table.len } else resting setting true table next copying_at.Asks))
      by true rests at_root = (
        refl,
        record {
          setting_is = refl;
          point = (
            t,
            (entered, behind, at_root, λ l. refl),
            rests.0,
            rests.1,
            ((map.map.rule.common.lens t entered.made).0, omega (arith, len_is), λ whole. len_is),
            λ whole j l. absurd (omega (arith, l)),
          );
        },
        tt,
      )
      by false rests at_root = record {
        setting_is = refl;
        point = (suc t, ((subst (λ (x : ℕ). IsTable c blocks table x) at_root entered, omega (arith, at_root), behind, refl), refl, rests));
      }
