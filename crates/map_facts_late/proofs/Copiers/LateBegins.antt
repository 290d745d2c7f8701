-- In blocking mode: there is a table behind one that the root has left, and a copier that begins to copy into it knows what it is to know.
use Rattle.std.specs.Prelude.{if◌then◌else◌}
use Rattle.std.proofs.Common.{◌≡◌, ℕ, suc, ◌<◌, Bool, true, false, refl, arith}
use Rattle.map_facts.specs.Given.SeizeWorld.{World}
use Rattle.map_facts.specs.Given.TablesChunks.{is_incremental}
use Rattle.map_facts.specs.Given.TablesDeclared.node.Node.{Node}
use Rattle.map_facts.specs.Given.TablesDeclared.setting.Setting.{Setting}
use Rattle.map_facts.specs.Given.TablesDeclared.table.Table.{Table}
use Rattle.map_facts.specs.Given.ResizeCopierStates.{copying_all, resting}
use Rattle.map_facts.specs.Given.ResizeDeclared.copier.Copying.TheVariants as copying
use Rattle.map_facts.specs.Given.RuleChart.{Chart}
use Rattle.map_facts.specs.Given.RuleRule.{Rule}
use Rattle.map_facts.specs.Given.RuleWords.{Blocks}
use Rattle.map_facts.specs.Given.RuleMaps.{spot_of, IsTable}
use Rattle.map_facts.specs.FactsCopiesBlocking.{HasNoShares}
use Rattle.map_facts_late.specs.Left.{Left}
use Rattle.map_facts_late.specs.LateCopies.{SupersededCopierFacts}

-- there is a table behind it
pub behind_left : {K : Type 0} (same : K → K → Bool) (hash : K → ℕ) (bit : Bool) (c : Chart K) → Rule same (spot_of hash) bit c → (began t : ℕ) → t < c.past → Left c began t → suc t < c.past
behind_left same hash bit c rule began t made left = let behind = left.behind in let root = rule.common.rooted (omega (arith, made)) in omega (arith, behind, root)

module _ {K V : Type 0} (same : K → K → Bool) (hash : K → ℕ) (caller : ℕ) (setting : Setting) (blocking : is_incremental setting.mode ≡ false) (began : ℕ) (w : World (Node K V)) (c : Chart K)
    (blocks : Blocks) where
  -- copying begins
  pub late_begins : (source target : Table) (t : ℕ) → IsTable c blocks source t → Left c began t → c.from (suc t) ≡ t → IsTable c blocks target (suc t)
      → HasNoShares same hash w caller setting c blocks → SupersededCopierFacts same hash w caller setting c blocks began (copying_all setting source target)
  late_begins source target t entered left from next idle = begun (is_incremental setting.mode) blocking
    where
      begun : (b : Bool) → b ≡ false → SupersededCopierFacts same hash w caller setting c blocks began
          (if b then record (resting setting true source target copying.Marks) { end = source.len } else resting setting true source target copying.Asks)
      begun true e = absurd (cc)
      begun false e = record {
        setting_is = refl;
        point = (
          t,
          suc t,
          record {
            source = entered;
            target = next;
            order = omega arith;
            left = left;
            over = (let behind = left.behind in omega (arith, behind));
            from = from;
            whole = refl;
            idle = idle;
          },
        );
      }
