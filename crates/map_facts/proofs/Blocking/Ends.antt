-- In blocking mode, a copier says that its target is the root, reads which tables are to be retired, and ends.
use Rattle.std.proofs.Common.{◌≡◌, ℕ, suc, ◌*◌, ◌/◌, ◌<◌, Bool, false, refl, ap, arith}
use Rattle.map_rule.specs.Given.SeizeWordsDeclared.at.At.TheVariants.{Word}
use Rattle.map_rule.specs.Given.SeizeWordsDeclared.fault.Fault.{Fault}
use Rattle.map_rule.specs.Given.SeizeWordsMem.{Mem, Took, value_at, with_word}
use Rattle.map_rule.specs.Given.SeizeWordsOp.{Store, Stored}
use Rattle.map_rule.specs.Given.SeizeWordsPlan.{Steps}
use Rattle.map_rule.proofs.Given.SeizeWordsOneOwner.Operations.{stored, loaded}
use Rattle.papaya_raw.specs.Given.SeizeWorld.{World}
use Rattle.papaya_raw.specs.Given.TablesChunks.{is_incremental}
use Rattle.papaya_raw.specs.Given.TablesDeclared.node.Node.{Node}
use Rattle.map_rule.specs.Given.ResizeDeclared.yielding.Yielding.{Yielding}
use Rattle.map_rule.specs.Given.ResizeDeclared.yielding.Yielding.TheVariants.{Done, Refused}
use Rattle.papaya_raw.specs.Given.TablesDeclared.setting.Setting.{Setting}
use Rattle.papaya_raw.specs.Given.TablesDeclared.status.TheConstants.Status.{PROMOTED}
use Rattle.papaya_raw.specs.Given.TablesDeclared.table.Table.{Table}
use Rattle.papaya_raw.specs.Given.TablesDeclared.table_words.TheConstants.{NEXT, STATUS}
use Rattle.map_rule.specs.Given.ResizeDeclared.copier.Copier.{Copier}
use Rattle.map_rule.specs.Given.ResizeDeclared.copier.Copying.TheVariants as at
use Rattle.papaya_raw.specs.Given.TablesTablePlaces.{at_word}
use Rattle.map_rule.specs.Given.ResizeCopierStates.{standing}
use Rattle.map_rule.specs.Given.ResizeCopierPromotes.{to, also_retired, retiring_table, announces, successor_read, succeeds}
use Rattle.map_rule.specs.Chart.{Chart}
use Rattle.map_rule.specs.Rule.{IsLawful}
use Rattle.map_rule.specs.Moves.{Announces, after}
use Rattle.map_rule.specs.Words.{Blocks}
use Rattle.map_rule.specs.Maps.{spot_of, IsTable}
use Rattle.map_rule.specs.InWorld.{IsMapIn}
use Rattle.map_facts.specs.FactsCopiesBlocking.{HasNoShares, HasUnlinkedFrom}
use Rattle.map_facts.specs.FactsAloneBlocking.{AloneBlocking}
use Rattle.map_facts.proofs.Steps.AloneCharts.{aborted_announced}
use Rattle.map_facts.proofs.Blocking.Successors.{next_read, is_to_retire, rest_between, rest_last}
use Rattle.map_facts.proofs.Blocking.Targets.{status_is, status_shows}
use Rattle.map_facts.proofs.Copiers.CopierMoves.{copier_wrote, table_again}
use Rattle.map_facts.proofs.Copiers.CopierWent.{CopierCame, copier_still, copier_goes}
use Rattle.map_rule.proofs.Words.OwnWords.{own_at_word}
use Rattle.map_rule.proofs.Given.General.{some_is as is_some_of}

module _ {K V : Type 0} (same : K → K → Bool) (hash : K → ℕ) (caller : ℕ) (setting : Setting) (w : World (Node K V)) (c : Chart K) (blocks : Blocks)
    (map : IsMapIn same hash setting w c blocks) (p : Copier) (setting_is : p.setting ≡ setting) where
  module _ (s : ℕ) (unlinked : HasUnlinkedFrom same hash w caller setting c blocks p s) where
    abbrev told_chart : Chart K
    told_chart = after (spot_of hash) false (Announces c.first) c

    abbrev told_memory : Mem (Node K V)
    told_memory = with_word w.memory (at_word p.target STATUS) PROMOTED

    pub went_announce : IsLawful same (spot_of hash) → is_incremental setting.mode ≡ false → IsTable c blocks p.source s → (m2 : Mem (Node K V)) (end : Copier × Yielding (Node K V) Table)
        → Steps Took value_at w.memory (announces p) m2 end → CopierCame same hash caller setting w c blocks (AloneBlocking c p at.Announces) m2 end
    went_announce lawful blocking source m2 end steps =
        let store = stored w.memory (λ out. to (standing p (at.Succeeds p.source.link))) (at_word p.target STATUS) PROMOTED m2 end steps in
        copier_wrote same hash caller setting w c blocks map lawful blocking (Announces c.first) (omega arith, unlinked.1.made, map.map.rule.common.live) (AloneBlocking c p at.Announces) (λ i other is. is) unlinked.1.known
        (Store (at_word p.target STATUS) PROMOTED) Stored (at_word p.target STATUS) PROMOTED
        (own_at_word same hash setting w c blocks map caller p.target c.first STATUS unlinked.1 (omega arith)) (is_some_of _ _ (status_is same hash setting w c blocks map p c.first unlinked.1))
        m2 tt store.0 refl refl (status_shows same hash setting w c blocks map p c.first unlinked.1 PROMOTED)
        (record { tables = map.tables; pairs = map.pairs; named = map.named; tables_out = map.tables_out; pairs_out = map.pairs_out })
        refl end (standing p (at.Succeeds p.source.link)) store.1 setting_is (
          s,
          (unlinked.0, table_again same hash caller setting w (record w { memory = told_memory }) c told_chart blocks refl refl refl refl p.target c.first unlinked.1, unlinked.2, unlinked.3),
          ap (λ (x : Table). x.link) source.is,
        )
        (λ a. (aborted_announced c a.0, a.1))

    -- the link to the table behind
    module _ (table : ℕ) (table_is : table ≡ blocks.table s * 2048) where
      pub went_succeed : (m2 : Mem (Node K V)) (end : Copier × Yielding (Node K V) Table) → Steps Took value_at w.memory (succeeds p table) m2 end
          → CopierCame same hash caller setting w c blocks (AloneBlocking c p (at.Succeeds table)) m2 end
      went_succeed m2 end steps =
          let read = loaded w.memory (successor_read p table) (Word (table / 2048) NEXT) m2 end steps in
          let link_is = next_read same hash caller setting w c blocks map p setting_is s c.first unlinked.0 unlinked.1 unlinked.3 table table_is read.0 read.1 in
          copier_goes same hash caller setting w c blocks (AloneBlocking c p (at.Succeeds table)) map m2 end (retiring_table p table (also_retired p read.0)) read.2 read.3 setting_is
          (s, unlinked, is_to_retire same hash caller setting w c blocks map p setting_is s c.first unlinked.0 unlinked.1 unlinked.3 table table_is, (between read.0 link_is, last read.0 link_is))
          (λ a. a)
        where
          between : (link : ℕ) → link ≡ blocks.table (suc s) * 2048 → suc s < c.first → also_retired p link ≡ blocks.table (suc s) * 2048
          between = rest_between same hash caller setting w c blocks map p setting_is s c.first unlinked.0 unlinked.1 unlinked.3 table table_is

          last : (link : ℕ) → link ≡ blocks.table (suc s) * 2048 → suc s ≡ c.first → also_retired p link ≡ 0
          last = rest_last same hash caller setting w c blocks map p setting_is s c.first unlinked.0 unlinked.1 unlinked.3 table table_is

  -- it has come to its end
  pub went_over : IsTable c blocks p.target c.first → HasNoShares same hash w caller setting c blocks → (m2 : Mem (Node K V)) (end : Copier × Yielding (Node K V) Table)
      → (m2 ≡ w.memory) × (end ≡ (p, Done p.target)) → CopierCame same hash caller setting w c blocks (AloneBlocking c p at.Over) m2 end
  went_over target none m2 end steps = copier_still same hash caller setting w c blocks (AloneBlocking c p at.Over) map m2 end (p, Done p.target) steps.0 steps.1 (target, none) (λ a. (a.0, a.1.0, a.1.1))

  pub went_refused : (fault : Fault) → HasNoShares same hash w caller setting c blocks → (m2 : Mem (Node K V)) (end : Copier × Yielding (Node K V) Table)
      → (m2 ≡ w.memory) × (end ≡ (p, Refused fault)) → CopierCame same hash caller setting w c blocks (AloneBlocking c p (at.Refused fault)) m2 end
  went_refused fault none m2 end steps = copier_still same hash caller setting w c blocks (AloneBlocking c p (at.Refused fault)) map m2 end (p, Refused fault) steps.0 steps.1 none (λ a. (a.0, a.1.0, a.1.1))
