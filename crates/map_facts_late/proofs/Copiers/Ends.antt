-- A copier whose source the root has left makes no root; one whose target the root has left tells of it, and reads which tables are to be retired.
use Rattle.std.specs.Prelude.{Some}
use Rattle.std.proofs.Common.{◌≡◌, ◌≢◌, ℕ, ◌*◌, ◌/◌, ◌<◌, Bool, false, cond, inl, inr, refl, ap, ◌∙◌, arith}
use Rattle.std.proofs.lemmas.Bool.{eq-eqb, ne_eqb}
use Rattle.map_facts.specs.Given.SeizeWordsDeclared.at.At.TheVariants.{Root, Word}
use Rattle.map_facts.specs.Given.SeizeWordsMem.{Mem, Can, Took, value_at, word_at, with_word}
use Rattle.map_facts.specs.Given.SeizeWordsOp.{Store, Stored}
use Rattle.map_facts.specs.Given.SeizeWordsPlan.{May, Steps}
use Rattle.map_facts.proofs.Given.SeizeWordsOneOwner.Operations.{stored, loaded, may_exchange, exchanged}
use Rattle.map_facts.specs.Given.SeizeWorld.{World}
use Rattle.map_facts.specs.Given.TablesChunks.{is_incremental}
use Rattle.map_facts.specs.Given.TablesTablePlaces.{at_word}
use Rattle.map_facts.specs.Given.TablesDeclared.node.Node.{Node}
use Rattle.map_facts.specs.Given.TablesDeclared.setting.Setting.{Setting}
use Rattle.map_facts.specs.Given.TablesDeclared.status.TheConstants.Status.{PROMOTED}
use Rattle.map_facts.specs.Given.TablesDeclared.table.Table.{Table}
use Rattle.map_facts.specs.Given.TablesDeclared.table_words.TheConstants.{NEXT, STATUS}
use Rattle.map_facts.specs.Given.ResizeCopierPromotes.{to, also_retired, retiring_table, promoted, promotes, announces, successor_read, succeeds}
use Rattle.map_facts.specs.Given.ResizeCopierStates.{standing, behind}
use Rattle.map_facts.specs.Given.ResizeDeclared.copier.Copier.{Copier}
use Rattle.map_facts.specs.Given.ResizeDeclared.copier.Copying.TheVariants as at
use Rattle.map_facts.specs.Given.ResizeDeclared.yielding.Yielding.{Yielding}
use Rattle.map_facts.specs.Given.ResizeDeclared.yielding.Yielding.TheVariants.{Goes}
use Rattle.map_facts.specs.Given.RuleChart.{Chart, put}
use Rattle.map_facts.specs.Given.RuleInWorld.{IsMapIn}
use Rattle.map_facts.specs.Given.RuleMaps.{spot_of, IsTable}
use Rattle.map_facts.specs.Given.RuleMoves.{Announces, after}
use Rattle.map_facts.specs.Given.RuleRule.{IsLawful}
use Rattle.map_facts.specs.Given.RuleWords.{Blocks}
use Rattle.map_facts.proofs.Given.RuleWords.OwnWords.{own_at_word}
use Rattle.map_facts.proofs.Copiers.CopierMoves.{table_again}
use Rattle.map_facts.proofs.Blocking.Successors.{next_read, is_to_retire, rest_between, rest_last}
use Rattle.map_facts.proofs.Blocking.Targets.{status_is, status_shows}
use Rattle.map_facts_late.specs.Left.{Left}
use Rattle.map_facts_late.specs.LateCopies.{CopiesSuperseded, HasUnlinkedSuperseded}
use Rattle.map_facts_late.proofs.Copiers.LateWent.{LateCame, late_goes, late_wrote, late_on}
use Rattle.map_facts.proofs.Given.General.{some_is as is_some_of}

module _ {K V : Type 0} (same : K → K → Bool) (hash : K → ℕ) (caller : ℕ) (setting : Setting) (began : ℕ) (w : World (Node K V)) (c : Chart K) (blocks : Blocks)
    (map : IsMapIn same hash setting w c blocks) (p : Copier) (setting_is : p.setting ≡ setting) where
  module _ (u t : ℕ) (late : CopiesSuperseded same hash w caller setting c blocks began p u t) where
    rooted : c.first < c.past
    rooted = let made = late.source.made in map.map.rule.common.rooted (omega (arith, made))

    root_is : word_at w.memory (Root p.setting.root) ≡ Some (blocks.table c.first * 2048)
    root_is =
        ap (λ (x : Setting). word_at w.memory (Root x.root)) setting_is ∙ map.map.shows.root_there
        ∙ ap (λ (q : Bool). Some (cond q 0 (blocks.table c.first * 2048))) (ne_eqb c.past 0 (let there = rooted in omega (arith, there)))

    pub may_promote : May Can Took value_at w.memory (promotes p)
    may_promote = may_exchange w.memory (promoted p) (Root p.setting.root) p.source.link p.target.link (is_some_of _ _ root_is) (λ found e. tt) (λ found e. tt)

    -- the root is another table than its source
    root_other : (link : ℕ) → link ≡ blocks.table c.first * 2048 → link ≢ p.source.link
    root_other link is e =
        let source : p.source.link ≡ blocks.table u * 2048 = ap (λ (x : Table). x.link) late.source.is in
        let one : blocks.table u ≡ blocks.table c.first = omega (arith, source, is, e) in
        let turn = map.map.shows.tables_apart u c.first late.source.made rooted late.source.known (map.map.shows.linked c.first (omega arith) rooted) one in
        let left = late.left.behind in
        omega (arith, turn, left)

    pub went_promote : (m2 : Mem (Node K V)) (end : Copier × Yielding (Node K V) Table) → Steps Took value_at w.memory (promotes p) m2 end
        → LateCame same hash caller setting began w c blocks m2 end
    went_promote m2 end s =
        elim (exchanged w.memory (promoted p) (Root p.setting.root) p.source.link p.target.link m2 end s) as (λ _. LateCame same hash caller setting began w c blocks m2 end) [
          | inl done ↦ absurd (root_other done.0 (cc (done.1.0, root_is)) done.1.1)
          | inr lost ↦ late_goes same hash caller setting began w c blocks map m2 end (record p { place = 0; end = 0; spent = is_incremental p.setting.mode; stands = at.Asks }) lost.2
              (lost.3 ∙ ap (λ (q : Copier). (q, Goes)) behind_is) setting_is (
                u,
                t,
                late_on same hash caller setting began w c blocks p
                    (record p { place = 0; end = 0; spent = is_incremental p.setting.mode; stands = at.Asks }) refl refl refl u t late,
              )
        ]
      where
        behind_is : behind p ≡ record p { place = 0; end = 0; spent = is_incremental p.setting.mode; stands = at.Asks }
        behind_is = rw late.whole refl

  module _ (s t : ℕ) (unlinked : HasUnlinkedSuperseded same hash w caller setting c blocks began p s t) where
    abbrev told_chart : Chart K
    told_chart = after (spot_of hash) false (Announces t) c

    abbrev told_memory : Mem (Node K V)
    told_memory = with_word w.memory (at_word p.target STATUS) PROMOTED

    left_then : Left told_chart began t
    left_then = record {
      behind = unlinked.2.behind;
      was_root = λ e. (let is : put c.status t PROMOTED t ≡ PROMOTED = rw (eq-eqb t t refl) refl in absurd (omega (arith, e, is)));
      since = unlinked.2.since;
    }

    pub went_announce : IsLawful same (spot_of hash) → is_incremental setting.mode ≡ false → IsTable c blocks p.source s
        → (m2 : Mem (Node K V)) (end : Copier × Yielding (Node K V) Table)
        → Steps Took value_at w.memory (announces p) m2 end → LateCame same hash caller setting began w c blocks m2 end
    went_announce lawful blocking source m2 end steps =
        let store = stored w.memory (λ out. to (standing p (at.Succeeds p.source.link))) (at_word p.target STATUS) PROMOTED m2 end steps in
        late_wrote same hash caller setting began w c blocks map lawful blocking (Announces t)
        (let l = unlinked.2.behind in omega (arith, l), unlinked.1.made, unlinked.2.was_root) (λ i by. absurd by)
        unlinked.1.known (Store (at_word p.target STATUS) PROMOTED) Stored (at_word p.target STATUS) PROMOTED
        (own_at_word same hash setting w c blocks map caller p.target t STATUS unlinked.1 (omega arith)) (is_some_of _ _ (status_is same hash setting w c blocks map p t unlinked.1))
        m2 tt store.0 refl refl (status_shows same hash setting w c blocks map p t unlinked.1 PROMOTED)
        (record { tables = map.tables; pairs = map.pairs; named = map.named; tables_out = map.tables_out; pairs_out = map.pairs_out })
        refl end (standing p (at.Succeeds p.source.link)) store.1 setting_is (
          s,
          t,
          (
            unlinked.0,
            table_again same hash caller setting w (record w { memory = told_memory }) c told_chart blocks refl refl refl refl p.target t unlinked.1,
            left_then,
            unlinked.3,
            unlinked.4,
          ),
          ap (λ (x : Table). x.link) source.is,
        )

    pub went_succeed : (table : ℕ) → table ≡ blocks.table s * 2048 → (m2 : Mem (Node K V)) (end : Copier × Yielding (Node K V) Table)
        → Steps Took value_at w.memory (succeeds p table) m2 end
        → LateCame same hash caller setting began w c blocks m2 end
    went_succeed table table_is m2 end steps =
        let read = loaded w.memory (successor_read p table) (Word (table / 2048) NEXT) m2 end steps in
        let link_is = next_read same hash caller setting w c blocks map p setting_is s t unlinked.0 unlinked.1 unlinked.4 table table_is read.0 read.1 in
        late_goes same hash caller setting began w c blocks map m2 end (retiring_table p table (also_retired p read.0)) read.2 read.3 setting_is (
          s,
          t,
          unlinked,
          is_to_retire same hash caller setting w c blocks map p setting_is s t unlinked.0 unlinked.1 unlinked.4 table table_is,
          (
            rest_between same hash caller setting w c blocks map p setting_is s t unlinked.0 unlinked.1 unlinked.4 table table_is read.0 link_is,
            rest_last same hash caller setting w c blocks map p setting_is s t unlinked.0 unlinked.1 unlinked.4 table table_is read.0 link_is,
          ),
        )
