-- A step of a copier that made a move, where pairs are copied in blocking mode: it wrote a word by it, or nothing at all.
use Rattle.std.specs.Prelude.{[], IsSome}
use Rattle.std.proofs.Common.{inl, ◌≡◌, ℕ, Bool, false, inr, refl, sym, subst}
use Rattle.map_rule.specs.Given.SeizeWordsDeclared.at.At.{At}
use Rattle.map_rule.specs.Given.SeizeWordsOp.{Op, Out}
use Rattle.map_rule.specs.Given.SeizeWordsMem.{Mem, Gives, word_at, with_word, after as mem_after}
use Rattle.papaya_raw.specs.Given.SeizeWorld.{World}
use Rattle.papaya_raw.specs.Given.TablesChunks.{is_incremental}
use Rattle.papaya_raw.specs.Given.TablesDeclared.node.Node.{Node}
use Rattle.map_rule.specs.Given.ResizeDeclared.yielding.Yielding.{Yielding}
use Rattle.map_rule.specs.Given.ResizeDeclared.yielding.Yielding.TheVariants.{Goes}
use Rattle.papaya_raw.specs.Given.TablesDeclared.setting.Setting.{Setting}
use Rattle.papaya_raw.specs.Given.TablesDeclared.table.Table.{Table}
use Rattle.map_rule.specs.Given.ResizeDeclared.copier.Copier.{Copier}
use Rattle.map_rule.specs.Chart.{Chart}
use Rattle.map_rule.specs.Rule.{IsLawful}
use Rattle.map_rule.specs.Moves.{Move, after, Allowed}
use Rattle.map_rule.specs.Words.{Blocks, Represents}
use Rattle.map_rule.specs.Maps.{spot_of, IsTable}
use Rattle.map_rule.specs.InWorld.{IsMapIn, IsFramed}
use Rattle.map_facts.specs.FactsCopiesBlocking.{CopiesInto, CopyingFactsBlocking}
use Rattle.map_facts.specs.FactsAloneBlocking.{AloneBlocking}
use Rattle.map_rule.specs.Lasts.{IsBy}
use Rattle.map_facts.proofs.Steps.AloneCharts.{idle_after}
use Rattle.map_facts.proofs.Copiers.CopierWent.{CopierTells, CopierCame}
use Rattle.map_rule.proofs.World.Hands.{Hands}
use Rattle.map_rule.proofs.World.WentStill.{spares_same, spares_written}
use Rattle.std.proofs.lemmas.Bool.{cases_eq}
use Rattle.map_rule.proofs.Words.LinksOwn.{outs_same, known_same, links_none, none_stored}
use Rattle.map_rule.proofs.World.MovesKnown.{IsOfKnown, spares_moved}
use Rattle.map_rule.proofs.World.OthersSpared.{keeps_same}
use Rattle.map_rule.proofs.World.Footprints.{MayWriteBy, framed_same}
use Rattle.map_rule.proofs.World.WentWrote.{went_moved, map_moved, later_kept, counter_of, map_in}

module _ {K V : Type 0} (same : K → K → Bool) (hash : K → ℕ) (caller : ℕ) (setting : Setting) (w : World (Node K V)) (c : Chart K) (blocks : Blocks)
    (map : IsMapIn same hash setting w c blocks) where
  module _ (lawful : IsLawful same (spot_of hash)) (blocking : is_incremental setting.mode ≡ false) (move : Move K) (allowed : Allowed same (spot_of hash) false move c)
      (Alone : Type 0) (by : (i : ℕ) → (i ≡ caller → ⊥) → IsBy i move → ⊥) (known : IsOfKnown blocks move) where
    -- the tables after it
    abbrev pub moved_chart : Chart K
    moved_chart = after (spot_of hash) false move c

    abbrev chart_of : Bool → Chart K
    chart_of b = after (spot_of hash) b move c

    is_allowed : Allowed same (spot_of hash) (is_incremental setting.mode) move c
    is_allowed = subst (λ (b : Bool). Allowed same (spot_of hash) b move c) (sym blocking) allowed

    -- it is this caller's, if it is some caller's
    made_by : (i : ℕ) → IsBy i move → i ≡ caller
    made_by i its = elim (cases_eq i caller) [
      | inl e ↦ e
      | inr ne ↦ absurd (by i ne its)
    ]

    pub copier_wrote : (op : Op (Node K V)) (out : Out (Node K V)) (at : At) (word : ℕ) → MayWriteBy setting caller w c blocks op at → IsSome (word_at w.memory at)
        → (m2 : Mem (Node K V)) → Gives w.memory op out → m2 ≡ with_word w.memory at word → with_word w.memory at word ≡ mem_after w.memory op out
        → moved_chart.past ≡ c.past → Represents hash (with_word w.memory at word) moved_chart blocks setting.root → Hands same hash setting w moved_chart blocks → moved_chart.current ≡ c.current
        → (end : Copier × Yielding (Node K V) Table) (p : Copier) → end ≡ (p, Goes) → p.setting ≡ setting
        → CopyingFactsBlocking same hash (record w { memory = with_word w.memory at word }) caller setting moved_chart blocks p p.stands
        → (Alone → AloneBlocking moved_chart p p.stands)
        → CopierCame same hash caller setting w c blocks Alone m2 end
    copier_wrote op out at word own some m2 gives is wrote past shows hands current end p ends setting_is point alone =
        subst (CopierCame same hash caller setting w c blocks Alone m2) (sym ends)
        (went_moved same hash setting caller w c blocks map lawful op out at word own some m2 gives is wrote move (made_by, known) is_allowed
        (subst (λ (b : Bool). (chart_of b).past ≡ c.past) (sym blocking) past) (subst (λ (b : Bool). (chart_of b).current ≡ c.current) (sym blocking) current)
        (subst (λ (b : Bool). Represents hash (with_word w.memory at word) (chart_of b) blocks setting.root) (sym blocking) shows)
        (subst (λ (b : Bool). Hands same hash setting w (chart_of b) blocks) (sym blocking) hands)
        (CopierTells same hash caller setting w c blocks Alone (p, Goes))
        (subst (λ (b : Bool). CopierTells same hash caller setting w c blocks Alone (p, Goes) (record w { memory = with_word w.memory at word }) (chart_of b) blocks) (sym blocking)
        ((spares_written w at word some, current, record { setting_is = setting_is; point = point }), λ a. (idle_after same (spot_of hash) caller move c by a.0, alone a.1))))

    -- no word was written
    pub copier_moved : (m2 : Mem (Node K V)) → m2 ≡ w.memory
        → moved_chart.past ≡ c.past → Represents hash w.memory moved_chart blocks setting.root → Hands same hash setting w moved_chart blocks → moved_chart.current ≡ c.current
        → (end : Copier × Yielding (Node K V) Table) (p : Copier) → end ≡ (p, Goes) → p.setting ≡ setting
        → CopyingFactsBlocking same hash w caller setting moved_chart blocks p p.stands
        → (Alone → AloneBlocking moved_chart p p.stands)
        → CopierCame same hash caller setting w c blocks Alone m2 end
    copier_moved m2 is past shows hands current end p ends setting_is point alone =
        subst (CopierCame same hash caller setting w c blocks Alone m2) (sym ends) (record {
          w2 = w;
          c2 = chart_of (is_incremental setting.mode);
          blocks2 = blocks;
          events = [];
          users = tt;
          its = tt;
          runs = refl;
          memory = sym is;
          links = links_none caller w w c (chart_of (is_incremental setting.mode)) blocks (subst (λ (b : Bool). (chart_of b).past ≡ c.past) (sym blocking) past)
              (none_stored same (spot_of hash) (is_incremental setting.mode) c map.map.rule.common move (subst (λ (b : Bool). (chart_of b).current ≡ c.current) (sym blocking) current)) (outs_same w.memory w.hand)
              (known_same caller w.hand (chart_of (is_incremental setting.mode)) blocks);
          tables = spares_moved (spot_of hash) (is_incremental setting.mode) c blocks map.map.shows.linked move known;
          frame = subst (IsFramed setting caller w c blocks) (sym is) (framed_same setting caller w c blocks);
          spares = λ j other. keeps_same j w.memory w.hand;
          moved = inr (move, is_allowed, refl, made_by);
          map = map_in same hash setting w (chart_of (is_incremental setting.mode)) blocks
              (map_moved same hash setting lawful w.memory w.memory c blocks blocks move map.map is_allowed
              (subst (λ (b : Bool). Represents hash w.memory (chart_of b) blocks setting.root) (sym blocking) shows)
              (later_kept c (chart_of (is_incremental setting.mode)) blocks blocks (subst (λ (b : Bool). (chart_of b).past ≡ c.past) (sym blocking) past) (λ t. refl) map.map.later))
              (counter_of same hash setting w c blocks map)
              (subst (λ (b : Bool). Hands same hash setting w (chart_of b) blocks) (sym blocking) hands);
          blocks_same = record { tables = λ t made known. (refl, known); pairs = λ n was known. (refl, known); tables_back = λ t made known. known; pairs_back = λ n was known. known };
          told = subst (λ (b : Bool). CopierTells same hash caller setting w c blocks Alone (p, Goes) w (chart_of b) blocks) (sym blocking)
              ((spares_same w, current, record { setting_is = setting_is; point = point }), λ a. (idle_after same (spot_of hash) caller move c by a.0, alone a.1));
        })

-- what a copier knows of its tables stays where they are the same
module _ {K V : Type 0} (same : K → K → Bool) (hash : K → ℕ) (caller : ℕ) (setting : Setting) (w w2 : World (Node K V)) (c c2 : Chart K) (blocks : Blocks)
    (past : c2.past ≡ c.past) (first : c2.first ≡ c.first) (len : c2.len ≡ c.len) (limit : c2.limit ≡ c.limit) where
  pub table_again : (table : Table) (t : ℕ) → IsTable c blocks table t → IsTable c2 blocks table t
  table_again table t e = record {
    made = rw past e.made;
    known = e.known;
    is = rw (len, limit) e.is;
  }

  pub copies_again : (p : Copier) (t : ℕ) → CopiesInto same hash w caller setting c blocks p t → CopiesInto same hash w2 caller setting c2 blocks p t
  copies_again p t e = (
    subst (λ (s : ℕ). IsTable c2 blocks p.source s) (sym first) (table_again p.source c.first e.0),
    rw first e.1,
    table_again p.target t e.2,
    e.3,
  )
