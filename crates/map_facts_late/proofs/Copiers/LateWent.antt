-- What a step of a copier tells whose source the root has left; a step that changed nothing, and one that wrote a word by a move.
use Rattle.std.specs.Prelude.{IsSome}
use Rattle.std.proofs.Common.{◌≡◌, ◌≢◌, ℕ, ◌<◌, ◌≤◌, Bool, false, inl, inr, refl, ap, sym, subst, ◌∙◌, arith}
use Rattle.std.proofs.lemmas.Bool.{cases_eq}
use Rattle.map_facts.specs.Given.SeizeWordsDeclared.at.At.{At}
use Rattle.map_facts.specs.Given.SeizeWordsOp.{Op, Out}
use Rattle.map_facts.specs.Given.SeizeWordsMem.{Mem, Gives, word_at, with_word, after as mem_after}
use Rattle.map_facts.specs.Given.SeizeWorld.{World}
use Rattle.map_facts.specs.Given.TablesChunks.{is_incremental}
use Rattle.map_facts.specs.Given.TablesDeclared.node.Node.{Node}
use Rattle.map_facts.specs.Given.TablesDeclared.setting.Setting.{Setting}
use Rattle.map_facts.specs.Given.TablesDeclared.status.TheConstants.Status.{ABORTED}
use Rattle.map_facts.specs.Given.TablesDeclared.table.Table.{Table}
use Rattle.map_facts.specs.Given.ResizeDeclared.copier.Copier.{Copier}
use Rattle.map_facts.specs.Given.ResizeDeclared.yielding.Yielding.{Yielding}
use Rattle.map_facts.specs.Given.ResizeDeclared.yielding.Yielding.TheVariants.{Goes}
use Rattle.map_facts.specs.Given.RuleChart.{Chart}
use Rattle.map_facts.specs.Given.RuleRule.{IsLawful}
use Rattle.map_facts.specs.Given.RuleLasts.{IsBy}
use Rattle.map_facts.specs.Given.RuleMoves.{Move, after, Allowed}
use Rattle.map_facts.specs.Given.RuleWords.{Blocks, Represents}
use Rattle.map_facts.specs.Given.RuleMaps.{spot_of, IsTable}
use Rattle.map_facts.specs.Given.RuleInWorld.{IsMapIn, SparesPairs, StepSpec}
use Rattle.map_facts.proofs.Given.RuleWorld.Footprints.{MayWriteBy}
use Rattle.map_facts.proofs.Given.RuleWorld.Hands.{Hands}
use Rattle.map_facts.proofs.Given.RuleWorld.MovesKnown.{IsOfKnown}
use Rattle.map_facts.proofs.Given.RuleWorld.WentStill.{went_still, spares_same, spares_written}
use Rattle.map_facts.proofs.Given.RuleWorld.WentWrote.{went_moved}
use Rattle.map_facts.proofs.Copiers.CopierMoves.{table_again}
use Rattle.map_facts.specs.FactsCopiesBlocking.{HasNoShares}
use Rattle.map_facts_late.specs.Left.{Left}
use Rattle.map_facts_late.specs.LateCopies.{CopiesSuperseded, SupersededCopying}
use Rattle.map_facts_late.specs.LateTold.{SupersededCopierAfter, SupersededCopierOutcome}

module _ {K V : Type 0} (same : K → K → Bool) (hash : K → ℕ) (caller : ℕ) (setting : Setting) (began : ℕ) (w : World (Node K V)) (c : Chart K)
    (blocks : Blocks) where
  -- own pairs are spared, the map has the same pairs, and the copier's facts or its end are told
  abbrev pub LateSays : Copier × Yielding (Node K V) Table → World (Node K V) → Chart K → Blocks → Type 0
  LateSays end w2 c2 blocks2 = SparesPairs w w2 × SupersededCopierOutcome same hash caller setting began w2 c2 blocks2 c end

  abbrev pub LateCame : Mem (Node K V) → Copier × Yielding (Node K V) Table → Type 0
  LateCame m2 end = StepSpec same hash setting caller w c blocks m2 (LateSays end)

  module _ (map : IsMapIn same hash setting w c blocks) where
    pub late_still : (m2 : Mem (Node K V)) (end r : Copier × Yielding (Node K V) Table) → m2 ≡ w.memory → end ≡ r
        → SupersededCopierAfter same hash caller setting began w c blocks r → LateCame m2 end
    late_still m2 end r still is told =
        subst (LateCame m2) (sym is) (went_still same hash setting caller w c blocks map m2 still (LateSays r) (spares_same w, (told, refl)))

    -- it goes on as late as it was
    pub late_goes : (m2 : Mem (Node K V)) (end : Copier × Yielding (Node K V) Table) (q : Copier) → m2 ≡ w.memory → end ≡ (q, Goes) → q.setting ≡ setting
        → SupersededCopying same hash w caller setting c blocks began q q.stands → LateCame m2 end
    late_goes m2 end q still is setting_is point = late_still m2 end (q, Goes) still is (inr (record { setting_is = setting_is; point = point }))

    module _ (lawful : IsLawful same (spot_of hash)) (blocking : is_incremental setting.mode ≡ false) (move : Move K)
        (allowed : Allowed same (spot_of hash) false move c)
        (by : (i : ℕ) → IsBy i move → i ≡ caller) (known : IsOfKnown blocks move) where
      -- the tables after it
      abbrev chart_of : Bool → Chart K
      chart_of b = after (spot_of hash) b move c

      abbrev pub late_chart : Chart K
      late_chart = chart_of false

      pub late_wrote : (op : Op (Node K V)) (out : Out (Node K V)) (at : At) (word : ℕ) → MayWriteBy setting caller w c blocks op at
          → IsSome (word_at w.memory at)
          → (m2 : Mem (Node K V)) → Gives w.memory op out → m2 ≡ with_word w.memory at word → with_word w.memory at word ≡ mem_after w.memory op out
          → late_chart.past ≡ c.past → Represents hash (with_word w.memory at word) late_chart blocks setting.root → Hands same hash setting w late_chart blocks
          → late_chart.current ≡ c.current → (end : Copier × Yielding (Node K V) Table) (q : Copier) → end ≡ (q, Goes) → q.setting ≡ setting
          → SupersededCopying same hash (record w { memory = with_word w.memory at word }) caller setting late_chart blocks began q q.stands → LateCame m2 end
      late_wrote op out at word own some m2 gives is wrote past shows hands current end q ends setting_is point =
          subst (LateCame m2) (sym ends)
          (went_moved same hash setting caller w c blocks map lawful op out at word own some m2 gives is wrote move (by, known)
          (subst (λ (b : Bool). Allowed same (spot_of hash) b move c) (sym blocking) allowed)
          (subst (λ (b : Bool). (chart_of b).past ≡ c.past) (sym blocking) past) (subst (λ (b : Bool). (chart_of b).current ≡ c.current) (sym blocking) current)
          (subst (λ (b : Bool). Represents hash (with_word w.memory at word) (chart_of b) blocks setting.root) (sym blocking) shows)
          (subst (λ (b : Bool). Hands same hash setting w (chart_of b) blocks) (sym blocking) hands)
          (LateSays (q, Goes))
          (subst (λ (b : Bool). LateSays (q, Goes) (record w { memory = with_word w.memory at word }) (chart_of b) blocks) (sym blocking)
          (spares_written w at word some, (inr (record { setting_is = setting_is; point = point }), current))))

-- the root has left a table that was aborted, too
pub aborted_behind : {K : Type 0} (c : Chart K) (t : ℕ) → c.status c.first ≢ ABORTED → t ≤ c.first → c.status t ≡ ABORTED → t < c.first
aborted_behind c t live upto aborted =
    elim (cases_eq t c.first) as (λ _. t < c.first) [
      | inl e ↦ absurd (live (ap c.status (sym e) ∙ aborted))
      | inr ne ↦ omega (arith, upto, ne)
    ]

-- what it knows of its tables stays, where these are as they were
module _ {K V : Type 0} (same : K → K → Bool) (hash : K → ℕ) (caller : ℕ) (setting : Setting) (began : ℕ) (w w2 : World (Node K V)) (c c2 : Chart K)
    (blocks : Blocks)
    (past : c2.past ≡ c.past) (first : c2.first ≡ c.first) (len : c2.len ≡ c.len) (limit : c2.limit ≡ c.limit) (status : c2.status ≡ c.status)
    (passed : c2.passed ≡ c.passed) (from : c2.from ≡ c.from) where
  pub left_again : (t : ℕ) → Left c began t → Left c2 began t
  left_again t l = record {
    behind = rw first l.behind;
    was_root = λ e. l.was_root (ap (λ (f : ℕ → ℕ). f t) (sym status) ∙ e);
    since = rw passed l.since;
  }

  pub late_again : (p q : Copier) → q.source ≡ p.source → q.target ≡ p.target → q.whole ≡ p.whole → (u t : ℕ)
      → HasNoShares same hash w2 caller setting c2 blocks
      → CopiesSuperseded same hash w caller setting c blocks began p u t → CopiesSuperseded same hash w2 caller setting c2 blocks began q u t
  late_again p q source target whole u t idle late = record {
    source = subst (λ (x : Table). IsTable c2 blocks x u) (sym source) (table_again same hash caller setting w w2 c c2 blocks past first len limit p.source u late.source);
    target = subst (λ (x : Table). IsTable c2 blocks x t) (sym target) (table_again same hash caller setting w w2 c c2 blocks past first len limit p.target t late.target);
    order = late.order;
    left = left_again u late.left;
    over = rw first late.over;
    from = rw from late.from;
    whole = whole ∙ late.whole;
    idle = idle;
  }

-- and of another copier of the same tables, where nothing changed
module _ {K V : Type 0} (same : K → K → Bool) (hash : K → ℕ) (caller : ℕ) (setting : Setting) (began : ℕ) (w : World (Node K V)) (c : Chart K)
    (blocks : Blocks) where
  pub late_on : (p q : Copier) → q.source ≡ p.source → q.target ≡ p.target → q.whole ≡ p.whole → (u t : ℕ)
      → CopiesSuperseded same hash w caller setting c blocks began p u t → CopiesSuperseded same hash w caller setting c blocks began q u t
  late_on p q source target whole u t late =
      late_again same hash caller setting began w w c c blocks refl refl refl refl refl refl refl p q source target whole u t late.idle late
