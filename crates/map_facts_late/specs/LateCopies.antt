-- What a copier knows, in blocking mode, once the root has left the table that it copies.
use Rattle.std.specs.Prelude.{◌≡◌, ℕ, suc, ◌*◌, ◌<◌, ◌≤◌, Bool, true, false, Some}
use Rattle.map_facts.specs.Given.SeizeWordsDeclared.at.At.TheVariants.{Word}
use Rattle.map_facts.specs.Given.SeizeWorld.{World, Cutting}
use Rattle.map_facts.specs.Given.TablesTrials.{trial_at}
use Rattle.map_facts.specs.Given.TablesDeclared.node.Node.{Node}
use Rattle.map_facts.specs.Given.TablesDeclared.probe.Probe.{Probe}
use Rattle.map_facts.specs.Given.TablesDeclared.setting.Setting.{Setting}
use Rattle.map_facts.specs.Given.TablesDeclared.status.TheConstants.Status.{ABORTED}
use Rattle.map_facts.specs.Given.TablesDeclared.table.Table.{Table}
use Rattle.map_facts.specs.Given.TablesDeclared.table_words.TheConstants.{NEXT}
use Rattle.map_facts.specs.Given.ResizeDeclared.copier.Copier.{Copier}
use Rattle.map_facts.specs.Given.ResizeDeclared.copier.Copying.{Copying as Point}
use Rattle.map_facts.specs.Given.ResizeDeclared.copier.Copying.TheVariants as at
use Rattle.map_facts.specs.Given.RuleChart.{Still, Copying, Holds, Chart}
use Rattle.map_facts.specs.Given.RuleWords.{Blocks, place_word}
use Rattle.map_facts.specs.Given.RuleMaps.{IsTable, IsTrial}
use Rattle.map_facts.specs.FactsTables.{NewTableFacts}
use Rattle.map_facts.specs.FactsDisposes.{IsToRetire}
use Rattle.map_facts.specs.FactsCopiesBlocking.{HasNoShares}
use Rattle.map_facts_late.specs.Left.{Left}

module _ {K V : Type 0} (same : K → K → Bool) (hash : K → ℕ) (w : World (Node K V)) (caller : ℕ) (setting : Setting) (c : Chart K) (blocks : Blocks) (began : ℕ) where
  -- It copies a table u that the root has left since its call began, into one that was linked while that was the root, and that the root has come
  -- to, or has passed. It has no part in a copying that goes on.
  pub record CopiesSuperseded (p : Copier) (u t : ℕ) : Type 0 where
    pub source : IsTable c blocks p.source u
    pub target : IsTable c blocks p.target t
    pub order : u < t
    pub left : Left c began u
    pub over : t ≤ c.first
    pub from : c.from t ≡ u
    pub whole : p.whole ≡ true
    pub idle : HasNoShares same hash w caller setting c blocks

  -- the one that it copies into was aborted
  abbrev pub CopiesAborted : Copier → ℕ → ℕ → Type 0
  CopiesAborted p u t = CopiesSuperseded p u t × (c.status t ≡ ABORTED)

  -- it is at one of the places that it is to copy
  abbrev pub HasRange : Copier → ℕ → Type 0
  HasRange p u = (p.place < p.end) × (p.end ≤ c.len u)

  -- it copies pair n, with this key and word
  pub record WorksOnSuperseded (p : Copier) (u t n : ℕ) (k : K) (word : ℕ) : Type 0 where
    pub copies : CopiesAborted p u t
    pub inside : HasRange p u
    pub place : c.place u p.place ≡ Holds n Copying false
    pub key : c.key n ≡ Some k
    pub word_is : word ≡ place_word hash c blocks (Holds n Still false)

  -- a try at the table that it copies into
  abbrev pub TriesAtSuperseded : Copier → ℕ → ℕ → Table → Probe → Type 0
  TriesAtSuperseded p word code table probe =
      (u : ℕ) × (t : ℕ) × (n : ℕ) × (k : K) × (j : ℕ) × WorksOnSuperseded p u t n k word × (code ≡ hash k) × (table ≡ p.target)
      × IsTrial c blocks (trial_at table probe) code t j

  -- The tables from s on, up to its target, which was the root and which the root has left, are its own: it has unlinked them.
  abbrev pub HasUnlinkedSuperseded : Copier → ℕ → ℕ → Type 0
  HasUnlinkedSuperseded p s t =
      (s < t) × IsTable c blocks p.target t × Left c began t × HasNoShares same hash w caller setting c blocks
      × ((u : ℕ) → s ≤ u → u < t → (blocks.table_known u ≡ true) × (w.hand (blocks.table u) ≡ Cutting caller))

  -- what it knows at a point
  abbrev pub SupersededCopying : Copier → Point → Type 0
  SupersededCopying p at.Asks = (u : ℕ) × (t : ℕ) × CopiesSuperseded p u t
  SupersededCopying p at.Sees = (u : ℕ) × (t : ℕ) × CopiesSuperseded p u t
  SupersededCopying p at.Claims = (u : ℕ) × (t : ℕ) × CopiesSuperseded p u t
  SupersededCopying p at.Marks = (u : ℕ) × (t : ℕ) × CopiesAborted p u t × HasRange p u
  SupersededCopying p (at.Probes word code table probe) = TriesAtSuperseded p word code table probe
  SupersededCopying p (at.Puts word code table probe) = TriesAtSuperseded p word code table probe
  SupersededCopying p at.Counts = (u : ℕ) × (t : ℕ) × CopiesAborted p u t
  SupersededCopying p at.Aborts = (u : ℕ) × (t : ℕ) × CopiesAborted p u t
  SupersededCopying p at.Replaces = (u : ℕ) × (t : ℕ) × CopiesAborted p u t
  SupersededCopying p (at.Remakes making) =
      (u : ℕ) × (t : ℕ) × CopiesAborted p u t × NewTableFacts w caller setting c blocks (Word (blocks.table t) NEXT) (suc t) making
  SupersededCopying p at.Promotes = (u : ℕ) × (t : ℕ) × CopiesSuperseded p u t
  SupersededCopying p at.Announces = (s : ℕ) × (t : ℕ) × IsTable c blocks p.source s × HasUnlinkedSuperseded p s t
  SupersededCopying p (at.Succeeds table) = (s : ℕ) × (t : ℕ) × HasUnlinkedSuperseded p s t × (table ≡ blocks.table s * 2048)
  SupersededCopying p (at.Retires settle rest) =
      (s : ℕ) × (t : ℕ) × HasUnlinkedSuperseded p s t × IsToRetire w caller setting settle (blocks.table s)
      × ((suc s < t → rest ≡ blocks.table (suc s) * 2048) × (suc s ≡ t → rest ≡ 0))
  SupersededCopying p at.Over = (t : ℕ) × IsTable c blocks p.target t × Left c began t × HasNoShares same hash w caller setting c blocks
  SupersededCopying p _ = ⊥

  -- what it knows where it stands
  pub record SupersededCopierFacts (p : Copier) : Type 0 where
    pub setting_is : p.setting ≡ setting
    pub point : SupersededCopying p p.stands
