-- What a copier knows, at each of its points, where all pairs are copied at once.
use Rattle.std.specs.Prelude.{◌≡◌, ◌≢◌, ℕ, suc, ◌*◌, ◌^◌, ◌<◌, ◌≤◌, Bool, true, false, Some}
use Rattle.map_rule.specs.Given.SeizeWordsDeclared.at.At.TheVariants.{Word}
use Rattle.papaya_raw.specs.Given.SeizeWorld.{World, Cutting}
use Rattle.papaya_raw.specs.Given.TablesTrials.{trial_at}
use Rattle.papaya_raw.specs.Given.TablesDeclared.node.Node.{Node}
use Rattle.papaya_raw.specs.Given.TablesDeclared.probe.Probe.{Probe}
use Rattle.papaya_raw.specs.Given.TablesDeclared.setting.Setting.{Setting}
use Rattle.papaya_raw.specs.Given.TablesDeclared.status.TheConstants.Status.{ABORTED}
use Rattle.papaya_raw.specs.Given.TablesDeclared.table.Table.{Table}
use Rattle.papaya_raw.specs.Given.TablesDeclared.table_words.TheConstants.{NEXT}
use Rattle.map_rule.specs.Given.ResizeDeclared.copier.Copier.{Copier}
use Rattle.map_rule.specs.Given.ResizeDeclared.copier.Copying.{Copying as Point}
use Rattle.map_rule.specs.Given.ResizeDeclared.copier.Copying.TheVariants as at
use Rattle.map_rule.specs.Chart.{Still, Copying, Holds, Claimed, Counted, Lost, Chart}
use Rattle.map_rule.specs.Rule.{total}
use Rattle.map_rule.specs.Moves.{is_of_caller, is_done_by, Taken}
use Rattle.map_rule.specs.Words.{Blocks, place_word}
use Rattle.map_rule.specs.Maps.{spot_of, IsTable, IsTrial}
use Rattle.map_facts.specs.FactsTables.{NewTableFacts}
use Rattle.map_facts.specs.FactsDisposes.{IsToRetire}

module _ {K V : Type 0} (same : K → K → Bool) (hash : K → ℕ) (w : World (Node K V)) (caller : ℕ) (setting : Setting) (c : Chart K) (blocks : Blocks) where
  -- it has no part in the copying into any table behind the root
  abbrev pub HasNoShares : Type 0
  HasNoShares = (u j : ℕ) → c.first < u → is_of_caller caller (c.share u j) ≡ false

  -- it copies the root into a later table, with this turn
  abbrev pub CopiesInto : Copier → ℕ → Type 0
  CopiesInto p t = IsTable c blocks p.source c.first × (c.first < t) × IsTable c blocks p.target t × (p.whole ≡ true)

  -- its shares behind the root, which are in that table alone: so many are done and not counted, and those of its range are to be copied
  abbrev pub HasDoneIn : ℕ → ℕ → Type 0
  HasDoneIn t done =
      (done ≡ total (is_done_by caller) (c.share t) (c.len c.first)) × ((u j : ℕ) → c.first < u → u ≢ t → is_of_caller caller (c.share u j) ≡ false)

  -- these places, and no others, are its own to copy into this table
  abbrev pub ClaimsRange : ℕ → ℕ → ℕ → Type 0
  ClaimsRange t place end =
      ((j : ℕ) → place ≤ j → j < end → c.share t j ≡ Claimed caller)
      × ((j : ℕ) → c.share t j ≡ Claimed caller → (place ≤ j) × (j < end))

  -- it is to copy no place into this table
  abbrev pub ClaimsNoneIn : ℕ → Type 0
  ClaimsNoneIn t = (j : ℕ) → c.share t j ≢ Claimed caller

  -- nothing is claimed or done
  abbrev pub RestsIn : Copier → ℕ → Type 0
  RestsIn p t = CopiesInto p t × (p.done ≡ 0) × HasNoShares

  -- it copies pair n, with this key and word
  pub record WorksIn (p : Copier) (t n : ℕ) (k : K) (word : ℕ) : Type 0 where
    pub copies : CopiesInto p t
    pub has_done : HasDoneIn t p.done
    pub claims : ClaimsRange t p.place p.end
    pub inside : (p.place < p.end) × (p.end ≤ c.len c.first)
    pub place : c.place c.first p.place ≡ Holds n Copying false
    pub key : c.key n ≡ Some k
    pub word_is : word ≡ place_word hash c blocks (Holds n Still false)

  -- a try at that table: the tries before are taken
  abbrev pub TriesIn : Copier → ℕ → ℕ → Table → Probe → Type 0
  TriesIn p word code table probe =
      (t : ℕ) × (n : ℕ) × (k : K) × (j : ℕ) × WorksIn p t n k word × (code ≡ hash k) × (table ≡ p.target)
      × IsTrial c blocks (trial_at table probe) code t j × ((g : ℕ) → g < j → Taken same (spot_of hash) false c t k g)

  -- some place was given up for that table
  abbrev pub GaveUp : Copier → ℕ → Type 0
  GaveUp p t = RestsIn p t × (j : ℕ) × (j < c.len c.first) × (c.share t j ≡ Lost)

  -- The tables from this one on, up to its target, are its own: it has unlinked them. The target is the root.
  abbrev pub HasUnlinkedFrom : Copier → ℕ → Type 0
  HasUnlinkedFrom p s =
      (s < c.first) × IsTable c blocks p.target c.first × HasNoShares
      × ((u : ℕ) → s ≤ u → u < c.first → (blocks.table_known u ≡ true) × (w.hand (blocks.table u) ≡ Cutting caller))

  -- what a copier knows at a point, where pairs move in blocking mode
  abbrev pub CopyingFactsBlocking : Copier → Point → Type 0
  CopyingFactsBlocking p at.Asks = (t : ℕ) × RestsIn p t
  CopyingFactsBlocking p at.Sees = (t : ℕ) × RestsIn p t
  CopyingFactsBlocking p at.Claims = (t : ℕ) × RestsIn p t × (c.claim t < 2 ^ 63)
  CopyingFactsBlocking p at.Marks =
      (t : ℕ) × CopiesInto p t × HasDoneIn t p.done × ClaimsRange t p.place p.end × (p.place < p.end) × (p.end ≤ c.len c.first)
  CopyingFactsBlocking p (at.Probes word code table probe) = TriesIn p word code table probe
  CopyingFactsBlocking p (at.Puts word code table probe) = TriesIn p word code table probe
  CopyingFactsBlocking p at.Counts = (t : ℕ) × CopiesInto p t × (0 < p.done) × HasDoneIn t p.done × ClaimsNoneIn t
  CopyingFactsBlocking p at.Aborts = (t : ℕ) × GaveUp p t
  CopyingFactsBlocking p at.Replaces = (t : ℕ) × RestsIn p t × (c.status t ≡ ABORTED)
  CopyingFactsBlocking p (at.Remakes making) =
      (t : ℕ) × RestsIn p t × (c.status t ≡ ABORTED) × NewTableFacts w caller setting c blocks (Word (blocks.table t) NEXT) (suc t) making
  CopyingFactsBlocking p at.Promotes =
      (t : ℕ) × RestsIn p t × ((j : ℕ) → j < c.len c.first → c.share t j ≡ Counted)
  CopyingFactsBlocking p at.Announces = (s : ℕ) × IsTable c blocks p.source s × HasUnlinkedFrom p s
  CopyingFactsBlocking p (at.Succeeds table) = (s : ℕ) × HasUnlinkedFrom p s × (table ≡ blocks.table s * 2048)
  CopyingFactsBlocking p (at.Retires settle rest) =
      (s : ℕ) × HasUnlinkedFrom p s × IsToRetire w caller setting settle (blocks.table s)
      × ((suc s < c.first → rest ≡ blocks.table (suc s) * 2048) × (suc s ≡ c.first → rest ≡ 0))
  CopyingFactsBlocking p at.Over = IsTable c blocks p.target c.first × HasNoShares
  CopyingFactsBlocking p (at.Refused fault) = HasNoShares
  CopyingFactsBlocking p at.Begins = ⊥
  CopyingFactsBlocking p at.Follows = ⊥
  CopyingFactsBlocking p (at.Covers word) = ⊥
  CopyingFactsBlocking p (at.Passes word code table) = ⊥
  CopyingFactsBlocking p (at.Grows word code making) = ⊥
  CopyingFactsBlocking p (at.Tallies word fault) = ⊥
  CopyingFactsBlocking p (at.Unmarks word fault) = ⊥
  CopyingFactsBlocking p (at.Unclaims fault) = ⊥

  -- what a copier knows where it stands
  pub record CopierFactsBlocking (p : Copier) : Type 0 where
    pub setting_is : p.setting ≡ setting
    pub point : CopyingFactsBlocking p p.stands
