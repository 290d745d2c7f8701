-- What a copier knows, at each of its points, where pairs move in incremental mode.
use Rattle.std.specs.Prelude.{◌≡◌, ◌≢◌, ℕ, suc, ◌<◌, ◌≤◌, Bool, true, false, Some}
use Rattle.papaya_raw.specs.Given.SeizeWorld.{World, Cutting}
use Rattle.papaya_raw.specs.Given.TablesTrials.{trial_at}
use Rattle.papaya_raw.specs.Given.TablesDeclared.node.Node.{Node}
use Rattle.papaya_raw.specs.Given.TablesDeclared.setting.Setting.{Setting}
use Rattle.papaya_raw.specs.Given.TablesDeclared.probe.Probe.{Probe}
use Rattle.papaya_raw.specs.Given.TablesDeclared.table.Table.{Table}
use Rattle.papaya_raw.specs.Given.TablesDeclared.table_words.TheConstants.{NEXT}
use Rattle.map_rule.specs.Given.ResizeDeclared.copier.Copier.{Copier}
use Rattle.map_rule.specs.Given.ResizeDeclared.copier.Copying.{Copying as Point}
use Rattle.map_rule.specs.Given.ResizeDeclared.copier.Copying.TheVariants as at
use Rattle.map_rule.specs.Given.SeizeWordsDeclared.at.At.TheVariants.{Word}
use Rattle.map_rule.specs.Chart.{Still, Copying, Holds, Claimed, Counted, Chart, is_settled}
use Rattle.map_rule.specs.Rule.{total}
use Rattle.map_rule.specs.Moves.{is_done_by, Taken, NamedInRootAlone, ShutBetween, WasPut}
use Rattle.map_rule.specs.Words.{Blocks, place_word}
use Rattle.map_rule.specs.Maps.{spot_of, IsTable, IsTrial}
use Rattle.map_facts.specs.FactsTables.{NewTableFacts}
use Rattle.map_facts.specs.FactsDisposes.{IsToRetire}

module _ {K V : Type 0} (same : K → K → Bool) (hash : K → ℕ) (w : World (Node K V)) (caller : ℕ) (setting : Setting) (c : Chart K) (blocks : Blocks) where
  -- it copies the root into the table behind
  abbrev pub CopiesRoot : Copier → Type 0
  CopiesRoot p = IsTable c blocks p.source c.first × IsTable c blocks p.target (suc c.first)

  -- It copies this table into the one behind. Once that one is the root, or is before it, nothing is left to be counted.
  abbrev pub Copies : Copier → ℕ → Type 0
  Copies p t = IsTable c blocks p.source t × IsTable c blocks p.target (suc t) × (t ≤ c.first) × (t < c.first → p.done ≡ 0)

  -- it has done so many places of those that are not counted
  abbrev pub HasDone : ℕ → Type 0
  HasDone done = done ≡ total (is_done_by caller) (c.share (suc c.first)) (c.len c.first)

  -- it is to copy none
  abbrev pub ClaimsNone : Type 0
  ClaimsNone = (j : ℕ) → c.share (suc c.first) j ≢ Claimed caller

  -- it is to copy this one alone
  abbrev pub ClaimsOnly : ℕ → Type 0
  ClaimsOnly place = (c.share (suc c.first) place ≡ Claimed caller) × ((j : ℕ) → c.share (suc c.first) j ≡ Claimed caller → j ≡ place)

  -- where it copies the whole table, all places below are settled
  abbrev pub HasSettled : Copier → ℕ → ℕ → Type 0
  HasSettled p t place = p.whole ≡ true → (j : ℕ) → j < place → is_settled (c.place t j) ≡ true

  -- its place is in its range, which ends within this table, and with it where it copies the whole table
  abbrev pub InRange : Copier → ℕ → Type 0
  InRange p t = (p.place < c.len t) × (p.end ≤ c.len t) × (p.whole ≡ true → p.end ≡ c.len t)

  -- it copies pair n, with this key and word
  pub record Works (p : Copier) (n : ℕ) (k : K) (word : ℕ) : Type 0 where
    pub copies : CopiesRoot p
    pub has_done : HasDone p.done
    pub claims : ClaimsOnly p.place
    pub in_range : InRange p c.first
    pub settled : HasSettled p c.first p.place
    pub borrowed : Bool
    pub place : c.place c.first p.place ≡ Holds n Copying borrowed
    pub key : c.key n ≡ Some k
    pub word_is : word ≡ place_word hash c blocks (Holds n Still borrowed)

  -- no later table has a pair of its class, and those before this one are shut for it
  abbrev pub LooksFor : K → ℕ → Type 0
  LooksFor k t = NamedInRootAlone same (spot_of hash) true c k × ShutBetween same (spot_of hash) true c t k

  -- a try at a later table: the tries before are taken
  abbrev pub Tries : Copier → ℕ → ℕ → Table → Probe → Type 0
  Tries p word code table probe =
      (n : ℕ) × (k : K) × (t : ℕ) × (j : ℕ) × Works p n k word × (code ≡ hash k) × (c.first < t)
      × IsTrial c blocks (trial_at table probe) code t j
      × ((g : ℕ) → g < j → Taken same (spot_of hash) true c t k g) × LooksFor k t

  -- a place of its own is marked, and it is to be refused
  abbrev pub Refuses : Copier → ℕ → Type 0
  Refuses p word = (n : ℕ) × (k : K) × Works p n k word × NamedInRootAlone same (spot_of hash) true c k

  -- a table before the root is its own: it has unlinked it
  abbrev pub HasUnlinked : Copier → Type 0
  HasUnlinked p =
      (s : ℕ) × (suc s ≤ c.first) × IsTable c blocks p.source s × IsTable c blocks p.target (suc s) × (w.hand (blocks.table s) ≡ Cutting caller)

  -- what a copier knows at a point, where pairs move in incremental mode
  abbrev pub CopyingFacts : Copier → Point → Type 0
  CopyingFacts p at.Begins = (0 < c.past) × (p.done ≡ 0) × HasDone 0 × ClaimsNone × (p.whole ≡ false)
  CopyingFacts p at.Follows = (p.done ≡ 0) × HasDone 0 × ClaimsNone × (p.whole ≡ false) × (t : ℕ) × (t ≤ c.first) × IsTable c blocks p.source t
  CopyingFacts p at.Asks =
      (t : ℕ) × Copies p t × (p.done ≡ 0) × HasDone 0 × ClaimsNone × (p.spent ≡ true) × (p.whole ≡ true) × HasSettled p t (c.len t)
  CopyingFacts p at.Sees = (t : ℕ) × Copies p t × (p.done ≡ 0) × HasDone 0 × ClaimsNone × (p.whole ≡ false)
  CopyingFacts p at.Claims = (t : ℕ) × Copies p t × (p.done ≡ 0) × HasDone 0 × ClaimsNone × (p.whole ≡ false)
  CopyingFacts p at.Marks = (t : ℕ) × Copies p t × HasDone p.done × ClaimsNone × InRange p t × HasSettled p t p.place
  CopyingFacts p (at.Probes word code table probe) = Tries p word code table probe
  CopyingFacts p (at.Puts word code table probe) = Tries p word code table probe
  CopyingFacts p (at.Covers word) = (n : ℕ) × (k : K) × Works p n k word × WasPut same (spot_of hash) true c n
  CopyingFacts p (at.Passes word code table) =
      (n : ℕ) × (k : K) × (t : ℕ) × Works p n k word × (code ≡ hash k) × (c.first < t) × IsTable c blocks table t × LooksFor k (suc t)
  CopyingFacts p (at.Grows word code making) =
      (n : ℕ) × (k : K) × (t : ℕ) × Works p n k word × (code ≡ hash k) × (c.first < t) × LooksFor k (suc t)
      × (t < c.past) × (blocks.table_known t ≡ true) × NewTableFacts w caller setting c blocks (Word (blocks.table t) NEXT) (suc t) making
  CopyingFacts p at.Counts = CopiesRoot p × (0 < p.done) × HasDone p.done × ClaimsNone × HasSettled p c.first (c.len c.first)
  CopyingFacts p (at.Tallies word fault) = Refuses p word
  CopyingFacts p (at.Unmarks word fault) = Refuses p word × (p.done ≡ 0)
  CopyingFacts p (at.Unclaims fault) = (t : ℕ) × Copies p t × (p.done ≡ 0) × HasDone 0 × ClaimsNone
  CopyingFacts p at.Promotes =
      (t : ℕ) × Copies p t × (p.done ≡ 0) × HasDone 0 × ClaimsNone × (t ≡ c.first → (j : ℕ) → j < c.len t → c.share (suc t) j ≡ Counted)
  CopyingFacts p at.Announces = HasUnlinked p × HasDone 0 × ClaimsNone
  CopyingFacts p (at.Succeeds table) = HasUnlinked p × HasDone 0 × ClaimsNone × (table ≡ p.source.link)
  CopyingFacts p (at.Retires settle rest) =
      (s : ℕ) × (suc s ≤ c.first) × IsToRetire w caller setting settle (blocks.table s) × (rest ≡ 0) × HasDone 0 × ClaimsNone × (blocks.table_known s ≡ true)
  CopyingFacts p at.Over = HasDone 0 × ClaimsNone
  CopyingFacts p (at.Refused fault) = HasDone 0 × ClaimsNone
  CopyingFacts p at.Aborts = ⊥
  CopyingFacts p at.Replaces = ⊥
  CopyingFacts p (at.Remakes making) = ⊥

  -- what a copier knows where it stands
  pub record CopierFacts (p : Copier) : Type 0 where
    pub setting_is : p.setting ≡ setting
    pub point : CopyingFacts p p.stands
