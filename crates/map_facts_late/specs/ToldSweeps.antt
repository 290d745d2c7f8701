-- What a step of a sweep tells, beside where it led.
use Rattle.std.specs.Prelude.{◌≡◌, ◌≢◌, ℕ, Bool, true, false, Option, Some, None, ◌⊎◌}
use Rattle.map_facts.specs.Given.SeizeWorld.{World}
use Rattle.map_facts.specs.Given.TablesChunks.{is_incremental}
use Rattle.map_facts.specs.Given.TablesDeclared.node.Node.{Node}
use Rattle.map_facts.specs.Given.TablesDeclared.resize_mode.ResizeMode.{ResizeMode}
use Rattle.map_facts.specs.Given.TablesDeclared.setting.Setting.{Setting}
use Rattle.map_facts.specs.Given.ResizeDeclared.copier.Copier.{Copier}
use Rattle.map_facts.specs.Given.ResizeDeclared.copier.Copying.TheVariants as copies
use Rattle.map_facts.specs.Given.ReservesDeclared.sweep.Purpose.TheVariants.{Retains}
use Rattle.map_facts.specs.Given.ReservesDeclared.sweep.Sweep.{Sweep}
use Rattle.map_facts.specs.Given.ReservesDeclared.sweep.Sweeping.{Sweeping}
use Rattle.map_facts.specs.Given.ReservesDeclared.sweep.Sweeping.TheVariants as at
use Rattle.map_facts.specs.Given.ReservesDeclared.sweep.Swept.{Swept}
use Rattle.map_facts.specs.Given.ReservesDeclared.sweep.Swept.TheVariants as swept
use Rattle.map_facts.specs.Given.RuleChart.{Phase, Still, Holds, Chart, put}
use Rattle.map_facts.specs.Given.RuleWords.{Blocks, place_word}
use Rattle.map_facts.specs.Given.RuleMoves.{Removes, after}
use Rattle.map_facts.specs.Given.RuleMaps.{spot_of, IsTable}
use Rattle.map_facts.specs.Told.{IsRowOf, IsRowOfCopier}
use Rattle.map_facts_late.specs.FactsSweeps.{CopiesPairs, SweepFacts}

-- the steps in which a row of the collector is under way
abbrev pub IsRowOfSweep : Sweeping → Type 0
IsRowOfSweep (at.Copies copier) = IsRowOfCopier copier.stands
IsRowOfSweep (at.Disposes dispose) = IsRowOf dispose.stands
IsRowOfSweep _ = ⊥

-- the word of a pair that it shows, or asks about
abbrev pub word_shown : {T : Type 0} → Swept T → Option ℕ
word_shown (swept.Pair word) = Some word
word_shown (swept.Asks word) = Some word
word_shown _ = None

-- it reads the word of its place there
abbrev pub ReadsPlace : Sweeping → Type 0
ReadsPlace at.Words = Unit {0}
ReadsPlace (at.Tries word) = Unit {0}
ReadsPlace _ = ⊥

-- What it tells says where it stands: it is ready behind a pair that it shows, which it has read at its place, asks where it says so, and is over at its
-- end.
abbrev pub OutcomeAgrees : {T : Type 0} → Sweeping → Sweeping → Swept T → Type 0
OutcomeAgrees was stands (swept.Pair word) = ReadsPlace was × (stands ≡ at.Ready)
OutcomeAgrees was stands (swept.Asks word) = stands ≡ at.Asks word
OutcomeAgrees was stands swept.Done = stands ≡ at.Over
OutcomeAgrees was stands (swept.Refused fault) = stands ≡ at.Refused fault
OutcomeAgrees was stands _ = Unit {0}

-- where it stands after a step
pub record IsAtPointThen {T : Type 0} (p p2 : Sweep) (end : Swept T) : Type 0 where
  pub purpose : p2.purpose ≡ p.purpose
  pub tells : OutcomeAgrees p.stands p2.stands end
  -- a retaining comes to remove a pair by what it is told alone
  pub tries : p.purpose ≡ Retains → (word : ℕ) → p2.stands ≢ at.Tries word
  -- a copying that begins is to claim no places yet
  pub begins : (CopiesPairs p.stands → ⊥) → (copier : Copier) → p2.stands ≡ at.Copies copier → copier.stands ≢ copies.Claims

-- no move was made, or a pair was removed
abbrev pub OnlyRemoves : {K : Type 0} → (K → ℕ) → ResizeMode → Chart K → Chart K → Type 0
OnlyRemoves hash mode c c2 = (c2 ≡ c) ⊎ ((t : ℕ) × (i : ℕ) × (c2 ≡ after (spot_of hash) (is_incremental mode) (Removes t i) c))

module _ {K : Type 0} (hash : K → ℕ) (c : Chart K) (blocks : Blocks) where
  -- the word names a pair that stands at its place, in this phase
  abbrev pub NamesThere : Sweep → ℕ → ℕ → Phase → Type 0
  NamesThere p word n phase =
      (t : ℕ) × (borrowed : Bool) × IsTable c blocks p.table t × (c.place t p.place ≡ Holds n phase borrowed) × (word ≡ place_word hash c blocks (Holds n phase borrowed))

  -- it was at a try, and has removed the pair of its word, which the map had
  abbrev pub RemovesPair : Sweep → Chart K → Type 0
  RemovesPair p c2 =
      (word : ℕ) × (n : ℕ) × (p.stands ≡ at.Tries word) × NamesThere p word n Still × (c.current n ≡ true) × (c2.current ≡ put c.current n false)

module _ {K V : Type 0} (same : K → K → Bool) (hash : K → ℕ) (caller : ℕ) (setting : Setting) (began : ℕ) where
  -- it knows what its next point is to know, and reclaims nothing itself beside rows of the collector
  abbrev pub SweepAfter : World (Node K V) → Chart K → Blocks → Sweep × Swept (Node K V) → Type 0
  SweepAfter w c blocks (p, swept.Gave value) = ⊥
  SweepAfter w c blocks (p, _) = SweepFacts same hash w caller setting c blocks began p

  -- It changes no pair of the map, but the one that it removes; and beside its copying it makes no other change of the tables. A pair that it shows, or
  -- comes to ask about, stands at its place.
  pub record SweepOutcome (c : Chart K) (blocks : Blocks) (p : Sweep) (w2 : World (Node K V)) (c2 : Chart K) (blocks2 : Blocks) (p2 : Sweep) (end : Swept (Node K V)) : Type 0 where
    pub facts : SweepAfter w2 c2 blocks2 (p2, end)
    pub changes : (c2.current ≡ c.current) ⊎ RemovesPair hash c blocks p c2
    pub beside : (CopiesPairs p.stands → ⊥) → OnlyRemoves hash setting.mode c c2
    pub shows : (word : ℕ) → word_shown end ≡ Some word → p.stands ≢ at.Asks word → (n : ℕ) × (phase : Phase) × NamesThere hash c2 blocks2 p word n phase
    pub stands : IsAtPointThen p p2 end
