-- What links lead to. A link is a word that names a block: that of a map's root, or one of a table, to the next table or at a place. A world is tied where
-- whatever they lead to can be reached, as the log tells.
use Rattle.std.specs.Prelude.{◌≡◌, ◌⊎◌, ℕ, zero, suc, ◌+◌, ◌<◌, true, false, cond, eqb, List, [], ◌∷◌, Option, Some}
use Rattle.run_shows.specs.Given.SeizeWordsMem.{Mem, value_at, word_at}
use Rattle.run_shows.specs.Given.SeizeWordsWord.{block_in}
use Rattle.run_shows.specs.Given.SeizeWordsDeclared.at.At.{At}
use Rattle.run_shows.specs.Given.SeizeWordsDeclared.at.At.TheVariants.{Root, Word}
use Rattle.run_shows.specs.Given.SeizeLaw.{Effect, Unlinked, reachable, is_over, holds}
use Rattle.run_shows.specs.Given.SeizeWorld.{World, IsInside}
use Rattle.run_shows.specs.Given.TablesDeclared.node.Node.{Node}
use Rattle.run_shows.specs.Given.TablesDeclared.node.Node.TheVariants as node
use Rattle.run_shows.specs.Given.TablesDeclared.table_words.TheConstants.{NEXT, PLACES}
use Rattle.run_shows.specs.Given.RuleInWorld.{IsKnownBlock}
use Rattle.owner_facts.specs.Given.CallersSights.{seen_by}
use Rattle.owner_facts.specs.Given.FinishesMaps.{Standing}

-- the word is one of a table with so many places that links it to the next table, or stands for one of its places
abbrev pub IsLink : ℕ → ℕ → Type 0
IsLink len field = (field ≡ NEXT) ⊎ ((i : ℕ) × (i < len) × (field ≡ i + PLACES))

module _ {K V : Type 0} (m : Mem (Node K V)) where
  -- the word that is there names the block
  abbrev pub Names : At → ℕ → Type 0
  Names at b = (word : ℕ) × (word_at m at ≡ Some word) × (block_in word ≡ b) × (0 < b)

  -- a table stands in the block t, and a link of it names b; one of no places is none
  abbrev pub TableNames : ℕ → ℕ → Type 0
  TableNames t b =
      (len : ℕ) × (limit : ℕ) × (turn : ℕ) × (field : ℕ) × (value_at m t ≡ Some (node.Table (suc len) limit turn)) × IsLink (suc len) field × Names (Word t field) b

module _ {K V : Type 0} (w : World (Node K V)) (maps : ℕ → Option (Standing K)) where
  -- the root of a map that stands names the block
  abbrev pub RootNames : ℕ → Type 0
  RootNames b = (m : ℕ) × (s : Standing K) × (maps m ≡ Some s) × Names w.memory (Root s.setting.root) b

  -- so many links of tables lead there from such a root
  abbrev pub LeadBy : ℕ → ℕ → Type 0
  LeadBy zero b = RootNames b
  LeadBy (suc n) b = (t : ℕ) × LeadBy n t × TableNames w.memory t b

  -- A table names the block that can be reached, as the log tells, and was not over as its owner ended.
  abbrev pub ReachedTableNames : ℕ → Type 0
  ReachedTableNames b = (t : ℕ) × (reachable t w.log ≡ true) × (is_over t w.log ≡ false) × TableNames w.memory t b

  -- links lead to the block, from a root or from a table that can be reached
  abbrev pub LinksLead : ℕ → Type 0
  LinksLead b = ((n : ℕ) × LeadBy n b) ⊎ ReachedTableNames b

  -- What links lead to can be reached.
  abbrev pub IsTied : Type 0
  IsTied = (b : ℕ) → LinksLead b → reachable b w.log ≡ true

  -- Each section that somebody is inside holds it.
  abbrev pub IsHeldInside : Type 0
  IsHeldInside = (slot : ℕ) → IsInside (w.uses slot) → (b : ℕ) → LinksLead b → holds slot b w.log ≡ true

module _ {K V : Type 0} (w : World (Node K V)) where
  -- What a section sees of a map is closed: what the root names it sees, and with a table what a link of that names. And it holds what it sees.
  pub record IsClosed (s : Standing K) (slot : ℕ) : Type 0 where
    pub root : (b : ℕ) → Names w.memory (Root s.setting.root) b → IsKnownBlock s.chart (seen_by s.blocks (s.sights slot)) b
    pub tables : (t b : ℕ) → IsKnownBlock s.chart (seen_by s.blocks (s.sights slot)) t → TableNames w.memory t b → IsKnownBlock s.chart (seen_by s.blocks (s.sights slot)) b
    pub held : (b : ℕ) → IsKnownBlock s.chart (seen_by s.blocks (s.sights slot)) b → holds slot b w.log ≡ true

  -- So it is in each section that somebody is inside, and of each map that stands.
  abbrev pub AllAreClosed : (ℕ → Option (Standing K)) → Type 0
  AllAreClosed maps = (m : ℕ) (s : Standing K) → maps m ≡ Some s → (slot : ℕ) → IsInside (w.uses slot) → IsClosed s slot

-- how often the block was unlinked
abbrev pub unlinkings : ℕ → List Effect → ℕ
unlinkings b [] = 0
unlinkings b (Unlinked c ∷ log) = cond (eqb b c) (suc (unlinkings b log)) (unlinkings b log)
unlinkings b (_ ∷ log) = unlinkings b log

-- A block that was unlinked from one world to the other could be reached in the one, can't be in the other, and no links lead to it there.
abbrev pub UnlinksWhatNoneNames : {K V : Type 0} → World (Node K V) → World (Node K V) → (ℕ → Option (Standing K)) → Type 0
UnlinksWhatNoneNames w w2 maps = (b : ℕ) → unlinkings b w.log < unlinkings b w2.log → (reachable b w.log ≡ true) × (reachable b w2.log ≡ false) × (LinksLead w2 maps b → ⊥)
