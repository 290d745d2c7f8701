-- Whose the blocks are that users have and behind which something may be put: linked tables of maps that stand, tables that a call has unlinked and is to hand
-- over, and those of maps that end.
use Rattle.std.specs.Prelude.{◌≡◌, ◌≢◌, ◌⊎◌, ℕ, ◌*◌, ◌<◌, ◌≤◌, false, Option, Some, None}
use Rattle.run_shows.specs.Given.SeizeWordsMem.{value_at}
use Rattle.run_shows.specs.Given.SeizeSettle.{retiring}
use Rattle.run_shows.specs.Given.SeizeWorld.{World, Rests, times}
use Rattle.seize_acts.specs.Acts.Reclaimed.{IsStillHad}
use Rattle.run_shows.specs.Given.TablesChunks.{is_incremental}
use Rattle.run_shows.specs.Given.TablesNodes.{deferred_word}
use Rattle.run_shows.specs.Given.TablesDeclared.node.Node.{Node}
use Rattle.run_shows.specs.Given.ResizeDeclared.copier.Copier.{Copier}
use Rattle.run_shows.specs.Given.ResizeDeclared.copier.Copying.{Copying}
use Rattle.run_shows.specs.Given.ResizeDeclared.copier.Copying.TheVariants as copies
use Rattle.run_shows.specs.Given.ReservesDeclared.reserve.Reserving.{Reserving}
use Rattle.run_shows.specs.Given.ReservesDeclared.reserve.Reserving.TheVariants as reserving
use Rattle.run_shows.specs.Given.ReservesDeclared.sweep.Sweeping.{Sweeping}
use Rattle.run_shows.specs.Given.ReservesDeclared.sweep.Sweeping.TheVariants as sweeping
use Rattle.run_shows.specs.Given.RawDeclared.machines.call.Calling.{Calling}
use Rattle.run_shows.specs.Given.RawDeclared.machines.call.Calling.TheVariants as calling
use Rattle.owner_facts.specs.Given.CallersTogether.{UnderWay, OnKey, ForRoom, Counting, OverAll}
use Rattle.owner_facts.specs.Given.FinishesEndings.{Finishing}
use Rattle.owner_facts.specs.Given.FinishesMaps.{Standing}
use Rattle.run_shows.specs.Reclaims.Deferred.{IsLinkedTable}

-- a copier is to hand this block over next: it has unlinked that table
abbrev pub IsObligedAt : Copier → Copying → ℕ → Type 0
IsObligedAt p copies.Announces b = p.source.link ≡ b * 2048
IsObligedAt p (copies.Succeeds table) b = table ≡ b * 2048
IsObligedAt p (copies.Retires settle rest) b = settle ≡ retiring p.setting.slot p.setting.batch_size (b * 2048)
IsObligedAt p _ b = ⊥

-- the word of the table that it comes to next, of those that it has unlinked: while it retires one, that of the one behind, or 0 if none is left
abbrev pub next_of_them : Copier → Copying → ℕ
next_of_them p copies.Announces = p.source.link
next_of_them p (copies.Succeeds table) = table
next_of_them p (copies.Retires settle rest) = rest
next_of_them p _ = 0

-- Of a map with so many tables, in these blocks: whoever has unlinked tables up to one with this turn comes to them one after another, by the word of the next.
module _ (past : ℕ) (table : ℕ → ℕ) (word target : ℕ) where
  -- the next one has turn t: no later one before the target stands in the block that the word names
  pub record IsNext (t : ℕ) : Type 0 where
    pub named : word ≡ table t * 2048
    pub some : 0 < table t
    pub last : (u : ℕ) → t < u → u < target → table u ≢ table t
    pub made : target < past

  -- the block is that of this table, or of one behind it, before the target
  abbrev pub IsAhead : ℕ → Type 0
  IsAhead b = (t : ℕ) × IsNext t × (u : ℕ) × (t ≤ u) × (u < target) × (b ≡ table u)

-- the copier within a call, if one is
abbrev pub copier_of_call : Calling → Option Copier
copier_of_call (calling.Helps copier goal) = Some copier
copier_of_call (calling.Copies copier) = Some copier
copier_of_call _ = None

abbrev pub copier_of_room : Reserving → Option Copier
copier_of_room (reserving.Copies copier) = Some copier
copier_of_room _ = None

abbrev pub copier_of_sweep : Sweeping → Option Copier
copier_of_sweep (sweeping.Copies copier) = Some copier
copier_of_sweep _ = None

abbrev pub copier_of : {K V Q : Type 0} → UnderWay K V Q → Option Copier
copier_of (OnKey u) = copier_of_call u.call.stands
copier_of (ForRoom r) = copier_of_room r.reserve.stands
copier_of (Counting sum) = None
copier_of (OverAll o) = copier_of_sweep o.sweep.stands

-- where pairs move in blocking mode, a copier of map m has unlinked several tables, and is to come to that one
abbrev pub IsToCome : {K : Type 0} → (ℕ → Option (Standing K)) → ℕ → Copier → ℕ → Type 0
IsToCome {K} maps m p b =
    (s : Standing K) × (maps m ≡ Some s) × (is_incremental s.setting.mode ≡ false)
    × IsAhead s.chart.past s.blocks.table (next_of_them p p.stands) p.target.turn b

module _ {K V : Type 0} (w : World (Node K V)) (maps : ℕ → Option (Standing K)) where
  -- the copier of caller i, on map m, is to hand the block over next, and has not begun to, or is to come to it
  abbrev pub IsToHandOver : (m i : ℕ) → Copier → ℕ → Type 0
  IsToHandOver m i p b = ((w.row i ≡ Rests) × IsObligedAt p p.stands b) ⊎ IsToCome maps m p b

  module _ {Q : Type 0} where
    -- so is the copier within what caller i has under way
    abbrev pub HasObligation : (m i : ℕ) → UnderWay K V Q → ℕ → Type 0
    HasObligation m i u b = (p : Copier) × (copier_of u ≡ Some p) × IsToHandOver m i p b

module _ {K V Q : Type 0} (w : World (Node K V)) (maps : ℕ → Option (Standing K)) (calls : ℕ → ℕ → Option (UnderWay K V Q)) (enders : ℕ → Option (Finishing K V)) where
  -- a call that is under way is to hand it over
  abbrev pub IsObligation : ℕ → Type 0
  IsObligation b = (m : ℕ) × (i : ℕ) × (u : UnderWay K V Q) × (calls m i ≡ Some u) × HasObligation w maps m i u b

  -- it is a table of a map that ends, and was not reclaimed so far
  abbrev pub IsEnding : ℕ → Type 0
  IsEnding b =
      (i : ℕ) × (f : Finishing K V) × (enders i ≡ Some f) × (t : ℕ) × (f.chart.first ≤ t) × (t < f.chart.past) × (b ≡ f.blocks.table t) × (times b f.back ≡ 0)

  -- whose it is
  abbrev pub IsTheirs : ℕ → Type 0
  IsTheirs b = IsLinkedTable w maps b ⊎ (IsObligation b ⊎ IsEnding b)

  -- users have the block, and something may be put behind it
  abbrev pub CanCarry : ℕ → Type 0
  CanCarry b = IsStillHad (w.hand b) × (field : ℕ) × (value : Node K V) × (value_at w.memory b ≡ Some value) × (deferred_word value ≡ Some field)

  -- Each such block is a linked table of a map that stands, or a call is to hand it over, or it is of a map that ends.
  abbrev pub AllAreTheirs : Type 0
  AllAreTheirs = (b : ℕ) → CanCarry b → IsTheirs b
