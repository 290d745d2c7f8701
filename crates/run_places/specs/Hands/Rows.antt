-- What the rows of the collector do that are within calls: they reclaim nothing, since a section that is open holds a block of each batch that they close.
use Rattle.std.specs.Prelude.{◌≡◌, ◌≢◌, ℕ, true, false, Some}
use Rattle.run_shows.specs.Given.SeizeWordsMem.{word_at}
use Rattle.run_shows.specs.Given.SeizeWordsDeclared.at.At.TheVariants.{Entry}
use Rattle.run_shows.specs.Given.SeizeDeclared.rows.settle.Settle.{Settle}
use Rattle.run_shows.specs.Given.SeizeDeclared.rows.settle.Settling.{Settling}
use Rattle.run_shows.specs.Given.SeizeDeclared.rows.settle.Settling.TheVariants as settling
use Rattle.run_shows.specs.Given.SeizeDeclared.states.TheConstants.{FIRST}
use Rattle.run_shows.specs.Given.SeizeLaw.{holds, is_retired}
use Rattle.run_shows.specs.Given.SeizeWorld.{World, Row, Settles, Leaves}
use Rattle.run_shows.specs.Given.CallersTogether.{UnderWay}
use Rattle.run_shows.specs.Scenes.Scene.{Scene, slot_of}

-- it stands where nothing is reclaimed, no list is counted down, and no flush is under way
abbrev pub IsAside : Settling → Type 0
IsAside (settling.Firsts block) = block ≢ 0
IsAside settling.Nexts = ⊥
IsAside (settling.Drains next word) = ⊥
IsAside (settling.Joins next more) = ⊥
IsAside (settling.Tails next) = ⊥
IsAside (settling.Takes next) = ⊥
IsAside settling.Puts = ⊥
IsAside settling.Lists = ⊥
IsAside (settling.Owns next) = ⊥
IsAside (settling.Downs next batch) = ⊥
IsAside _ = Unit {0}

-- the row reclaims nothing: it has no batch that it reclaims, and no list, and it does not flush
abbrev pub SettlesAside : Settle → Type 0
SettlesAside c = (c.reclaiming ≡ 0) × (c.list ≡ 0) × (c.flushing ≡ false) × IsAside c.stands

abbrev pub ReclaimsNone : Row → Type 0
ReclaimsNone (Settles c) = SettlesAside c
ReclaimsNone (Leaves c) = ⊥
ReclaimsNone _ = Unit {0}

-- in the batch with this first block is one that was retired, and that the open section of this slot holds
pub record HoldsOne {T : Type 0} (w : World T) (slot first : ℕ) : Type 0 where
  pub block : ℕ
  pub held : holds slot block w.log ≡ true
  pub retired : is_retired block w.log ≡ true
  pub is_first : word_at w.memory (Entry block FIRST) ≡ Some first

-- such a block is in the batch that a row tries, or closes
abbrev pub TriesOne : (ℕ → Type 0) → Settle → Settling → Type 0
TriesOne One c (settling.Scans slot block marks) = One c.first
TriesOne One c (settling.Marks slot block marks) = One c.first
TriesOne One c (settling.Marked slot block marks) = One c.first
TriesOne One c (settling.Closes marks) = One c.first
TriesOne One c (settling.Reads block left pushed) = One c.first
TriesOne One c (settling.Links block left pushed slot head) = One c.first
TriesOne One c (settling.Pushes block left pushed slot head) = One c.first
TriesOne One c (settling.Pushed block left pushed) = One c.first
TriesOne One c (settling.Sums pushed) = One c.first
TriesOne One c _ = Unit {0}

abbrev pub KeepsOne : (ℕ → Type 0) → Row → Type 0
KeepsOne One (Settles c) = TriesOne One c c.stands
KeepsOne One _ = Unit {0}

-- so it is of each row within a call
pub record RowsReclaimNone {K V : Type 0} (s : Scene K V) : Type 0 where
  pub none : (map i : ℕ) (u : UnderWay K V K) → s.calls map i ≡ Some u → ReclaimsNone (s.world.row i)
  pub one : (map i : ℕ) (u : UnderWay K V K) → s.calls map i ≡ Some u → KeepsOne (HoldsOne s.world (slot_of i)) (s.world.row i)
