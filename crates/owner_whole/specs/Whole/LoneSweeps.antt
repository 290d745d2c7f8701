-- What is so at each point of a sweep where one caller alone has a part in the copying of its map: nobody else copies, and it goes over the table of the root.
use Rattle.std.specs.Prelude.{◌≡◌, ℕ, suc, ◌<◌, ◌≤◌, Bool, true, false, List, []}
use Rattle.papaya_raw.specs.Given.ReservesDeclared.sweep.Purpose.{Purpose}
use Rattle.papaya_raw.specs.Given.ReservesDeclared.sweep.Purpose.TheVariants.{Walks, Clears, Retains}
use Rattle.papaya_raw.specs.Given.ReservesDeclared.sweep.Sweep.{Sweep}
use Rattle.papaya_raw.specs.Given.ReservesDeclared.sweep.Sweeping.{Sweeping}
use Rattle.papaya_raw.specs.Given.ReservesDeclared.sweep.Sweeping.TheVariants as at
use Rattle.map_measures.specs.Given.RuleChart.{Still, Holds, Chart}
use Rattle.map_measures.specs.Given.RuleWords.{Blocks, place_word}
use Rattle.map_measures.specs.Given.PointsMeasures.{OthersIdle}
use Rattle.owner_facts.specs.Alone.FactsAloneCalls.{TablesAlone}
use Rattle.owner_facts.specs.Maps.FactsAloneReserves.{CopierAlone}

-- it has come to no place of a table
abbrev pub IsBefore : Sweeping → Type 0
IsBefore at.Reads = Unit {0}
IsBefore at.Follows = Unit {0}
IsBefore (at.Copies copier) = Unit {0}
IsBefore (at.Refused fault) = Unit {0}
IsBefore _ = ⊥

-- It goes over the places of one table, and never begins anew: in incremental mode it has seen each copying through before, and a walk passes no mark.
abbrev pub goes_once : Bool → Purpose → Bool
goes_once incremental Walks = true
goes_once incremental Clears = incremental
goes_once incremental Retains = incremental

module _ {K : Type 0} where
  -- Nobody is to promote a table, nor to say that one was promoted or given up, but where the sweep itself copies.
  abbrev pub SweepsAlone : Bool → Chart K → Sweeping → Type 0
  SweepsAlone incremental c (at.Copies copier) = CopierAlone incremental c copier
  SweepsAlone incremental c _ = TablesAlone incremental c

  -- a sweep of this caller stands there, and no other caller has a part in a copying
  pub record IsLoneSweep (incremental : Bool) (caller : ℕ) (c : Chart K) (stands : Sweeping) : Type 0 where
    pub idle : OthersIdle caller c
    pub point : SweepsAlone incremental c stands

module _ {K : Type 0} (hash : K → ℕ) (incremental : Bool) (c : Chart K) (seen : Blocks) where
  -- its table is the root's; in incremental mode none is behind it
  pub record GoesOverRoot (p : Sweep) : Type 0 where
    pub root : p.table.turn ≡ c.first
    pub last : incremental ≡ true → c.past ≤ suc c.first

  -- the pair of this word stands unmarked at its place
  abbrev pub LiesThere : Sweep → ℕ → Type 0
  LiesThere p word = (n : ℕ) × (borrowed : Bool) × (c.place p.table.turn p.place ≡ Holds n Still borrowed) × (word ≡ place_word hash c seen (Holds n Still borrowed))

  -- What is so of its table. What a retaining asks about, or is about to remove, stands at its place.
  abbrev pub OverRoot : Sweep → Sweeping → Type 0
  OverRoot p at.Follows = incremental ≡ false → p.table.turn ≡ c.first
  OverRoot p at.Ready = 0 < p.table.len → GoesOverRoot p
  OverRoot p at.Words = GoesOverRoot p
  OverRoot p (at.Asks word) = GoesOverRoot p × LiesThere p word
  OverRoot p (at.Tries word) = GoesOverRoot p × (p.purpose ≡ Retains → LiesThere p word)
  OverRoot p (at.Counts removed) = GoesOverRoot p
  OverRoot p (at.Disposes dispose) = GoesOverRoot p
  OverRoot p _ = Unit {0}

  -- One that goes over one table alone has done nothing before it has come to a place.
  pub record IsOverRoot (p : Sweep) (done : List ℕ) : Type 0 where
    pub table : OverRoot p p.stands
    pub before : goes_once incremental p.purpose ≡ true → IsBefore p.stands → done ≡ []
