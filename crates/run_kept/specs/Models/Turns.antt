-- Rows that run to their ends one after another: a world that came about so, and one in the midst of such a row.
use Rattle.std.specs.Prelude.{◌≡◌, ◌<◌, ◌^◌, ℕ, List, [], ◌++◌, Option}
use Rattle.seize.specs.Sequence.{Turn, IsBetween, TakesTurns, taken_in, changes, ended_by}
use Rattle.seize.specs.WaitingSets.{Change, Sets, all_changed, at_start as sets_at_start}
use Rattle.seize.specs.World.{World, Rests, Request, Begins, Steps', Event, Happens, Runs, at_start}
use Rattle.run_executor.specs.Given.SeizeAloneAlone.{TakesSteps}
use Rattle.run_executor.specs.Given.RuleInWorld.{AllUsers}

-- the waiting sets of blocks after these changes
abbrev pub sets_of : ℕ → List Change → Sets
sets_of batch_size changes = (all_changed batch_size changes sets_at_start).sets

module _ {T : Type 0} (defers : T → Option ℕ) (batch_size roots : ℕ) where
  -- it came about by whole rows, and by what happened between them, which changed the waiting sets so
  abbrev pub CameByTurns : World T → List Change → Type 0
  CameByTurns w before = (turns : List (Turn T)) × TakesTurns defers batch_size turns (at_start defers roots) w before

  -- Caller i is in the midst of a row, alone, which it has begun in the world v.
  pub record IsInRow (i : ℕ) (request : Request) (v : World T) (before : List Change) (w : World T) : Type 0 where
    pub came : CameByTurns v before
    pub rested : v.row i ≡ Rests
    pub begun : World T
    pub begins : Begins defers batch_size i request v begun
    pub steps : ℕ
    pub runs : TakesSteps defers steps i begun w

  -- The row has ended: it has reclaimed what the waiting sets say of it, in that order, and the world came about with it.
  pub record HasRun (request : Request) (v : World T) (before : List Change) (w : World T) : Type 0 where
    pub came : CameByTurns w (before ++ changes request v.uses w.uses)
    pub taken : taken_in w.log ≡ taken_in v.log ++ (all_changed batch_size (changes request v.uses w.uses) (sets_of batch_size before)).reclaimed

module _ (T : Type 0) (defers : T → Option ℕ) (batch_size roots : ℕ) where
  -- The promises: nothing has happened at first;
  abbrev pub TurnsBegin : Type 0
  TurnsBegin = CameByTurns defers batch_size roots (at_start defers roots) []

  -- a row is under way once it has begun, goes on with each of its steps,
  abbrev pub RowsBegin : Type 0
  RowsBegin =
      (v w : World T) (before : List Change) → CameByTurns defers batch_size roots v before → (i : ℕ) (request : Request) → v.row i ≡ Rests
      → Begins defers batch_size i request v w → IsInRow defers batch_size roots i request v before w

  abbrev pub RowsContinue : Type 0
  RowsContinue =
      (i : ℕ) (request : Request) (v w n : World T) (before : List Change) → IsInRow defers batch_size roots i request v before w
      → Steps' defers i (w.row i) w n → IsInRow defers batch_size roots i request v before n

  -- and once its caller rests, it has run;
  abbrev pub RowsEnd : Type 0
  RowsEnd =
      batch_size < 2 ^ 64 → (i : ℕ) (request : Request) (v w : World T) (before : List Change) → IsInRow defers batch_size roots i request v before w
      → w.row i ≡ Rests → HasRun defers batch_size roots request v before w

  -- and between rows things happen, which change the sets by what is left over alone.
  abbrev pub EventsFollow : Type 0
  EventsFollow =
      (w n : World T) (before : List Change) → CameByTurns defers batch_size roots w before → (e : Event T) → IsBetween e
      → Happens defers batch_size e w n → CameByTurns defers batch_size roots n (before ++ ended_by e)

  abbrev pub UsersFollow : Type 0
  UsersFollow =
      (w n : World T) (before : List Change) → CameByTurns defers batch_size roots w before → (events : List (Event T)) → AllUsers events
      → Runs defers batch_size events w n → CameByTurns defers batch_size roots n before
