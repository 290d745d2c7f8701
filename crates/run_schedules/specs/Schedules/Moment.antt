-- What is so at a moment of a run.
use Rattle.std.specs.Prelude.{ℕ, Bool, true, false, List, [], Option}
use Rattle.papaya_raw.specs.Given.TablesDeclared.resize_mode.ResizeMode.{ResizeMode}
use Rattle.run_schedules.specs.declared.shapes.TableShape.{TableShape}
use Rattle.run_schedules.specs.Runs.Present.{Present, nobody}
use Rattle.run_schedules.specs.declared.call.Call.{Call}
use Rattle.run_schedules.specs.declared.call.Reply.{Reply}
use Rattle.run_schedules.specs.declared.call.Response.{Response}
use Rattle.run_schedules.specs.declared.effect.TableId.{TableId}
use Rattle.run_schedules.specs.declared.effect.Spot.{Spot}
use Rattle.run_schedules.specs.declared.effect.Thing.{Thing}

-- where the pair of a number is
pub data Place : Type 0 where
  Unborn : Place  -- no pair has the number yet
  InMap : ℕ → Place  -- in the map of this number
  Out : Place  -- out of its map, with the call that took it out
  Handed : Place  -- retired
  Behind : Place  -- deferred behind a table
  Left : Place  -- left over by a map that has ended
  GivenBack : Place  -- reclaimed

-- how far a call is
pub data CallState : Type 0 where
  Going : CallState
  Asking : Option ℕ → CallState  -- about this pair, or about none, and there is no reply yet
  Told : CallState  -- it has just got its reply
  IsReady : CallState  -- a walk that shows pairs

-- a call under way
pub record UnderWay (K V : Type 0) : Type 0 where
  pub caller : List ℕ
  pub guard : List ℕ
  pub map : ℕ  -- the number of its map
  pub call : Call K V
  pub begun : ℕ  -- how many events came before the one that began it
  pub stands : CallState
  pub replies : List (Option ℕ × Reply V)  -- each with what was asked, the newest first
  pub asked : List (Option ℕ)
  pub steps : ℕ
  -- what it has done
  pub replacing : Option ℕ  -- the pair whose place the one that is stored next takes
  pub due : Option (Response V)  -- what it owes as an answer, since it changed its map
  pub gained : ℕ  -- how many pairs it has added to its map and not yet counted
  pub lost : ℕ  -- and how many it has taken out
  pub shown : List ℕ  -- what a walk showed
  -- what it holds
  pub owes : List Thing  -- what it took out of the map and has not handed to the collector
  pub has_handed : Bool  -- it has handed something over
  pub has_block : Bool  -- a block for a pair, made and not stored
  pub table : Option TableId  -- a table, made and not linked
  pub is_short : Bool  -- it has asked for a growth, and nothing was made since

-- a map that is there
pub record MapThere : Type 0 where
  pub name : List ℕ
  pub number : ℕ  -- the k-th map made in the run has number k, from 0 on
  pub root : ℕ  -- which of the collector's roots it holds
  pub mode : ResizeMode
  pub capacity : ℕ
  pub first : ℕ  -- the turn of its root's table

-- how far a table is that came into its map
pub data Stage : Type 0 where
  IsLinked : Stage
  IsRetired : Stage
  IsReclaimed : Stage
  IsTaken : Stage  -- it ended with its map

pub record TableThere : Type 0 where
  pub table : TableId
  pub shape : TableShape
  pub stage : Stage

-- this pair waits behind that table
pub record Deferral : Type 0 where
  pub pair : ℕ
  pub behind : TableId

-- what a map that has ended left over; its root is not free before that is reclaimed
pub record Remains : Type 0 where
  pub root : ℕ
  pub pairs : List ℕ

-- this pair, or table, left its map in the critical section of the guard of this name
pub record Sheltered : Type 0 where
  pub guard : List ℕ
  pub thing : Thing

pub record Moment (K V : Type 0) : Type 0 where
  pub events : ℕ  -- how many events came so far
  pub is_mapped : Bool  -- one of them was to make a map
  pub is_closed : Bool  -- the collector has ended
  pub is_alone : Bool  -- calls came one after another so far
  pub there : Present
  pub slots : ℕ  -- how many slots were ever taken
  pub sheltered : List Sheltered
  pub calls : List (UnderWay K V)
  -- pairs, by number: the n-th that is stored has the number n, from 1 on
  pub stored : List (K × V)
  pub place : ℕ → Place
  pub born : ℕ → TableId  -- the table in which a pair was stored
  pub spot : ℕ → Spot  -- where it lies: in incremental mode since it was last copied, in blocking mode in the root's table
  pub copy : ℕ → Spot  -- where its newest copy lies
  pub deferred : List Deferral  -- the newest first
  pub remains : List Remains  -- by ascending root
  pub given_back : List ℕ  -- the pairs that were reclaimed, in order
  -- maps and tables
  pub maps : List MapThere
  pub made : ℕ  -- how many maps were made
  pub shards : ℕ → ℕ → ℕ  -- the words of a map's count, by shard
  pub tables : List TableThere  -- those that ever were tables of their maps, in the order in which they became so

abbrev pub start : {K V : Type 0} → Moment K V
start =
    record {
      events = 0;
      is_mapped = false;
      is_closed = false;
      is_alone = true;
      there = nobody;
      slots = 0;
      sheltered = [];
      calls = [];
      stored = [];
      place = λ n. Unborn;
      born = λ n. record { map = 0; turn = 0 };
      spot = λ n. record { turn = 0; place = 0 };
      copy = λ n. record { turn = 0; place = 0 };
      deferred = [];
      remains = [];
      given_back = [];
      maps = [];
      made = 0;
      shards = λ m s. 0;
      tables = [];
    }
