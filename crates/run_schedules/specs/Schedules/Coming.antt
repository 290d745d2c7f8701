-- What a call under way may come to, as it goes on.
use Rattle.std.specs.Prelude.{◌≡◌, ℕ, ◌+◌, ◌^◌, nat_le, Bool, true, false, ◌&&◌, ◌||◌, Option, Some, None, ◌⊎◌, List, ◌∷◌}
use Rattle.std.specs.List.{list_any}
use Rattle.seize_words.specs.declared.fault.Fault.TheVariants.{Capacity, RemoveNothing, Memory}
use Rattle.run_schedules.specs.declared.call.Call.{Call}
use Rattle.run_schedules.specs.declared.call.Call.TheVariants.{On, Reserve, Clear, Retain, Len, Walk}
use Rattle.run_schedules.specs.declared.call.OneKey.{OneKey}
use Rattle.run_schedules.specs.declared.call.OneKey.TheVariants.{TryInsertWith, GetOrInsertWith, Update, UpdateOrInsert, UpdateOrInsertWith, Compute, RemoveIf}
use Rattle.run_schedules.specs.declared.call.Reply.{Reply}
use Rattle.run_schedules.specs.declared.call.Reply.TheVariants.{Gives, Decides}
use Rattle.run_schedules.specs.declared.call.Response.{Response}
use Rattle.run_schedules.specs.declared.call.Response.TheVariants as answer
use Rattle.run_schedules.specs.declared.outcome.Outcome.{Outcome}
use Rattle.run_schedules.specs.declared.outcome.Outcome.TheVariants.{Goes, Asks, Waits, Ready, Answered, Refused}
use Rattle.run_schedules.specs.Schedules.Lists.{OneOf}
use Rattle.run_schedules.specs.Schedules.Terms.{Terms, shards_of}
use Rattle.run_schedules.specs.Schedules.Counts.{Counts}
use Rattle.run_schedules.specs.Schedules.Moment.{CallState, Asking, IsReady, UnderWay, Moment}
use Rattle.run_schedules.specs.Schedules.Views.{chain_of}
use Rattle.run_schedules.specs.Schedules.Growing.{only_looks, is_too_many}

abbrev pub is_asking : CallState → Bool
is_asking (Asking q) = true
is_asking _ = false

abbrev pub is_ready : CallState → Bool
is_ready IsReady = true
is_ready _ = false

module _ {K V : Type 0} where
  -- whether a reply is of the kind that the call asks for
  abbrev pub fits_key : OneKey K V → Reply V → Bool
  fits_key (Compute k) (Decides b) = false
  fits_key (Compute k) reply = true
  fits_key (RemoveIf k) (Decides b) = true
  fits_key (RemoveIf k) reply = false
  fits_key one (Gives v) = true
  fits_key one reply = false

  abbrev pub is_fit : Call K V → Reply V → Bool
  is_fit (On one) reply = fits_key one reply
  is_fit Retain (Decides b) = true
  is_fit _ _ = false

  abbrev pub fits_reply : Option (UnderWay K V) → Reply V → Bool
  fits_reply None reply = false
  fits_reply (Some c) reply = is_asking c.stands && is_fit c.call reply

  abbrev pub shows_now : Option (UnderWay K V) → Bool
  shows_now None = false
  shows_now (Some c) = is_ready c.stands

  -- which calls ask at all; about what, and how often, linearizability says
  abbrev pub asks_of_key : OneKey K V → Bool
  asks_of_key (TryInsertWith k) = true
  asks_of_key (GetOrInsertWith k) = true
  asks_of_key (Update k) = true
  asks_of_key (UpdateOrInsert k v) = true
  asks_of_key (UpdateOrInsertWith k) = true
  asks_of_key (Compute k) = true
  asks_of_key (RemoveIf k) = true
  asks_of_key _ = false

  abbrev pub may_ask : Call K V → Bool
  may_ask (On one) = asks_of_key one
  may_ask Retain = true
  may_ask _ = false

  abbrev pub is_compute : Call K V → Bool
  is_compute (On (Compute k)) = true
  is_compute _ = false

  abbrev pub is_walk : Call K V → Bool
  is_walk Walk = true
  is_walk _ = false

  -- a call's answer is one of its kind; which one it is others say
  abbrev pub is_answer : Call K V → Response V → Bool
  is_answer (On one) a = true
  is_answer Len (answer.Counted n) = true
  is_answer (Reserve more) answer.Completed = true
  is_answer Clear answer.Completed = true
  is_answer Retain answer.Completed = true
  is_answer _ _ = false

  -- some table of the map is as long as a table can be, or has the last turn
  abbrev pub is_at_limit : ℕ → Moment K V → Bool
  is_at_limit map m = list_any (λ t. nat_le (2 ^ 48) t.shape.len || nat_le (2 ^ 63) t.table.turn) (chain_of map m)

module _ {K V : Type 0} (terms : Terms) where
  abbrev pub CountsTooMany : Call K V → UnderWay K V → List (Moment K V) → Type 0
  CountsTooMany (Reserve more) c moments = (n : ℕ) × Counts (shards_of terms) c.map moments n × (is_too_many (n + more) ≡ true)
  CountsTooMany _ c moments = ⊥

  -- Capacity is arithmetic: a reservation needs more places than a table can have, or a call that takes memory a table after the longest or the last one.
  abbrev pub FindsNoTable : UnderWay K V → List (Moment K V) → Type 0
  FindsNoTable c moments = (only_looks c.call ≡ false) × (CountsTooMany c.call c moments ⊎ OneOf (λ m. is_at_limit c.map m ≡ true) moments)

  -- what a call that goes on may come to, by how it has worked in this event; for what it may wait stands in Waiting
  abbrev pub MayCome : UnderWay K V → List (Moment K V) → Moment K V → Outcome V → Type 0
  MayCome c moments now Goes = Unit {0}
  MayCome c moments now (Asks question) = may_ask c.call ≡ true
  MayCome c moments now Waits = Unit {0}
  MayCome c moments now Ready = is_walk c.call ≡ true
  MayCome c moments now (Answered a) = is_answer c.call a ≡ true
  -- it asked for a growth, and nothing was made since
  MayCome c moments now (Refused Memory) = c.is_short ≡ true
  MayCome c moments now (Refused Capacity) = FindsNoTable c (now ∷ moments)
  MayCome c moments now (Refused RemoveNothing) = is_compute c.call ≡ true
  MayCome c moments now _ = ⊥

  -- while there is no reply it asks the same again, and a walk that is ready is so until it is told to go on
  abbrev pub Progresses : CallState → UnderWay K V → List (Moment K V) → Moment K V → Outcome V → Type 0
  Progresses (Asking question) c moments now outcome = outcome ≡ Asks question
  Progresses IsReady c moments now outcome = outcome ≡ Ready
  Progresses _ c moments now outcome = MayCome c moments now outcome
