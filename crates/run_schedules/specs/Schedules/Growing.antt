-- The tables of a map: for what memory is asked, and which table comes after which.
use Rattle.std.specs.Prelude.{◌≡◌, ℕ, ◌+◌, ◌^◌, ◌<◌, ◌≤◌, ◌==◌, nat_le, nat_lt, Bool, true, false, not, ◌||◌, List, [], ◌∷◌, length, None, Result, Ok, Err, ◌⊎◌}
use Rattle.std.specs.List.{list_all}
use Rattle.seize_words.specs.declared.fault.Fault.{Fault}
use Rattle.papaya_raw.specs.Given.SeizeRegister.{MayNeedRoom}
use Rattle.papaya_raw.specs.Given.TablesDeclared.lengths.Reason.{Reason}
use Rattle.papaya_raw.specs.Given.TablesDeclared.lengths.Reason.TheVariants.{Full, Reserved, NoPlace}
use Rattle.papaya_raw.specs.Given.TablesLengths.{places_for, entries_of, len_of, next_len, next_limit}
use Rattle.papaya_raw.specs.Given.TablesProbes.{limit_of}
use Rattle.run_schedules.specs.declared.shapes.TableShape.{TableShape}
use Rattle.run_schedules.specs.declared.call.Call.{Call}
use Rattle.run_schedules.specs.declared.call.Call.TheVariants.{On, Reserve, Len}
use Rattle.run_schedules.specs.Schedules.Lists.{OneOf, numbers_from}
use Rattle.run_schedules.specs.Schedules.Sequential.{means, is_lookup, has_value, puts_any}
use Rattle.run_schedules.specs.Schedules.Terms.{Terms, shards_of}
use Rattle.run_schedules.specs.Schedules.Counts.{Counts}
use Rattle.run_schedules.specs.Schedules.Moment.{UnderWay, TableThere, Moment}
use Rattle.run_schedules.specs.Schedules.Views.{is_in_map, reply_to, has_gift, chain_of, last_of}
use Rattle.run_schedules.specs.Schedules.Tries.{IsFull}

-- a table for so many pairs would be too long
abbrev pub is_too_many : ℕ → Bool
is_too_many pairs = nat_lt (2 ^ 48) (places_for pairs)

-- a length that can be had
abbrev pub Has : Result ℕ Fault → ℕ → Type 0
Has (Ok len) n = n ≡ len
Has (Err fault) n = ⊥

module _ {K V : Type 0} where
  -- a call that only looks: it takes no memory, changes nothing and never waits
  abbrev pub only_looks : Call K V → Bool
  only_looks (On one) = is_lookup one
  only_looks Len = true
  only_looks _ = false

  -- a call that has a value to store, and one that would store it where its key has no pair
  abbrev pub has_value_for : Call K V → UnderWay K V → Bool
  has_value_for (On one) c = has_value one (has_gift c.replies)
  has_value_for _ c = false

  abbrev pub stores_where_none : Call K V → UnderWay K V → Bool
  stores_where_none (On one) c = puts_any (means one (reply_to None c.replies) None 0)
  stores_where_none _ c = false

  -- at a moment at which a map has a second table
  abbrev pub HasNext : ℕ → Moment K V → Type 0
  HasNext map m = 1 < length (chain_of map m)

module _ {K V : Type 0} (terms : Terms) where
  -- A reservation asks for a table that can be had.
  abbrev pub FitsCount : ℕ → UnderWay K V → List (Moment K V) → Type 0
  FitsCount more c moments = (n : ℕ) × Counts (shards_of terms) c.map moments n × (is_too_many (n + more) ≡ false)

  -- Any other call asks for a block for the value that it has, or for a table where that finds no place; one without a value only where the map has a second
  -- table, which it helps to fill.
  abbrev pub MayGrow : Call K V → UnderWay K V → List (Moment K V) → Type 0
  MayGrow (Reserve more) c moments = FitsCount more c moments
  MayGrow call c moments = (has_value_for call c ≡ true) ⊎ OneOf (HasNext c.map) moments

  -- it asks for nothing more where a growth was refused
  abbrev pub AsksForBlock : UnderWay K V → List (Moment K V) → Type 0
  AsksForBlock c moments = (c.is_short ≡ false) × MayGrow c.call c moments

-- A bucket of words is asked for only where a slot is taken that was never reached, and that may need it.
abbrev pub AsksForBucket : ℕ → ℕ → Type 0
AsksForBucket slots slot = (slots ≤ slot) × MayNeedRoom slot

-- lengths

abbrev pub IsFirstShape : Result ℕ Fault → TableShape → Type 0
IsFirstShape len shape = Has len shape.len × (shape.limit ≡ limit_of shape.len)

module _ {K V : Type 0} (terms : Terms) where
  -- The first table of a map without one has the length that a reservation needs, or 32 places; and then the call stores where there is none.
  abbrev pub IsFirstOf : Call K V → UnderWay K V → TableShape → Type 0
  IsFirstOf (Reserve more) c shape = IsFirstShape (len_of more) shape
  IsFirstOf call c shape = (stores_where_none call c ≡ true) × IsFirstShape (Ok 32) shape

  -- why a call makes a table after this one: it has found no place for its pair, but so many pairs; it reserves; or a copy has found no place
  abbrev pub MayMakeFor : UnderWay K V → List (Moment K V) → TableThere → Call K V → ℕ → Reason → Type 0
  MayMakeFor c moments t (Reserve more) count (Reserved additional) = (additional ≡ more) × Counts (shards_of terms) c.map moments count
  MayMakeFor c moments t call count (Full met most) = (has_value_for call c ≡ true) × IsFull c.map t moments met
  MayMakeFor c moments t call count NoPlace = OneOf (HasNext c.map) moments
  MayMakeFor c moments t call count reason = ⊥

  -- The table after this one: by the reason and a count. Only that of a reservation is promised to be what the call counts.
  abbrev pub IsNextShape : UnderWay K V → List (Moment K V) → ℕ → TableThere → TableShape → Type 0
  IsNextShape c moments capacity t shape =
      (reason : Reason) × (count initial : ℕ) × Has (entries_of capacity) initial × MayMakeFor c moments t c.call count reason
      × Has (next_len reason t.shape.len count initial) shape.len × (shape.limit ≡ next_limit reason t.shape.len t.shape.limit shape.len)

  abbrev pub Follows : UnderWay K V → List (Moment K V) → ℕ → TableShape → List TableThere → Type 0
  Follows c moments capacity shape [] = IsFirstOf c.call c shape
  Follows c moments capacity shape (t ∷ tables) = IsNextShape c moments capacity (last_of t tables) shape

-- the root's way

module _ {K V : Type 0} where
  -- no pair of the map is in a table before this turn alone
  abbrev pub is_ahead : ℕ → ℕ → Moment K V → ℕ → Bool
  is_ahead map turn m n = not (is_in_map map (m.place n)) || nat_le turn (m.spot n).turn || ((m.copy n).turn == turn)

  abbrev pub none_before : ℕ → ℕ → Moment K V → Bool
  none_before map turn m = list_all (is_ahead map turn m) (numbers_from 1 (length m.stored))

-- In incremental mode the root comes to the next table. In blocking mode it comes to the newest, as those between have had no place for a copy.
abbrev pub IsNextRoot : Bool → ℕ → ℕ → List TableThere → Type 0
IsNextRoot true first turn tables = turn ≡ first + 1
IsNextRoot false first turn tables = (first < turn) × (turn + 1 ≡ length tables)
