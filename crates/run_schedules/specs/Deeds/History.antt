-- What is promised of each entry of a history: linearizability, the life of pairs, tables and blocks, protection and sweeps, by what is promised of what an entry does.
use Rattle.std.specs.Prelude.{◌≡◌, ◌⊎◌, ℕ, ◌+◌, ◌==◌, ◌&&◌, Bool, true, false, not, List, [], ◌∷◌, ◌++◌, filter, length, Option, Some, if◌then◌else◌}
use Rattle.std.specs.List.{list_all, list_any}
use Rattle.papaya_raw.specs.Given.SeizeRegister.{bucket_needed}
use Rattle.run_schedules.specs.declared.call.Response.{Response}
use Rattle.run_schedules.specs.declared.call.Response.TheVariants.{Absent}
use Rattle.run_schedules.specs.declared.call.Call.{Call}
use Rattle.run_schedules.specs.declared.call.Call.TheVariants.{Walk}
use Rattle.run_schedules.specs.declared.outcome.Outcome.{Outcome}
use Rattle.run_schedules.specs.declared.outcome.Outcome.TheVariants.{Answered, Done, Refused, Shows}
use Rattle.run_schedules.specs.declared.effect.Effect.{Effect}
use Rattle.run_schedules.specs.declared.effect.Effect.TheVariants.{Asked, Ended, Taken}
use Rattle.run_schedules.specs.declared.effect.Growth.TheVariants.{ABucket}
use Rattle.run_schedules.specs.declared.effect.TableId.{TableId}
use Rattle.run_schedules.specs.Schedules.After.{moments_by}
use Rattle.run_schedules.specs.Schedules.Coming.{is_answer, is_walk}
use Rattle.run_schedules.specs.Schedules.Effects.{AtEachEffect}
use Rattle.run_schedules.specs.Schedules.Entry.{IfCall, acting}
use Rattle.run_schedules.specs.Schedules.Handing.{LeavesOf, asks_for_bucket, is_clear_outcome, is_call_effect, is_ending, is_first_making, is_granted, is_made, is_reclaiming, is_table_made, moments_since}
use Rattle.run_schedules.specs.Schedules.InTurn.{has_grown}
use Rattle.run_schedules.specs.Schedules.Linearizable.{Linearizes}
use Rattle.run_schedules.specs.Schedules.Lists.{numbers_from}
use Rattle.run_schedules.specs.Schedules.Lives.{Finds}
use Rattle.run_schedules.specs.Schedules.Moment.{InMap, Moment, TableThere, UnderWay}
use Rattle.run_schedules.specs.Schedules.Reclaims.{Protects}
use Rattle.run_schedules.specs.Schedules.Sweeps.{SweepsRight}
use Rattle.run_schedules.specs.Schedules.Terms.{Terms}
use Rattle.run_schedules.specs.Schedules.Things.{is_before, same_table}
use Rattle.run_schedules.specs.Schedules.Transition.{Past, Transition, call_left, worked_by}
use Rattle.run_schedules.specs.Schedules.Views.{capacity_or, chain_of, is_in_map, is_linked, map_at, size_of, tables_of}
use Rattle.run_schedules.specs.Deeds.Deeds.{Deed, Entry, Ends, Leaves, Makes, MapFails, MapGoes, ReclaimsAll, Registers, Steps, Tends, acted_on, after, at_work, caller_of, moment}

module _ {K V : Type 0} where
  -- the moments since so many entries had come, the newest first
  abbrev pub moments_from : ℕ → List (Entry K V) → List (Moment K V)
  moments_from begun log = moments_by moment begun log

  -- what a history has been
  abbrev pub past : List (Entry K V) → Past K V
  past log = record { entries = length log; now = moment log; since = λ begun. moments_from begun log }

  -- what an entry does
  abbrev pub transition : List (Entry K V) → Entry K V → Transition K V
  transition log e =
      record {
        caller = caller_of e.deed;
        map = acted_on e.deed (at_work e (moment log));
        outcome = e.outcome;
        effects = e.effects;
        found = at_work e (moment log);
        left = after e (moment log);
      }

  -- nothing is reclaimed that left its map in a section that the entry does not end
  abbrev pub IsProtected : List (Entry K V) → Entry K V → Type 0
  IsProtected log e = Protects (transition log e)

  -- What a call is told is of its kind: a walk alone shows pairs, and answers that there is no further one.
  abbrev pub is_of_kind : Call K V → Outcome V → Bool
  is_of_kind call (Shows n) = is_walk call
  is_of_kind Walk (Answered Absent) = true
  is_of_kind call (Answered a) = is_answer call a
  is_of_kind call outcome = true

  abbrev pub OutcomeIsOfItsKind : List (Entry K V) → Entry K V → Type 0
  OutcomeIsOfItsKind log e = IfCall (λ c. is_of_kind c.call e.outcome ≡ true) (call_left (transition log e))

module _ {K V : Type 0} (eq : K → K → Bool) where
  -- it changes maps, answers and asks as the finite map says; one that is no step of a call changes none
  abbrev pub IsLinearizable : List (Entry K V) → Entry K V → Type 0
  IsLinearizable log e = Linearizes eq (past log) (transition log e)

  -- A call tells what one of its kind may, and what a sweep has shown, removed and left is right at its end.
  abbrev pub IsSwept : Terms → List (Entry K V) → Entry K V → Type 0
  IsSwept terms log e = OutcomeIsOfItsKind log e × SweepsRight eq terms (past log) (transition log e)

-- Who registers needs a bucket next: the first one, or before it takes a slot the one of the slot behind that, and it is not there yet.
abbrev pub NeedsBucket : ℕ → ℕ → Type 0
NeedsBucket slot there = ((slot ≡ 0) × (there ≡ 0)) ⊎ (bucket_needed slot ≡ Some there)

-- the table stands first
abbrev pub is_first_of : TableId → List TableThere → Bool
is_first_of t [] = false
is_first_of t (u ∷ tables) = same_table u.table t

-- where a growth was refused it was asked for, and nothing was made
abbrev pub Refuses : Bool → List Effect → Type 0
Refuses true effects = (has_grown effects ≡ true) × (list_any is_made effects ≡ false)
Refuses false effects = Unit {0}

module _ {K V : Type 0} where
  -- Whether a deed may have an effect: a step of a call, of who registers, leaves, or flushes a batch, and of a making or an end in its midst.
  abbrev pub may_do : Deed K V → Effect → Bool
  may_do (Steps i) f = is_call_effect f
  may_do (Registers s) f = asks_for_bucket f
  may_do (Leaves s) f = is_reclaiming f
  may_do (Tends s) f = is_reclaiming f
  may_do (Makes map) f = is_first_making f
  may_do (Ends map) f = is_ending f
  may_do (ReclaimsAll last) f = is_reclaiming f
  may_do _ f = false

  abbrev pub gives_all : Deed K V → Bool
  gives_all (ReclaimsAll last) = true
  gives_all _ = false

  -- Buckets of words of slots, and tables that makings have made, so far

  -- how many buckets an entry was granted
  abbrev pub bucket_by : Entry K V → ℕ
  bucket_by e = if list_any asks_for_bucket e.effects && not e.refused then 1 else 0

  abbrev pub buckets : List (Entry K V) → ℕ
  buckets [] = 0
  buckets (e ∷ log) = bucket_by e + buckets log

  -- how many tables it made, as the making of this map
  abbrev pub made_by : ℕ → Deed K V → List Effect → ℕ
  made_by map (Makes on) effects = if map == on then length (filter is_table_made effects) else 0
  made_by map deed effects = 0

  abbrev pub made_for : ℕ → List (Entry K V) → ℕ
  made_for map [] = 0
  made_for map (e ∷ log) = made_by map e.deed e.effects + made_for map log

  -- The end of a map takes its pairs by place, table by table, and then its tables, from the root's on.

  -- no pair of the map is before this one
  abbrev pub is_next_pair : ℕ → ℕ → Moment K V → Bool
  is_next_pair map n m = list_all (λ k. not (is_in_map map (m.place k) && is_before (m.spot k) (m.spot n))) (numbers_from 1 (length m.stored))

  -- the tables of a map that it has not taken
  abbrev pub left_tables : ℕ → Moment K V → List TableThere
  left_tables map m = filter (λ u. is_linked u.stage) (chain_of map m)

  abbrev pub EndFinds : ℕ → Moment K V → Effect → Type 0
  EndFinds map m (Ended n) = (m.place n ≡ InMap map) × (is_next_pair map n m ≡ true)
  EndFinds map m (Taken t) = (size_of map m ≡ 0) × (is_first_of t (left_tables map m) ≡ true)
  EndFinds map m f = ⊥

  -- It has taken all of them as it is over. A map that is made has the one table that was made for it where it has a capacity, and else none, and none was made. Where a
  -- making is refused none was made; without a root it has done nothing.
  abbrev pub IsWhole : List (Entry K V) → Deed K V → Outcome V → List Effect → Moment K V → Type 0
  IsWhole log (MapGoes map) outcome effects w = (size_of map w ≡ 0) × (left_tables map w ≡ [])
  IsWhole log (MapFails map) outcome effects w = (made_for map log ≡ 0) × (tables_of map w ≡ [])
  IsWhole log (Makes map) Done effects w =
      (length (tables_of map w) ≡ made_by map (Makes map) effects + made_for map log) × (length (tables_of map w) ≡ (if capacity_or (map_at map w) == 0 then 0 else 1))
  IsWhole log (Makes map) (Refused fault) effects w = effects ≡ []
  IsWhole log deed outcome effects w = Unit {0}

module _ {K V : Type 0} (terms : Terms) where
  -- What an effect finds: by an end of a map, as somebody registers, and else as in a run.
  abbrev pub FindsBy : List (Entry K V) → Deed K V → Transition K V → Moment K V → Effect → Type 0
  FindsBy log (Ends map) t m f = EndFinds map m f
  FindsBy log (Registers slot) t m (Asked ABucket) = NeedsBucket slot (buckets log)
  FindsBy log d t m f = Finds terms t.caller t.map (gives_all d) (moments_since terms (past log) (acting t.caller t.found)) m f

  -- each effect finds what it must, the deed may have it, and what has to come of it does
  pub record MovesOn (log : List (Entry K V)) (e : Entry K V) : Type 0 where
    pub finds : let t = transition log e in AtEachEffect (FindsBy log e.deed t) t.caller t.map e.effects t.found
    pub may : list_all (may_do e.deed) e.effects ≡ true
    pub granted : is_granted false e.effects ≡ true
    pub refuses : Refuses e.refused e.effects
    pub whole : IsWhole log e.deed e.outcome e.effects (worked_by (transition log e))
    pub leaves : IfCall (LeavesOf (is_clear_outcome e.outcome) e.outcome) (call_left (transition log e))

module _ {K V : Type 0} where
  -- what a caller was answered, to which call, the newest first
  abbrev pub answered : Option (UnderWay K V) → Outcome V → List (Call K V × Response V)
  answered (Some c) (Answered a) = (c.call, a) ∷ []
  answered _ outcome = []

  abbrev pub is_of : ℕ → Deed K V → Bool
  is_of i (Steps j) = i == j
  is_of i deed = false

  abbrev pub answers_of : ℕ → List (Entry K V) → List (Call K V × Response V)
  answers_of i [] = []
  answers_of i (e ∷ log) = if is_of i e.deed then answered (acting (caller_of e.deed) (moment log)) e.outcome ++ answers_of i log else answers_of i log
