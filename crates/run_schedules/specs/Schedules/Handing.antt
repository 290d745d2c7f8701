-- Which events have which effects, and that a call leaves nothing behind: what it took out it hands over, and what it made it links or gives up.
use Rattle.std.specs.Prelude.{◌≡◌, ℕ, ◌+◌, ◌==◌, Bool, true, false, not, ◌&&◌, ◌||◌, List, [], ◌∷◌, length, filter, map, flat_map, Option, Some, None, if◌then◌else◌}
use Rattle.std.specs.List.{list_any, list_all}
use Rattle.seize_words.specs.declared.fault.Fault.TheVariants.{Busy, Memory}
use Rattle.run_schedules.specs.Runs.Present.{slot_of_guard, guards_on}
use Rattle.run_schedules.specs.declared.effect.Effect.{Effect}
use Rattle.run_schedules.specs.declared.effect.Effect.TheVariants.{Asked, PairMade, TableMade, Linked, Reclaimed, Ended, Taken}
use Rattle.run_schedules.specs.declared.effect.Growth.TheVariants.{ABlock, ABucket}
use Rattle.run_schedules.specs.declared.event.Event.{Event}
use Rattle.run_schedules.specs.declared.event.Event.TheVariants.{Register, Own, Refresh, DropGuard, ReclaimAll, Close, MakeMap, EndMap, Step, Go, OneCall}
use Rattle.run_schedules.specs.declared.outcome.Outcome.{Outcome}
use Rattle.run_schedules.specs.declared.outcome.Outcome.TheVariants.{Done, Ready, Refused}
use Rattle.run_schedules.specs.Schedules.Things.{is_before}
use Rattle.run_schedules.specs.Schedules.Terms.{Terms}
use Rattle.run_schedules.specs.declared.effect.TableId.{TableId}
use Rattle.run_schedules.specs.Schedules.Moment.{UnderWay, TableThere, Moment}
use Rattle.run_schedules.specs.Schedules.Views.{number_of, size_of, chain_of, tables_of}
use Rattle.run_schedules.specs.Schedules.Entry.{Entry, IfCall, caller_of, acting, acted_on, ends_call}
use Rattle.run_schedules.specs.Schedules.Beginning.{at_work}
use Rattle.run_schedules.specs.Schedules.Effects.{worked, AtEachEffect}
use Rattle.run_schedules.specs.Schedules.After.{moment, tables_taken}
use Rattle.run_schedules.specs.Schedules.Transition.{Past, past}
use Rattle.run_schedules.specs.Schedules.Lives.{Finds}
use Rattle.run_schedules.specs.Schedules.InTurn.{is_growth}

-- which effects

abbrev pub is_call_effect : Effect → Bool
is_call_effect (Asked ABucket) = false
is_call_effect (Reclaimed x) = false
is_call_effect (Ended n) = false
is_call_effect (Taken t) = false
is_call_effect _ = true

abbrev pub is_reclaiming : Effect → Bool
is_reclaiming (Reclaimed x) = true
is_reclaiming _ = false

abbrev pub is_ending : Effect → Bool
is_ending (Ended n) = true
is_ending (Taken t) = true
is_ending _ = false

abbrev pub asks_for_bucket : Effect → Bool
asks_for_bucket (Asked ABucket) = true
asks_for_bucket _ = false

abbrev pub is_first_making : Effect → Bool
is_first_making (Asked ABlock) = true
is_first_making (TableMade t) = true
is_first_making (Linked t shape) = true
is_first_making _ = false

abbrev pub is_table_made : Effect → Bool
is_table_made (TableMade t) = true
is_table_made _ = false

abbrev pub is_made : Effect → Bool
is_made PairMade = true
is_made (TableMade t) = true
is_made _ = false

-- what is made was asked for in the same step
abbrev pub is_granted : Bool → List Effect → Bool
is_granted asked [] = true
is_granted asked (Asked growth ∷ effects) = is_granted true effects
is_granted asked (PairMade ∷ effects) = asked && is_granted false effects
is_granted asked (TableMade t ∷ effects) = asked && is_granted false effects
is_granted asked (f ∷ effects) = is_granted false effects

module _ {K V : Type 0} where
  -- the guard is the only one on its slot
  abbrev pub is_only : List ℕ → Moment K V → Bool
  is_only guard m = guards_on (slot_of_guard guard m.there) m.there.guards == 1

  -- whether an event may have an effect: calls, what makes slots and maps, what ends maps, and what lets a slot's things go
  abbrev pub may_do : Event K V → Moment K V → Effect → Bool
  may_do (Register registration) m f = asks_for_bucket f
  may_do (Own guard) m f = asks_for_bucket f
  may_do (MakeMap name mode capacity) m f = is_first_making f
  may_do (EndMap name) m f = is_ending f
  may_do (Refresh guard) m f = is_only guard m && is_reclaiming f
  may_do (DropGuard guard) m f = is_only guard m && is_reclaiming f
  may_do ReclaimAll m f = is_reclaiming f
  may_do Close m f = is_reclaiming f
  may_do (Step caller refuse) m f = is_call_effect f
  may_do (Go caller refuse) m f = is_call_effect f
  may_do (OneCall guard name call) m f = is_call_effect f
  may_do _ m f = false

  -- where a growth is to be refused nothing is made
  abbrev pub refuses : Event K V → Bool
  refuses (Step caller refuse) = refuse
  refuses (Go caller refuse) = refuse
  refuses _ = false

  abbrev pub gives_all : Event K V → Bool
  gives_all ReclaimAll = true
  gives_all Close = true
  gives_all _ = false

-- which effects an event must have

-- the pairs that ended with their map
abbrev pub pairs_ended : Effect → List ℕ
pairs_ended (Ended n) = n ∷ []
pairs_ended _ = []

abbrev pub tables_in : List TableThere → List TableId
tables_in tables = map (λ t. t.table) tables

module _ {K V : Type 0} where
  -- table by table, and in each table place by place
  abbrev pub in_order : Moment K V → List ℕ → Bool
  in_order m [] = true
  in_order m (n ∷ []) = true
  in_order m (n ∷ k ∷ numbers) = is_before (m.spot n) (m.spot k) && in_order m (k ∷ numbers)

  -- the end of a map reclaims all pairs that are in it, in this order, and takes its tables, from the root's on
  pub record EndsMap (map : ℕ) (effects : List Effect) (m w : Moment K V) : Type 0 where
    pub all : size_of map w ≡ 0
    pub order : in_order m (flat_map pairs_ended effects) ≡ true
    pub tables : flat_map tables_taken effects ≡ tables_in (chain_of map m)

  abbrev pub EndsNamed : Option ℕ → List Effect → Moment K V → Moment K V → Type 0
  EndsNamed None effects m w = Unit {0}
  EndsNamed (Some map) effects m w = EndsMap map effects m w

  abbrev pub tables_named : Option ℕ → Moment K V → ℕ
  tables_named None m = 0
  tables_named (Some map) m = length (tables_of map m)

  -- A map that is made has the one table that it made where it has a capacity, and else none, and made none. What is refused as busy has done nothing, nor has a making that
  -- is refused, but that one which is refused memory has asked for growths.
  abbrev pub IsWhole : Event K V → Outcome V → List Effect → Moment K V → Moment K V → Type 0
  IsWhole (EndMap name) Done effects m w = EndsNamed (number_of name m) effects m w
  IsWhole (MakeMap name mode capacity) Done effects m w =
      (tables_named (number_of name w) w ≡ length (filter is_table_made effects)) × (tables_named (number_of name w) w ≡ (if capacity == 0 then 0 else 1))
  IsWhole event (Refused Busy) effects m w = effects ≡ []
  IsWhole (MakeMap name mode capacity) (Refused Memory) effects m w = list_all is_growth effects ≡ true
  IsWhole (MakeMap name mode capacity) (Refused fault) effects m w = effects ≡ []
  IsWhole event outcome effects m w = Unit {0}

-- a call at its end

-- a walk that is ready has as little as a call that has ended
abbrev pub is_clear_outcome : {V : Type 0} → Outcome V → Bool
is_clear_outcome Ready = true
is_clear_outcome outcome = ends_call outcome

module _ {K V : Type 0} where
  pub record IsClear (c : UnderWay K V) : Type 0 where
    pub owes : c.owes ≡ []
    pub block : c.has_block ≡ false
    pub table : c.table ≡ None
    pub counted : c.gained + c.lost ≡ 0

  -- it had each growth that it asked for, unless it is refused for want of memory
  abbrev pub HasGrown : Outcome V → UnderWay K V → Type 0
  HasGrown (Refused Memory) c = Unit {0}
  HasGrown outcome c = c.is_short ≡ false

  abbrev pub LeavesOf : Bool → Outcome V → UnderWay K V → Type 0
  LeavesOf true outcome c = IsClear c × HasGrown outcome c
  LeavesOf false outcome c = Unit {0}

module _ {K V : Type 0} (terms : Terms) where
  -- at which moments a call has been
  abbrev pub moments_since : Past K V → Option (UnderWay K V) → List (Moment K V)
  moments_since log None = []
  moments_since log (Some c) = log.since c.begun

  -- these effects find what they must, from this moment on
  abbrev pub EachFinds : Past K V → Option (List ℕ) → Option ℕ → Bool → List Effect → Moment K V → Type 0
  EachFinds log caller map everything effects b = AtEachEffect (Finds terms caller map everything (moments_since log (acting caller b))) caller map effects b

  -- of an event
  abbrev pub moments_of : List (Entry K V) → Option (UnderWay K V) → List (Moment K V)
  moments_of log call = moments_since (past log) call

  abbrev pub AllFind : List (Entry K V) → Entry K V → Moment K V → Type 0
  AllFind log e b = EachFinds (past log) (caller_of e.event) (acted_on e.event b) (gives_all e.event) e.effects b

  -- each effect finds what it must, the event may have it, and what has to come of an event does
  pub record MovesOn (log : List (Entry K V)) (e : Entry K V) : Type 0 where
    pub finds : AllFind log e (at_work e (moment log))
    pub may : list_all (may_do e.event (moment log)) e.effects ≡ true
    pub granted : is_granted false e.effects ≡ true
    pub refuses : (not (refuses e.event) || not (list_any is_made e.effects)) ≡ true
    pub whole : IsWhole e.event e.outcome e.effects (moment log) (worked e (moment log))
    pub leaves : IfCall (LeavesOf (is_clear_outcome e.outcome) e.outcome) (acting (caller_of e.event) (worked e (moment log)))
