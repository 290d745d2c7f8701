-- The numbers that each step of a call on one key lowers that goes on, whatever other callers do.
use Rattle.std.specs.Prelude.{ℕ, suc, ◌+◌, ◌-◌, ◌==◌, if◌then◌else◌, List, [], ◌∷◌, ◌++◌, Option, None, Some}
use Rattle.many_calls.specs.Given.RawDeclared.machines.asking.Asking.{Asking}
use Rattle.many_calls.specs.Given.RawDeclared.machines.asking.Asking.TheVariants as asking
use Rattle.many_calls.specs.Given.RawDeclared.machines.call.KeyCall.{KeyCall}
use Rattle.many_calls.specs.Given.RawDeclared.machines.call.Calling.{Calling}
use Rattle.many_calls.specs.Given.RawDeclared.machines.call.Calling.TheVariants as at
use Rattle.many_calls.specs.Given.RuleChart.{Chart}
use Rattle.many_calls.specs.Given.RuleWords.{Blocks, place_word}
use Rattle.many_calls.specs.Given.RuleMaps.{spot_at}
use Rattle.many_calls.specs.Given.PointsMeasuresLooks.{number_of_lookup}
use Rattle.many_calls.specs.Given.PointsMeasuresTables.{number_of_new_table}
use Rattle.many_calls.specs.Given.PointsMeasuresDisposes.{number_of_dispose}
use Rattle.map_measures.specs.Falls.Room.{planned_in_call, tables_to_come}
use Rattle.map_measures.specs.Falls.Copies.{number_of_copier}
use Rattle.map_measures.specs.Falls.CopiesBlocking.{number_of_copier_blocking}

-- no machine is at work within it
abbrev pub nothing_within : List ℕ
nothing_within = 0 ∷ 0 ∷ 0 ∷ 0 ∷ 0 ∷ 0 ∷ 0 ∷ 0 ∷ []

-- one number, or two, and as many as make eight
abbrev pub one_of_eight : List ℕ → List ℕ
one_of_eight xs = xs ++ (0 ∷ 0 ∷ 0 ∷ 0 ∷ 0 ∷ 0 ∷ 0 ∷ [])

abbrev pub two_of_eight : List ℕ → List ℕ
two_of_eight xs = xs ++ (0 ∷ 0 ∷ 0 ∷ 0 ∷ 0 ∷ 0 ∷ [])

-- A call that is told values has its key in its own block, with a value, or out of it. What is there is to come out first.
abbrev pub to_empty : {K : Type 0} → Option K → ℕ
to_empty None = 1
to_empty (Some key) = 0

module _ {K V Q : Type 0} (hash : K → ℕ) (c : Chart K) (blocks : Blocks) (p : KeyCall K V Q) where
  -- It has changed nothing yet: the tables that can still be linked, those from its own on, whether it is copying before it enters that one, the
  -- tries left there, the point, and the machine within it.
  abbrev pub seeking : ℕ → ℕ → ℕ → ℕ → ℕ → List ℕ → List ℕ
  seeking turn tables copying tries point within = 5 ∷ tables_to_come c.past turn ∷ tables ∷ copying ∷ tries ∷ point ∷ within

  -- at a try
  abbrev pub trying : ℕ → List ℕ
  trying point = seeking 0 (c.past - p.trial.table.turn) 0 (suc (p.trial.table.limit - p.trial.probe.len)) point nothing_within

  -- its table is left
  abbrev pub leaving : ℕ → ℕ → List ℕ → List ℕ
  leaving turn point within = seeking turn (c.past - p.trial.table.turn) 0 0 point within

  -- A word is expected at the place of its try: is it there? Where it is not, the call has to read it again, which is point 3; where it is, the call may
  -- have to empty its own block and to fill it first, or to give it up.
  abbrev pub stale : ℕ → ℕ
  stale word = if word == place_word hash c blocks (c.place p.trial.table.turn (spot_at (c.len p.trial.table.turn) p.hash p.trial.probe.len)) then 0 else 4

  -- it has made its change, or is to end
  abbrev pub ending : ℕ → List ℕ → List ℕ
  ending stage within = stage ∷ 0 ∷ 0 ∷ 0 ∷ 0 ∷ 0 ∷ within

  -- It fills its own block, or gives it up, before it tries to replace a word. Where it asks, no number falls while it waits for a reply, and a reply may
  -- raise them.
  abbrev pub number_at_asking : Asking → List ℕ
  number_at_asking (asking.Fills word) = trying (suc (to_empty p.replies.key + stale word))
  number_at_asking (asking.GivesUp word) = trying (suc (stale word))
  number_at_asking (asking.Absent gap) = ending 0 nothing_within
  number_at_asking (asking.Present word) = ending 0 nothing_within

  -- standing there
  abbrev pub number_at : Calling → List ℕ
  number_at at.Makes = ending 6 nothing_within
  number_at (at.Looks lookup) = ending 5 (two_of_eight (number_of_lookup c lookup))
  number_at at.Roots = seeking 0 (suc c.past) 0 0 1 nothing_within
  number_at (at.Firsts making) = seeking (planned_in_call (at.Firsts making)) (suc c.past) 0 0 0 (two_of_eight (number_of_new_table making))
  number_at at.Probes = trying 3
  number_at (at.Tries word new) = trying (stale word)
  number_at at.Nexts = leaving 0 1 nothing_within
  number_at (at.Allocs making) = leaving (planned_in_call (at.Allocs making)) 0 (two_of_eight (number_of_new_table making))
  number_at (at.Helps copier goal) = seeking (planned_in_call (at.Helps copier goal)) (c.past - goal.turn) 1 0 0 (number_of_copier c blocks copier)
  number_at (at.Copies copier) = seeking (planned_in_call (at.Copies copier)) (c.past - copier.target.turn) 1 0 0 (number_of_copier_blocking c blocks copier)
  number_at (at.Asks asks_at) = number_at_asking asks_at
  number_at (at.Counts removed) = ending 4 nothing_within
  number_at (at.Disposes dispose answer) = ending 3 (one_of_eight (number_of_dispose c blocks dispose))
  number_at (at.Drops end) = ending 1 nothing_within
  number_at (at.Over end) = ending 0 nothing_within

  abbrev pub number_of_call : List ℕ
  number_of_call = number_at p.stands
