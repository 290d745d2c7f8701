-- The numbers that each step of a copier lowers that goes on, in blocking mode, whatever other callers do.
use Rattle.std.specs.Prelude.{ℕ, suc, ◌-◌, ◌==◌, cond, List, [], ◌∷◌}
use Rattle.map_machines.specs.declared.copier.Copier.{Copier}
use Rattle.map_machines.specs.declared.copier.Copying.{Copying as Point}
use Rattle.map_machines.specs.declared.copier.Copying.TheVariants as at
use Rattle.many_calls.specs.Given.RuleChart.{Chart}
use Rattle.many_calls.specs.Given.RuleWords.{Blocks}
use Rattle.many_calls.specs.Given.PointsMeasuresTables.{number_of_new_table}
use Rattle.map_measures.specs.Falls.Copies.{no_making, old_tables}

module _ {K : Type 0} (c : Chart K) (blocks : Blocks) (p : Copier) where
  -- the tables from its target on
  abbrev pub targets : ℕ
  targets = c.past - p.target.turn

  -- It copies into its target: whether it has yet to find all places claimed, how many are not claimed, how many are left of its range, which tries
  -- are left, and the point.
  abbrev pub copies_left : ℕ → ℕ → ℕ → ℕ → List ℕ
  copies_left unspent places tries point = targets ∷ 6 ∷ unspent ∷ (p.source.len - c.claim p.target.turn) ∷ places ∷ tries ∷ point ∷ 0 ∷ []

  -- another table comes after its target
  abbrev pub behind_left : ℕ → List ℕ → List ℕ
  behind_left stage making = targets ∷ stage ∷ 0 ∷ 0 ∷ 0 ∷ 0 ∷ making

  -- its target is full: the old tables that are left to be retired
  abbrev pub ends_left : ℕ → ℕ → ℕ → List ℕ
  ends_left stage tables point = targets ∷ stage ∷ tables ∷ point ∷ 0 ∷ 0 ∷ 0 ∷ 0 ∷ []

  -- standing there
  abbrev pub number_at : Point → List ℕ
  number_at at.Promotes = copies_left 1 0 0 4
  number_at at.Asks = copies_left (cond p.spent 0 1) 0 0 3
  number_at at.Sees = copies_left 1 0 0 2
  number_at at.Claims = copies_left 1 0 0 1
  number_at at.Marks = copies_left 1 (suc (p.end - p.place)) (suc (suc p.target.limit)) 0
  number_at (at.Probes word code into probe) = copies_left 1 (suc (p.end - p.place)) (suc (into.limit - probe.len)) 1
  number_at (at.Puts word code into probe) = copies_left 1 (suc (p.end - p.place)) (suc (into.limit - probe.len)) 0
  number_at at.Counts = copies_left 1 1 0 0
  number_at at.Aborts = behind_left 5 no_making
  number_at at.Replaces = behind_left 4 no_making
  number_at (at.Remakes making) = behind_left 3 (number_of_new_table making)
  number_at at.Announces = ends_left 2 0 0
  number_at (at.Succeeds link) = ends_left 1 (old_tables c blocks p link) 0
  number_at (at.Retires settle rest) = ends_left 1 (cond (rest == 0) 0 (old_tables c blocks p rest)) 1
  number_at _ = ends_left 0 0 0

abbrev pub number_of_copier_blocking : {K : Type 0} → Chart K → Blocks → Copier → List ℕ
number_of_copier_blocking c blocks p = number_at c blocks p p.stands
