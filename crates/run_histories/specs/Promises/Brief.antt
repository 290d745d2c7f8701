-- How many words a lookup has read, at each of its points: it stays within what it may read.
use Rattle.std.specs.Prelude.{◌≡◌, ℕ, zero, suc, ◌+◌, ◌<◌, ◌≤◌, nat_le, Bool, false, List, ◌∷◌, sum_by, Option, if◌then◌else◌}
use Rattle.run_places.specs.Given.SeizeWordsMem.{Mem, Took, value_at}
use Rattle.run_places.specs.Given.SeizeWordsPlan.{Steps}
use Rattle.run_places.specs.Given.SeizeDeclared.advance.Advance.{Advance}
use Rattle.run_places.specs.Given.SeizeDeclared.advance.Advance.TheVariants.{Goes, Done}
use Rattle.run_places.specs.Given.TablesChunks.{is_incremental}
use Rattle.run_places.specs.Given.TablesDeclared.node.Node.{Node}
use Rattle.run_places.specs.Given.TablesDeclared.resize_mode.ResizeMode.{ResizeMode}
use Rattle.run_places.specs.Given.ResizeLookup.{lookup_plan}
use Rattle.run_places.specs.Given.ResizeDeclared.lookup.Lookup.{Lookup}
use Rattle.run_places.specs.Given.ResizeDeclared.lookup.Looking.{Looking}
use Rattle.run_places.specs.Given.ResizeDeclared.lookup.Looking.TheVariants as at
use Rattle.run_places.specs.Given.RuleChart.{Chart}
use Rattle.run_places.specs.Given.RuleWords.{Blocks}
use Rattle.run_places.specs.Given.RuleMaps.{IsClass, IsMap}
use Rattle.run_places.specs.Given.PointsFactsLooks.{LookupFacts}
use Rattle.run_places.specs.Given.PointsSteps.{AreLawful}
use Rattle.run_places.specs.Given.FinishesMaps.{Standing}
use Rattle.run_places.specs.Given.SchedulesLists.{OneOf}
use Rattle.run_places.specs.Given.SchedulesLives.{IsFrom}
use Rattle.run_places.specs.Given.SchedulesMoment.{UnderWay as CallThere, TableThere, Moment}
use Rattle.run_places.specs.Given.SchedulesSteps.{root_table, ReadsFew}
use Rattle.run_places.specs.Given.SchedulesViews.{first_of}
use Rattle.run_places.specs.Given.EffectsKnown.{Known}
use Rattle.run_places.specs.Given.FollowsMaps.{RefinesPresence, RefinesTables}

-- the words of a table that a lookup may read
abbrev pub words_of : TableThere → ℕ
words_of t = t.shape.limit + 2

-- those of the tables from the first on, before this turn
abbrev pub read_to : (ℕ → ℕ) → ℕ → ℕ → ℕ
read_to limit first zero = 0
read_to limit first (suc t) = read_to limit first t + (if nat_le first t then limit t + 2 else 0)

module _ {K : Type 0} (incremental : Bool) (c : Chart K) (first : ℕ) where
  -- It is in the table with this turn, from the first on, or in blocking mode in the first; and it has made no more steps than one for the root, those for
  -- the tables before, and so many in this one.
  pub record HasRead (turn steps most : ℕ) : Type 0 where
    pub from : IsFrom incremental first turn
    pub made : turn < c.past
    pub few : steps ≤ 1 + read_to c.limit first turn + most

  -- by where it stands: before it has read the root it has made none
  abbrev pub ReadsAt : ℕ → Looking → Type 0
  ReadsAt steps at.Roots = steps ≡ 0
  ReadsAt steps (at.Probes trial) = HasRead trial.table.turn steps trial.probe.len × (trial.probe.len ≤ c.limit trial.table.turn)
  ReadsAt steps (at.Nexts table) = HasRead table.turn steps (suc (c.limit table.turn))
  ReadsAt steps (at.Over found) = ⊥

-- where a lookup goes on, it has made so many steps; it never waits, and is never refused
abbrev pub ReadsOn : {K : Type 0} → Bool → Chart K → ℕ → ℕ → Lookup × Advance (Option ℕ) → Type 0
ReadsOn incremental c first steps (l, Goes) = ReadsAt incremental c first steps l.stands
ReadsOn incremental c first steps (l, Done found) = Unit {0}
ReadsOn incremental c first steps (l, _) = ⊥

-- From the root on it reads those of the root's table, and in blocking mode those alone.
abbrev pub IsRootOf : {K : Type 0} → Chart K → ℕ → Looking → Type 0
IsRootOf c first at.Roots = first ≡ c.first
IsRootOf c first _ = Unit {0}

-- tables that there were are as long
pub record TablesLast {K : Type 0} (c c2 : Chart K) : Type 0 where
  pub past : c.past ≤ c2.past
  pub limits : (t : ℕ) → t < c.past → c2.limit t ≡ c.limit t

module _ (K V : Type 0) (same : K → K → Bool) (hash : K → ℕ) where
  -- The promises: a lookup that goes on has made a step more, and has read no more than that,
  abbrev pub LookupsReadOn : Type 0
  LookupsReadOn =
      AreLawful same hash → (mode : ResizeMode) (root : ℕ) (keys : K → Bool) (code : ℕ) (m : Mem (Node K V)) (c : Chart K) (blocks : Blocks) (l : Lookup)
      → IsClass same hash keys code → IsMap same hash mode root m c blocks → LookupFacts same hash mode root keys code c blocks l
      → (first steps : ℕ) → IsRootOf c first l.stands → ReadsAt (is_incremental mode) c first steps l.stands
      → (m2 : Mem (Node K V)) (end : Lookup × Advance (Option ℕ)) → Steps Took value_at m (lookup_plan keys l) m2 end
      → ReadsOn (is_incremental mode) c first (suc steps) end

-- and so it is where the tables have moved on.
abbrev pub ReadingsLast : Type 0 → Type 0
ReadingsLast K =
    (incremental : Bool) (c c2 : Chart K) → TablesLast c c2 → (first steps : ℕ) (stands : Looking) → ReadsAt incremental c first steps stands
    → ReadsAt incremental c2 first steps stands

module _ {K V : Type 0} where
  -- The root was the table of this turn at a moment; in blocking mode it had its limit then.
  abbrev pub WasRoot : Bool → ℕ → Chart K → ℕ → Moment K V → Type 0
  WasRoot incremental map c first v = (first_of map v ≡ first) × (incremental ≡ false → c.limit first + 2 ≤ sum_by words_of (root_table map v))

  -- So it was at one of these moments, unless the lookup has yet to read the root.
  abbrev pub ReadsSince : Bool → ℕ → Chart K → List (Moment K V) → ℕ → Looking → Type 0
  ReadsSince incremental map c moments steps at.Roots = steps ≡ 0
  ReadsSince incremental map c moments steps stands =
      (first : ℕ) × ReadsAt incremental c first steps stands × OneOf (WasRoot incremental map c first) moments

-- The promise: with its next step it has read few words, by the moments since its call has begun, at a moment that shows its map.
abbrev pub ReadingsAreFew : Type 0 → Type 0 → Type 0
ReadingsAreFew K V =
    (s : Standing K) (now v : Moment K V) (known : Known) (call : CallThere K V) (moments : List (Moment K V)) (steps : ℕ) (stands : Looking)
    → RefinesTables call.map s now known
    → ReadsSince (is_incremental s.setting.mode) call.map s.chart (v ∷ moments) steps stands
    → OneOf (ReadsFew (is_incremental s.setting.mode) call now (suc steps)) (v ∷ moments)

-- The root of a map is the root's table at a moment that shows it.
abbrev pub RootsAreShown : Type 0 → Type 0 → Type 0
RootsAreShown K V =
    (map : ℕ) (s : Standing K) (v : Moment K V) (known : Known) → RefinesPresence map s v known → RefinesTables map s v known → s.chart.first < s.chart.past
    → WasRoot (is_incremental s.setting.mode) map s.chart s.chart.first v
