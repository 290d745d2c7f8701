-- What comes back: the pairs that effects reclaim follow in a list, each as it was stored.
use Rattle.std.specs.Prelude.{◌≡◌, ◌-◌, ℕ, Bool, List, [], ◌∷◌, ◌++◌, length, flat_map, Option, Some, None, slice_get}
use Rattle.std.specs.List.{AllByRecursion}
use Rattle.seize.specs.declared.rows.settle.Settled.{Settled}
use Rattle.seize.specs.declared.rows.settle.Settled.TheVariants as settled
use Rattle.papaya_raw.specs.Given.TablesDeclared.node.Node.{Node}
use Rattle.papaya_raw.specs.Given.TablesDeclared.node.Node.TheVariants as node
use Rattle.run_schedules.specs.declared.ended.Pair.{Pair}
use Rattle.run_schedules.specs.Runs.Pairs.{numbers}
use Rattle.run_schedules.specs.Runs.Runs.{IsStored}
use Rattle.run_schedules.specs.declared.effect.Effect.{Effect}
use Rattle.run_schedules.specs.declared.effect.Effect.TheVariants.{Ended, Reclaimed}
use Rattle.run_schedules.specs.declared.effect.Thing.TheVariants.{APair}
use Rattle.run_schedules.specs.Schedules.Effects.{pairs_back}
use Rattle.run_schedules.specs.Schedules.Moment.{Moment}
use Rattle.run_effects.specs.Effects.Known.{Known, known}
use Rattle.run_shows.specs.declared.row.RowTold.{RowTold}
use Rattle.run_shows.specs.declared.row.RowTold.TheVariants as told
use Rattle.run_executor.specs.ReclaimsAll.Reclaiming.{MayReclaim, NobodyHas}
use Rattle.run_shows.specs.Given.FinishesEndings.{Finishing}
use Rattle.run_logged.specs.Log.Ends.{NotedStill, NotesMap}
use Rattle.run_logged.specs.Log.Shown.{IsShown}
use Rattle.run_logged.specs.declared.logged.Logged.{Logged}
use Rattle.run_shows.specs.Scenes.Scene.{Scene}

-- the number of the pair that an effect reclaims, if it reclaims one,
abbrev pub number_back : Effect → Option ℕ
number_back (Reclaimed (APair n)) = Some n
number_back (Ended n) = Some n
number_back _ = None

abbrev pub number_in : Option Effect → Option ℕ
number_in None = None
number_in (Some f) = number_back f

-- and of the one that the last of these reclaims
abbrev pub number_last : List Effect → Option ℕ
number_last effects = number_in (slice_get effects (length effects - 1))

module _ {K V : Type 0} where
  -- a pair that has a number
  abbrev pub numbered : K → V → Option ℕ → List (Pair K V)
  numbered k v None = []
  numbered k v (Some n) = record { number = n; key = k; value = v } ∷ []

  -- the pair that was handed out, if it is one, by the last of these effects
  abbrev pub pair_back : Node K V → List Effect → List (Pair K V)
  pair_back (node.Pair k v) effects = numbered k v (number_last effects)
  pair_back _ effects = []

  -- what a step of a row hands out,
  abbrev pub row_back : RowTold (Node K V) → List Effect → List (Pair K V)
  row_back (told.Gave value) effects = pair_back value effects
  row_back _ effects = []

  -- and a step of an end, or of reclaiming all
  abbrev pub settled_back : Settled (Node K V) → List Effect → List (Pair K V)
  settled_back (settled.Gave value) effects = pair_back value effects
  settled_back _ effects = []

  -- What these effects reclaim has come back: so many pairs follow in the list, with the numbers of those that are reclaimed, and each is as it was stored.
  pub record ComesBack (stored : List (K × V)) (did : List Effect) (old new : List (Pair K V)) : Type 0 where
    pub more : List (Pair K V)
    pub follow : new ≡ old ++ more
    pub reclaimed : numbers more ≡ flat_map pairs_back did
    pub contents : AllByRecursion (IsStored stored) more

module _ {K V S : Type 0} where
  -- So it is of what follows in the list of effects, wherever a moment shows the executor before it,
  abbrev pub BringsBack : (before after : List Effect) → (first : Logged K V S) → (old new : List (Pair K V)) → Type 0
  BringsBack before after first old new =
      (did : List Effect) × (after ≡ before ++ did)
      × ((same : K → K → Bool) (hash : K → ℕ) (name : ℕ → List ℕ) (m : Moment K V) (s : Scene K V) → IsShown same hash name m first s → ComesBack m.stored did old new)

  -- of the end of a map, where the blocks of that are noted as its own;
  abbrev pub EndBringsBack : (i map : ℕ) → (before after : List Effect) → (first : Logged K V S) → (old new : List (Pair K V)) → Type 0
  EndBringsBack i map before after first old new =
      (did : List Effect) × (after ≡ before ++ did)
      × ((same : K → K → Bool) (hash : K → ℕ) (name : ℕ → List ℕ) (m : Moment K V) (s : Scene K V) → IsShown same hash name m first s
      → (f : Finishing K V) → s.enders i ≡ Some f → s.maps map ≡ None
      → (number : ℕ → ℕ) (noted : Known) → NotesMap map number noted f.setting f.chart f.blocks → NotedStill noted (known first.notes) f.back → ComesBack m.stored did old new)

  -- and of reclaiming all, where nobody has anything under way.
  abbrev pub AllBringsBack : Bool → (before after : List Effect) → (first : Logged K V S) → (old new : List (Pair K V)) → Type 0
  AllBringsBack taken before after first old new =
      (did : List Effect) × (after ≡ before ++ did)
      × ((same : K → K → Bool) (hash : K → ℕ) (name : ℕ → List ℕ) (m : Moment K V) (s : Scene K V) (lists : ℕ → List ℕ) → IsShown same hash name m first s
      → NobodyHas first.executor → MayReclaim first.executor s lists taken → ComesBack m.stored did old new)
