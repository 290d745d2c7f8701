-- Countings and ends of maps come to their ends by their own steps, whatever others do between these.
use Rattle.std.specs.Prelude.{◌≡◌, ℕ, Bool, [], ◌∷◌, ◌++◌, Option, Some}
use Rattle.many_maps.specs.Given.SeizeWordsMem.{Mem, Took, value_at}
use Rattle.many_maps.specs.Given.SeizeWordsPlan.{Steps}
use Rattle.many_maps.specs.Given.SeizeWorld.{World}
use Rattle.many_maps.specs.Given.SeizeDeclared.advance.Advance.TheVariants as progress
use Rattle.many_maps.specs.Given.SeizeDeclared.rows.settle.Settled.{Settled}
use Rattle.many_maps.specs.Given.SeizeDeclared.rows.settle.Settled.TheVariants as settled
use Rattle.many_maps.specs.Given.TablesDeclared.node.Node.{Node}
use Rattle.many_maps.specs.Given.ResizeSum.{sum_plan}
use Rattle.many_maps.specs.Given.ResizeDeclared.sum.Sum.{Sum}
use Rattle.many_maps.specs.Given.RawEndMap.{end_map_plan}
use Rattle.many_maps.specs.Given.RawDeclared.machines.end_map.EndMap.{EndMap}
use Rattle.owner_facts.specs.Alone.Endings.{RunsEnd}
use Rattle.many_maps.specs.Given.CallersTogether.{UnderWay}
use Rattle.many_maps.specs.Endings.{Finishing, EndingsTogether, StepsOfEnding, waiting_by}
use Rattle.many_maps.specs.FactsEnds.{Deed, taken_by}
use Rattle.many_maps.specs.Makings.{Beginning}
use Rattle.many_maps.specs.Maps.{Standing}

module _ (K V : Type 0) where
  -- a step of a counting that goes on, in whatever memory
  abbrev pub CountingGoes : Sum → Sum → Type 0
  CountingGoes c c2 = (m m2 : Mem (Node K V)) × Steps Took value_at m (sum_plan c) m2 (c2, progress.Goes)

  -- each run of such steps terminates
  abbrev pub CountingsEnd : Type 0
  CountingsEnd = (c : Sum) → RunsEnd Sum CountingGoes c

-- where the end of a map stands after a step that is not its last, by what that did
abbrev pub continues_as : {K V : Type 0} → Finishing K V → Deed → EndMap × Settled (Node K V) → Finishing K V → Type 0
continues_as f deed (e, settled.Goes) g = g ≡ record f { machine = e; waits = f.waits ++ waiting_by deed }
continues_as f deed (e, settled.Gave value) g = (b : ℕ) × (taken_by deed ≡ b ∷ []) × (g ≡ record f { machine = e; back = f.back ++ b ∷ []; waits = f.waits ++ waiting_by deed })
continues_as f deed (e, _) g = ⊥

module _ {K Q : Type 0} (V : Type 0) (same : K → K → Bool) (asks : Q → K → Bool) (batch_size roots : ℕ) (slot : ℕ → ℕ) (i : ℕ) where
  -- the invariant of all holds, and this caller has the end of a map under way
  pub record HasEnd : Type 0 where
    pub w : World (Node K V)
    pub maps : ℕ → Option (Standing K)
    pub calls : ℕ → ℕ → Option (UnderWay K V Q)
    pub makers : ℕ → Option (Beginning K)
    pub enders : ℕ → Option (Finishing K V)
    pub all : EndingsTogether V same asks batch_size roots slot w maps calls makers enders
    pub f : Finishing K V
    pub ends : enders i ≡ Some f

  -- It takes a step of that which is not its last. Then others do whatever leaves all standing together, and this end as that step has left it.
  abbrev pub EndGoes : HasEnd → HasEnd → Type 0
  EndGoes x y =
      (m2 : Mem (Node K V)) × (end : EndMap × Settled (Node K V)) × Steps Took value_at x.w.memory (end_map_plan x.f.machine) m2 end
      × (did : StepsOfEnding V same asks batch_size roots slot x.w x.maps x.calls x.makers x.enders i x.f m2 end) × continues_as x.f did.deed end y.f

  -- so each end of a map terminates
  abbrev pub EndingsEnd : Type 0
  EndingsEnd = (x : HasEnd) → RunsEnd HasEnd EndGoes x
