-- The end of a map that owns its collector: each step by which it goes on lowers a number, and so it terminates.
use Rattle.std.specs.Prelude.{◌≡◌, ℕ, ◌-◌, Bool, true, List, [], ◌∷◌, ◌++◌, length, Option}
use Rattle.many_maps.specs.Given.SeizeWordsMem.{Mem, Took, value_at}
use Rattle.many_maps.specs.Given.SeizeWordsPlan.{Steps}
use Rattle.many_maps.specs.Given.SeizeWorld.{World}
use Rattle.many_maps.specs.Given.SeizeDeclared.rows.settle.Settled.{Settled}
use Rattle.many_maps.specs.Given.SeizeDeclared.rows.settle.Settled.TheVariants as settled
use Rattle.many_maps.specs.Given.TablesDeclared.node.Node.{Node}
use Rattle.many_maps.specs.Given.RawEndMap.{end_map_plan}
use Rattle.many_maps.specs.Given.RawDeclared.machines.end_map.EndMap.{EndMap}
use Rattle.owner_facts.specs.Alone.Endings.{RunsEnd}
use Rattle.many_maps.specs.Given.PointsMeasures.{IsBelow}
use Rattle.many_maps.specs.Given.CallersTogether.{UnderWay}
use Rattle.many_maps.specs.Endings.{Finishing}
use Rattle.many_maps.specs.FactsEnds.{back_of}
use Rattle.many_maps.specs.Makings.{Beginning}
use Rattle.many_maps.specs.Maps.{Standing}
use Rattle.many_maps.specs.Owners.{OwnEnding}
use Rattle.owner_facts.specs.Descends.Numbers.{ahead}

-- the blocks that are still to be reclaimed, those that tables carry, too, and what is ahead until the next one is
abbrev pub number_of_own : {K V : Type 0} → (ℕ → List ℕ) → Finishing K V → Mem (Node K V) → List ℕ
number_of_own lists f m = (length (back_of f.setting f.chart f.blocks lists true) - length f.back) ∷ ahead f.chart.past m f.machine f.machine.stands

-- where such an end stands after a step that is not its last
abbrev pub goes_own : {K V : Type 0} → Finishing K V → EndMap × Settled (Node K V) → Finishing K V → Type 0
goes_own f (e, settled.Goes) g = g ≡ record f { machine = e }
goes_own f (e, settled.Gave value) g = (b : ℕ) × (g ≡ record f { machine = e; back = f.back ++ b ∷ [] })
goes_own f (e, _) g = ⊥

module _ {K Q : Type 0} (V : Type 0) (same : K → K → Bool) (asks : Q → K → Bool) (batch_size roots : ℕ) (slot : ℕ → ℕ) (i : ℕ) where
  -- this caller ends a map that owns its collector, while no other map stands, is made or ends
  pub record HasOwn : Type 0 where
    pub w : World (Node K V)
    pub maps : ℕ → Option (Standing K)
    pub calls : ℕ → ℕ → Option (UnderWay K V Q)
    pub makers : ℕ → Option (Beginning K)
    pub enders : ℕ → Option (Finishing K V)
    pub f : Finishing K V
    pub own : OwnEnding V same asks batch_size roots slot maps calls makers enders w i f

  abbrev pub own_number : HasOwn → List ℕ
  own_number x = number_of_own x.own.facts.lists x.f x.w.memory

  -- it takes a step of that which is not its last
  abbrev pub OwnGoes : HasOwn → HasOwn → Type 0
  OwnGoes x y =
      (m2 : Mem (Node K V)) × (end : EndMap × Settled (Node K V)) × Steps Took value_at x.w.memory (end_map_plan x.f.machine) m2 end × (y.w.memory ≡ m2) × goes_own x.f end y.f

  -- The promises: that lowers its number,
  abbrev pub OwnEndingsFall : Type 0
  OwnEndingsFall = (x y : HasOwn) → OwnGoes x y → IsBelow (own_number y) (own_number x)

  -- and it terminates.
  abbrev pub OwnEndingsEnd : Type 0
  OwnEndingsEnd = (x : HasOwn) → RunsEnd HasOwn OwnGoes x
