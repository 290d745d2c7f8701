-- What is promised of each step of a reservation, and of its first point.
use Rattle.std.specs.Prelude.{ℕ, Bool}
use Rattle.std.proofs.Common.{refl}
use Rattle.map_facts.specs.Given.SeizeWordsMem.{Mem}
use Rattle.map_facts.specs.Given.SeizeWorld.{World}
use Rattle.map_facts.specs.Given.TablesDeclared.node.Node.{Node}
use Rattle.map_facts.specs.Given.TablesDeclared.setting.Setting.{Setting}
use Rattle.map_facts.specs.Given.ResizeDeclared.yielding.Yielding.{Yielding}
use Rattle.map_facts.specs.Given.ReservesDeclared.reserve.Reserve.{Reserve}
use Rattle.map_facts.specs.Given.ReservesDeclared.reserve.Reserving.{Reserving}
use Rattle.map_facts.specs.Given.ReservesDeclared.reserve.Reserving.TheVariants as at
use Rattle.map_facts.specs.Given.RuleChart.{Chart}
use Rattle.map_facts.specs.Given.RuleWords.{Blocks}
use Rattle.map_facts.specs.Given.RuleInWorld.{SparesPairs}
use Rattle.map_facts.proofs.Given.RuleWorld.WentTold.{went_as}
use Rattle.map_facts.specs.Told.{OnlyLinks}
use Rattle.map_facts_late.specs.FactsReserves.{CopiesPairs}
use Rattle.map_facts_late.specs.ToldReserves.{ReserveOutcome}
use Rattle.map_facts_late.specs.StepsReserves.{ReservesBegin, ReservesPreserveTheMap}
use Rattle.map_facts_late.proofs.Rooms.Reserves.Moved.{ReserveMoves}
use Rattle.map_facts_late.proofs.Rooms.Reserves.On.{ReserveTells}
use Rattle.map_facts_late.proofs.Rooms.Reserves.Points.{may_reserve, went_reserve}

module _ {K : Type 0} (V : Type 0) (same : K → K → Bool) (hash : K → ℕ) where
  pub reserves_begin : ReservesBegin V same hash
  reserves_begin setting w caller c blocks idle additional = record { setting_is = refl; idle = λ other. idle; point = tt }

  only_links : (caller : ℕ) (setting : Setting) (w w2 : World (Node K V)) (c c2 : Chart K) (blocks2 : Blocks) (m2 : Mem (Node K V)) (stage : Reserving) (end : Reserve × Yielding (Node K V) Unit)
      → ReserveMoves same hash caller setting w c m2 stage end w2 c2 blocks2 → (CopiesPairs stage → ⊥) → OnlyLinks hash setting.mode c c2
  only_links caller setting w w2 c c2 blocks2 m2 (at.Copies copier) end moves other = absurd (other tt)
  only_links caller setting w w2 c c2 blocks2 m2 _ end moves other = moves.0

  pub reserves_keep_the_map : ReservesPreserveTheMap V same hash
  reserves_keep_the_map are setting initial_is w caller c blocks p map facts none = (
    may_reserve same hash caller setting are.lawful are.fits initial_is w c blocks map p facts none,
    λ m2 p2 outcome s. went_as same hash setting caller w c blocks m2 (ReserveTells same hash caller setting w c m2 p.stands (p2, outcome))
        (λ w2 c2 blocks2. SparesPairs w w2 × ReserveOutcome same hash caller setting c p w2 c2 blocks2 p2 outcome)
        (λ w2 c2 blocks2 map2 moved same_blocks told. (
          told.0,
          record { facts = told.2; same_pairs = told.1; beside = only_links caller setting w w2 c c2 blocks2 m2 p.stands (p2, outcome) told.3 },
        ))
        (went_reserve same hash caller setting are.lawful are.fits initial_is w c blocks map p facts none m2 (p2, outcome) s),
  )
