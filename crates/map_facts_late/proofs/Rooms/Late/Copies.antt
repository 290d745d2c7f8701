-- A reservation copies a whole table that the root has left: each step of its copier.
use Rattle.std.specs.Prelude.{◌≡◌, ℕ, Bool, false, true, cond, ◌⊎◌}
use Rattle.std.specs.Int.{IsPowerOfTwo}
use Rattle.std.proofs.Common.{inl, inr, sym, subst}
use Rattle.map_facts.specs.Given.SeizeWordsMem.{Mem, value_at, Can, Took}
use Rattle.map_facts.specs.Given.SeizeWordsPlan.{May, Steps}
use Rattle.map_facts.proofs.Given.SeizeWordsPlans.{as_may}
use Rattle.map_facts.proofs.Given.SeizeRuleRows.Leaving.{steps_back}
use Rattle.map_facts.specs.Given.SeizeWorld.{World}
use Rattle.map_facts.specs.Given.TablesChunks.{is_incremental}
use Rattle.map_facts.specs.Given.TablesDeclared.node.Node.{Node}
use Rattle.map_facts.specs.Given.TablesDeclared.setting.Setting.{Setting}
use Rattle.map_facts.specs.Given.TablesDeclared.table.Table.{Table}
use Rattle.map_facts.specs.Given.ResizeCopier.{copier_plan}
use Rattle.map_facts.specs.Given.ResizeDeclared.copier.Copier.{Copier}
use Rattle.map_facts.specs.Given.ResizeDeclared.yielding.Yielding.{Yielding}
use Rattle.map_facts.specs.Given.ResizeDeclared.yielding.Yielding.TheVariants as outcome
use Rattle.map_facts.specs.Given.ReservesReserve.{standing, copied, plan_at}
use Rattle.map_facts.specs.Given.ReservesDeclared.reserve.Reserve.{Reserve}
use Rattle.map_facts.specs.Given.ReservesDeclared.reserve.Reserving.TheVariants as at
use Rattle.map_facts.specs.Given.RuleChart.{Chart}
use Rattle.map_facts.specs.Given.RuleWords.{Blocks}
use Rattle.map_facts.specs.Given.RuleMoments.{Moments}
use Rattle.map_facts.specs.Given.RuleInWorld.{IsMapIn, SparesPairs}
use Rattle.map_facts.proofs.Given.RuleWorld.WentTold.{went_as}
use Rattle.map_facts.specs.FactsCopies.{CopierFacts}
use Rattle.map_facts.specs.FactsCopiesBlocking.{CopierFactsBlocking}
use Rattle.map_facts.specs.Steps.{AreLawful}
use Rattle.map_facts.specs.Told.{IsRowOfCopier}
use Rattle.map_facts_late.specs.Left.{ClaimsAreFew}
use Rattle.map_facts_late.specs.LateCopies.{SupersededCopierFacts}
use Rattle.map_facts_late.specs.LateTold.{SupersededCopierAfter, SupersededCopierOutcome}
use Rattle.map_facts_late.proofs.Copiers.Points.{late_copiers_keep_the_map}
use Rattle.map_facts_late.proofs.Lasts.Copiers.{late_copier_idle}
use Rattle.map_facts_late.specs.FactsReserves.{IsEnding, CopiesWhole, ReserveFacts}
use Rattle.map_facts_late.specs.LateReserves.{SupersededReserveFacts}
use Rattle.map_facts_late.specs.LateToldReserves.{SupersededReserveAfter}
use Rattle.map_facts_late.proofs.Rooms.Late.LatesOn.{LateTells, LateWent, counts_in}

module _ {K V : Type 0} (same : K → K → Bool) (hash : K → ℕ) (caller : ℕ) (setting : Setting) (blocking : is_incremental setting.mode ≡ false) where
  -- in blocking mode its copier knows just what one of a whole table does
  pub whole_blocking : (w : World (Node K V)) (c : Chart K) (blocks : Blocks) (copier : Copier) → CopierFactsBlocking same hash w caller setting c blocks copier → CopiesWhole same hash w caller setting c blocks copier
  whole_blocking w c blocks copier facts =
      subst (λ (b : Bool). cond b ((copier.whole ≡ true) × CopierFacts same hash w caller setting c blocks copier × IsEnding same hash w caller setting c blocks copier copier.stands)
      (CopierFactsBlocking same hash w caller setting c blocks copier)) (sym blocking) facts

  module _ (began : ℕ) (p : Reserve) (setting_is : p.setting ≡ setting) where
    module _ (w : World (Node K V)) (c : Chart K) (blocks : Blocks) (map : IsMapIn same hash setting w c blocks) where
      -- it copies on, there or from the root's table
      late_there : (next : Copier) → SupersededCopierFacts same hash w caller setting c blocks began next → SupersededReserveFacts same hash w caller setting c blocks began (standing p (at.Copies next))
      late_there next late = record {
        blocking = blocking;
        setting_is = setting_is;
        idle = late_copier_idle same hash w caller setting c blocks began next next.stands late.point;
        point = late;
      }

      copies_there : (next : Copier) → CopierFactsBlocking same hash w caller setting c blocks next ⊎ SupersededCopierFacts same hash w caller setting c blocks began next
          → ReserveFacts same hash w caller setting c blocks (standing p (at.Copies next)) ⊎ SupersededReserveFacts same hash w caller setting c blocks began (standing p (at.Copies next))
      copies_there next (inl fresh) = inl record { setting_is = setting_is; idle = λ rests. absurd (rests tt); point = whole_blocking w c blocks next fresh }
      copies_there next (inr late) = inr (late_there next late)

      copied_late : (end : Copier × Yielding (Node K V) Table) → SupersededCopierAfter same hash caller setting began w c blocks end → SupersededReserveAfter same hash caller setting began w c blocks (copied p end)
      copied_late (next, outcome.Goes) told = copies_there next told
      copied_late (next, outcome.Waits) told = late_there next told
      copied_late (next, outcome.Gave value) told = absurd told
      copied_late (next, outcome.Done table) told = counts_in same hash caller setting blocking began w c blocks map p setting_is told.1 table told.0.0 told.0.1 told.0.2
      copied_late (next, outcome.Refused fault) told = told

    module _ (are : AreLawful same hash) (initial_is : IsPowerOfTwo setting.initial) (w : World (Node K V)) (c : Chart K) (blocks : Blocks) (map : IsMapIn same hash setting w c blocks)
        (moments : Moments false c) (few : ClaimsAreFew c) (copier : Copier) (facts : SupersededCopierFacts same hash w caller setting c blocks began copier) (none : IsRowOfCopier copier.stands → ⊥) where
      pub may_copies : May Can Took value_at w.memory (plan_at hash p (at.Copies copier))
      may_copies = as_may (copied p) Can Took value_at w.memory (copier_plan hash copier)
          (late_copiers_keep_the_map same hash are setting initial_is blocking w caller c blocks began copier map moments few facts none).0

      pub went_copies : (m2 : Mem (Node K V)) (end : Reserve × Yielding (Node K V) Unit) → Steps Took value_at w.memory (plan_at hash p (at.Copies copier)) m2 end
          → LateWent same hash caller setting blocking began w c blocks m2 (at.Copies copier) end
      went_copies m2 end s =
          let b = steps_back (copied p) w.memory m2 (copier_plan hash copier) end s in
          went_as same hash setting caller w c blocks m2 (λ w2 c2 blocks2. SparesPairs w w2 × SupersededCopierOutcome same hash caller setting began w2 c2 blocks2 c b.0)
          (LateTells same hash caller setting blocking began w c (at.Copies copier) end)
          (λ w2 c2 blocks2 map2 moved same_blocks told. (
            told.0,
            told.1.1,
            subst (λ (e : Reserve × Yielding (Node K V) Unit). SupersededReserveAfter same hash caller setting began w2 c2 blocks2 e) (sym b.2) (copied_late w2 c2 blocks2 map2 b.0 told.1.0),
            λ other. absurd (other tt),
          ))
          ((late_copiers_keep_the_map same hash are setting initial_is blocking w caller c blocks began copier map moments few facts none).1 m2 b.0 b.1)
