-- Each step of a reservation whose table the root has left: it may be taken, and where it leads.
use Rattle.std.specs.Prelude.{◌≡◌, ℕ, Bool, false}
use Rattle.std.specs.Int.{IsPowerOfTwo}
use Rattle.std.proofs.Common.{subst}
use Rattle.map_facts.specs.Given.SeizeWordsMem.{Mem, value_at, Can, Took}
use Rattle.map_facts.specs.Given.SeizeWordsPlan.{May, Steps}
use Rattle.map_facts.specs.Given.SeizeWorld.{World}
use Rattle.map_facts.specs.Given.TablesChunks.{is_incremental}
use Rattle.map_facts.specs.Given.TablesDeclared.node.Node.{Node}
use Rattle.map_facts.specs.Given.TablesDeclared.setting.Setting.{Setting}
use Rattle.map_facts.specs.Given.ResizeDeclared.yielding.Yielding.{Yielding}
use Rattle.map_facts.specs.Given.ReservesReserve.{plan_at, reserve_plan}
use Rattle.map_facts.specs.Given.ReservesDeclared.reserve.Reserve.{Reserve}
use Rattle.map_facts.specs.Given.ReservesDeclared.reserve.Reserving.{Reserving}
use Rattle.map_facts.specs.Given.ReservesDeclared.reserve.Reserving.TheVariants as at
use Rattle.map_facts.specs.Given.RuleChart.{Chart}
use Rattle.map_facts.specs.Given.RuleWords.{Blocks}
use Rattle.map_facts.specs.Given.RuleMoments.{Moments}
use Rattle.map_facts.specs.Given.RuleInWorld.{IsMapIn, SparesPairs}
use Rattle.map_facts.proofs.Given.RuleWorld.WentTold.{went_as}
use Rattle.map_facts.specs.Steps.{AreLawful}
use Rattle.map_facts_late.specs.Left.{ClaimsAreFew}
use Rattle.map_facts_late.specs.LateReserves.{SupersededReserving, SupersededReserveFacts}
use Rattle.map_facts_late.specs.LateToldReserves.{SupersededReserveOutcome}
use Rattle.map_facts_late.specs.LastsReserves.{SupersededReservesPreserveTheMap}
use Rattle.map_facts_late.specs.ToldReserves.{IsRowOfReserve}
use Rattle.map_facts_late.proofs.Rooms.Reserves.Mays.{may_sums, may_follows, may_grows}
use Rattle.map_facts_late.proofs.Rooms.Late.LatesOn.{LateTells, LateWent}
use Rattle.map_facts_late.proofs.Rooms.Late.Tables.{went_sums, went_follows, went_grows, may_makes, went_makes}
use Rattle.map_facts_late.proofs.Rooms.Late.Copies.{may_copies, went_copies}

module _ {K V : Type 0} (same : K → K → Bool) (hash : K → ℕ) (are : AreLawful same hash) (caller : ℕ) (setting : Setting) (blocking : is_incremental setting.mode ≡ false)
    (initial_is : IsPowerOfTwo setting.initial) (began : ℕ) (w : World (Node K V)) (c : Chart K) (blocks : Blocks) (map : IsMapIn same hash setting w c blocks) (moments : Moments false c)
    (few : ClaimsAreFew c) (p : Reserve) (f : SupersededReserveFacts same hash w caller setting c blocks began p) where
  may_at : (stage : Reserving) → SupersededReserving same hash w caller setting c blocks began stage → (IsRowOfReserve stage → ⊥) → May Can Took value_at w.memory (plan_at hash p stage)
  may_at (at.Makes making) facts none = may_makes same hash caller setting blocking began are.lawful w c blocks map p f.setting_is f.idle making facts
  may_at (at.Sums table sum) (left, facts) none = may_sums same hash setting w c blocks map p table sum facts
  may_at (at.Follows table need) (t, entered, left) none = may_follows same hash setting w c blocks map p table t entered need
  may_at (at.Grows table making) (t, entered, left, facts) none = may_grows same hash setting w c blocks map p caller initial_is making table t facts
  may_at (at.Copies copier) facts none = may_copies same hash caller setting blocking began p f.setting_is are initial_is w c blocks map moments few copier facts none
  may_at at.Reads point none = absurd point
  may_at at.Over point none = absurd point
  may_at (at.Refused fault) point none = absurd point

  went_at : (m2 : Mem (Node K V)) (end : Reserve × Yielding (Node K V) Unit) (stage : Reserving) → SupersededReserving same hash w caller setting c blocks began stage → (IsRowOfReserve stage → ⊥)
      → Steps Took value_at w.memory (plan_at hash p stage) m2 end → LateWent same hash caller setting blocking began w c blocks m2 stage end
  went_at m2 end (at.Makes making) facts none s = went_makes same hash caller setting blocking began are.lawful w c blocks map p f.setting_is f.idle m2 end making facts s
  went_at m2 end (at.Sums table sum) ((t, entered, left), facts) none s =
      went_sums same hash caller setting blocking began are.lawful w c blocks map p f.setting_is f.idle m2 end table t entered left sum facts s
  went_at m2 end (at.Follows table need) (t, entered, left) none s =
      went_follows same hash caller setting blocking began are.lawful w c blocks map p f.setting_is f.idle m2 end table t entered left moments need s
  went_at m2 end (at.Grows table making) (t, entered, left, facts) none s =
      went_grows same hash caller setting blocking began are.lawful w c blocks map p f.setting_is f.idle m2 end table t entered left moments initial_is making facts s
  went_at m2 end (at.Copies copier) facts none s =
      went_copies same hash caller setting blocking began p f.setting_is are initial_is w c blocks map moments few copier facts none m2 end s
  went_at m2 end at.Reads point none s = absurd point
  went_at m2 end at.Over point none s = absurd point
  went_at m2 end (at.Refused fault) point none s = absurd point

  pub may_late : (IsRowOfReserve p.stands → ⊥) → May Can Took value_at w.memory (reserve_plan hash p)
  may_late none = may_at p.stands f.point none

  pub went_late : (IsRowOfReserve p.stands → ⊥) → (m2 : Mem (Node K V)) (end : Reserve × Yielding (Node K V) Unit) → Steps Took value_at w.memory (reserve_plan hash p) m2 end
      → LateWent same hash caller setting blocking began w c blocks m2 p.stands end
  went_late none m2 end s = went_at m2 end p.stands f.point none s

-- the promise
pub late_reserves_keep_the_map : {K : Type 0} (V : Type 0) (same : K → K → Bool) (hash : K → ℕ) → SupersededReservesPreserveTheMap V same hash
late_reserves_keep_the_map V same hash are setting initial_is w caller c blocks began p map moments few f none =
    let m : Moments false c = subst (λ (b : Bool). Moments b c) f.blocking moments in (
      may_late same hash are caller setting f.blocking initial_is began w c blocks map m few p f none,
      λ m2 p2 outcome s. went_as same hash setting caller w c blocks m2 (LateTells same hash caller setting f.blocking began w c p.stands (p2, outcome))
          (λ w2 c2 blocks2. SparesPairs w w2 × SupersededReserveOutcome same hash caller setting began c p w2 c2 blocks2 p2 outcome)
          (λ w2 c2 blocks2 map2 moved same_blocks told. (told.0, record { facts = told.2; same_pairs = told.1; beside = told.3 }))
          (went_late same hash are caller setting f.blocking initial_is began w c blocks map m few p f none m2 (p2, outcome) s),
    )
