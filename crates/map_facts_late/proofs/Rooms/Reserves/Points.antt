-- Each step of a reservation: it may be taken, and where it leads.
use Rattle.std.specs.Prelude.{◌≡◌, ℕ, ◌^◌, ◌<◌, Bool}
use Rattle.std.specs.Int.{IsPowerOfTwo}
use Rattle.std.proofs.Common.{sym, subst}
use Rattle.map_facts.specs.Given.SeizeWordsMem.{Mem, value_at, Can, Took}
use Rattle.map_facts.specs.Given.SeizeWordsPlan.{May, Steps}
use Rattle.map_facts.specs.Given.SeizeWorld.{World}
use Rattle.map_facts.specs.Given.ReservesReserve.{plan_at, reserve_plan}
use Rattle.map_facts.specs.Given.TablesDeclared.node.Node.{Node}
use Rattle.map_facts.specs.Given.ResizeDeclared.yielding.Yielding.{Yielding}
use Rattle.map_facts.specs.Given.TablesDeclared.setting.Setting.{Setting}
use Rattle.map_facts.specs.Given.ReservesDeclared.reserve.Reserve.{Reserve}
use Rattle.map_facts.specs.Given.ReservesDeclared.reserve.Reserving.{Reserving}
use Rattle.map_facts.specs.Given.ReservesDeclared.reserve.Reserving.TheVariants as at
use Rattle.map_facts.specs.Given.RuleChart.{Chart}
use Rattle.map_facts.specs.Given.RuleRule.{IsLawful}
use Rattle.map_facts.specs.Given.RuleWords.{Blocks}
use Rattle.map_facts.specs.Given.RuleMaps.{spot_of}
use Rattle.map_facts.specs.Given.RuleInWorld.{IsMapIn}
use Rattle.map_facts.specs.FactsIdle.{IsIdle}
use Rattle.map_facts_late.specs.FactsReserves.{CopiesPairs, ReservingFacts, ReserveFacts}
use Rattle.map_facts_late.specs.ToldReserves.{ReserveAfter, IsRowOfReserve}
use Rattle.map_facts_late.proofs.Rooms.Reserves.Moved.{Proceeds}
use Rattle.map_facts_late.proofs.Rooms.Reserves.On.{ReserveWent, reserve_still}
use Rattle.map_facts_late.proofs.Rooms.Reserves.Copies.{may_copies, went_copies}
use Rattle.map_facts_late.proofs.Rooms.Reserves.Mays.{may_reads, may_sums, may_follows, may_grows, may_makes}
use Rattle.map_facts_late.proofs.Rooms.Reserves.Tables.{went_reads, went_sums, went_follows, went_grows, went_makes}

module _ {K V : Type 0} (same : K → K → Bool) (hash : K → ℕ) (caller : ℕ) (setting : Setting) (lawful : IsLawful same (spot_of hash)) (fits : (k : K) → hash k < 2 ^ 64)
    (initial_is : IsPowerOfTwo setting.initial) (w : World (Node K V)) (c : Chart K) (blocks : Blocks) (map : IsMapIn same hash setting w c blocks) where
  module _ (p : Reserve) (setting_is : p.setting ≡ setting) where
    may_at : (stage : Reserving) → ReservingFacts same hash w caller setting c blocks stage → (IsRowOfReserve stage → ⊥) → May Can Took value_at w.memory (plan_at hash p stage)
    may_at at.Reads f none = may_reads same hash setting w c blocks map p setting_is
    may_at (at.Makes making) f none = may_makes same hash setting w c blocks map p caller initial_is making f
    may_at (at.Sums table sum) f none = may_sums same hash setting w c blocks map p table sum f.1
    may_at (at.Follows table need) f none = may_follows same hash setting w c blocks map p table f.0.0 f.0.1 need
    may_at (at.Grows table making) f none = may_grows same hash setting w c blocks map p caller initial_is making table f.0 f.3
    may_at (at.Copies copier) f none = may_copies same hash caller setting lawful fits initial_is w c blocks map p setting_is copier none f
    may_at at.Over f none = tt
    may_at (at.Refused fault) f none = tt

    went_at : (stage : Reserving) → ReservingFacts same hash w caller setting c blocks stage → ((CopiesPairs stage → ⊥) → IsIdle same hash w caller setting c blocks)
        → (IsRowOfReserve stage → ⊥) → (m2 : Mem (Node K V)) (end : Reserve × Yielding (Node K V) Unit) → Steps Took value_at w.memory (plan_at hash p stage) m2 end
        → ReserveWent same hash caller setting w c blocks m2 stage end
    went_at at.Reads f idle none m2 end s = went_reads same hash caller setting lawful initial_is w c blocks map p setting_is (idle (λ h. h)) m2 end s
    went_at (at.Makes making) f idle none m2 end s = went_makes same hash caller setting lawful initial_is w c blocks map p setting_is making f (idle (λ h. h)) m2 end s
    went_at (at.Sums table sum) f idle none m2 end s =
        went_sums same hash caller setting lawful initial_is w c blocks map p setting_is table f.0.0 f.0.1 f.0.2 sum f.1 (idle (λ h. h)) m2 end s
    went_at (at.Follows table need) f idle none m2 end s =
        went_follows same hash caller setting lawful initial_is w c blocks map p setting_is table f.0.0 f.0.1 f.0.2 need f.1 (idle (λ h. h)) m2 end s
    went_at (at.Grows table making) f idle none m2 end s =
        went_grows same hash caller setting lawful initial_is w c blocks map p setting_is table f.0 f.1 f.2 making f.3 (idle (λ h. h)) m2 end s
    went_at (at.Copies copier) f idle none m2 end s = went_copies same hash caller setting lawful fits initial_is w c blocks map p setting_is copier none f m2 end s
    went_at at.Over f idle none m2 end s =
        reserve_still same hash caller setting w c blocks map m2 s.0 at.Over (λ h. h) end
        (subst (λ (e : Reserve × Yielding (Node K V) Unit). ReserveAfter w caller setting c blocks same hash e × Proceeds setting e) (sym s.1) (idle (λ h. h), tt))
    went_at (at.Refused fault) f idle none m2 end s =
        reserve_still same hash caller setting w c blocks map m2 s.0 (at.Refused fault) (λ h. h) end
        (subst (λ (e : Reserve × Yielding (Node K V) Unit). ReserveAfter w caller setting c blocks same hash e × Proceeds setting e) (sym s.1) (idle (λ h. h), tt))

  pub may_reserve : (p : Reserve) → ReserveFacts same hash w caller setting c blocks p → (IsRowOfReserve p.stands → ⊥) → May Can Took value_at w.memory (reserve_plan hash p)
  may_reserve p f none = may_at p f.setting_is p.stands f.point none

  pub went_reserve : (p : Reserve) → ReserveFacts same hash w caller setting c blocks p → (IsRowOfReserve p.stands → ⊥) → (m2 : Mem (Node K V))
      (end : Reserve × Yielding (Node K V) Unit) → Steps Took value_at w.memory (reserve_plan hash p) m2 end → ReserveWent same hash caller setting w c blocks m2 p.stands end
  went_reserve p f none m2 end s = went_at p f.setting_is p.stands f.point f.idle none m2 end s
