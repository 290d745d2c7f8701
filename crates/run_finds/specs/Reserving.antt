-- What a reservation knows once it has counted: with so many further pairs a table can be had. So it may ask for the blocks of a table that follows another one.
use Rattle.std.specs.Prelude.{◌≡◌, ℕ, suc, ◌+◌, Bool, false, List, ◌∷◌, Some}
use Rattle.run_executor.specs.Given.SeizeWordsMem.{Mem}
use Rattle.run_executor.specs.Given.SeizeDeclared.advance.Advance.{Advance}
use Rattle.run_executor.specs.Given.SeizeDeclared.advance.Advance.TheVariants as progress
use Rattle.run_blocks.specs.Given.TablesDeclared.node.Node.{Node}
use Rattle.run_blocks.specs.Given.TablesDeclared.table.Table.{Table}
use Rattle.run_blocks.specs.Given.ResizeSum.{sum_plan}
use Rattle.run_blocks.specs.Given.ResizeDeclared.yielding.Yielding.{Yielding}
use Rattle.run_blocks.specs.Given.ResizeDeclared.sum.Sum.{Sum}
use Rattle.run_executor.specs.Given.ReservesReserve.{reserve_plan}
use Rattle.run_executor.specs.Given.ReservesDeclared.reserve.Reserve.{Reserve}
use Rattle.run_executor.specs.Given.ReservesDeclared.reserve.Reserving.{Reserving}
use Rattle.run_executor.specs.Given.ReservesDeclared.reserve.Reserving.TheVariants as reserving
use Rattle.run_executor.specs.Given.RawDeclared.machines.progress.Progress.{Progress as Said}
use Rattle.run_executor.specs.Given.RunsDeclared.call.Call.TheVariants.{Reserve as ToReserve}
use Rattle.run_executor.specs.Given.SchedulesCounts.{Counts}
use Rattle.run_executor.specs.Given.SchedulesGrowing.{is_too_many}
use Rattle.run_executor.specs.Given.SchedulesMoment.{UnderWay as CallThere, Moment}
use Rattle.run_executor.specs.Given.SchedulesTerms.{Terms, shards_of}
use Rattle.run_executor.specs.Given.SchedulesViews.{call_of}
use Rattle.run_executor.specs.Given.TellerTells.{StepsObserved}
use Rattle.run_executor.specs.Given.EffectsDeclared.changed.Changed.{Changed}
use Rattle.run_executor.specs.Given.EffectsDeclared.changed.Changed.TheVariants as changed
use Rattle.run_executor.specs.Given.CallersRooms.{CallForRoom}
use Rattle.run_executor.specs.Given.CallersTogether.{ForRoom}
use Rattle.run_executor.specs.Given.EffectsEffects.{effects_of}
use Rattle.run_executor.specs.Given.EffectsKnown.{Known}
use Rattle.run_executor.specs.Given.EffectsDeclared.acting.Acting.TheVariants as acts
use Rattle.run_executor.specs.Given.MomentsWhole.{RefinesWhole}
use Rattle.run_finds.specs.Growing.{FindAsked}
use Rattle.run_executor.specs.Given.ScenesHeld.{Held, IsAt}
use Rattle.run_executor.specs.Given.ScenesScene.{Scene}
use Rattle.run_executor.specs.Given.ScenesStepping.{StepLeads}

module _ {K V : Type 0} (of : ℕ) (moments : List (Moment K V)) where
  -- it has counted so many pairs, by these moments, and with so many more a table can be had
  abbrev pub FitsAt : Reserve → Type 0
  FitsAt p = (n : ℕ) × Counts (suc p.setting.mask) of moments n × (is_too_many (n + p.additional) ≡ false)

  -- from there on, until it counts anew
  abbrev pub ReservesAt : Reserve → Reserving → Type 0
  ReservesAt p (reserving.Follows table need) = FitsAt p
  ReservesAt p (reserving.Grows table making) = FitsAt p
  ReservesAt p (reserving.Copies copier) = FitsAt p
  ReservesAt p _ = Unit {0}

  -- a counting that is done by a step has counted so many
  abbrev pub SumTells : Reserve → Mem (Node K V) → Mem (Node K V) → Changed → Type 0
  SumTells p m m2 told =
      (table : Table) (sum sum2 : Sum) (count : ℕ) → p.stands ≡ reserving.Sums table sum → StepsObserved K V (Sum × Advance ℕ) m changed.Nothing (sum_plan sum) m2 told (sum2, progress.Done count)
      → Counts (suc p.setting.mask) of moments count

-- it makes the first table of its map
abbrev pub MakesFirst : Reserving → Type 0
MakesFirst (reserving.Makes making) = Unit {0}
MakesFirst _ = ⊥

module _ (K V : Type 0) where
  -- The promises: so it is after each step of a reservation, if one that is done with counting has counted so many.
  abbrev pub RoomsPreserveCount : Type 0
  RoomsPreserveCount =
      (hash : K → ℕ) (of : ℕ) (moments : List (Moment K V)) (p : Reserve) (m m2 : Mem (Node K V)) (told : Changed) (end : Reserve × Yielding (Node K V) Unit)
      → ReservesAt of moments p p.stands → SumTells of moments p m m2 told → StepsObserved K V (Reserve × Yielding (Node K V) Unit) m changed.Nothing (reserve_plan hash p) m2 told end
      → ReservesAt of moments end.0 end.0.stands

module _ (K V : Type 0) (same : K → K → Bool) (hash : ℕ → K → ℕ) where
  -- So for each block for which it asks in a step it may ask, unless it makes the first table of its map.
  abbrev pub RoomsMayAsk : Type 0
  RoomsMayAsk =
      (name : ℕ → List ℕ) (m : Moment K V) (known : Known) (s : Scene K V) (old new : Held K V) → IsAt same hash old s → RefinesWhole same name m known s
      → (map i : ℕ) (r : CallForRoom) (here : s.calls map i ≡ Some (ForRoom r)) (said : Said (Node K V)) (leads : StepLeads same hash i said s old new)
      → (terms : Terms) (moments : List (Moment K V)) → suc r.reserve.setting.mask ≡ shards_of terms → (c : CallThere K V) → call_of (name i) m ≡ Some c → c.call ≡ ToReserve r.reserve.additional
      → ReservesAt map moments r.reserve r.reserve.stands → (MakesFirst r.reserve.stands → ⊥)
      → FindAsked terms moments (name i) map (effects_of (acts.Call i map) known new.changed) m
