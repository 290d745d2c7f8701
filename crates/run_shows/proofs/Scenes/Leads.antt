-- What has led to a scene of one kind has led to one of another kind, where each of the first kind is of the second.
use Rattle.std.specs.Prelude.{ℕ, Bool, List}
use Rattle.seize.specs.World.{World, Event, Begin}
use Rattle.seize.specs.declared.advance.Advance.{Advance as Making}
use Rattle.seize.specs.declared.advance.Advance.TheVariants as making
use Rattle.seize.specs.declared.rows.reclaim_all.ReclaimAll.{ReclaimAll}
use Rattle.seize.specs.declared.rows.settle.Settled.{Settled}
use Rattle.seize.specs.declared.rows.settle.Settled.TheVariants as settled
use Rattle.run_effects.specs.Given.TablesDeclared.node.Node.{Node}
use Rattle.run_effects.specs.Given.TablesDeclared.setting.Setting.{Setting}
use Rattle.run_effects.specs.Given.ResizeDeclared.new_map.NewMap.{NewMap}
use Rattle.run_effects.specs.Given.RawDeclared.machines.end_map.EndMap.{EndMap}
use Rattle.run_effects.specs.Given.RawDeclared.machines.progress.Progress.{Progress}
use Rattle.many_maps.specs.Endings.{Finishing}
use Rattle.many_maps.specs.FactsEnds.{Deed}
use Rattle.many_maps.specs.Makings.{Beginning}
use Rattle.run_shows.specs.Scenes.Ending.{EndingOutcomeHolds, EndingLeadsTo}
use Rattle.run_shows.specs.Scenes.Held.{Held}
use Rattle.run_shows.specs.Scenes.Making.{MakingOutcomeHolds, MakingLeadsTo}
use Rattle.run_shows.specs.Scenes.OnSlots.{HappensTo, RowBeginsTo}
use Rattle.run_shows.specs.Scenes.Reclaiming.{ReclaimingOutcomeHolds, ReclaimingLeadsTo}
use Rattle.run_shows.specs.Scenes.Replying.{AskLeadsTo, StopLeadsTo}
use Rattle.run_shows.specs.Scenes.Rows.{request_of}
use Rattle.run_shows.specs.Scenes.Scene.{Scene, slot_of}
use Rattle.run_shows.specs.Scenes.Stepping.{StepLeadsTo}
use Rattle.run_shows.specs.declared.row.SlotCall.{SlotCall}

module _ {K V : Type 0} (same : K → K → Bool) (One Other : Scene K V → Type 0) (each : (n : Scene K V) → One n → Other n) (i : ℕ) (s : Scene K V) (old new : Held K V) where
  abbrev pub step_leads : (told : Progress (Node K V)) → StepLeadsTo same One i told s old new → StepLeadsTo same Other i told s old new
  step_leads told leads = λ m u here. (let to = leads m u here in (to.0, to.1, to.2, to.3, to.4, each _ to.5))

  abbrev pub ask_leads : (ready : Bool) → AskLeadsTo same One i ready s old new → AskLeadsTo same Other i ready s old new
  ask_leads ready leads = λ m u here. (let to = leads m u here in (to.0, to.1, to.2, to.3, each _ to.4))

  abbrev pub stop_leads : (stopped : Bool) → StopLeadsTo same One i stopped s old new → StopLeadsTo same Other i stopped s old new
  stop_leads stopped leads = λ m u here. (let to = leads m u here in (to.0, to.1, each _ to.2))

  abbrev pub making_comes : (b : Beginning K) (opening : NewMap) (w2 : World (Node K V)) (told : Making Setting)
      → MakingOutcomeHolds same One s old i b opening w2 told → MakingOutcomeHolds same Other s old i b opening w2 told
  making_comes b opening w2 making.Goes comes = each _ comes
  making_comes b opening w2 making.Waits comes = comes
  making_comes b opening w2 (making.Done setting) comes = (comes.0, comes.1, each _ comes.2)
  making_comes b opening w2 (making.Refused fault) comes = each _ comes

  abbrev pub making_leads : (told : Making Setting) → MakingLeadsTo same One i told s old new → MakingLeadsTo same Other i told s old new
  making_leads told leads = λ b here. (let to = leads b here in (to.0, to.1, to.2, making_comes b to.0 to.2.step.w2 told to.3))

  abbrev pub ending_comes : (f : Finishing K V) (ending : EndMap) (w2 : World (Node K V)) (deed : Deed) (told : Settled (Node K V))
      → EndingOutcomeHolds same One s i f ending w2 deed told → EndingOutcomeHolds same Other s i f ending w2 deed told
  ending_comes f ending w2 deed settled.Goes comes = (comes.0, each _ comes.1)
  ending_comes f ending w2 deed settled.Waits comes = comes
  ending_comes f ending w2 deed (settled.Gave value) comes = (comes.0, comes.1, comes.2, each _ comes.3)
  ending_comes f ending w2 deed settled.Done comes = (comes.0, comes.1, each _ comes.2)

  abbrev pub ending_leads : (told : Settled (Node K V)) → EndingLeadsTo same One i told s old new → EndingLeadsTo same Other i told s old new
  ending_leads told leads = λ f here. (let to = leads f here in (to.0, to.1, to.2, ending_comes f to.0 to.2.w2 to.2.deed told to.3))

  abbrev pub happens : (event : Event (Node K V)) → HappensTo One event s old → HappensTo Other event s old
  happens event to = (to.0, to.1, to.2, to.3, each _ to.4)

  abbrev pub row_begins : (called : SlotCall) → RowBeginsTo One called i s old new → RowBeginsTo Other called i s old new
  row_begins called to = (to.0, to.1, happens (Begin i (request_of (slot_of i) called)) to.2)

module _ {K V : Type 0} (same : K → K → Bool) (s : Scene K V) (i : ℕ) (lists : ℕ → List ℕ) (One Other : Scene K V → Type 0) (each : (n : Scene K V) → One n → Other n)
    (Goes Goes2 : Scene K V → (ℕ → List ℕ) → ReclaimAll → Type 0) (goes_too : (n : Scene K V) (lists2 : ℕ → List ℕ) (all : ReclaimAll) → Goes n lists2 all → Goes2 n lists2 all) (old new : Held K V) where
  abbrev pub reclaiming_comes : (s2 : Scene K V) (lists2 : ℕ → List ℕ) (all : ReclaimAll) (told : Settled (Node K V))
      → ReclaimingOutcomeHolds same s i lists Goes One old new s2 lists2 all told → ReclaimingOutcomeHolds same s i lists Goes2 Other old new s2 lists2 all told
  reclaiming_comes s2 lists2 all settled.Goes comes = goes_too s2 lists2 all comes
  reclaiming_comes s2 lists2 all settled.Waits comes = goes_too s2 lists2 all comes
  reclaiming_comes s2 lists2 all (settled.Gave value) comes = goes_too s2 lists2 all comes
  reclaiming_comes s2 lists2 all settled.Done comes = (comes.0, each s2 comes.1)

  abbrev pub reclaiming_leads : (before after : ReclaimAll) (told : Settled (Node K V))
      → ReclaimingLeadsTo same s i lists Goes One old new before after told → ReclaimingLeadsTo same s i lists Goes2 Other old new before after told
  reclaiming_leads before after told leads = (leads.0, leads.1, reclaiming_comes (record s { world = leads.1.w2; maps = leads.1.maps2 }) leads.1.lists2 after told leads.2)
