-- For what a copier makes a further table: the map has a second one then, into which the root's is copied; or, in blocking mode, the root has left a table at the moment of
-- the map at which the call began, or since. So a call that copies may ask for each block that it makes, if its map had a second table then, or before.
use Rattle.std.specs.Prelude.{◌≡◌, ℕ, Bool, List, ◌∷◌, Option, Some, None}
use Rattle.papaya_raw.specs.Given.TablesDeclared.node.Node.{Node}
use Rattle.run_finds.specs.Given.ResizeDeclared.new_table.NewTable.{NewTable}
use Rattle.papaya_raw.specs.Given.ReservesDeclared.reserve.Reserving.{Reserving}
use Rattle.papaya_raw.specs.Given.ReservesDeclared.reserve.Reserving.TheVariants as reserving
use Rattle.papaya_raw.specs.declared.machines.call.Calling.{Calling}
use Rattle.papaya_raw.specs.declared.machines.call.Calling.TheVariants as calling
use Rattle.papaya_raw.specs.declared.machines.machine.Machine.{Machine}
use Rattle.papaya_raw.specs.declared.machines.machine.Machine.TheVariants as kinds
use Rattle.papaya_raw.specs.declared.machines.progress.Progress.{Progress}
use Rattle.run_schedules.specs.Schedules.Growing.{HasNext}
use Rattle.run_schedules.specs.Schedules.Lists.{OneOf}
use Rattle.run_schedules.specs.Schedules.Moment.{Moment}
use Rattle.run_schedules.specs.Schedules.Terms.{Terms}
use Rattle.run_finds.specs.Given.PointsFactsCalls.{IsCopying}
use Rattle.run_finds.specs.Given.CallersTogether.{UnderWay, OnKey, OverAll}
use Rattle.run_finds.specs.Given.EffectsEffects.{effects_of}
use Rattle.run_finds.specs.Given.EffectsKnown.{Known}
use Rattle.run_finds.specs.Given.EffectsDeclared.acting.Acting.TheVariants as acts
use Rattle.run_finds.specs.Given.FinishesMachines.{machine_of}
use Rattle.run_finds.specs.Given.MomentsWhole.{RefinesWhole}
use Rattle.run_kept.specs.Given.OwesMaking.{making_in_copying, making_in_sweeping}
use Rattle.run_finds.specs.Growing.{FindAsked}
use Rattle.run_finds.specs.Given.ScenesHeld.{Held, IsAt}
use Rattle.run_finds.specs.Given.ScenesScene.{Scene}
use Rattle.run_finds.specs.Given.ScenesStepping.{StepLeads}

-- The making of a table that is under way within a copier, if one is: that of a call on one key,
abbrev pub copier_in_calling : Calling → Option NewTable
copier_in_calling (calling.Helps copier goal) = making_in_copying copier.stands
copier_in_calling (calling.Copies copier) = making_in_copying copier.stands
copier_in_calling _ = None

-- of a reservation,
abbrev pub copier_in_reserving : Reserving → Option NewTable
copier_in_reserving (reserving.Copies copier) = making_in_copying copier.stands
copier_in_reserving _ = None

-- and of a sweep, which makes no other one
abbrev pub making_of_copier : {K V Q : Type 0} → Machine K V Q → Option NewTable
making_of_copier (kinds.Key p) = copier_in_calling p.stands
making_of_copier (kinds.Reserve r) = copier_in_reserving r.stands
making_of_copier (kinds.Sweep c) = making_in_sweeping c.stands
making_of_copier (kinds.Count sum) = None

-- what a call makes its copier makes: a call on one key that copies, or a sweep
abbrev pub MakesByCopier : {K V : Type 0} → UnderWay K V K → Type 0
MakesByCopier (OnKey u) = IsCopying u.call.stands
MakesByCopier (OverAll o) = Unit {0}
MakesByCopier _ = ⊥

module _ (K V : Type 0) (same : K → K → Bool) (hash : ℕ → K → ℕ) where
  -- The promise: each block for which such a call asks in a step it may ask for, if its map has a second table then, or had one at one of the moments before.
  abbrev pub CopiersMayAsk : Type 0
  CopiersMayAsk =
      (name : ℕ → List ℕ) (m : Moment K V) (known : Known) (s : Scene K V) (old new : Held K V) → IsAt same hash old s → RefinesWhole same name m known s
      → (map i : ℕ) (u : UnderWay K V K) (here : s.calls map i ≡ Some u) (said : Progress (Node K V)) → StepLeads same hash i said s old new
      → MakesByCopier u → (terms : Terms) (moments : List (Moment K V)) → ((n : NewTable) → making_of_copier (machine_of u) ≡ Some n → OneOf (HasNext map) (m ∷ moments))
      → FindAsked terms moments (name i) map (effects_of (acts.Call i map) known new.changed) m
