-- The words of the crates below, given on to the crates above: these list this crate in place of those.
pub use Rattle.papaya_raw.specs.Answers as RawAnswers
pub use Rattle.papaya_raw.specs.Call as RawCall
pub use Rattle.papaya_raw.specs.CallAsks as RawCallAsks
pub use Rattle.papaya_raw.specs.CallFills as RawCallFills
pub use Rattle.papaya_raw.specs.CallPoints as RawCallPoints
pub use Rattle.papaya_raw.specs.Given.ReservesDeclared
pub use Rattle.papaya_raw.specs.Given.ReservesReserve
pub use Rattle.papaya_raw.specs.Given.ResizeCopier
pub use Rattle.papaya_raw.specs.Given.ResizeCopierStates
pub use Rattle.papaya_raw.specs.Given.ResizeDispose
pub use Rattle.papaya_raw.specs.Given.ResizeLookup
pub use Rattle.papaya_raw.specs.Given.SweepsSweep
pub use Rattle.papaya_raw.specs.Given.SweepsSweepPoints
pub use Rattle.papaya_raw.specs.Machine as RawMachine
pub use Rattle.papaya_raw.specs.Progress as RawProgress
pub use Rattle.papaya_raw.specs.Replies as RawReplies
pub use Rattle.papaya_raw.specs.declared as RawDeclared
pub use Rattle.run_effects.specs.Effects.Effects as EffectsEffects
pub use Rattle.run_effects.specs.Effects.Known as EffectsKnown
pub use Rattle.run_effects.specs.Given.ResizeDeclared
pub use Rattle.run_effects.specs.Given.ResizeNewMap
pub use Rattle.run_effects.specs.Given.ResizeNewTable
pub use Rattle.run_effects.specs.Given.ResizeSum
pub use Rattle.run_effects.specs.ReportingMemory.Tells as TellerTells
pub use Rattle.run_effects.specs.Tells.Seen as TellsSeen
pub use Rattle.run_effects.specs.declared as EffectsDeclared
pub use Rattle.run_executor.specs.Given.CallersAsked
pub use Rattle.run_executor.specs.Given.CallersOverAll
pub use Rattle.run_executor.specs.Given.CallersPairs
pub use Rattle.run_executor.specs.Given.CallersRooms
pub use Rattle.run_executor.specs.Given.CallersSights
pub use Rattle.run_executor.specs.Given.CallersTogether
pub use Rattle.run_executor.specs.Given.ChangesChanges
pub use Rattle.run_executor.specs.Given.ChangesHistories
pub use Rattle.run_executor.specs.Given.HandsAsked
pub use Rattle.run_executor.specs.Given.HandsCalling
pub use Rattle.run_executor.specs.Given.LateToldSweeps
pub use Rattle.run_executor.specs.Given.MomentsEndings
pub use Rattle.run_executor.specs.Given.MomentsNumbers
pub use Rattle.run_executor.specs.Given.MomentsWhole
pub use Rattle.run_executor.specs.Given.PointsFactsCalls
pub use Rattle.run_executor.specs.Given.PointsTold
pub use Rattle.run_executor.specs.Given.SpotsUnreclaimed
pub use Rattle.run_executor.specs.Named.Machines as NamedMachines
pub use Rattle.run_executor.specs.Named.Seen as NamedSeen
pub use Rattle.run_executor.specs.Named.Telling as NamedTelling
pub use Rattle.run_executor.specs.declared as ExecutorDeclared
pub use Rattle.run_kept.specs.Given.HistoriesAsking
pub use Rattle.run_kept.specs.Given.OwesLooking
pub use Rattle.run_kept.specs.Given.RemainsNumbered
pub use Rattle.run_kept.specs.Given.RemainsRemains
pub use Rattle.run_kept.specs.Given.RemainsSlots
pub use Rattle.run_kept.specs.Given.SettlesHand
pub use Rattle.run_kept.specs.Kept.Ends as KeptEnds
pub use Rattle.run_kept.specs.Sheds.Ended as ShedsEnded
pub use Rattle.run_kept.specs.Sheds.Waits as ShedsWaits
pub use Rattle.seize.specs.Law as SeizeLaw
pub use Rattle.seize.specs.Sequence as SeizeSequence
