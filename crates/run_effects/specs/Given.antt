-- The words of the crates below, given on to the crates above: these list this crate in place of those.
pub use Rattle.map_rule.specs.Chart as RuleChart
pub use Rattle.map_rule.specs.Given.ResizeCopier
pub use Rattle.map_rule.specs.Given.ResizeCopierClaims
pub use Rattle.map_rule.specs.Given.ResizeCopierCounts
pub use Rattle.map_rule.specs.Given.ResizeCopierFurther
pub use Rattle.map_rule.specs.Given.ResizeCopierMarks
pub use Rattle.map_rule.specs.Given.ResizeCopierPlaces
pub use Rattle.map_rule.specs.Given.ResizeCopierPromotes
pub use Rattle.map_rule.specs.Given.ResizeCopierStates
pub use Rattle.map_rule.specs.Given.ResizeDeclared
pub use Rattle.map_rule.specs.Given.ResizeDispose
pub use Rattle.map_rule.specs.Given.ResizeLookup
pub use Rattle.map_rule.specs.Given.ResizeNewMap
pub use Rattle.map_rule.specs.Given.ResizeNewTable
pub use Rattle.map_rule.specs.Given.ResizeSum
pub use Rattle.map_rule.specs.Given.SeizeWaitingChanges
pub use Rattle.map_rule.specs.Given.SeizeWaitingHanded
pub use Rattle.map_rule.specs.Given.SeizeWaitingHeld
pub use Rattle.map_rule.specs.InWorld as RuleInWorld
pub use Rattle.map_rule.specs.Links as RuleLinks
pub use Rattle.map_rule.specs.Maps as RuleMaps
pub use Rattle.map_rule.specs.Moments as RuleMoments
pub use Rattle.map_rule.specs.Rule as RuleRule
pub use Rattle.map_rule.specs.Words as RuleWords
pub use Rattle.run_schedules.specs.Given.RawCall
pub use Rattle.run_schedules.specs.Given.RawCallAsks
pub use Rattle.run_schedules.specs.Given.RawCallFills
pub use Rattle.run_schedules.specs.Given.RawCallPoints
pub use Rattle.run_schedules.specs.Given.RawDeclared
pub use Rattle.run_schedules.specs.Given.RawEndMap
pub use Rattle.run_schedules.specs.Given.RawMachine
pub use Rattle.run_schedules.specs.Given.RawProgress
pub use Rattle.run_schedules.specs.Given.RawReplies
pub use Rattle.run_schedules.specs.Given.ReservesDeclared
pub use Rattle.run_schedules.specs.Given.ReservesReserve
pub use Rattle.run_schedules.specs.Given.SweepsSweep
pub use Rattle.run_schedules.specs.Given.SweepsSweepPoints
pub use Rattle.run_schedules.specs.Given.TablesChunks
pub use Rattle.run_schedules.specs.Given.TablesDeclared
pub use Rattle.run_schedules.specs.Given.TablesFinding
pub use Rattle.run_schedules.specs.Given.TablesNodes
pub use Rattle.run_schedules.specs.Given.TablesPowers
pub use Rattle.run_schedules.specs.Given.TablesTablePlaces
pub use Rattle.run_schedules.specs.Given.TablesTrials
pub use Rattle.run_schedules.specs.Runs.LifeCycle as RunsLifeCycle
pub use Rattle.run_schedules.specs.Runs.Log as RunsLog
pub use Rattle.run_schedules.specs.Runs.Present as RunsPresent
pub use Rattle.run_schedules.specs.Runs.Same as RunsSame
pub use Rattle.run_schedules.specs.Schedules.After as SchedulesAfter
pub use Rattle.run_schedules.specs.Schedules.Beginning as SchedulesBeginning
pub use Rattle.run_schedules.specs.Schedules.Coming as SchedulesComing
pub use Rattle.run_schedules.specs.Schedules.Effects as SchedulesEffects
pub use Rattle.run_schedules.specs.Schedules.Entry as SchedulesEntry
pub use Rattle.run_schedules.specs.Schedules.Growing as SchedulesGrowing
pub use Rattle.run_schedules.specs.Schedules.Handing as SchedulesHanding
pub use Rattle.run_schedules.specs.Schedules.InUse as SchedulesInUse
pub use Rattle.run_schedules.specs.Schedules.Linearizable as SchedulesLinearizable
pub use Rattle.run_schedules.specs.Schedules.Lists as SchedulesLists
pub use Rattle.run_schedules.specs.Schedules.Lives as SchedulesLives
pub use Rattle.run_schedules.specs.Schedules.Model as SchedulesModel
pub use Rattle.run_schedules.specs.Schedules.Moment as SchedulesMoment
pub use Rattle.run_schedules.specs.Schedules.Reclaims as SchedulesReclaims
pub use Rattle.run_schedules.specs.Schedules.Sequential as SchedulesSequential
pub use Rattle.run_schedules.specs.Schedules.Steps as SchedulesSteps
pub use Rattle.run_schedules.specs.Schedules.Terms as SchedulesTerms
pub use Rattle.run_schedules.specs.Schedules.Things as SchedulesThings
pub use Rattle.run_schedules.specs.Schedules.Transition as SchedulesTransition
pub use Rattle.run_schedules.specs.Schedules.Tries as SchedulesTries
pub use Rattle.run_schedules.specs.Schedules.Views as SchedulesViews
pub use Rattle.run_schedules.specs.declared as RunsDeclared
