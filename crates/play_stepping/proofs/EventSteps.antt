-- Calls of a scheduler take steps: by one event, one or many; and walks show their pairs.
pub mod Again
mod AnySays
mod AnyWaits
mod BeingCopied
pub mod ByName
pub mod ComesOn
mod CopiesWait
mod KeySays
mod NextBegins
pub mod NextEnds
pub mod NextOn
pub mod NextTook
pub mod OneStep
pub mod PlaysAgain
mod PlaysSteps
pub mod PlaysWhole
pub mod RightSteps
mod RoomsWait
pub mod StepSays
mod SteppedTo
pub mod StepsOn
pub mod SweepSteps
pub mod TakenBy
mod Waiting
mod WaitsFor
pub mod AfterEffects
