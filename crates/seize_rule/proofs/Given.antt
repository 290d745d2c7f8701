-- What is so by the crates below, given on to the crates above: these list this crate in place of those.
pub use Rattle.seize_moves.proofs.Memory.Words as SeizeMemoryWords
pub use Rattle.seize_moves.proofs.Memory.Written as SeizeMemoryWritten
pub use Rattle.seize_moves.proofs.Moves.Moves as SeizeMovesMoves
pub use Rattle.seize_moves.proofs.Moves.Sets as SeizeMovesSets
pub use Rattle.seize_moves.proofs.Moves.State as SeizeMovesState
pub use Rattle.seize_moves.proofs.Waiting.Behind as SeizeWaitingBehind
pub use Rattle.seize_moves.proofs.Waiting.Bound as SeizeWaitingBound
pub use Rattle.seize_moves.proofs.Waiting.Counts as SeizeWaitingCounts
pub use Rattle.seize_moves.proofs.Waiting.Flushes as SeizeWaitingFlushes
pub use Rattle.seize_moves.proofs.Waiting.Laws as SeizeWaitingLaws
pub use Rattle.seize_moves.proofs.Waiting.Retired as SeizeWaitingRetired
pub use Rattle.seize_moves.proofs.Waiting.Tidy as SeizeWaitingTidy
pub use Rattle.seize_moves.proofs.Waiting.Work as SeizeWaitingWork
