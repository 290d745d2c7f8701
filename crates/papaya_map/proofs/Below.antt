-- The lemmas of the crates below, given on to the crates above: these list this crate in place of those.
pub use Rattle.papaya_sessions.proofs.Extended as SessionsExtended
