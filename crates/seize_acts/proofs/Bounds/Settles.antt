-- A row that settles has done so within a number of steps, whatever lists values keep and whatever the others do meanwhile, as long as nobody else settles on the
-- slot.
pub mod Carried
pub mod Measure
pub mod Step
pub mod Points
pub mod Reclaims
pub mod Each
pub mod Others
pub mod Within
