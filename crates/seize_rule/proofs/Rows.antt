-- The steps of rows in the world: what each row knows, and that the world stays good.
mod Defer
pub mod Deferring
pub mod Effects
pub mod Known
pub mod KnownLasts
pub mod Leave
pub mod LeavesTold
pub mod Leaving
pub mod Onto
pub mod Others
pub mod Register
mod SectionEnds
mod Sections
pub mod Settled
pub mod Short
pub mod Sizes
pub mod SizesKept
pub mod Slots
pub mod Taken
pub mod Teams
pub mod Told
