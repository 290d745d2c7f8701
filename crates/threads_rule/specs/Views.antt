-- The rule of maps for a memory that threads share: what each seat knows of its slot, of a map, of the call that it has under way there and of the blocks that its
-- last step looks at; and what is promised of it.
pub mod Looks
pub mod Reclaims
pub mod Listed
pub mod Rule
pub mod Told
pub mod Begun
pub mod Notes
pub mod Resting
pub mod Promises
