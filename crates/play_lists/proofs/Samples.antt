-- Samples: cases worked by hand, and what the definitions and laws refuse.
mod Agrees
pub mod Played
mod Grouped
