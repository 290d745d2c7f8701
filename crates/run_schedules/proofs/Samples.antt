-- Samples: cases worked by hand, and what the definitions and laws refuse.
pub mod Deeds
pub mod Schedules
