-- Samples: cases worked by hand, and what the definitions and laws refuse.
mod Asked
mod Since
mod Claims
mod Sights
mod Together
