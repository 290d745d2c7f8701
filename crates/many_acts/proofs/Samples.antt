-- Samples: cases worked by hand, and what the definitions and laws refuse.
mod Acts
mod Links
mod Looks
mod Carries
