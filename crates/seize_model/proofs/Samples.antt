-- Samples: cases worked by hand, and what the definitions and laws refuse.
mod Sets
