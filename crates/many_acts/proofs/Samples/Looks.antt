-- Samples: what the definitions and laws let pass, and plans that they refuse.
mod Plans
