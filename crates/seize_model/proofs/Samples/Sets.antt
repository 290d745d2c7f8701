-- The waiting-set model on changes worked by hand.
mod WaitingSets
