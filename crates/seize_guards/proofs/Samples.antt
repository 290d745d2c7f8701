-- Samples: chains worked by hand, and what the definition refuses.
mod Chains
