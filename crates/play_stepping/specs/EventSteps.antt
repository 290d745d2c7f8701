-- Calls of a scheduler take steps: by one event, one or many; and walks show their pairs.
pub mod Stepping
