-- Drivers apply events to one run, under a lock; whatever runs them.
pub mod Events
pub mod Lists
