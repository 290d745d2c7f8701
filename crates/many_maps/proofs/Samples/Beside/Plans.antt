-- Wrong plans, tried on a map among others.
mod Aborts
mod OnePair
mod Untold
