-- Runs worked by hand.
mod Ended
mod Law
mod Logs
mod World
