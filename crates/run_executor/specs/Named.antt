-- Callers and maps by name: what a call is by its kind, the machine with which it begins, what it is told, and with how many places a map begins.
pub mod Roll
pub mod Seen
pub mod Machines
pub mod Telling
pub mod Places
