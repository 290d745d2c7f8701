-- Samples of KindsKept.
mod Calls
