-- Tests of the collector: of its words and slots, of registrations that are refused memory, and of its whole calls.
pub mod Slots
