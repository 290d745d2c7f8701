-- What a run of a schedule is, where calls stay under way between events: its events, what each comes to and does, and what is promised.
pub mod Rows
