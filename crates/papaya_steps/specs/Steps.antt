-- Schedules as their users see them: one runs as a whole, or event by event, applied by the drivers of a crew.
pub mod Scheduled
