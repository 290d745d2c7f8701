pub mod Seats
pub mod Plots
