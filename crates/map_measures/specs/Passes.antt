-- The numbers that each step of a walk, a clearing or a retaining lowers that goes on, whatever other callers have under way.
pub mod Sweeps
pub mod FallsSweeps
