-- A call on one key goes on to make a table only for what it has to store: what it has, at each point and after each step, and what it may ask for.
pub mod On
pub mod There
pub mod Given
pub mod Asked
pub mod Steps
pub mod Between
