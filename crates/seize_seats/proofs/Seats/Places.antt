-- Words and places of blocks: which lies where, and one of them opened at a time.
pub mod Beside
pub mod Cells
pub mod Columns
pub mod Grounds
pub mod Holes
pub mod Numbers
pub mod Pieces
pub mod Plain
pub mod Plots
pub mod Plotted
pub mod Rows
pub mod Slotted
pub mod Strips
pub mod Values
