-- Countings, makings and ends of maps come to their ends, whatever others do.
pub mod Numbers
pub mod Falls
pub mod ComeToAnEnd
pub mod Owned
