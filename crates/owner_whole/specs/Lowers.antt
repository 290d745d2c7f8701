-- Each step of a call under way, whichever it is: it lowers a number, or waits for a reason; and a lookup's steps are loads.
pub mod Numbers
pub mod Lowers
pub mod Waits
pub mod Looks
