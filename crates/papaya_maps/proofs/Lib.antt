mod Calls
mod Ends
mod May
mod Sets
mod Small
mod Storing
