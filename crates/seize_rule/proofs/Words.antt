-- What the words of a memory show: links, lists through words, and the state with its lists.
pub mod Kept
