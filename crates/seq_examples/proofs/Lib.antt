-- Lemmas on a memo of the Fibonacci sequence, and on sessions that are removed or kept.
mod Kept
mod Memos
