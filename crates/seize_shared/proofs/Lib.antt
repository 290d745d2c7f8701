pub mod OnThreads
