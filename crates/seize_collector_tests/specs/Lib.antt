pub mod EmptiesTests
