pub mod BlocksTests
pub mod Tests
