-- By the histories of lists of acts calls on whole maps do what they are for.
pub mod Kept
pub mod Rooting
pub mod KeptByCalls
pub mod KeptByMaps
pub mod KeptByAll
pub mod Tabled
pub mod SweptBy
pub mod Calls
pub mod Others
pub mod Instance
pub mod Swept
