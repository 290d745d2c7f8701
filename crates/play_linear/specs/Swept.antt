-- By the histories of lists of acts calls on whole maps do what they are for.
pub mod Shown
pub mod Swept
