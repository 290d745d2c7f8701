-- What a memory of one owner answers and becomes, operation by operation.
pub mod AfterWrites
pub mod Operations
