-- The rule of maps for a memory that threads share: what each seat knows of its slot, of a map, of the call that it has under way there and of the blocks that its
-- last step looks at; and what is promised of it.
pub mod Numbers
mod Quiet
mod Ran
mod Made
mod Within
mod Knows
mod Whose
mod Alone
mod Writers
mod Sections
mod Looked
mod Naming
mod Shown
mod Answered
pub mod Pairs
mod Settled
mod RowLooks
pub mod Starts
pub mod Leaves
mod Tables
mod Lasts
pub mod Listed
mod Moved
mod Next
mod UnderWay
pub mod Calls
pub mod Held
pub mod Begins
pub mod Handing
pub mod Leanings
pub mod Loans
pub mod Keeping
pub mod Makings
mod Taking
pub mod EndBegins
pub mod Endings
pub mod RowFits
pub mod RowSteps
pub mod RowBegins
mod Views
pub mod Rows
pub mod Contents
pub mod Exact
pub mod Laws
