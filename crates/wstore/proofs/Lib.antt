pub mod Numbers
pub mod Found
pub mod Overwriting
pub mod Globals
pub mod Sizes
pub mod Changes
