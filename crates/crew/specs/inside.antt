pub mod News
pub mod Meeting
