pub mod Noted
pub mod Tracked
pub mod Inside
