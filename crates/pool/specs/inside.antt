pub mod Speaking
pub mod Team
