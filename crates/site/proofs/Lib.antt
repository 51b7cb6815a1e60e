pub mod Agreeing
pub mod Decisions
pub mod Ends
pub mod Quiet
pub mod SameSite
pub mod SiteOutput
