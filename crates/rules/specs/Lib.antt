pub mod Trap
pub mod Verdict
pub mod RuleSet
