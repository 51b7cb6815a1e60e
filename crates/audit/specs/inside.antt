pub mod Audit
