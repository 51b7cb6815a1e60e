pub mod Vectors
pub mod Sized
pub mod SpelledTypes
pub mod CodeContents
pub mod Sections
pub mod Modules
pub mod Places
pub mod Indices
