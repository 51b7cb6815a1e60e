pub mod Given
pub mod Translating
pub mod Translated
pub mod Scripts
pub mod OneLine
pub mod LeftOut
