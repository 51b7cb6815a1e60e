pub mod Table
pub mod Words
pub mod Unique
pub mod Items
pub mod Bodies
pub mod Shorter
pub mod Lists
pub mod Readers
pub mod BlockLists
pub mod BodyRead
pub mod Longer
pub mod Passing
pub mod KnownWords
mod SeveralBytes
pub mod ShortWords
