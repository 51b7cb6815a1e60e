pub mod Answer
pub mod Live
pub mod Laws
pub mod inside
