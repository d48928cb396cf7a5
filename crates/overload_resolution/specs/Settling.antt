pub mod Built
pub mod Inside
pub mod Same
pub mod Single
pub mod Told
pub mod Laws
