pub mod Down
pub mod Lowering
