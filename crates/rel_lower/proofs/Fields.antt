pub mod FieldByField
pub mod Linking
