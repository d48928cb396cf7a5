pub mod ModelText
