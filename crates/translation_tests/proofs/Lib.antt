pub mod FixedTables
