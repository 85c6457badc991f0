pub mod Between
