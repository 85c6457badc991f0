pub mod Ledger
pub mod Rows
pub mod Demand
pub mod Holdings
pub mod Ceilings
