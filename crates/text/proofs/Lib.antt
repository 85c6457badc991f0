pub mod Decimal
pub mod Left
pub mod Lines
pub mod Scan
pub mod Numbers
pub mod Examples
