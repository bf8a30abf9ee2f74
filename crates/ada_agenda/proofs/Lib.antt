pub mod RowsHeld
pub mod ThreeLevels
pub mod Words
pub mod Noting
