-- What a request leads two journals to, of which the second stands in for the first.
pub mod Standing
pub mod Asked
pub mod Growing
pub mod Leading
