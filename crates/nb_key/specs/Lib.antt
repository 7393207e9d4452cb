pub mod Morton
pub mod Spread
