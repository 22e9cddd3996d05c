mod Tabled
pub mod Numbered
