pub mod Lines
mod Whites
pub mod Cuts
mod Terminators
mod LineLaws
mod BlockLaws
mod RunLaws
mod PieceLaws
pub mod Measures
mod GapLaws
mod Newlines
