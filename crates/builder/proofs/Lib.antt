pub mod Over
mod Spans
