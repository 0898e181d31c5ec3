pub mod Counted
pub mod SamplesWritten
