-- what unpacking answers, and the same by the tables that the code holds
pub mod Answer
pub mod Settled
pub mod Writable
