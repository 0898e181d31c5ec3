-- places, payload, record, and what unpacking answers
pub mod Places
pub mod Payload
pub mod Record
pub mod Unpack
-- unique reading and cuts, the longest payload and the number of excesses
pub mod Demand3
pub mod Excess
pub mod Longest
