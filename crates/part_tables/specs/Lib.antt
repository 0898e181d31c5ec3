-- What the exported functions of parts leave and answer.
pub mod Parts
pub mod Payload
pub mod PayloadCode
