pub mod UnpackedLaws
pub mod WriteLaws
