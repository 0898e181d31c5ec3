pub mod AllocationsLaws
