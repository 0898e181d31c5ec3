pub mod AllocationsBy
