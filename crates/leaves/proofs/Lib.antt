pub mod DegroupLaws
