pub mod RolesLaws
