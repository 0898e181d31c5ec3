pub mod Base
