pub mod Combinators
