pub mod Digits
pub mod Sizes
pub mod Exprs
pub mod Stmts
