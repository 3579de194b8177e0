pub mod Callee
pub mod Demands
