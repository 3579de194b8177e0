pub mod Gathers
mod Locals
mod Firsts
mod Returns
mod Stmts
mod Blocks
