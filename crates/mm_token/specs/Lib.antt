unfoldable pub use Rattle.unicode_ident.specs.Ident.{is_xid_start, is_xid_continue}
pub mod Characters
pub mod Pieces
pub mod Cut
pub mod Causes
pub mod Tokens
pub mod Forms
pub mod OneReading
pub mod Clauses
pub mod Runs
pub mod Unit
pub mod Words
