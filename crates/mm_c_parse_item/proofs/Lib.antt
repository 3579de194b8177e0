mod Commas
mod Items
mod Programs
