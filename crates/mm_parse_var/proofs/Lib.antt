mod Exits
mod Choice
