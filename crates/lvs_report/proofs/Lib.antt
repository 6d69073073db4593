pub mod Digits
pub mod Reading
pub mod Numerals
pub mod Avoids
pub mod ErrorNames
pub mod PrintedLines
pub mod ReadAgain
