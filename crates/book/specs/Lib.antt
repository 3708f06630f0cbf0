pub mod Plain
pub mod Book
pub mod Edits
pub mod History
