pub mod Field
pub mod Layout
