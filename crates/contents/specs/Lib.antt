pub mod Frames
pub mod Contents
