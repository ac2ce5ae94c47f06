pub mod ItemTexts
pub mod Holding
pub mod Hyphens
pub mod Pieces
