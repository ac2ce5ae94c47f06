pub mod ItemTexts
pub mod Tests
pub mod Texts
