pub mod OneId
