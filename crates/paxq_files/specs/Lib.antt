pub mod Commands
pub mod Lines
pub mod Script
pub mod ScriptCode
