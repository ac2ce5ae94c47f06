pub mod Taking
pub mod TextPairs
