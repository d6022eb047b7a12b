pub mod Changes
pub mod Totals
pub mod Drops
pub mod QuietTick
pub mod Sheets
