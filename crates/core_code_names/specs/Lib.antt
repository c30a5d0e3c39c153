pub mod Named
pub mod SettingOf
pub mod Slots
pub mod TextsAfter
