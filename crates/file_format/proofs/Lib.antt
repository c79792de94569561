pub mod Spelled
pub mod Entry
pub mod EntryKinds
pub mod RoundTrip
