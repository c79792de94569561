pub mod Turns
pub mod Fronts
pub mod Allowed
pub mod Units
pub mod Schedules
pub mod Agrees
pub mod Counts
pub mod Conforms
