pub mod Lists
pub mod Faults
pub mod Tests
pub mod Results
