pub mod Serving
pub mod Given
pub mod Texts
pub mod Service
pub mod Answering
pub mod Driving
