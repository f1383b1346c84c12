pub mod Delivery
pub mod Scenario
pub mod Sound
