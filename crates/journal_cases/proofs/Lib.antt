pub mod AfterStops
