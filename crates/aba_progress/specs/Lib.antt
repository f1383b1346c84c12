pub mod RoundsEnd
