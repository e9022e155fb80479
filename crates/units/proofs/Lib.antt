pub mod UnitAt
