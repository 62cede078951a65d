-- What the tests let a call know, the stand-in by its tests, and that each promise determines its call.
pub mod Order
pub mod StandIn
pub mod Unique
