pub mod NetworkOut
