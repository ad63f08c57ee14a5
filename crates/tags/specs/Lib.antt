pub mod TagValues
