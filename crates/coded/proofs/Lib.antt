pub mod CodedRows
