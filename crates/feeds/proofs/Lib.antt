pub mod Regenerated
pub mod ItemsBack
pub mod ValuesBack
pub mod SameFrame
pub mod OwnItems
pub mod AnyOrder
