pub mod ByNumber
pub mod Named
pub mod FirstFound
