pub mod OnceMet
pub mod ValueTaken
