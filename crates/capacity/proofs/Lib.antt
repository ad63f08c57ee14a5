pub mod SizeExamples
pub mod SizeLaws
