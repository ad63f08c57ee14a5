pub mod LinesBoundary
