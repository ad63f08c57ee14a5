pub mod TagItems
pub mod PassNotes
