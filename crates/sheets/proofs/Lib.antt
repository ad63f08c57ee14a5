pub mod CSheets
pub mod SheetStored
