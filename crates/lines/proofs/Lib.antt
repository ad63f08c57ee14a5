pub mod LinesTold
