pub mod Quietly
