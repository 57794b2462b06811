pub mod TextTable
pub mod held
