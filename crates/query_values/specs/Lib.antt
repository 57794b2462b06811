pub mod Iris
pub mod Literals
pub mod Variables
pub mod reading
