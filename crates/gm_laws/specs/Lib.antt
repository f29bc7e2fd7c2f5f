pub mod Words
pub mod Face
pub mod Program
pub mod Fuel
pub mod Faces
pub mod Laws
pub mod Bounds
pub mod Commands
