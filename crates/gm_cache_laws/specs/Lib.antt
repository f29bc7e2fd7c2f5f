pub mod Face
pub mod Laws
