pub mod Place
pub mod PlaceLaws
