pub mod Numbers
pub mod Listings
pub mod Sums
pub mod Tops
