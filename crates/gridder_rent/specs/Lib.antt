pub mod Rent
pub mod RentLaws
