pub mod Tests
pub mod Laws
pub mod Filled
pub mod Changing
pub mod Decides
pub mod Distinct
pub mod Place
pub mod Firsts
