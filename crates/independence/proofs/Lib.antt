pub mod Deeds
pub mod Hearing
pub mod Local
pub mod Easy
pub mod Commutes
pub mod Independence
pub mod Leaning
