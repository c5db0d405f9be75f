pub mod TextLines
pub mod NamedTexts
pub mod Laws
pub mod Cutting
