pub mod Overwrites
pub mod PartLaws
pub mod NodeLaws
pub mod HomesLaws
pub mod SizeLaws
pub mod OnceLaws
