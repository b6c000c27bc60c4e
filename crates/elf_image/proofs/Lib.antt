mod FirstFault
pub mod SizeLemmas
