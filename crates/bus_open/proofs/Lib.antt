pub mod Cuts
pub mod Following
pub mod OverScene
pub mod OverReal
pub mod Forms
pub mod OfItsOwn
