pub mod Playing
pub mod FirstScripts
pub mod AnyNodes
pub mod PlayErrors
pub mod inside
