pub mod Items
pub mod Rising
pub mod Noted
pub mod Looking
pub mod Ending
