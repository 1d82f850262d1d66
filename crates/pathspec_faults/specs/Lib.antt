pub mod Places
pub mod WantedViews
pub mod PlaceLaws
