-- Lists of alike flows, their MAPs.
pub mod Lists
pub mod Shown
pub mod Choice
pub mod Plan
pub mod Maps
