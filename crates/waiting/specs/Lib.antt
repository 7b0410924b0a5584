pub mod Links
pub mod LinksLaws
pub mod Waiting
pub mod WaitingLaws
