pub mod FirstLaws
pub mod Level
pub mod LevelLaws
pub mod Queue
pub mod QueueLaws
