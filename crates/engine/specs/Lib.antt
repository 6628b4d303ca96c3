pub mod Proper
pub mod Frames
pub mod Working
pub mod Levels
pub mod Beginning
pub mod Running
