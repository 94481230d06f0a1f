pub mod Frames
pub mod FrameForm
pub mod FrameCodes
pub mod Parser
pub mod Grammar
pub mod Fronts
