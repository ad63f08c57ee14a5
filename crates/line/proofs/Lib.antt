pub mod FrameOut
