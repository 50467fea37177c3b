pub mod FrameLemmas
pub mod AdvanceLemmas
pub mod RestoreLemmas
pub mod SystemLemmas
pub mod CoverLemmas
pub mod SilentLemmas
