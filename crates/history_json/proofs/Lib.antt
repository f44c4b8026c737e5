mod EscapeLemmas
mod FillLemmas
mod MemberLemmas
mod OneObject
mod PlainLemmas
mod SoundLemmas
mod TemplateLemmas
mod WordsLemmas
mod LineLemmas
mod ObjectLemmas
pub mod OneHistory
mod PrintedLemmas
