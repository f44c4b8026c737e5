mod ReadingLemmas
mod TemplateTexts
mod TemplateKinds
mod NumberLemmas
mod WordTexts
mod NodeTexts
mod RequestTexts
mod SessionTexts
mod StepTexts
mod CauseTexts
mod ActorTexts
pub mod RoundTrip
pub mod LineLemmas
