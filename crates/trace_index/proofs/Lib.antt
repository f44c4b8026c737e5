mod FlagLemmas
mod KeptLemmas
mod ChoiceLemmas
mod LeftLemmas
mod RoundLemmas
