mod ArgumentLemmas
mod WordLemmas
mod LineLemmas
mod NameLemmas
mod SettingLemmas
mod SoundLemmas
