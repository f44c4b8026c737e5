mod LevelLemmas
mod CheckLemmas
mod FindingLemmas
mod MadeLemmas
mod StampLemmas
