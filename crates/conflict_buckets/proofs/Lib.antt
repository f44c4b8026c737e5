mod PairLemmas
mod Places
mod RunLemmas
mod ShareLemmas
mod SoundLemmas
