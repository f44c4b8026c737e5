mod TurnLemmas
mod RunLemmas
