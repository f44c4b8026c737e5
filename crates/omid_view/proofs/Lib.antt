mod ViewLemmas
mod WordLemmas
