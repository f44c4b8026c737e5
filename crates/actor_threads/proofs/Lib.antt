mod CrewLemmas
mod LineLemmas
