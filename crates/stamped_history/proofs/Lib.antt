mod OrderLemmas
mod ToldLemmas
mod GroupLemmas
