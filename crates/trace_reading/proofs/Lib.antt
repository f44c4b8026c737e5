mod NameLemmas
mod JsonLemmas
mod EachLemmas
