mod ByHandLemmas
