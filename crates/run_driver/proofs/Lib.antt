mod StillLemmas
