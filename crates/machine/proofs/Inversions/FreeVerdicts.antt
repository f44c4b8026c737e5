-- For grant_laws too.
-- A verdict on what a request writes and its client has read is free only where both are.
use Rattle.machine.proofs.Names.{◌≡◌, ℕ, List, refl, sym, ◌∙◌, ap, Verdict, Free, Conflict, Hidden, Request, Begin}
use Rattle.machine.proofs.Names.{Commit, Bucket, first_refusal, verdict, request_verdict, both_verdict}

both_free : (first later : Verdict) → first_refusal first later ≡ Free → (first ≡ Free) × (later ≡ Free)
both_free Free later free = (refl, free)
both_free (Conflict key by) later free = absurd (cc)
both_free (Hidden key water) later free = absurd (cc)

pub writes_free : (buckets : List Bucket) (reads : List ℕ) (request : Request) → both_verdict buckets reads request ≡ Free → request_verdict buckets request ≡ Free
writes_free buckets reads (Begin session) free = refl
writes_free buckets reads (Commit session start keys) free = (both_free (verdict buckets start keys) (verdict buckets start reads) free).0

pub reads_free : (buckets : List Bucket) (reads : List ℕ) (request : Request) → both_verdict buckets reads request ≡ Free → (asker start : ℕ) (keys : List ℕ) → request ≡ Commit asker start keys → verdict buckets start reads ≡ Free
reads_free buckets reads request free asker start keys is =
    (both_free (verdict buckets start keys) (verdict buckets start reads) (ap (both_verdict buckets reads) (sym is) ∙ free)).1
