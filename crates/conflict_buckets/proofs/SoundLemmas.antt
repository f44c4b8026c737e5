-- What keeps the memory of all buckets sound.
use Rattle.std.proofs.Common.{◌≡◌, ℕ, ◌+◌, ◌*◌, ◌<◌, ◌≤◌, ◌++◌, length, List, take, drop, slice_index_or, slice_set, replicate, None, inl, inr, sym, subst, ap, ◌∙◌, arith}
use Rattle.std.proofs.lemmas.Bool.{cases_eq}
use Rattle.std.proofs.lemmas.List.{get_or-set_same, get_or-set_other, get_or-replicate, length-set, length-replicate, length-append, length-take-le, length-drop, take-take}
use Rattle.std.proofs.lemmas.Nat.{row_fits}
use borrow.Rule.Slice.PartMut.{put_mid}
use Rattle.system_parts.specs.declared.buckets.Recorded.{Recorded}
use Rattle.system_parts.specs.Buckets.{Bucket, empty_bucket, kept_commit, recorded, place_of, record_pair}
use Rattle.system_parts.proofs.BucketLaws.{ordered-empty}
use Rattle.conflict_buckets.specs.declared.bucket.Head.{Head}
use Rattle.conflict_buckets.specs.Runs.{room_of, bucket_in, buckets_in}
use Rattle.conflict_buckets.specs.Sound.{IsOf, IsSound, AreSound}
use Rattle.conflict_buckets.proofs.RunLemmas.{length-buckets_in, bucket-at, empty-buckets, bucket-set}
use Rattle.conflict_buckets.proofs.ShareLemmas.{has-room, sound-recorded}

-- empty buckets are sound
pub sound-empty : (width count room : ℕ) (head : Head) (runs : List Recorded) → 1 ≤ count → 1 ≤ width → room ≡ room_of count width → head.len ≡ 0 → head.water ≡ 0 → length runs ≡ count * room → AreSound width room (replicate count head) runs
sound-empty width count room head runs some wide share none dry size =
    let many : length (replicate count head) ≡ count = length-replicate count head in
    record {
      some = omega arith;
      wide = wide;
      share = share ∙ ap (λ (n : ℕ). room_of n width) (sym many);
      size = size ∙ ap (λ (n : ℕ). n * room) (sym many);
      fit = λ place d within. let here = get_or-replicate count place head d (omega arith) in let len = ap (λ (h : Head). h.len) here in omega arith;
      sound = λ place within.
          let all = empty-buckets width room count head runs none dry in
          let here = ap (λ (bs : List Bucket). slice_index_or bs place (empty_bucket 0)) all ∙ get_or-replicate count place (empty_bucket width) (empty_bucket 0) (omega arith) in
          subst (λ (b : Bucket). IsSound (length (replicate count head)) place b) (sym here) (record { ordered = ordered-empty width wide; own = tt });
    }

length-kept : (a k : ℕ) (runs run : List Recorded) → length run ≡ k → a + k ≤ length runs → length (put_mid a k runs run) ≡ length runs
length-kept a k runs run many within =
    omega (arith, length-append (take a runs) (run ++ drop k (drop a runs)), length-append run (drop k (drop a runs)), length-take-le a runs (omega arith), length-drop k (drop a runs), length-drop a runs)

-- a pair that is recorded in the bucket of its key keeps all sound
pub sound-kept : (width room : ℕ) (heads : List Head) (runs run : List Recorded) (place : ℕ) (head : Head) (pair : Recorded) → AreSound width room heads runs → place < length heads → length run ≡ room → head.len ≤ room → IsOf (length heads) place pair.key →
    bucket_in width head run ≡ recorded (slice_index_or (buckets_in width room heads runs) place (empty_bucket 0)) pair →
    AreSound width room (slice_set heads place head) (put_mid (place * room) room runs run)
sound-kept width room heads runs run place head pair h within many fits here made =
    let same : length (slice_set heads place head) ≡ length heads = length-set heads place head in
    let old : List Bucket = buckets_in width room heads runs in
    let all = bucket-set width room heads runs run place head within h.size many fits h.fit in
    record {
      some = (let some = h.some in omega arith);
      wide = h.wide;
      share = h.share ∙ ap (λ (n : ℕ). room_of n width) (sym same);
      size = length-kept (place * room) room runs run many (let inside = row_fits place room (length heads) room within (omega arith) in let size = h.size in omega arith) ∙ (h.size ∙ ap (λ (n : ℕ). n * room) (sym same));
      fit = λ k d lt. elim (cases_eq k place) [
        | inl e ↦ (let at = ap (λ (h' : Head). h'.len) (get_or-set_same heads place head d within) in subst (λ (n : ℕ). (slice_index_or (slice_set heads place head) n d).len ≤ room) (sym e) (omega arith))
        | inr ne ↦ (let at = ap (λ (h' : Head). h'.len) (get_or-set_other heads place k head d ne) in let fit = h.fit k d (omega arith) in omega arith)
      ];
      sound = λ k lt.
          let bucket : Bucket = slice_index_or old place (empty_bucket 0) in
          let count-old : length old ≡ length heads = length-buckets_in width room heads runs in
          let found : IsSound (length heads) k (slice_index_or (slice_set old place (bucket_in width head run)) k (empty_bucket 0)) = elim (cases_eq k place) [
            | inl e ↦ subst (λ (n : ℕ). IsSound (length heads) n (slice_index_or (slice_set old place (bucket_in width head run)) n (empty_bucket 0))) (sym e)
                (subst (λ (b : Bucket). IsSound (length heads) place b) (sym (get_or-set_same old place (bucket_in width head run) (empty_bucket 0) (omega arith) ∙ made)) (sound-recorded (length heads) place bucket pair (h.sound place within) here))
            | inr ne ↦ subst (λ (b : Bucket). IsSound (length heads) k b) (sym (get_or-set_other old place k (bucket_in width head run) (empty_bucket 0) ne)) (h.sound k (omega arith))
          ] in
          subst (λ (n : ℕ). IsSound n k (slice_index_or (buckets_in width room (slice_set heads place head) (put_mid (place * room) room runs run)) k (empty_bucket 0))) (sym same)
          (subst (λ (bs : List Bucket). IsSound (length heads) k (slice_index_or bs k (empty_bucket 0))) (sym all) found);
    }

-- the pairs of a bucket, looked at in its run
kept-in_run : (width : ℕ) (head : Head) (k : ℕ) (rest : List Recorded) → head.len ≤ k → bucket_in width head (take k rest) ≡ bucket_in width head rest
kept-in_run width head k rest fits = ap (λ (pairs : List Recorded). record { width = width; kept = pairs; water = head.water }) (take-take head.len k rest fits)

long-rest : (width room place : ℕ) (heads : List Head) (runs : List Recorded) → AreSound width room heads runs → place < length heads → room ≤ length (drop (place * room) runs)
long-rest width room place heads runs h within =
    let inside = row_fits place room (length heads) room within (omega arith) in
    let size = h.size in
    omega (arith, length-drop (place * room) runs)

-- the run of a key's bucket has room for a new key
pub room-there : (width room k : ℕ) (heads : List Head) (runs : List Recorded) (place : ℕ) (d : Head) (pair : Recorded) → AreSound width room heads runs → place < length heads → IsOf (length heads) place pair.key → k ≡ room →
    kept_commit (take (slice_index_or heads place d).len (take k (drop (place * room) runs))) pair.key ≡ None → (slice_index_or heads place d).len < width →
    (slice_index_or heads place d).len < length (take k (drop (place * room) runs))
room-there width room k heads runs place d pair h within here whole new below =
    let head : Head = slice_index_or heads place d in
    let rest : List Recorded = drop (place * room) runs in
    let fits = h.fit place d within in
    let long = long-rest width room place heads runs h within in
    let some = h.some in
    let share = h.share in
    let kept : length (take head.len rest) ≡ head.len = length-take-le head.len rest (omega arith) in
    let sound : IsSound (length heads) place (bucket_in width head rest) = subst (λ (b : Bucket). IsSound (length heads) place b) (bucket-at width room heads runs place (empty_bucket 0) d within) (h.sound place within) in
    let new-there : kept_commit (take head.len rest) pair.key ≡ None = ap (λ (pairs : List Recorded). kept_commit pairs pair.key) (sym (take-take head.len k rest (omega arith))) ∙ new in
    let there = has-room (length heads) place width (bucket_in width head rest) pair some sound here new-there (omega arith) in
    omega (arith, there, length-take-le k rest (omega arith))

-- what a recorded pair makes of the bucket of its key, which lies in its run
made-of : (width room k : ℕ) (heads : List Head) (runs run : List Recorded) (place : ℕ) (d head : Head) (pair : Recorded) → AreSound width room heads runs → place < length heads → k ≡ room →
    bucket_in width head run ≡ recorded (bucket_in width (slice_index_or heads place d) (take k (drop (place * room) runs))) pair →
    bucket_in width head run ≡ recorded (slice_index_or (buckets_in width room heads runs) place (empty_bucket 0)) pair
made-of width room k heads runs run place d head pair h within whole made =
    let fits = h.fit place d within in
    made ∙ ap (λ (b : Bucket). recorded b pair) (kept-in_run width (slice_index_or heads place d) k (drop (place * room) runs) (omega arith) ∙ sym (bucket-at width room heads runs place (empty_bucket 0) d within))

many-in : (width room k place : ℕ) (heads : List Head) (runs run : List Recorded) → AreSound width room heads runs → place < length heads → k ≡ room → length run ≡ length (take k (drop (place * room) runs)) → length run ≡ room
many-in width room k place heads runs run h within whole same =
    let long = long-rest width room place heads runs h within in
    omega (arith, length-take-le k (drop (place * room) runs) (omega arith))

-- a pair is recorded in the bucket of its key
pub recorded-kept : (width room k : ℕ) (heads : List Head) (runs run : List Recorded) (place : ℕ) (d head : Head) (pair : Recorded) → AreSound width room heads runs → place < length heads → place ≡ place_of (length heads) pair.key → k ≡ room →
    bucket_in width head run ≡ recorded (bucket_in width (slice_index_or heads place d) (take k (drop (place * room) runs))) pair →
    length run ≡ length (take k (drop (place * room) runs)) → head.len ≤ length run →
    buckets_in width room (slice_set heads place head) (put_mid (place * room) k runs run) ≡ record_pair (buckets_in width room heads runs) pair
recorded-kept width room k heads runs run place d head pair h within e whole made same fits =
    let old : List Bucket = buckets_in width room heads runs in
    let many = many-in width room k place heads runs run h within whole same in
    let count : length old ≡ length heads = length-buckets_in width room heads runs in
    let at : place ≡ place_of (length old) pair.key = e ∙ ap (λ (n : ℕ). place_of n pair.key) (sym count) in
    ap (λ (n : ℕ). buckets_in width room (slice_set heads place head) (put_mid (place * room) n runs run)) whole
    ∙ (bucket-set width room heads runs run place head within h.size many (omega arith) h.fit
    ∙ (ap (λ (b : Bucket). slice_set old place b) (made-of width room k heads runs run place d head pair h within whole made)
    ∙ ap (λ (p : ℕ). slice_set old p (recorded (slice_index_or old p (empty_bucket 0)) pair)) at))

-- and all stay sound
pub sound-after : (width room k : ℕ) (heads : List Head) (runs run : List Recorded) (place : ℕ) (d head : Head) (pair : Recorded) → AreSound width room heads runs → place < length heads → IsOf (length heads) place pair.key → k ≡ room →
    bucket_in width head run ≡ recorded (bucket_in width (slice_index_or heads place d) (take k (drop (place * room) runs))) pair →
    length run ≡ length (take k (drop (place * room) runs)) → head.len ≤ length run →
    AreSound width room (slice_set heads place head) (put_mid (place * room) k runs run)
sound-after width room k heads runs run place d head pair h within here whole made same fits =
    let many = many-in width room k place heads runs run h within whole same in
    subst (λ (n : ℕ). AreSound width room (slice_set heads place head) (put_mid (place * room) n runs run)) (sym whole)
    (sound-kept width room heads runs run place head pair h within many (omega arith) here (made-of width room k heads runs run place d head pair h within whole made))
