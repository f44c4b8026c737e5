-- The small histories of one copy, gone through place by place.
use Rattle.std.proofs.Common.{◌≡◌, ℕ, None, inl, inr, refl, arith}
use Rattle.history_book.specs.Members.{◌∈◌}
use Rattle.history_book.specs.Isolation.{Committed, Candidate, last_write}
use Rattle.history_book.specs.declared.item.Item.TheVariants.{Read}
use Rattle.service_rules.specs.OneCopy.{StandsAt, ReadsOneCopy, OneCopy}
use Rattle.service_rules.proofs.Walks.{Walks, walked}
use Rattle.service_rules.specs.Worked.{p, reader_commits, reader_ends}

pub crossed_wrong : OneCopy reader_commits → ⊥
unfolding ◌∈◌ last_write
crossed_wrong is =
    let wrote : Candidate reader_commits 4 0 1 3 = record { committed = inr (inr (inl refl)); below = omega arith; wrote = (p, refl) } in
    is.at 0 (Read 1 2 0 None) refl refl 4 (inl (inr (inr (inr (inl refl))))) 1 3 wrote

-- the only commit is that of the first transaction, at 3
only_commit : (t c : ℕ) → Committed reader_ends t c → (t ≡ 1) × (c ≡ 3)
unfolding ◌∈◌
only_commit t c m = elim m [
  | inl read ↦ absurd (cc)
  | inr later ↦ elim later [
    | inl wrote ↦ absurd (cc)
    | inr last ↦ elim last [ inl same ↦ (cc, cc) | inr none ↦ absurd none ]
  ]
]

none_below : (place : ℕ) → StandsAt reader_ends 2 place → (t c : ℕ) → Candidate reader_ends place 0 t c → ⊥
none_below place (inl committed) t c k = let other : 2 ≡ 1 = (only_commit 2 place committed).0 in absurd (omega (arith, other))
none_below place (inr stands) t c k = let three : c ≡ 3 = (only_commit t c k.committed).1 in absurd (omega (arith, three, k.below, stands.1))

pub uncrossed_right : OneCopy reader_ends
unfolding Walks
uncrossed_right = walked (ReadsOneCopy reader_ends) reader_ends ((λ none place stands t c k. none_below place stands t c k), (tt, (tt, tt)))
