-- The short histories of a later term, of a range that is drawn to its end, and of the end of all stamps.
use Rattle.std.proofs.Common.{◌≡◌, ℕ, ◌+◌, ◌^◌, ◌<◌, [], ◌∷◌, None, Some, ◌⊎◌, inl, inr, refl, sym, ◌∙◌, ap, subst, arith}
use Rattle.std.proofs.lemmas.Option.{same_Some}
use Rattle.stamp_base.specs.SetupNumbers.{default_numbers}
use Rattle.history_book.specs.Members.{◌∈◌}
use Rattle.history_book.specs.declared.cause.Cause.TheVariants as cause
use Rattle.history_book.specs.declared.item.Actor.TheVariants.{Node, Session}
use Rattle.history_book.specs.declared.item.Item.{Item}
use Rattle.history_book.specs.declared.item.Item.TheVariants.{AskBegin, Take, Extend, Draw}
use Rattle.cause_rules.specs.Posts.{Taken, last_take, CeilingGiven}
use Rattle.cause_rules.specs.Commits.{ShownReplaced, ShownNoStamp, StampDrawn}
use Rattle.cause_rules.specs.Refusals.{ShownOvertaken, ShownSpent}
use Rattle.cause_rules.specs.Explained.{Explained}
use Rattle.cause_rules.specs.WorkedTerms.{two_takes, before_replaced, replaced_told, overtaken_told, Drawn, drawn_out, before_no_stamp, no_stamp_told, last_room, spent_told, spent_told_after_extension}
use Rattle.cause_rules.proofs.WorkedRefusals.{of_each, shown_explains, explained_shows}

-- ---- a later term
pub taken_later : Explained default_numbers (replaced_told 1 2)
unfolding ◌∈◌
taken_later = shown_explains default_numbers (before_replaced 1) (Session 0) (cause.Replaced 2) refl (record {
  node = 0;
  node_is = refl;
  term = 1;
  term_is = refl;
  later = omega arith;
  taken = (1, 12, 100, 22, 200, inr (inl refl));
})

pub node_overtaken : Explained default_numbers (overtaken_told 0 2)
unfolding ◌∈◌
node_overtaken = shown_explains default_numbers two_takes (Node 0) (cause.Replaced 2) refl (record {
  term = 1;
  epoch = 0;
  took = record { take = record { term = 1; epoch = 0; until = 10 }; last = refl; term_is = refl; epoch_is = refl };
  later = omega arith;
  taken = (1, 12, 100, 22, 200, inr (inl refl));
})

abbrev TwoTerms : Item → Type 0
TwoTerms (Take node reading term epoch until ceiling) = (term ≡ 1) ⊎ (term ≡ 2)
TwoTerms _ = Unit {0}

-- a term that is above the own one, and one of the two that were taken
record ToldReplaced (own found : ℕ) : Type 0 where
  later : own < found
  taken : (found ≡ 1) ⊎ (found ≡ 2)

replaced_of : (accepted_in found : ℕ) → Explained default_numbers (replaced_told accepted_in found) → ToldReplaced accepted_in found
replaced_of accepted_in found e =
    let shown : ShownReplaced (before_replaced accepted_in) 0 found = explained_shows default_numbers (before_replaced accepted_in) (Session 0) (cause.Replaced found) e in
    let t = shown.taken in
    record {
      later = subst (λ (term : ℕ). term < found) (sym (same_Some _ _ shown.term_is)) shown.later;
      taken = of_each TwoTerms (Take t.0 t.1 found t.2 t.3 t.4) (before_replaced accepted_in) (inl refl, (inr refl, (tt, (tt, tt)))) t.5;
    }

overtaken_of : (node found : ℕ) (own : Taken) → last_take two_takes node ≡ Some own → Explained default_numbers (overtaken_told node found) → ToldReplaced own.term found
overtaken_of node found own last e =
    let shown : ShownOvertaken two_takes node found = explained_shows default_numbers two_takes (Node node) (cause.Replaced found) e in
    let term : shown.term ≡ own.term = sym shown.took.term_is ∙ ap (λ (t : Taken). t.term) (same_Some _ _ (sym shown.took.last ∙ last)) in
    let t = shown.taken in
    record {
      later = subst (λ (mine : ℕ). mine < found) term shown.later;
      taken = of_each TwoTerms (Take t.0 t.1 found t.2 t.3 t.4) two_takes (inl refl, (inr refl, tt)) t.5;
    }

never_three : (own : ℕ) → ToldReplaced own 3 → ⊥
never_three own told = elim told.taken [ inl same ↦ absurd (omega (arith, same)) | inr same ↦ absurd (omega (arith, same)) ]

pub its_own_term : Explained default_numbers (replaced_told 1 1) → ⊥
its_own_term e = let later : 1 < 1 = (replaced_of 1 1 e).later in absurd (omega (arith, later))

pub term_never_taken : Explained default_numbers (replaced_told 1 3) → ⊥
term_never_taken e = never_three 1 (replaced_of 1 3 e)

pub accepted_in_the_last : Explained default_numbers (replaced_told 2 2) → ⊥
accepted_in_the_last e = let later : 2 < 2 = (replaced_of 2 2 e).later in absurd (omega (arith, later))

pub node_of_the_last : Explained default_numbers (overtaken_told 1 2) → ⊥
node_of_the_last e = let later : 2 < 2 = (overtaken_of 1 2 (record { term = 2; epoch = 100; until = 22 }) refl e).later in absurd (omega (arith, later))

pub node_by_its_own_term : Explained default_numbers (overtaken_told 0 1) → ⊥
node_by_its_own_term e = let later : 1 < 1 = (overtaken_of 0 1 (record { term = 1; epoch = 0; until = 10 }) refl e).later in absurd (omega (arith, later))

pub node_by_a_term_never_taken : Explained default_numbers (overtaken_told 0 3) → ⊥
node_by_a_term_never_taken e = never_three 1 (overtaken_of 0 3 (record { term = 1; epoch = 0; until = 10 }) refl e)

-- ---- ranges
pub to_the_end : Explained default_numbers (no_stamp_told drawn_out)
unfolding ◌∈◌
to_the_end = shown_explains default_numbers (before_no_stamp drawn_out) (Session 2) (cause.NoStamp 2) refl (record {
  node = 0;
  node_is = refl;
  term = 1;
  term_is = refl;
  end = inl (0, 0, 0, 10, inl refl);
  drawn = inr (1, (0, 0, inr (inr (inl refl))));
})

pub ended_by_a_start : Explained default_numbers (no_stamp_told (record drawn_out { ceiling = 1; last = 1 }))
unfolding ◌∈◌
ended_by_a_start = shown_explains default_numbers (before_no_stamp (record drawn_out { ceiling = 1; last = 1 })) (Session 2) (cause.NoStamp 1) refl (record {
  node = 0;
  node_is = refl;
  term = 1;
  term_is = refl;
  end = inl (0, 0, 0, 10, inl refl);
  drawn = inl (0, 0, inr (inl refl));
})

abbrev OnlyCeiling : ℕ → ℕ → Item → Type 0
OnlyCeiling taken last (Take node reading term epoch until ceiling) = (term ≡ taken) × (ceiling ≡ last)
OnlyCeiling taken last (Extend node term ceiling) = ⊥
OnlyCeiling taken last _ = Unit {0}

abbrev TwoStamps : ℕ → Item → Type 0
TwoStamps drawn_in (Draw session node term start None) = (term ≡ drawn_in) × ((start ≡ 1) ⊎ (start ≡ 2))
TwoStamps drawn_in (Draw session node term start (Some commit)) = (term ≡ drawn_in) × ((commit ≡ 1) ⊎ (commit ≡ 2))
TwoStamps drawn_in _ = Unit {0}

record ToldNoStamp (c : Drawn) (term : ℕ) : Type 0 where
  end : (term ≡ c.taken) × (c.last ≡ c.ceiling)
  drawn : (term ≡ c.drawn_in) × ((c.last ≡ 1) ⊎ (c.last ≡ 2))

end_of : (c : Drawn) (term : ℕ) → CeilingGiven (before_no_stamp c) term c.last → (term ≡ c.taken) × (c.last ≡ c.ceiling)
end_of c term given = elim given [
  | inl t ↦ of_each (OnlyCeiling c.taken c.ceiling) (Take t.0 t.1 term t.2 t.3 c.last) (before_no_stamp c) ((refl, refl), (tt, (tt, (tt, (tt, tt))))) t.4
  | inr x ↦ absurd (of_each (OnlyCeiling c.taken c.ceiling) (Extend x.0 term c.last) (before_no_stamp c) ((refl, refl), (tt, (tt, (tt, (tt, tt))))) x.1)
]

drawn_of : (c : Drawn) (term : ℕ) → StampDrawn (before_no_stamp c) term c.last → (term ≡ c.drawn_in) × ((c.last ≡ 1) ⊎ (c.last ≡ 2))
drawn_of c term drawn = elim drawn [
  | inl d ↦ of_each (TwoStamps c.drawn_in) (Draw d.0 d.1 term c.last None) (before_no_stamp c) (tt, ((refl, inl refl), ((refl, inr refl), (tt, (tt, tt))))) d.2
  | inr d ↦ of_each (TwoStamps c.drawn_in) (Draw d.1.0 d.1.1 term d.0 (Some c.last)) (before_no_stamp c) (tt, ((refl, inl refl), ((refl, inr refl), (tt, (tt, tt))))) d.1.2
]

no_stamp_of : (c : Drawn) → Explained default_numbers (no_stamp_told c) → ToldNoStamp c 1
no_stamp_of c e =
    let shown : ShownNoStamp (before_no_stamp c) 2 c.last = explained_shows default_numbers (before_no_stamp c) (Session 2) (cause.NoStamp c.last) e in
    subst (λ (term : ℕ). ToldNoStamp c term) (sym (same_Some _ _ shown.term_is)) (record { end = end_of c shown.term shown.end; drawn = drawn_of c shown.term shown.drawn })

pub stamp_left : Explained default_numbers (no_stamp_told (record drawn_out { ceiling = 3; last = 3 })) → ⊥
stamp_left e = elim (no_stamp_of (record drawn_out { ceiling = 3; last = 3 }) e).drawn.1 [ inl same ↦ absurd (omega (arith, same)) | inr same ↦ absurd (omega (arith, same)) ]

pub below_the_ceiling : Explained default_numbers (no_stamp_told (record drawn_out { ceiling = 3 })) → ⊥
below_the_ceiling e = let same : 2 ≡ 3 = (no_stamp_of (record drawn_out { ceiling = 3 }) e).end.1 in absurd (omega (arith, same))

pub range_of_another_term : Explained default_numbers (no_stamp_told (record drawn_out { taken = 2 })) → ⊥
range_of_another_term e = let same : 1 ≡ 2 = (no_stamp_of (record drawn_out { taken = 2 }) e).end.0 in absurd (omega (arith, same))

pub drawn_in_another_term : Explained default_numbers (no_stamp_told (record drawn_out { drawn_in = 2 })) → ⊥
drawn_in_another_term e = let same : 1 ≡ 2 = (no_stamp_of (record drawn_out { drawn_in = 2 }) e).drawn.0 in absurd (omega (arith, same))

-- ---- the end of all stamps
pub no_room : Explained default_numbers (spent_told (last_room + 1) (last_room + 1))
unfolding ◌∈◌
no_room = shown_explains default_numbers (Take 0 0 1 0 10 (last_room + 1) ∷ []) (Node 0) (cause.Spent (last_room + 1)) refl (record {
  term = 1;
  given = inl (0, 0, 0, 10, inl refl);
  past = omega arith;
})

pub no_room_after_extension : Explained default_numbers (spent_told_after_extension (last_room + 1))
unfolding ◌∈◌
no_room_after_extension = shown_explains default_numbers (Take 0 0 1 0 10 100 ∷ Extend 0 1 (last_room + 1) ∷ AskBegin 0 0 ∷ []) (Session 0) (cause.Spent (last_room + 1)) refl (
  (0, refl),
  record {
    term = 1;
    given = inr (0, inr (inl refl));
    past = omega arith;
  },
)

spent_shown : (ceiling spent : ℕ) → Explained default_numbers (spent_told ceiling spent) → ShownSpent default_numbers (Take 0 0 1 0 10 ceiling ∷ []) spent
spent_shown ceiling spent = explained_shows default_numbers (Take 0 0 1 0 10 ceiling ∷ []) (Node 0) (cause.Spent spent)

pub room_left : Explained default_numbers (spent_told last_room last_room) → ⊥
room_left e = let past : 2 ^ 62 < last_room + 100 = (spent_shown last_room last_room e).past in absurd (omega (arith, past))

abbrev OnlyTake : ℕ → Item → Type 0
OnlyTake last (Take node reading term epoch until ceiling) = ceiling ≡ last
OnlyTake last _ = ⊥

pub ceiling_not_given : Explained default_numbers (spent_told (last_room + 2) (last_room + 1)) → ⊥
ceiling_not_given e =
    let shown : ShownSpent default_numbers (Take 0 0 1 0 10 (last_room + 2) ∷ []) (last_room + 1) = spent_shown (last_room + 2) (last_room + 1) e in
    elim shown.given [
      | inl t ↦
          let same : last_room + 1 ≡ last_room + 2 = of_each (OnlyTake (last_room + 2)) (Take t.0 t.1 shown.term t.2 t.3 (last_room + 1)) (Take 0 0 1 0 10 (last_room + 2) ∷ []) (refl, tt) t.4 in
          absurd (omega (arith, same))
      | inr x ↦ absurd (of_each (OnlyTake (last_room + 2)) (Extend x.0 shown.term (last_room + 1)) (Take 0 0 1 0 10 (last_room + 2) ∷ []) (refl, tt) x.1)
    ]
