-- What is told of a node's take, its lease, its range and its instance: by its definition where the items are found, and the other
-- way round.
use Rattle.std.proofs.Common.{◌≡◌, ℕ, suc, ◌==◌, ◌&&◌, nat_lt, nat_le, true, List, Option, Some, None, drop, is_some, is_none, refl, sym, subst, ap, ◌∙◌, ◌⊎◌, inl, inr}
use Rattle.std.specs.Option.{option_or}
use Rattle.std.proofs.lemmas.Bool.{eqb-true, and_parts, and_from, le-leb, leb-true}
use Rattle.history_book.specs.Members.{◌∈◌}
use Rattle.history_book.specs.declared.item.Item.{Item}
use Rattle.history_book.specs.declared.item.Item.TheVariants as item
use Rattle.cause_rules.specs.Asks.{its_node, its_start}
use Rattle.cause_rules.specs.Commits.{ShownOldEpoch, ShownExpired}
use Rattle.cause_rules.specs.Posts.{Taken, LeasedUntil, LeaseGiven, CeilingGiven, StandsSince, last_take, since_take, takes_for, crashes_for}
use Rattle.cause_rules.specs.Refusals.{ShownHolding, ShownOvertaken}
use Rattle.refusal_reasons.specs.declared.clue.Clue.TheVariants as clue
use Rattle.refusal_reasons.specs.Clues.{renews_lease, gives_lease, gives_ceiling, fits}
use Rattle.refusal_reasons.specs.Showing.{same, old_epoch, lease_from, lease_of, expired, overtaken, holding, take_place, take_from, last_take_at}
use Rattle.refusal_reasons.specs.Sought.{seek, behind}
use Rattle.refusal_reasons.proofs.SeekLemmas.{last_is}
use Rattle.refusal_reasons.proofs.PlaceLemmas.{IsPlace, one_found, one_parts, two_found, two_parts, both, seek_in, seek_all, sought_in, take_at, take_fits, fits_take, take_part, takes_tell}
use Rattle.refusal_reasons.proofs.PlaceLemmas as place
use Rattle.refusal_reasons.proofs.CommitLemmas.{term_place, place_term}

-- ---- an old epoch
pub same_is : (o : Option ℕ) (n : ℕ) → same o n ≡ true → o ≡ Some n
same_is None n e = absurd cc
same_is (Some m) n e = ap Some (eqb-true m n e)

pub is_same : (o : Option ℕ) (n : ℕ) → o ≡ Some n → same o n ≡ true
is_same o n is = rw is (place.same n)

pub old_epoch_whole : (h : List Item) (s start epoch : ℕ) → ShownOldEpoch h s start epoch → is_some (old_epoch h start epoch (its_node h s) (its_start h s)) ≡ true
old_epoch_whole h s start epoch shown =
    let take = shown.took.take in
    let at = take_fits (fits (clue.Epoch shown.node epoch)) h shown.node take shown.took.last (λ _ _. rw (shown.took.epoch_is) (both shown.node epoch)) in
    let agrees : (same (its_start h s) start && nat_le start epoch) ≡ true = and_from _ _ (is_same (its_start h s) start shown.start_is) (le-leb _ _ shown.old) in
    rw (shown.node_is) (one_found (same (its_start h s) start && nat_le start epoch) (last_take_at (fits (clue.Epoch shown.node epoch)) h (take_place h shown.node)) agrees at)

pub old_epoch_sound : (h : List Item) (s start epoch : ℕ) (node : Option ℕ) → its_node h s ≡ node → is_some (old_epoch h start epoch node (its_start h s)) ≡ true → ShownOldEpoch h s start epoch
old_epoch_sound h s start epoch None ns e = absurd cc
old_epoch_sound h s start epoch (Some n) ns e =
    let parts = one_parts (same (its_start h s) start && nat_le start epoch) (last_take_at (fits (clue.Epoch n epoch)) h (take_place h n)) e in
    let numbers = and_parts (same (its_start h s) start) (nat_le start epoch) parts.0 in
    let t = fits_take (fits (clue.Epoch n epoch)) h n parts.1 in
    let own = and_parts (n == n) (t.last.epoch == epoch) t.fits in
    record { start_is = same_is (its_start h s) start numbers.0; node = n; node_is = ns; term = t.last.term; took = record { take = t.last; last = t.is; term_is = refl; epoch_is = eqb-true t.last.epoch epoch own.1 }; old = leb-true _ _ numbers.1 }

-- ---- a lease that was over
pub or_first : (o p : Option ℕ) → IsPlace o → IsPlace (option_or o p)
or_first o p at = (at.0, rw (at.1) refl)

pub or_second : (o p : Option ℕ) → IsPlace p → IsPlace (option_or o p)
or_second None p at = at
or_second (Some a) p at = (a, refl)

pub or_parts : (o p : Option ℕ) → IsPlace (option_or o p) → IsPlace o ⊎ IsPlace p
or_parts None p at = inr at
or_parts (Some a) p at = inl (a, refl)

-- its last take stands at this place
lease_at : (h : List Item) (n until place : ℕ) → take_place h n ≡ Some place → LeasedUntil h n until → IsPlace (lease_from h n until (Some place))
lease_at h n until place is leased = elim (leased.by) [
  | inl ends ↦
      let at = take_fits (fits (clue.LeaseTaken n until)) h n leased.take leased.last (λ _ _. rw ends (both n until)) in
      or_first (last_take_at (fits (clue.LeaseTaken n until)) h (Some place)) (seek h (suc place) (clue.LeaseRenewed n until)) (subst (λ (o : Option ℕ). IsPlace (last_take_at (fits (clue.LeaseTaken n until)) h o)) is at)
  | inr renewed ↦
      let part : since_take h n ≡ drop (suc place) h = take_part h n ∙ ap (λ (o : Option ℕ). drop (behind o) h) is in
      or_second (last_take_at (fits (clue.LeaseTaken n until)) h (Some place)) (seek h (suc place) (clue.LeaseRenewed n until))
      (seek_in h (suc place) (clue.LeaseRenewed n until) (item.Renew n renewed.0 renewed.1 until) (subst (λ (items : List Item). item.Renew n renewed.0 renewed.1 until ∈ items) part renewed.2) (both n until))
]

lease_place : (h : List Item) (n until : ℕ) → LeasedUntil h n until → IsPlace (lease_of h n until)
lease_place h n until leased =
    let t = take_at h n leased.take leased.last in
    subst (λ (o : Option ℕ). IsPlace (lease_from h n until o)) (sym t.at) (lease_at h n until t.place t.at leased)

pub expired_whole : (h : List Item) (s reading until : ℕ) → ShownExpired h s reading until → is_some (expired h reading until (its_node h s)) ≡ true
expired_whole h s reading until shown = rw (shown.node_is) (one_found (nat_le until reading) (lease_of h shown.node until) (le-leb _ _ shown.over) (lease_place h shown.node until shown.leased))

renewal_form : (n until : ℕ) (part : List Item) (x : Item) → x ∈ part → renews_lease n until x ≡ true → (reading : ℕ) × (term : ℕ) × (item.Renew n reading term until ∈ part)
renewal_form n until part (item.Renew node reading term end) m e =
    let parts = and_parts (node == n) (end == until) e in
    (reading, term, subst (λ (v : ℕ). item.Renew v reading term until ∈ part) (eqb-true node n parts.0) (subst (λ (v : ℕ). item.Renew node reading term v ∈ part) (eqb-true end until parts.1) m))
renewal_form n until part _ m e = absurd cc

pub any_take : (h : List Item) (n place : ℕ) → take_place h n ≡ Some place → (last : Taken) × (last_take h n ≡ Some last)
any_take h n place is =
    let l = last_is (takes_for n) h 0 place is in
    let t = fits_take (λ _. true) h n (place, rw (is, l.stands) refl) in
    (t.last, t.is)

leased_by : (h : List Item) (n until : ℕ) (place : Option ℕ) → take_place h n ≡ place → IsPlace (lease_from h n until place) → LeasedUntil h n until
leased_by h n until None is at = absurd (let none = at.1 in cc)
leased_by h n until (Some place) is at = elim (or_parts (last_take_at (fits (clue.LeaseTaken n until)) h (Some place)) (seek h (suc place) (clue.LeaseRenewed n until)) at) [
  | inl taken ↦
      let t = fits_take (fits (clue.LeaseTaken n until)) h n (subst (λ (o : Option ℕ). IsPlace (last_take_at (fits (clue.LeaseTaken n until)) h o)) (sym is) taken) in
      let own = and_parts (n == n) (t.last.until == until) t.fits in
      record { take = t.last; last = t.is; by = inl (eqb-true t.last.until until own.1) }
  | inr renewed ↦
      let last = any_take h n place is in
      let part : since_take h n ≡ drop (suc place) h = take_part h n ∙ ap (λ (o : Option ℕ). drop (behind o) h) is in
      let at = sought_in h (suc place) renewed.0 (clue.LeaseRenewed n until) renewed.1 in
      record { take = last.0; last = last.1; by = inr (renewal_form n until (since_take h n) at.0 (subst (λ (items : List Item). at.0 ∈ items) (sym part) at.1.0) at.1.1) }
]

pub expired_sound : (h : List Item) (s reading until : ℕ) (node : Option ℕ) → its_node h s ≡ node → is_some (expired h reading until node) ≡ true → ShownExpired h s reading until
expired_sound h s reading until None ns e = absurd cc
expired_sound h s reading until (Some n) ns e =
    let parts = one_parts (nat_le until reading) (lease_of h n until) e in
    record { node = n; node_is = ns; leased = leased_by h n until (take_place h n) refl parts.1; over = leb-true _ _ parts.0 }

-- ---- what the master record was seen to have
pub lease_given : (h : List Item) (until : ℕ) → LeaseGiven h until → IsPlace (seek h 0 (clue.Lease until))
lease_given h until (inl (n, reading, term, epoch, ceiling, m)) = seek_all h (clue.Lease until) (item.Take n reading term epoch until ceiling) m (place.same until)
lease_given h until (inr (n, reading, term, m)) = seek_all h (clue.Lease until) (item.Renew n reading term until) m (place.same until)

given_form : (h : List Item) (until : ℕ) (x : Item) → x ∈ h → gives_lease until x ≡ true → LeaseGiven h until
given_form h until (item.Take n reading term epoch end ceiling) m e = inl (n, reading, term, epoch, ceiling, subst (λ (v : ℕ). item.Take n reading term epoch v ceiling ∈ h) (eqb-true end until e) m)
given_form h until (item.Renew n reading term end) m e = inr (n, reading, term, subst (λ (v : ℕ). item.Renew n reading term v ∈ h) (eqb-true end until e) m)
given_form h until _ m e = absurd cc

pub given_lease : (h : List Item) (until at : ℕ) → seek h 0 (clue.Lease until) ≡ Some at → LeaseGiven h until
given_lease h until at is = let there = sought_in h 0 at (clue.Lease until) is in given_form h until there.0 there.1.0 there.1.1

pub ceiling_given : (h : List Item) (u end : ℕ) → CeilingGiven h u end → IsPlace (seek h 0 (clue.Ceiling end))
ceiling_given h u end (inl (n, reading, epoch, until, m)) = seek_all h (clue.Ceiling end) (item.Take n reading u epoch until end) m (place.same end)
ceiling_given h u end (inr (n, m)) = seek_all h (clue.Ceiling end) (item.Extend n u end) m (place.same end)

end_form : (h : List Item) (end : ℕ) (x : Item) → x ∈ h → gives_ceiling end x ≡ true → (u : ℕ) × CeilingGiven h u end
end_form h end (item.Take n reading term epoch until ceiling) m e = (term, inl (n, reading, epoch, until, subst (λ (v : ℕ). item.Take n reading term epoch until v ∈ h) (eqb-true ceiling end e) m))
end_form h end (item.Extend n term ceiling) m e = (term, inr (n, subst (λ (v : ℕ). item.Extend n term v ∈ h) (eqb-true ceiling end e) m))
end_form h end _ m e = absurd cc

pub given_ceiling : (h : List Item) (end at : ℕ) → seek h 0 (clue.Ceiling end) ≡ Some at → (u : ℕ) × CeilingGiven h u end
given_ceiling h end at is = let there = sought_in h 0 at (clue.Ceiling end) is in end_form h end there.0 there.1.0 there.1.1

-- ---- a node that holds an instance, and one that was overtaken
crashing : (n : ℕ) (part : List Item) (x : Item) → x ∈ part → crashes_for n x ≡ true → ((term : ℕ) → item.Crash n term ∈ part → ⊥) → ⊥
crashing n part (item.Crash node term) m e none = none term (subst (λ (v : ℕ). item.Crash v term ∈ part) (eqb-true node n e) m)
crashing n part _ m e none = absurd cc

no_crash : (h : List Item) (n : ℕ) (place : Option ℕ) → seek h (take_from h n) (clue.Crashed n) ≡ place → StandsSince h n → is_none place ≡ true
no_crash h n None is stands = refl
no_crash h n (Some at) is stands =
    let there = sought_in h (take_from h n) at (clue.Crashed n) is in
    absurd (crashing n (since_take h n) there.0 (subst (λ (items : List Item). there.0 ∈ items) (sym (take_part h n)) there.1.0) there.1.1 stands)

stands_by : (h : List Item) (n : ℕ) (place : Option ℕ) → seek h (take_from h n) (clue.Crashed n) ≡ place → is_none place ≡ true → StandsSince h n
stands_by h n (Some at) is e = absurd cc
stands_by h n None is e = λ term m.
    let at = seek_in h (take_from h n) (clue.Crashed n) (item.Crash n term) (subst (λ (items : List Item). item.Crash n term ∈ items) (take_part h n) m) (place.same n) in
    let no = sym is ∙ at.1 in absurd cc

pub holding_whole : (h : List Item) (n term : ℕ) → ShownHolding h n term → is_some (holding h n term) ≡ true
holding_whole h n term shown =
    one_found (is_none (seek h (take_from h n) (clue.Crashed n))) (last_take_at (fits (clue.OwnTerm n term)) h (take_place h n)) (no_crash h n (seek h (take_from h n) (clue.Crashed n)) refl shown.stands)
    (take_fits (fits (clue.OwnTerm n term)) h n shown.took.take shown.took.last (λ _ _. rw (shown.took.term_is) (both n term)))

pub holding_sound : (h : List Item) (n term : ℕ) → is_some (holding h n term) ≡ true → ShownHolding h n term
holding_sound h n term e =
    let parts = one_parts (is_none (seek h (take_from h n) (clue.Crashed n))) (last_take_at (fits (clue.OwnTerm n term)) h (take_place h n)) e in
    let t = fits_take (fits (clue.OwnTerm n term)) h n parts.1 in
    let own = and_parts (n == n) (t.last.term == term) t.fits in
    record { epoch = t.last.epoch; took = record { take = t.last; last = t.is; term_is = eqb-true t.last.term term own.1; epoch_is = refl }; stands = stands_by h n (seek h (take_from h n) (clue.Crashed n)) refl parts.0 }

pub overtaken_whole : (h : List Item) (n found : ℕ) → ShownOvertaken h n found → is_some (overtaken h n found) ≡ true
overtaken_whole h n found shown =
    two_found true (last_take_at (fits (clue.EarlierTerm n found)) h (take_place h n)) (seek h 0 (clue.TermTaken found)) refl
    (take_fits (fits (clue.EarlierTerm n found)) h n shown.took.take shown.took.last (λ _ _. and_from _ _ (place.same n) (rw (shown.took.term_is) (le-leb _ _ shown.later)))) (term_place h found shown.taken)

pub overtaken_sound : (h : List Item) (n found : ℕ) → is_some (overtaken h n found) ≡ true → ShownOvertaken h n found
overtaken_sound h n found e =
    let parts = two_parts true (last_take_at (fits (clue.EarlierTerm n found)) h (take_place h n)) (seek h 0 (clue.TermTaken found)) e in
    let t = fits_take (fits (clue.EarlierTerm n found)) h n parts.1.0 in
    let own = and_parts (n == n) (nat_lt t.last.term found) t.fits in
    record { term = t.last.term; epoch = t.last.epoch; took = record { take = t.last; last = t.is; term_is = refl; epoch_is = refl }; later = leb-true _ _ own.1; taken = place_term h found parts.1.1.0 parts.1.1.1 }
