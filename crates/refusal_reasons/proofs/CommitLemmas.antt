-- What a request is told of its keys, its stamps and its term: by its definition where the items are found, and the other way round.
use Rattle.std.proofs.Common.{◌≡◌, ℕ, ◌<◌, ◌==◌, ◌&&◌, nat_lt, Bool, true, false, List, Option, Some, None, Contains, drop, is_some, is_none, refl, sym, subst, ap, ◌∙◌, inl, inr, arith}
use Rattle.std.specs.Prelude.{slice_get, IfSome, if◌then◌else◌}
use Rattle.std.specs.Option.{option_or}
use Rattle.std.proofs.lemmas.Bool.{cases_Bool, eqb-true, and_parts, and_from, or_cases, or_left, le-leb, leb-true}
use Rattle.stamp_base.specs.SetupNumbers.{SetupNumbers}
use Rattle.history_book.specs.Members.{◌∈◌}
use Rattle.history_book.specs.Isolation.{Committed}
use Rattle.history_book.proofs.MemberLemmas.{in_at}
use Rattle.history_book.specs.declared.item.Actor.TheVariants.{Session}
use Rattle.history_book.specs.declared.item.StoreStep.TheVariants.{Fetch}
use Rattle.history_book.specs.declared.item.Item.{Item}
use Rattle.history_book.specs.declared.item.Item.TheVariants as item
use Rattle.cause_rules.specs.Asks.{its_node, its_start, its_term}
use Rattle.cause_rules.specs.OwnKeys.{last_begun, since_begin, FetchedSince, HasRead, WroteOrRead}
use Rattle.cause_rules.specs.Commits.{CommitDrawn, StampDrawn, ShownConflict, ShownHidden, ShownNotYet, ShownNoStamp, ShownReplaced}
use Rattle.cause_rules.specs.Posts.{TermTaken, CeilingGiven}
use Rattle.cause_rules.specs.Written.{written_keys}
use Rattle.refusal_reasons.specs.declared.clue.Clue.TheVariants as clue
use Rattle.refusal_reasons.specs.Clues.{fetches, draws_commit, draws_start, draws_stamp, takes_term, gives_ceiling_in, places}
use Rattle.refusal_reasons.specs.Decided.{WrittenBySetup, ForgottenBySetup}
use Rattle.refusal_reasons.specs.Showing.{conflict, conflict_by, conflict_with, hidden, not_yet, no_stamp, replaced, begin_from, fetch_place, own_place, is_rival, rival, three_places}
use Rattle.refusal_reasons.specs.Sought.{seek}
use Rattle.refusal_reasons.proofs.SeekLemmas.{found, last_is}
use Rattle.refusal_reasons.proofs.PartLemmas.{in_drop}
use Rattle.refusal_reasons.proofs.PlaceLemmas.{IsPlace, one_found, one_parts, two_found, two_parts, three_found, three_parts, place_or, same, both, seek_in, seek_all, sought_in, begin_part}
use Rattle.refusal_reasons.proofs.WrittenLemmas.{wrote_found, found_wrote}

-- ---- a draw of a commit in a term
record Drawing (u c : ℕ) (x : Item) : Type 0 where
  s : ℕ
  n : ℕ
  writer : ℕ
  is : x ≡ item.Draw s n u writer (Some c)

drawing : (u c : ℕ) (x : Item) → draws_commit u c x ≡ true → Drawing u c x
drawing u c (item.Draw s n term w (Some commit)) e =
    let parts = and_parts (term == u) (commit == c) e in
    record { s = s; n = n; writer = w; is = rw (eqb-true term u parts.0, eqb-true commit c parts.1) refl }
drawing u c _ e = absurd cc

commit_drawn : (h : List Item) (u w c : ℕ) → CommitDrawn h u w c → IsPlace (seek h 0 (clue.Commit u c))
commit_drawn h u w c (s, n, m) = seek_all h (clue.Commit u c) (item.Draw s n u w (Some c)) m (both u c)

drawn_commit : (h : List Item) (u c place : ℕ) → seek h 0 (clue.Commit u c) ≡ Some place → (w : ℕ) × CommitDrawn h u w c
drawn_commit h u c place is =
    let at = sought_in h 0 place (clue.Commit u c) is in
    let d = drawing u c at.0 at.1.1 in
    (d.writer, (d.s, d.n, subst (λ (x : Item). x ∈ h) d.is at.1.0))

-- ---- a conflict
record Rival (h : List Item) (u key by : ℕ) (x : Item) : Type 0 where
  of : Drawing u by x
  wrote : IsPlace (seek h 0 (clue.Wrote of.writer key))

some_place : (o : Option ℕ) → is_some o ≡ true → IsPlace o
some_place None e = absurd cc
some_place (Some a) e = (a, refl)

rival_form : (h : List Item) (u key by : ℕ) (x : Item) → is_rival h u key by x ≡ true → Rival h u key by x
rival_form h u key by (item.Draw s n term w (Some commit)) e =
    let parts = and_parts (draws_commit u by (item.Draw s n term w (Some commit))) (is_some (seek h 0 (clue.Wrote w key))) e in
    let numbers = and_parts (term == u) (commit == by) parts.0 in
    record {
      of = record { s = s; n = n; writer = w; is = rw (eqb-true term u numbers.0, eqb-true commit by numbers.1) refl };
      wrote = some_place (seek h 0 (clue.Wrote w key)) parts.1;
    }
rival_form h u key by _ e = absurd cc

is_there : (o : Option ℕ) (place : ℕ) → o ≡ Some place → is_some o ≡ true
is_there o place e = rw e refl

rival_whole : (h : List Item) (own : Option ℕ) (start u key by w : ℕ) → IsPlace own → CommitDrawn h u w by → Contains (written_keys h w) key → start < by → is_some (conflict_by h own start key by (rival h u key by)) ≡ true
rival_whole h own start u key by w there (s, n, m) wrote above =
    let at = in_drop (item.Draw s n u w (Some by)) h 0 m in
    let write = wrote_found h w key wrote in
    let is : is_rival h u key by (item.Draw s n u w (Some by)) ≡ true = and_from ((u == u) && (by == by)) (is_some (seek h 0 (clue.Wrote w key))) (both u by) (is_there (seek h 0 (clue.Wrote w key)) write.place write.is) in
    let f = found (is_rival h u key by) h 0 at.0 (item.Draw s n u w (Some by)) (omega arith) at.1.1 is in
    let form = rival_form h u key by f.last.item f.last.fits in
    let stands : slice_get h f.place ≡ Some (item.Draw form.of.s form.of.n u form.of.writer (Some by)) = f.last.stands ∙ ap Some form.of.is in
    rw (f.is, stands) (three_found (nat_lt start by) own (Some f.place) (seek h 0 (clue.Wrote form.of.writer key)) (le-leb _ _ above) there (f.place, refl) form.wrote)

-- ---- the own side
-- what the setup says of it, where the start is known
own_written : (setup : SetupNumbers) (h : List Item) (s key start : ℕ) → setup.strict ≡ false → WroteOrRead setup h s start key → Contains (written_keys h start) key
own_written setup h s key start plain (inl wrote) = wrote
own_written setup h s key start plain (inr read) = absurd (let clash : false ≡ true = sym plain ∙ read.0 in cc)

own_whole : (setup : SetupNumbers) (h : List Item) (s key start : ℕ) → its_start h s ≡ Some start → WroteOrRead setup h s start key → WrittenBySetup setup h s key
own_whole setup h s key start is own = λ plain. rw is (own_written setup h s key start plain own)

-- the fetch of a key that was read
fetch_found : (h : List Item) (s key start : ℕ) → HasRead h s start key → IsPlace (fetch_place h s start key (last_begun h s))
fetch_found h s key start has =
    let behind : item.Step (Session s) (Fetch key has.fetched.0) ∈ drop (begin_from h s) h = subst (λ (part : List Item). item.Step (Session s) (Fetch key has.fetched.0) ∈ part) (begin_part h s) has.fetched.1 in
    let at = seek_in h (begin_from h s) (clue.Fetched s key) (item.Step (Session s) (Fetch key has.fetched.0)) behind (both s key) in
    (at.0, rw (has.begun, same start) at.1)

own_found : (setup : SetupNumbers) (h : List Item) (s key start : ℕ) → WroteOrRead setup h s start key → IsPlace (own_place h s start key)
own_found setup h s key start (inl wrote) = let write = wrote_found h start key wrote in (write.place, rw write.is refl)
own_found setup h s key start (inr read) = place_or (seek h 0 (clue.Wrote start key)) (fetch_place h s start key (last_begun h s)) (fetch_found h s key start read.1)

fetch_form : (h : List Item) (s key : ℕ) (x : Item) → x ∈ since_begin h s → fetches s key x ≡ true → FetchedSince h s key
fetch_form h s key (item.Step (Session session) (Fetch k cells)) m e =
    let parts = and_parts (session == s) (k == key) e in
    (cells, subst (λ (v : ℕ). item.Step (Session v) (Fetch key cells) ∈ since_begin h s) (eqb-true session s parts.0) (subst (λ (v : ℕ). item.Step (Session session) (Fetch v cells) ∈ since_begin h s) (eqb-true k key parts.1) m))
fetch_form h s key _ m e = absurd cc

fetch_sound : (h : List Item) (s key start : ℕ) (begun : Option ℕ) → last_begun h s ≡ begun → IsPlace (fetch_place h s start key begun) → HasRead h s start key
fetch_sound h s key start None is at = absurd (let none = at.1 in cc)
fetch_sound h s key start (Some t) is at = fetch_by (t == start) refl at where
  fetch_by : (b : Bool) → (t == start) ≡ b → IsPlace (if b then seek h (begin_from h s) (clue.Fetched s key) else None) → HasRead h s start key
  fetch_by false other there = absurd (let none = there.1 in cc)
  fetch_by true own there =
      let found = sought_in h (begin_from h s) there.0 (clue.Fetched s key) there.1 in
      record { begun = is ∙ ap Some (eqb-true t start own); fetched = fetch_form h s key found.0 (subst (λ (part : List Item). found.0 ∈ part) (sym (begin_part h s)) found.1.0) found.1.1 }

own_by : (setup : SetupNumbers) (h : List Item) (s key start : ℕ) (write : Option ℕ) → seek h 0 (clue.Wrote start key) ≡ write → setup.strict ≡ true → IsPlace (option_or write (fetch_place h s start key (last_begun h s))) → WroteOrRead setup h s start key
own_by setup h s key start (Some place) is strict at = inl (found_wrote h start key place is)
own_by setup h s key start None is strict at = inr (strict, fetch_sound h s key start (last_begun h s) refl at)

own_sound : (setup : SetupNumbers) (h : List Item) (s key start : ℕ) → its_start h s ≡ Some start → WrittenBySetup setup h s key → IsPlace (own_place h s start key) → WroteOrRead setup h s start key
own_sound setup h s key start is own at = elim (cases_Bool setup.strict) [
  | inl strict ↦ own_by setup h s key start (seek h 0 (clue.Wrote start key)) refl strict at
  | inr plain ↦ inl (subst (λ (o : Option ℕ). IfSome o (λ t. Contains (written_keys h t) key)) is (own plain))
]

pub conflict_whole : (setup : SetupNumbers) (h : List Item) (s key by : ℕ) → ShownConflict setup h s key by → (is_some (conflict h s key by (its_node h s) (its_start h s) (its_term h s)) ≡ true) × WrittenBySetup setup h s key
conflict_whole setup h s key by shown = (
  rw (shown.node_is, shown.start_is, shown.term_is) (rival_whole h (own_place h s shown.start key) shown.start shown.term key by shown.writer (own_found setup h s key shown.start shown.own) shown.drawn shown.wrote shown.above),
  own_whole setup h s key shown.start shown.start_is shown.own,
)

rival_sound : (setup : SetupNumbers) (h : List Item) (s key by n t u : ℕ) → its_node h s ≡ Some n → its_start h s ≡ Some t → its_term h s ≡ Some u → WrittenBySetup setup h s key
    → (place : Option ℕ) → rival h u key by ≡ place → is_some (conflict_by h (own_place h s t key) t key by place) ≡ true → ShownConflict setup h s key by
rival_sound setup h s key by n t u ns ss ts own None is e = absurd cc
rival_sound setup h s key by n t u ns ss ts own (Some place) is e =
    let last = last_is (is_rival h u key by) h 0 place is in
    let form = rival_form h u key by last.item last.fits in
    let stands : slice_get h place ≡ Some (item.Draw form.of.s form.of.n u form.of.writer (Some by)) = last.stands ∙ ap Some form.of.is in
    let all : is_some (three_places (nat_lt t by) (own_place h s t key) (Some place) (seek h 0 (clue.Wrote form.of.writer key))) ≡ true = subst (λ (o : Option Item). is_some (conflict_with h (own_place h s t key) t key by place o) ≡ true) stands e in
    let parts = three_parts (nat_lt t by) (own_place h s t key) (Some place) (seek h 0 (clue.Wrote form.of.writer key)) all in
    let at = in_at h place last.item last.stands in
    record {
      node = n;
      node_is = ns;
      start = t;
      start_is = ss;
      term = u;
      term_is = ts;
      own = own_sound setup h s key t ss own parts.1.0;
      above = leb-true _ _ parts.0;
      writer = form.of.writer;
      drawn = (form.of.s, form.of.n, subst (λ (x : Item). x ∈ h) form.of.is at);
      wrote = found_wrote h form.of.writer key parts.1.1.1.0 parts.1.1.1.1;
    }

pub conflict_sound : (setup : SetupNumbers) (h : List Item) (s key by : ℕ) (node start term : Option ℕ) → its_node h s ≡ node → its_start h s ≡ start → its_term h s ≡ term
    → is_some (conflict h s key by node start term) ≡ true → WrittenBySetup setup h s key → ShownConflict setup h s key by
conflict_sound setup h s key by None start term ns ss ts e own = absurd cc
conflict_sound setup h s key by (Some n) None term ns ss ts e own = absurd cc
conflict_sound setup h s key by (Some n) (Some t) None ns ss ts e own = absurd cc
conflict_sound setup h s key by (Some n) (Some t) (Some u) ns ss ts e own = rival_sound setup h s key by n t u ns ss ts own (rival h u key by) refl e

-- ---- a key that is hidden, as far as the history tells
pub hidden_whole : (setup : SetupNumbers) (h : List Item) (s key water : ℕ) → ShownHidden setup h s key water
    → (is_some (hidden h s key water (its_node h s) (its_start h s) (its_term h s)) ≡ true) × (WrittenBySetup setup h s key × ForgottenBySetup setup h s key water)
hidden_whole setup h s key water shown =
    let drawn = commit_drawn h shown.term shown.writer water shown.drawn in (
      rw (shown.node_is, shown.start_is, shown.term_is) (two_found (nat_lt shown.start water) (own_place h s shown.start key) (seek h 0 (clue.Commit shown.term water)) (le-leb _ _ shown.above) (own_found setup h s key shown.start shown.own) drawn),
      (
        own_whole setup h s key shown.start shown.start_is shown.own,
        record { term = shown.term; term_is = shown.term_is; forgotten = shown.forgotten; forgot = shown.forgot; writer = shown.writer; drawn = shown.drawn; other = shown.other; wrote = shown.wrote; same_bucket = shown.same_bucket },
      ),
    )

pub hidden_sound : (setup : SetupNumbers) (h : List Item) (s key water : ℕ) (node start term : Option ℕ) → its_node h s ≡ node → its_start h s ≡ start → its_term h s ≡ term
    → is_some (hidden h s key water node start term) ≡ true → WrittenBySetup setup h s key × ForgottenBySetup setup h s key water → ShownHidden setup h s key water
hidden_sound setup h s key water None start term ns ss ts e by = absurd cc
hidden_sound setup h s key water (Some n) None term ns ss ts e by = absurd cc
hidden_sound setup h s key water (Some n) (Some t) None ns ss ts e by = absurd cc
hidden_sound setup h s key water (Some n) (Some t) (Some u) ns ss ts e by =
    let parts = two_parts (nat_lt t water) (own_place h s t key) (seek h 0 (clue.Commit u water)) e in
    record {
      node = n;
      node_is = ns;
      start = t;
      start_is = ss;
      own = own_sound setup h s key t ss by.0 parts.1.0;
      term = by.1.term;
      term_is = by.1.term_is;
      forgotten = by.1.forgotten;
      forgot = by.1.forgot;
      above = leb-true _ _ parts.0;
      writer = by.1.writer;
      drawn = by.1.drawn;
      other = by.1.other;
      wrote = by.1.wrote;
      same_bucket = by.1.same_bucket;
    }

-- ---- a commit that is not placed yet
placing : (h : List Item) (c : ℕ) (x : Item) → x ∈ h → places c x ≡ true → ((t : ℕ) → Committed h t c → ⊥) → ⊥
placing h c (item.Placed start commit) m e none = none start (subst (λ (d : ℕ). item.Placed start d ∈ h) (eqb-true commit c e) m)
placing h c _ m e none = absurd cc

unplaced : (h : List Item) (c : ℕ) (place : Option ℕ) → seek h 0 (clue.Placed c) ≡ place → ((t : ℕ) → Committed h t c → ⊥) → is_none place ≡ true
unplaced h c None is none = refl
unplaced h c (Some place) is none = absurd (let at = sought_in h 0 place (clue.Placed c) is in placing h c at.0 at.1.0 at.1.1 none)

none_placed : (h : List Item) (c : ℕ) (place : Option ℕ) → seek h 0 (clue.Placed c) ≡ place → is_none place ≡ true → (t : ℕ) → Committed h t c → ⊥
none_placed h c (Some place) is e t m = absurd cc
none_placed h c None is e t m = let at = seek_all h (clue.Placed c) (item.Placed t c) m (same c) in let no = sym is ∙ at.1 in absurd cc

pub not_yet_whole : (setup : SetupNumbers) (h : List Item) (s c : ℕ) → ShownNotYet setup h s c → is_some (not_yet h c (its_node h s) (its_start h s) (its_term h s)) ≡ true
not_yet_whole setup h s c shown =
    let none = unplaced h c (seek h 0 (clue.Placed c)) refl shown.unplaced in
    rw (shown.node_is, shown.start_is, shown.term_is) (one_found (nat_lt c shown.start && is_none (seek h 0 (clue.Placed c))) (seek h 0 (clue.Commit shown.term c)) (and_from _ _ (le-leb _ _ shown.below) none) (commit_drawn h shown.term shown.writer c shown.drawn))

pub not_yet_sound : (setup : SetupNumbers) (h : List Item) (s c : ℕ) (node start term : Option ℕ) → its_node h s ≡ node → its_start h s ≡ start → its_term h s ≡ term → is_some (not_yet h c node start term) ≡ true → setup.direct ≡ false → ShownNotYet setup h s c
not_yet_sound setup h s c None start term ns ss ts e waits = absurd cc
not_yet_sound setup h s c (Some n) None term ns ss ts e waits = absurd cc
not_yet_sound setup h s c (Some n) (Some t) None ns ss ts e waits = absurd cc
not_yet_sound setup h s c (Some n) (Some t) (Some u) ns ss ts e waits =
    let parts = one_parts (nat_lt c t && is_none (seek h 0 (clue.Placed c))) (seek h 0 (clue.Commit u c)) e in
    let numbers = and_parts (nat_lt c t) (is_none (seek h 0 (clue.Placed c))) parts.0 in
    let drawn = drawn_commit h u c parts.1.0 parts.1.1 in
    record { waits = waits; node = n; node_is = ns; start = t; start_is = ss; term = u; term_is = ts; writer = drawn.0; drawn = drawn.1; below = leb-true _ _ numbers.0; unplaced = none_placed h c (seek h 0 (clue.Placed c)) refl numbers.1 }

-- ---- a term that was taken, a ceiling and a stamp of a term
pub term_place : (h : List Item) (u : ℕ) → TermTaken h u → IsPlace (seek h 0 (clue.TermTaken u))
term_place h u (n, reading, epoch, until, ceiling, m) = seek_all h (clue.TermTaken u) (item.Take n reading u epoch until ceiling) m (same u)

term_form : (h : List Item) (u : ℕ) (x : Item) → x ∈ h → takes_term u x ≡ true → TermTaken h u
term_form h u (item.Take n reading term epoch until ceiling) m e = (n, reading, epoch, until, ceiling, subst (λ (v : ℕ). item.Take n reading v epoch until ceiling ∈ h) (eqb-true term u e) m)
term_form h u _ m e = absurd cc

pub place_term : (h : List Item) (u place : ℕ) → seek h 0 (clue.TermTaken u) ≡ Some place → TermTaken h u
place_term h u place is = let at = sought_in h 0 place (clue.TermTaken u) is in term_form h u at.0 at.1.0 at.1.1

pub replaced_whole : (h : List Item) (s found : ℕ) → ShownReplaced h s found → is_some (replaced h found (its_node h s) (its_term h s)) ≡ true
replaced_whole h s found shown = rw (shown.node_is, shown.term_is) (one_found (nat_lt shown.term found) (seek h 0 (clue.TermTaken found)) (le-leb _ _ shown.later) (term_place h found shown.taken))

pub replaced_sound : (h : List Item) (s found : ℕ) (node term : Option ℕ) → its_node h s ≡ node → its_term h s ≡ term → is_some (replaced h found node term) ≡ true → ShownReplaced h s found
replaced_sound h s found None term ns ts e = absurd cc
replaced_sound h s found (Some n) None ns ts e = absurd cc
replaced_sound h s found (Some n) (Some u) ns ts e =
    let parts = one_parts (nat_lt u found) (seek h 0 (clue.TermTaken found)) e in
    record { node = n; node_is = ns; term = u; term_is = ts; later = leb-true _ _ parts.0; taken = place_term h found parts.1.0 parts.1.1 }

ceiling_place : (h : List Item) (u end : ℕ) → CeilingGiven h u end → IsPlace (seek h 0 (clue.CeilingIn u end))
ceiling_place h u end (inl (n, reading, epoch, until, m)) = seek_all h (clue.CeilingIn u end) (item.Take n reading u epoch until end) m (both u end)
ceiling_place h u end (inr (n, m)) = seek_all h (clue.CeilingIn u end) (item.Extend n u end) m (both u end)

ceiling_form : (h : List Item) (u end : ℕ) (x : Item) → x ∈ h → gives_ceiling_in u end x ≡ true → CeilingGiven h u end
ceiling_form h u end (item.Take n reading term epoch until ceiling) m e =
    let parts = and_parts (term == u) (ceiling == end) e in
    inl (n, reading, epoch, until, subst (λ (v : ℕ). item.Take n reading v epoch until end ∈ h) (eqb-true term u parts.0) (subst (λ (v : ℕ). item.Take n reading term epoch until v ∈ h) (eqb-true ceiling end parts.1) m))
ceiling_form h u end (item.Extend n term ceiling) m e =
    let parts = and_parts (term == u) (ceiling == end) e in
    inr (n, subst (λ (v : ℕ). item.Extend n v end ∈ h) (eqb-true term u parts.0) (subst (λ (v : ℕ). item.Extend n term v ∈ h) (eqb-true ceiling end parts.1) m))
ceiling_form h u end _ m e = absurd cc

stamp_place : (h : List Item) (u stamp : ℕ) → StampDrawn h u stamp → IsPlace (seek h 0 (clue.StampIn u stamp))
stamp_place h u stamp (inl (s, n, m)) = seek_all h (clue.StampIn u stamp) (item.Draw s n u stamp None) m (or_left _ _ (both u stamp))
stamp_place h u stamp (inr (writer, (s, n, m))) = seek_all h (clue.StampIn u stamp) (item.Draw s n u writer (Some stamp)) m (both u stamp)

start_form : (h : List Item) (u stamp : ℕ) (x : Item) → x ∈ h → draws_start u stamp x ≡ true → StampDrawn h u stamp
start_form h u stamp (item.Draw s n term start None) m e =
    let parts = and_parts (term == u) (start == stamp) e in
    inl (s, n, subst (λ (v : ℕ). item.Draw s n v stamp None ∈ h) (eqb-true term u parts.0) (subst (λ (v : ℕ). item.Draw s n term v None ∈ h) (eqb-true start stamp parts.1) m))
start_form h u stamp _ m e = absurd cc

stamp_form : (h : List Item) (u stamp : ℕ) (x : Item) → x ∈ h → draws_stamp u stamp x ≡ true → StampDrawn h u stamp
stamp_form h u stamp x m e = elim (or_cases (draws_start u stamp x) (draws_commit u stamp x) e) [
  | inl start ↦ start_form h u stamp x m start
  | inr commit ↦ let d = drawing u stamp x commit in inr (d.writer, (d.s, d.n, subst (λ (y : Item). y ∈ h) d.is m))
]

pub no_stamp_whole : (h : List Item) (s last : ℕ) → ShownNoStamp h s last → is_some (no_stamp h last (its_node h s) (its_term h s)) ≡ true
no_stamp_whole h s last shown = rw (shown.node_is, shown.term_is) (two_found true (seek h 0 (clue.CeilingIn shown.term last)) (seek h 0 (clue.StampIn shown.term last)) refl (ceiling_place h shown.term last shown.end) (stamp_place h shown.term last shown.drawn))

pub no_stamp_sound : (h : List Item) (s last : ℕ) (node term : Option ℕ) → its_node h s ≡ node → its_term h s ≡ term → is_some (no_stamp h last node term) ≡ true → ShownNoStamp h s last
no_stamp_sound h s last None term ns ts e = absurd cc
no_stamp_sound h s last (Some n) None ns ts e = absurd cc
no_stamp_sound h s last (Some n) (Some u) ns ts e =
    let parts = two_parts true (seek h 0 (clue.CeilingIn u last)) (seek h 0 (clue.StampIn u last)) e in
    let given = sought_in h 0 parts.1.0.0 (clue.CeilingIn u last) parts.1.0.1 in
    let drawn = sought_in h 0 parts.1.1.0 (clue.StampIn u last) parts.1.1.1 in
    record { node = n; node_is = ns; term = u; term_is = ts; end = ceiling_form h u last given.0 given.1.0 given.1.1; drawn = stamp_form h u last drawn.0 drawn.1.0 drawn.1.1 }
