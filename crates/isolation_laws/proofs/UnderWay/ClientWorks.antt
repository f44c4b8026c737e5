-- What a client has under way after its transaction or its request has ended, or a read has gone on.
use Rattle.isolation_laws.proofs.Names.{◌≡◌, ℕ, Bool, true, false, ◌||◌, is_some, ◌==◌, List, [], ◌∷◌, Option, Some}
use Rattle.isolation_laws.proofs.Names.{None, inl, inr, refl, sym, ◌∙◌, ap, subst, cases_Bool, same_Some, none-some}
use Rattle.isolation_laws.proofs.Names.{◌∈◌, Committed, Item, Cell, Row, Ask, SessionState, SessionEntry, aborted_by}
use Rattle.isolation_laws.proofs.Names.{asked_state, finish_asks, undo_asks, Settling, Reading, ReadTurn, Asks, Answers}
use Rattle.isolation_laws.proofs.Names.{after_passed, turn_at, read_over, Nothing, Reads, Settles, Completes, Client}
use Rattle.isolation_laws.proofs.Names.{emptied, undo_of, finish_of, client_begun, client_asked, client_freed}
use Rattle.isolation_laws.proofs.Names.{client_aborted, client_handed, client_committed, client_opened, client_vanished}
use Rattle.isolation_laws.proofs.Names.{unless_gone, unless_gone_by, client_read, written_keys}
use Rattle.system_parts.specs.declared.session.State.TheVariants as phase
use Rattle.isolation_laws.proofs.Requests.WrittenKeys.{wrote_in_keys}
use Rattle.isolation_laws.proofs.UnderWay.Works.{KnowsCommit, Works, works_idle, no_settling}

-- ---- nothing under way
pub works_freed : (rows : List Row) (h : List Item) (c : Client) → Works rows h (client_freed c)
works_freed rows h c = works_idle rows h (client_freed c) (record { no_work = refl; no_heal = refl; not_completing = λ undo is. cc; handed = λ is. absurd (cc) })

pub works_opened : (rows : List Row) (h : List Item) (c : Client) → Works rows h (client_opened c)
works_opened rows h c = works_idle rows h (client_opened c) (record { no_work = refl; no_heal = refl; not_completing = λ undo is. cc; handed = λ is. absurd (cc) })

pub works_vanished : (rows : List Row) (h : List Item) (c : Client) → Works rows h (client_vanished c)
works_vanished rows h c = works_idle rows h (client_vanished c) (record { no_work = refl; no_heal = refl; not_completing = λ undo is. cc; handed = λ is. absurd (cc) })

pub works_begun : (rows : List Row) (h : List Item) (c : Client) (start epoch : ℕ) → Works rows h (client_begun c start epoch)
works_begun rows h c start epoch = works_idle rows h (client_begun c start epoch) (record { no_work = refl; no_heal = refl; not_completing = λ undo is. cc; handed = λ is. absurd (cc) })

asked_completing : (state : SessionState) (undo : Bool) → asked_state state ≡ phase.Completing undo → ⊥
asked_completing phase.Free undo is = cc
asked_completing phase.Asking undo is = cc
asked_completing phase.Open undo is = cc
asked_completing phase.Committing undo is = cc
asked_completing phase.Placing undo is = cc
asked_completing phase.OpenOutcome undo is = cc
asked_completing (phase.Completing other) undo is = cc
asked_completing phase.Gone undo is = cc

asked_placing : (state : SessionState) → asked_state state ≡ phase.Placing → ⊥
asked_placing phase.Free is = cc
asked_placing phase.Asking is = cc
asked_placing phase.Open is = cc
asked_placing phase.Committing is = cc
asked_placing phase.Placing is = cc
asked_placing phase.OpenOutcome is = cc
asked_placing (phase.Completing other) is = cc
asked_placing phase.Gone is = cc

pub works_asked : (rows : List Row) (h : List Item) (c : Client) → Works rows h (client_asked c)
works_asked rows h c = works_idle rows h (client_asked c) (record { no_work = refl; no_heal = refl; not_completing = λ undo is. asked_completing c.entry.state undo is; handed = λ is. absurd (asked_placing c.entry.state is) })

-- ---- the commit is to be placed
pub works_handed : (rows : List Row) (h : List Item) (c : Client) (commit : ℕ) → Works rows h (client_handed c commit)
works_handed rows h c commit = works_idle rows h (client_handed c commit) (record { no_work = refl; no_heal = refl; not_completing = λ undo is. cc; handed = λ is. (commit, refl) })

-- ---- a transaction that ends without a commit
pub asks_same : (a b : List Ask) → Completes a ≡ Completes b → a ≡ b
asks_same a b same = cc

aborted_works : (rows : List Row) (h : List Item) (c : Client) (e : SessionEntry) (t : ℕ) (keys : List ℕ) → e.start ≡ Some t → ((d : ℕ) → Committed h t d → ⊥) → Works rows h (record (emptied c) { entry = aborted_by e keys; under_way = undo_of (Some t) keys })
aborted_works rows h c e t [] start unplaced = works_idle rows h _ (record { no_work = refl; no_heal = refl; not_completing = λ undo is. cc; handed = λ is. absurd (cc) })
aborted_works rows h c e t (key ∷ keys) start unplaced = record {
  finish = λ asks is busy. absurd (cc);
  finish_busy = λ is. absurd (cc);
  undo = λ u asks is other busy. record {
    left = key ∷ keys;
    shape = sym (asks_same (undo_asks t (key ∷ keys)) asks busy) ∙ ap (λ q. undo_asks q (key ∷ keys)) (same_Some t u (sym start ∙ other));
    some = λ none. cc;
  };
  undo_busy = λ is. (undo_asks t (key ∷ keys), refl);
  unplaced = λ u d is other placed. unplaced d (subst (λ q. Committed h q d) (same_Some u t (sym other ∙ start)) placed);
  resolve = λ is. absurd (cc);
  only = λ x busy. absurd (cc);
  handed = λ is. absurd (cc);
  heal = λ k u d offer. absurd (none-some (k, u, d) offer);
}

pub works_aborted : (rows : List Row) (h : List Item) (c : Client) (t : ℕ) → c.entry.start ≡ Some t → ((d : ℕ) → Committed h t d → ⊥) → Works rows h (client_aborted c)
works_aborted rows h c t start unplaced = subst (λ (o : Option ℕ). Works rows h (record (emptied c) { entry = aborted_by c.entry c.entry.keys; under_way = undo_of o c.entry.keys })) (sym start) (aborted_works rows h c c.entry t c.entry.keys start unplaced)

-- ---- one that has its commit
committed_works : (rows : List Row) (h : List Item) (c : Client) (e : SessionEntry) (t commit : ℕ) → e.start ≡ Some t → e.keys ≡ written_keys h t → Committed h t commit → Works rows h (record (emptied c) { entry = record e { state = phase.Completing false; commit = Some commit }; under_way = finish_of (Some t) commit e.keys })
committed_works rows h c e t commit start keys placed = record {
  finish = λ asks is busy. (
    t,
    commit,
    start,
    refl,
    record {
      left = e.keys;
      shape = sym (asks_same (finish_asks t commit e.keys) asks busy);
      placed = placed;
      covered = λ k value wrote. inl (subst (λ (ks : List ℕ). k ∈ ks) (sym keys) (wrote_in_keys h t k value wrote));
    },
  );
  finish_busy = λ is. (finish_asks t commit e.keys, refl);
  undo = λ u asks is other busy. absurd (cc);
  undo_busy = λ is. absurd (cc);
  unplaced = λ u d is other done. cc;
  resolve = λ is. absurd (cc);
  only = λ x busy. absurd (cc);
  handed = λ is. absurd (cc);
  heal = λ k u d offer. absurd (none-some (k, u, d) offer);
}

pub works_committed : (rows : List Row) (h : List Item) (c : Client) (t commit : ℕ) → c.entry.start ≡ Some t → c.entry.keys ≡ written_keys h t → Committed h t commit → Works rows h (client_committed c commit)
works_committed rows h c t commit start keys placed = subst (λ (o : Option ℕ). Works rows h (record (emptied c) { entry = record c.entry { state = phase.Completing false; commit = Some commit }; under_way = finish_of o commit c.entry.keys })) (sym start) (committed_works rows h c c.entry t commit start keys placed)

-- ---- nobody hears an answer to a session that has vanished
unless_works : (rows : List Row) (h : List Item) (old new : Client) (state : SessionState) → Works rows h old → ((state ≡ phase.Gone → ⊥) → Works rows h new) → Works rows h (unless_gone_by state old new)
unless_works rows h old new phase.Gone was works = was
unless_works rows h old new _ was works = works (λ is. cc)

pub works_unless : (rows : List Row) (h : List Item) (old new : Client) → Works rows h old → ((old.entry.state ≡ phase.Gone → ⊥) → Works rows h new) → Works rows h (unless_gone old new)
works_unless rows h old new was works = unless_works rows h old new old.entry.state was works

-- ---- neither a completion nor a resolve of an own commit
pub record IsPlain (c : Client) : Type 0 where
  pub not_completing : (undo : Bool) → c.entry.state ≡ phase.Completing undo → ⊥
  pub not_outcome : c.entry.state ≡ phase.OpenOutcome → ⊥
  pub handed : KnowsCommit c

pub plain_open : (c : Client) → c.entry.state ≡ phase.Open → IsPlain c
plain_open c is = record { not_completing = λ undo other. cc; not_outcome = λ other. cc; handed = λ other. absurd (cc) }

pub works_plain : (rows : List Row) (h : List Item) (c : Client) → IsPlain c → ((x : Settling) → c.under_way ≡ Settles x → ⊥) → ((k t d : ℕ) → c.heal ≡ Some (k, t, d) → Committed h t d) → Works rows h c
works_plain rows h c plain other heals = record {
  finish = λ asks is busy. absurd (plain.not_completing false is);
  finish_busy = λ is. absurd (plain.not_completing false is);
  undo = λ t asks is start busy. absurd (plain.not_completing true is);
  undo_busy = λ is. absurd (plain.not_completing true is);
  unplaced = λ t d is start placed. plain.not_completing true is;
  resolve = λ is. absurd (plain.not_outcome is);
  only = λ x busy. absurd (other x busy);
  handed = plain.handed;
  heal = heals;
}

-- one that reads
pub plain_reading : (rows : List Row) (h : List Item) (c : Client) (r : Reading) → Works rows h c → c.under_way ≡ Reads r → IsPlain c
plain_reading rows h c r work reads = record { not_completing = λ undo is. by undo is; not_outcome = λ is. outcome is; handed = work.handed }
  where
    by : (undo : Bool) → c.entry.state ≡ phase.Completing undo → ⊥
    by true is = let busy = work.undo_busy is in let both : Reads r ≡ Completes busy.0 = sym reads ∙ busy.1 in cc
    by false is = let busy = work.finish_busy is in let both : Reads r ≡ Completes busy.0 = sym reads ∙ busy.1 in cc

    outcome : c.entry.state ≡ phase.OpenOutcome → ⊥
    outcome is = elim (work.resolve is) [
      | inl none ↦ let both : Reads r ≡ Nothing = sym reads ∙ none in cc
      | inr r2 ↦ let both : Reads r ≡ Settles r2.0 = sym reads ∙ r2.2 in cc
    ]

-- ---- reads: what an answer offers is a placed commit
abbrev pub TurnHeals : List Item → ReadTurn → Type 0
TurnHeals h (Asks r) = Unit {0}
TurnHeals h (Answers a) = (k t d : ℕ) → a.heal ≡ Some (k, t, d) → Committed h t d

turn_at_heals : (h : List Item) (every : Bool) (key start epoch : ℕ) (cells : List Cell) → TurnHeals h (turn_at every key start epoch cells)
turn_at_heals h every key start epoch [] = λ k t d offer. absurd (none-some (k, t, d) offer)
turn_at_heals h every key start epoch (c ∷ cs) = elim (cases_Bool ((c.version == start) || is_some c.shadow)) [
  | inl answers ↦ rw answers (λ k t d offer. absurd (none-some (k, t, d) offer))
  | inr asks ↦ rw asks tt
]

pub read_over_heals : (h : List Item) (every : Bool) (key start epoch : ℕ) (cells : List Cell) → TurnHeals h (read_over every key start epoch cells)
read_over_heals h every key start epoch cells = turn_at_heals h every key start epoch (after_passed start cells)

reads_is_settles : (r : Reading) (x : Settling) → Reads r ≡ Settles x → ⊥
reads_is_settles r x same = cc

pub works_read : (rows : List Row) (h : List Item) (c : Client) (turn : ReadTurn) → IsPlain c → TurnHeals h turn → Works rows h (client_read c turn)
works_read rows h c (Asks r) plain heals = works_plain rows h (record c { under_way = Reads r; heal = None }) (record { not_completing = plain.not_completing; not_outcome = plain.not_outcome; handed = plain.handed }) (reads_is_settles r) (λ k t d offer. absurd (none-some (k, t, d) offer))
works_read rows h c (Answers a) plain heals = works_plain rows h (record c { under_way = Nothing; heal = a.heal }) (record { not_completing = plain.not_completing; not_outcome = plain.not_outcome; handed = plain.handed }) no_settling heals
