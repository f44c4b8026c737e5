-- The conflict memory stays where no commit is drawn: instances keep their buckets, and items record nothing.
use Rattle.isolation_laws.proofs.Names.{◌≡◌, ℕ, ◌==◌, List, [], ◌∷◌, ◌++◌, append_assoc, Option, Some, None, inl, inr}
use Rattle.isolation_laws.proofs.Names.{refl, sym, ◌∙◌, ap, subst, slice_set, option_or, cases_Bool, eqb-true}
use Rattle.isolation_laws.proofs.Names.{append-nil, All-nil, Wrote, last_write, written_by, Found, Item, Draw, Write}
use Rattle.isolation_laws.proofs.Names.{Read, last_write-push, in_old, SetupNumbers, ReadTurn, Asks, Answers, contents}
use Rattle.isolation_laws.proofs.Names.{InstanceEntry, InstanceAt, DrewCommit, HasDrawn, keys_with, written_keys}
use Rattle.isolation_laws.proofs.Names.{recorded_by, recorded, read_items, found_of, Quiet, AllQuiet, ReadFirst}
use Rattle.isolation_laws.proofs.Names.{AreRecorded, DrawnSerial, MemoryFacts, instance_changed, instance_ended}
use Rattle.isolation_laws.proofs.Names.{one_quiet, AlikeNodes}
use Rattle.isolation_laws.proofs.Numbers.NumbersOfItems.{NoDraw, write_is_no_draw, read_is_no_draw}
use Rattle.isolation_laws.proofs.Reading.ReadsStay.{quiet_no_reads}
use Rattle.isolation_laws.proofs.Reading.FirstReads.{first_push, first_no_reads}
use Rattle.isolation_laws.proofs.Pushed.{old_draw, drawn_on, last_write-quiet, written_keys-push, recorded-quiet, recorded-push}

-- ---- instances with the same memory
pub record IsRememberedAs (i j : InstanceEntry) : Type 0 where
  pub term : j.term ≡ i.term
  pub buckets : j.buckets ≡ i.buckets
  pub direct : j.direct ≡ i.direct

pub record SameMemory (old new : List (Option InstanceEntry)) : Type 0 where
  pub each : (n : ℕ) (j : InstanceEntry) → InstanceAt new n j → (i : InstanceEntry) × InstanceAt old n i × IsRememberedAs i j

pub remembered_same : (nodes : List (Option InstanceEntry)) → SameMemory nodes nodes
remembered_same nodes = record { each = λ n j at. (j, at, record { term = refl; buckets = refl; direct = refl }) }

pub remembered_set : (nodes : List (Option InstanceEntry)) (n : ℕ) (i j : InstanceEntry) → InstanceAt nodes n i → IsRememberedAs i j → SameMemory nodes (slice_set nodes n (Some j))
remembered_set nodes n i j at same = record {
  each = λ m x there. elim (instance_changed nodes n m j x there) [
    | inl here ↦ (i, subst (λ q. InstanceAt nodes q i) (sym here.0) at, subst (λ (y : InstanceEntry). IsRememberedAs i y) (sym here.1) same)
    | inr other ↦ (x, other.1, record { term = refl; buckets = refl; direct = refl })
  ];
}

pub remembered_ended : (nodes : List (Option InstanceEntry)) (n : ℕ) → SameMemory nodes (slice_set nodes n None)
remembered_ended nodes n = record {
  each = λ m x there. (x, (instance_ended nodes n m x there).1, record { term = refl; buckets = refl; direct = refl });
}

pub remembered_alike : (old new : List (Option InstanceEntry)) → AlikeNodes old new → SameMemory old new
remembered_alike old new alike = record {
  each = λ n j at. let was = alike.each n j at in (was.0, was.1, record { term = was.2.term; buckets = was.2.buckets; direct = was.2.direct });
}

-- ---- a history g after h in which nothing more is recorded
pub record RecordsNothing (h g : List Item) : Type 0 where
  pub same : (term : ℕ) → recorded g term ≡ recorded h term
  pub drew : (s n term t c : ℕ) → DrewCommit g s n term t c → DrewCommit h s n term t c
  pub goes : (t : ℕ) → HasDrawn h t → HasDrawn g t
  pub wrote : (t k : ℕ) (value : List ℕ) → HasDrawn h t → Wrote g t k value → Wrote h t k value
  pub read : (t k : ℕ) → HasDrawn h t → ReadFirst g t k → ReadFirst h t k

pub nothing_twice : (h g f : List Item) → RecordsNothing h g → RecordsNothing g f → RecordsNothing h f
nothing_twice h g f first second = record {
  same = λ term. second.same term ∙ first.same term;
  drew = λ s n term t c drew. first.drew s n term t c (second.drew s n term t c drew);
  goes = λ t drew. second.goes t (first.goes t drew);
  wrote = λ t k value drew wrote. first.wrote t k value drew (second.wrote t k value (first.goes t drew) wrote);
  read = λ t k drew read. first.read t k drew (second.read t k (first.goes t drew) read);
}

pub nothing_quiet : (h items : List Item) → AllQuiet items → RecordsNothing h (h ++ items)
nothing_quiet h items quiet = record {
  same = λ term. recorded-quiet h items term quiet;
  drew = λ s n term t c drew. old_draw h items s n term t (Some c) quiet drew;
  goes = λ t drew. drawn_on h items t drew;
  wrote = λ t k value drew wrote. sym (last_write-quiet h items t k quiet) ∙ wrote;
  read = λ t k drew read. first_no_reads h items t k (quiet_no_reads items quiet) read;
}

-- the item writes for no transaction that has drawn
abbrev pub WritesUndrawn : List Item → Item → Type 0
WritesUndrawn h x = (s t k : ℕ) (value : List ℕ) → x ≡ Write s t k value → HasDrawn h t → ⊥

-- the item answers a read of no transaction that has drawn
abbrev pub ReadsUndrawn : List Item → Item → Type 0
ReadsUndrawn h x = (s t k : ℕ) (answer : Option Found) → x ≡ Read s t k answer → HasDrawn h t → ⊥

keys_unwritten : (keys : List ℕ) (t : ℕ) (x : Item) → ((s k : ℕ) (value : List ℕ) → x ≡ Write s t k value → ⊥) → keys_with keys t x ≡ keys
keys_unwritten keys t (Write s u k value) other = elim (cases_Bool (u == t)) [
  | inl own ↦ absurd (other s k value (ap (λ q. Write s q k value) (eqb-true u t own)))
  | inr different ↦ rw different refl
]
keys_unwritten keys t _ other = refl

pub unwritten : (t k : ℕ) (x : Item) → ((s key : ℕ) (value : List ℕ) → x ≡ Write s t key value → ⊥) → written_by t k x ≡ None
unwritten t k (Write s u key value) other = elim (cases_Bool (u == t)) [
  | inl own ↦ absurd (other s key value (ap (λ q. Write s q key value) (eqb-true u t own)))
  | inr different ↦ rw different refl
]
unwritten t k _ other = refl

nothing_by : (h : List Item) (term : ℕ) (x : Item) → NoDraw x → recorded_by h term x ≡ []
nothing_by h term (Draw s n drawn t commit) other = absurd (other s n drawn t commit refl)
nothing_by h term _ other = refl

pub nothing_push : (h : List Item) (x : Item) → NoDraw x → WritesUndrawn h x → ReadsUndrawn h x → RecordsNothing h (h ++ x ∷ [])
nothing_push h x other undrawn unread = record {
  same = λ term.
      recorded-push h x term (λ t drew. written_keys-push h x t ∙ keys_unwritten (written_keys h t) t x (λ s k value is. undrawn s t k value is drew))
      ∙ (ap (λ rest. recorded h term ++ rest) (nothing_by (h ++ x ∷ []) term x other) ∙ append-nil (recorded h term));
  drew = λ s n term t c drew. in_old (Draw s n term t (Some c)) x h (λ is. other s n term t (Some c) is) drew;
  goes = λ t drew. drawn_on h (x ∷ []) t drew;
  wrote = λ t k value drew wrote.
      ap (λ o. option_or o (last_write h t k)) (sym (unwritten t k x (λ s key v is. undrawn s t key v is drew))) ∙ (sym (last_write-push h x t k) ∙ wrote);
  read = λ t k drew read. elim (first_push h x t k read) [
    | inl old ↦ old
    | inr now ↦ absurd (unread now.session t k now.answer now.item_is drew)
  ];
}

pub nothing_more : (h : List Item) (x : Item) (items : List Item) → NoDraw x → WritesUndrawn h x → ReadsUndrawn h x → AllQuiet items → RecordsNothing h (h ++ x ∷ items)
nothing_more h x items other undrawn unread quiet =
    subst (λ all. RecordsNothing h all) (append_assoc h (x ∷ []) items) (nothing_twice h (h ++ x ∷ []) ((h ++ x ∷ []) ++ items) (nothing_push h x other undrawn unread) (nothing_quiet (h ++ x ∷ []) items quiet))

-- what a read has come to, of a transaction that has drawn no commit
read_start : (s b k r t key : ℕ) (answer other : Option Found) → Read s b k answer ≡ Read r t key other → b ≡ t
read_start s b k r t key answer other same = cc

nothing_read : (h : List Item) (s b k : ℕ) (turn : ReadTurn) → (HasDrawn h b → ⊥) → RecordsNothing h (h ++ read_items s b k turn)
nothing_read h s b k (Asks x) undrawn = nothing_quiet h [] (All-nil Quiet)
nothing_read h s b k (Answers a) undrawn =
    nothing_push h (Read s b k (found_of a.found)) (read_is_no_draw s b k (found_of a.found)) (λ r t key value is. absurd (cc))
    (λ r t key answer is drew. undrawn (subst (HasDrawn h) (sym (read_start s b k r t key (found_of a.found) answer is)) drew))

pub nothing_turn : (h : List Item) (x : Item) (s b k : ℕ) (turn : ReadTurn) → Quiet x → (HasDrawn h b → ⊥) → RecordsNothing h (h ++ x ∷ read_items s b k turn)
nothing_turn h x s b k turn quiet undrawn =
    let one : RecordsNothing h (h ++ x ∷ []) = nothing_quiet h (x ∷ []) (one_quiet x quiet) in
    subst (λ all. RecordsNothing h all) (append_assoc h (x ∷ []) (read_items s b k turn))
    (nothing_twice h (h ++ x ∷ []) ((h ++ x ∷ []) ++ read_items s b k turn) one (nothing_read (h ++ x ∷ []) s b k turn (λ drew. undrawn (drew.0, drew.1, drew.2, drew.3, one.drew drew.0 drew.1 drew.2 b drew.3 drew.4))))

-- and what it writes
write_start : (s t k r u key : ℕ) (v x : List ℕ) → Write s t k v ≡ Write r u key x → t ≡ u
write_start s t k r u key v x same = cc

pub nothing_write : (h : List Item) (s t k : ℕ) (value : List ℕ) → (HasDrawn h t → ⊥) → RecordsNothing h (h ++ Write s t k value ∷ [])
nothing_write h s t k value undrawn =
    nothing_push h (Write s t k value) (write_is_no_draw s t k value) (λ r u key x is drew. undrawn (subst (HasDrawn h) (sym (write_start s t k r u key value x is)) drew))
    (λ r u key answer is. absurd (cc))

-- ---- the facts
has_drawn : (h : List Item) (s n term t c : ℕ) → DrewCommit h s n term t c → HasDrawn h t
has_drawn h s n term t c drew = (s, n, term, c, drew)

pub recorded_same : (setup : SetupNumbers) (old new : List (Option InstanceEntry)) (h g : List Item) → SameMemory old new → ((term : ℕ) → recorded g term ≡ recorded h term) → AreRecorded setup old h → AreRecorded setup new g
recorded_same setup old new h g same records facts = record {
  hold = λ n j at.
      let was = same.each n j at in
      was.2.buckets ∙ (facts.hold n was.0 was.1 ∙ ap (contents setup.buckets setup.width) (ap (recorded h) (sym was.2.term) ∙ sym (records j.term)));
}

serial_same : (h g : List Item) → RecordsNothing h g → DrawnSerial h → DrawnSerial g
serial_same h g nothing serial = record {
  stood = λ r s n m term other t d u c k value first second differ read wrote.
      let a = nothing.drew r n term t d first in
      let b = nothing.drew s m other u c second in
      serial.stood r s n m term other t d u c k value a b differ (nothing.read t k (has_drawn h r n term t d a) read) (nothing.wrote u k value (has_drawn h s m other u c b) wrote);
}

pub memory_same : (setup : SetupNumbers) (old new : List (Option InstanceEntry)) (h g : List Item) → SameMemory old new → RecordsNothing h g → MemoryFacts setup old h → MemoryFacts setup new g
memory_same setup old new h g same nothing facts = record {
  recorded = recorded_same setup old new h g same nothing.same facts.recorded;
  form = record { direct = λ n j at. let was = same.each n j at in was.2.direct ∙ facts.form.direct n was.0 was.1 };
  apart = record {
    apart = λ r s n m term other t c u d k v w first second differ wrote also.
        let a = nothing.drew r n term t c first in
        let b = nothing.drew s m other u d second in
        facts.apart.apart r s n m term other t c u d k v w a b differ (nothing.wrote t k v (has_drawn h r n term t c a) wrote) (nothing.wrote u k w (has_drawn h s m other u d b) also);
  };
  serial = λ strict. serial_same h g nothing (facts.serial strict);
}
