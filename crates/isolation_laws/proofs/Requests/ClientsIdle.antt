-- Who reads: a client that has nothing of a read under way, and lists of clients in which each that reads read before, and is as it
-- was.
use Rattle.isolation_laws.proofs.Names.{◌≡◌, ℕ, true, false, List, [], ◌∷◌, Option, Some, None, ◌⊎◌, inl, inr, sym, ◌∙◌}
use Rattle.isolation_laws.proofs.Names.{ap, subst, slice_set, Ask, Settling, Reading, Nothing, Reads, Settles}
use Rattle.isolation_laws.proofs.Names.{Completes, Client, is_reading, is_reading_by, undo_of, finish_of}
use Rattle.isolation_laws.proofs.Names.{client_aborted, client_committed, unless_gone, ClientAt, client_set}
use Rattle.isolation_laws.proofs.Requests.ClientsOpen.{gone_cases}

abbrev pub FewerReading : List Client → List Client → Type 0
FewerReading old new = (s : ℕ) (c : Client) (r : Reading) → ClientAt new s c → c.under_way ≡ Reads r → ClientAt old s c

pub same_reading : (clients : List Client) → FewerReading clients clients
same_reading clients s c r at reads = at

abbrev pub ReadsNothing : Client → Type 0
ReadsNothing c = (r : Reading) → c.under_way ≡ Reads r → ⊥

pub fewer_reading_set : (clients : List Client) (s : ℕ) (old c : Client) → ClientAt clients s old → (c ≡ old) ⊎ ReadsNothing c → FewerReading clients (slice_set clients s c)
fewer_reading_set clients s old c at new q d r there reads = elim (client_set clients s q c d there) [
  | inl here ↦ elim new [
    | inl same ↦ subst (λ (x : Client). ClientAt clients q x) (sym (here.1 ∙ same)) (subst (λ p. ClientAt clients p old) (sym here.0) at)
    | inr none ↦ absurd (none r (sym (ap (λ (x : Client). x.under_way) here.1) ∙ reads))
  ]
  | inr other ↦ other.1
]

pub nothing_reads : (r : Reading) → Nothing ≡ Reads r → ⊥
nothing_reads r same = cc

pub settles_nothing : (x : Settling) (r : Reading) → Settles x ≡ Reads r → ⊥
settles_nothing x r same = cc

pub completes_nothing : (asks : List Ask) (r : Reading) → Completes asks ≡ Reads r → ⊥
completes_nothing asks r same = cc

pub undo_reads : (start : Option ℕ) (keys : List ℕ) (r : Reading) → undo_of start keys ≡ Reads r → ⊥
undo_reads None keys r same = nothing_reads r same
undo_reads (Some start) [] r same = nothing_reads r same
undo_reads (Some start) (key ∷ keys) r same = completes_nothing _ r same

pub finish_reads : (start : Option ℕ) (commit : ℕ) (keys : List ℕ) (r : Reading) → finish_of start commit keys ≡ Reads r → ⊥
finish_reads None commit keys r same = nothing_reads r same
finish_reads (Some start) commit keys r same = completes_nothing _ r same

pub aborted_reads : (c : Client) → ReadsNothing (client_aborted c)
aborted_reads c r same = undo_reads c.entry.start c.entry.keys r same

pub committed_reads : (c : Client) (commit : ℕ) → ReadsNothing (client_committed c commit)
committed_reads c commit r same = finish_reads c.entry.start commit c.entry.keys r same

pub not_false : true ≡ false → ⊥
not_false same = cc

pub idle_reads : (c : Client) → is_reading c ≡ false → ReadsNothing c
idle_reads c idle r same = not_false (sym (ap is_reading_by same) ∙ idle)

pub gone_reads : (old new : Client) → ReadsNothing new → (unless_gone old new ≡ old) ⊎ ReadsNothing (unless_gone old new)
gone_reads old new none = elim (gone_cases old new) [
  | inl stays ↦ inl stays.0
  | inr moves ↦ inr (subst (λ (c : Client). ReadsNothing c) (sym moves) none)
]
