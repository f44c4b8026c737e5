-- The texts of the causes are read as the causes.
use Rattle.std.proofs.Common.{◌≡◌, ℕ, [], ◌++◌, Some, decimal, codes, refl, arith}
use Rattle.history_text.specs.Words.{node_text, key_text}
use Rattle.history_text.specs.CauseText.{cause_text}
use Rattle.stamp_base.specs.Ranges.{IsNumber, IsStamp, IsTerm, IsNode, IsKey}
use Rattle.history_text.specs.Fits.{FitsCause}
use Rattle.history_reading.specs.ReadWords.{word_len, first_word, after_word, after_text}
use Rattle.history_reading.specs.ReadCauses.{conflict_at, hidden_at, old_epoch_at, crashed_at, no_oracle_at, undecided_at, transaction_cause_at, lease_cause_at, place_cause_at, plain_cause_at, cause_at}
use Rattle.history_book.specs.declared.cause.Cause.{Cause}
use Rattle.history_book.specs.declared.cause.Cause.TheVariants.{Conflict, Hidden, OldEpoch, Expired, Replaced, Spent, NoStamp, Invalid, Open, Crashed, NotYet, NoRequest, NoOracle, Full, Early, Holding, Undecided, NoTransaction, Busy, TooManyKeys, Gone, Idle}
use Rattle.history_reading.proofs.NumberLemmas.{field-end, last-field, last-stamp, two-end, letter-in, node-in, session-in, key-in, stamp-in, term-in}

conflict_again : (key by : ℕ) → IsKey key → IsStamp by
    → conflict_at (codes "key=" ++ key_text key ++ codes " by=" ++ decimal by) ≡ Some (Conflict key by)
unfolding conflict_at
conflict_again key by a b = rw (two-end (codes "key=k") (codes "by=") key by (omega arith) (omega arith), key-in key a, stamp-in by b) refl

hidden_again : (key water : ℕ) → IsKey key → IsNumber water
    → hidden_at (codes "key=" ++ key_text key ++ codes " water=" ++ decimal water) ≡ Some (Hidden key water)
unfolding hidden_at
hidden_again key water a b = rw (two-end (codes "key=k") (codes "water=") key water (omega arith) b, key-in key a) refl

old_epoch_again : (start epoch : ℕ) → IsStamp start → IsNumber epoch
    → old_epoch_at (codes "start=" ++ decimal start ++ codes " epoch=" ++ decimal epoch) ≡ Some (OldEpoch start epoch)
unfolding old_epoch_at
old_epoch_again start epoch a b = rw (two-end (codes "start=") (codes "epoch=") start epoch (omega arith) b, stamp-in start a) refl

crashed_again : (node term : ℕ) → IsNode node → IsTerm term
    → crashed_at (codes "node=" ++ node_text node ++ codes " term=" ++ decimal term) ≡ Some (Crashed node term)
unfolding crashed_at after_text
crashed_again node term a b = rw (letter-in node _ a, field-end (codes " term=") term b.1, node-in node a, term-in term b) refl

no_oracle_again : (node : ℕ) → IsNode node
    → no_oracle_at (codes "node=" ++ node_text node) ≡ Some (NoOracle node)
unfolding no_oracle_at after_text
no_oracle_again node a = rw (letter-in node [] a, node-in node a) refl

undecided_again : (start epoch : ℕ) → IsStamp start → IsNumber epoch
    → undecided_at (codes "start=" ++ decimal start ++ codes " epoch=" ++ decimal epoch) ≡ Some (Undecided start epoch)
unfolding undecided_at
undecided_again start epoch a b = rw (two-end (codes "start=") (codes "epoch=") start epoch (omega arith) b, stamp-in start a) refl

pub cause_again : (cause : Cause) → FitsCause cause → cause_at (cause_text cause) ≡ Some cause
unfolding transaction_cause_at lease_cause_at place_cause_at plain_cause_at first_word after_word word_len
cause_again (Conflict key by) h = rw (conflict_again key by h.0 h.1) refl
cause_again (Hidden key water) h = rw (hidden_again key water h.0 h.1) refl
cause_again (OldEpoch start epoch) h = rw (old_epoch_again start epoch h.0 h.1) refl
cause_again (Expired reading until) h = rw (two-end (codes "reading=") (codes "until=") reading until h.0 h.1) refl
cause_again (Replaced found) h = rw (last-field (codes "found=") found h) refl
cause_again (Spent ceiling) h = rw (last-field (codes "ceiling=") ceiling h) refl
cause_again (NoStamp last) h = rw (last-field (codes "last=") last h) refl
cause_again (Invalid start) h = rw (last-stamp (codes "start=") start h) refl
cause_again (Open start) h = rw (last-stamp (codes "start=") start h) refl
cause_again (Crashed node term) h = rw (crashed_again node term h.0 h.1) refl
cause_again (NotYet commit) h = rw (last-stamp (codes "commit=") commit h) refl
cause_again (NoRequest session) h = rw (last-field (codes "session=s") session (omega arith), session-in session h) refl
cause_again (NoOracle node) h = rw (no_oracle_again node h) refl
cause_again (Full in_flight) h = rw (last-field (codes "in-flight=") in_flight h) refl
cause_again (Early reading until) h = rw (two-end (codes "reading=") (codes "until=") reading until h.0 h.1) refl
cause_again (Holding term) h = rw (last-field (codes "term=") term h.1, term-in term h) refl
cause_again (Undecided start epoch) h = rw (undecided_again start epoch h.0 h.1) refl
cause_again NoTransaction h = refl
cause_again Busy h = refl
cause_again TooManyKeys h = refl
cause_again Gone h = refl
cause_again Idle h = refl
