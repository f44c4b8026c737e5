-- What each step tells the pass that makes it: its view before, the words before and after, and its view after.
use Rattle.std.specs.Prelude.{◌≡◌, ℕ, true, List, [], ◌∷◌, ◌++◌, slice_index}
use Rattle.master_beacon.specs.declared.rule.BeaconView.{BeaconView}
use Rattle.master_beacon.specs.Announcements.{announced, last_of, IsRising, IsFrontOf, longer}
use Rattle.master_beacon.specs.Views.{view_of, publishing}
use Rattle.master_beacon.specs.Rule.{IsPairOrNone, words_of}

-- the pair of the words was published behind all that was before
pub record Adds (old : BeaconView) (words : List ℕ) (new : BeaconView) : Type 0 where
  pub last : new ≡ publishing (old.seen ++ announced (slice_index words 0) (slice_index words 1) ∷ [])
  pub rising : IsRising new.seen

abbrev pub Publishes : BeaconView → List ℕ → List ℕ → BeaconView → Type 0
Publishes old before after new = Adds old after new

-- all that was published so far was seen, and the words are its last pair
pub record LooksOn (old : BeaconView) (words : List ℕ) (new : BeaconView) : Type 0 where
  pub same : new ≡ view_of old.publishes new.seen []
  pub front : IsFrontOf old.seen new.seen
  pub rising : IsRising new.seen
  pub last : words ≡ words_of (last_of new.seen)
  pub pair : IsPairOrNone (last_of new.seen)

abbrev pub Looks : BeaconView → List ℕ → List ℕ → BeaconView → Type 0
Looks old before after new = LooksOn old after new

-- the longer of the two fronts is kept, and both are fronts of it; the publisher's own is the longer
pub record Keeps (old new : BeaconView) : Type 0 where
  pub longer : new ≡ view_of old.publishes (longer old.seen old.beside) []
  pub mine : IsFrontOf old.seen new.seen
  pub theirs : IsFrontOf old.beside new.seen
  pub whole : old.publishes ≡ true → new.seen ≡ old.seen

abbrev pub Compares : BeaconView → List ℕ → List ℕ → BeaconView → Type 0
Compares old before after new = Keeps old new
