-- Each step, each split and each joining keeps the rule of a beacon.
use Rattle.std.proofs.Common.{rules, ◌≡◌, ℕ, ◌<◌, true, true≢false, List, [], ◌∷◌, ◌++◌, refl, sym, ap, ◌∙◌, subst}
use Rattle.std.proofs.lemmas.List.Elements.{All-nil, All-push}
use mathlib.Core.Option.{some}
use lib.ListN.{get_elem?}
use Rattle.crossbeam_utils.specs.Register.{Turns, Forks, Merges}
use Rattle.queue_passes.proofs.TotalLemmas.{each_alone, each_set, each_split, each_join, other_stands}
use Rattle.master_beacon.specs.declared.rule.Announced.{Announced}
use Rattle.master_beacon.specs.declared.rule.BeaconView.{BeaconView}
use Rattle.master_beacon.specs.Announcements.{last_term, IsRising, IsFrontOf, longer}
use Rattle.master_beacon.specs.Views.{view_of, publishing, seeing, first_view, with_beside}
use Rattle.master_beacon.specs.Rule.{IsPair, words_of, Fits, IsPublished}
use Rattle.master_beacon.specs.Steps.{Publishes, Looks, Compares}
use Rattle.master_beacon.proofs.Fronts.{front_of_itself, front_of_more, longer_has_both, whole_is_longer}
use Rattle.master_beacon.proofs.Risen.{last_of-push, rising-push, last_is_pair}

-- a cell of two words fits in memory
pub words_fit : (64 < 9223372036854775808) × (0 < 9223372036854775808)
words_fit = search rules

pub opens : IsPublished (0 ∷ 0 ∷ []) (first_view ∷ [])
opens = record {
  list = [];
  publisher = 0;
  last = refl;
  rising = refl;
  pairs = All-nil IsPair;
  each = each_alone (Fits [] 0) first_view (record { whole = λ _. (refl, refl); seen = refl; beside = refl });
}

-- the words and the list stay, and so does what the other passes see
kept : {words : List ℕ} {views : List BeaconView} (h : IsPublished words views) (after : List BeaconView)
    → ((pass : ℕ) (view : BeaconView) → get_elem? after pass ≡ some view → Fits h.list h.publisher pass view) → IsPublished words after
kept h after each = record { list = h.list; publisher = h.publisher; last = h.last; rising = h.rising; pairs = h.pairs; each = each }

pub publishes : (pass : ℕ) (view : BeaconView) (pair : Announced) → view.publishes ≡ true → last_term view.seen < pair.term → IsPair pair → Turns IsPublished pass view (λ _. pair.term ∷ pair.node ∷ []) Publishes
publishes pass view pair may above is before views h at =
    let mine = (h.each pass view at).whole may in
    let list : List Announced = h.list ++ pair ∷ [] in
    let new : BeaconView = publishing (view.seen ++ pair ∷ []) in
    let grown : view.seen ++ pair ∷ [] ≡ list = ap (λ l. l ++ pair ∷ []) mine.1 in
    let rises = rising-push h.list pair h.rising (subst (λ l. last_term l < pair.term) mine.1 above) in (
      new,
      record {
        list = list;
        publisher = h.publisher;
        last = sym (ap words_of (last_of-push h.list pair));
        rising = rises;
        pairs = All-push IsPair h.list pair h.pairs is;
        each = each_set (Fits list h.publisher) views pass new (record { whole = λ _. (mine.0, grown); seen = subst (IsFrontOf (view.seen ++ pair ∷ [])) grown (front_of_itself (view.seen ++ pair ∷ [])); beside = refl })
            (λ j other away e.
            let theirs = h.each j other e in
            record {
              whole = λ p. absurd (away ((theirs.whole p).0 ∙ sym mine.0));
              seen = front_of_more other.seen h.list (pair ∷ []) theirs.seen;
              beside = front_of_more other.beside h.list (pair ∷ []) theirs.beside;
            });
      },
      record { last = refl; rising = subst IsRising (sym grown) rises },
    )

pub looks : (pass : ℕ) (view : BeaconView) → Turns IsPublished pass view (λ words. words) Looks
looks pass view words views h at =
    let mine = h.each pass view at in
    let new : BeaconView = view_of view.publishes h.list [] in (
      new,
      kept h _ (each_set (Fits h.list h.publisher) views pass new (record { whole = λ p. ((mine.whole p).0, refl); seen = front_of_itself h.list; beside = refl }) (λ j other away e. h.each j other e)),
      record { same = refl; front = mine.seen; rising = h.rising; last = h.last; pair = last_is_pair h.list h.pairs },
    )

pub compares : (pass : ℕ) (view : BeaconView) → Turns IsPublished pass view (λ words. words) Compares
compares pass view words views h at =
    let mine = h.each pass view at in
    let both = longer_has_both h.list view.seen view.beside mine.seen mine.beside in
    let whole : view.publishes ≡ true → longer view.seen view.beside ≡ view.seen = λ p.
    whole_is_longer view.seen view.beside (subst (IsFrontOf view.beside) (sym (mine.whole p).1) mine.beside) in
    let new : BeaconView = view_of view.publishes (longer view.seen view.beside) [] in (
      new,
      kept h _ (each_set (Fits h.list h.publisher) views pass new (record { whole = λ p. ((mine.whole p).0, whole p ∙ (mine.whole p).1); seen = both.seen; beside = refl }) (λ j other away e. h.each j other e)),
      record { longer = refl; mine = both.own; theirs = both.other; whole = whole },
    )

-- whoever does not publish fits at any place
seeing_fits : (list front : List Announced) (publisher pass : ℕ) → IsFrontOf front list → Fits list publisher pass (seeing front)
seeing_fits list front publisher pass is = record { whole = λ p. absurd (true≢false (sym p)); seen = is; beside = refl }

pub copies : (pass : ℕ) (view : BeaconView) → Forks IsPublished pass view view (seeing view.seen)
copies pass view words views h at =
    let mine = h.each pass view at in
    kept h _ (each_split (Fits h.list h.publisher) views pass view (seeing view.seen) mine (λ j. seeing_fits h.list view.seen h.publisher j mine.seen) (λ j other away e. h.each j other e))

pub puts_beside : (pass : ℕ) (view : BeaconView) (other : ℕ) (theirs : BeaconView) → Merges IsPublished pass view other theirs (with_beside view theirs) (seeing [])
puts_beside pass view other theirs words views h at apart there =
    let mine = h.each pass view at in
    let its = h.each other theirs (other_stands views pass other (with_beside view theirs) theirs apart there) in
    kept h _ (each_join (Fits h.list h.publisher) views pass other (with_beside view theirs) (seeing [])
    (record { whole = mine.whole; seen = mine.seen; beside = its.seen })
    (seeing_fits h.list [] h.publisher other refl) (λ j u away away' e. h.each j u e))
