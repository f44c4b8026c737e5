-- One cell, and two, as a fetch gives them.
use Rattle.std.proofs.Common.{◌≡◌, ℕ, ◌<◌, ◌≤◌, List, [], ◌∷◌, arith}
use Rattle.std.proofs.lemmas.List.Elements.{All-cons}
use Rattle.std.proofs.lemmas.List.Kept.{AllPairs-cons}
use Rattle.system_parts.specs.declared.rows.Cell.{Cell}
use Rattle.system_parts.specs.KeyRead.{AreFetched}

pub fetched_one : (start : ℕ) (c : Cell) (cells : List Cell) → cells ≡ c ∷ [] → c.version ≤ start → AreFetched start cells
fetched_one start c cells e h = rw e (record {
  falling = λ i j d l m. absurd (omega arith);
  upto = All-cons (λ (x : Cell). x.version ≤ start) c [] h (λ k d l. absurd (omega arith));
})

pub fetched_two : (start : ℕ) (a b : Cell) (cells : List Cell) → cells ≡ a ∷ b ∷ [] → b.version < a.version → a.version ≤ start → AreFetched start cells
fetched_two start a b cells e below upto =
    let older : b.version ≤ start = omega arith in
    rw e (record {
      falling = AllPairs-cons (λ (x : Cell) (y : Cell). y.version < x.version) a (b ∷ []) (All-cons (λ (y : Cell). y.version < a.version) b [] below (λ k d l. absurd (omega arith))) (λ i j d l m. absurd (omega arith));
      upto = All-cons (λ (x : Cell). x.version ≤ start) a (b ∷ []) upto (All-cons (λ (x : Cell). x.version ≤ start) b [] older (λ k d l. absurd (omega arith)));
    })
