-- A text that is escaped byte by byte.
use Rattle.std.proofs.Common.{◌≡◌, ℕ, ◌+◌, ◌<◌, ◌≤◌, List, ◌++◌, append_assoc, append-nil, drop, get_or, length, sym, ap, ◌∙◌}
use Rattle.std.proofs.lemmas.List.{drop_all, drop_more}
use Rattle.json.specs.Print.{escape, escape_byte}

-- one more byte was added
pub escaped_more : (line new bytes all : List ℕ) (place d : ℕ) → place < length bytes → new ≡ line ++ escape_byte (get_or bytes place d)
    → line ++ escape (drop place bytes) ≡ all → new ++ escape (drop (place + 1) bytes) ≡ all
escaped_more line new bytes all place d within is told =
    ap (λ (l : List ℕ). l ++ escape (drop (place + 1) bytes)) is
    ∙ append_assoc line (escape_byte (get_or bytes place d)) (escape (drop (place + 1) bytes))
    ∙ ap (λ (bs : List ℕ). line ++ escape bs) (sym (drop_more bytes place d within))
    ∙ told

-- all bytes were added
pub escaped_all : (line bytes all : List ℕ) (place : ℕ) → length bytes ≤ place → line ++ escape (drop place bytes) ≡ all → line ≡ all
escaped_all line bytes all place end told =
    sym (append-nil line) ∙ ap (λ (bs : List ℕ). line ++ escape bs) (sym (drop_all place bytes end)) ∙ told
