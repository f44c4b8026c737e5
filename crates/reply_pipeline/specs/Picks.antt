-- Some of a list, in its order, each at most once.
use Rattle.std.specs.Prelude.{◌≡◌, Bool, cond, List, [], ◌∷◌, length}

-- those that are marked
abbrev pub kept : {A : Type 0} → List Bool → List A → List A
kept [] all = []
kept (mark ∷ marks) [] = []
kept (mark ∷ marks) (x ∷ all) = cond mark (x ∷ kept marks all) (kept marks all)

pub record IsPickOf {A : Type 0} (some all : List A) : Type 0 where
  pub marks : List Bool
  pub fit : length marks ≡ length all
  pub is : some ≡ kept marks all
