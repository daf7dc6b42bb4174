-- Ids that are lent.
use Rattle.std.specs.Prelude.{ℕ, Bool, List, map}
use Rattle.std.specs.Ordering.{nat_cmp}
use Rattle.std.specs.Cmp.Lexicographic.{slice_cmp}
use Rattle.std.specs.BTreeSet.{BTreeSet, contains_by}
use denote.Ref.{Bor}

-- the texts that are lent
abbrev pub lent_texts : List (Bor (List ℕ)) → List (List ℕ)
lent_texts texts = map (λ text. text.now) texts

-- a set has a text
abbrev pub has_text : BTreeSet (Bor (List ℕ)) → List ℕ → Bool
has_text set text = contains_by (λ key. slice_cmp nat_cmp text key.now) set
