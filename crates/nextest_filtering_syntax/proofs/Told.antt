-- What is told of an operator.
use Rattle.std.specs.Prelude.{◌≡◌, ◌⊎◌, ℕ, List, ◌∷◌, codes}
use Rattle.std.proofs.Common.{inl, inr}
use Rattle.std.proofs.Math.Path.{ap, ◌∙◌}
use Rattle.nextest_filtering_ast.specs.declared.leaf.SourceSpan.{SourceSpan}
use Rattle.nextest_filtering_arguments.specs.Faults.{IsSuffix, here, Lies, bytes_in_span}
use Rattle.nextest_filtering_arguments.proofs.Spans.{told}

-- `||` and `OR`
pub told_or : (input ahead rest : List ℕ) (span : SourceSpan) → span ≡ here input ahead 2 → IsSuffix ahead input
    → (ahead ≡ 124 ∷ 124 ∷ rest) ⊎ (ahead ≡ 79 ∷ 82 ∷ rest) → Lies input span × ((bytes_in_span input span ≡ codes "||") ⊎ (bytes_in_span input span ≡ codes "OR"))
told_or input ahead rest span is within (inl e) = let it = told input ahead rest span (codes "||") is within e in (it.0, inl it.1)
told_or input ahead rest span is within (inr e) = let it = told input ahead rest span (codes "OR") is within e in (it.0, inr it.1)

-- `&&` and `AND`
pub told_and : (input ahead rest : List ℕ) (n : ℕ) (span : SourceSpan) → span ≡ here input ahead n → IsSuffix ahead input
    → ((ahead ≡ 38 ∷ 38 ∷ rest) × (n ≡ 2)) ⊎ ((ahead ≡ 65 ∷ 78 ∷ 68 ∷ rest) × (n ≡ 3))
    → Lies input span × ((bytes_in_span input span ≡ codes "&&") ⊎ (bytes_in_span input span ≡ codes "AND"))
told_and input ahead rest n span is within (inl (e, two)) = let it = told input ahead rest span (codes "&&") (is ∙ ap (here input ahead) two) within e in (it.0, inl it.1)
told_and input ahead rest n span is within (inr (e, three)) = let it = told input ahead rest span (codes "AND") (is ∙ ap (here input ahead) three) within e in (it.0, inr it.1)
