-- How operators and operands make up what they lead to.
use Rattle.std.specs.Prelude.{ℕ, List}
use Rattle.std.proofs.Math.Path.{sym, subst}
use Rattle.nextest_filtering_ast.specs.Tree.{Tree}
use Rattle.nextest_filtering_syntax.specs.Waiting.{After, stop, link}
use Rattle.nextest_filtering_syntax.proofs.Chains.{Level}

-- what was read so far and what follows it are the whole
pub joins : {Op : Type 0} {Reads : Op → List ℕ → List ℕ → Type 0} {Operand : List ℕ → Tree → List ℕ → Type 0} {join : Op → Tree → Tree → Tree}
    {Ends : List ℕ → Type 0} {Whole : List ℕ → Tree → List ℕ → Type 0} {Stops : List ℕ → Type 0} (text : List ℕ) (t : Tree) (rest : List ℕ) (a : Tree) (middle : List ℕ)
    → Level Reads Operand join Ends Whole Stops → Whole text a middle → After Reads Operand join t rest a middle → Whole text t rest
joins {Whole = Whole} text t rest _ _ level whole (stop so_far middle e f) =
    subst (λ m. Whole text t m) (sym f) (subst (λ x. Whole text x middle) (sym e) whole)
joins {join = join} text t rest _ _ level whole (link op so_far b middle behind next reads operand more) =
    joins text t rest (join op so_far b) next level (level.more op so_far b text middle behind next whole reads operand) more
