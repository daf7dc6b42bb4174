-- What the grammar of regular expressions refuses is none.
use Rattle.std.specs.Prelude.{◌≡◌, ◌≢◌, ◌⊎◌, refl, ℕ, ◌<◌, ◌≤◌, List, Option, Some, None, IsSomeAnd, IfSome, chars}
use Rattle.std.proofs.Common.{arith, rules, inl, inr}
use Rattle.regex_syntax.specs.Verdict.{Reads, Refuses}
use Rattle.regex_syntax.specs.Grammar.{Names, read}
use Rattle.regex_syntax.specs.Brackets.{Nested}
use Rattle.regex_hir.specs.Re.{Re}
use Rattle.regex_syntax.specs.declared.Config.{Config}
use Rattle.regex_syntax.specs.declared.error.ErrorKind.{ErrorKind}
use Rattle.regex_syntax.specs.declared.error.ErrorKind.TheVariants.{OutOfMemory, NestLimitExceeded}
use Rattle.regex.specs.Failures.{IsPattern, IsRightKind}
use Rattle.regex.specs.Sources.{IsRefusal}
use Rattle.regex.specs.declared.error.Error.{Error}
use Rattle.regex.specs.declared.error.Error.TheVariants.{Syntax, CompiledTooBig, Internal}
use Rattle.regex.specs.declared.error.Error.TheVariants as error
use Rattle.regex_syntax.specs.declared.error.Error as parser

-- a reading within the limit is none that is nested too deep
not_both : (limit : ℕ) (kind : ErrorKind) (r : Option (Nested Re × Names)) (P : Nested Re × Names → Type 0)
    → ((x : Nested Re × Names) → P x → x.0.depth ≤ limit) → IsSomeAnd r P
    → (kind ≡ OutOfMemory) ⊎ ((r ≡ None) ⊎ ((kind ≡ NestLimitExceeded) × IfSome r (λ x. limit < x.0.depth))) → kind ≢ OutOfMemory → ⊥
not_both limit kind None P within reads refused known = reads
not_both limit kind (Some x) P within reads (inl memory) known = known memory
not_both limit kind (Some x) P within reads (inr (inl none)) known = Prim.search rules
not_both limit kind (Some x) P within reads (inr (inr deep)) known = Prim.omega (arith, within x reads, deep.1)

pub refused_is_none : (config : Config) (text : List ℕ) (kind : ErrorKind) → Refuses config text kind → kind ≢ OutOfMemory → IsPattern config text → ⊥
unfolding Reads Refuses
refused_is_none config text kind refused known (hir, names, reads) = not_both config.nest_limit kind (read config (chars text)) _ (λ x held. held.0) reads refused known

-- a text that gets an error of syntax is no pattern
pub no_pattern : (config : Config) (text : List ℕ) (given : Error) (e : parser.Error) → given ≡ Syntax e
    → IsRefusal config text given → IsRightKind config text given → IsPattern config text → ⊥
no_pattern config text (Syntax found) e is refusal right = refused_is_none config text found.kind (refusal found refl) right
no_pattern config text CompiledTooBig e is refusal right = λ _. Prim.search rules
no_pattern config text Internal e is refusal right = λ _. Prim.search rules
no_pattern config text error.OutOfMemory e is refusal right = λ _. Prim.search rules
