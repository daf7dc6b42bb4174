-- How the variables of a table are read, one by one.
use Rattle.std.proofs.Common.{◌≡◌, ℕ, List, [], ◌∷◌, ◌++◌, Ok, Err, String, Global, string_bytes, sym, ap, ◌∙◌}
use Rattle.std.proofs.lemmas.List.{append_assoc}
use Rattle.toml.specs.View.{members_view, view}
use Rattle.toml.specs.declared.value.Value.{Value}
use Rattle.nextest_config_elements_toml.specs.Reading.{Reading, ◌>>=◌, under}
use Rattle.nextest_config_resolution_commands.specs.Commands.{variable_in, variables_in}

abbrev pub Variable : Type 0
Variable = List ℕ × List ℕ

-- variables, and then those that are read
abbrev pub joined : List Variable → Reading (List Variable) → Reading (List Variable)
joined variables (Ok more) = Ok (variables ++ more)
joined variables (Err path) = Err path

-- the variable of a name, and those behind it
abbrev ahead : List ℕ → Reading (List Variable) → Reading Variable → Reading (List Variable)
ahead name rest one = under name one >>= (λ first. rest >>= (λ more. Ok (first ∷ more)))

one_more : (name : List ℕ) (variables : List Variable) (variable : Variable) (one : Reading Variable) (rest : Reading (List Variable)) → one ≡ Ok variable
    → joined variables (ahead name rest one) ≡ joined (variables ++ variable ∷ []) rest
one_more name variables variable one (Ok more) is =
    ap (λ (it : Reading Variable). joined variables (ahead name (Ok more) it)) is ∙ ap Ok (sym (append_assoc variables (variable ∷ []) more))
one_more name variables variable one (Err path) is = ap (λ (it : Reading Variable). joined variables (ahead name (Err path) it)) is

read_under : (name : List ℕ) (one : Reading Variable) (variable : Variable) → under name one ≡ Ok variable → one ≡ Ok variable
read_under name (Ok it) variable is = is
read_under name (Err path) variable is = absurd (cc)

-- one more variable
pub variable_more : (variables : List Variable) (told : List ℕ) (variable : Variable) (added : List Variable) (name : String Global) (given : Value)
    (entries more : List (String Global × Value)) → entries ≡ (name, given) ∷ more → told ≡ string_bytes name → added ≡ variables ++ variable ∷ []
    → under told (variable_in told (view given)) ≡ Ok variable
    → joined variables (variables_in (members_view entries)) ≡ joined added (variables_in (members_view more))
variable_more variables told variable added name given entries more here says adds is =
    rw (here, sym says, adds)
    (one_more told variables variable (variable_in told (view given)) (variables_in (members_view more)) (read_under told (variable_in told (view given)) variable is))
