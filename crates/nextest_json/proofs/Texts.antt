-- Which data a text is, by the value that its tokens begin with.
use Rattle.std.proofs.Common.{◌≡◌, ℕ, List, [], ◌∷◌, Option, None, Some, option_and_then, is_some, false, MatchOption, refl, ap, ◌∙◌}
use Rattle.json.specs.Token.{Token}
use Rattle.json.specs.Lex.{tokens}
use Rattle.json.specs.Json as json
use Rattle.serde_json.specs.Data.{Data}
use Rattle.serde_json.specs.Read.{of_json, read}

-- what is read of one value that nothing follows
abbrev whole_of : Option (json.Json × List Token) → Option Data
whole_of o = option_and_then of_json (option_and_then (λ p. json.if_last p.0 p.1) o)

pub nothing_follows : (text : List ℕ) (j : json.Json) (rest : List Token) → json.value 127 (tokens text) ≡ Some (j, rest) → rest ≡ [] → read text ≡ of_json j
nothing_follows text j rest e none = ap whole_of (e ∙ ap (λ ts. Some (j, ts)) none)

-- where no token is next, there is none
pub no_more : {T : Type 0} (token_of : T → Token) (next : Option T) (old new : List Token) → MatchOption next ((old ≡ []) × (new ≡ [])) (λ t. old ≡ token_of t ∷ new) → is_some next ≡ false → old ≡ []
no_more token_of None old new says e = says.0
no_more token_of (Some t) old new says e = absurd (cc)

pub unread : (o : Option Data) → is_some o ≡ false → o ≡ None
unread None e = refl
unread (Some d) e = absurd (cc)
