use Rattle.std.proofs.Common.{◌≡◌, ℕ, List, sym, rules}
use Rattle.std.specs.Prelude.{IsUtf8}
use Rattle.std.proofs.lemmas.Str.{IsUtf8-string_bytes}
use Rattle.nextest_config_elements_identifiers.specs.Identifier.{nfc_of}
use Rattle.nextest_config_elements_identifiers.proofs.Names.{chars-composed}
use Rattle.nextest_config_elements_identifiers.proofs.tool_name.composed.Goals as goal

pub returns-clause-characters : goal.returns-clause-characters
returns-clause-characters c =
    let name : List ℕ = c.from.result in
    let utf8 : IsUtf8 name = rw c.from.ensures (IsUtf8-string_bytes c.in_ok-string.string) in
    let is : name ≡ nfc_of c.args.text.now = search rules in
    sym (chars-composed c.args.text.now name utf8 is)
