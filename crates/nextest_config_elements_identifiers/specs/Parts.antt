-- How a text is divided into the names in it.
use Rattle.std.specs.Prelude.{◌≡◌, ℕ, ◌==◌, Bool, false, List, ◌∷◌, ◌++◌, Option, Some, None, drop, codes, nat_eq, if◌then◌else◌}
use Rattle.std.specs.Borrow.{Bor}
use Rattle.std.specs.List.{list_any, before_first, after_first, starts_with}

-- a byte is a `:`
abbrev pub is_colon : ℕ → Bool
is_colon byte = byte == 58

-- what stands before the first `:` of a text, and behind it
abbrev pub division_of : List ℕ → Option (List ℕ × List ℕ)
division_of text = if list_any is_colon text then Some (before_first is_colon text, after_first is_colon text) else None

-- the names of a tool and of what is its own, in `@tool:TOOL:OWN`
abbrev pub tool_parts : List ℕ → Option (List ℕ × List ℕ)
tool_parts text = if starts_with nat_eq text (codes "@tool:") then division_of (drop 6 text) else None

-- two parts, which were lent
abbrev pub behind : Option (Bor (List ℕ) × Bor (List ℕ)) → Option (List ℕ × List ℕ)
behind None = None
behind (Some parts) = Some (parts.0.now, parts.1.now)

-- a text is `@tool:`, the first part, `:` and the second, and neither part has a `:`
pub record IsOfTool (text first second : List ℕ) : Type 0 where
  pub whole : text ≡ codes "@tool:" ++ (first ++ (58 ∷ second))
  pub tool : list_any is_colon first ≡ false
  pub own : list_any is_colon second ≡ false
