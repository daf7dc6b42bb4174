-- What becomes of each byte, by what it is.
use Rattle.std.proofs.Common.{◌≡◌, ◌≢◌, ℕ, ◌||◌, not, true, false, eqb, refl, sym, ap, subst, inl, inr}
use Rattle.std.proofs.lemmas.Bool.{cases_Bool, eqb-true}
use Rattle.nextest_config_resolution_commands.specs.Words.{is_divider, is_plain, is_taken}
use Rattle.nextest_config_resolution_commands.specs.Splitting as split
use Rattle.nextest_config_resolution_commands.specs.declared.steps.Kind.TheVariants as kind
use Rattle.nextest_config_resolution_commands.specs.declared.steps.Place.{Place}
use Rattle.nextest_config_resolution_commands.specs.declared.steps.Place.TheVariants as place
use Rattle.nextest_config_resolution_commands.specs.declared.steps.SplitStep.TheVariants as step

-- a byte that stands for itself wherever it isn't a comment
pub record IsOther (byte : ℕ) : Type 0 where
  pub is : split.kind_of byte ≡ kind.Other
  pub divider : is_divider byte ≡ false
  pub plain : is_plain byte ≡ true
  pub taken : is_taken byte ≡ false
  pub feed : eqb byte 10 ≡ false
  pub hash : eqb byte 35 ≡ false
  pub slash : eqb byte 92 ≡ false
  pub starts : not (is_divider byte || eqb byte 35) ≡ true

-- each byte is one of these
pub data Byte : ℕ → Type 0 where
  line_feed : Byte 10
  space : Byte 32
  tab : Byte 9
  quote : Byte 39
  double_quote : Byte 34
  backslash : Byte 92
  hash : Byte 35
  dollar : Byte 36
  backtick : Byte 96
  other : (byte : ℕ) → IsOther byte → Byte byte

pub byte_is : (byte : ℕ) → Byte byte
byte_is byte = elim (cases_Bool (eqb byte 10)) [
  | inl e ↦ subst Byte (sym (eqb-true byte 10 e)) line_feed
  | inr n10 ↦ elim (cases_Bool (eqb byte 32)) [
    | inl e ↦ subst Byte (sym (eqb-true byte 32 e)) space
    | inr n32 ↦ elim (cases_Bool (eqb byte 9)) [
      | inl e ↦ subst Byte (sym (eqb-true byte 9 e)) tab
      | inr n9 ↦ elim (cases_Bool (eqb byte 39)) [
        | inl e ↦ subst Byte (sym (eqb-true byte 39 e)) quote
        | inr n39 ↦ elim (cases_Bool (eqb byte 34)) [
          | inl e ↦ subst Byte (sym (eqb-true byte 34 e)) double_quote
          | inr n34 ↦ elim (cases_Bool (eqb byte 92)) [
            | inl e ↦ subst Byte (sym (eqb-true byte 92 e)) backslash
            | inr n92 ↦ elim (cases_Bool (eqb byte 35)) [
              | inl e ↦ subst Byte (sym (eqb-true byte 35 e)) hash
              | inr n35 ↦ elim (cases_Bool (eqb byte 36)) [
                | inl e ↦ subst Byte (sym (eqb-true byte 36 e)) dollar
                | inr n36 ↦ elim (cases_Bool (eqb byte 96)) [
                  | inl e ↦ subst Byte (sym (eqb-true byte 96 e)) backtick
                  | inr n96 ↦ other byte (record {
                    is = rw (n10, n32, n9, n39, n34, n92, n35, n36, n96) refl;
                    divider = rw (n32, n9, n10) refl;
                    plain = rw (n32, n9, n10, n39, n34, n92) refl;
                    taken = rw (n34, n92, n36, n96) refl;
                    feed = n10;
                    hash = n35;
                    slash = n92;
                    starts = rw (n32, n9, n10, n35) refl;
                  })
                ]
              ]
            ]
          ]
        ]
      ]
    ]
  ]
]

-- ---- in a word, outside of quotes

pub takes_plain : {byte : ℕ} → Byte byte → is_plain byte ≡ true → split.inside (split.kind_of byte) ≡ step.Take place.Inside
takes_plain line_feed e = absurd (cc)
takes_plain space e = absurd (cc)
takes_plain tab e = absurd (cc)
takes_plain quote e = absurd (cc)
takes_plain double_quote e = absurd (cc)
takes_plain backslash e = absurd (cc)
takes_plain hash e = refl
takes_plain dollar e = refl
takes_plain backtick e = refl
takes_plain (other byte is) e = ap split.inside is.is

pub takes_escaped : {byte : ℕ} → Byte byte → byte ≢ 10 → (before : Place) → split.after_backslash before (split.kind_of byte) ≡ step.Take place.Inside
takes_escaped line_feed isnt before = absurd (isnt refl)
takes_escaped space isnt before = refl
takes_escaped tab isnt before = refl
takes_escaped quote isnt before = refl
takes_escaped double_quote isnt before = refl
takes_escaped backslash isnt before = refl
takes_escaped hash isnt before = refl
takes_escaped dollar isnt before = refl
takes_escaped backtick isnt before = refl
takes_escaped (other byte is) isnt before = ap (split.after_backslash before) is.is

pub ends_at : {byte : ℕ} → Byte byte → is_divider byte ≡ true → split.inside (split.kind_of byte) ≡ step.End
ends_at line_feed e = refl
ends_at space e = refl
ends_at tab e = refl
ends_at quote e = absurd (cc)
ends_at double_quote e = absurd (cc)
ends_at backslash e = absurd (cc)
ends_at hash e = absurd (cc)
ends_at dollar e = absurd (cc)
ends_at backtick e = absurd (cc)
ends_at (other byte is) e = let isnt : is_divider byte ≡ false = is.divider in absurd (cc)

-- ---- before a word

pub passes_divider : {byte : ℕ} → Byte byte → is_divider byte ≡ true → split.between (split.kind_of byte) ≡ step.Pass place.Between
passes_divider line_feed e = refl
passes_divider space e = refl
passes_divider tab e = refl
passes_divider quote e = absurd (cc)
passes_divider double_quote e = absurd (cc)
passes_divider backslash e = absurd (cc)
passes_divider hash e = absurd (cc)
passes_divider dollar e = absurd (cc)
passes_divider backtick e = absurd (cc)
passes_divider (other byte is) e = let isnt : is_divider byte ≡ false = is.divider in absurd (cc)

pub passes_comment : {byte : ℕ} → Byte byte → byte ≢ 10 → split.comment (split.kind_of byte) ≡ step.Pass place.Comment
passes_comment line_feed isnt = absurd (isnt refl)
passes_comment space isnt = refl
passes_comment tab isnt = refl
passes_comment quote isnt = refl
passes_comment double_quote isnt = refl
passes_comment backslash isnt = refl
passes_comment hash isnt = refl
passes_comment dollar isnt = refl
passes_comment backtick isnt = refl
passes_comment (other byte is) isnt = ap split.comment is.is

-- ---- in quotes

pub takes_literal : {byte : ℕ} → Byte byte → byte ≢ 39 → split.literal (split.kind_of byte) ≡ step.Take place.Literal
takes_literal line_feed isnt = refl
takes_literal space isnt = refl
takes_literal tab isnt = refl
takes_literal quote isnt = absurd (isnt refl)
takes_literal double_quote isnt = refl
takes_literal backslash isnt = refl
takes_literal hash isnt = refl
takes_literal dollar isnt = refl
takes_literal backtick isnt = refl
takes_literal (other byte is) isnt = ap split.literal is.is

pub takes_quoted : {byte : ℕ} → Byte byte → byte ≢ 34 → byte ≢ 92 → split.in_double_quotes (split.kind_of byte) ≡ step.Take place.Quoted
takes_quoted line_feed isnt nor = refl
takes_quoted space isnt nor = refl
takes_quoted tab isnt nor = refl
takes_quoted quote isnt nor = refl
takes_quoted double_quote isnt nor = absurd (isnt refl)
takes_quoted backslash isnt nor = absurd (nor refl)
takes_quoted hash isnt nor = refl
takes_quoted dollar isnt nor = refl
takes_quoted backtick isnt nor = refl
takes_quoted (other byte is) isnt nor = ap split.in_double_quotes is.is

pub takes_taken : {byte : ℕ} → Byte byte → is_taken byte ≡ true → split.quoted_escaped (split.kind_of byte) ≡ step.Take place.Quoted
takes_taken line_feed e = absurd (cc)
takes_taken space e = absurd (cc)
takes_taken tab e = absurd (cc)
takes_taken quote e = absurd (cc)
takes_taken double_quote e = refl
takes_taken backslash e = refl
takes_taken hash e = absurd (cc)
takes_taken dollar e = refl
takes_taken backtick e = refl
takes_taken (other byte is) e = let isnt : is_taken byte ≡ false = is.taken in absurd (cc)

pub keeps : {byte : ℕ} → Byte byte → is_taken byte ≡ false → byte ≢ 10 → split.quoted_escaped (split.kind_of byte) ≡ step.Keep place.Quoted
keeps line_feed e isnt = absurd (isnt refl)
keeps space e isnt = refl
keeps tab e isnt = refl
keeps quote e isnt = refl
keeps double_quote e isnt = absurd (cc)
keeps backslash e isnt = absurd (cc)
keeps hash e isnt = refl
keeps dollar e isnt = absurd (cc)
keeps backtick e isnt = absurd (cc)
keeps (other byte is) e isnt = ap split.quoted_escaped is.is
