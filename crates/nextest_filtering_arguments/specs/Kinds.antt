-- The kinds of faults.
use Rattle.std.specs.Prelude.{ℕ, List, Option, Some, None, codes}
use Rattle.nextest_filtering_ast.specs.declared.leaf.SourceSpan.{SourceSpan}
use Rattle.nextest_filtering_arguments.specs.declared.error.ParseSingleError.{ParseSingleError}
use Rattle.nextest_filtering_arguments.specs.declared.error.ParseSingleError.TheVariants as fault

-- the name of a fault's kind
abbrev pub label_of : ParseSingleError → List ℕ
label_of (fault.InvalidGlob span) = codes "InvalidGlob"
label_of (fault.InvalidRegexWithoutMessage span) = codes "InvalidRegexWithoutMessage"
label_of (fault.ExpectedCloseRegex span) = codes "ExpectedCloseRegex"
label_of (fault.InvalidOrOperator span) = codes "InvalidOrOperator"
label_of (fault.InvalidAndOperator span) = codes "InvalidAndOperator"
label_of (fault.UnexpectedArgument span) = codes "UnexpectedArgument"
label_of (fault.UnexpectedComma span) = codes "UnexpectedComma"
label_of (fault.InvalidString span) = codes "InvalidString"
label_of (fault.ExpectedOpenParenthesis span) = codes "ExpectedOpenParenthesis"
label_of (fault.ExpectedCloseParenthesis span) = codes "ExpectedCloseParenthesis"
label_of (fault.InvalidEscapeCharacter span) = codes "InvalidEscapeCharacter"
label_of (fault.ExpectedExpr span) = codes "ExpectedExpr"
label_of (fault.ExpectedEndOfExpression span) = codes "ExpectedEndOfExpression"
label_of (fault.InvalidPlatformArgument span) = codes "InvalidPlatformArgument"
label_of (fault.BannedPredicate kind span reason) = codes "BannedPredicate"
label_of (fault.NoPackageMatch span) = codes "NoPackageMatch"
label_of (fault.NoBinaryIdMatch span) = codes "NoBinaryIdMatch"
label_of (fault.NoBinaryNameMatch span) = codes "NoBinaryNameMatch"
label_of (fault.NoGroupMatch span) = codes "NoGroupMatch"

-- what to write instead
abbrev pub help_of : ParseSingleError → Option (List ℕ)
help_of (fault.InvalidGlob span) = None
help_of (fault.InvalidRegexWithoutMessage span) = None
help_of (fault.ExpectedCloseRegex span) = None
help_of (fault.InvalidOrOperator span) = Some (codes "use | instead")
help_of (fault.InvalidAndOperator span) = Some (codes "use & instead")
help_of (fault.UnexpectedArgument span) = None
help_of (fault.UnexpectedComma span) = None
help_of (fault.InvalidString span) = None
help_of (fault.ExpectedOpenParenthesis span) = None
help_of (fault.ExpectedCloseParenthesis span) = None
help_of (fault.InvalidEscapeCharacter span) = None
help_of (fault.ExpectedExpr span) = None
help_of (fault.ExpectedEndOfExpression span) = None
help_of (fault.InvalidPlatformArgument span) = None
help_of (fault.BannedPredicate kind span reason) = None
help_of (fault.NoPackageMatch span) = None
help_of (fault.NoBinaryIdMatch span) = None
help_of (fault.NoBinaryNameMatch span) = None
help_of (fault.NoGroupMatch span) = None

-- where it stands
abbrev pub span_of : ParseSingleError → SourceSpan
span_of (fault.InvalidGlob span) = span
span_of (fault.InvalidRegexWithoutMessage span) = span
span_of (fault.ExpectedCloseRegex span) = span
span_of (fault.InvalidOrOperator span) = span
span_of (fault.InvalidAndOperator span) = span
span_of (fault.UnexpectedArgument span) = span
span_of (fault.UnexpectedComma span) = span
span_of (fault.InvalidString span) = span
span_of (fault.ExpectedOpenParenthesis span) = span
span_of (fault.ExpectedCloseParenthesis span) = span
span_of (fault.InvalidEscapeCharacter span) = span
span_of (fault.ExpectedExpr span) = span
span_of (fault.ExpectedEndOfExpression span) = span
span_of (fault.InvalidPlatformArgument span) = span
span_of (fault.BannedPredicate kind span reason) = span
span_of (fault.NoPackageMatch span) = span
span_of (fault.NoBinaryIdMatch span) = span
span_of (fault.NoBinaryNameMatch span) = span
span_of (fault.NoGroupMatch span) = span
