-- Why a line can't be read.
use Rattle.test_runner_core_line_syntax.specs.declared.parse_line_error.ParseLineError.{ParseLineError}
use Rattle.test_runner_core_line_syntax.specs.declared.parse_line_error.ParseLineError.TheVariants as fault
use Rattle.test_runner_core_line_syntax.specs.declared.spelling_error.SpellingError.{SpellingError}
use Rattle.test_runner_core_line_syntax.specs.declared.spelling_error.SpellingError.TheVariants as spelling

-- why bytes spell no event is why they aren't read
abbrev pub as_told : SpellingError → ParseLineError
as_told spelling.NotUtf8 = fault.NotUtf8
as_told spelling.BadLine = fault.BadLine
