-- The texts of warnings.
use Rattle.std.specs.Prelude.{ℕ, List, [], ◌++◌, codes}
use Rattle.nextest_config_resolution_warnings.specs.Shown.{one_line_of}
use Rattle.semver.specs.Identifiers.{parts_text}
use Rattle.semver.specs.Parse.{Parts}

-- how a warning ends where it is let pass, and where it isn't
abbrev pub overridden : List ℕ
overridden = codes " (overridden)"

abbrev pub plain : List ℕ
plain = []

-- that the current version is below one that the source at a path asks for
abbrev pub version_text : List ℕ → Parts → Parts → List ℕ → List ℕ → List ℕ
version_text role asked current path end =
    codes "version " ++ (role ++ (codes " " ++ (parts_text asked ++ (codes " current " ++ (parts_text current ++ (codes " by " ++ (one_line_of path ++ end)))))))
