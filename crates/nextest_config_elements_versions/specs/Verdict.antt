-- Which of the versions that a list of sources asks for counts, and what a version is by them.
use Rattle.std.specs.Prelude.{◌≡◌, true, not, List, [], ◌∷◌, ◌++◌, Option, None, Some, if◌then◌else◌}
use Rattle.std.specs.List.{list_all}
use Rattle.semver.specs.Parse.{Parts}
use Rattle.nextest_version.specs.Order.{is_above}
use Rattle.nextest_config_elements_versions.specs.declared.asked_versions.AskedVersions.{AskedVersions}
use Rattle.nextest_config_elements_versions.specs.declared.version_config.NextestVersionConfig.{NextestVersionConfig}
use Rattle.nextest_config_elements_versions.specs.declared.version_req.NextestVersionReq.{NextestVersionReq}
use Rattle.nextest_config_elements_versions.specs.declared.version_req.NextestVersionReq.TheVariants as req
use Rattle.nextest_config_elements_versions.specs.declared.origin.VersionOrigin.{VersionOrigin}

-- a version that is asked for, and by which source
abbrev pub Ask : Type 0
Ask = Parts × VersionOrigin

-- of versions that are asked for, the lowest source first, this one counts: none is above it, and
-- each that a later source asks for is below it
pub record Counts (asks : List Ask) (ask : Ask) : Type 0 where
  pub before : List Ask
  pub behind : List Ask
  pub whole : asks ≡ before ++ ask ∷ behind
  pub none_above : list_all (λ other. not (is_above other.0 ask.0)) before ≡ true
  pub later_below : list_all (λ other. is_above ask.0 other.0) behind ≡ true

-- what counts of a role is kept, and nothing where none is asked for
abbrev pub IsReq : List Ask → NextestVersionReq → Type 0
IsReq asks (req.Version version source) = Counts asks (version, source)
IsReq asks req.None = asks ≡ []

-- the version that is kept
abbrev pub req_version_of : NextestVersionReq → Option Parts
req_version_of (req.Version version source) = Some version
req_version_of req.None = None

-- what counts of one source, and of none
abbrev pub asked_by : Option Parts → VersionOrigin → NextestVersionReq
asked_by (Some version) source = req.Version version source
asked_by None source = req.None

abbrev pub asked_in : AskedVersions → VersionOrigin → NextestVersionConfig
asked_in asked source = record { required = asked_by asked.required source; recommended = asked_by asked.recommended source }

abbrev pub none_asked : NextestVersionConfig
none_asked = record { required = req.None; recommended = req.None }

-- what a version is by those that count: required is judged first
pub data Verdict : Type 0 where
  satisfied : Verdict
  error : Parts → VersionOrigin → Verdict
  warn : Parts → VersionOrigin → Verdict

-- by what is recommended, by what is required
abbrev pub recommended_verdict : NextestVersionReq → Parts → Verdict
recommended_verdict (req.Version version source) current = if is_above version current then warn version source else satisfied
recommended_verdict req.None current = satisfied

abbrev pub verdict_by : NextestVersionReq → NextestVersionReq → Parts → Verdict
verdict_by (req.Version version source) recommended current = if is_above version current then error version source else recommended_verdict recommended current
verdict_by req.None recommended current = recommended_verdict recommended current

abbrev pub verdict : NextestVersionConfig → Parts → Verdict
verdict config current = verdict_by config.required config.recommended current

-- two parts of a list, each with what counts of it: the later one's, unless that of the former is
-- above it
abbrev pub later_of : NextestVersionReq → NextestVersionReq → NextestVersionReq
later_of one req.None = one
later_of req.None (req.Version version source) = req.Version version source
later_of (req.Version former asked_by) (req.Version version source) =
    if is_above former version then req.Version former asked_by else req.Version version source

abbrev pub merged_versions : NextestVersionConfig → NextestVersionConfig → NextestVersionConfig
merged_versions one other = record { required = later_of one.required other.required; recommended = later_of one.recommended other.recommended }
