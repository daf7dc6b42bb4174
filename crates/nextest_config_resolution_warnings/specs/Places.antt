-- What may stand at the places of a configuration file.
use Rattle.std.specs.Prelude.{ℕ, Bool, false, List, [], ◌∷◌, codes, Option, None, Some, if◌then◌else◌, unwrap_or}
use Rattle.std.specs.Option.{option_map, option_map_or}
use Rattle.std.specs.Str.{bytes_eq}
use Rattle.toml.specs.Data.{Data, string, Members, get_member}
use Rattle.nextest_config_resolution_keys.specs.Rows.{known}
use Rattle.nextest_config_resolution_keys.specs.declared.known.Known.{Known}
use Rattle.nextest_config_resolution_keys.specs.declared.known.Known.TheVariants as there
use Rattle.nextest_config_resolution_warnings.specs.Listed.{rows_of}
use Rattle.nextest_config_resolution_warnings.specs.declared.kind.Kind.{Kind}
use Rattle.nextest_config_resolution_warnings.specs.declared.kind.Kind.TheVariants.{Top, VersionTable, Store, Profiles, FailFast, Retries, FixedRetries, SlowTimeout, LeakTimeout, Overrides, ScriptRules, TestGroups, TestGroup, Scripts, SetupScripts, SetupScript, SetupScriptJunit, Wrappers, Wrapper, Command, Anything}
use Rattle.nextest_config_resolution_warnings.specs.declared.kind.Kind.TheVariants as kinds
use Rattle.nextest_config_resolution_warnings.specs.declared.listed.Listed.{Listed}
use Rattle.nextest_config_resolution_warnings.specs.declared.listed.Listed.TheVariants as lists

-- what stands at a place: something of a kind, or a table at a key of one with listed keys, in which
-- more of these stand
pub data Place : Type 0 where
  kind : Kind → Place
  within : Listed → List ℕ → Place

-- keys, each with what stands there
abbrev pub Rows : Type 0
Rows = List (List ℕ × Kind)

-- the keys that a table may have: these alone; or any, with the same at each; or those of a list,
-- which stand in it, or in its table at a key
pub data Keys : Type 0 where
  these : Rows → Keys
  any : Kind → Keys
  listed : Listed → Option (List ℕ) → Keys

-- a key with a kind of its own, and one that has anything
abbrev pub at : List ℕ → Kind → List ℕ × Kind
at key it = (key, it)

abbrev pub plain : List ℕ → List ℕ × Kind
plain key = (key, Anything)

-- the keys that a table of a kind may have
unfoldable pub keys_at : Kind → Keys
keys_at Top = these (
    at (codes "nextest-version") VersionTable ∷ at (codes "experimental") Anything ∷ at (codes "store") Store ∷
    at (codes "profile") Profiles ∷ at (codes "test-groups") TestGroups ∷ at (codes "scripts") Scripts ∷
    at (codes "script") SetupScripts ∷ [])
keys_at VersionTable = these (plain (codes "required") ∷ plain (codes "recommended") ∷ [])
keys_at Store = these (plain (codes "dir") ∷ [])
keys_at Profiles = any (kinds.Listed lists.Profile)
keys_at (kinds.Listed it) = listed it None
keys_at FailFast = these (plain (codes "max-fail") ∷ plain (codes "terminate") ∷ [])
keys_at Retries = these (
    plain (codes "backoff") ∷ plain (codes "count") ∷ plain (codes "delay") ∷ plain (codes "jitter") ∷ plain (codes "max-delay") ∷ [])
keys_at FixedRetries = these (plain (codes "backoff") ∷ plain (codes "count") ∷ plain (codes "delay") ∷ plain (codes "jitter") ∷ [])
keys_at SlowTimeout = these (
    plain (codes "period") ∷ plain (codes "terminate-after") ∷ plain (codes "grace-period") ∷ plain (codes "on-timeout") ∷ [])
keys_at LeakTimeout = these (plain (codes "period") ∷ plain (codes "result") ∷ [])
keys_at Overrides = any Anything
keys_at ScriptRules = any Anything
keys_at TestGroups = any TestGroup
keys_at TestGroup = these (plain (codes "max-threads") ∷ [])
keys_at Scripts = these (at (codes "setup") SetupScripts ∷ at (codes "wrapper") Wrappers ∷ [])
keys_at SetupScripts = any SetupScript
keys_at SetupScript = these (
    at (codes "command") Command ∷ at (codes "slow-timeout") SlowTimeout ∷ at (codes "leak-timeout") LeakTimeout ∷
    plain (codes "capture-stdout") ∷ plain (codes "capture-stderr") ∷ at (codes "junit") SetupScriptJunit ∷ [])
keys_at SetupScriptJunit = these (plain (codes "store-success-output") ∷ plain (codes "store-failure-output") ∷ [])
keys_at Wrappers = any Wrapper
keys_at Wrapper = these (at (codes "command") Command ∷ plain (codes "target-runner") ∷ [])
keys_at Command = these (plain (codes "command-line") ∷ plain (codes "env") ∷ plain (codes "relative-to") ∷ [])
keys_at Anything = any Anything

-- what stands at a key, if it is one of some
abbrev pub named_in : Rows → List ℕ → Option Kind
named_in [] key = None
named_in (row ∷ rows) key = if bytes_eq key row.0 then Some row.1 else named_in rows key

-- what the value of a listed key is: one that has keys or items of its own, or anything
abbrev pub values : Rows
values =
    at (codes "fail-fast") FailFast ∷ at (codes "retries") Retries ∷ at (codes "slow-timeout") SlowTimeout ∷
    at (codes "leak-timeout") LeakTimeout ∷ at (codes "platform") (kinds.Listed lists.Platforms) ∷
    at (codes "overrides") Overrides ∷ at (codes "scripts") ScriptRules ∷ []

abbrev pub value_at : List ℕ → Kind
value_at key = unwrap_or (named_in values key) Anything

-- what stands at a key of a table with listed keys, where one of them stands there or below; and at
-- a key of a table in it, below which none stands
abbrev pub at_listed : Listed → List ℕ → Known → Place
at_listed list key there.Value = kind (value_at key)
at_listed list key there.Table = within list key

abbrev pub in_table : Listed → List ℕ → Option Place
in_table list key = option_map (at_listed list key) (known (rows_of list) (key ∷ []))

abbrev pub at_deeper : List ℕ → Known → Place
at_deeper key there.Value = kind (value_at key)
at_deeper key there.Table = kind Anything

abbrev pub below_table : Listed → List ℕ → List ℕ → Option Place
below_table list above key = option_map (at_deeper key) (known (rows_of list) (above ∷ key ∷ []))

-- what stands at a key, if a table may have it
abbrev pub place_of : Keys → List ℕ → Option Place
place_of (these rows) key = option_map kind (named_in rows key)
place_of (any it) key = Some (kind it)
place_of (listed list None) key = in_table list key
place_of (listed list (Some above)) key = below_table list above key

-- what stands at each position of a list at a place
abbrev pub items_at : Place → Place
items_at (kind Overrides) = kind (kinds.Listed lists.Override)
items_at (kind ScriptRules) = kind (kinds.Listed lists.ScriptRule)
items_at _ = kind Anything

-- a table sets equal delays
abbrev pub is_fixed : Data → Bool
is_fixed (string text) = bytes_eq text (codes "fixed")
is_fixed _ = false

abbrev pub has_fixed_delays : Members → Bool
has_fixed_delays members = option_map_or is_fixed (get_member (codes "backoff") members) false

-- the keys that this table at a place may have: a longest delay has no meaning beside equal ones
abbrev pub keys_in : Place → Members → Keys
keys_in (kind Retries) members = keys_at (if has_fixed_delays members then FixedRetries else Retries)
keys_in (kind it) _ = keys_at it
keys_in (within list above) _ = listed list (Some above)
