use Rattle.std.proofs.Common.{map}
use Rattle.nextest_config_resolution_load.specs.Checks.{config_in}
use Rattle.nextest_config_resolution_load.specs.Load.{named_of}
use Rattle.nextest_config_resolution_load.specs.Reading.{values_of}
use Rattle.nextest_config_resolution_load.proofs.Configs.{groups_refused, profiles_refused, scripts_refused, store_refused}
use Rattle.nextest_config_resolution_load.proofs.Tops.{handed_on}
use Rattle.nextest_config_resolution_load.proofs.reading.read_config.Goals as goal

pub returns-in_err-profiles-clause-read : goal.returns-in_err-profiles-clause-read
returns-in_err-profiles-clause-read c top is =
    let told = c.in_err-profiles.field-0.0 in
    handed_on values_of c.from_residual.result told (config_in top) c.from_residual.ensures.1 (profiles_refused top told (c.in_err-profiles.ensures.read top is))

pub returns-in_err-scripts-clause-read : goal.returns-in_err-scripts-clause-read
returns-in_err-scripts-clause-read c top is =
    let told = c.in_err-scripts.field-0.0 in
    let passed = c.from_residual-in_err-scripts in
    handed_on values_of passed.result told (config_in top) passed.ensures.1
    (scripts_refused top (map named_of c.in_ok-profiles.profiles) told (c.in_ok-profiles.ensures.read top is) (c.in_err-scripts.ensures top is))

pub returns-in_err-store_dir-clause-read : goal.returns-in_err-store_dir-clause-read
returns-in_err-store_dir-clause-read c top is =
    let told = c.in_err-store_dir.field-0.0 in
    let passed = c.from_residual-in_err-store_dir in
    handed_on values_of passed.result told (config_in top) passed.ensures.1
    (store_refused top (map named_of c.in_ok-profiles.profiles) c.in_ok-scripts.scripts told (c.in_ok-profiles.ensures.read top is) (c.in_ok-scripts.ensures top is)
    (c.in_err-store_dir.ensures top is))

pub returns-in_err-groups-clause-read : goal.returns-in_err-groups-clause-read
returns-in_err-groups-clause-read c top is =
    let told = c.in_err-groups.field-0.0 in
    let passed = c.from_residual-in_err-groups in
    handed_on values_of passed.result told (config_in top) passed.ensures.1
    (groups_refused top (map named_of c.in_ok-profiles.profiles) c.in_ok-scripts.scripts c.in_ok-store_dir.store_dir told (c.in_ok-profiles.ensures.read top is)
    (c.in_ok-scripts.ensures top is) (c.in_ok-store_dir.ensures top is) (c.in_err-groups.ensures top is))
