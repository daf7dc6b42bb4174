use Rattle.std.proofs.Common.{ap}
use Rattle.worked_rows.proofs.asking.retries_of.Goals as goal

pub returns-in-Ok-settings_with_source_for : goal.returns-in-Ok-settings_with_source_for
returns-in-Ok-settings_with_source_for g c =
    let settings = c.in-Ok-settings_with_source_for.settings in
    record {
      config = c.in-Ok.config;
      loaded = c.in-Ok.ensures;
      early = c.in-Ok-profile.early;
      found = c.in-Ok-profile.ensures.exact;
      profile = c.apply_build_platforms-profile.result;
      put_on = c.apply_build_platforms-profile.ensures;
      settings = settings;
      are = c.in-Ok-settings_with_source_for.ensures;
      retries = ap (λ place. (settings.retries.0, place)) c.place_of.ensures;
    }
