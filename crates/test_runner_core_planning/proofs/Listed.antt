-- A plan lists exactly the binaries on which each of its filters can hold.
use Rattle.std.proofs.Common.{◌≡◌, ℕ, List, Bool, true, false, sym, ap, ◌∙◌, subst}
use Rattle.std.specs.List.{Contains, filter}
use Rattle.test_runner_core_listing.specs.Listing.{ids_of}
use Rattle.test_runner_core_planning.specs.Laws.{ListsExactly}
use Rattle.test_runner_core_planning.specs.Checks.{listed_in}
use Rattle.test_runner_core_planning.proofs.Elements.{filter_has, has_of_filter, has_of_map, map_has, same_binary}
use Rattle.test_runner_core_planning.proofs.NoneTwice.{planned_apart}
use Rattle.test_runner_core_planning.proofs.Selected.{plan_answers}
use Rattle.test_runner_core_workspace.specs.Workspace.{has_repeat}
use Rattle.test_runner_core_workspace.specs.declared.record.Binary.{Binary}

-- an id among those of the binaries that pass is of a binary that passes
passes_by_id : (passes : Binary → Bool) (binaries : List Binary) (binary : Binary) → has_repeat (ids_of binaries) ≡ false → Contains binaries binary
    → Contains (ids_of (filter passes binaries)) binary.id → passes binary ≡ true
passes_by_id passes binaries binary apart among has =
    let made = has_of_map (λ (b : Binary). b.id) (filter passes binaries) binary.id has in
    let it = has_of_filter passes binaries made.of made.among in
    ap passes (sym (same_binary binaries made.of binary apart it.among among made.made)) ∙ it.passes

pub lists_exactly : ListsExactly
lists_exactly answer inputs plan choice force (it, planned, built) settles is binary among =
    let are = plan_answers answer inputs it choice force planned settles is in
    let tells = are.lists binary in (
      λ has.
          tells.0 (passes_by_id it.answers.lists inputs.workspace.binaries binary (planned_apart answer inputs it planned) among
          (subst (λ (ids : List (List ℕ)). Contains ids binary.id) built.listed has)),
      λ can.
          subst (λ (ids : List (List ℕ)). Contains ids binary.id) (sym built.listed)
          (map_has (λ (b : Binary). b.id) (listed_in inputs it.answers) binary
          (filter_has it.answers.lists inputs.workspace.binaries binary among (tells.1 can))),
    )
