use Rattle.std.proofs.Common.{IfOk, subst, sym}
use Rattle.nextest_filtering_ast.specs.declared.leaf.ParsedLeaf.{ParsedLeaf}
use Rattle.nextest_filtering_compiling.specs.Outcomes.{IsOutcome}
use Rattle.nextest_filtering_compiling.proofs.compile.compile_leaf.Goals as goal

pub returns-in-Package : goal.returns-in-Package
returns-in-Package c =
    subst (λ (it : ParsedLeaf). IfOk c.about_packages.result (IsOutcome c.args.cx.now c.args.known.now it)) (sym c.in-Package.is) (c.about_packages.ensures c.args.known.now)

pub returns-in-Deps : goal.returns-in-Deps
returns-in-Deps c =
    subst (λ (it : ParsedLeaf). IfOk c.about_packages-in-Deps.result (IsOutcome c.args.cx.now c.args.known.now it)) (sym c.in-Deps.is) (c.about_packages-in-Deps.ensures c.args.known.now)

pub returns-in-Rdeps : goal.returns-in-Rdeps
returns-in-Rdeps c =
    subst (λ (it : ParsedLeaf). IfOk c.about_packages-in-Rdeps.result (IsOutcome c.args.cx.now c.args.known.now it)) (sym c.in-Rdeps.is) (c.about_packages-in-Rdeps.ensures c.args.known.now)

pub returns-in-Binary : goal.returns-in-Binary
returns-in-Binary c =
    subst (λ (it : ParsedLeaf). IfOk c.about_name.result (IsOutcome c.args.cx.now c.args.known.now it)) (sym c.in-Binary.is) (c.about_name.ensures c.args.known.now)

pub returns-in-BinaryId : goal.returns-in-BinaryId
returns-in-BinaryId c =
    subst (λ (it : ParsedLeaf). IfOk c.about_id.result (IsOutcome c.args.cx.now c.args.known.now it)) (sym c.in-BinaryId.is) (c.about_id.ensures c.args.known.now)

pub returns-in-Group : goal.returns-in-Group
returns-in-Group c =
    subst (λ (it : ParsedLeaf). IfOk c.about_group.result (IsOutcome c.args.cx.now c.args.known.now it)) (sym c.in-Group.is) (c.about_group.ensures c.args.cx.now)
