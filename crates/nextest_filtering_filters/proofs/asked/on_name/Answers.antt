use Rattle.std.proofs.Common.{false, sym, subst, refl}
use Rattle.std.proofs.lemmas.Result.{IfOk-weaker}
use Rattle.nextest_filtering_filters.specs.Asking.{IsFor, IsLeafValue}
use Rattle.nextest_filtering_filters.specs.Filter.{leaf_at}
use Rattle.nextest_filtering_filters.specs.declared.leaf.FiltersetLeaf.{FiltersetLeaf}
use Rattle.nextest_filtering_filters.proofs.ByName.{asked_for, nothing_for}
use Rattle.nextest_filtering_filters.proofs.Lists.{zip_set}
use Rattle.nextest_filtering_filters.proofs.asked.on_name.Goals as goal

pub returns-then-leaf-asked-clause-value : goal.returns-then-leaf-asked-clause-value
returns-then-leaf-asked-clause-value c =
    IfOk-weaker c.on_name.result _ _
    (λ value told. λ binary leaves all. told binary (leaf_at leaves c.args.leaf) (asked_for (IsFor binary) leaves c.args.asked.now c.args.leaf c.index-asked-leaf.result c.if-leaf-asked.true all)) c.on_name.ensures.value

pub returns-then-leaf-asked-clause-stays : goal.returns-then-leaf-asked-clause-stays
returns-then-leaf-asked-clause-stays c = λ binary leaves all.
    zip_set (IsFor binary) leaves c.args.asked.now c.args.leaf c.index-asked-leaf.result c.on_name.new.self c.if-leaf-asked.true c.index-asked-leaf.is
    (λ leaf is. c.on_name.ensures.stays binary leaf (subst (IsFor binary leaf) c.index-asked-leaf.is is)) all

pub returns-else-leaf-asked-clause-value : goal.returns-else-leaf-asked-clause-value
returns-else-leaf-asked-clause-value c = λ binary leaves all.
    subst (λ (it : FiltersetLeaf). IsLeafValue binary c.args.name.now (λ m. ⊥) c.args.default it false) (sym (nothing_for (IsFor binary) leaves c.args.asked.now c.args.leaf c.if-leaf-asked.false all)) refl
