use Rattle.std.proofs.Common.{◌∷◌, ap, ◌∙◌, sym, map}
use Rattle.std.proofs.lemmas.List.{nil_from_length}
use Rattle.serde_json.specs.View.{view}
use Rattle.nextest_json.specs.Left.{items_left}
use Rattle.nextest_json.proofs.Lists.{at_places, in_trees, none_left, rest_there, first_there, next_seen}
use Rattle.nextest_json.proofs.items.JsonItems.next.Goals as goal

pub of_document-requires : goal.of_document-requires
of_document-requires c = first_there _ _ _ _ (at_places c.args.self.now c.in-Document.items c.in-Document.is) c.in-Some.ensures.cases.0

pub invariant_of-self : goal.invariant_of-self
invariant_of-self c = record { there = rest_there _ _ _ _ (at_places c.args.self.now c.in-Document.items c.in-Document.is) c.in-Some.ensures.cases.0 }

pub returns-in-Some-clause-some : goal.returns-in-Some-clause-some
unfolding items_left
returns-in-Some-clause-some c = next_seen _ _ _ _ _ (at_places c.args.self.now c.in-Document.items c.in-Document.is) c.in-Some.ensures.cases.0 c.of_document.ensures

pub returns-in-None-clause-none : goal.returns-in-None-clause-none
returns-in-None-clause-none c = none_left _ _ (at_places c.args.self.now c.in-Document.items c.in-Document.is) (nil_from_length c.in-Document.items.now c.in-None.ensures.cases)

pub returns-in-Some-split_first-clause-some : goal.returns-in-Some-split_first-clause-some
unfolding items_left
returns-in-Some-split_first-clause-some c =
    sym (in_trees c.args.self.now c.in-Trees.values c.in-Trees.is)
    ∙ ap (map view) c.in-Some-split_first.ensures.cases.0
    ∙ ap (λ d. d ∷ map view c.in-Some-split_first.more.now) (sym c.of_tree.ensures)

pub returns-in-None-split_first-clause-none : goal.returns-in-None-split_first-clause-none
returns-in-None-split_first-clause-none c = sym (in_trees c.args.self.now c.in-Trees.values c.in-Trees.is) ∙ ap (map view) (nil_from_length c.in-Trees.values.now c.in-None-split_first.ensures.cases)
