-- Which packages and links make a graph.
use Rattle.std.specs.Prelude.{◌≡◌, ℕ, List, true, false, Some, Result, Ok, Err, ⊤, Bool, String, map, is_none}
use Rattle.std.specs.List.{list_any}
use Rattle.std.specs.BTreeMap.{BTreeMap}
use denote.Ref.{Bor}
use Rattle.nextest_filtering_graph.specs.Graph.{Graph, ids, has_repeat, places_of_link, IsIndex}
use Rattle.nextest_filtering_graph.specs.declared.graph_error.GraphError.{GraphError}
use Rattle.nextest_filtering_graph.specs.declared.graph_error.GraphError.TheVariants as error
use Rattle.nextest_filtering_graph.specs.declared.graph_fault.GraphFault.TheVariants as refused

-- pairs of texts that are lent
abbrev pub lent_pairs : List (Bor (List ℕ) × Bor (List ℕ)) → List (List ℕ × List ℕ)
lent_pairs pairs = map (λ pair. (pair.0.now, pair.1.now)) pairs

-- an index of ids that each stand once; an id that stands twice is told
abbrev pub Indexes : {Y : Type 0} → List (List ℕ) → Result (BTreeMap (String Y) ℕ) GraphError → Type 0
Indexes known (Ok index) = IsIndex index known × (has_repeat known ≡ false)
Indexes known (Err (error.Refused refused.RepeatedPackage)) = has_repeat known ≡ true
Indexes known (Err (error.Refused refused.UnknownLink)) = ⊥
Indexes known (Err error.OutOfMemory) = ⊤

-- some link has an end that is no package
abbrev pub has_unknown : List (List ℕ) → List (List ℕ × List ℕ) → Bool
has_unknown known links = list_any (λ link. is_none (places_of_link known link)) links

-- links by the places of their ends; an end that is no package is told
abbrev pub Places : {V : Type 0} → (V → List (ℕ × ℕ)) → List (List ℕ) → List (List ℕ × List ℕ) → Result V GraphError
    → Type 0
Places items known links (Ok places) = map Some (items places) ≡ map (places_of_link known) links
Places items known links (Err (error.Refused refused.RepeatedPackage)) = ⊥
Places items known links (Err (error.Refused refused.UnknownLink)) = has_unknown known links ≡ true
Places items known links (Err error.OutOfMemory) = ⊤

-- the graph of packages with ids of their own and of links between them: the packages as they are
-- given, and each link by the places of its ends
pub record IsGraphOf (packages links : List (List ℕ × List ℕ)) (graph : Graph) : Type 0 where
  pub distinct : has_repeat (ids packages) ≡ false
  pub packages_are : graph.packages ≡ packages
  pub links_are : map Some graph.links ≡ map (places_of_link (ids packages)) links

-- what packages and links give: their graph; else the reason, a repeated id before an unknown end;
-- want of memory says nothing
abbrev pub Makes : List (List ℕ × List ℕ) → List (List ℕ × List ℕ) → Result Graph GraphError → Type 0
Makes packages links (Ok graph) = IsGraphOf packages links graph
Makes packages links (Err (error.Refused refused.RepeatedPackage)) = has_repeat (ids packages) ≡ true
Makes packages links (Err (error.Refused refused.UnknownLink)) =
    (has_repeat (ids packages) ≡ false) × (has_unknown (ids packages) links ≡ true)
Makes packages links (Err error.OutOfMemory) = ⊤
