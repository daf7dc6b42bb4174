-- The graph of a workspace: a checked one has it, and it is this one.
use Rattle.std.proofs.Common.{◌≡◌, ℕ, ◌+◌, Bool, true, false, not, ◌||◌, List, [], ◌∷◌, map, Option, None, Some, Err, cond, refl, sym, ap, ◌∙◌}
use Rattle.std.specs.List.{cons_option, filter_map, list_all, list_any, position_from}
use Rattle.std.specs.Prelude.{is_none, if◌then◌else◌}
use Rattle.std.specs.Str.{bytes_eq}
use Rattle.std.proofs.lemmas.Bool.{and_parts}
use Rattle.nextest_filtering_graph.specs.Graph.{Graph, both, ids, place_of, places_of_link}
use Rattle.nextest_filtering_graph.specs.Graph as making
use Rattle.nextest_filtering_graph.specs.Making.{IsGraphOf, Makes, has_unknown}
use Rattle.nextest_filtering_graph.specs.declared.graph_error.GraphError.TheVariants as error
use Rattle.nextest_filtering_graph.specs.declared.graph_fault.GraphFault.{GraphFault}
use Rattle.nextest_filtering_graph.specs.declared.graph_fault.GraphFault.TheVariants as bad
use Rattle.test_runner_core_workspace.specs.Workspace.{has_repeat, is_among, is_bad_id, is_known_link, package_ids, binary_ids, refusal_of}
use Rattle.test_runner_core_workspace.specs.declared.record.Link.{Link}
use Rattle.test_runner_core_workspace.specs.declared.record.Package.{Package}
use Rattle.test_runner_core_workspace.specs.declared.record.WorkspaceRecord.{WorkspaceRecord}
use Rattle.test_runner_core_workspace.specs.declared.workspace_fault.WorkspaceFault.{WorkspaceFault}
use Rattle.test_runner_core_workspace.specs.declared.workspace_fault.WorkspaceFault.TheVariants as refused
use Rattle.test_runner_core_planning.specs.Filtering.{graph_of, pairs_of_links, pairs_of_packages}

-- ---- a checked workspace

-- of a workspace that isn't refused ids differ, and the ends of links are known
record IsSound (workspace : WorkspaceRecord) : Type 0 where
  distinct : has_repeat (package_ids workspace) ≡ false
  known : list_all (is_known_link (is_among (package_ids workspace))) workspace.links ≡ true

sound : (workspace : WorkspaceRecord) → refusal_of workspace ≡ None → IsSound workspace
sound workspace e =
    let is_known = is_among (package_ids workspace) in
    by_tests (has_repeat (package_ids workspace)) refl (list_all (is_known_link is_known) workspace.links) refl
    (if has_repeat (binary_ids workspace) then Some refused.RepeatedBinary
    else if not (list_all (λ binary. is_known binary.package) workspace.binaries) then Some refused.UnknownPackage
    else if list_any is_bad_id (binary_ids workspace) then Some refused.BadId
    else None)
    e
  where
    by_tests : (repeated : Bool) → has_repeat (package_ids workspace) ≡ repeated → (known : Bool) → list_all (is_known_link (is_among (package_ids workspace))) workspace.links ≡ known → (rest : Option WorkspaceFault)
        → (if repeated then Some refused.RepeatedPackage else if not known then Some refused.UnknownLink else rest) ≡ None → IsSound workspace
    by_tests true r known k rest h = absurd (let f = h in cc)
    by_tests false r false k rest h = absurd (let f = h in cc)
    by_tests false r true k rest h = record { distinct = r; known = k }

same_ids : (packages : List Package) → ids (pairs_of_packages packages) ≡ map (λ (it : Package). it.id) packages
same_ids [] = refl
same_ids (first ∷ packages) = ap (λ (l : List (List ℕ)). first.id ∷ l) (same_ids packages)

same_repeat : (texts : List (List ℕ)) → making.has_repeat texts ≡ has_repeat texts
same_repeat [] = refl
same_repeat (text ∷ texts) = ap (λ (b : Bool). list_any (bytes_eq text) texts || b) (same_repeat texts)

-- what is among texts has a place
has_place : (id : List ℕ) (texts : List (List ℕ)) (n : ℕ) → list_any (bytes_eq id) texts ≡ true → is_none (position_from (bytes_eq id) n texts) ≡ false
has_place id [] n e = absurd (let f : false ≡ true = e in cc)
has_place id (text ∷ texts) n e = by_first (bytes_eq id text) refl (has_place id texts (n + 1))
  where
    by_first : (b : Bool) → bytes_eq id text ≡ b → (list_any (bytes_eq id) texts ≡ true → is_none (position_from (bytes_eq id) (n + 1) texts) ≡ false)
        → is_none (position_from (bytes_eq id) n (text ∷ texts)) ≡ false
    by_first true is more = ap (λ (b : Bool). is_none (cond b (Some n) (position_from (bytes_eq id) (n + 1) texts))) is
    by_first false is more =
        ap (λ (b : Bool). is_none (cond b (Some n) (position_from (bytes_eq id) (n + 1) texts))) is
        ∙ more (sym (ap (λ (b : Bool). b || list_any (bytes_eq id) texts) is) ∙ e)

two_places : (from to : Option ℕ) → is_none from ≡ false → is_none to ≡ false → is_none (both from to) ≡ false
two_places (Some from) (Some to) f t = refl
two_places (Some from) None f t = t
two_places None to f t = f

none_unknown : (texts : List (List ℕ)) (links : List Link) → list_all (is_known_link (is_among texts)) links ≡ true → has_unknown texts (pairs_of_links links) ≡ false
none_unknown texts [] e = refl
none_unknown texts (link ∷ links) e =
    let parts = and_parts (is_known_link (is_among texts) link) (list_all (is_known_link (is_among texts)) links) e in
    let ends = and_parts (is_among texts link.from) (is_among texts link.to) parts.0 in
    ap (λ (b : Bool). b || has_unknown texts (pairs_of_links links))
    (two_places (place_of texts link.from) (place_of texts link.to) (has_place link.from texts 0 ends.0) (has_place link.to texts 0 ends.1))
    ∙ none_unknown texts links parts.1

-- so its graph isn't refused
pub never_refused : (workspace : WorkspaceRecord) (refusal : GraphFault) → refusal_of workspace ≡ None
    → Makes (pairs_of_packages workspace.packages) (pairs_of_links workspace.links) (Err (error.Refused refusal)) → ⊥
never_refused workspace bad.RepeatedPackage e makes =
    let distinct : making.has_repeat (ids (pairs_of_packages workspace.packages)) ≡ false =
    ap making.has_repeat (same_ids workspace.packages) ∙ same_repeat (package_ids workspace) ∙ (sound workspace e).distinct in
    absurd (let f : true ≡ false = sym makes ∙ distinct in cc)
never_refused workspace bad.UnknownLink e makes =
    let known : has_unknown (ids (pairs_of_packages workspace.packages)) (pairs_of_links workspace.links) ≡ false =
    ap (λ (texts : List (List ℕ)). has_unknown texts (pairs_of_links workspace.links)) (same_ids workspace.packages)
    ∙ none_unknown (package_ids workspace) workspace.links (sound workspace e).known in
    absurd (let f : true ≡ false = sym makes.1 ∙ known in cc)

-- ---- the context

-- all of some that are there are those that are
kept_all : {A B : Type 0} (f : A → Option B) (xs : List A) (ys : List B) → map Some ys ≡ map f xs → ys ≡ filter_map f xs
kept_all f [] [] e = refl
kept_all f [] (y ∷ ys) e = absurd (let g = e in cc)
kept_all f (x ∷ xs) [] e = absurd (let g = e in cc)
kept_all f (x ∷ xs) (y ∷ ys) e =
    let first : Some y ≡ f x = let g = e in cc in
    let more : map Some ys ≡ map f xs = let g = e in cc in
    ap (λ rest. y ∷ rest) (kept_all f xs ys more) ∙ ap (λ found. cons_option found (filter_map f xs)) first

-- the graph of a workspace's packages and links is its graph
pub same_graph : (workspace : WorkspaceRecord) (graph : Graph) → IsGraphOf (pairs_of_packages workspace.packages) (pairs_of_links workspace.links) graph → graph ≡ graph_of workspace
same_graph workspace graph is =
    let links = kept_all (places_of_link (ids (pairs_of_packages workspace.packages))) (pairs_of_links workspace.links) graph.links is.links_are in
    λ i. record { packages = is.packages_are i; links = links i }
