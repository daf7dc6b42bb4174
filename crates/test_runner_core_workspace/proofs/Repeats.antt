-- Lists of ids that grow by one, and the set of the ids so far.
use Rattle.std.proofs.Common.{◌≡◌, ℕ, ◌+◌, ◌<◌, List, [], ◌∷◌, ◌++◌, length, get_or, take, drop, Bool, true, false, cond, ◌||◌, ◌&&◌, refl, ap, sym, ◌∙◌}
use Rattle.std.specs.List.{list_any, list_all}
use Rattle.std.specs.Str.{bytes_eq}
use Rattle.std.specs.Ordering.{nat_cmp, is_eq}
use Rattle.std.specs.Cmp.Lexicographic.{slice_cmp, nat_list_eq_equiv}
use Rattle.std.specs.BTreeSet.{BTreeSet, Updates}
use Rattle.std.proofs.lemmas.List.{take_more, map-append, take-append-drop}
use Rattle.std.proofs.lemmas.List.Folds.{list_any-append}
use Rattle.std.proofs.lemmas.Map.Text.{is_eq-slice_cmp}
use denote.Ref.{Bor}
use Rattle.test_runner_core_workspace.specs.Ids.{lent_texts, has_text}
use Rattle.test_runner_core_workspace.specs.Workspace.{is_among, has_repeat, is_known_link, is_bad_id, package_ids, refusal_by, refusal_of}
use Rattle.test_runner_core_workspace.specs.declared.record.Link.{Link}
use Rattle.test_runner_core_workspace.specs.declared.record.Binary.{Binary}
use Rattle.test_runner_core_workspace.specs.declared.record.WorkspaceRecord.{WorkspaceRecord}

-- one more id is lent
pub lent_more : (ids : List (Bor (List ℕ))) (i : ℕ) (d : Bor (List ℕ)) → i < length ids → lent_texts (take (i + 1) ids) ≡ lent_texts (take i ids) ++ (get_or ids i d).now ∷ []
lent_more ids i d within =
    ap lent_texts (take_more ids i d within) ∙ map-append (λ (text : Bor (List ℕ)). text.now) (take i ids) (get_or ids i d ∷ [])

pub reorder : (a e m r : Bool) → ((a || (e || false)) || (m || r)) ≡ ((e || m) || (a || r))
reorder true true m r = refl
reorder true false true r = refl
reorder true false false r = refl
reorder false true m r = refl
reorder false false true r = refl
reorder false false false r = refl

-- an id stands twice in a list with one more at its end, if it did before or if the new one is
-- there already
pub has_repeat-push : (texts : List (List ℕ)) (text : List ℕ) → has_repeat (texts ++ text ∷ []) ≡ (is_among texts text || has_repeat texts)
has_repeat-push [] text = refl
has_repeat-push (first ∷ texts) text =
    ap (λ (b : Bool). b || has_repeat (texts ++ text ∷ [])) (list_any-append (bytes_eq first) texts (text ∷ []))
    ∙ ap (λ (b : Bool). (is_among texts first || (bytes_eq first text || false)) || b) (has_repeat-push texts text)
    ∙ ap (λ (b : Bool). (is_among texts first || (b || false)) || (is_among texts text || has_repeat texts)) (nat_list_eq_equiv.symm first text)
    ∙ reorder (is_among texts first) (bytes_eq text first) (is_among texts text) (has_repeat texts)

any_kept : (p : List ℕ → Bool) (texts more : List (List ℕ)) → list_any p texts ≡ true → list_any p (texts ++ more) ≡ true
any_kept p texts more e = list_any-append p texts more ∙ ap (λ (b : Bool). b || list_any p more) e

either : (a b x y : Bool) → (a ≡ true → x ≡ true) → (b ≡ true → y ≡ true) → (a || b) ≡ true → (x || y) ≡ true
either true b x y f g e = ap (λ (c : Bool). c || y) (f refl)
either false b true y f g e = refl
either false b false y f g e = g e

-- an id that stands twice stays so
pub has_repeat_kept : (texts more : List (List ℕ)) → has_repeat texts ≡ true → has_repeat (texts ++ more) ≡ true
has_repeat_kept [] more e = cc
has_repeat_kept (text ∷ texts) more e =
    either (is_among texts text) (has_repeat texts) (is_among (texts ++ more) text) (has_repeat (texts ++ more))
    (any_kept (bytes_eq text) texts more) (has_repeat_kept texts more) e

taken : (c m : Bool) → cond c true m ≡ (m || (c || false))
taken true true = refl
taken true false = refl
taken false true = refl
taken false false = refl

-- a set of texts with one more in it
pub is_among_more : (set new : BTreeSet (Bor (List ℕ))) (key : Bor (List ℕ)) (texts : List (List ℕ))
    → Updates (λ x y. slice_cmp nat_cmp x.now y.now) set new key true
    → ((text : List ℕ) → has_text set text ≡ is_among texts text)
    → (text : List ℕ) → has_text new text ≡ is_among (texts ++ key.now ∷ []) text
is_among_more set new key texts update before text =
    let one : has_text new text ≡ cond (is_eq (slice_cmp nat_cmp key.now text)) true (has_text set text) = update.0 (record { ref_ptr = (0, 0); now = text }) in
    one
    ∙ ap (λ (b : Bool). cond b true (has_text set text)) (is_eq-slice_cmp key.now text ∙ nat_list_eq_equiv.symm key.now text)
    ∙ ap (λ (b : Bool). cond (bytes_eq text key.now) true b) (before text)
    ∙ taken (bytes_eq text key.now) (is_among texts text)
    ∙ sym (list_any-append (bytes_eq text) texts (key.now ∷ []))

-- links are known to a set as they are to its ids
pub links_known : (set : BTreeSet (Bor (List ℕ))) (ids : List (List ℕ)) → ((text : List ℕ) → has_text set text ≡ is_among ids text)
    → (links : List Link) → list_all (λ link. has_text set link.from && has_text set link.to) links ≡ list_all (is_known_link (is_among ids)) links
links_known set ids same [] = refl
links_known set ids same (link ∷ links) =
    ap (λ (b : Bool). (b && has_text set link.to) && list_all (λ l. has_text set l.from && has_text set l.to) links) (same link.from)
    ∙ ap (λ (b : Bool). (is_among ids link.from && b) && list_all (λ l. has_text set l.from && has_text set l.to) links) (same link.to)
    ∙ ap (λ (b : Bool). is_known_link (is_among ids) link && b) (links_known set ids same links)

-- binaries' packages are known to a set as they are to its ids
pub packages_known : (set : BTreeSet (Bor (List ℕ))) (ids : List (List ℕ)) → ((text : List ℕ) → has_text set text ≡ is_among ids text)
    → (binaries : List Binary) → list_all (λ it. has_text set it.package) binaries ≡ list_all (λ it. is_among ids it.package) binaries
packages_known set ids same [] = refl
packages_known set ids same (one ∷ binaries) =
    ap (λ (b : Bool). b && list_all (λ it. has_text set it.package) binaries) (same one.package)
    ∙ ap (λ (b : Bool). is_among ids one.package && b) (packages_known set ids same binaries)

-- a test of the texts that are lent
pub any_lent : (p : List ℕ → Bool) (ids : List (Bor (List ℕ))) → list_any (λ id. p id.now) ids ≡ list_any p (lent_texts ids)
any_lent p [] = refl
any_lent p (id ∷ ids) = ap (λ (b : Bool). p id.now || b) (any_lent p ids)

-- the first ids of a list, one of which stands twice
pub has_repeat_within : (ids : List (Bor (List ℕ))) (i : ℕ) → has_repeat (lent_texts (take i ids)) ≡ true → has_repeat (lent_texts ids) ≡ true
has_repeat_within ids i e =
    ap (λ (xs : List (Bor (List ℕ))). has_repeat (lent_texts xs)) (sym (take-append-drop i ids))
    ∙ ap has_repeat (map-append (λ (text : Bor (List ℕ)). text.now) (take i ids) (drop i ids))
    ∙ has_repeat_kept (lent_texts (take i ids)) (lent_texts (drop i ids)) e

-- an id that a set of the first ids has stands twice
pub stands_twice : (set : BTreeSet (Bor (List ℕ))) (ids : List (Bor (List ℕ))) (i : ℕ) (d : Bor (List ℕ)) → i < length ids
    → ((text : List ℕ) → has_text set text ≡ is_among (lent_texts (take i ids)) text) → has_text set (get_or ids i d).now ≡ true
    → has_repeat (lent_texts ids) ≡ true
stands_twice set ids i d within same found =
    has_repeat_within ids (i + 1)
    (ap has_repeat (lent_more ids i d within) ∙ has_repeat-push (lent_texts (take i ids)) (get_or ids i d).now
    ∙ ap (λ (b : Bool). b || has_repeat (lent_texts (take i ids))) (sym (same (get_or ids i d).now) ∙ found))

-- an id that a set of the first ids hasn't stands once so far
pub stands_once : (set : BTreeSet (Bor (List ℕ))) (ids : List (Bor (List ℕ))) (i : ℕ) (d : Bor (List ℕ)) → i < length ids
    → ((text : List ℕ) → has_text set text ≡ is_among (lent_texts (take i ids)) text) → has_text set (get_or ids i d).now ≡ false
    → has_repeat (lent_texts (take i ids)) ≡ false → has_repeat (lent_texts (take (i + 1) ids)) ≡ false
stands_once set ids i d within same found before =
    ap has_repeat (lent_more ids i d within) ∙ has_repeat-push (lent_texts (take i ids)) (get_or ids i d).now
    ∙ ap (λ (b : Bool). b || has_repeat (lent_texts (take i ids))) (sym (same (get_or ids i d).now) ∙ found) ∙ before

-- whether some binary's id is bad
pub bad_among : (ids : List (Bor (List ℕ))) (texts : List (List ℕ)) → lent_texts ids ≡ texts → list_any (λ id. is_bad_id id.now) ids ≡ list_any is_bad_id texts
bad_among ids texts e = any_lent is_bad_id ids ∙ ap (list_any is_bad_id) e

-- a record whose packages have ids of their own is refused by what is looked for behind them
pub behind_no_repeat : (workspace : WorkspaceRecord) (packages : List (Bor (List ℕ))) (set : BTreeSet (Bor (List ℕ)))
    → lent_texts packages ≡ package_ids workspace → has_repeat (lent_texts packages) ≡ false
    → ((text : List ℕ) → has_text set text ≡ is_among (lent_texts packages) text)
    → refusal_by (has_text set) workspace ≡ refusal_of workspace
behind_no_repeat workspace packages set of_packages once same =
    let a : has_repeat (package_ids workspace) ≡ false = ap has_repeat (sym of_packages) ∙ once in
    let b : list_all (λ link. has_text set link.from && has_text set link.to) workspace.links ≡ list_all (is_known_link (is_among (package_ids workspace))) workspace.links
    = links_known set (lent_texts packages) same workspace.links ∙ ap (λ (ids : List (List ℕ)). list_all (is_known_link (is_among ids)) workspace.links) of_packages in
    let c : list_all (λ it. has_text set it.package) workspace.binaries ≡ list_all (λ it. is_among (package_ids workspace) it.package) workspace.binaries
    = packages_known set (lent_texts packages) same workspace.binaries ∙ ap (λ (ids : List (List ℕ)). list_all (λ it. is_among ids it.package) workspace.binaries) of_packages in
    rw (a, b, c) refl
