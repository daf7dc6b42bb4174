-- The index of a table lister, and what it answers by it.
use Rattle.std.proofs.Common.{◌≡◌, ℕ, List, [], ◌∷◌, ◌++◌, Bool, true, false, cond, Option, Some, None, is_some, Err, option_map, option_copied, refl, ap, sym, ◌∙◌}
use Rattle.std.specs.Option.{option_map_or, option_or}
use Rattle.std.specs.Str.{bytes_eq}
use Rattle.std.specs.Ordering.{nat_cmp}
use Rattle.std.specs.Cmp.Lexicographic.{slice_cmp, nat_list_eq_equiv}
use Rattle.std.specs.BTreeMap.{BTreeMap, get_by, Updates}
use Rattle.std.proofs.lemmas.List.Folds.{find-append}
use Rattle.std.proofs.lemmas.Map.Text.{btree_map_updates_str}
use Rattle.std.proofs.lemmas.Slice.Eq.{bytes_eq-Decides}
use denote.Ref.{Bor}
use Rattle.test_runner_core_workspace.specs.Lister.{answer_of, table_answer, first_of_id, found_at, IsIndex}
use Rattle.test_runner_core_workspace.specs.declared.record.Binary.{Binary}
use Rattle.test_runner_core_workspace.specs.declared.record.WorkspaceRecord.{WorkspaceRecord}

-- what a look-up in the index found is what the table answers
pub answered : (index : BTreeMap (Bor (List ℕ)) (Bor Binary)) (workspace : WorkspaceRecord) → IsIndex index workspace.binaries
    → (id text : List ℕ) → text ≡ id → (found : Option (Bor (Bor Binary)))
    → option_copied found ≡ get_by (λ key. slice_cmp nat_cmp text key.now) index
    → table_answer workspace id ≡ option_map_or (λ it. answer_of it.now.now.tests) found (Err id)
answered index workspace is_index id text same found e =
    ap (λ (first : Option Binary). option_map_or (λ it. answer_of it.tests) first (Err id)) (sym (is_index id))
    ∙ ap (λ (words : List ℕ). option_map_or (λ it. answer_of it.tests) (found_at index words) (Err id)) (sym same)
    ∙ ap (λ (o : Option (Bor Binary)). option_map_or (λ it. answer_of it.tests) (option_map (λ it. it.now) o) (Err id)) (sym e)
    ∙ by_cases found
  where
    by_cases : (o : Option (Bor (Bor Binary)))
        → option_map_or (λ it. answer_of it.tests) (option_map (λ it. it.now) (option_copied o)) (Err id) ≡ option_map_or (λ it. answer_of it.now.now.tests) o (Err id)
    by_cases None = refl
    by_cases (Some it) = refl

kept : (one : Binary) (first : Option Binary) (b : Bool) → (b ≡ true → is_some first ≡ true) → first ≡ option_or first (cond b (Some one) None)
kept one (Some other) b h = refl
kept one None true h = let e : false ≡ true = h refl in cc
kept one None false h = refl

fresh : (one : Bor Binary) (before : Option (Bor Binary)) (b : Bool) → (b ≡ true → is_some before ≡ false)
    → option_map (λ it. it.now) (cond b (Some one) before) ≡ option_or (option_map (λ it. it.now) before) (cond b (Some one.now) None)
fresh one (Some other) true h = let e : true ≡ false = h refl in cc
fresh one (Some other) false h = refl
fresh one None true h = refl
fresh one None false h = refl

mapped : (o : Option (Bor Binary)) → is_some (option_map (λ it. it.now) o) ≡ is_some o
mapped None = refl
mapped (Some it) = refl

-- a binary whose id is in the index already changes nothing
pub index_kept : (index : BTreeMap (Bor (List ℕ)) (Bor Binary)) (binaries : List Binary) (one : Binary) (key : List ℕ) → key ≡ one.id
    → IsIndex index binaries → is_some (get_by (λ k. slice_cmp nat_cmp key k.now) index) ≡ true
    → IsIndex index (binaries ++ one ∷ [])
index_kept index binaries one key is_key is_index known = λ id.
    is_index id
    ∙ kept one (first_of_id binaries id) (bytes_eq id one.id)
    (λ e. let same : id ≡ key = (bytes_eq-Decides id one.id).0 e ∙ sym is_key in
    ap (λ (o : Option Binary). is_some o) (sym (is_index id)) ∙ mapped (get_by (λ k. slice_cmp nat_cmp id k.now) index)
    ∙ ap (λ (words : List ℕ). is_some (get_by (λ k. slice_cmp nat_cmp words k.now) index)) same ∙ known)
    ∙ sym (find-append (λ it. bytes_eq id it.id) binaries (one ∷ []))

-- a binary whose id isn't in the index yet goes there
pub index_more : (index new : BTreeMap (Bor (List ℕ)) (Bor Binary)) (binaries : List Binary) (key : Bor (List ℕ)) (one : Bor Binary) → key.now ≡ one.now.id
    → IsIndex index binaries → is_some (get_by (λ k. slice_cmp nat_cmp key.now k.now) index) ≡ false
    → Updates (λ x y. slice_cmp nat_cmp x.now y.now) index new key (Some one)
    → IsIndex new (binaries ++ one.now ∷ [])
index_more index new binaries key one is_key is_index unknown update = λ id.
    ap (option_map (λ it. it.now)) (btree_map_updates_str key.now index new (Some one) update id)
    ∙ fresh one (get_by (λ k. slice_cmp nat_cmp id k.now) index) (bytes_eq key.now id)
    (λ e. ap (λ (words : List ℕ). is_some (get_by (λ k. slice_cmp nat_cmp words k.now) index)) (sym ((bytes_eq-Decides key.now id).0 e)) ∙ unknown)
    ∙ ap (λ (b : Bool). option_or (found_at index id) (cond b (Some one.now) None))
    (nat_list_eq_equiv.symm key.now id ∙ ap (bytes_eq id) is_key)
    ∙ ap (λ (o : Option Binary). option_or o (cond (bytes_eq id one.now.id) (Some one.now) None)) (is_index id)
    ∙ sym (find-append (λ it. bytes_eq id it.id) binaries (one.now ∷ []))
