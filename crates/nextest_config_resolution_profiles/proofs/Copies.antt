-- Lists of copies.
use Rattle.std.proofs.Common.{◌≡◌, List, ◌∙◌}
use Rattle.std.proofs.lemmas.List.{map-id}
use Rattle.std.proofs.lemmas.Slice.Zip.{AllZip-map}
use Rattle.std.specs.List.{AllZip}

-- where each copy is what it is made of, the copies of a list are the list
pub copies_are : {X : Type 0} (xs ys : List X) → AllZip (λ x y. y ≡ x) xs ys → ys ≡ xs
copies_are xs ys each = AllZip-map (λ x. x) xs ys each ∙ map-id xs
