-- The items that are left of those that were kept.
use Rattle.std.proofs.Common.{◌≡◌, ℕ, suc, zero, ◌+◌, ◌≤◌, ◌<◌, refl, sym, ◌∙◌, ap, arith, add-one, List, [], ◌∷◌, ◌++◌, length, drop, map}
use Rattle.std.proofs.Math.ListN.{drop_of_length-le}
use Rattle.std.proofs.lemmas.List.{drop-append-le, drop-map, length-append, length-drop, length-map, map-append}
use Rattle.gm_model.specs.Deliver.{Item}
use Rattle.obj_core.specs.Out.{item_of, items_from}
use Rattle.obj_core.specs.declared.item.Item.{Item as KeptItem}

drop_one : (t : ℕ) (xs : List KeptItem) → drop 1 (drop t xs) ≡ drop (suc t) xs
drop_one zero [] = refl
drop_one zero (x ∷ xs) = refl
drop_one (suc t) [] = refl
drop_one (suc t) (x ∷ xs) = drop_one t xs

-- one more was taken out
pub items_next : (t : ℕ) (xs : List KeptItem) → drop 1 (items_from t xs) ≡ items_from (t + 1) xs
items_next t xs = rw add-one (drop-map item_of 1 (drop t xs) ∙ ap (λ ys. map item_of ys) (drop_one t xs))

-- and no other is left
pub items_last : (t : ℕ) (xs : List KeptItem) → length xs ≤ t + 1 → drop 1 (items_from t xs) ≡ []
items_last t xs l = items_next t xs ∙ ap (λ ys. map item_of ys) (drop_of_length-le xs l)

-- one more was kept
pub items_more : (t : ℕ) (xs : List KeptItem) (x : KeptItem) → t ≤ length xs → items_from t (xs ++ x ∷ []) ≡ items_from t xs ++ item_of x ∷ []
items_more t xs x l = ap (λ ys. map item_of ys) (drop-append-le t xs (x ∷ []) l) ∙ map-append item_of (drop t xs) (x ∷ [])

-- how many are left
pub items_count : (t : ℕ) (xs : List KeptItem) → t ≤ length xs → length (items_from t xs) + t ≡ length xs
items_count t xs l = rw length-map (omega (arith, length-drop t xs))
