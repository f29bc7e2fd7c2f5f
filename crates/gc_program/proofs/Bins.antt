-- The parts that are handed to a call.
use Rattle.std.proofs.Common.{List, [], ◌∷◌, ◌++◌, map}
use Rattle.gm_model.specs.ObjState.{ObjState, IsBlank}
use Rattle.kernel.specs.Build.{AreBlank}

-- a blank part more
pub blank_more : {X : Type 0} (f : X → ObjState) (xs : List X) (x : X) → AreBlank (map f xs) → IsBlank (f x) → AreBlank (map f (xs ++ x ∷ []))
blank_more f [] x h b = (b, tt)
blank_more f (y ∷ ys) x h b = (h.0, blank_more f ys x h.1 b)
