-- Laws for callers that make several calls in a row: what was told of them together, and that a count which rose stays so.
use Rattle.std.specs.Prelude.{◌≡◌, ℕ, ◌≤◌, List, [], ◌++◌, Option, Some, None}
use Rattle.std.proofs.Common.{refl, sym, ◌∙◌, ap, arith, append_assoc, append-nil, take, drop, take-append-drop}
use Rattle.gc_outside.specs.Faults.{Rose}
use Rattle.gc_outside.specs.Told.{Told}
use Rattle.gc_outside.specs.Sink.{Appends, AppendsFront}

-- one list after another is their joining
Appends-append : (xs ys a b c : List ℕ) → Appends xs a b → Appends ys b c → Appends (xs ++ ys) a c
Appends-append xs ys a b c first second = second ∙ ap (λ l. l ++ ys) first ∙ append_assoc a xs ys

-- one list and then a front of another is a front of their joining
AppendsFront-append : (xs ys a b c : List ℕ) → Appends xs a b → AppendsFront ys b c → AppendsFront (xs ++ ys) a c
AppendsFront-append xs ys a b c first second =
    (xs ++ second.0, second.1, ap (λ l. xs ++ l) second.2 ∙ sym (append_assoc xs second.0 second.1), second.3 ∙ ap (λ l. l ++ second.0) first ∙ append_assoc a xs second.0)

-- nothing was appended
pub told_appends_nothing : (a : Option (List ℕ)) → Told (Appends []) a a
told_appends_nothing None = tt
told_appends_nothing (Some a) = sym (append-nil a)

-- two appendings are one
pub told_appends : (xs ys : List ℕ) (a b c : Option (List ℕ)) → Told (Appends xs) a b → Told (Appends ys) b c → Told (Appends (xs ++ ys)) a c
told_appends xs ys a b None first second = tt
told_appends xs ys None None (Some c) first second = absurd second
told_appends xs ys None (Some b) (Some c) first second = absurd first
told_appends xs ys (Some a) None (Some c) first second = absurd second
told_appends xs ys (Some a) (Some b) (Some c) first second = Appends-append xs ys a b c first second

-- an appending and then a front are a front
pub told_appends_front : (xs ys : List ℕ) (a b c : Option (List ℕ)) → Told (Appends xs) a b → Told (AppendsFront ys) b c → Told (AppendsFront (xs ++ ys)) a c
told_appends_front xs ys a b None first second = tt
told_appends_front xs ys None None (Some c) first second = absurd second
told_appends_front xs ys None (Some b) (Some c) first second = absurd first
told_appends_front xs ys (Some a) None (Some c) first second = absurd second
told_appends_front xs ys (Some a) (Some b) (Some c) first second = AppendsFront-append xs ys a b c first second

-- a front of some bytes is a front of more
pub told_front_of_more : (ys zs : List ℕ) (a b : Option (List ℕ)) → Told (AppendsFront ys) a b → Told (AppendsFront (ys ++ zs)) a b
told_front_of_more ys zs a None front = tt
told_front_of_more ys zs None (Some b) front = absurd front
told_front_of_more ys zs (Some a) (Some b) front =
    (front.0, front.1 ++ zs, ap (λ l. l ++ zs) front.2 ∙ append_assoc front.0 front.1 zs, front.3)

-- all of some bytes is a front of them
pub told_whole_is_front : (xs : List ℕ) (a b : Option (List ℕ)) → Told (Appends xs) a b → Told (AppendsFront xs) a b
told_whole_is_front xs a None whole = tt
told_whole_is_front xs None (Some b) whole = absurd whole
told_whole_is_front xs (Some a) (Some b) whole = (xs, [], sym (append-nil xs), whole)

-- a count that rose had risen from any lower one
pub rose_later : (a b c : ℕ) → a ≤ b → Rose b c → Rose a c
rose_later a b c below rose = omega arith

-- a count that rose stays so as it grows
pub rose_earlier : (a b c : ℕ) → Rose a b → b ≤ c → Rose a c
rose_earlier a b c rose below = omega arith

-- nothing is a front
pub nothing_is_front : (xs a b : List ℕ) → b ≡ a → AppendsFront xs a b
nothing_is_front xs a b same = ([], xs, refl, same ∙ sym (append-nil a))

-- the first bytes are a front
pub fitting_is_front : (k : ℕ) (xs a b : List ℕ) → b ≡ a ++ take k xs → AppendsFront xs a b
fitting_is_front k xs a b fitting = (take k xs, drop k xs, sym (take-append-drop k xs), fitting)
